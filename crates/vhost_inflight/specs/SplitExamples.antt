-- A back end that is cut off, on a ring of four.
use Rattle.std.specs.Prelude.{List, [], ◌∷◌, replicate}
use Rattle.vhost_inflight.specs.Split.{SplitRegion}
use Rattle.vhost_inflight.specs.SplitCrash.{Cut, Event, Pop, Return, Start, Whole, World, at_first, run}

-- no back end has written it
abbrev pub fresh : SplitRegion
fresh = record {
  version = 0;
  desc_num = 0;
  last_batch_head = 0;
  used_idx = 0;
  entries = replicate 4 (record { in_flight = 0; next = 0; counter = 0 });
}

-- 3, 0 and 2 are popped, and the return of 0 is cut after the store of the ring's used index
abbrev pub events : List Event
events = Whole Start ∷ Whole (Pop 3) ∷ Whole (Pop 0) ∷ Whole (Pop 2) ∷ Cut (Return 0) 4 ∷ []

-- the ring began at 65535
abbrev pub cut_off : World
cut_off = run 4 4 (at_first fresh 65535) events

-- the start after it is cut after its first store
abbrev pub cut_off_again : World
cut_off_again = run 4 4 cut_off (Cut Start 1 ∷ [])
