-- A back end of a packed queue that is cut off, on a ring of two.
use Rattle.std.specs.Prelude.{ℕ, false, List, [], ◌∷◌, replicate}
use Rattle.vhost_inflight.specs.Packed.{PackedRegion, no_entry}
use Rattle.vhost_inflight.specs.PackedCrash.{Cut, Event, Pop, Publish, Return, Start, Whole, World, at_first, run}
use Rattle.vhost_inflight.specs.declared.packed_region.PackedCopy.{PackedCopy}
use Rattle.vhost_inflight.specs.declared.packed_region.PackedPosition.{PackedPosition}

abbrev none : PackedPosition
none = record { slot = 0; wrap = false }

-- no back end has written it
abbrev pub fresh : PackedRegion
fresh = record {
  header = record { version = 0; desc_num = 0; free_head = 0; old_free_head = 0; used = none; old_used = none };
  entries = replicate 2 no_entry;
}

-- a chain of one descriptor with an id
abbrev pub chain : ℕ → List PackedCopy
chain id = record { id = id; flags = 128; len = 512; addr = 4096 } ∷ []

-- 7 and 5 are popped, and the return of 7, whose entry is 0, is cut after the store of the used descriptor's flags
abbrev pub events : List Event
events = Publish ∷ Publish ∷ Whole Start ∷ Whole (Pop (chain 7)) ∷ Whole (Pop (chain 5)) ∷ Cut (Return 0) 5 ∷ []

abbrev pub cut_off : World
cut_off = run 2 2 0 (at_first fresh (λ s. 0) 0) events
