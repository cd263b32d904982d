-- Along a run each ring that waits is asked for or looked at.
use Rattle.std.proofs.Common.{◌≡◌, ℕ, ◌^◌, nat_lt, Bool, true, false, List, [], ◌∷◌, if◌then◌else◌, refl, ap, sym, subst, inl, inr, is_some}
use Rattle.vhost_user.specs.Features.{access_platform, has}
use Rattle.vhost_user.specs.Log.{log_kept}
use Rattle.vhost_backend.proofs.TendStepLemmas.{answered_tends, gone_on_tends, steps_tend, told_tends}
use Rattle.vhost_backend.proofs.TendTableLemmas.{changes_tend, hung_up_tends, memory_tends}
use Rattle.vhost_backend.proofs.TendTurnLemmas.{looks_tend}
use Rattle.vhost_backend.specs.BlockBackend.{hung_up}
use Rattle.vhost_backend.specs.BlockConnection.{as_negotiated, is_covered, looked_after, pages_in, with_backend}
use Rattle.vhost_backend.specs.BlockTable.{memory_lost}
use Rattle.vhost_backend.specs.ConnectionMemory.{emptied, memory_step, table_step, with_behind, with_pages, way_of}
use Rattle.vhost_backend.specs.GoesOn.{Tends}
use Rattle.vhost_backend.specs.Rings.{all_stopped}
use Rattle.vhost_backend.specs.Run.{Applies, Course, EventBy, Fills, Follows, GivesBy, LooksBy, Move, MoveBy, Moves, Output, Rests, StepsTo, Stops, after_sent, after_stop, does, end_of, end_taken, gives_marks, gives_part, goes_on, looked, looks, loses, open_part, part_ended, takes_end, takes_turn}
use Rattle.vhost_backend.specs.declared.block.BlockStep.{BlockStep}
use Rattle.vhost_backend.specs.declared.block_connection.BlockConnection.{BlockConnection}
use Rattle.vhost_backend.specs.declared.deeds.Deed.{Deed}
use Rattle.vhost_backend.specs.declared.deeds.Deed.TheVariants as deed
use Rattle.vhost_backend.specs.declared.deeds.Made.{Made}
use Rattle.vhost_backend.specs.declared.deeds.Made.TheVariants as made
use Rattle.vhost_backend.specs.declared.deeds.Why.TheVariants.{Log}
use Rattle.vhost_backend.specs.declared.request.PartEnd.TheVariants.{Failed}
use Rattle.vhost_backend.specs.declared.ring.RingEvent.TheVariants.{Ended}
use Rattle.vhost_backend.specs.declared.rings.Event.TheVariants as event
use Rattle.vhost_backend.specs.declared.rows.EndRow.{EndRow}

abbrev TendsIn : BlockConnection → Type 0
TendsIn c = Tends c.backend

same : (c d : BlockConnection) → c ≡ d → TendsIn d → TendsIn c
same c d is tend = subst TendsIn (sym is) tend

-- ---- after a message was finished

log_tends : (c : BlockConnection) → TendsIn c → TendsIn (as_negotiated c)
log_tends c tend = go (is_covered c.backend.backend.connection)
  where
    logs : BlockConnection
    logs = record c {
      memory = with_behind (with_pages c.memory (record c.memory.logged.pages {
        pages = pages_in (log_kept c.backend.backend.connection);
      })) (has c.backend.backend.connection.features access_platform);
    }

    go : (v : Bool) → Tends (if v then logs else with_backend logs (hung_up logs.backend Log)).backend
    go true = tend
    go false = hung_up_tends c.backend Log tend

after_tends : (c : BlockConnection) → TendsIn c → TendsIn (looked_after c)
after_tends c tend = go c.backend.finished
  where
    seen : BlockConnection
    seen = with_backend c (record c.backend { finished = false })

    go : (v : Bool) → Tends (if v then as_negotiated seen else seen).backend
    go true = log_tends seen tend
    go false = tend

-- ---- what is given

step_tends : (c c' : BlockConnection) (m : Made) → StepsTo c m c' → TendsIn c → TendsIn c'
step_tends c c' m (steps, is) tend =
    steps_tend (memory_step c.memory) c.backend c.memory.logged m c'.backend c'.memory.logged steps tend

open_tends : (c : BlockConnection) (ring id : ℕ) (part : BlockStep) (left : ℕ) (v : Bool) → TendsIn c
    → TendsIn (open_part c ring id part left v)
open_tends c ring id part left true tend = tend
open_tends c ring id part left false tend = tend

stop_tends : (c : BlockConnection) → TendsIn c → TendsIn (after_stop c)
stop_tends c tend = go (all_stopped c.backend.backend.rings)
  where
    go : (v : Bool)
        → TendsIn (if v then record c { memory = emptied c.memory; backend = memory_lost c.backend } else c)
    go true = memory_tends c.backend tend
    go false = tend

apply_tends : (c c' : BlockConnection) → Applies c c' → TendsIn c → TendsIn c'
apply_tends c c' (n, w, t, logged, changes, evicts, is) tend = same c' _ is (answered_tends w (is_some n)
    (changes_tend (table_step c.memory) c.backend c.memory.table c.memory.logged (is_some n) w t logged changes tend))

follow_tends : (c c' : BlockConnection) (d : Deed) → Follows (after_sent d c) d c' → TendsIn c → TendsIn c'
follow_tends c c' deed.Send is tend = same c' _ is tend
follow_tends c c' deed.UnmapAll is tend = same c' _ is (memory_tends c.backend tend)
follow_tends c c' (deed.Map region descriptor) is tend = same c' _ is tend
follow_tends c c' deed.Join (m, v, joins, is) tend = same c' _ is (answered_tends c.backend v tend)
follow_tends c c' (deed.Log size offset) is tend = same c' _ is tend
follow_tends c c' (deed.File size) is tend = same c' _ is tend
follow_tends c c' (deed.Region size offset) is tend = same c' _ is tend
follow_tends c c' (deed.Keep p v) is tend = same c' _ is tend
follow_tends c c' (deed.Part ring id part left) (v, lies, is) tend =
    same c' _ is (open_tends c ring id part left v tend)
follow_tends c c' (deed.Interrupt ring) is tend = same c' _ is tend
follow_tends c c' (deed.Tell ring) is tend = same c' _ is tend
follow_tends c c' (deed.Stopped ring) is tend = same c' _ is (stop_tends c tend)
follow_tends c c' (deed.End y) is tend = same c' _ is tend
follow_tends c c' deed.Table applies tend = apply_tends c c' applies tend
follow_tends c c' (deed.Ask miss) is tend = same c' _ is tend

gives_tend : (c c' : BlockConnection) (m : Move) → GivesBy c m c' → TendsIn c → TendsIn c'
gives_tend c c' (gives_marks range) (l, takes, is) tend = same c' _ is tend
gives_tend c c' (gives_part p pieces to) (may, at, gives) tend = same c' _ gives.2 tend
gives_tend c c' (does d bytes) (may, none, (mid, steps, sent, follows)) tend =
    follow_tends mid c' d follows (step_tends c mid (made.Deed d) steps tend)
gives_tend c c' goes_on (may, none, steps) tend = step_tends c c' made.Again steps tend
gives_tend c c' loses none tend = absurd none
gives_tend c c' (takes_end e) none tend = absurd none
gives_tend c c' looks none tend = absurd none
gives_tend c c' takes_turn none tend = absurd none

-- ---- events

look_tends : (c c' : BlockConnection) (v : Bool) → LooksBy c v c' → TendsIn c → TendsIn c'
look_tends c c' v (by, is) tend = looks_tend (memory_step c.memory) (way_of c.memory c.backend) c.backend c.memory.logged v
    c'.backend c'.memory.logged by tend

end_tends : (c : BlockConnection) (e : EndRow) → TendsIn c → TendsIn (end_taken c e)
end_tends c e tend = go (nat_lt e.id (2 ^ 16))
  where
    go : (v : Bool) → TendsIn (if v then part_ended c e.ring e.id (end_of e) else c)
    go true = told_tends c.backend (event.Ring e.ring (Ended e.id (end_of e))) (λ i. refl) tend
    go false = tend

event_tends : (c d : Course) (m : Move) → EventBy c m d → TendsIn c.connection → TendsIn d.connection
event_tends c d loses (lost, at, is) tend = same d.connection _ (ap (λ (v : Course). v.connection) is)
    (told_tends c.connection.backend (event.Ring lost.0 (Ended lost.1 Failed)) (λ i. refl) tend)
event_tends c d (takes_end e) (none, ends, is) tend =
    same d.connection _ (ap (λ (v : Course). v.connection) is) (end_tends c.connection e tend)
event_tends c d looks (none, ends, by, is) tend = look_tends c.connection d.connection true by tend
event_tends c d takes_turn (mid, none, ends, by, next, turns, is) tend =
    same d.connection _ (ap (λ (v : Course). v.connection) is)
    (gone_on_tends mid.backend (look_tends c.connection mid false by tend))
event_tends c d (gives_marks range) none tend = absurd none
event_tends c d (gives_part p pieces to) none tend = absurd none
event_tends c d (does deed bytes) none tend = absurd none
event_tends c d goes_on none tend = absurd none

-- ---- moves and runs

pub move_tends : (c d : Course) (m : Move) → MoveBy c m d → TendsIn c.connection → TendsIn d.connection
move_tends c d m (inl (mid, gives, is)) tend = same d.connection _ (ap (λ (v : Course). v.connection) is)
    (after_tends mid (gives_tend c.connection mid m gives tend))
move_tends c d m (inr (quiet, event)) tend = event_tends (looked c) d m event (after_tends c.connection tend)

pub moves_tend : (c d : Course) (ms : List Move) → Moves c ms d → TendsIn c.connection → TendsIn d.connection
moves_tend c d [] is tend = same d.connection _ (ap (λ (v : Course). v.connection) is) tend
moves_tend c d (m ∷ ms) (mid, first, rest) tend = moves_tend mid d ms rest (move_tends c mid m first tend)

rests_tend : (c d : Course) → Rests (looked c) d → TendsIn c.connection → TendsIn d.connection
rests_tend c d (none, ends, by, turns, is) tend =
    look_tends (looked_after c.connection) d.connection false by (after_tends c.connection tend)

stops_tend : (c d : Course) (ms : List Move) (o : Output) (v : Bool) → Stops c ms o v d → TendsIn c.connection
    → TendsIn d.connection
stops_tend c d ms o false (quiet, rests) tend = rests_tend c d rests tend
stops_tend c d ms o true (inl (full, is)) tend =
    same d.connection _ (ap (λ (v : Course). v.connection) is) (after_tends c.connection tend)
stops_tend c d ms o true (inr (all, is)) tend = same d.connection _ (ap (λ (v : Course). v.connection) is) tend

pub fills_tend : (c d : Course) (o o' : Output) (v : Bool) → Fills c o v d o' → TendsIn c.connection
    → TendsIn d.connection
fills_tend c d o o' v (ms, last, moves, puts, stops) tend =
    stops_tend last d ms o' v stops (moves_tend c last ms moves tend)
