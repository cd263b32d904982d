-- Each move of a run is something that happens to the connection, or nothing, and so is each run.
use Rattle.std.proofs.Common.{◌≡◌, ℕ, ◌^◌, nat_lt, Bool, true, false, List, [], ◌∷◌, if◌then◌else◌, ap, inl, inr, is_some}
use Rattle.vhost_backend.specs.BlockBackend.{gone_on, answered}
use Rattle.vhost_backend.specs.BlockConnection.{looked_after, with_backend}
use Rattle.vhost_backend.specs.BlockTable.{memory_lost}
use Rattle.vhost_backend.specs.ConnectionMemory.{emptied, memory_step, table_step, way_of}
use Rattle.vhost_backend.specs.Rings.{all_stopped}
use Rattle.vhost_backend.specs.Run.{Applies, Course, EventBy, Fills, Follows, GivesBy, LooksBy, Move, MoveBy, Moves, Output, Rests, StepsTo, Stops, after_sent, after_stop, does, end_of, end_taken, gives_marks, gives_part, goes_on, looked, looks, loses, open_part, part_ended, takes_end, takes_turn}
use Rattle.vhost_backend.specs.Whole.{Leads}
use Rattle.vhost_backend.specs.declared.block.BlockStep.{BlockStep}
use Rattle.vhost_backend.specs.declared.block_connection.BlockConnection.{BlockConnection}
use Rattle.vhost_backend.specs.declared.deeds.Deed.{Deed}
use Rattle.vhost_backend.specs.declared.deeds.Deed.TheVariants as deed
use Rattle.vhost_backend.specs.declared.deeds.Made.{Made}
use Rattle.vhost_backend.specs.declared.deeds.Made.TheVariants as made
use Rattle.vhost_backend.specs.declared.request.PartEnd.TheVariants.{Failed}
use Rattle.vhost_backend.specs.declared.ring.RingEvent.TheVariants.{Ended}
use Rattle.vhost_backend.specs.declared.rings.Event.TheVariants as event
use Rattle.vhost_backend.specs.declared.rows.EndRow.{EndRow}
use Rattle.vhost_backend.proofs.ConnectionLemmas.{leads_on, looked_after_leads}
use Rattle.vhost_backend.proofs.WholeLemmas.{answered_leads, changes_lead, gone_on_leads, leads_by, looks_leads, memory_leads, stays, steps_leads, told_leads}

abbrev Becomes : BlockConnection → BlockConnection → Type 0
Becomes c c' = Leads c.backend.backend c'.backend.backend

same : (c c' d : BlockConnection) → c' ≡ d → Becomes c d → Becomes c c'
same c c' d is leads = leads_by (ap (λ (v : BlockConnection). v.backend.backend) is) leads

on : (a b c : BlockConnection) → Becomes a b → Becomes b c → Becomes a c
on a b c = leads_on a.backend.backend b.backend.backend c.backend.backend

step_leads : (c c' : BlockConnection) (m : Made) → StepsTo c m c' → Becomes c c'
step_leads c c' m (steps, is) =
    steps_leads (memory_step c.memory) c.backend c.memory.logged m c'.backend c'.memory.logged steps

look_leads : (c c' : BlockConnection) (v : Bool) → LooksBy c v c' → Becomes c c'
look_leads c c' v (by, is) =
    looks_leads (memory_step c.memory) (way_of c.memory c.backend) c.backend c.memory.logged v c'.backend c'.memory.logged by

open_leads : (c : BlockConnection) (ring id : ℕ) (part : BlockStep) (left : ℕ) (v : Bool)
    → Becomes c (open_part c ring id part left v)
open_leads c ring id part left true = stays c.backend.backend
open_leads c ring id part left false = stays c.backend.backend

stop_leads : (c : BlockConnection) → Becomes c (after_stop c)
stop_leads c = go (all_stopped c.backend.backend.rings)
  where
    go : (v : Bool)
        → Becomes c (if v then record c { memory = emptied c.memory; backend = memory_lost c.backend } else c)
    go true = memory_leads c.backend
    go false = stays c.backend.backend

apply_leads : (c c' : BlockConnection) → Applies c c' → Becomes c c'
apply_leads c c' (n, w, t, logged, changes, evicts, is) =
    same c c' _ is (leads_on c.backend.backend w.backend (answered w (is_some n)).backend
    (changes_lead (table_step c.memory) c.backend c.memory.table c.memory.logged (is_some n) w t logged changes)
    (answered_leads w (is_some n)))

follow_leads : (c c' : BlockConnection) (d : Deed) → Follows (after_sent d c) d c' → Becomes c c'
follow_leads c c' deed.Send is = same c c' _ is (stays c.backend.backend)
follow_leads c c' deed.UnmapAll is = same c c' _ is (memory_leads c.backend)
follow_leads c c' (deed.Map region descriptor) is = same c c' _ is (stays c.backend.backend)
follow_leads c c' deed.Join (m, v, joins, is) = same c c' _ is (answered_leads c.backend v)
follow_leads c c' (deed.Log size offset) is = same c c' _ is (stays c.backend.backend)
follow_leads c c' (deed.File size) is = same c c' _ is (stays c.backend.backend)
follow_leads c c' (deed.Region size offset) is = same c c' _ is (stays c.backend.backend)
follow_leads c c' (deed.Keep p v) is = same c c' _ is (stays c.backend.backend)
follow_leads c c' (deed.Part ring id part left) (v, lies, is) = same c c' _ is (open_leads c ring id part left v)
follow_leads c c' (deed.Interrupt ring) is = same c c' _ is (stays c.backend.backend)
follow_leads c c' (deed.Tell ring) is = same c c' _ is (stays c.backend.backend)
follow_leads c c' (deed.Stopped ring) is = same c c' _ is (stop_leads c)
follow_leads c c' (deed.End y) is = same c c' _ is (stays c.backend.backend)
follow_leads c c' deed.Table applies = apply_leads c c' applies
follow_leads c c' (deed.Ask miss) is = same c c' _ is (stays c.backend.backend)

gives_leads : (c c' : BlockConnection) (m : Move) → GivesBy c m c' → Becomes c c'
gives_leads c c' (gives_marks range) (l, takes, is) = same c c' _ is (stays c.backend.backend)
gives_leads c c' (gives_part p pieces to) (may, at, gives) = same c c' _ gives.2 (stays c.backend.backend)
gives_leads c c' (does d bytes) (may, none, (mid, steps, sent, follows)) =
    on c mid c' (step_leads c mid (made.Deed d) steps) (follow_leads mid c' d follows)
gives_leads c c' goes_on (may, none, steps) = step_leads c c' made.Again steps
gives_leads c c' loses none = absurd none
gives_leads c c' (takes_end e) none = absurd none
gives_leads c c' looks none = absurd none
gives_leads c c' takes_turn none = absurd none

end_leads : (c : BlockConnection) (e : EndRow) → Becomes c (end_taken c e)
end_leads c e = go (nat_lt e.id (2 ^ 16))
  where
    go : (v : Bool) → Becomes c (if v then part_ended c e.ring e.id (end_of e) else c)
    go true = told_leads c.backend (event.Ring e.ring (Ended e.id (end_of e)))
    go false = stays c.backend.backend

event_leads : (c d : Course) (m : Move) → EventBy c m d → Becomes c.connection d.connection
event_leads c d loses (lost, at, is) = same c.connection d.connection _ (ap (λ (v : Course). v.connection) is)
    (told_leads c.connection.backend (event.Ring lost.0 (Ended lost.1 Failed)))
event_leads c d (takes_end e) (none, ends, is) =
    same c.connection d.connection _ (ap (λ (v : Course). v.connection) is) (end_leads c.connection e)
event_leads c d looks (none, ends, by, is) = look_leads c.connection d.connection true by
event_leads c d takes_turn (mid, none, ends, by, next, turns, is) =
    same c.connection d.connection _ (ap (λ (v : Course). v.connection) is)
    (on c.connection mid (with_backend mid (gone_on mid.backend)) (look_leads c.connection mid false by)
    (gone_on_leads mid.backend))
event_leads c d (gives_marks range) none = absurd none
event_leads c d (gives_part p pieces to) none = absurd none
event_leads c d (does deed bytes) none = absurd none
event_leads c d goes_on none = absurd none

move_leads : (c d : Course) (m : Move) → MoveBy c m d → Becomes c.connection d.connection
move_leads c d m (inl (mid, gives, is)) =
    same c.connection d.connection _ (ap (λ (v : Course). v.connection) is)
    (on c.connection mid (looked_after mid) (gives_leads c.connection mid m gives) (looked_after_leads mid))
move_leads c d m (inr (quiet, event)) = on c.connection (looked_after c.connection) d.connection
    (looked_after_leads c.connection) (event_leads (looked c) d m event)

pub moves_lead : (c d : Course) (ms : List Move) → Moves c ms d → Becomes c.connection d.connection
moves_lead c d [] is = same c.connection d.connection _ (ap (λ (v : Course). v.connection) is) (stays c.connection.backend.backend)
moves_lead c d (m ∷ ms) (mid, first, rest) =
    on c.connection mid.connection d.connection (move_leads c mid m first) (moves_lead mid d ms rest)

looked_leads : (c d : Course) → d ≡ looked c → Becomes c.connection d.connection
looked_leads c d is =
    same c.connection d.connection _ (ap (λ (v : Course). v.connection) is) (looked_after_leads c.connection)

rests_lead : (c d : Course) → Rests (looked c) d → Becomes c.connection d.connection
rests_lead c d (none, ends, by, turns, is) = on c.connection (looked_after c.connection) d.connection
    (looked_after_leads c.connection) (look_leads (looked_after c.connection) d.connection false by)

stops_lead : (c d : Course) (ms : List Move) (o : Output) (v : Bool) → Stops c ms o v d
    → Becomes c.connection d.connection
stops_lead c d ms o false (quiet, rests) = rests_lead c d rests
stops_lead c d ms o true (inl (full, is)) = looked_leads c d is
stops_lead c d ms o true (inr (all, is)) =
    same c.connection d.connection _ (ap (λ (v : Course). v.connection) is) (stays c.connection.backend.backend)

-- so is a run
pub fills_lead : (c d : Course) (o o' : Output) (v : Bool) → Fills c o v d o' → Becomes c.connection d.connection
fills_lead c d o o' v (ms, last, moves, puts, stops) = on c.connection last.connection d.connection
    (moves_lead c last ms moves) (stops_lead last d ms o' v stops)
