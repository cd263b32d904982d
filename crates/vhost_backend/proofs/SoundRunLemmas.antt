-- Along a run the queues have what rings have under way, and what is to be returned.
use Rattle.std.proofs.Common.{◌≡◌, ℕ, ◌^◌, nat_lt, Bool, true, false, List, [], ◌∷◌, if◌then◌else◌, refl, ap, sym, subst, inl, inr, is_some}
use Rattle.vhost_user.specs.Features.{access_platform, has}
use Rattle.vhost_user.specs.Log.{log_kept}
use Rattle.vhost_backend.specs.BlockBackend.{hung_up}
use Rattle.vhost_backend.specs.BlockConnection.{as_negotiated, is_covered, looked_after, pages_in, with_backend}
use Rattle.vhost_backend.specs.BlockTable.{memory_lost}
use Rattle.vhost_backend.specs.ConnectionMemory.{emptied, memory_step, table_step, with_behind, with_pages, way_of}
use Rattle.vhost_backend.specs.Rings.{all_stopped}
use Rattle.vhost_backend.specs.Run.{Applies, Course, EventBy, Fills, Follows, GivesBy, LooksBy, Move, MoveBy, Moves, Output, Rests, StepsTo, Stops, after_sent, after_stop, does, end_of, end_taken, gives_marks, gives_part, goes_on, looked, looks, loses, open_part, part_ended, takes_end, takes_turn}
use Rattle.vhost_backend.specs.Sound.{IsClear, Sound}
use Rattle.vhost_backend.specs.declared.block.BlockStep.{BlockStep}
use Rattle.vhost_backend.specs.declared.block_backend.BlockBackend.{BlockBackend}
use Rattle.vhost_backend.specs.declared.block_connection.BlockConnection.{BlockConnection}
use Rattle.vhost_backend.specs.declared.deeds.Deed.{Deed}
use Rattle.vhost_backend.specs.declared.deeds.Deed.TheVariants as deed
use Rattle.vhost_backend.specs.declared.deeds.Made.{Made}
use Rattle.vhost_backend.specs.declared.deeds.Made.TheVariants as made
use Rattle.vhost_backend.specs.declared.deeds.Why.TheVariants.{Log}
use Rattle.vhost_backend.specs.declared.request.PartEnd.TheVariants.{Failed}
use Rattle.vhost_backend.specs.declared.ring.RingEvent.TheVariants.{Ended}
use Rattle.vhost_backend.specs.declared.rings.Event.TheVariants as event
use Rattle.vhost_backend.specs.declared.rows.EndRow.{EndRow}
use Rattle.vhost_backend.proofs.IdleLemmas.{done_clear, hung_up_clear, looked_clear}
use Rattle.vhost_backend.proofs.SoundLemmas.{answered_sound, changes_sound, gone_on_sound, hung_up_sound, memory_sound, told_sound}
use Rattle.vhost_backend.proofs.SoundStepLemmas.{steps_sound}
use Rattle.vhost_backend.proofs.SoundTurnLemmas.{looks_sound}

abbrev IsSound : BlockConnection → Type 0
IsSound c = Sound c.backend

same : (c d : BlockConnection) → c ≡ d → IsSound d → IsSound c
same c d is sound = subst IsSound (sym is) sound

-- ---- after a message was finished

module _ (P : BlockBackend → Type 0) (over : (w : BlockBackend) → P w → P (hung_up w Log))
    (saw : (w : BlockBackend) → P w → P (record w { finished = false })) where
  log_keeps : (c : BlockConnection) → P c.backend → P (as_negotiated c).backend
  log_keeps c p = go (is_covered c.backend.backend.connection)
    where
      logs : BlockConnection
      logs = record c {
        memory = with_behind (with_pages c.memory (record c.memory.logged.pages {
          pages = pages_in (log_kept c.backend.backend.connection);
        })) (has c.backend.backend.connection.features access_platform);
      }

      go : (v : Bool) → P (if v then logs else with_backend logs (hung_up logs.backend Log)).backend
      go true = p
      go false = over c.backend p

  looked_after_keeps : (c : BlockConnection) → P c.backend → P (looked_after c).backend
  looked_after_keeps c p = go c.backend.finished
    where
      seen : BlockConnection
      seen = with_backend c (record c.backend { finished = false })

      go : (v : Bool) → P (if v then as_negotiated seen else seen).backend
      go true = log_keeps seen (saw c.backend p)
      go false = saw c.backend p

after_sound : (c : BlockConnection) → IsSound c → IsSound (looked_after c)
after_sound c sound = looked_after_keeps Sound (λ w s. hung_up_sound w Log s) (λ w s. s) c sound

after_clear : (c : BlockConnection) → IsClear c.backend → IsClear (looked_after c).backend
after_clear c clear = looked_after_keeps IsClear (λ w s. hung_up_clear w Log s) (λ w s. s) c clear

-- ---- what is given

step_sound : (c c' : BlockConnection) (m : Made) → StepsTo c m c' → IsSound c → IsSound c'
step_sound c c' m (steps, is) sound =
    steps_sound (memory_step c.memory) c.backend c.memory.logged m c'.backend c'.memory.logged steps sound

open_sound : (c : BlockConnection) (ring id : ℕ) (part : BlockStep) (left : ℕ) (v : Bool) → IsSound c
    → IsSound (open_part c ring id part left v)
open_sound c ring id part left true sound = sound
open_sound c ring id part left false sound = sound

stop_sound : (c : BlockConnection) → IsSound c → IsSound (after_stop c)
stop_sound c sound = go (all_stopped c.backend.backend.rings)
  where
    go : (v : Bool)
        → IsSound (if v then record c { memory = emptied c.memory; backend = memory_lost c.backend } else c)
    go true = memory_sound c.backend sound
    go false = sound

apply_sound : (c c' : BlockConnection) → Applies c c' → IsSound c → IsSound c'
apply_sound c c' (n, w, t, logged, changes, evicts, is) sound = same c' _ is (answered_sound w (is_some n)
    (changes_sound (table_step c.memory) c.backend c.memory.table c.memory.logged (is_some n) w t logged changes
    sound))

follow_sound : (c c' : BlockConnection) (d : Deed) → Follows (after_sent d c) d c' → IsSound c → IsSound c'
follow_sound c c' deed.Send is sound = same c' _ is sound
follow_sound c c' deed.UnmapAll is sound = same c' _ is (memory_sound c.backend sound)
follow_sound c c' (deed.Map region descriptor) is sound = same c' _ is sound
follow_sound c c' deed.Join (m, v, joins, is) sound = same c' _ is (answered_sound c.backend v sound)
follow_sound c c' (deed.Log size offset) is sound = same c' _ is sound
follow_sound c c' (deed.File size) is sound = same c' _ is sound
follow_sound c c' (deed.Region size offset) is sound = same c' _ is sound
follow_sound c c' (deed.Keep p v) is sound = same c' _ is sound
follow_sound c c' (deed.Part ring id part left) (v, lies, is) sound =
    same c' _ is (open_sound c ring id part left v sound)
follow_sound c c' (deed.Interrupt ring) is sound = same c' _ is sound
follow_sound c c' (deed.Tell ring) is sound = same c' _ is sound
follow_sound c c' (deed.Stopped ring) is sound = same c' _ is (stop_sound c sound)
follow_sound c c' (deed.End y) is sound = same c' _ is sound
follow_sound c c' deed.Table applies sound = apply_sound c c' applies sound
follow_sound c c' (deed.Ask miss) is sound = same c' _ is sound

gives_sound : (c c' : BlockConnection) (m : Move) → GivesBy c m c' → IsSound c → IsSound c'
gives_sound c c' (gives_marks range) (l, takes, is) sound = same c' _ is sound
gives_sound c c' (gives_part p pieces to) (may, at, gives) sound = same c' _ gives.2 sound
gives_sound c c' (does d bytes) (may, none, (mid, steps, sent, follows)) sound =
    follow_sound mid c' d follows (step_sound c mid (made.Deed d) steps sound)
gives_sound c c' goes_on (may, none, steps) sound = step_sound c c' made.Again steps sound
gives_sound c c' loses none sound = absurd none
gives_sound c c' (takes_end e) none sound = absurd none
gives_sound c c' looks none sound = absurd none
gives_sound c c' takes_turn none sound = absurd none

-- ---- events, when nothing is left to be done for a ring

look_sound : (c c' : BlockConnection) (v : Bool) → LooksBy c v c' → IsClear c.backend → IsSound c → IsSound c'
look_sound c c' v (by, is) clear sound =
    looks_sound (memory_step c.memory) (way_of c.memory c.backend) c.backend c.memory.logged v c'.backend c'.memory.logged by clear sound

look_clear : (c c' : BlockConnection) → LooksBy c false c' → IsClear c.backend → IsClear c'.backend
look_clear c c' (by, is) clear =
    looked_clear (memory_step c.memory) (way_of c.memory c.backend) c.backend c.memory.logged c'.backend c'.memory.logged by clear

end_sound : (c : BlockConnection) (e : EndRow) → IsClear c.backend → IsSound c → IsSound (end_taken c e)
end_sound c e clear sound = go (nat_lt e.id (2 ^ 16))
  where
    go : (v : Bool) → IsSound (if v then part_ended c e.ring e.id (end_of e) else c)
    go true = told_sound c.backend (event.Ring e.ring (Ended e.id (end_of e))) refl clear sound
    go false = sound

event_sound : (c d : Course) (m : Move) → EventBy c m d → IsClear c.connection.backend → IsSound c.connection
    → IsSound d.connection
event_sound c d loses (lost, at, is) clear sound = same d.connection _ (ap (λ (v : Course). v.connection) is)
    (told_sound c.connection.backend (event.Ring lost.0 (Ended lost.1 Failed)) refl clear sound)
event_sound c d (takes_end e) (none, ends, is) clear sound =
    same d.connection _ (ap (λ (v : Course). v.connection) is) (end_sound c.connection e clear sound)
event_sound c d looks (none, ends, by, is) clear sound = look_sound c.connection d.connection true by clear sound
event_sound c d takes_turn (mid, none, ends, by, next, turns, is) clear sound =
    same d.connection _ (ap (λ (v : Course). v.connection) is)
    (gone_on_sound mid.backend (look_clear c.connection mid by clear) (look_sound c.connection mid false by clear sound))
event_sound c d (gives_marks range) none clear sound = absurd none
event_sound c d (gives_part p pieces to) none clear sound = absurd none
event_sound c d (does deed bytes) none clear sound = absurd none
event_sound c d goes_on none clear sound = absurd none

-- ---- moves and runs

move_sound : (c d : Course) (m : Move) → MoveBy c m d → IsSound c.connection → IsSound d.connection
move_sound c d m (inl (mid, gives, is)) sound = same d.connection _ (ap (λ (v : Course). v.connection) is)
    (after_sound mid (gives_sound c.connection mid m gives sound))
move_sound c d m (inr (quiet, event)) sound = event_sound (looked c) d m event
    (after_clear c.connection (done_clear c.connection.backend quiet.2)) (after_sound c.connection sound)

moves_sound : (c d : Course) (ms : List Move) → Moves c ms d → IsSound c.connection → IsSound d.connection
moves_sound c d [] is sound = same d.connection _ (ap (λ (v : Course). v.connection) is) sound
moves_sound c d (m ∷ ms) (mid, first, rest) sound = moves_sound mid d ms rest (move_sound c mid m first sound)

rests_sound : (c d : Course) → IsClear c.connection.backend → Rests (looked c) d → IsSound c.connection
    → IsSound d.connection
rests_sound c d clear (none, ends, by, turns, is) sound = look_sound (looked_after c.connection) d.connection false by
    (after_clear c.connection clear) (after_sound c.connection sound)

stops_sound : (c d : Course) (ms : List Move) (o : Output) (v : Bool) → Stops c ms o v d → IsSound c.connection
    → IsSound d.connection
stops_sound c d ms o false (quiet, rests) sound =
    rests_sound c d (done_clear c.connection.backend quiet.2) rests sound
stops_sound c d ms o true (inl (full, is)) sound =
    same d.connection _ (ap (λ (v : Course). v.connection) is) (after_sound c.connection sound)
stops_sound c d ms o true (inr (all, is)) sound = same d.connection _ (ap (λ (v : Course). v.connection) is) sound

pub fills_sound : (c d : Course) (o o' : Output) (v : Bool) → Fills c o v d o' → IsSound c.connection
    → IsSound d.connection
fills_sound c d o o' v (ms, last, moves, puts, stops) sound =
    stops_sound last d ms o' v stops (moves_sound c last ms moves sound)
