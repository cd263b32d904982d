-- Along a run nothing leads elsewhere than the front end's messages say.
use Rattle.std.proofs.Common.{◌≡◌, ◌∙◌, ℕ, zero, suc, ◌^◌, ◌&&◌, ◌++◌, nat_lt, Bool, true, false, List, [], ◌∷◌, length, Option, Some, None, is_some, option_to_list, Ok, Err, if◌then◌else◌, refl, ap, sym, subst, inl, inr}
use Rattle.std.specs.List.{slice_get}
use Rattle.std.proofs.lemmas.List.Elements.{All-nil}
use Rattle.vm_memory_base.specs.Table.{InvalidateAll, Says, Table, changed, says}
use Rattle.vm_memory_guest.specs.Host.{Host}
use Rattle.vhost_message.specs.declared.regions.MemoryRegion.{MemoryRegion}
use Rattle.vhost_user.specs.Features.{access_platform, has}
use Rattle.vhost_user.specs.Log.{log_kept}
use Rattle.vhost_iotlb.specs.Kept.{SaysNoMore, after_change}
use Rattle.vhost_iotlb.specs.declared.kept.Change.{Change}
use Rattle.vhost_iotlb.specs.declared.kept.Kept.{Kept}
use Rattle.vhost_backend.proofs.CurrentChangeLemmas.{ChangedLaw, EmptiedLaw, LeadLaw, leads_on, settled_queues, table_holds}
use Rattle.vhost_backend.proofs.CurrentMemoryLemmas.{IsBare, Lent, MissedLaw, RingsSay, WritesLaw, bare_forgot, bare_kept, bare_plain, bare_rings, failed_rings, forgot_rings, kept_rings, plain_rings, plain_tables, rings_by, rings_more}
use Rattle.vhost_backend.proofs.CurrentStepLemmas.{hung_up_queues, steps_less}
use Rattle.vhost_backend.proofs.CurrentTurnLemmas.{looks_behind, looks_plainly}
use Rattle.vhost_backend.proofs.KeepLemmas.{looks_keep, steps_keep}
use Rattle.vhost_backend.proofs.OwnWayLemmas.{get-set_same}
use Rattle.vhost_backend.proofs.StandLemmas.{HoldsAll, StaysLaw, all_stand, kept_still, set_stands, some_is}
use Rattle.vhost_backend.specs.Behind.{with_reach}
use Rattle.vhost_backend.specs.BlockBackend.{Looks, answered, answered_at, hung_up}
use Rattle.vhost_backend.specs.BlockConnection.{as_negotiated, is_covered, looked_after, pages_in, with_backend}
use Rattle.vhost_backend.specs.BlockQueue.{BlockQueueState}
use Rattle.vhost_backend.specs.BlockTable.{ChangesTable, can_ask, memory_lost}
use Rattle.vhost_backend.specs.ConnectionMemory.{Joins, MemoryState, emptied, first_emptied, forgotten, joined_memory_of, marks_nothing, memory_of, memory_step, ring_memory_of, ring_table_of, way_of, with_behind, with_pages}
use Rattle.vhost_backend.specs.Current.{ComesFrom, Current, IsKeptFor, QueuesStand, after_changes, change_by, change_given, change_if, change_of, changes_of}
use Rattle.vhost_backend.specs.Reach.{cleared}
use Rattle.vhost_backend.specs.RingMemory.{Logs}
use Rattle.vhost_backend.specs.Rings.{all_stopped}
use Rattle.vhost_backend.specs.Run.{Applies, Course, EventBy, Fills, Follows, GivesBy, LooksBy, Move, MoveBy, Moves, Output, Rests, StepsTo, Stops, after_sent, after_stop, does, end_of, end_taken, gives_marks, gives_part, goes_on, looked, looks, loses, open_part, part_ended, takes_end, takes_turn}
use Rattle.vhost_backend.specs.TableUse.{lost_at, lost_to}
use Rattle.vhost_backend.specs.declared.block.BlockStep.{BlockStep}
use Rattle.vhost_backend.specs.declared.block_backend.BlockBackend.{BlockBackend}
use Rattle.vhost_backend.specs.declared.block_connection.BlockConnection.{BlockConnection}
use Rattle.vhost_backend.specs.declared.deeds.Ask.{Ask}
use Rattle.vhost_backend.specs.declared.deeds.Ask.TheVariants as ask
use Rattle.vhost_backend.specs.declared.deeds.Deed.{Deed}
use Rattle.vhost_backend.specs.declared.deeds.Deed.TheVariants as deed
use Rattle.vhost_backend.specs.declared.deeds.Made.{Made}
use Rattle.vhost_backend.specs.declared.deeds.Made.TheVariants as made
use Rattle.vhost_backend.specs.declared.deeds.Why.TheVariants.{Log}
use Rattle.vhost_backend.specs.declared.rows.EndRow.{EndRow}

-- ---- queues that stay

pub answered_queues : (w : BlockBackend) (is : Bool) → (answered w is).queues ≡ w.queues
answered_queues w is = go w.ask is
  where
    go : (a : Ask) (is : Bool) → (answered_at w a is).queues ≡ w.queues
    go ask.Answer true = refl
    go ask.Answer false = refl
    go ask.Nothing is = refl
    go ask.First is = refl
    go (ask.Mapped number) is = refl
    go (ask.Region number) is = refl

-- ---- queues of which nothing is kept any more

module _ (f : Says) where
  lost_one : (qs : List BlockQueueState) (n : ℕ) (o : Option BlockQueueState) → slice_get qs n ≡ o → QueuesStand f qs
      → QueuesStand f (lost_at qs n o)
  lost_one qs n None found stand = stand
  lost_one qs n (Some q) found stand = set_stands qs n q found f (with_reach q (cleared q.reach))
      (record { pages = All-nil _; rows = All-nil _; fetch = tt; asked = (stand n q found).asked }) stand

  lost_stand : (n : ℕ) (qs : List BlockQueueState) → QueuesStand f qs → QueuesStand f (lost_to n qs)
  lost_stand zero qs stand = stand
  lost_stand (suc n) qs stand = let mid = lost_to n qs in
      lost_one mid n (slice_get mid n) refl (lost_stand n qs stand)

  memory_stands : (w : BlockBackend) → QueuesStand f w.queues → QueuesStand f (memory_lost w).queues
  memory_stands w stand = let n = length w.queues in
      subst (QueuesStand f) (sym (settled_queues (length (lost_to n w.queues)) _)) (lost_stand n w.queues stand)

  -- ---- what stays

  -- what is said and kept is the same
  pub same_now : (c c' : BlockConnection) → c'.memory.table ≡ c.memory.table
      → c'.memory.logged.host.tables ≡ c.memory.logged.host.tables → c'.memory.is_joined ≡ c.memory.is_joined
      → c'.backend.queues ≡ c.backend.queues → Current f c → Current f c'
  same_now c c' table tables joined queues now = record {
    table = subst (λ (t : Table). SaysNoMore t f) (sym table) now.table;
    rings = subst (λ (qs : List BlockQueueState). RingsSay c'.memory.logged (IsKeptFor qs)) (sym queues)
        (rings_by c.memory.logged c'.memory.logged (IsKeptFor c.backend.queues) tables now.rings);
    queues = subst (QueuesStand f) (sym queues) now.queues;
    unjoined = λ none. tables ∙ now.unjoined (sym joined ∙ none);
  }

  pub now_as : (c c' : BlockConnection) → c' ≡ c → Current f c → Current f c'
  now_as c c' is now = subst (Current f) (sym is) now

  -- ---- after a message was finished

  log_now : (c : BlockConnection) → Current f c → Current f (as_negotiated c)
  log_now c now = go (is_covered c.backend.backend.connection)
    where
      logs : BlockConnection
      logs = record c {
        memory = with_behind (with_pages c.memory (record c.memory.logged.pages {
          pages = pages_in (log_kept c.backend.backend.connection);
        })) (has c.backend.backend.connection.features access_platform);
      }

      go : (v : Bool) → Current f (if v then logs else with_backend logs (hung_up logs.backend Log))
      go true = same_now c logs refl refl refl refl now
      go false = same_now c (with_backend logs (hung_up logs.backend Log)) refl refl refl
          (hung_up_queues logs.backend Log) now

  pub after_now : (c : BlockConnection) → Current f c → Current f (looked_after c)
  after_now c now = go c.backend.finished
    where
      seen : BlockConnection
      seen = with_backend c (record c.backend { finished = false })

      here : Current f seen
      here = same_now c seen refl refl refl refl now

      go : (v : Bool) → Current f (if v then as_negotiated seen else seen)
      go true = log_now seen here
      go false = here

  -- ---- what follows from what is done, beside changes of the table

  sent_now : (d : Deed) (c : BlockConnection) → Current f c → Current f (after_sent d c)
  sent_now deed.Send c now = same_now c (after_sent deed.Send c) refl refl refl refl now
  sent_now d c now = now

  open_now : (c : BlockConnection) (ring id : ℕ) (part : BlockStep) (left : ℕ) (v : Bool) → Current f c
      → Current f (open_part c ring id part left v)
  open_now c ring id part left true now = same_now c (open_part c ring id part left true) refl refl refl refl now
  open_now c ring id part left false now = same_now c (open_part c ring id part left false) refl refl refl refl now

  pub unmapped_now : (c : BlockConnection) (w : BlockBackend) → QueuesStand f w.queues
      → Current f (record c { memory = forgotten c.memory; backend = w })
  unmapped_now c w stand = record {
    table = λ x below. inl refl;
    rings = λ t at. absurd (cc);
    queues = stand;
    unjoined = λ none. refl;
  }

  join_now : (c : BlockConnection) (m : MemoryState) (regions : List MemoryRegion) (is : Bool)
      → Joins c.memory regions is m → Current f c → Current f (record c { memory = m; backend = answered c.backend is })
  join_now c m regions true (none, lies, is) now = record {
    table = subst (λ (t : Table). SaysNoMore t f) (sym (ap (λ (x : MemoryState). x.table) is)) now.table;
    rings = λ t at. subst (ComesFrom (IsKeptFor (answered c.backend true).queues))
        (some_is fresh t (sym (ap (λ (ts : List Table). slice_get ts 0)
        (ap (λ (x : MemoryState). x.logged.host.tables) is ∙ ap (λ (ts : List Table). ts ++ fresh ∷ []) none)) ∙ at))
        nothing;
    queues = subst (QueuesStand f) (sym (answered_queues c.backend true)) now.queues;
    unjoined = λ unjoined. let bad : true ≡ false = sym (ap (λ (x : MemoryState). x.is_joined) is) ∙ unjoined in
        absurd (cc);
  }
    where
      fresh : Table
      fresh = record { limit = None; ranges = [] }

      nothing : ComesFrom (IsKeptFor (answered c.backend true).queues) fresh
      nothing x m below is = absurd (cc)
  join_now c m regions false is now = now_as (record c { memory = forgotten c.memory; backend = answered c.backend false })
      (record c { memory = m; backend = answered c.backend false })
      (ap (λ (x : MemoryState). record c { memory = x; backend = answered c.backend false }) is)
      (unmapped_now c (answered c.backend false)
      (subst (QueuesStand f) (sym (answered_queues c.backend false)) now.queues))

-- ---- after the last ring was stopped

module _ (missed : MissedLaw) (f : Says) where
  pub emptied_tables : (host : Host (Unit {0})) (o : Option Table) → slice_get host.tables 0 ≡ o → (S : Kept → Type 0)
      (t : Table) → slice_get (first_emptied host o).tables 0 ≡ Some t → ComesFrom S t
  emptied_tables host None found S t at = let bad : None ≡ Some t = sym found ∙ at in absurd (cc)
  emptied_tables host (Some before) found S t at = λ x m below is.
      let one : changed InvalidateAll before ≡ t =
      some_is (changed InvalidateAll before) t
      (sym (get-set_same host.tables 0 (changed InvalidateAll before) before found) ∙ at) in
      elim (missed InvalidateAll before x below) [
        | inl none ↦
            let bad : None ≡ Some m = sym none ∙ ap (λ (u : Table). says u x) one ∙ is in absurd (cc)
        | inr none ↦
            let bad : None ≡ Some m = sym none ∙ ap (λ (u : Table). says u x) one ∙ is in absurd (cc)
      ]

  emptied_none : (host : Host (Unit {0})) (o : Option Table) → slice_get host.tables 0 ≡ o → host.tables ≡ []
      → (first_emptied host o).tables ≡ []
  emptied_none host None found none = none
  emptied_none host (Some t) found none =
      let bad : None ≡ Some t = ap (λ (ts : List Table). slice_get ts 0) (sym none) ∙ found in absurd (cc)

  stop_now : (c : BlockConnection) → Current f c → Current f (after_stop c)
  stop_now c now = go (all_stopped c.backend.backend.rings)
    where
      host : Host (Unit {0})
      host = c.memory.logged.host

      go : (v : Bool) → Current f
          (if v then record c { memory = emptied c.memory; backend = memory_lost c.backend } else c)
      go true = record {
        table = λ x below. inl refl;
        rings = emptied_tables host (slice_get host.tables 0) refl (IsKeptFor (memory_lost c.backend).queues);
        queues = memory_stands f c.backend now.queues;
        unjoined = λ none. emptied_none host (slice_get host.tables 0) refl (now.unjoined none);
      }
      go false = now

-- ---- steps and looks on the memory of a connection

module _ (stays : StaysLaw) (change : ChangedLaw) (empties : EmptiedLaw) (leads : LeadLaw) (missed : MissedLaw)
    (writes : WritesLaw) where
  module _ (f : Says) where
    step_now : (c c' : BlockConnection) (m : Made) → StepsTo c m c' → Current f c → Current f c'
    step_now c c' m (steps, is) now =
        let r = ring_memory_of c.memory in
        let g = memory_of c.memory in
        let t = ring_table_of c.memory in
        let same : c'.memory.logged.host.tables ≡ c.memory.logged.host.tables =
        steps_keep (memory_step c.memory) (λ a b. b.host.tables ≡ a.host.tables) (λ h. refl)
        (λ a b c first second. second ∙ first) (plain_tables writes r g t) c.backend c.memory.logged m c'.backend
        c'.memory.logged steps in
        let less = steps_less (memory_step c.memory) c.backend c.memory.logged m c'.backend c'.memory.logged steps in
        record {
          table = subst (λ (v : BlockConnection). SaysNoMore v.memory.table f) (sym is) now.table;
          rings = rings_more c'.memory.logged (IsKeptFor c.backend.queues) (IsKeptFor c'.backend.queues)
              (kept_still c.backend.queues c'.backend.queues less)
              (rings_by c.memory.logged c'.memory.logged (IsKeptFor c.backend.queues) same now.rings);
          queues = all_stand f c.backend.queues c'.backend.queues less now.queues;
          unjoined = λ none. same ∙ now.unjoined (sym (ap (λ (v : BlockConnection). v.memory.is_joined) is) ∙ none);
        }

    look_by : (m : MemoryState) (w : BlockBackend) (old : Lent) (is : Bool) (w' : BlockBackend) (new : Lent) (v : Bool)
        → SaysNoMore m.table f
        → Looks (Logs marks_nothing (ring_memory_of m) (memory_of m) (if v then Some (record { 0 = 0 }) else None))
        (if v then Some (record { table = m.table; can_ask = can_ask w }) else None) w old is w' new
        → HoldsAll RingsSay f old w.queues → HoldsAll RingsSay f new w'.queues
    look_by m w old is w' new true no_more by holds =
        let r = ring_memory_of m in
        let g = memory_of m in
        looks_behind (Logs marks_nothing r g (Some (record { 0 = 0 }))) RingsSay rings_more
        (plain_rings writes r g (Some (record { 0 = 0 }))) f (kept_rings missed r g) (forgot_rings missed r g)
        (failed_rings missed r g) (record { table = m.table; can_ask = can_ask w }) w old is w' new
        (leads_on leads m.table f no_more) by holds
    look_by m w old is w' new false no_more by holds =
        let r = ring_memory_of m in
        let g = memory_of m in
        looks_plainly (Logs marks_nothing r g None) RingsSay rings_more (plain_rings writes r g None) f w old is w' new
        by holds

    bare_look : (m : MemoryState) (w : BlockBackend) (old : Lent) (is : Bool) (w' : BlockBackend) (new : Lent)
        → m.is_joined ≡ false → Looks (memory_step m) (way_of m w) w old is w' new → old.host.tables ≡ []
        → new.host.tables ≡ []
    bare_look m w old is w' new none by bare =
        let r = ring_memory_of m in
        let g = memory_of m in
        let on : Looks (Logs marks_nothing r g None) None w old is w' new =
        subst (λ (v : Bool).
        Looks (Logs marks_nothing r g (if v && m.is_behind then Some (record { 0 = 0 }) else None))
        (if v && m.is_behind then Some (record { table = m.table; can_ask = can_ask w }) else None) w old is w' new)
        none by in
        looks_keep (Logs marks_nothing r g None) (λ a b. a.host.tables ≡ [] → b.host.tables ≡ []) (λ h t. t)
        (λ a b c first second t. second (first t))
        (λ old s r' new is step t. plain_tables writes r g None old s r' new is step ∙ t)
        (bare_kept writes r g) (bare_forgot writes r g) None w old is w' new on bare

    look_now : (c c' : BlockConnection) (v : Bool) → LooksBy c v c' → Current f c → Current f c'
    look_now c c' v (by, is) now =
        let holds = look_by c.memory c.backend c.memory.logged v c'.backend c'.memory.logged
        (c.memory.is_joined && c.memory.is_behind) now.table by (now.rings, now.queues) in
        record {
          table = subst (λ (x : BlockConnection). SaysNoMore x.memory.table f) (sym is) now.table;
          rings = holds.0;
          queues = holds.1;
          unjoined = λ none. let none : c.memory.is_joined ≡ false =
              sym (ap (λ (x : BlockConnection). x.memory.is_joined) is) ∙ none in
              bare_look c.memory c.backend c.memory.logged v c'.backend c'.memory.logged none by (now.unjoined none);
        }

    -- ---- a change of the table

    change_now : (m : MemoryState) (w : BlockBackend) (old : Lent) (is : Bool) (w' : BlockBackend) (t' : Table)
        (new : Lent) (v : Bool) → (v ≡ false → old.host.tables ≡ [])
        → ChangesTable (Logs marks_nothing (joined_memory_of m) (memory_of m) (if v then Some (record { 0 = 0 }) else None))
        w m.table old is w' t' new
        → SaysNoMore m.table f → RingsSay old (IsKeptFor w.queues) → QueuesStand f w.queues
        → (let g = after_changes (option_to_list (change_if is w.change)) f in SaysNoMore t' g
        × HoldsAll RingsSay g new w'.queues × (v ≡ false → new.host.tables ≡ []))
    change_now m w old is w' t' new true bare changes no_more says stand =
        let r = joined_memory_of m in
        let g = memory_of m in
        let after = table_holds (Logs marks_nothing r g (Some (record { 0 = 0 }))) RingsSay rings_more
        (plain_rings writes r g (Some (record { 0 = 0 }))) (kept_rings missed r g) (forgot_rings missed r g)
        (failed_rings missed r g) f stays change empties leads w m.table old is w' t' new changes
        (no_more, (says, stand)) in (after.0, after.1, λ no. absurd (cc))
    change_now m w old is w' t' new false bare changes no_more says stand =
        let r = joined_memory_of m in
        let g = memory_of m in
        let after = table_holds (Logs marks_nothing r g None) IsBare (λ h S S' goes none. none)
        (bare_plain writes r g) (λ old k r' new S step none. bare_kept writes r g old k r' new step none)
        (λ old k done new S step none. bare_forgot writes r g old k (Ok done) new step none)
        (λ old k e new S step none. bare_forgot writes r g old k (Err e) new step none) f stays change empties leads w
        m.table old is w' t' new changes (no_more, (bare refl, stand)) in
        (after.0, (bare_rings new (IsKeptFor w'.queues) after.1.0, after.1.1), λ no. after.1.0)

    apply_now : (c c' : BlockConnection) (applies : Applies c c') → Current f c
        → Current (after_changes (option_to_list (change_if (is_some applies.0) c.backend.change)) f) c'
    apply_now c c' (n, w, t, logged, changes, evicts, is) now =
        let g = after_changes (option_to_list (change_if (is_some n) c.backend.change)) f in
        let after = change_now c.memory c.backend c.memory.logged (is_some n) w t logged c.memory.is_joined
        now.unjoined changes now.table now.rings now.queues in
        now_as g _ c' is (record {
          table = after.0;
          rings = subst (λ (qs : List BlockQueueState). RingsSay logged (IsKeptFor qs))
              (sym (answered_queues w (is_some n))) after.1.0;
          queues = subst (QueuesStand g) (sym (answered_queues w (is_some n))) after.1.1;
          unjoined = after.2;
        })

    -- ---- moves

    follow_now : (d : Deed) (c c' : BlockConnection) (follows : Follows c d c') → Current f c
        → Current (after_changes (option_to_list (change_by d c c' follows)) f) c'
    follow_now deed.UnmapAll c c' is now =
        now_as f _ c' is (unmapped_now f c (memory_lost c.backend) (memory_stands f c.backend now.queues))
    follow_now deed.Join c c' (m, v, joins, is) now =
        now_as f _ c' is (join_now f c m c.backend.backend.connection.memory v joins now)
    follow_now (deed.Part ring id part left) c c' (v, lies, is) now =
        now_as f _ c' is (open_now f c ring id part left v now)
    follow_now (deed.Stopped ring) c c' is now = now_as f _ c' is (stop_now missed f c now)
    follow_now deed.Table c c' applies now = apply_now c c' applies now
    follow_now (deed.Ask miss) c c' is now = now_as f _ c' is (same_now f c _ refl refl refl refl now)
    follow_now d c c' is now = now_as f c c' is now

    gives_now : (c : BlockConnection) (m : Move) (c' : BlockConnection) (gives : GivesBy c m c') → Current f c
        → Current (after_changes (option_to_list (change_given c m c' gives)) f) c'
    gives_now c (gives_marks range) c' (l, takes, is) now = now_as f _ c' is (same_now f c _ refl refl refl refl now)
    gives_now c (gives_part p pieces to) c' (may, at, gives) now =
        now_as f _ c' gives.2 (same_now f c _ refl refl refl refl now)
    gives_now c (does d bytes) c' (may, none, (mid, steps, sent, follows)) now = follow_now d (after_sent d mid) c' follows
        (sent_now f d mid (step_now c mid (made.Deed d) steps now))
    gives_now c goes_on c' (may, none, steps) now = step_now c c' made.Again steps now
    gives_now c loses c' none now = absurd none
    gives_now c (takes_end e) c' none now = absurd none
    gives_now c looks c' none now = absurd none
    gives_now c takes_turn c' none now = absurd none

    end_now : (c : BlockConnection) (e : EndRow) → Current f c → Current f (end_taken c e)
    end_now c e now = go (nat_lt e.id (2 ^ 16))
      where
        go : (v : Bool) → Current f (if v then part_ended c e.ring e.id (end_of e) else c)
        go true = same_now f c (part_ended c e.ring e.id (end_of e)) refl refl refl refl now
        go false = now

    event_now : (c : Course) (m : Move) (d : Course) → EventBy c m d → Current f c.connection
        → Current f d.connection
    event_now c loses d (lost, at, is) now = now_as f _ d.connection (ap (λ (v : Course). v.connection) is)
        (same_now f c.connection _ refl refl refl refl now)
    event_now c (takes_end e) d (none, ends, is) now =
        now_as f _ d.connection (ap (λ (v : Course). v.connection) is) (end_now c.connection e now)
    event_now c looks d (none, ends, by, is) now = look_now c.connection d.connection true by now
    event_now c takes_turn d (mid, none, ends, by, next, turns, is) now =
        now_as f _ d.connection (ap (λ (v : Course). v.connection) is)
        (same_now f mid _ refl refl refl refl (look_now c.connection mid false by now))
    event_now c (gives_marks range) d none now = absurd none
    event_now c (gives_part p pieces to) d none now = absurd none
    event_now c (does deed bytes) d none now = absurd none
    event_now c goes_on d none now = absurd none

    move_now : (c : Course) (m : Move) (d : Course) (by : MoveBy c m d) → Current f c.connection
        → Current (after_changes (option_to_list (change_of c m d by)) f) d.connection
    move_now c m d (inl (mid, gives, is)) now =
        let g = after_changes (option_to_list (change_given c.connection m mid gives)) f in
        now_as g _ d.connection (ap (λ (v : Course). v.connection) is)
        (after_now g mid (gives_now c.connection m mid gives now))
    move_now c m d (inr (quiet, event)) now = event_now (looked c) m d event (after_now f c.connection now)

    rests_now : (c d : Course) → Rests (looked c) d → Current f c.connection → Current f d.connection
    rests_now c d (none, ends, by, turns, is) now =
        look_now (looked_after c.connection) d.connection false by (after_now f c.connection now)

    stops_now : (c d : Course) (ms : List Move) (o : Output) (v : Bool) → Stops c ms o v d → Current f c.connection
        → Current f d.connection
    stops_now c d ms o false (quiet, rests) now = rests_now c d rests now
    stops_now c d ms o true (inl (full, is)) now =
        now_as f _ d.connection (ap (λ (v : Course). v.connection) is) (after_now f c.connection now)
    stops_now c d ms o true (inr (all, is)) now = now_as f _ d.connection (ap (λ (v : Course). v.connection) is) now

  -- changes one after another
  more_changes : (cs ds : List Change) (f : Says) → after_changes (cs ++ ds) f ≡ after_changes ds (after_changes cs f)
  more_changes [] ds f = refl
  more_changes (c ∷ cs) ds f = more_changes cs ds (after_change c f)

  pub moves_now : (f : Says) (c : Course) (ms : List Move) (d : Course) (by : Moves c ms d) → Current f c.connection
      → Current (after_changes (changes_of c ms d by) f) d.connection
  moves_now f c [] d is now = now_as f _ d.connection (ap (λ (v : Course). v.connection) is) now
  moves_now f c (m ∷ ms) d (mid, first, rest) now =
      let cs = option_to_list (change_of c m mid first) in
      subst (λ (g : Says). Current g d.connection) (sym (more_changes cs (changes_of mid ms d rest) f))
      (moves_now (after_changes cs f) mid ms d rest (move_now f c m mid first now))

  pub fills_now : (f : Says) (c d : Course) (o o' : Output) (v : Bool) (fills : Fills c o v d o')
      → Current f c.connection → Current (after_changes (changes_of c fills.0 fills.1 fills.2) f) d.connection
  fills_now f c d o o' v (ms, last, moves, puts, stops) now =
      stops_now (after_changes (changes_of c ms last moves) f) last d ms o' v stops (moves_now f c ms last moves now)
