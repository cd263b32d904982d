-- A page that waits to be marked waits until it is given, and marks come before all else.
use Rattle.std.proofs.Common.{◌≡◌, ◌∙◌, ◌⊎◌, ℕ, ◌^◌, nat_lt, ◌&&◌, Bool, true, false, List, [], ◌∷◌, ◌++◌, Option, Some, None, is_none, if◌then◌else◌, refl, ap, sym, subst, inl, inr, append_assoc, is_some}
use Rattle.std.specs.List.{flat_map}
use Rattle.std.specs.Option.{option_to_list}
use Rattle.vm_memory_guest.specs.Memory.{Memory}
use Rattle.vm_memory_guest.specs.declared.host.TlbId.{TlbId}
use Rattle.vhost_message.specs.declared.regions.MemoryRegion.{MemoryRegion}
use Rattle.vhost_user.specs.Features.{access_platform, has}
use Rattle.vhost_user.specs.Log.{log_kept}
use Rattle.vhost_backend.specs.BlockBackend.{hung_up, is_done}
use Rattle.vhost_backend.specs.BlockConnection.{as_negotiated, is_covered, looked_after, pages_in, with_backend}
use Rattle.vhost_backend.specs.BlockTable.{memory_lost}
use Rattle.vhost_backend.specs.ConnectionMemory.{Joins, MemoryState, joined_memory_of, kept_table_of, marks_nothing, memory_of, memory_step, ring_memory_of, ring_table_of, table_step, way_of, with_behind, with_pages, emptied}
use Rattle.vhost_backend.specs.PageList.{InAny, InRange, IsToMark, NoneToMark, Pages, TakesRange}
use Rattle.vhost_backend.specs.RingMemory.{Logs, MemoryStep, Returned, adds_used, begins, enables, finds_copies, finishes, forgets, keeps, marks, marks_ring, needs, pops, pops_again, reads_flags, reads_region, reads_used, tracks}
use Rattle.vhost_backend.specs.Run.{Applies, Course, EventBy, Follows, GivesBy, LooksBy, MayStep, Move, MoveBy, Moves, StepsTo, after_sent, after_stop, does, end_of, end_taken, ends_of, gives_marks, gives_part, goes_on, looked, looks, loses, open_part, part_ended, takes_end, takes_turn}
use Rattle.vhost_backend.specs.Rings.{all_stopped}
use Rattle.vhost_backend.specs.RunLaws.{GivesPage, IsGiven, Waits, is_marks}
use Rattle.vhost_backend.specs.declared.block.BlockStep.{BlockStep}
use Rattle.vhost_backend.specs.declared.block_backend.BlockBackend.{BlockBackend}
use Rattle.vhost_backend.specs.declared.block_connection.BlockConnection.{BlockConnection}
use Rattle.vhost_backend.specs.declared.deeds.Deed.{Deed}
use Rattle.vhost_backend.specs.declared.deeds.Deed.TheVariants as deed
use Rattle.vhost_backend.specs.declared.deeds.Made.{Made}
use Rattle.vhost_backend.specs.declared.deeds.Made.TheVariants as made
use Rattle.vhost_backend.specs.declared.deeds.Why.TheVariants.{Log}
use Rattle.vhost_backend.specs.declared.page_list.PageRange.{PageRange}
use Rattle.vhost_backend.specs.declared.ring_memory.Logged.{Logged}
use Rattle.vhost_backend.specs.declared.rows.EndRow.{EndRow}
use Rattle.vhost_backend.proofs.KeepLemmas.{changes_table_keep, looks_keep, steps_keep}
use Rattle.vhost_backend.proofs.PageLemmas.{any_of}
use Rattle.vhost_backend.proofs.RingMarkLemmas.{marked_still, ring_still}

-- ---- steps

-- each page that was to be marked still is
Grows : Logged (Unit {0}) → Logged (Unit {0}) → Type 0
Grows old new = (page : ℕ) → IsToMark page old.pages → IsToMark page new.pages

grows_stay : (l : Logged (Unit {0})) → Grows l l
unfolding Grows
grows_stay l page is = is

grows_then : (a b c : Logged (Unit {0})) → Grows a b → Grows b c → Grows a c
unfolding Grows
grows_then a b c first second page is = second page (first page is)

grows_same : (old new : Logged (Unit {0})) → new.pages ≡ old.pages → Grows old new
unfolding Grows
grows_same old new is page was = subst (IsToMark page) (sym is) was

grows_each : (m guest : Memory) (t : Option TlbId) (old : Logged (Unit {0})) (s : MemoryStep) (r : Returned s)
    (new : Logged (Unit {0})) → Logs marks_nothing m guest t old s r new → Grows old new
unfolding Grows
grows_each m guest t old (marks base offset len) r new p =
    λ page is. subst (IsToMark page) (sym p.1) (marked_still old.pages base offset len page is)
grows_each m guest t old (marks_ring base offset len) r new p =
    λ page is. subst (IsToMark page) (sym p.1) (ring_still t old.host.tables old.pages base offset len page is)
grows_each m guest t old (pops q) r new p = grows_same old new p.1
grows_each m guest t old (adds_used q buffer len) r new p = grows_same old new p.1
grows_each m guest t old (needs q) r new p = grows_same old new p.1
grows_each m guest t old (enables q) r new p = grows_same old new p.1
grows_each m guest t old (begins terms chain) r new p = grows_same old new p.1
grows_each m guest t old (finishes chain status moved) r new p = grows_same old new p.1
grows_each m guest t old (reads_used q) r new p = grows_same old new p.1
grows_each m guest t old (keeps k) r new p = grows_same old new p.1
grows_each m guest t old (forgets k) r new p = grows_same old new p.1
grows_each m guest t old (pops_again q head ds) r new p = grows_same old new p.1
grows_each m guest t old (reads_region offset n) r new p = grows_same old new p.2
grows_each m guest t old (tracks s) r new p = grows_same old new p.1
grows_each m guest t old (finds_copies q) r new p = grows_same old new p.1
grows_each m guest t old (reads_flags q slot) r new p = grows_same old new p.1

-- ---- a connection

-- each page that was to be marked still is
Keeps : BlockConnection → BlockConnection → Type 0
Keeps c c' = (page : ℕ) → IsToMark page c.memory.logged.pages → IsToMark page c'.memory.logged.pages

keeps_by : (c c' : BlockConnection) → c'.memory.logged.pages ≡ c.memory.logged.pages → Keeps c c'
unfolding Keeps
keeps_by c c' is page was = subst (IsToMark page) (sym is) was

step_keeps : (c c' : BlockConnection) (m : Made) → StepsTo c m c' → Keeps c c'
unfolding Keeps Grows
step_keeps c c' m (steps, is) = steps_keep (memory_step c.memory) Grows grows_stay grows_then
    (λ old s r new plain p. grows_each (ring_memory_of c.memory) (memory_of c.memory) (ring_table_of c.memory) old s r new p) c.backend c.memory.logged m c'.backend c'.memory.logged steps

look_keeps : (c c' : BlockConnection) (v : Bool) → LooksBy c v c' → Keeps c c'
unfolding Keeps Grows
look_keeps c c' v (by, is) = looks_keep (memory_step c.memory) Grows grows_stay grows_then
    (λ old s r new plain p. grows_each (ring_memory_of c.memory) (memory_of c.memory) (ring_table_of c.memory) old s r new p)
    (λ old k r new p. grows_each (ring_memory_of c.memory) (memory_of c.memory) (ring_table_of c.memory) old (keeps k) r new p)
    (λ old k r new p. grows_each (ring_memory_of c.memory) (memory_of c.memory) (ring_table_of c.memory) old (forgets k) r new p) (way_of c.memory c.backend)
    c.backend c.memory.logged v c'.backend c'.memory.logged by

sent_pages : (d : Deed) (c : BlockConnection) → (after_sent d c).memory.logged.pages ≡ c.memory.logged.pages
sent_pages deed.Send c = refl
sent_pages deed.UnmapAll c = refl
sent_pages (deed.Map region descriptor) c = refl
sent_pages deed.Join c = refl
sent_pages (deed.Log size offset) c = refl
sent_pages (deed.File size) c = refl
sent_pages (deed.Region size offset) c = refl
sent_pages (deed.Keep p is) c = refl
sent_pages (deed.Part ring id part left) c = refl
sent_pages (deed.Interrupt ring) c = refl
sent_pages (deed.Tell ring) c = refl
sent_pages (deed.Stopped ring) c = refl
sent_pages (deed.End y) c = refl
sent_pages deed.Table c = refl
sent_pages (deed.Ask miss) c = refl

open_pages : (c : BlockConnection) (ring id : ℕ) (part : BlockStep) (left : ℕ) (v : Bool)
    → (open_part c ring id part left v).memory.logged.pages ≡ c.memory.logged.pages
open_pages c ring id part left true = refl
open_pages c ring id part left false = refl

joined_pages : (m m' : MemoryState) (regions : List MemoryRegion) (v : Bool) → Joins m regions v m'
    → m'.logged.pages ≡ m.logged.pages
joined_pages m m' regions true (none, lies, is) = ap (λ (n : MemoryState). n.logged.pages) is
joined_pages m m' regions false is = ap (λ (n : MemoryState). n.logged.pages) is

stop_pages : (c : BlockConnection) → (after_stop c).memory.logged.pages ≡ c.memory.logged.pages
stop_pages c = go (all_stopped c.backend.backend.rings)
  where
    go : (v : Bool) → (let d : BlockConnection = if v
        then record c { memory = emptied c.memory; backend = memory_lost c.backend } else c in
        d.memory.logged.pages ≡ c.memory.logged.pages)
    go true = refl
    go false = refl

apply_keeps : (c c' : BlockConnection) → Applies c c' → Keeps c c'
unfolding Keeps Grows
apply_keeps c c' (n, w, t, logged, changes, evicts, is) page was = subst (IsToMark page)
    (sym (ap (λ (d : BlockConnection). d.memory.logged.pages) is))
    (changes_table_keep (table_step c.memory) Grows grows_stay grows_then
    (λ old s r new plain p. grows_each (joined_memory_of c.memory) (memory_of c.memory) (kept_table_of c.memory) old s r new p)
    (λ old k r new p. grows_each (joined_memory_of c.memory) (memory_of c.memory) (kept_table_of c.memory) old (keeps k) r new p)
    (λ old k r new p. grows_each (joined_memory_of c.memory) (memory_of c.memory) (kept_table_of c.memory) old (forgets k) r new p) c.backend c.memory.table
    c.memory.logged (is_some n) w t logged changes page was)

follow_keeps : (c c' : BlockConnection) (d : Deed) → Follows c d c' → Keeps c c'
follow_keeps c c' deed.Send is = keeps_by c c' (ap (λ (v : BlockConnection). v.memory.logged.pages) is)
follow_keeps c c' deed.UnmapAll is = keeps_by c c' (ap (λ (v : BlockConnection). v.memory.logged.pages) is)
follow_keeps c c' (deed.Map region descriptor) is =
    keeps_by c c' (ap (λ (v : BlockConnection). v.memory.logged.pages) is)
follow_keeps c c' deed.Join (m, v, joins, is) = keeps_by c c' (ap (λ (v : BlockConnection). v.memory.logged.pages) is
    ∙ joined_pages c.memory m c.backend.backend.connection.memory v joins)
follow_keeps c c' (deed.Log size offset) is = keeps_by c c' (ap (λ (v : BlockConnection). v.memory.logged.pages) is)
follow_keeps c c' (deed.File size) is = keeps_by c c' (ap (λ (v : BlockConnection). v.memory.logged.pages) is)
follow_keeps c c' (deed.Region size offset) is = keeps_by c c' (ap (λ (v : BlockConnection). v.memory.logged.pages) is)
follow_keeps c c' (deed.Keep p v) is = keeps_by c c' (ap (λ (v : BlockConnection). v.memory.logged.pages) is)
follow_keeps c c' (deed.Part ring id part left) (v, lies, is) =
    keeps_by c c' (ap (λ (v : BlockConnection). v.memory.logged.pages) is ∙ open_pages c ring id part left v)
follow_keeps c c' (deed.Interrupt ring) is = keeps_by c c' (ap (λ (v : BlockConnection). v.memory.logged.pages) is)
follow_keeps c c' (deed.Tell ring) is = keeps_by c c' (ap (λ (v : BlockConnection). v.memory.logged.pages) is)
follow_keeps c c' (deed.Stopped ring) is =
    keeps_by c c' (ap (λ (v : BlockConnection). v.memory.logged.pages) is ∙ stop_pages c)
follow_keeps c c' (deed.End y) is = keeps_by c c' (ap (λ (v : BlockConnection). v.memory.logged.pages) is)
follow_keeps c c' deed.Table applies = apply_keeps c c' applies
follow_keeps c c' (deed.Ask miss) is = keeps_by c c' (ap (λ (v : BlockConnection). v.memory.logged.pages) is)

log_keeps : (page : ℕ) (c : BlockConnection) → IsToMark page c.memory.logged.pages
    → IsToMark page (as_negotiated c).memory.logged.pages
log_keeps page c was = go (is_covered c.backend.backend.connection)
  where
    logs : BlockConnection
    logs = record c {
      memory = with_behind (with_pages c.memory (record c.memory.logged.pages {
        pages = pages_in (log_kept c.backend.backend.connection);
      })) (has c.backend.backend.connection.features access_platform);
    }

    go : (v : Bool) → IsToMark page (if v then logs else with_backend logs (hung_up logs.backend Log)).memory.logged.pages
    go true = was
    go false = was

looked_keeps : (page : ℕ) (c : BlockConnection) → IsToMark page c.memory.logged.pages
    → IsToMark page (looked_after c).memory.logged.pages
looked_keeps page c was = go c.backend.finished
  where
    seen : BlockConnection
    seen = with_backend c (record c.backend { finished = false })

    go : (v : Bool) → IsToMark page (if v then as_negotiated seen else seen).memory.logged.pages
    go true = log_keeps page seen was
    go false = was

-- ---- moves

marks_keep : (page : ℕ) (l l' : Pages) (range : PageRange) → TakesRange l range l' → IsToMark page l
    → IsToMark page l' ⊎ InRange page range
marks_keep page l l' range (last, others, same) was =
    let at : InAny page (l.others ++ range ∷ []) =
    subst (λ (o : Option PageRange). InAny page (l.others ++ option_to_list o)) last was in
    elim (any_of page l.others (range ∷ []) at) [
      | inl before ↦ inl (subst (InAny page) others before)
      | inr (inl here) ↦ inr here
      | inr (inr none) ↦ absurd none
    ]

gives_keep : (page : ℕ) (c c' : BlockConnection) (m : Move) → GivesBy c m c' → IsToMark page c.memory.logged.pages
    → IsToMark page c'.memory.logged.pages ⊎ GivesPage page m
unfolding Keeps
gives_keep page c c' (gives_marks range) (l, takes, is) was =
    elim (marks_keep page c.memory.logged.pages l range takes was) [
      | inl stays ↦ inl (subst (λ (v : BlockConnection). IsToMark page v.memory.logged.pages) (sym is) stays)
      | inr here ↦ inr here
    ]
gives_keep page c c' (gives_part p pieces to) (may, at, gives) was =
    inl (subst (λ (v : BlockConnection). IsToMark page v.memory.logged.pages) (sym gives.2) was)
gives_keep page c c' (does d bytes) (may, none, (mid, steps, sent, follows)) was =
    inl (follow_keeps (after_sent d mid) c' d follows page (subst (IsToMark page) (sym (sent_pages d mid))
    (step_keeps c mid (made.Deed d) steps page was)))
gives_keep page c c' goes_on (may, none, steps) was = inl (step_keeps c c' made.Again steps page was)
gives_keep page c c' loses none was = absurd none
gives_keep page c c' (takes_end e) none was = absurd none
gives_keep page c c' looks none was = absurd none
gives_keep page c c' takes_turn none was = absurd none

end_keeps : (page : ℕ) (c : BlockConnection) (e : EndRow) → IsToMark page c.memory.logged.pages
    → IsToMark page (end_taken c e).memory.logged.pages
end_keeps page c e was = go (nat_lt e.id (2 ^ 16))
  where
    go : (v : Bool) → IsToMark page (if v then part_ended c e.ring e.id (end_of e) else c).memory.logged.pages
    go true = was
    go false = was

event_keeps : (page : ℕ) (c d : Course) (m : Move) → EventBy c m d → Waits page c → Waits page d
unfolding Keeps
event_keeps page c d loses (lost, at, is) was = subst (Waits page) (sym is) was
event_keeps page c d (takes_end e) (none, ends, is) was =
    subst (Waits page) (sym is) (end_keeps page c.connection e was)
event_keeps page c d looks (none, ends, by, is) was = look_keeps c.connection d.connection true by page was
event_keeps page c d takes_turn (mid, none, ends, by, next, turns, is) was =
    subst (Waits page) (sym is) (look_keeps c.connection mid false by page was)
event_keeps page c d (gives_marks range) none was = absurd none
event_keeps page c d (gives_part p pieces to) none was = absurd none
event_keeps page c d (does deed bytes) none was = absurd none
event_keeps page c d goes_on none was = absurd none

move_keeps : (page : ℕ) (c d : Course) (m : Move) → MoveBy c m d → Waits page c → Waits page d ⊎ GivesPage page m
move_keeps page c d m (inl (mid, gives, is)) was = elim (gives_keep page c.connection mid m gives was) [
  | inl stays ↦ inl (subst (Waits page) (sym is) (looked_keeps page mid stays))
  | inr given ↦ inr given
]
move_keeps page c d m (inr (quiet, event)) was =
    inl (event_keeps page (looked c) d m event (looked_keeps page c.connection was))

pub moves_keep : (page : ℕ) (c d : Course) (ms : List Move) → Moves c ms d → Waits page c
    → Waits page d ⊎ IsGiven page ms
moves_keep page c d [] is was = inl (subst (Waits page) (sym is) was)
moves_keep page c d (m ∷ ms) (mid, first, rest) was = elim (move_keeps page c mid m first was) [
  | inl stays ↦ elim (moves_keep page mid d ms rest stays) [ inl more ↦ inl more | inr given ↦ inr (inr given) ]
  | inr given ↦ inr (inl given)
]

-- ---- what comes after marks

none_waits : (page : ℕ) (l : Pages) → NoneToMark l → IsToMark page l → ⊥
none_waits page l (last, others) was =
    let first : InAny page ([] ++ option_to_list l.last) =
    subst (λ (rs : List PageRange). InAny page (rs ++ option_to_list l.last)) others was in
    subst (λ (o : Option PageRange). InAny page (option_to_list o)) last first

both : (a b : Bool) → (a && b) ≡ true → (a ≡ true) × (b ≡ true)
both true b is = (refl, is)
both false b is = absurd (cc)

done_returns_none : (w : BlockBackend) → is_done w ≡ true → is_none w.returning ≡ true
done_returns_none w is =
    let all = both _ _ is in
    let a = both _ _ all.0 in
    let b = both _ _ a.0 in
    let c = both _ _ b.0 in
    let d = both _ _ c.0 in
    let e = both _ _ d.0 in
    (both _ _ e.0).1

no_value : {A : Type 0} (o : Option A) → is_none o ≡ true → o ≡ None
no_value None is = refl
no_value (Some x) is = absurd (cc)

-- a move beside marks is made only if isnt page waits, and isnt chain is returned in a run that gave marks
may_step : (c d : Course) (m : Move) → MoveBy c m d → is_marks m ≡ false → MayStep c.connection
may_step c d (gives_marks range) by isnt = absurd (cc)
may_step c d (gives_part p pieces to) (inl (mid, gives, is)) isnt = gives.0
may_step c d (does deed bytes) (inl (mid, gives, is)) isnt = gives.0
may_step c d goes_on (inl (mid, gives, is)) isnt = gives.0
may_step c d loses (inl (mid, gives, is)) isnt = absurd gives
may_step c d (takes_end e) (inl (mid, gives, is)) isnt = absurd gives
may_step c d looks (inl (mid, gives, is)) isnt = absurd gives
may_step c d takes_turn (inl (mid, gives, is)) isnt = absurd gives
may_step c d m (inr (quiet, event)) isnt =
    (quiet.0, λ given. no_value c.connection.backend.returning (done_returns_none c.connection.backend quiet.2))

pub others_after : (page : ℕ) (c d e : Course) (ms : List Move) (m : Move) → Moves c ms d → MoveBy d m e
    → is_marks m ≡ false → Waits page c → IsGiven page ms
others_after page c d e ms m moves by isnt was = elim (moves_keep page c d ms moves was) [
  | inl waits ↦ absurd (none_waits page d.connection.memory.logged.pages (may_step d e m by isnt).0 waits)
  | inr given ↦ given
]

-- ---- marks of a run

sent_marks : (d : Deed) (c : BlockConnection) → (after_sent d c).marks ≡ c.marks
sent_marks deed.Send c = refl
sent_marks deed.UnmapAll c = refl
sent_marks (deed.Map region descriptor) c = refl
sent_marks deed.Join c = refl
sent_marks (deed.Log size offset) c = refl
sent_marks (deed.File size) c = refl
sent_marks (deed.Region size offset) c = refl
sent_marks (deed.Keep p is) c = refl
sent_marks (deed.Part ring id part left) c = refl
sent_marks (deed.Interrupt ring) c = refl
sent_marks (deed.Tell ring) c = refl
sent_marks (deed.Stopped ring) c = refl
sent_marks (deed.End y) c = refl
sent_marks deed.Table c = refl
sent_marks (deed.Ask miss) c = refl

open_marks : (c : BlockConnection) (ring id : ℕ) (part : BlockStep) (left : ℕ) (v : Bool)
    → (open_part c ring id part left v).marks ≡ c.marks
open_marks c ring id part left true = refl
open_marks c ring id part left false = refl

stop_marks : (c : BlockConnection) → (after_stop c).marks ≡ c.marks
stop_marks c = go (all_stopped c.backend.backend.rings)
  where
    go : (v : Bool) → (let d : BlockConnection = if v
        then record c { memory = emptied c.memory; backend = memory_lost c.backend } else c in d.marks ≡ c.marks)
    go true = refl
    go false = refl

follow_marks : (c c' : BlockConnection) (d : Deed) → Follows c d c' → c'.marks ≡ c.marks
follow_marks c c' deed.Send is = ap (λ (v : BlockConnection). v.marks) is
follow_marks c c' deed.UnmapAll is = ap (λ (v : BlockConnection). v.marks) is
follow_marks c c' (deed.Map region descriptor) is = ap (λ (v : BlockConnection). v.marks) is
follow_marks c c' deed.Join (m, v, joins, is) = ap (λ (v : BlockConnection). v.marks) is
follow_marks c c' (deed.Log size offset) is = ap (λ (v : BlockConnection). v.marks) is
follow_marks c c' (deed.File size) is = ap (λ (v : BlockConnection). v.marks) is
follow_marks c c' (deed.Region size offset) is = ap (λ (v : BlockConnection). v.marks) is
follow_marks c c' (deed.Keep p v) is = ap (λ (v : BlockConnection). v.marks) is
follow_marks c c' (deed.Part ring id part left) (v, lies, is) = ap (λ (v : BlockConnection). v.marks) is
    ∙ open_marks c ring id part left v
follow_marks c c' (deed.Interrupt ring) is = ap (λ (v : BlockConnection). v.marks) is
follow_marks c c' (deed.Tell ring) is = ap (λ (v : BlockConnection). v.marks) is
follow_marks c c' (deed.Stopped ring) is = ap (λ (v : BlockConnection). v.marks) is ∙ stop_marks c
follow_marks c c' (deed.End y) is = ap (λ (v : BlockConnection). v.marks) is
follow_marks c c' deed.Table (n, w, t, logged, changes, evicts, is) = ap (λ (v : BlockConnection). v.marks) is
follow_marks c c' (deed.Ask miss) is = ap (λ (v : BlockConnection). v.marks) is

log_marks : (c : BlockConnection) → (as_negotiated c).marks ≡ c.marks
log_marks c = go (is_covered c.backend.backend.connection)
  where
    logs : BlockConnection
    logs = record c {
      memory = with_behind (with_pages c.memory (record c.memory.logged.pages {
        pages = pages_in (log_kept c.backend.backend.connection);
      })) (has c.backend.backend.connection.features access_platform);
    }

    go : (v : Bool) → (if v then logs else with_backend logs (hung_up logs.backend Log)).marks ≡ c.marks
    go true = refl
    go false = refl

looked_marks : (c : BlockConnection) → (looked_after c).marks ≡ c.marks
looked_marks c = go c.backend.finished
  where
    seen : BlockConnection
    seen = with_backend c (record c.backend { finished = false })

    go : (v : Bool) → (if v then as_negotiated seen else seen).marks ≡ c.marks
    go true = log_marks seen
    go false = refl

-- once a run gave marks, it has given them
abbrev HasGiven : BlockConnection → Type 0
HasGiven c = c.marks ≡ true

gives_given : (c c' : BlockConnection) (m : Move) → GivesBy c m c' → HasGiven c → HasGiven c'
gives_given c c' (gives_marks range) (l, takes, is) has = ap (λ (v : BlockConnection). v.marks) is
gives_given c c' (gives_part p pieces to) (may, at, gives) has = ap (λ (v : BlockConnection). v.marks) gives.2 ∙ has
gives_given c c' (does d bytes) (may, none, (mid, steps, sent, follows)) has = follow_marks (after_sent d mid) c' d follows
    ∙ sent_marks d mid ∙ ap (λ (v : BlockConnection). v.marks) steps.1 ∙ has
gives_given c c' goes_on (may, none, steps) has = ap (λ (v : BlockConnection). v.marks) steps.1 ∙ has
gives_given c c' loses none has = absurd none
gives_given c c' (takes_end e) none has = absurd none
gives_given c c' looks none has = absurd none
gives_given c c' takes_turn none has = absurd none

end_marks : (c : BlockConnection) (e : EndRow) → (end_taken c e).marks ≡ c.marks
end_marks c e = go (nat_lt e.id (2 ^ 16))
  where
    go : (v : Bool) → (if v then part_ended c e.ring e.id (end_of e) else c).marks ≡ c.marks
    go true = refl
    go false = refl

event_given : (c d : Course) (m : Move) → EventBy c m d → HasGiven c.connection → HasGiven d.connection
event_given c d loses (lost, at, is) has = ap (λ (v : Course). v.connection.marks) is ∙ has
event_given c d (takes_end e) (none, ends, is) has =
    ap (λ (v : Course). v.connection.marks) is ∙ end_marks c.connection e ∙ has
event_given c d looks (none, ends, by, is) has = ap (λ (v : BlockConnection). v.marks) by.1 ∙ has
event_given c d takes_turn (mid, none, ends, by, next, turns, is) has =
    ap (λ (v : Course). v.connection.marks) is ∙ ap (λ (v : BlockConnection). v.marks) by.1 ∙ has
event_given c d (gives_marks range) none has = absurd none
event_given c d (gives_part p pieces to) none has = absurd none
event_given c d (does deed bytes) none has = absurd none
event_given c d goes_on none has = absurd none

move_given : (c d : Course) (m : Move) → MoveBy c m d → HasGiven c.connection → HasGiven d.connection
move_given c d m (inl (mid, gives, is)) has =
    ap (λ (v : Course). v.connection.marks) is ∙ looked_marks mid ∙ gives_given c.connection mid m gives has
move_given c d m (inr (quiet, event)) has = event_given (looked c) d m event (looked_marks c.connection ∙ has)

moves_given : (c d : Course) (ms : List Move) → Moves c ms d → HasGiven c.connection → HasGiven d.connection
moves_given c d [] is has = ap (λ (v : Course). v.connection.marks) is ∙ has
moves_given c d (m ∷ ms) (mid, first, rest) has = moves_given mid d ms rest (move_given c mid m first has)

page_given : (page : ℕ) (c d : Course) (m : Move) → MoveBy c m d → GivesPage page m → HasGiven d.connection
page_given page c d (gives_marks range) (inl (mid, (l, takes, same), is)) here =
    ap (λ (v : Course). v.connection.marks) is ∙ looked_marks mid ∙ ap (λ (v : BlockConnection). v.marks) same
page_given page c d (gives_marks range) (inr (quiet, event)) here = absurd event
page_given page c d (gives_part p pieces to) by here = absurd here
page_given page c d (does deed bytes) by here = absurd here
page_given page c d goes_on by here = absurd here
page_given page c d loses by here = absurd here
page_given page c d (takes_end e) by here = absurd here
page_given page c d looks by here = absurd here
page_given page c d takes_turn by here = absurd here

given_by : (page : ℕ) (c d : Course) (ms : List Move) → Moves c ms d → IsGiven page ms → HasGiven d.connection
given_by page c d [] is none = absurd none
given_by page c d (m ∷ ms) (mid, first, rest) (inl here) = moves_given mid d ms rest (page_given page c mid m first here)
given_by page c d (m ∷ ms) (mid, first, rest) (inr there) = given_by page mid d ms rest there

pub returns_after : (page : ℕ) (c d e : Course) (ms : List Move) (m : Move) → Moves c ms d → MoveBy d m e
    → is_marks m ≡ false → (d.connection.backend.returning ≡ None → ⊥) → Waits page c → ⊥
returns_after page c d e ms m moves by isnt some was = some ((may_step d e m by isnt).1
    (given_by page c d ms moves (others_after page c d e ms m moves by isnt was)))

-- ---- ends

move_ends : (c d : Course) (m : Move) → MoveBy c m d → c.ends ≡ ends_of m ++ d.ends
move_ends c d (gives_marks range) (inl (mid, gives, is)) = ap (λ (v : Course). v.ends) (sym is)
move_ends c d (gives_part p pieces to) (inl (mid, gives, is)) = ap (λ (v : Course). v.ends) (sym is)
move_ends c d (does deed bytes) (inl (mid, gives, is)) = ap (λ (v : Course). v.ends) (sym is)
move_ends c d goes_on (inl (mid, gives, is)) = ap (λ (v : Course). v.ends) (sym is)
move_ends c d loses (inl (mid, gives, is)) = absurd gives
move_ends c d (takes_end e) (inl (mid, gives, is)) = absurd gives
move_ends c d looks (inl (mid, gives, is)) = absurd gives
move_ends c d takes_turn (inl (mid, gives, is)) = absurd gives
move_ends c d (gives_marks range) (inr (quiet, event)) = absurd event
move_ends c d (gives_part p pieces to) (inr (quiet, event)) = absurd event
move_ends c d (does deed bytes) (inr (quiet, event)) = absurd event
move_ends c d goes_on (inr (quiet, event)) = absurd event
move_ends c d loses (inr (quiet, (lost, at, is))) = ap (λ (v : Course). v.ends) (sym is)
move_ends c d (takes_end e) (inr (quiet, (none, ends, is))) = ends
move_ends c d looks (inr (quiet, (none, ends, by, is))) = ap (λ (v : Course). v.ends) (sym is)
move_ends c d takes_turn (inr (quiet, (mid, none, ends, by, next, turns, is))) = ap (λ (v : Course). v.ends) (sym is)

pub moves_ends : (c d : Course) (ms : List Move) → Moves c ms d → c.ends ≡ flat_map ends_of ms ++ d.ends
moves_ends c d [] is = ap (λ (v : Course). v.ends) (sym is)
moves_ends c d (m ∷ ms) (mid, first, rest) = move_ends c mid m first
    ∙ ap (λ (es : List EndRow). ends_of m ++ es) (moves_ends mid d ms rest)
    ∙ sym (append_assoc (ends_of m) (flat_map ends_of ms) d.ends)
