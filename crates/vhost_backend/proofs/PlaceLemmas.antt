-- Queues are told where rings lie.
use Rattle.std.proofs.Common.{◌≡◌, ◌∙◌, ℕ, zero, suc, ◌<◌, ◌==◌, ◌&&◌, Bool, true, false, List, [], ◌∷◌, ◌++◌, length, replicate, set, Option, Some, None, Result, Ok, Err, is_ok, if◌then◌else◌, refl, ap, sym, subst, arith, inl, inr}
use Rattle.std.specs.List.{slice_get, slice_index_or}
use Rattle.std.proofs.Math.ListN.{length-replicate, length-set}
use Rattle.std.proofs.lemmas.Bool.{cases_eq, cases_lt, eq-eqb, ne_eqb}
use Rattle.std.proofs.lemmas.List.{append-nil}
use Rattle.std.proofs.lemmas.Option.{slice_get_cases, slice_get_within}
use Rattle.vhost_message.specs.FrontendReq.{descriptors_of, request_of}
use Rattle.vhost_message.specs.declared.frontend_req.FrontendReq.{FrontendReq}
use Rattle.vhost_message.specs.declared.header.Header.{Header}
use Rattle.vhost_message.specs.declared.refusal.Refusal.{Refusal}
use Rattle.vhost_message.specs.declared.refusal.Refusal.TheVariants.{Descriptors}
use Rattle.vhost_user.specs.Connection.{Connection, served}
use Rattle.vhost_user.specs.Running.{running}
use Rattle.vhost_backend.proofs.AnswerLemmas.{rebased_taken, refreshed_taken}
use Rattle.vhost_backend.proofs.AtRestLemmas.{all_count}
use Rattle.vhost_backend.proofs.BackendLemmas.{refreshed_length}
use Rattle.vhost_backend.proofs.FitLemmas.{never}
use Rattle.vhost_backend.proofs.MessageLemmas.{becomes, placed_connection, placed_taken}
use Rattle.vhost_backend.proofs.OwnWayLemmas.{get-replicate, get-set_other, get-set_same}
use Rattle.vhost_backend.proofs.RunLemmas.{PlacesKept, step_places}
use Rattle.vhost_backend.specs.Backend.{BackendState, begun, begun_by, begun_or_waits, decoded, finish_by, finished, happened, happened_by, is_due, is_free, is_outer, moved, new_backend, place_by, placed, rebased, refreshed, refused, released, taken_until, to_do, to_place, until_of, waiting, with_outcome}
use Rattle.vhost_backend.specs.Messages.{Happening, Came, Done, Told, HungUp, Lies, after, all_events, all_to_do, own_actions, ring_actions, stepped, told_by, told_last}
use Rattle.vhost_backend.specs.Messages as message
use Rattle.vhost_backend.specs.Ring.{RingState, new_ring}
use Rattle.vhost_backend.specs.Rings.{RingsState, happens, is_stopped_at, nothing}
use Rattle.vhost_backend.specs.declared.backend.Finish.{Finish}
use Rattle.vhost_backend.specs.declared.backend.Outcome.TheVariants.{Stays}
use Rattle.vhost_backend.specs.declared.backend.Place.{Place}
use Rattle.vhost_backend.specs.declared.backend.Placing.{Placing}
use Rattle.vhost_backend.specs.declared.backend.Placing.TheVariants.{Placed, Moved, Fresh}
use Rattle.vhost_backend.specs.declared.backend.Taken.{Taken}
use Rattle.vhost_backend.specs.declared.backend.Taken.TheVariants as taken
use Rattle.vhost_backend.specs.declared.backend.Todo.{Todo}
use Rattle.vhost_backend.specs.declared.backend.Until.{Until}
use Rattle.vhost_backend.specs.declared.rings.Actions.{Actions}
use Rattle.vhost_backend.specs.declared.rings.Event.{Event}

-- ---- what was told

told-append : (i : ℕ) (before : Lies) (xs ys : List Todo)
    → told_last i before (xs ++ ys) ≡ told_last i (told_last i before xs) ys
told-append i before [] ys = refl
told-append i before (x ∷ xs) ys = told-append i (if x.ring == i then told_by x.place before else before) xs ys

-- the queue of each ring that is placed was told where the protocol's state has the ring
abbrev AllTold : Connection → List Placing → (ℕ → Lies) → Type 0
AllTold c placings told = (i : ℕ) → slice_get placings i ≡ Some Placed → told i ≡ Some (running c i)

abbrev ToldIf : Taken → Connection → List Placing → (ℕ → Lies) → Type 0
ToldIf taken.Nothing c placings told = AllTold c placings told
ToldIf (taken.Waits h request until) c placings told = AllTold c placings told
ToldIf (taken.Begun h request) c placings told = Unit {0}
ToldIf taken.Over c placings told = Unit {0}

abbrev ToldIn : BackendState → (ℕ → Lies) → Type 0
ToldIn b told = ToldIf b.taken b.connection b.placings told

-- what one more thing to do tells
abbrev one_more : (ℕ → Lies) → ℕ → Option Place → ℕ → Lies
one_more told ring place i = if ring == i then told_by place (told i) else told i

index_is : (placings : List Placing) (i : ℕ) (p : Placing) → slice_get placings i ≡ Some p
    → slice_index_or placings i Placed ≡ p
index_is [] i p there = absurd (cc)
index_is (x ∷ xs) zero p there = cc
index_is (x ∷ xs) (suc i) p there = index_is xs i p there

-- ---- before something is done for a ring

module _ (b : BackendState) (told : ℕ → Lies) (all : AllTold b.connection b.placings told) (done : Actions) where
  none_told : (i : ℕ) → (if done.ring == i then told i else told i) ≡ told i
  none_told i = go (done.ring == i)
    where
      go : (b : Bool) → (if b then told i else told i) ≡ told i
      go true = refl
      go false = refl

  -- the place that is told, by what was known
  tells : (i : ℕ) (p : Placing) → slice_get b.placings i ≡ Some p
      → told_by (place_by b.connection i p) (told i) ≡ Some (running b.connection i)
  tells i Placed there = all i there
  tells i Moved there = refl
  tells i Fresh there = refl

  placed_told : AllTold b.connection (placed b done).placings (one_more told done.ring (to_place b done))
  placed_told = go (length done.actions == 0)
    where
      other : (i : ℕ) → (done.ring ≡ i → ⊥) → (place : Option Place) → one_more told done.ring place i ≡ told i
      other i differs place = rw (ne_eqb done.ring i differs) refl

      own : (i : ℕ) → done.ring ≡ i → slice_get (set b.placings done.ring Placed) i ≡ Some Placed
          → one_more told done.ring (place_by b.connection done.ring (slice_index_or b.placings done.ring Placed)) i
          ≡ Some (running b.connection i)
      own i same there = subst (λ k. one_more told done.ring
          (place_by b.connection done.ring (slice_index_or b.placings done.ring Placed)) k
          ≡ Some (running b.connection k)) same (elim (slice_get_cases b.placings done.ring).1 [
            | inl (p, inside, found, rest) ↦
                rw (eq-eqb done.ring done.ring refl, index_is b.placings done.ring p found) (tells done.ring p found)
            | inr (past, none) ↦ absurd (omega (
              arith,
              slice_get_within (set b.placings done.ring Placed) i Placed there,
              same,
              past,
              length-set b.placings done.ring Placed,
            ))
          ])

      go : (none : Bool) → (let new : BackendState = if none then b
          else record b { placings = set b.placings done.ring Placed } in
          let place : Option Place = if none then None
          else place_by b.connection done.ring (slice_index_or b.placings done.ring Placed) in
          AllTold b.connection new.placings (one_more told done.ring place))
      go true i there = none_told i ∙ all i there
      go false i there = elim (cases_eq done.ring i) [
        | inl same ↦ own i same there
        | inr differs ↦
            other i differs (place_by b.connection done.ring (slice_index_or b.placings done.ring Placed))
            ∙ all i (sym (get-set_other b.placings done.ring i Placed (λ same. differs (sym same))) ∙ there)
      ]

-- ---- messages

begun_told : (b : BackendState) (h : Header) (request : FrontendReq) (payload : List ℕ) (told : ℕ → Lies)
    → AllTold b.connection b.placings told → ToldIn (begun b h request payload).0 told
begun_told b h request payload told all = go (served b.connection request payload)
  where
    go : (o : Result Connection Refusal) → ToldIn (begun_by b h request o).0 told
    go (Ok new) = tt
    go (Err e) = all

due_told : (b : BackendState) (h : Header) (request : FrontendReq) (payload : List ℕ) (until : Until) (due : Bool)
    (told : ℕ → Lies) → AllTold b.connection b.placings told
    → ToldIn (begun_or_waits b h request payload until due).0 told
due_told b h request payload until true told all = begun_told b h request payload told all
due_told b h request payload until false told all = all

-- what is told by a step
abbrev told_after : (ℕ → Lies) → List Todo → ℕ → Lies
told_after told todos i = told_last i (told i) todos

nothing_told : (told : ℕ → Lies) (todo : Todo) → todo.place ≡ None → (i : ℕ) → told_after told (todo ∷ []) i ≡ told i
nothing_told told todo none i = rw none (go (todo.ring == i))
  where
    go : (b : Bool) → (if b then told i else told i) ≡ told i
    go true = refl
    go false = refl

all_same : (c : Connection) (placings : List Placing) (one other : ℕ → Lies) → ((i : ℕ) → other i ≡ one i)
    → AllTold c placings one → AllTold c placings other
all_same c placings one other same all i there = same i ∙ all i there

if_same : (t : Taken) (c : Connection) (placings : List Placing) (one other : ℕ → Lies) → ((i : ℕ) → other i ≡ one i)
    → ToldIf t c placings one → ToldIf t c placings other
if_same taken.Nothing c placings one other same all = all_same c placings one other same all
if_same (taken.Waits h request until) c placings one other same all = all_same c placings one other same all
if_same (taken.Begun h request) c placings one other same all = tt
if_same taken.Over c placings one other same all = tt

all_by : (c other : Connection) (placings : List Placing) (told : ℕ → Lies) → c ≡ other → AllTold other placings told
    → AllTold c placings told
all_by c other placings told same all = rw same all

module _ (b : BackendState) (told : ℕ → Lies) (is_told : ToldIn b told) where
  message_told : (h : Header) (payload : List ℕ) (n : ℕ) (used : Bool)
      → ToldIn (stepped b (Came h payload n used)) (told_after told (message.to_do b (Came h payload n used)))
  message_told h payload n used = go b.taken refl
    where
      stays : (todo : Todo) → todo.place ≡ None → ToldIn b (told_after told (todo ∷ []))
      stays todo none = if_same b.taken b.connection b.placings told (told_after told (todo ∷ []))
          (nothing_told told todo none) is_told

      decoded_told : b.taken ≡ taken.Nothing → (o : Result FrontendReq Refusal) → (let t = decoded b h payload n used o in
          ToldIn t.0 (told_after told (t.1 ∷ [])))
      decoded_told is (Err e) = stays (refused b h e) refl
      decoded_told is (Ok request) = right (n == descriptors_of request)
        where
          right : (r : Bool) → (let t = if r then taken_until b h request payload (until_of b used request)
              else (b, refused b h Descriptors) in ToldIn t.0 (told_after told (t.1 ∷ [])))
          right false = stays (refused b h Descriptors) refl
          right true =
              let until = until_of b used request in
              let t = waiting b until in
              let all : AllTold b.connection b.placings told = rw is at is_told in
              due_told (placed t.0 t.1) h request payload until (is_due until t.1)
              (one_more told t.1.ring (to_place t.0 t.1))
              (all_by (placed t.0 t.1).connection b.connection (placed t.0 t.1).placings
              (one_more told t.1.ring (to_place t.0 t.1)) (placed_connection t.0 t.1) (placed_told t.0 told all t.1))

      go : (t : Taken) → b.taken ≡ t → (let u = if is_free b.taken
          then decoded b h payload n used (request_of h payload) else (b, to_do (nothing 0) None Stays) in
          ToldIn u.0 (told_after told (u.1 ∷ [])))
      go taken.Nothing is = rw (ap is_free is) (decoded_told is (request_of h payload))
      go taken.Over is = rw (ap is_free is) (stays (to_do (nothing 0) None Stays) refl)
      go (taken.Waits h' request until) is = rw (ap is_free is) (stays (to_do (nothing 0) None Stays) refl)
      go (taken.Begun h' request) is = rw (ap is_free is) (stays (to_do (nothing 0) None Stays) refl)

  happened_told : (old : BackendState) (done : Actions) (t : Taken) → old.taken ≡ t → (more : ℕ → Lies)
      → ToldIf t old.connection old.placings more → ToldIn (happened_by old done t).0 more
  happened_told old done taken.Nothing is more all = rw is all
  happened_told old done taken.Over is more all = rw is tt
  happened_told old done (taken.Begun h request) is more all = rw is tt
  happened_told old done (taken.Waits h request until) is more all =
      due_told old h request [] until (is_due until done) more all

  event_told : (e : Event) → ToldIn (stepped b (Told e)) (told_after told (message.to_do b (Told e)))
  event_told e = go (is_outer e)
    where
      t : RingsState × Actions
      t = happens b.rings e

      old : BackendState
      old = record b { rings = t.0 }

      more : ℕ → Lies
      more = one_more told t.1.ring (to_place old t.1)

      by : (u : Taken) → b.taken ≡ u → ToldIf u (placed old t.1).connection (placed old t.1).placings more
      by taken.Nothing is = all_by (placed old t.1).connection b.connection (placed old t.1).placings more
          (placed_connection old t.1) (placed_told old told (rw is at is_told) t.1)
      by (taken.Waits h request until) is = all_by (placed old t.1).connection b.connection (placed old t.1).placings more
          (placed_connection old t.1) (placed_told old told (rw is at is_told) t.1)
      by (taken.Begun h request) is = tt
      by taken.Over is = tt

      go : (outer : Bool) → (let u = if outer then with_outcome t.1 (to_place old t.1) (happened (placed old t.1) t.1)
          else (b, to_do (nothing 0) None Stays) in ToldIn u.0 (told_after told (u.1 ∷ [])))
      go true = happened_told (placed old t.1) t.1 (placed old t.1).taken refl more
          (subst (λ u. ToldIf u (placed old t.1).connection (placed old t.1).placings more) (sym (placed_taken old t.1))
          (by b.taken refl))
      go false = if_same b.taken b.connection b.placings told (told_after told (to_do (nothing 0) None Stays ∷ []))
          (nothing_told told (to_do (nothing 0) None Stays) refl) is_told

-- ---- the end of a message

not_placed : (p : Placing) → moved p ≡ Placed → ⊥
not_placed Placed is = absurd (cc)
not_placed Moved is = absurd (cc)
not_placed Fresh is = absurd (cc)

refreshed_placing : (b : BackendState) (i : ℕ) (on stopped : Bool)
    → (let p : Placing = if on && stopped then Fresh else moved (slice_index_or b.placings i Placed) in p ≡ Placed) → ⊥
refreshed_placing b i true true is = absurd (cc)
refreshed_placing b i true false is = not_placed (slice_index_or b.placings i Placed) is
refreshed_placing b i false stopped is = not_placed (slice_index_or b.placings i Placed) is

none_placed : (n : ℕ) (b : BackendState) (i : ℕ) → i < n → slice_get (refreshed n b).placings i ≡ Some Placed → ⊥
none_placed zero b i below there = absurd (omega arith)
none_placed (suc n) b i below there =
    let before = refreshed n b in
    let on = is_ok (running before.connection n) in
    let p : Placing = if on && is_stopped_at before.rings n then Fresh
    else moved (slice_index_or before.placings n Placed) in
    elim (cases_eq n i) [
      | inl same ↦
          let here : slice_get (set before.placings n p) n ≡ Some Placed =
          subst (λ k. slice_get (set before.placings n p) k ≡ Some Placed) (sym same) there in
          elim (slice_get_cases before.placings n).1 [
            | inl (was, inside, found, rest) ↦
                let both : Some p ≡ Some Placed = sym (get-set_same before.placings n p was found) ∙ here in
                let is : p ≡ Placed = cc in
                refreshed_placing before n on (is_stopped_at before.rings n) is
            | inr (past, none) ↦ absurd (omega (
              arith,
              slice_get_within (set before.placings n p) n Placed here,
              past,
              length-set before.placings n p,
            ))
          ]
      | inr differs ↦ elim (cases_lt i n) [
        | inl less ↦ none_placed n b i less
            (sym (get-set_other before.placings n i p (λ same. differs (sym same))) ∙ there)
        | inr past ↦ let same : n ≡ i = omega arith in absurd (differs same)
      ]
    ]

finished_told : (request : FrontendReq) (h : Header) (t : BackendState × Bool) (told : ℕ → Lies)
    → t.0.taken ≡ taken.Nothing → ToldIn (finished request h t).0 told
finished_told request h (b, false) told is = tt
finished_told request h (b, true) told is =
    let n = length b.placings in
    let new = refreshed n b in
    by new.taken (refreshed_taken n b ∙ is) new.connection new.placings (λ i there. absurd (none_placed n b i
    (omega (arith, slice_get_within new.placings i Placed there, refreshed_length n b)) there))
  where
    by : (t : Taken) → t ≡ taken.Nothing → (c : Connection) (placings : List Placing) → AllTold c placings told
        → ToldIf t c placings told
    by t is c placings all = rw is all

end_told : (b : BackendState) (told : ℕ → Lies) (end : Finish) (t : Taken) → b.taken ≡ t → ToldIn b told
    → ToldIn (finish_by b end t).0 told
end_told b told end taken.Nothing is all = all
end_told b told end taken.Over is all = all
end_told b told end (taken.Waits h request until) is all = all
end_told b told end (taken.Begun h request) is all = finished_told request h (rebased (released b) request end) told
    (rebased_taken (released b) request end)

-- ---- all of it

step_told : (b : BackendState) (told : ℕ → Lies) (x : Happening) → ToldIn b told
    → ToldIn (stepped b x) (told_after told (message.to_do b x))
step_told b told (Came h payload n used) all = message_told b told all h payload n used
step_told b told (Done end) all = end_told b told end b.taken refl all
step_told b told (Told e) all = event_told b told all e
step_told b told HungUp all = tt

all_told : (b : BackendState) (told : ℕ → Lies) (xs : List Happening) → ToldIn b told
    → ToldIn (after xs b) (told_after told (all_to_do xs b))
all_told b told [] all = all
all_told b told (x ∷ xs) all =
    let new = stepped b x in
    if_same (after xs new).taken (after xs new).connection (after xs new).placings
    (told_after (told_after told (message.to_do b x)) (all_to_do xs new)) (told_after told (all_to_do (x ∷ xs) b))
    (λ i. told-append i (told i) (message.to_do b x) (all_to_do xs new))
    (all_told new (told_after told (message.to_do b x)) xs (step_told b told x all))

-- what is told before something is done
to_do_told : (b : BackendState) (told : ℕ → Lies) → AllTold b.connection b.placings told → (done : Actions) (i : ℕ)
    → i < length b.placings → done.ring ≡ i → (length done.actions == 0) ≡ false
    → one_more told done.ring (to_place b done) i ≡ Some (running b.connection i)
to_do_told b told all done i inside same some =
    placed_told b told all done i (rw (some, same) (elim (slice_get_cases b.placings i).1 [
      | inl (p, below, found, rest) ↦ get-set_same b.placings i Placed p found
      | inr (past, none) ↦ absurd (omega (arith, inside, past))
    ]))

-- ---- before something is done for a ring

-- what is done for one is done by that to-do
does : (todo : Todo) (i : ℕ) → (length (own_actions i todo ++ []) == 0) ≡ false
    → (todo.ring ≡ i) × ((length todo.actions == 0) ≡ false)
does todo i some = elim (cases_eq todo.ring i) [
  | inl same ↦ (same, sym (ap (λ l. length l == 0) (all same)) ∙ some)
  | inr differs ↦ never (length (own_actions i todo ++ []) == 0) some (ap (λ l. length l == 0) (none differs))
]
  where
    all : todo.ring ≡ i → own_actions i todo ++ [] ≡ todo.actions
    all same = append-nil (own_actions i todo) ∙ rw (same, eq-eqb i i refl) refl

    none : (todo.ring ≡ i → ⊥) → own_actions i todo ++ [] ≡ []
    none differs = append-nil (own_actions i todo) ∙ rw (ne_eqb todo.ring i differs) refl

all_places : (b : BackendState) (xs : List Happening) → PlacesKept b (after xs b)
all_places b [] = refl
all_places b (x ∷ xs) = all_places (stepped b x) xs ∙ step_places b x

module _ (b : BackendState) (told : ℕ → Lies) (all : AllTold b.connection b.placings told) (i : ℕ)
    (inside : i < length b.placings) where
  -- by something that happens
  abbrev TellsFirst : List Todo → Type 0
  TellsFirst todos = (length (ring_actions i todos) == 0) ≡ false
      → told_last i (told i) todos ≡ Some (running b.connection i)

  quiet_tells : (todo : Todo) → todo.actions ≡ [] → TellsFirst (todo ∷ [])
  quiet_tells todo none some = let (same, acts) = does todo i some in
      never (length todo.actions == 0) acts (ap (λ l. length l == 0) none)

  decoded_tells : (h : Header) (payload : List ℕ) (n : ℕ) (used : Bool) (o : Result FrontendReq Refusal)
      → TellsFirst ((decoded b h payload n used o).1 ∷ [])
  decoded_tells h payload n used (Err e) = quiet_tells (refused b h e) refl
  decoded_tells h payload n used (Ok request) = right (n == descriptors_of request)
    where
      right : (r : Bool) → TellsFirst ((if r then taken_until b h request payload (until_of b used request)
          else (b, refused b h Descriptors)).1 ∷ [])
      right false some = quiet_tells (refused b h Descriptors) refl some
      right true some =
          let t = waiting b (until_of b used request) in
          let (same, acts) = does (taken_until b h request payload (until_of b used request)).1 i some in
          to_do_told t.0 told all t.1 i inside same acts

  tells_first : (x : Happening) → TellsFirst (message.to_do b x)
  tells_first (Came h payload n used) some = go (is_free b.taken) some
    where
      go : (free : Bool) → TellsFirst ((if free then decoded b h payload n used (request_of h payload)
          else (b, to_do (nothing 0) None Stays)).1 ∷ [])
      go true some = decoded_tells h payload n used (request_of h payload) some
      go false some = quiet_tells (to_do (nothing 0) None Stays) refl some
  tells_first (Done end) some = absurd (cc)
  tells_first HungUp some = absurd (cc)
  tells_first (Told e) some = go (is_outer e) some
    where
      t : RingsState × Actions
      t = happens b.rings e

      old : BackendState
      old = record b { rings = t.0 }

      go : (outer : Bool) → TellsFirst ((if outer
          then with_outcome t.1 (to_place old t.1) (happened (placed old t.1) t.1)
          else (b, to_do (nothing 0) None Stays)).1 ∷ [])
      go false some = quiet_tells (to_do (nothing 0) None Stays) refl some
      go true some =
          let (same, acts) = does (with_outcome t.1 (to_place old t.1) (happened (placed old t.1) t.1)).1 i some in
          to_do_told old told all t.1 i inside same acts

pub told_where : (c : Connection) (ids : ℕ) (xs : List Happening) (x : Happening) (i : ℕ) (ring : RingState)
    → (let b = after xs (new_backend c ids) in is_free b.taken ≡ true → slice_get b.rings.rings i ≡ Some ring
    → (length (ring_actions i (message.to_do b x)) == 0) ≡ false
    → told_last i None (all_to_do xs (new_backend c ids) ++ message.to_do b x) ≡ Some (running b.connection i))
told_where c ids xs x i ring free there some =
    let b0 = new_backend c ids in
    let b = after xs b0 in
    let told : ℕ → Lies = told_after (λ j. None) (all_to_do xs b0) in
    let known : ToldIn b told = all_told b0 (λ j. None) xs (λ j placed. absurd (not_new j placed)) in
    let rings : length b.rings.rings ≡ length b0.rings.rings =
    ap (λ s. length s.rings) (becomes b0 xs) ∙ all_count b0.rings (all_events xs b0) in
    let count : length b.placings ≡ length b.rings.rings = all_places b0 xs
    ∙ length-replicate (length c.vrings) Moved ∙ sym (rings ∙ length-replicate (length c.vrings) (new_ring ids)) in
    told-append i None (all_to_do xs b0) (message.to_do b x)
    ∙ tells_first b told (by b.placings b.connection told b.taken free known) i
    (omega (arith, slice_get_within b.rings.rings i ring there, count)) x some
  where
    not_new : (j : ℕ) → slice_get (replicate (length c.vrings) Moved) j ≡ Some Placed → ⊥
    not_new j placed = let bad : Placed ≡ Moved = get-replicate (length c.vrings) j Moved Placed placed in absurd (cc)

    by : (placings : List Placing) (d : Connection) (told : ℕ → Lies) (t : Taken) → is_free t ≡ true
        → ToldIf t d placings told → AllTold d placings told
    by placings d told taken.Nothing free all = all
    by placings d told taken.Over free all = absurd (cc)
    by placings d told (taken.Waits h request until) free all = absurd (cc)
    by placings d told (taken.Begun h request) free all = absurd (cc)
