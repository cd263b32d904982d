-- Ranges and queues that lead where they are said to lead, and what leaves them so.
use Rattle.std.proofs.Common.{◌≡◌, ◌∙◌, ◌⊎◌, ℕ, zero, suc, Bool, false, List, [], ◌∷◌, All, Contains, Option, Some, None, IfSome, refl, ap, sym, subst, inl, inr}
use Rattle.std.specs.List.{list_any, slice_get, slice_set}
use Rattle.std.proofs.lemmas.Bool.{cases_eq, or_parts}
use Rattle.std.proofs.lemmas.List.Elements.{All-cons, All-head, All-nil, All-tail}
use Rattle.vm_memory_base.specs.Table.{Says}
use Rattle.vhost_iotlb.specs.Kept.{IsCurrent, IsReal, after_change, differs}
use Rattle.vhost_iotlb.specs.declared.kept.Change.{Change}
use Rattle.vhost_iotlb.specs.declared.kept.Kept.{Kept}
use Rattle.vhost_backend.proofs.OwnWayLemmas.{get-set_other, get-set_same}
use Rattle.vhost_backend.specs.BlockQueue.{BlockQueueState}
use Rattle.vhost_backend.specs.Current.{FetchStands, IsKeptBy, IsKeptFor, QueueStands, QueuesStand, RequestStands, Stands}
use Rattle.vhost_backend.specs.Fetch.{FetchState}
use Rattle.vhost_backend.specs.Reach.{ReachState}
use Rattle.vhost_backend.specs.declared.block_queue.Asked.{Asked}

-- ---- lists

pub some_is : {X : Type 0} (a b : X) → Some a ≡ Some b → a ≡ b
some_is a b is = cc

-- none passes of which some would
pub none_pass : {X : Type 0} (p : X → Bool) (xs : List X) → list_any p xs ≡ false → (i : ℕ) (x : X)
    → slice_get xs i ≡ Some x → p x ≡ false
none_pass p [] none i x there = absurd (cc)
none_pass p (y ∷ ys) none zero x there =
    ap p (sym (some_is y x there)) ∙ (or_parts (p y) (list_any p ys) none).0
none_pass p (y ∷ ys) none (suc i) x there = none_pass p ys (or_parts (p y) (list_any p ys) none).1 i x there

-- what holds of all of which none passes holds of these that do not pass
pub all_but : {X : Type 0} (P Q : X → Type 0) (p : X → Bool) → ((x : X) → P x → p x ≡ false → Q x) → (xs : List X)
    → All P xs → list_any p xs ≡ false → All Q xs
all_but P Q p goes [] all none = All-nil Q
all_but P Q p goes (x ∷ xs) all none =
    let (here, rest) = or_parts (p x) (list_any p xs) none in
    All-cons Q x xs (goes x (All-head P x xs all) here) (all_but P Q p goes xs (All-tail P x xs all) rest)

-- ---- ranges

-- what is taken from the law of kept ranges: one that does not differ by a change leads where it led
abbrev pub StaysLaw : Type 0
StaysLaw = (f : Says) (c : Change) (k : Kept) → IsReal k → IsCurrent f k → differs c k ≡ false
    → IsCurrent (after_change c f) k

pub stand_after : StaysLaw → (f : Says) (c : Change) (ks : List Kept) → All (Stands f) ks
    → list_any (differs c) ks ≡ false → All (Stands (after_change c f)) ks
stand_after law f c = all_but (Stands f) (Stands (after_change c f)) (differs c)
    (λ k stands same. (stands.0, law f c k stands.0 stands.1 same))

-- ---- queues

-- a fetch is as it was, but for its state, or there is none
abbrev pub FetchLess : Option FetchState → Option FetchState → Type 0
FetchLess o None = Unit {0}
FetchLess o (Some g) = (h : FetchState) × (o ≡ Some h) × (g.kept ≡ h.kept) × (g.goal ≡ h.goal)

-- a request was under way, or goes through no table
abbrev pub AskedLess : List (Option Asked) → List (Option Asked) → Type 0
AskedLess old new = (id : ℕ) (a : Asked) → slice_get new id ≡ Some (Some a)
    → (slice_get old id ≡ Some (Some a)) ⊎ (a.kept ≡ [])

-- the same is kept for a ring, and no more is fetched, nor through a table under way
pub record QueueLess (q q' : BlockQueueState) : Type 0 where
  pub pages : q'.reach.pages ≡ q.reach.pages
  pub rows : q'.reach.rows ≡ q.reach.rows
  pub fetch : FetchLess q.reach.fetch q'.reach.fetch
  pub asked : AskedLess q.asked q'.asked

fetch_itself : (o : Option FetchState) → FetchLess o o
fetch_itself None = tt
fetch_itself (Some g) = (g, refl, refl, refl)

fetch_then : (a b c : Option FetchState) → FetchLess a b → FetchLess b c → FetchLess a c
fetch_then a b None first second = tt
fetch_then a None (Some g) first (h, is, same, goal) = absurd (cc)
fetch_then a (Some k) (Some g) (j, was, kept, fits) (h, is, same, goal) =
    let one : k ≡ h = some_is k h is in (
      j,
      was,
      same ∙ ap (λ (x : FetchState). x.kept) (sym one) ∙ kept,
      goal ∙ ap (λ (x : FetchState). x.goal) (sym one) ∙ fits,
    )

pub queue_itself : (q : BlockQueueState) → QueueLess q q
queue_itself q =
    record { pages = refl; rows = refl; fetch = fetch_itself q.reach.fetch; asked = λ id a there. inl there }

pub unasked : (xs : List (Option Asked)) → AskedLess xs xs
unasked xs id a there = inl there

-- what is kept and fetched is the same
pub alike : (q q' : BlockQueueState) → q'.reach ≡ q.reach → AskedLess q.asked q'.asked → QueueLess q q'
alike q q' is asked = record {
  pages = ap (λ (r : ReachState). r.pages) is;
  rows = ap (λ (r : ReachState). r.rows) is;
  fetch = subst (λ (r : ReachState). FetchLess q.reach.fetch r.fetch) (sym is) (fetch_itself q.reach.fetch);
  asked = asked;
}

pub less_as : (q q' q'' : BlockQueueState) → q'' ≡ q' → QueueLess q q' → QueueLess q q''
less_as q q' q'' is less = subst (QueueLess q) (sym is) less

pub queue_then : (a b c : BlockQueueState) → QueueLess a b → QueueLess b c → QueueLess a c
queue_then a b c first second = record {
  pages = second.pages ∙ first.pages;
  rows = second.rows ∙ first.rows;
  fetch = fetch_then a.reach.fetch b.reach.fetch c.reach.fetch first.fetch second.fetch;
  asked = λ id x there. elim (second.asked id x there) [ inl was ↦ first.asked id x was | inr none ↦ inr none ];
}

-- an element after one was set is that one, or was there
pub set_or_was : {X : Type 0} (xs : List X) (i j : ℕ) (x y : X) → slice_get (slice_set xs i x) j ≡ Some y
    → (y ≡ x) ⊎ (slice_get xs j ≡ Some y)
set_or_was [] i j x y there = inr there
set_or_was (z ∷ zs) zero zero x y there = inl (sym (some_is x y there))
set_or_was (z ∷ zs) zero (suc j) x y there = inr there
set_or_was (z ∷ zs) (suc i) zero x y there = inr there
set_or_was (z ∷ zs) (suc i) (suc j) x y there = set_or_was zs i j x y there

-- a request is forgotten, or one begins that goes through no table
pub forgot_asked : (xs : List (Option Asked)) (i : ℕ) → AskedLess xs (slice_set xs i None)
forgot_asked xs i id a there = elim (set_or_was xs i id None (Some a) there) [
  | inl is ↦ absurd (cc)
  | inr was ↦ inl was
]

pub began_asked : (xs : List (Option Asked)) (i : ℕ) (a : Asked) → a.kept ≡ [] → AskedLess xs (slice_set xs i (Some a))
began_asked xs i a none id b there = elim (set_or_was xs i id (Some a) (Some b) there) [
  | inl is ↦ inr (ap (λ (x : Asked). x.kept) (some_is b a is) ∙ none)
  | inr was ↦ inl was
]

-- ---- queues that stand

fetch_stands : (f : Says) (r r' : ReachState) (o o' : Option FetchState) → r'.pages ≡ r.pages → FetchLess o o'
    → IfSome o (FetchStands f r) → IfSome o' (FetchStands f r')
fetch_stands f r r' o None pages less stands = tt
fetch_stands f r r' None (Some g) pages (h, is, same, goal) stands = absurd (cc)
fetch_stands f r r' (Some k) (Some g) pages (h, is, same, goes) (all, none) =
    let one : k ≡ h = some_is k h is in
    let kept : g.kept ≡ k.kept = same ∙ ap (λ (x : FetchState). x.kept) (sym one) in
    let for : g.goal ≡ k.goal = goes ∙ ap (λ (x : FetchState). x.goal) (sym one) in
    (subst (All (Stands f)) (sym kept) all, λ ring. pages ∙ none (sym for ∙ ring))

request_stands : (f : Says) (a : Asked) → a.kept ≡ [] → RequestStands f a
request_stands f a none = (subst (All (Stands f)) (sym none) (All-nil (Stands f)), inl none)

pub less_stands : (f : Says) (q q' : BlockQueueState) → QueueLess q q' → QueueStands f q → QueueStands f q'
less_stands f q q' less stands = record {
  pages = subst (All (Stands f)) (sym less.pages) stands.pages;
  rows = subst (All (Stands f)) (sym less.rows) stands.rows;
  fetch = fetch_stands f q.reach q'.reach q.reach.fetch q'.reach.fetch less.pages less.fetch stands.fetch;
  asked = λ id a there. elim (less.asked id a there) [
    | inl was ↦ stands.asked id a was
    | inr none ↦ request_stands f a none
  ];
}

-- ---- all queues

abbrev LessAt : Option BlockQueueState → Option BlockQueueState → Type 0
LessAt (Some q) (Some q') = QueueLess q q'
LessAt None None = Unit {0}
LessAt (Some q) None = ⊥
LessAt None (Some q') = ⊥

abbrev pub AllLess : List BlockQueueState → List BlockQueueState → Type 0
AllLess qs qs' = (ring : ℕ) → LessAt (slice_get qs ring) (slice_get qs' ring)

at_itself : (o : Option BlockQueueState) → LessAt o o
at_itself None = tt
at_itself (Some q) = queue_itself q

at_then : (a b c : Option BlockQueueState) → LessAt a b → LessAt b c → LessAt a c
at_then None None None first second = tt
at_then None None (Some z) first second = absurd second
at_then None (Some y) c first second = absurd first
at_then (Some x) None c first second = absurd first
at_then (Some x) (Some y) None first second = absurd second
at_then (Some x) (Some y) (Some z) first second = queue_then x y z first second

pub all_itself : (qs : List BlockQueueState) → AllLess qs qs
all_itself qs ring = at_itself (slice_get qs ring)

pub all_then : (a b c : List BlockQueueState) → AllLess a b → AllLess b c → AllLess a c
all_then a b c first second ring =
    at_then (slice_get a ring) (slice_get b ring) (slice_get c ring) (first ring) (second ring)

pub all_same : (qs qs' : List BlockQueueState) → qs' ≡ qs → AllLess qs qs'
all_same qs qs' is = subst (AllLess qs) (sym is) (all_itself qs)

pub set_less : (qs : List BlockQueueState) (n : ℕ) (q q' : BlockQueueState) → slice_get qs n ≡ Some q → QueueLess q q'
    → AllLess qs (slice_set qs n q')
set_less qs n q q' there less ring = elim (cases_eq ring n) [
  | inl same ↦ subst (λ i. LessAt (slice_get qs i) (slice_get (slice_set qs n q') i)) (sym same)
      (subst (λ o. LessAt o (slice_get (slice_set qs n q') n)) (sym there)
      (subst (LessAt (Some q)) (sym (get-set_same qs n q' q there)) less))
  | inr differs ↦ subst (LessAt (slice_get qs ring)) (sym (get-set_other qs n ring q' differs))
      (at_itself (slice_get qs ring))
]

-- a queue among them, before
was_at : (o : Option BlockQueueState) (q' : BlockQueueState) → LessAt o (Some q')
    → (q : BlockQueueState) × (o ≡ Some q) × QueueLess q q'
was_at None q' less = absurd less
was_at (Some q) q' less = (q, refl, less)

is_at : (o : Option BlockQueueState) (q : BlockQueueState) → LessAt (Some q) o
    → (q' : BlockQueueState) × (o ≡ Some q') × QueueLess q q'
is_at None q less = absurd less
is_at (Some q') q less = (q', refl, less)

pub all_stand : (f : Says) (qs qs' : List BlockQueueState) → AllLess qs qs' → QueuesStand f qs → QueuesStand f qs'
all_stand f qs qs' less stand ring q' there =
    let (q, was, one) = was_at (slice_get qs ring) q' (subst (LessAt (slice_get qs ring)) there (less ring)) in
    less_stands f q q' one (stand ring q was)

pub kept_still : (qs qs' : List BlockQueueState) → AllLess qs qs' → (k : Kept) → IsKeptFor qs k → IsKeptFor qs' k
kept_still qs qs' less k (ring, q, was, kept) =
    let (q', there, one) =
    is_at (slice_get qs' ring) q (subst (λ o. LessAt o (slice_get qs' ring)) was (less ring)) in (
      ring,
      q',
      there,
      elim kept [
        | inl page ↦ inl (subst (λ ks. Contains ks k) (sym one.pages) page)
        | inr row ↦ inr (subst (λ ks. Contains ks k) (sym one.rows) row)
      ],
    )

-- ---- one of the queues

-- a range is kept for another ring
abbrev pub IsOthers : List BlockQueueState → ℕ → Kept → Type 0
IsOthers qs n k =
    (ring : ℕ) × (q : BlockQueueState) × (ring ≡ n → ⊥) × (slice_get qs ring ≡ Some q) × IsKeptBy q.reach k

module _ (qs : List BlockQueueState) (n : ℕ) (q : BlockQueueState) (there : slice_get qs n ≡ Some q) where
  pub own_or_others : (k : Kept) → IsKeptFor qs k → IsOthers qs n k ⊎ IsKeptBy q.reach k
  own_or_others k (ring, p, at, kept) = elim (cases_eq ring n) [
    | inl same ↦ inr (subst (λ (x : BlockQueueState). IsKeptBy x.reach k)
        (some_is p q (sym at ∙ ap (slice_get qs) same ∙ there)) kept)
    | inr differs ↦ inl (ring, p, differs, at, kept)
  ]

  pub kept_after : (q' : BlockQueueState) (k : Kept) → IsOthers qs n k ⊎ IsKeptBy q'.reach k
      → IsKeptFor (slice_set qs n q') k
  kept_after q' k (inl (ring, p, differs, at, kept)) =
      (ring, p, get-set_other qs n ring q' differs ∙ at, kept)
  kept_after q' k (inr kept) = (n, q', get-set_same qs n q' q there, kept)

  pub set_stands : (f : Says) (q' : BlockQueueState) → QueueStands f q' → QueuesStand f qs
      → QueuesStand f (slice_set qs n q')
  set_stands f q' stands all ring p at = elim (cases_eq ring n) [
    | inl same ↦
        let found : slice_get (slice_set qs n q') n ≡ Some p = ap (slice_get (slice_set qs n q')) (sym same) ∙ at in
        subst (QueueStands f) (some_is q' p (sym (get-set_same qs n q' q there) ∙ found)) stands
    | inr differs ↦ all ring p (sym (get-set_other qs n ring q' differs) ∙ at)
  ]

-- ---- with the table of rings

module _ {H : Type 0} (T : H → (Kept → Type 0) → Type 0) (f : Says) where
  -- the table of rings has what is kept for one of them, beside others, and that leads where it is said to
  abbrev pub HoldsOne : (Kept → Type 0) → H → BlockQueueState → Type 0
  HoldsOne S h q = T h (λ k. S k ⊎ IsKeptBy q.reach k) × QueueStands f q

  abbrev pub HoldsAll : H → List BlockQueueState → Type 0
  HoldsAll h qs = T h (IsKeptFor qs) × QueuesStand f qs

module _ {H : Type 0} (T : H → (Kept → Type 0) → Type 0)
    (more : (h : H) (S S' : Kept → Type 0) → ((k : Kept) → S k → S' k) → T h S → T h S') (f : Says) where
  -- one of the queues changes
  pub one_holds : (qs : List BlockQueueState) (n : ℕ) (q q' : BlockQueueState) (old new : H)
      → slice_get qs n ≡ Some q
      → ((S : Kept → Type 0) → HoldsOne T f S old q → HoldsOne T f S new q')
      → HoldsAll T f old qs → HoldsAll T f new (slice_set qs n q')
  one_holds qs n q q' old new there goes (t, stand) =
      let (t', stands) = goes (IsOthers qs n) (
        more old (IsKeptFor qs) (λ k. IsOthers qs n k ⊎ IsKeptBy q.reach k) (own_or_others qs n q there) t,
        stand n q there,
      ) in (
        more new (λ k. IsOthers qs n k ⊎ IsKeptBy q'.reach k) (IsKeptFor (slice_set qs n q'))
            (kept_after qs n q there q') t',
        set_stands qs n q there f q' stands stand,
      )
