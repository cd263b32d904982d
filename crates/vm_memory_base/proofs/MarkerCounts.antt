-- The markers of a tracked bitmap are counted, each once, by the views of its seats.
use Rattle.std.proofs.Common.{◌≡◌, ◌≢◌, ℕ, zero, suc, ◌+◌, ◌≤◌, ◌<◌, List, [], ◌∷◌, ◌++◌, All, length, get_or, set, refl, sym, ap, ◌∙◌, subst, arith}
use Rattle.std.specs.List.{sum_by}
use Rattle.std.proofs.lemmas.List.Sums.{sum_by-cons, sum_by_push}
use Rattle.std.proofs.lemmas.List.Elements.{All-push, All-set, All-get_or}
use mathlib.Core.Option.{some, some-injective, some-ne-none}
use lib.ListN.{get_elem?}
use Rattle.vm_memory_base.specs.Notes.{IsNoted}
use Rattle.vm_memory_base.specs.declared.bitmap.tracked.view.View.{View}
use Rattle.vm_memory_base.specs.Tracked.{IsMarked, AreCounted, HasAllMarkers, new_marker, after_deals}

abbrev pub markers_of : View → ℕ
markers_of v = v.markers

-- a view that counts no marker has no marks
abbrev pub IsIdle : View → Type 0
IsIdle v = v.markers ≡ 0 → v.marks ≡ []

-- ---- lists

sum_put : {A : Type 0} (f : A → ℕ) (l : List A) (i : ℕ) (a b : A) → get_elem? l i ≡ some a
    → sum_by f (set l i b) + f a ≡ sum_by f l + f b
sum_put f [] i a b e = absurd (some-ne-none a (sym e))
sum_put f (x ∷ xs) zero a b e =
    let same : f x ≡ f a = ap f (some-injective x a e) in
    omega (arith, same, sum_by-cons f b xs, sum_by-cons f x xs)
sum_put f (x ∷ xs) (suc i) a b e =
    omega (arith, sum_put f xs i a b e, sum_by-cons f x (set xs i b), sum_by-cons f x xs)

sum_at : {A : Type 0} (f : A → ℕ) (l : List A) (i : ℕ) (a : A) → get_elem? l i ≡ some a → f a ≤ sum_by f l
sum_at f [] i a e = absurd (some-ne-none a (sym e))
sum_at f (x ∷ xs) zero a e =
    let same : f x ≡ f a = ap f (some-injective x a e) in omega (arith, same, sum_by-cons f x xs)
sum_at f (x ∷ xs) (suc i) a e = omega (arith, sum_at f xs i a e, sum_by-cons f x xs)

within : {A : Type 0} (l : List A) (i : ℕ) (a : A) → get_elem? l i ≡ some a → i < length l
within [] i a e = absurd (some-ne-none a (sym e))
within (x ∷ xs) zero a e = omega arith
within (x ∷ xs) (suc i) a e = omega (arith, within xs i a e)

found_at : {A : Type 0} (l : List A) (i : ℕ) (a d : A) → get_elem? l i ≡ some a → get_or l i d ≡ a
found_at [] i a d e = absurd (some-ne-none a (sym e))
found_at (x ∷ xs) zero a d e = some-injective x a e
found_at (x ∷ xs) (suc i) a d e = found_at xs i a d e

all_at : {A : Type 0} (P : A → Type 0) (l : List A) (i : ℕ) (a : A) → get_elem? l i ≡ some a → All P l → P a
all_at P l i a e all = subst P (found_at l i a a e) (All-get_or P l i a (within l i a e) all)

-- ---- views

-- the views count so many markers more than were dealt
abbrev pub CountMore : ℕ → List View → Type 0
CountMore more [] = ⊥
CountMore more (v ∷ vs) = (v.dealt + more ≡ v.markers + sum_by markers_of vs) × All IsIdle vs

pub counted_more : (views : List View) → AreCounted views → CountMore 0 views
counted_more [] h = absurd h
counted_more (v ∷ vs) h = (omega (arith, h.0), h.1)

pub counted_exactly : (views : List View) → CountMore 0 views → AreCounted views
counted_exactly [] h = absurd h
counted_exactly (v ∷ vs) h = (omega (arith, h.0), h.1)

-- a view in the place of another
pub put_counts : (views : List View) (id : ℕ) (v u : View) (more after : ℕ) → get_elem? views id ≡ some v
    → (id ≡ 0 → u.dealt ≡ v.dealt) → (IsIdle v → IsIdle u) → more + u.markers ≡ after + v.markers
    → CountMore more views → CountMore after (set views id u)
put_counts [] id v u more after at same idle sums h = absurd h
put_counts (x ∷ xs) zero v u more after at same idle sums h =
    let is = some-injective x v at in
    let dealt : x.dealt ≡ u.dealt = ap (λ (y : View). y.dealt) is ∙ sym (same refl) in
    let markers : x.markers ≡ v.markers = ap markers_of is in (omega (arith, h.0, dealt, markers, sums), h.1)
put_counts (x ∷ xs) (suc id) v u more after at same idle sums h =
    let sum = sum_put markers_of xs id v u at in
    (omega (arith, h.0, sum, sums), All-set IsIdle xs id u (idle (all_at IsIdle xs id v at h.1)) h.1)

-- one that counts as many
pub put_counted : (views : List View) (id : ℕ) (v u : View) → get_elem? views id ≡ some v
    → (id ≡ 0 → u.dealt ≡ v.dealt) → (IsIdle v → IsIdle u) → u.markers ≡ v.markers
    → AreCounted views → AreCounted (set views id u)
put_counted views id v u at same idle markers h =
    counted_exactly (set views id u)
    (put_counts views id v u 0 0 at same idle (omega (arith, markers)) (counted_more views h))

-- one more view, which counts none
pub added_counted : (views : List View) (x : View) → x.markers ≡ 0 → x.marks ≡ [] → AreCounted views
    → AreCounted (views ++ x ∷ [])
added_counted [] x none_there idle h = absurd h
added_counted (v ∷ vs) x none_there idle h = (
  omega (arith, h.0, none_there, sum_by_push markers_of vs x),
  All-push IsIdle vs x h.1 (λ _. idle),
)

-- one more marker
pub dealt_counted : (views : List View) (v : View) → get_elem? views 0 ≡ some v → AreCounted views
    → AreCounted (set views 0 (after_deals 1 v) ++ new_marker v.count ∷ [])
dealt_counted [] v at h = absurd h
dealt_counted (x ∷ xs) v at h =
    let is = some-injective x v at in
    let dealt : x.dealt ≡ v.dealt = ap (λ (y : View). y.dealt) is in
    let markers : x.markers ≡ v.markers = ap markers_of is in (
      omega (arith, h.0, dealt, markers, sum_by_push markers_of xs (new_marker v.count)),
      All-push IsIdle xs (new_marker v.count) h.1 (λ none_there. absurd (omega arith)),
    )

-- where the first seat counts all that it dealt, no other has marks
none_else : (views : List View) (v : View) → get_elem? views 0 ≡ some v → AreCounted views → HasAllMarkers v
    → (id : ℕ) (x : View) → get_elem? views id ≡ some x → id ≢ 0 → x.marks ≡ []
none_else [] v at h all id x e ne = absurd h
none_else (y ∷ ys) v at h all zero x e ne = absurd (ne refl)
none_else (y ∷ ys) v at h all (suc id) x e ne =
    let is = some-injective y v at in
    let dealt : y.dealt ≡ v.dealt = ap (λ (z : View). z.dealt) is in
    let markers : y.markers ≡ v.markers = ap markers_of is in
    let whole : v.markers ≡ v.dealt = all in
    all_at IsIdle ys id x e h.1 (omega (arith, h.0, dealt, markers, whole, sum_at markers_of ys id x e))

-- so what someone marked the first seat has noted
pub marked_by_first : (views : List View) (v : View) → get_elem? views 0 ≡ some v → AreCounted views
    → HasAllMarkers v → (w r p : ℕ) → IsMarked views w r p → IsNoted w r p v.marks
marked_by_first views v at h all w r p (zero, x, e, noted) =
    subst (λ (y : View). IsNoted w r p y.marks) (some-injective x v (sym e ∙ at)) noted
marked_by_first views v at h all w r p (suc id, x, e, noted) =
    absurd (subst (IsNoted w r p) (none_else views v at h all (suc id) x e (λ n. omega arith)) noted)
