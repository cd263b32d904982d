-- Elements of lists by their numbers.
use Rattle.std.proofs.Common.{◌≡◌, ℕ, List, length, map, Option, None, Some, IfSome, All, refl, ap, ◌∙◌, subst, get_or}
use Rattle.std.specs.declared.alloc.Global.{Global}
use Rattle.std.specs.declared.sync.Arc.{Arc}
use Rattle.std.proofs.lemmas.Option.{slice_get-map, slice_get-get_or, slice_get_read, slice_get_within, get_or_from_slice_get}
use Rattle.std.proofs.lemmas.List.Elements.{All-get_or}
use Rattle.std.specs.List.{slice_get}
use Rattle.std.specs.Slice.{IsItemAt}
use Rattle.std.specs.Borrow.{Bor}

-- the element that `get` lends
pub item_at : {X : Type 0} (xs ys : List X) (i : ℕ) (r : Bor X) → ys ≡ xs → IsItemAt ys i (Some r)
    → slice_get xs i ≡ Some r.now
item_at xs ys i r same h =
    slice_get_read xs (length ys) i r.now (ap length same) h.3.0 (h.1 ∙ ap (λ (zs : List _). get_or zs i r.now) same)

-- the value of a share that a list of shares has
pub value_of : {X : Type 0} (rs : List (Arc X Global)) (i : ℕ) (r : Arc X Global) → slice_get rs i ≡ Some r
    → slice_get (map (λ (q : Arc X Global). q.value) rs) i ≡ Some r.value
value_of {X} rs i r at = rw (slice_get-map (λ (q : Arc X Global). q.value) rs i, at) refl

-- what holds of each element holds of one by its number
pub All-slice_get : {X : Type 0} (P : X → Type 0) (xs : List X) (i : ℕ) (x : X) → slice_get xs i ≡ Some x → All P xs
    → P x
All-slice_get P xs i x e all =
    subst P (get_or_from_slice_get xs i x x e) (All-get_or P xs i x (slice_get_within xs i x e) all)

-- what holds of the value of each share holds of one that `get` lends
pub All-item : {X : Type 0} (P : X → Type 0) (rs ys : List (Arc X Global)) (i : ℕ) (o : Option (Bor (Arc X Global)))
    → ys ≡ rs → IsItemAt ys i o → All P (map (λ (q : Arc X Global). q.value) rs) → IfSome o (λ r. P r.now.value)
All-item P rs ys i None same h all = tt
All-item P rs ys i (Some r) same h all =
    All-slice_get P (map (λ (q : Arc _ Global). q.value) rs) i r.now.value
    (value_of rs i r.now (item_at rs ys i r same h)) all

pub All-of_map : {X Y : Type 0} (f : Y → X) (P : X → Type 0) (ys : List Y) → All P (map f ys) → All (λ y. P (f y)) ys
All-of_map f P ys all = λ k d below.
    All-slice_get P (map f ys) k (f (get_or ys k d)) (rw (slice_get-map f ys k, slice_get-get_or ys k d below) refl) all
