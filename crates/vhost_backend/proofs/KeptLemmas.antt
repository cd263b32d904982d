-- Ranges that are kept, or are forgotten, from one of them on.
use Rattle.std.proofs.Common.{◌≡◌, ◌+◌, ◌<◌, ℕ, List, ◌∷◌, length, get_or, drop, Result, Err, MatchResult, add-one, subst, sym}
use Rattle.std.proofs.Math.Seq.{drop-cons}
use Rattle.std.specs.declared.alloc.AllocError.{AllocError}
use Rattle.vhost_iotlb.specs.declared.kept.Kept.{Kept}
use Rattle.vhost_backend.specs.KeptRanges.{ForgetsAll, KeepsAll}
use Rattle.vhost_backend.specs.RingMemory.{MemoryStep, Returned, forgets, keeps}

split_at : (ks : List Kept) (i : ℕ) (d : Kept) → i < length ks → drop i ks ≡ get_or ks i d ∷ drop (i + 1) ks
split_at ks i d below = rw add-one (drop-cons ks i d below)

module _ {H : Type 0} (step : H → (s : MemoryStep) → Returned s → H → Type 0) (ks : List Kept) (i : ℕ) (d : Kept)
    (below : i < length ks) (old mid new : H) (one r : Result (Unit {0}) AllocError) where
  pub keeps_from : step old (keeps (get_or ks i d)) one mid
      → MatchResult one (λ _. KeepsAll step (drop (i + 1) ks) mid r new) (λ e. (r ≡ Err e) × (new ≡ mid))
      → KeepsAll step (drop i ks) old r new
  keeps_from kept rest =
      subst (λ (xs : List Kept). KeepsAll step xs old r new) (sym (split_at ks i d below)) (one, mid, kept, rest)

  pub forgets_from : step old (forgets (get_or ks i d)) one mid
      → MatchResult one (λ _. ForgetsAll step (drop (i + 1) ks) mid r new) (λ e. (r ≡ Err e) × (new ≡ mid))
      → ForgetsAll step (drop i ks) old r new
  forgets_from forgot rest =
      subst (λ (xs : List Kept). ForgetsAll step xs old r new) (sym (split_at ks i d below)) (one, mid, forgot, rest)
