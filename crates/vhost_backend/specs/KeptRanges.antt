-- Ranges of a ring's addresses that are kept, or are forgotten, one after another.
use Rattle.std.specs.Prelude.{◌≡◌, List, [], ◌∷◌, Result, Ok, Err, MatchResult}
use Rattle.std.specs.declared.alloc.AllocError.{AllocError}
use Rattle.vhost_iotlb.specs.declared.kept.Kept.{Kept}
use Rattle.vhost_backend.specs.RingMemory.{MemoryStep, Returned, forgets, keeps}

module _ {H : Type 0} (step : H → (s : MemoryStep) → Returned s → H → Type 0) where
  -- each is kept, until an allocation fails
  abbrev pub KeepsAll : List Kept → H → Result (Unit {0}) AllocError → H → Type 0
  KeepsAll [] old r new = (r ≡ Ok tt) × (new ≡ old)
  KeepsAll (k ∷ ks) old r new = (one : Result (Unit {0}) AllocError) × (mid : H) × step old (keeps k) one mid
      × MatchResult one (λ _. KeepsAll ks mid r new) (λ e. (r ≡ Err e) × (new ≡ mid))

  -- each is forgotten, until an allocation fails
  abbrev pub ForgetsAll : List Kept → H → Result (Unit {0}) AllocError → H → Type 0
  ForgetsAll [] old r new = (r ≡ Ok tt) × (new ≡ old)
  ForgetsAll (k ∷ ks) old r new = (one : Result (Unit {0}) AllocError) × (mid : H) × step old (forgets k) one mid
      × MatchResult one (λ _. ForgetsAll ks mid r new) (λ e. (r ≡ Err e) × (new ≡ mid))
