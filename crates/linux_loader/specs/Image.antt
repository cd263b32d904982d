-- Images: what their calls return if their bytes are known.
use Rattle.std.specs.Prelude.{◌≡◌, ℕ, ◌+◌, ◌≤◌, List, [], length, take, drop, Option, Some, IfSome, Result, Ok}
use Rattle.vm_memory_base.specs.Transfer.{Next, giving}

-- an image whose bytes are known returns this of them, and keeps them
abbrev pub Tells : {S T E : Type 0} → (S → Option (List ℕ)) → S → (List ℕ → T) → Result T E → S → Type 0
Tells bytes old f answer new = IfSome (bytes old) (λ all. (bytes new ≡ Some all) × (answer ≡ Ok (f all)))

-- an image whose bytes are known gives those from an offset on next
abbrev pub StandsAt : {S E : Type 0} → (S → Option (List ℕ)) → (S → Option (List Next)) → S → ℕ
    → Result (Unit {0}) E → S → Type 0
StandsAt bytes source old offset answer new = IfSome (bytes old) (λ all.
    (bytes new ≡ Some all) × (answer ≡ Ok tt) × (source new ≡ Some (giving (drop offset all) [])))

-- an image whose bytes are known gave the n bytes at an offset, if it has them
abbrev pub ReadsFrom : {S E : Type 0} → (S → Option (List ℕ)) → S → ℕ → ℕ → Result (Unit {0}) E → List ℕ → S
    → Type 0
ReadsFrom bytes old offset n answer buffer new = IfSome (bytes old) (λ all. (bytes new ≡ Some all)
    × (offset + n ≤ length all → (answer ≡ Ok tt) × (buffer ≡ take n (drop offset all))))

-- this holds of the bytes of an image, if they are known
abbrev pub IfKnown : Option (List ℕ) → (List ℕ → Type 0) → Type 0
IfKnown bytes P = (all : List ℕ) → bytes ≡ Some all → P all
