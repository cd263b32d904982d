-- Proofs for the laws of implementations of `Bytes`, which cite them; what a contract says is in Typed.
use Rattle.std.specs.Prelude.{◌≡◌, ℕ, ◌+◌, ◌%◌, ◌^◌, ◌<◌, Bool, true, false, ◌&&◌, ◌==◌, cond, nat_lt, nat_le, List, [], ◌∷◌, Option, Some, None, Result, Ok, Err, IfOk, IsOk}
use Rattle.std.proofs.Common.{refl, arith}
use Rattle.std.proofs.lemmas.Bool.Decides.{nat_tests}
use Rattle.vm_memory_base.specs.declared.io.VolatileMemoryError.{VolatileMemoryError}
use Rattle.vm_memory_base.specs.declared.io.VolatileMemoryError.TheVariants.{OutOfBounds, Overflow, Misaligned}
use Rattle.vm_memory_guest.specs.RegionBytes.{as_guest, place_in}
use Rattle.vm_memory_guest.specs.Typed.{aligned_of, if_aligned, first_aligned}
use Rattle.vm_memory_guest.specs.Window.{Window, part, subslice_of}
use Rattle.vm_memory_guest.specs.declared.region.error.GuestMemoryError.{GuestMemoryError}
use Rattle.vm_memory_guest.specs.declared.region.error.GuestMemoryError.TheVariants.{InvalidBackendAddress}

-- what holds of what either result gives holds of what the chosen one gives
chosen : {T E : Type 0} (P : T → Type 0) (b : Bool) (r s : Result T E) → (b ≡ true → IfOk r P)
    → (b ≡ false → IfOk s P) → IfOk (cond b r s) P
chosen P true r s t f = t refl
chosen P false r s t f = f refl

pub subslice-sized : (w : Window) (offset count : ℕ) → IfOk (subslice_of w offset count) (λ v. v.size ≡ count)
subslice-sized w offset count =
    let part_is = Ok (part w offset count) in
    let past = Err (OutOfBounds (offset + count)) in
    chosen (λ v. v.size ≡ count) (nat_lt (offset + count) (2 ^ 64))
    (cond (nat_le (offset + count) w.size) part_is past) (Err (Overflow offset count))
    (λ _. chosen (λ v. v.size ≡ count) (nat_le (offset + count) w.size) part_is past (λ _. refl) (λ _. tt))
    (λ _. tt)

pub subslice-whole : (w : Window) → w.size < 2 ^ 64 → IsOk (subslice_of w 0 w.size)
subslice-whole w small = grind (arith, nat_tests)

aligned-kept : (P : Window → Type 0) (r : Result Window VolatileMemoryError) → IfOk r P
    → IfOk (if_aligned r) P
aligned-kept P (Err e) h = tt
aligned-kept P (Ok w) h =
    chosen P (w.offset % w.size == 0) (Ok w) (Err (Misaligned w.offset w.size)) (λ _. h) (λ _. tt)

pub aligned-sized : (w : Window) (offset size : ℕ) → IfOk (aligned_of w offset size) (λ v. v.size ≡ size)
aligned-sized w offset size =
    aligned-kept (λ v. v.size ≡ size) (subslice_of w offset size) (subslice-sized w offset size)

tested : (m n : ℕ) (b : Bool) → (m == n && b) ≡ true → m ≡ n
tested m n b h = grind (arith, nat_tests)

pub first-sized : (size : ℕ) (ws : List Window) (fault : Option GuestMemoryError)
    → IfOk (first_aligned size ws fault) (λ v. v.size ≡ size)
first-sized size [] None = tt
first-sized size [] (Some e) = tt
first-sized size (w ∷ ws) fault =
    let aligned = w.offset % size == 0 in
    chosen (λ v. v.size ≡ size) (w.size == size && aligned) (Ok w) (Err InvalidBackendAddress)
    (λ h. tested w.size size aligned h) (λ _. tt)

told-sized : (r : Result Window VolatileMemoryError) (size : ℕ) → IfOk r (λ v. v.size ≡ size)
    → IfOk (as_guest r) (λ v. v.size ≡ size)
told-sized (Ok w) size h = h
told-sized (Err e) size h = tt

pub place-sized : (r : Result Window GuestMemoryError) (offset size : ℕ)
    → IfOk (place_in r offset size) (λ v. v.size ≡ size)
place-sized (Err e) offset size = tt
place-sized (Ok w) offset size = told-sized (aligned_of w offset size) size (aligned-sized w offset size)
