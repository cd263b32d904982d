-- Values one after the other.
use Rattle.std.proofs.Common.{◌≡◌, ℕ, zero, suc, ◌+◌, ◌*◌, ◌<◌, ◌≤◌, List, [], ◌∷◌, ◌++◌, take, drop, set, length, sym, ap, ◌∙◌, arith, drop-drop}
use Rattle.std.proofs.Math.Nat.{mul-le-mul_right, suc-mul, zero-mul}
use Rattle.std.proofs.lemmas.List.{take_more_set}
use Rattle.vm_memory_base.specs.Bytes.{values_of}
use Rattle.vm_memory_guest.specs.Host.{Shape, Holds}
use Rattle.vm_memory_guest.specs.Window.{Window, part, window_names}

-- element k of n ends where they end, at most
pub element-inside : (k n size len : ℕ) → k < n → n * size ≤ len → k * size + size ≤ len
element-inside k n size len below all =
    let next = suc-mul k size in
    let most : suc k * size ≤ n * size = mul-le-mul_right size below in
    omega arith

-- one value more
pub values-more : {V : Type 0} (value_of : List ℕ → V) (width k : ℕ) (bytes : List ℕ)
    → values_of value_of width (k + 1) bytes ≡ values_of value_of width k bytes
    ++ value_of (take width (drop (k * width) bytes)) ∷ []
values-more value_of width zero bytes = ap (λ (n : ℕ). value_of (take width (drop n bytes)) ∷ []) (sym (zero-mul width))
values-more {V} value_of width (suc k) bytes =
    let next : suc k + 1 ≡ suc (k + 1) = omega arith in
    let behind : drop (k * width) (drop width bytes) ≡ drop (suc k * width) bytes =
    drop-drop (k * width) width bytes ∙ ap (λ (n : ℕ). drop n bytes) (let e = suc-mul k width in omega arith) in
    ap (λ (n : ℕ). values_of value_of width n bytes) next
    ∙ ap (λ (vs : List V). value_of (take width bytes) ∷ vs)
    (values-more value_of width k (drop width bytes)
    ∙ ap (λ (s : List ℕ). values_of value_of width k (drop width bytes) ++ value_of (take width s) ∷ []) behind)

-- and it is put after those that were
pub values-put : {V : Type 0} (value_of : List ℕ → V) (width k : ℕ) (bytes : List ℕ) (xs : List V) (v : V)
    → k < length xs → take k xs ≡ values_of value_of width k bytes → v ≡ value_of (take width (drop (k * width) bytes))
    → take (k + 1) (set xs k v) ≡ values_of value_of width (k + 1) bytes
values-put value_of width k bytes xs v inside so_far is = take_more_set xs k v inside
    ∙ rw (so_far, is) (sym (values-more value_of width k bytes))

-- an element that is inside the list of them begins inside the window, too
pub element-starts : (k n size len : ℕ) → k < n → len ≡ n * size → k * size ≤ len
element-starts k n size len below all = let h = element-inside k n size len below (omega arith) in omega arith

-- a part of a window that a host holds is held
pub Holds-part : (shape : Shape) (w : Window) (offset size : ℕ) → offset + size ≤ w.size → Holds shape (window_names w)
    → Holds shape (window_names (part w offset size))
Holds-part shape w offset size inside held = ((held.0.0, omega (arith, held.0.1)), held.1)
