-- What an access leaves of a host.
use Rattle.std.proofs.Common.{◌≡◌, ◌⊎◌, Bool, true, false, Option, Result, Ok, Err, None, inl, inr, subst}
use Rattle.std.specs.Prelude.{IsSome}
use Rattle.vm_memory_guest.specs.Answer.{Outcome}
use Rattle.vm_memory_guest.specs.Memory.{IsOn, Memory, Translation, behind_of}

-- nothing, or what it does
pub left_or_done : {T E : Type 0} (memory : E) (may unchanged effect : Type 0) (expected r : Result T E)
    → Outcome memory may expected unchanged effect r → unchanged ⊎ effect
left_or_done memory may unchanged effect expected (Ok v) h = inr h.1
left_or_done memory may unchanged effect expected (Err e) h = elim h [ inl a ↦ inl a.2 | inr b ↦ inr b.1 ]

pub is_off : (memory : Memory) → behind_of memory.iommu ≡ None → IsOn memory → ⊥
is_off memory e on =
    let h : ◌≡◌ {A = Bool} false true = subst (λ (o : Option Translation). IsSome o) e on in absurd (cc)

pub ok_is : {T E : Type 0} (a b : T) → ◌≡◌ {A = Result T E} (Ok a) (Ok b) → a ≡ b
ok_is a b e = cc
