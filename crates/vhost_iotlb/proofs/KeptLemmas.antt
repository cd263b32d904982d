-- Kept ranges, and changes of tables.
use Rattle.std.proofs.Common.{◌≡◌, ◌⊎◌, ℕ, ◌+◌, ◌-◌, ◌%◌, ◌^◌, ◌<◌, ◌≤◌, Bool, true, false, not, ◌&&◌, eqb, ltb, None, Option, IsSomeAnd, refl, sym, ap, subst, ◌∙◌, inl, inr, arith}
use Rattle.std.proofs.lemmas.Bool.{and_from, and_parts, cases_Bool, eqb-true, lt-ltb}
use Rattle.vm_memory_base.specs.Address.{difference, is_within, step}
use Rattle.vm_memory_base.specs.Permissions.{allow}
use Rattle.vm_memory_base.specs.Table.{Mapping, Says, Table, changed, covers, says, says_after, target}
use Rattle.vm_memory_base.specs.declared.iotlb.Permissions.{Permissions}
use Rattle.vm_memory_base.proofs.RunsLaws.{within_or_not}
use Rattle.vm_memory_base.proofs.TableLaws.{says_after-covered, says_after-not_covered, target-set}
use Rattle.vhost_iotlb.specs.Kept.{IsCurrent, IsReal, SaysNoMore, after_change, differs, event_of, overlap}
use Rattle.vhost_iotlb.specs.Leads.{LeadOn}
use Rattle.vhost_iotlb.specs.declared.kept.Change.{Change}
use Rattle.vhost_iotlb.specs.declared.kept.Change.TheVariants.{Map, Unmap}
use Rattle.vhost_iotlb.specs.declared.kept.Kept.{Kept}

-- a range overlaps a kept one if it has one of its addresses
overlaps : (iova len i : ℕ) (k : Kept) → i < k.len → iova ≤ k.iova + i → k.iova + i < iova + len
    → overlap iova len k ≡ true
overlaps iova len i k l from to =
    and_from (ltb iova (k.iova + k.len)) (ltb k.iova (iova + len)) (lt-ltb iova (k.iova + k.len) (omega arith))
    (lt-ltb k.iova (iova + len) (omega arith))

true_from_not : (b : Bool) → not b ≡ false → b ≡ true
true_from_not true e = refl
true_from_not false e = absurd cc

pub stays_current : (f : Says) (c : Change) (k : Kept) → IsReal k → IsCurrent f k → differs c k ≡ false
    → IsCurrent (after_change c f) k
stays_current f (Unmap iova len) k real now same i l = elim (within_or_not iova len (k.iova + i)) [
  | inl w ↦ let both : true ≡ false = sym (overlaps iova len i k l w.1 w.2) ∙ same in absurd cc
  | inr w ↦ rw w.0 (now i l)
]
stays_current f (Map iova to len permissions) k real now same i l = elim (within_or_not iova len (k.iova + i)) [
  | inl w ↦
      let alike = eqb (difference iova to) (difference k.iova k.base) && allow permissions k.access in
      let here : not alike ≡ false = rw (overlaps iova len i k l w.1 w.2) at same in
      let parts = and_parts (eqb (difference iova to) (difference k.iova k.base)) (allow permissions k.access)
      (true_from_not alike here) in
      let far : difference iova to ≡ difference k.iova k.base =
      eqb-true (difference iova to) (difference k.iova k.base) parts.0 in
      let back : k.iova + i - k.iova ≡ i = omega arith in
      let there = rw back at (target-set k.iova k.base (k.iova + i) permissions (omega (arith, real.1)) (omega arith)) in
      rw w.0 (ap (λ (d : ℕ). (k.iova + i + d) % 2 ^ 64) far ∙ there, parts.1)
  | inr w ↦ rw w.0 (now i l)
]

pub gone : (f : Says) (iova len i : ℕ) (k : Kept) → IsCurrent (after_change (Unmap iova len) f) k → i < k.len
    → is_within iova len (k.iova + i) ≡ true → ⊥
gone f iova len i k now l w = rw w at (now i l)

-- ---- tables, and what messages say

pub says_no_more : (t : Table) (f : Says) (c : Change)
    → ((x : ℕ) → x < 2 ^ 64 → (says (changed (event_of c) t) x ≡ None)
    ⊎ (says (changed (event_of c) t) x ≡ says_after (event_of c) x (says t x)))
    → SaysNoMore t f → SaysNoMore (changed (event_of c) t) (after_change c f)
says_no_more t f c missed h x l = elim (missed x l) [
  | inl none ↦ inl none
  | inr is ↦
      elim (h x l) [
        | inl none ↦
            elim (cases_Bool (covers (event_of c) x)) [
              | inl b ↦
                  inr (is ∙ says_after-covered (event_of c) x (says t x) b
                  ∙ sym (says_after-covered (event_of c) x (f x) b))
              | inr b ↦ inl (is ∙ says_after-not_covered (event_of c) x (says t x) b ∙ none)
            ]
        | inr same ↦ inr (is ∙ ap (says_after (event_of c) x) same)
      ]
]

pub leads_by_messages : (t : Table) (f : Says) (a count to : ℕ) (access : Permissions) → SaysNoMore t f
    → a + count < 2 ^ 64 → LeadOn (says t) a count to access → LeadOn f a count to access
leads_by_messages t f a count to access h fits lead i l =
    let Goes : Option Mapping → Type 0 =
    λ v. IsSomeAnd v (λ m. (target (a + i) m ≡ step to i) × (allow m.permissions access ≡ true)) in
    elim (h (a + i) (omega arith)) [
      | inl none ↦ absurd (subst Goes none (lead i l))
      | inr same ↦ subst Goes same (lead i l)
    ]
