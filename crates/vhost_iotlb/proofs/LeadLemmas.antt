-- Where look-ups lead, byte by byte.
use Rattle.std.proofs.Common.{◌≡◌, ℕ, zero, suc, ◌+◌, ◌<◌, ◌≤◌, ◌-◌, ◌^◌, true, false, List, [], ◌∷◌, ◌++◌, length, map, Option, Some, None, is_some, IsSomeAnd, slice_index_or, refl, sym, ap, subst, ◌∙◌, ◌⊎◌, inl, inr, arith}
use Rattle.std.proofs.lemmas.Bool.{cases_Bool, le-ltb}
use Rattle.std.specs.List.{flat_map, sum_by}
use Rattle.vm_memory_base.specs.Address.{step, numbers}
use Rattle.vm_memory_base.specs.Lookup.{RefusesTranslation, Translates, mapped_range, mapped_ranges}
use Rattle.vm_memory_base.specs.Permissions.{allow}
use Rattle.vm_memory_base.specs.Runs.{runs, with_value}
use Rattle.vm_memory_base.specs.Table.{Mapping, Range, Says, addresses, each, grants, is_allowed, overruns, piece_of, pieces, reason, same_mapping, target, target_if_any}
use Rattle.vm_memory_base.specs.declared.iotlb.IommuError.{IommuError}
use Rattle.vm_memory_base.specs.declared.iotlb.IommuError.TheVariants.{CannotResolve}
use Rattle.vm_memory_base.specs.declared.iotlb.Permissions.{Permissions}
use Rattle.vm_memory_base.specs.declared.iotlb.Reason.{Reason}
use Rattle.vm_memory_base.specs.declared.iotlb.Reason.TheVariants.{AccessNotAllowed, MissingMapping}
use Rattle.vm_memory_base.specs.declared.iotlb.lookup.MappedRange.{MappedRange}
use Rattle.vm_memory_base.proofs.TableLaws.{addresses-pieces, each-true, is_allowed-each, lens-mapped}
use Rattle.vhost_iotlb.specs.Leads.{Forbids, LeadOn, Leads, LeadsTo}
use Rattle.vhost_iotlb.specs.declared.leads.Lead.{Lead}
use Rattle.vhost_iotlb.specs.declared.leads.Lead.TheVariants.{To, Missed, Forbidden}

-- one range, as a look-up gives it
one_piece : (ps : List Range) (piece : MappedRange) → piece ∷ [] ≡ mapped_ranges ps
    → ps ≡ record { base = piece.base.0; len = piece.length } ∷ []
one_piece [] piece e = absurd cc
one_piece (p ∷ []) piece e =
    let same : piece ≡ mapped_range p = cc in
    let back : MappedRange → List Range = λ r. record { base = r.base.0; len = r.length } ∷ [] in
    ap back (sym same)
one_piece (p ∷ q ∷ ps) piece e = absurd cc

-- an address that is mapped, and the target that a list of targets begins with
leads_here : (v : Option Mapping) (x to : ℕ) (access : Permissions) (ts us : List ℕ) → grants access v ≡ true
    → to ∷ ts ≡ target_if_any x v ++ us
    → IsSomeAnd v (λ m. (target x m ≡ to) × (allow m.permissions access ≡ true)) × (ts ≡ us)
leads_here None x to access ts us g e = absurd cc
leads_here (Some m) x to access ts us g e = ((cc, g), cc)

-- targets that follow one another are those of addresses that do
leads_on : (f : Says) (a n to i : ℕ) (access : Permissions)
    → ((x : ℕ) → a ≤ x → x < a + n → grants access (f x) ≡ true)
    → map (step to) (numbers i n) ≡ flat_map (λ x. target_if_any x (f x)) (numbers a n)
    → (j : ℕ) → j < n → LeadsTo f (a + j) (step to (i + j)) access
leads_on f a zero to i access each e j l = absurd (omega arith)
leads_on f a (suc n) to i access each e zero l =
    let here = leads_here (f a) a (step to i) access (map (step to) (numbers (i + 1) n))
    (flat_map (λ x. target_if_any x (f x)) (numbers (a + 1) n)) (each a (omega arith) (omega arith)) e in
    let from : a + 0 ≡ a = omega arith in
    let at : i + 0 ≡ i = omega arith in
    rw (from, at) here.0
leads_on f a (suc n) to i access each e (suc j) l =
    let here = leads_here (f a) a (step to i) access (map (step to) (numbers (i + 1) n))
    (flat_map (λ x. target_if_any x (f x)) (numbers (a + 1) n)) (each a (omega arith) (omega arith)) e in
    let rest = leads_on f (a + 1) n to (i + 1) access (λ x m u. each x (omega arith) (omega arith)) here.1 j
    (omega arith) in
    let from : a + suc j ≡ a + 1 + j = omega arith in
    let at : i + suc j ≡ i + 1 + j = omega arith in
    rw (from, at) rest

grants_is_some : (access : Permissions) (v : Option Mapping) → grants access v ≡ true → is_some v ≡ true
grants_is_some access None g = cc
grants_is_some access (Some m) g = refl

append_nil : (xs : List ℕ) → xs ++ [] ≡ xs
append_nil [] = refl
append_nil (x ∷ xs) = ap (λ (ys : List ℕ). x ∷ ys) (append_nil xs)

-- a look-up of one piece leads, byte by byte, as far on from where the piece begins
pub translation_leads : (f : Says) (a n : ℕ) (access : Permissions) (piece : MappedRange) → 0 < n
    → Translates f a n access (piece ∷ []) → LeadOn f a n piece.base.0 access
translation_leads f a n access piece some t = elim ((is_allowed-each f a n access).0 t.0) [
  | inl none ↦ absurd (omega arith)
  | inr granted ↦
      let one = one_piece (pieces f a n) piece t.1 in
      let len = lens-mapped f a n
      ((each-true is_some f a n).1 (λ x l u. grants_is_some access (f x) (granted.1 x l u))) in
      let count : piece.length ≡ n =
      omega (arith, subst (λ (ps : List Range). sum_by (λ r. r.len) ps ≡ n) one len) in
      let there = subst (λ (ps : List Range). flat_map addresses ps ≡ flat_map (λ x. target_if_any x (f x)) (numbers a n))
      one (addresses-pieces f a n) in
      let all : map (step piece.base.0) (numbers 0 n) ≡ flat_map (λ x. target_if_any x (f x)) (numbers a n) =
      rw count at (sym (append_nil (map (step piece.base.0) (numbers 0 piece.length))) ∙ there) in
      λ i l.
      let at : 0 + i ≡ i = omega arith in
      rw at at (leads_on f a n piece.base.0 0 access granted.1 all i l)
]

-- ---- look-ups of one address

abbrev one_or_none : ℕ → Option Mapping → List Range
one_or_none a None = []
one_or_none a (Some m) = record { base = target a m; len = 1 } ∷ []

pieces_of_value : (a : ℕ) (v : Option Mapping)
    → map piece_of (with_value same_mapping a v []) ≡ one_or_none a v
pieces_of_value a None = refl
pieces_of_value a (Some m) = refl

pieces_of_one : (f : Says) (a : ℕ) → pieces f a 1 ≡ one_or_none a (f a)
unfolding runs
pieces_of_one f a = pieces_of_value a (f a)

one_target : (f : Says) (a : ℕ) (access : Permissions) (found : List MappedRange) (d : MappedRange)
    (v : Option Mapping) → f a ≡ v → grants access v ≡ true → found ≡ mapped_ranges (one_or_none a v)
    → LeadOn f a 1 (slice_index_or found 0 d).base.0 access × (0 < length found)
one_target f a access found d None e g is = absurd cc
one_target f a access found d (Some m) e g is = (
  λ i l.
      let first : slice_index_or found 0 d ≡ record { base = record { 0 = target a m }; length = 1 } =
      ap (λ (xs : List MappedRange). slice_index_or xs 0 d) is in
      let base : (slice_index_or found 0 d).base.0 ≡ target a m = ap (λ (r : MappedRange). r.base.0) first in
      let from : a + i ≡ a = omega arith in
      let to : step (target a m) i ≡ target a m = omega arith in
      rw (from, base, to, e) (refl, g),
  rw is (omega arith),
)

-- one that is allowed has a piece, at the target of the address
pub one_leads : (f : Says) (a : ℕ) (access : Permissions) (found : List MappedRange) (d : MappedRange)
    → Translates f a 1 access found → LeadOn f a 1 (slice_index_or found 0 d).base.0 access × (0 < length found)
one_leads f a access found d t = elim ((is_allowed-each f a 1 access).0 t.0) [
  | inl none ↦ absurd (omega arith)
  | inr granted ↦
      one_target f a access found d (f a) refl (granted.1 a (omega arith) (omega arith))
      (t.1 ∙ ap mapped_ranges (pieces_of_one f a))
]

few_pieces : (a : ℕ) (v : Option Mapping) → length (one_or_none a v) ≤ 1
few_pieces a None = omega arith
few_pieces a (Some m) = omega arith

-- one that is refused says why
abbrev pub IsRefusedFor : Says → ℕ → Permissions → Reason → Type 0
IsRefusedFor f a access r = ((r ≡ MissingMapping) × (f a ≡ None)) ⊎ ((r ≡ AccessNotAllowed) × Forbids f a access)

refused_value : (f : Says) (a : ℕ) (access : Permissions) (v : Option Mapping) → f a ≡ v → overruns a 1 ≡ false
    → is_allowed f a 1 access ≡ false → IsRefusedFor f a access (reason f a 1)
unfolding each
refused_value f a access None e fits refused = inl (rw (fits, e) refl, e)
refused_value f a access (Some m) e fits refused = inr (
  rw (fits, e) refl,
  elim (cases_Bool (allow m.permissions access)) [
    | inl t ↦ let same : true ≡ false = rw (fits, e, t) at refused in absurd cc
    | inr t ↦ rw e t
  ],
)

pub one_refused : (f : Says) (a : ℕ) (access : Permissions) (e : IommuError) → a + 1 < 2 ^ 64
    → RefusesTranslation f a 1 access e
    → (r : Reason) × (e ≡ CannotResolve (record { base = record { 0 = a }; length = 1 }) r) × IsRefusedFor f a access r
one_refused f a access e fits (inl memory) =
    let few : length (pieces f a 1) ≤ 1 =
    subst (λ (ps : List Range). length ps ≤ 1) (sym (pieces_of_one f a)) (few_pieces a (f a)) in
    absurd (omega (arith, memory.1, few))
one_refused f a access e fits (inr refused) = (
  reason f a 1,
  refused.1,
  refused_value f a access (f a) refl (le-ltb (2 ^ 64 - 1) (a + 1) (omega arith)) refused.0,
)

-- ---- a lead of fewer addresses

pub leads_among_more : (f : Says) (a m n : ℕ) (access : Permissions) (lead : Lead) → m ≤ n → Leads f a m access lead
    → Leads f a n access lead
leads_among_more f a m n access (To to count) l h = (h.0, omega (arith, h.1), h.2)
leads_among_more f a m n access Missed l h = h
leads_among_more f a m n access Forbidden l h = h
