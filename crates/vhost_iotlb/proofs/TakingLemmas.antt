-- Wanted ranges that are taken piece by piece.
use Rattle.std.proofs.Common.{◌≡◌, ℕ, zero, suc, ◌+◌, ◌-◌, ◌^◌, ◌⊎◌, ◌<◌, ◌≤◌, Bool, true, false, eqb, List, [], ◌∷◌, ◌++◌, length, drop, slice_index_or, append_assoc, Option, None, Some, IsSomeAnd, inl, inr, length-drop, refl, sym, ap, subst, ◌∙◌, add-one, arith}
use Rattle.std.proofs.lemmas.Bool.{cases_Bool, cases_lt, eqb-true, eqb-false, eq-eqb, ne_eqb}
use Rattle.std.proofs.lemmas.List.Elements.{All-head, All-tail, All-push}
use Rattle.std.specs.List.{All, flat_map}
use Rattle.vm_memory_base.specs.Address.{numbers}
use Rattle.vm_memory_base.specs.Permissions.{allow}
use Rattle.vm_memory_base.specs.Table.{Mapping, Says, target}
use Rattle.vm_memory_base.specs.declared.iotlb.Permissions.{Permissions}
use Rattle.vm_memory_base.proofs.PagesLaws.{numbers-append}
use Rattle.vhost_iotlb.specs.Kept.{IsReal}
use Rattle.vhost_iotlb.specs.Leads.{Forbids, LeadsTo}
use Rattle.vhost_iotlb.specs.Taking.{AreReal, Covers, IsPartOf, StopsAt, left}
use Rattle.vhost_iotlb.specs.declared.kept.Kept.{Kept}
use Rattle.vhost_iotlb.specs.declared.taking.Progress.{Progress}
use Rattle.vhost_iotlb.specs.declared.taking.Progress.TheVariants.{Whole, Misses, Bars, TooMany, NoMemory}
use Rattle.vhost_iotlb.specs.declared.taking.Want.{Want}

-- ---- some ranges more

pub left-append : (ws : List Want) (from : ℕ) (ks ls : List Kept)
    → left ws from (ks ++ ls) ≡ left (left ws from ks).0 (left ws from ks).1 ls
left-append ws from [] ls = refl
left-append [] from (k ∷ ks) [] = refl
left-append [] from (k ∷ ks) (l ∷ ls) = refl
left-append (w ∷ ws) from (k ∷ ks) ls =
    elim (cases_Bool (eqb (from + k.len) w.len)) [
      | inl t ↦ rw t (left-append ws 0 ks ls)
      | inr t ↦ rw t (left-append (w ∷ ws) (from + k.len) ks ls)
    ]

pub Covers-append : (ws : List Want) (from : ℕ) (ks ls : List Kept) → Covers ws from ks
    → Covers (left ws from ks).0 (left ws from ks).1 ls → Covers ws from (ks ++ ls)
Covers-append ws from [] ls h g = g
Covers-append [] from (k ∷ ks) ls h g = h
Covers-append (w ∷ ws) from (k ∷ ks) ls h g =
    elim (cases_Bool (eqb (from + k.len) w.len)) [
      | inl t ↦ (h.0, rw t (Covers-append ws 0 ks ls (rw t at h.1) (rw t at g)))
      | inr t ↦ (h.0, rw t (Covers-append (w ∷ ws) (from + k.len) ks ls (rw t at h.1) (rw t at g)))
    ]

-- ---- the range that is next

abbrev BeginsInside : ℕ → List Want → Type 0
BeginsInside from [] = Unit {0}
BeginsInside from (w ∷ ws) = from < w.len

abbrev IsWanted : Want → Type 0
IsWanted w = (0 < w.len) × (w.iova + w.len < 2 ^ 64)

begins_inside : (ws : List Want) → AreReal ws → BeginsInside 0 ws
begins_inside [] real = tt
begins_inside (w ∷ ws) real = (All-head IsWanted w ws real).0

left_inside : (ws : List Want) (from : ℕ) (ks : List Kept) → AreReal ws → BeginsInside from ws → Covers ws from ks
    → BeginsInside (left ws from ks).1 (left ws from ks).0
left_inside ws from [] real inside h = inside
left_inside [] from (k ∷ ks) real inside h = absurd h
left_inside (w ∷ ws) from (k ∷ ks) real inside h =
    elim (cases_Bool (eqb (from + k.len) w.len)) [
      | inl t ↦
          let rest = All-tail IsWanted w ws real in
          rw t (left_inside ws 0 ks rest (begins_inside ws rest) (rw t at h.1))
      | inr t ↦
          let short : from + k.len ≡ w.len → ⊥ = eqb-false (from + k.len) w.len t in
          let part = h.0 in
          let inside : from + k.len < w.len = omega (arith, short, part.3) in
          rw t (left_inside (w ∷ ws) (from + k.len) ks real inside (rw t at h.1))
    ]

drop_next : {X : Type 0} (xs : List X) (i : ℕ) (d : X) → i < length xs
    → drop i xs ≡ slice_index_or xs i d ∷ drop (suc i) xs
drop_next [] i d l = absurd (omega arith)
drop_next (x ∷ xs) zero d l = refl
drop_next (x ∷ xs) (suc i) d l = drop_next xs i d (omega arith)

pub drop_past : {X : Type 0} (xs : List X) (i : ℕ) → length xs ≤ i → drop i xs ≡ []
drop_past [] zero l = refl
drop_past [] (suc i) l = refl
drop_past (x ∷ xs) zero l = absurd (omega arith)
drop_past (x ∷ xs) (suc i) l = drop_past xs i (omega arith)

-- wanted ranges, the number of the one that is next, how many of its bytes are taken, and what is kept
abbrev pub AreTaken : List Want → ℕ → ℕ → List Kept → Type 0
AreTaken ws next from ks =
    AreReal ws × Covers ws 0 ks × (left ws 0 ks ≡ (drop next ws, from)) × All IsReal ks

pub record NextWant (ws : List Want) (next from : ℕ) (ks : List Kept) (w : Want) : Type 0 where
  pub inside : from < w.len
  pub fits : w.iova + w.len < 2 ^ 64
  pub there : drop next ws ≡ w ∷ drop (next + 1) ws
  pub left : left ws 0 ks ≡ (w ∷ drop (next + 1) ws, from)

pub next_want : (ws : List Want) (next from : ℕ) (ks : List Kept) (d : Want) → AreTaken ws next from ks
    → next < length ws → NextWant ws next from ks (slice_index_or ws next d)
next_want ws next from ks d h l =
    let w = slice_index_or ws next d in
    let there : drop next ws ≡ w ∷ drop (next + 1) ws = rw (add-one next) (drop_next ws next d l) in
    let is : left ws 0 ks ≡ (w ∷ drop (next + 1) ws, from) =
    h.2 ∙ ap (λ (rest : List Want). (rest, from)) there in
    let real = h.0 next d l in
    let inside : from < w.len =
    subst (λ (p : List Want × ℕ). BeginsInside p.1 p.0) is (left_inside ws 0 ks h.0 (begins_inside ws h.0) h.1) in
    record { inside = inside; fits = real.1; there = there; left = is }

-- a range is next that this place has
pub next_want_at : (ws : List Want) (next from : ℕ) (ks : List Kept) (w : Want) → w ≡ slice_index_or ws next w
    → AreTaken ws next from ks → next < length ws → NextWant ws next from ks w
next_want_at ws next from ks w is h l =
    subst (λ (v : Want). NextWant ws next from ks v) (sym is) (next_want ws next from ks w h l)

-- nothing is left after the last one
pub nothing_left : (ws : List Want) (next from : ℕ) (ks : List Kept) → AreTaken ws next from ks → length ws ≤ next
    → left ws 0 ks ≡ ([], from)
nothing_left ws next from ks h l = h.2 ∙ ap (λ (rest : List Want). (rest, from)) (drop_past ws next l)

pub some_left : (ws : List Want) (next from : ℕ) (ks : List Kept) → AreTaken ws next from ks
    → (left ws 0 ks).0 ≡ [] → length ws ≤ next
some_left ws next from ks h none =
    elim (cases_lt next (length ws)) [
      | inl l ↦ let d : drop next ws ≡ [] = ap (λ (p : List Want × ℕ). p.0) (sym h.2) ∙ none in
          absurd (omega (arith, length-drop next ws, ap length d))
      | inr l ↦ l
    ]

-- ---- one range more

module _ (ws : List Want) (next from : ℕ) (ks : List Kept) (w : Want) (k : Kept) (h : AreTaken ws next from ks)
    (n : NextWant ws next from ks w) (part : IsPartOf w from k) where
  covers : Covers ws 0 (ks ++ k ∷ [])
  covers = Covers-append ws 0 ks (k ∷ []) h.1
      (subst (λ (p : List Want × ℕ). Covers p.0 p.1 (k ∷ [])) (sym n.left) (one (eqb (from + k.len) w.len) refl))
    where
      one : (b : Bool) → eqb (from + k.len) w.len ≡ b → Covers (w ∷ drop (next + 1) ws) from (k ∷ [])
      one true e = (part, rw e tt)
      one false e = (part, rw e tt)

  left_then : left ws 0 (ks ++ k ∷ []) ≡ left (w ∷ drop (next + 1) ws) from (k ∷ [])
  left_then = left-append ws 0 ks (k ∷ [])
      ∙ ap (λ (p : List Want × ℕ). left p.0 p.1 (k ∷ [])) n.left

  real : All IsReal (ks ++ k ∷ [])
  real =
      let fits : k.iova + k.len < 2 ^ 64 = omega (arith, n.fits, part.0, part.3) in
      All-push IsReal ks k h.3 (part.2, fits)

  -- it is the rest of a wanted range
  pub taken_to_the_end : from + k.len ≡ w.len → AreTaken ws (next + 1) 0 (ks ++ k ∷ [])
  taken_to_the_end e =
      let ends : eqb (from + k.len) w.len ≡ true = eq-eqb (from + k.len) w.len e in
      (h.0, covers, left_then ∙ rw ends refl, real)

  -- it is not
  pub taken_in_part : (from + k.len ≡ w.len → ⊥) → AreTaken ws next (from + k.len) (ks ++ k ∷ [])
  taken_in_part e =
      let on : eqb (from + k.len) w.len ≡ false = ne_eqb (from + k.len) w.len e in
      (h.0, covers, left_then ∙ rw on (ap (λ (rest : List Want). (rest, from + k.len)) (sym n.there)), real)

-- ---- the bytes of what is kept, and of what is wanted

abbrev kept_bytes : Kept → List ℕ
kept_bytes k = numbers k.iova k.len

abbrev wanted_bytes : Want → List ℕ
wanted_bytes w = numbers w.iova w.len

abbrev bytes_left : ℕ → List Want → List ℕ
bytes_left from [] = []
bytes_left from (w ∷ ws) = numbers (w.iova + from) (w.len - from) ++ flat_map wanted_bytes ws

all_left : (ws : List Want) → bytes_left 0 ws ≡ flat_map wanted_bytes ws
all_left [] = refl
all_left (w ∷ ws) =
    let from : w.iova + 0 ≡ w.iova = omega arith in
    let len : w.len - 0 ≡ w.len = omega arith in
    rw (from, len) refl

taken_bytes : (ws : List Want) (from : ℕ) (ks : List Kept) → Covers ws from ks → (left ws from ks).0 ≡ []
    → flat_map kept_bytes ks ≡ bytes_left from ws
taken_bytes [] from [] h none = refl
taken_bytes (w ∷ ws) from [] h none = absurd cc
taken_bytes [] from (k ∷ ks) h none = absurd h
taken_bytes (w ∷ ws) from (k ∷ ks) h none =
    let part = h.0 in
    elim (cases_Bool (eqb (from + k.len) w.len)) [
      | inl t ↦
          let ends = eqb-true (from + k.len) w.len t in
          let len : k.len ≡ w.len - from = omega (arith, ends) in
          let rest = taken_bytes ws 0 ks (rw t at h.1) (rw t at none) ∙ all_left ws in
          rw (part.0, len, rest) refl
      | inr t ↦
          let rest = taken_bytes (w ∷ ws) (from + k.len) ks (rw t at h.1) (rw t at none) in
          let on : w.iova + from + k.len ≡ w.iova + (from + k.len) = omega arith in
          let len : w.len - from ≡ k.len + (w.len - (from + k.len)) = omega (arith, part.3) in
          let cut = numbers-append (w.iova + from) k.len (w.len - (from + k.len)) in
          rw (part.0, rest, len, cut, on)
          (sym (append_assoc (numbers (w.iova + from) k.len)
          (numbers (w.iova + (from + k.len)) (w.len - (from + k.len))) (flat_map wanted_bytes ws)))
    ]

pub whole_is_wanted : (ws : List Want) (ks : List Kept) → Covers ws 0 ks → (left ws 0 ks).0 ≡ []
    → flat_map (λ k. numbers k.iova k.len) ks ≡ flat_map (λ w. numbers w.iova w.len) ws
whole_is_wanted ws ks h none = taken_bytes ws 0 ks h none ∙ all_left ws

-- ---- a stop at an address that leads on

pub stops_for_limits : (f : Says) (most count from to : ℕ) (w : Want) (ws : List Want) (t : Progress)
    → StopsAt f most count (w ∷ ws, from) t → LeadsTo f (w.iova + from) to w.access
    → (t ≡ TooMany) ⊎ (t ≡ NoMemory)
stops_for_limits f most count from to w ws Whole h leads = absurd h
stops_for_limits f most count from to w ws (Misses x access) h leads =
    absurd (not_missed (f (w.iova + from)) (ap f (sym h.0) ∙ h.2) leads)
  where
    not_missed : (v : Option Mapping) → v ≡ None
        → IsSomeAnd v (λ m. (target (w.iova + from) m ≡ to) × (allow m.permissions w.access ≡ true)) → ⊥
    not_missed None e g = g
    not_missed (Some m) e g = cc
stops_for_limits f most count from to w ws (Bars x access) h leads =
    absurd (not_barred (f (w.iova + from))
    (subst (λ (a : Permissions). Forbids f (w.iova + from) a) h.1
    (subst (λ (y : ℕ). Forbids f y access) h.0 h.2)) leads)
  where
    not_barred : (v : Option Mapping) → IsSomeAnd v (λ m. allow m.permissions w.access ≡ false)
        → IsSomeAnd v (λ m. (target (w.iova + from) m ≡ to) × (allow m.permissions w.access ≡ true)) → ⊥
    not_barred None b g = g
    not_barred (Some m) b g = let both : true ≡ false = sym g.1 ∙ b in absurd cc
stops_for_limits f most count from to w ws TooMany h leads = inl refl
stops_for_limits f most count from to w ws NoMemory h leads = inr refl
