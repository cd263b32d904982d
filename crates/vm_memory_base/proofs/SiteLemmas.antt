-- What a change of a table makes of canonical runs.
use Rattle.std.proofs.Common.{◌≡◌, ℕ, ◌+◌, ◌-◌, ◌^◌, ◌<◌, ◌≤◌, false, List, [], ◌∷◌, ◌++◌, length, Option, Some, None, IsSome, IfSome, ◌↔◌, refl, sym, ap, subst, inl, inr, ◌∙◌, arith}
use Rattle.std.proofs.lemmas.Bool.{cases_lt}
use Rattle.std.proofs.lemmas.List.{append-nil, append_assoc, length-append}
use Rattle.vm_memory_base.specs.Change.{if_any, prepended, prepended_if_any, start_or, EndBelow, StartFrom, AreAscending, IsKept, runs_below, runs_from, with_run, without_range}
use Rattle.vm_memory_base.specs.Runs.{AddressRun, IsCanonical, cut_to}
use Rattle.vm_memory_base.specs.Site.{IsFront, IsLastBelow, IsReplaced, CutsFrom, CutsInFront}
use Rattle.vm_memory_base.specs.Table.{Mapping, same_mapping, canonical_list}
use Rattle.vm_memory_base.specs.declared.iotlb.site.Edge.{Edge}
use Rattle.vm_memory_base.specs.declared.iotlb.site.Site.{Site}
use Rattle.vm_memory_base.proofs.ChangeLemmas.{EndBelow-weaker, canonical_last, if_any_one, range_is_clear, run_is_alone, run_is_set}
use Rattle.vm_memory_base.proofs.RunsLaws.{run, CanFollow, canonical_cons}
use Rattle.vm_memory_base.proofs.PutLemmas.{front_length, length_four, parts_length}
use Rattle.vm_memory_base.proofs.SideLemmas.{StartsBelow-append, all_end, back_upto, canonical_prefix, canonical_suffix, ends_before_last, from_absent, from_here, from_next, front_upto, long, none_from, starts_limit}
use Rattle.vm_memory_base.proofs.StartLemmas.{StartsBelow, StartsBelow-weaker, ascending_below, ascending_canonical, ascending_split, below-all, below_below, below_starts, from_starts}

-- ---- a change that leaves all other runs as they are

-- the run that has just the addresses of a range goes
pub whole_goes : (rs : List (AddressRun Mapping)) → IsKept rs → (start end : ℕ) → start < end → end < 2 ^ 64
    → (r : AddressRun Mapping) → runs_below end rs ≡ runs_below r.start rs ++ r ∷ [] → r.start ≡ start
    → r.start + r.len ≡ end → (new : List (AddressRun Mapping))
    → new ≡ runs_below start rs ++ runs_from (start + 1) rs
    → (IsKept new × (new ≡ canonical_list (without_range start (end - start) rs))) × (length new ≤ length rs + 1)
whole_goes rs k start end some fits r is s e new is_new =
    let ascending = ascending_canonical same_mapping rs k.canonical in
    let to : start + (end - start) ≡ end = omega arith in
    let ends : EndBelow (start + 1) (runs_below start rs) =
    subst (λ (n : ℕ). EndBelow (n + 1) (runs_below n rs)) s (ends_before_last same_mapping end rs k.canonical r is) in
    let all : EndBelow (end + 1) (runs_below end rs) =
    all_end same_mapping end rs k.canonical r is (end + 1) (omega arith) in
    let low : StartsBelow (start + 1) (runs_below end rs) =
    subst (StartsBelow (start + 1)) (sym is)
    (StartsBelow-append (start + 1) (runs_below r.start rs) (r ∷ [])
    (StartsBelow-weaker r.start (start + 1) (runs_below r.start rs) (omega arith) (below_starts r.start rs))
    (omega arith, tt)) in
    let back : runs_from end rs ≡ cut_to end (2 ^ 64 - end) rs =
    back_upto same_mapping end (2 ^ 64 - end) rs k.canonical
    (EndBelow-weaker (2 ^ 64) (end + (2 ^ 64 - end) + 1) rs (omega arith) k.ends) all in
    let back' : runs_from (start + 1) rs
    ≡ cut_to (start + (end - start)) (2 ^ 64 - (start + (end - start))) rs =
    rw to (none_from (start + 1) end rs ascending (omega arith) low ∙ back) in
    let a = ap length is_new in
    let b = length-append (runs_below start rs) (runs_from (start + 1) rs) in
    let c = parts_length start (start + 1) rs (omega arith) in (
      range_is_clear rs (runs_below start rs) (runs_from (start + 1) rs) start (end - start) None None k (omega arith)
          (omega arith) (front_upto same_mapping start rs k.canonical ends) back' new is_new,
      omega arith,
    )

starts_of_ends : {K : Type 0} (n : ℕ) (rs : List (AddressRun K)) → AreAscending rs → EndBelow (n + 1) rs
    → StartsBelow n rs
starts_of_ends n [] h e = tt
starts_of_ends n (r ∷ rs) h e = let pos = h.0 in (omega arith, starts_of_ends n rs h.2 e.1)

far_follow : (end : ℕ) (m : Mapping) (rs : List (AddressRun Mapping)) → StartFrom (end + 1) rs
    → CanFollow same_mapping end m rs
far_follow end m [] s = tt
far_follow end m (r ∷ rs) s = (omega arith, λ e. absurd (omega arith))

-- one more run, which overlaps no other and joins none. The last ones that start below its end, and there or before
-- it, are known
module _ (rs : List (AddressRun Mapping)) (k : IsKept rs) (r : AddressRun Mapping) (some : 0 < r.len) (end : ℕ)
    (to : end ≡ r.start + r.len) (fits : end < 2 ^ 64) where
  ascending : AreAscending rs
  ascending = ascending_canonical same_mapping rs k.canonical

  parts : IsCanonical same_mapping (runs_below end rs ++ runs_from end rs)
  parts = subst (IsCanonical same_mapping) (sym (ascending_split end rs ascending)) k.canonical

  follows : (last : Option (AddressRun Mapping)) → IsLastBelow rs (end + 1) last
      → IfSome last (λ t. end ≡ t.start → same_mapping r.value t.value ≡ false)
      → CanFollow same_mapping end r.value (runs_from end rs)
  follows None none differs =
      let low : StartsBelow end (runs_below (end + 1) rs) = rw none tt in
      rw (from_next end rs ascending low)
      (far_follow end r.value (runs_from (end + 1) rs) (from_starts (end + 1) rs))
  follows (Some t) is differs =
      let l = starts_limit same_mapping (end + 1) rs k.canonical t is in
      elim (cases_lt t.start end) [
        | inl m ↦
            rw (from_absent end rs ascending t is m)
            (far_follow end r.value (runs_from (end + 1) rs) (from_starts (end + 1) rs))
        | inr m ↦
            let same : t.start ≡ end = omega arith in
            rw (from_here end rs ascending t is same) (omega arith, λ e. differs (sym same))
      ]

  module _ (last : Option (AddressRun Mapping)) (there : IsLastBelow rs (end + 1) last)
      (differs : IfSome last (λ t. end ≡ t.start → same_mapping r.value t.value ≡ false)) where
    behind : IsCanonical same_mapping (r ∷ runs_from end rs)
    behind =
        let f : CanFollow same_mapping (r.start + r.len) r.value (runs_from end rs) =
        subst (λ (n : ℕ). CanFollow same_mapping n r.value (runs_from end rs)) to (follows last there differs) in
        canonical_cons same_mapping r (runs_from end rs) some f
        (canonical_suffix same_mapping (runs_below end rs) (runs_from end rs) parts)

    -- where all runs that start below its end do not reach over its start
    module _ (ends : EndBelow (r.start + 1) (runs_below end rs)) where
      starts : StartsBelow r.start (runs_below end rs)
      starts = starts_of_ends r.start (runs_below end rs) (ascending_below end rs ascending) ends

      same_front : runs_below end rs ≡ runs_below r.start rs
      same_front = sym (below-all r.start (runs_below end rs) starts) ∙ below_below r.start end rs (omega arith)

      stands : IsCanonical same_mapping (runs_below r.start rs ++ r ∷ runs_from end rs)
          → (new : List (AddressRun Mapping)) → new ≡ runs_below r.start rs ++ r ∷ runs_from (r.start + 1) rs
          → (IsKept new × (new ≡ canonical_list (with_run r rs))) × (length new ≤ length rs + 2)
      stands h new is_new =
          let low = StartsBelow-weaker r.start (r.start + 1) (runs_below end rs) (omega arith) starts in
          let is : new ≡ runs_below r.start rs ++ r ∷ runs_from end rs =
          is_new ∙ ap (λ (ys : List (AddressRun Mapping)). runs_below r.start rs ++ (r ∷ ys))
          (none_from (r.start + 1) end rs ascending (omega arith) low) in
          let front : runs_below r.start rs ≡ cut_to 0 r.start rs =
          sym (append-nil (runs_below r.start rs))
          ∙ front_upto same_mapping r.start rs k.canonical (subst (EndBelow (r.start + 1)) same_front ends) in
          let back : runs_from end rs ≡ cut_to (r.start + r.len) (2 ^ 64 - (r.start + r.len)) rs =
          rw (← to)
          (back_upto same_mapping end (2 ^ 64 - end) rs k.canonical
          (EndBelow-weaker (2 ^ 64) (end + (2 ^ 64 - end) + 1) rs (omega arith) k.ends)
          (EndBelow-weaker (r.start + 1) (end + 1) (runs_below end rs) (omega arith) ends)) in
          let a = ap length is_new in
          let b = length-append (runs_below r.start rs) (r ∷ runs_from (r.start + 1) rs) in
          let c = parts_length r.start (r.start + 1) rs (omega arith) in (
            run_is_alone rs (runs_below r.start rs) (runs_from end rs) r k some (omega arith) front back h new is,
            omega arith,
          )

    pub stands_alone : (before : Option (AddressRun Mapping)) → IsLastBelow rs end before
        → IfSome before (λ l. (l.start + l.len ≤ r.start)
        × (l.start + l.len ≡ r.start → same_mapping l.value r.value ≡ false))
        → (new : List (AddressRun Mapping)) → new ≡ runs_below r.start rs ++ r ∷ runs_from (r.start + 1) rs
        → (IsKept new × (new ≡ canonical_list (with_run r rs))) × (length new ≤ length rs + 2)
    stands_alone None none apart =
        let ends : EndBelow (r.start + 1) (runs_below end rs) = rw none tt in
        let front : runs_below r.start rs ≡ [] = sym (same_front ends) ∙ none in
        stands ends
        (subst (λ (xs : List (AddressRun Mapping)). IsCanonical same_mapping (xs ++ r ∷ runs_from end rs)) (sym front)
        behind)
    stands_alone (Some l) is apart =
        let ends : EndBelow (r.start + 1) (runs_below end rs) =
        all_end same_mapping end rs k.canonical l is (r.start + 1) (omega arith) in
        let front : runs_below r.start rs ≡ runs_below l.start rs ++ l ∷ [] = sym (same_front ends) ∙ is in
        let c : IsCanonical same_mapping (runs_below l.start rs ++ l ∷ []) =
        subst (IsCanonical same_mapping) is
        (canonical_prefix same_mapping (runs_below end rs) (runs_from end rs) parts) in
        let all : IsCanonical same_mapping (runs_below l.start rs ++ l ∷ r ∷ runs_from end rs) =
        canonical_last same_mapping (runs_below l.start rs) l l (r ∷ runs_from end rs) c refl refl
        (canonical_cons same_mapping l (r ∷ runs_from end rs) (long same_mapping end rs k.canonical l is) apart
        behind) in
        stands ends
        (subst (λ (xs : List (AddressRun Mapping)). IsCanonical same_mapping (xs ++ r ∷ runs_from end rs)) (sym front)
        (rw (append_assoc (runs_below l.start rs) (l ∷ []) (r ∷ runs_from end rs)) all))

-- ---- a change of a site

-- where what its edges are is known by other names
pub replaced_at : (rs : List (AddressRun Mapping)) (site : Site) (run : Option (AddressRun Mapping))
    (new : List (AddressRun Mapping)) (low high : ℕ) → start_or site.front.run site.start ≡ low → site.end ≡ high
    → IsReplaced rs site run new
    → new ≡ runs_below low rs
    ++ (if_any site.front.run ++ (if_any run ++ (if_any site.back.run ++ runs_from (high + 1) rs)))
replaced_at rs site run new low high l h e =
    subst (λ (n : ℕ). new ≡ runs_below n rs
    ++ (if_any site.front.run ++ (if_any run ++ (if_any site.back.run ++ runs_from (high + 1) rs)))) l
    (subst (λ (n : ℕ). new ≡ runs_below (start_or site.front.run site.start) rs
    ++ (if_any site.front.run ++ (if_any run ++ (if_any site.back.run ++ runs_from (n + 1) rs)))) h e)

-- a run is put over a site, where it joins what it touches
module _ (rs : List (AddressRun Mapping)) (k : IsKept rs) (r : AddressRun Mapping) (some : 0 < r.len)
    (fits : r.start + r.len < 2 ^ 64) (start end : ℕ) (at : start ≡ r.start) (to : end ≡ r.start + r.len)
    (front behind : Edge) (is_front : IsFront rs start front) (cut : CutsInFront rs start front)
    (apart : EndBelow start (runs_below (start_or front.run start) rs))
    (reaches : IfSome front.run (λ l. (0 < l.len) × (l.start + l.len ≡ start))) (cut_after : CutsFrom rs end behind)
    (begun next after : Option (AddressRun Mapping))
    (joins : (j : AddressRun Mapping) × (j ∷ if_any after ≡ prepended r (if_any behind.run))
    × (if_any begun ++ if_any next ≡ prepended_if_any front.run (j ∷ [])))
    (room : length (if_any next) + length (if_any begun) ≤ length (if_any front.run) + 1)
    (new : List (AddressRun Mapping))
    (put : new ≡ runs_below (start_or front.run start) rs
    ++ (if_any begun ++ (if_any next ++ (if_any after ++ runs_from (end + 1) rs)))) where
  is_set : IsKept new × (new ≡ canonical_list (with_run r rs))
  is_set =
      run_is_set rs k r some fits (runs_below (start_or front.run r.start) rs) (runs_from (r.start + r.len + 1) rs)
      behind.run (rw at at apart) (rw to at cut_after) (from_starts (r.start + r.len + 1) rs) joins.0 after joins.1
      front.run (rw at at cut) (rw at at reaches) begun next joins.2 new (rw (at, to) at put)

  pub set_over : (IsKept new × (new ≡ canonical_list (with_run r rs))) × (length new ≤ length rs + 2)
  set_over =
      let a = length_four (runs_below (start_or front.run start) rs) (if_any begun) (if_any next) (if_any after)
      (runs_from (end + 1) rs) new put in
      let b = front_length front.run start rs is_front.there in
      let d = if_any_one after in
      let f = parts_length start (end + 1) rs (omega arith) in
      let g = room in
      (is_set, omega arith)

-- nothing is put over a site
pub cleared_over : (rs : List (AddressRun Mapping)) → IsKept rs → (start end : ℕ) → start < end → end < 2 ^ 64
    → (front behind : Edge) → IsFront rs start front → CutsInFront rs start front → CutsFrom rs end behind
    → (new : List (AddressRun Mapping))
    → new ≡ runs_below (start_or front.run start) rs
    ++ (if_any front.run ++ (if_any behind.run ++ runs_from (end + 1) rs))
    → (IsKept new × (new ≡ canonical_list (without_range start (end - start) rs))) × (length new ≤ length rs + 1)
cleared_over rs k start end some fits front behind is_front cut cut_after new put =
    let to : start + (end - start) ≡ end = omega arith in
    let back : if_any behind.run ++ runs_from (end + 1) rs
    ≡ cut_to (start + (end - start)) (2 ^ 64 - (start + (end - start))) rs = rw to cut_after in
    let a = length_four (runs_below (start_or front.run start) rs) (if_any front.run) [] (if_any behind.run)
    (runs_from (end + 1) rs) new put in
    let b = front_length front.run start rs is_front.there in
    let d = if_any_one behind.run in
    let f = parts_length start (end + 1) rs (omega arith) in (
      range_is_clear rs (runs_below (start_or front.run start) rs) (runs_from (end + 1) rs) start (end - start)
          front.run behind.run k (omega arith) (omega arith) cut back new put,
      omega arith,
    )

-- ---- the edges of a site where a run joins them

-- what is left of the one after it is as it was
pub if_left : (P : AddressRun Mapping → Type 0) (before after : Option (AddressRun Mapping))
    → IfSome after (λ r. if_any before ≡ r ∷ []) → IfSome before P → IfSome after P
if_left P before None h p = tt
if_left P None (Some r) h p = absurd (none_left r h)
  where
    none_left : (r : AddressRun Mapping) → [] ≡ r ∷ [] → ⊥
    none_left r e = cc
if_left P (Some x) (Some r) h p =
    let same : x ≡ r = cc in
    subst P same p

none_there : IsSome {T = AddressRun Mapping} None → ⊥
none_there e = cc

-- the one in front begins where it did
module _ (rs : List (AddressRun Mapping)) (at : ℕ) where
  pub begun_there : (left begun : Option (AddressRun Mapping)) → ((x : ℕ) → start_or begun x ≡ start_or left x)
      → (IsSome left ↔ IsSome begun)
      → IfSome left (λ l. (d : AddressRun Mapping) × (d.start ≡ l.start)
      × (runs_below at rs ≡ runs_below l.start rs ++ d ∷ []))
      → IfSome begun (λ l. (d : AddressRun Mapping) × (d.start ≡ l.start)
      × (runs_below at rs ≡ runs_below l.start rs ++ d ∷ []))
  begun_there left None e s h = tt
  begun_there None (Some b) e s h = absurd (none_there (s.1 refl))
  begun_there (Some l) (Some b) e s h =
      let same : b.start ≡ l.start = e 0 in (
        h.0,
        h.1 ∙ sym same,
        subst (λ (n : ℕ). runs_below at rs ≡ runs_below n rs ++ h.0 ∷ []) (sym same) h.2,
      )

  -- and it is what it was where the run does not join it
  pub begun_whole : (left begun : Option (AddressRun Mapping)) → (IsSome left ↔ IsSome begun)
      → (IsSome left → begun ≡ left) → IfSome left (λ l. runs_below at rs ≡ runs_below l.start rs ++ l ∷ [])
      → IfSome begun (λ l. runs_below at rs ≡ runs_below l.start rs ++ l ∷ [])
  begun_whole left None s stays h = tt
  begun_whole None (Some b) s stays h = absurd (none_there (s.1 refl))
  begun_whole (Some l) (Some b) s stays h =
      let both : Some b ≡ Some l = stays refl in
      let same : b ≡ l = cc in
      rw same h
