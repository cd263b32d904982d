-- Ranges that are whole, byte by byte.
use Rattle.std.proofs.Common.{◌≡◌, ℕ, zero, suc, ◌+◌, ◌<◌, ◌↔◌, Bool, true, false, cond, List, [], length, Some, MatchOption, refl, sym, ap, subst, add-zero, zero-add, ◌∙◌, arith}
use Rattle.std.specs.Prelude.{◌==◌}
use Rattle.std.proofs.lemmas.Bool.{eqb-true, false≢true}
use Rattle.std.proofs.lemmas.Bool.Decides.{nat_tests}
use Rattle.vm_memory_base.specs.declared.iotlb.Permissions.{Permissions}
use Rattle.vm_memory_guest.specs.Access.{Reached, Meets, Reaches, Stops, Access, onto, path, first_fault, meets, allowed, refusal, access_of}
use Rattle.vm_memory_guest.specs.Memory.{Route}
use Rattle.vm_memory_guest.specs.Queries.{is_whole}
use Rattle.vm_memory_guest.specs.Region.{Region}
use Rattle.vm_memory_guest.proofs.PathLaws.{access-ends}

shifted : (i k : ℕ) → i + suc k ≡ i + 1 + k
shifted i k = omega arith

-- a path has all of n bytes exactly where each of them is reached
module _ (m : ℕ → Meets) where
  abbrev IsReached : ℕ → Type 0
  IsReached j = (x : Reached) × (m j ≡ Reaches x)

  path-whole : (i n : ℕ) → ((k : ℕ) → k < n → IsReached (i + k)) → length (path m i n) ≡ n
  unfolding path
  path-whole i zero h = refl
  path-whole i (suc n) h =
      let first = subst IsReached (add-zero i) (h 0 (omega arith)) in
      let rest = path-whole (i + 1) n (λ k l. subst IsReached (shifted i k) (h (suc k) (omega arith))) in
      ap (λ o. length (onto o (path m (i + 1) n))) first.1 ∙ ap suc rest

  whole-reached : (i n k : ℕ) → length (path m i n) ≡ n → k < n → IsReached (i + k)
  unfolding path
  whole-reached i zero k e h = absurd (omega arith)
  whole-reached i (suc n) k e h = go (whole-reached (i + 1) n) (m i) refl e k h
    where
      go : ((k : ℕ) → length (path m (i + 1) n) ≡ n → k < n → IsReached (i + 1 + k)) → (o : Meets) → m i ≡ o
          → length (onto o (path m (i + 1) n)) ≡ suc n → (k : ℕ) → k < suc n → IsReached (i + k)
      go ih (Stops fault) is e k h = let none : 0 ≡ suc n = e in absurd (omega arith)
      go ih (Reaches x) is e zero h = subst IsReached (sym (add-zero i)) (x, is)
      go ih (Reaches x) is e (suc k) h =
          let more : suc (length (path m (i + 1) n)) ≡ suc n = e in
          subst IsReached (sym (shifted i k)) (ih k (omega arith) (omega arith))

whole_test : (len n : ℕ) → len ≡ n → (len == n) ≡ true
whole_test len n h = grind (arith, nat_tests)

-- so is a range that may be accessed
pub whole-by-bytes : (regions : List Region) (route : Route) (a n : ℕ) (access : Permissions)
    → (is_whole (access_of regions route a n access).path n ≡ true)
    ↔ ((allowed route a n access ≡ true)
    × ((i : ℕ) → i < n → (x : Reached) × (meets regions route a i ≡ Reaches x)))
whole-by-bytes regions route a n access = by (allowed route a n access) refl
  where
    m : ℕ → Meets
    m = meets regions route a

    gives : Bool → Access
    gives b = cond b (record { path = path m 0 n; fault = first_fault m 0 n })
        (record { path = []; fault = Some (refusal route a n) })

    by : (b : Bool) → allowed route a n access ≡ b
        → (is_whole (gives b).path n ≡ true) ↔ ((b ≡ true) × ((i : ℕ) → i < n → (x : Reached) × (m i ≡ Reaches x)))
    by true is = (
      λ h. (
        refl,
        λ i l. subst (λ j. (x : Reached) × (m j ≡ Reaches x)) (zero-add i)
            (whole-reached m 0 n i (eqb-true _ _ h) l),
      ),
      λ h. whole_test (length (path m 0 n)) n
          (path-whole m 0 n (λ k l. subst (λ j. (x : Reached) × (m j ≡ Reaches x)) (sym (zero-add k)) (h.1 k l))),
    )
    by false is =
        let some : 0 < n = subst (λ b. MatchOption (gives b).fault (length (gives b).path ≡ n)
        (λ fault. length (gives b).path < n)) is (access-ends regions route a n access) in
        (λ h. let none = eqb-true 0 n h in absurd (omega arith), λ h. absurd (false≢true h.0))
