-- Runs put, taken out and put again.
use Rattle.std.proofs.Common.{◌≡◌, ℕ, ◌+◌, ◌<◌, ◌≤◌, false, ltb, leb, List, [], ◌∷◌, ◌++◌, length, Option, Some, None, IfSome, refl, sym, ap, subst, inl, inr, ◌∙◌, arith}
use Rattle.std.proofs.lemmas.Bool.{lt-ltb, le-ltb, cases_lt, cases_Bool}
use Rattle.std.proofs.lemmas.List.{append-nil, append_assoc, length-append}
use Rattle.std.proofs.lemmas.List.Elements.{filter-append}
use Rattle.vm_memory_base.specs.Change.{if_any, start_or, StartFrom, AreAscending, runs_below, runs_from}
use Rattle.vm_memory_base.specs.Runs.{AddressRun}
use Rattle.vm_memory_base.specs.Table.{Mapping}
use Rattle.vm_memory_base.proofs.ChangeLemmas.{StartFrom-weaker}
use Rattle.vm_memory_base.proofs.RunsLaws.{run}
use Rattle.vm_memory_base.proofs.SideLemmas.{StartsBelow-append}
use Rattle.vm_memory_base.proofs.StartLemmas.{StartsBelow, StartsBelow-weaker, ascending_split, below-all, below-none, below_below, below_of, below_starts, from-all, from-none, from_from, from_of, from_starts}
use Rattle.vm_memory_base.proofs.StoredLemmas.{last_starts}

-- ---- runs put, taken out and put again

pub nothing_between : {K : Type 0} (low high : ℕ) (rs : List (AddressRun K)) → AreAscending rs → low ≤ high
    → StartsBelow low (runs_below high rs) → rs ≡ runs_below low rs ++ runs_from high rs
nothing_between low high rs h l s =
    sym (ascending_split high rs h)
    ∙ ap (λ (ys : List (AddressRun _)). ys ++ runs_from high rs)
    (sym (below-all low (runs_below high rs) s) ∙ below_below low high rs l)

-- the runs below an address and from another on, where one between them goes
pub outer_below : {K : Type 0} (low k : ℕ) (rs ys : List (AddressRun K)) → low ≤ k → StartFrom k ys
    → runs_below low (runs_below k rs ++ ys) ≡ runs_below low rs
outer_below low k rs ys l s =
    filter-append (λ r. ltb r.start low) (runs_below k rs) ys
    ∙ rw (below_below low k rs l, below-none low ys (StartFrom-weaker low k ys l s)) (append-nil (runs_below low rs))

pub outer_from : {K : Type 0} (k high : ℕ) (rs ys : List (AddressRun K)) → k ≤ high
    → runs_from high (runs_below k rs ++ ys) ≡ runs_from high ys
outer_from k high rs ys l =
    filter-append (λ r. leb high r.start) (runs_below k rs) ys
    ∙ rw (from-none high (runs_below k rs) (StartsBelow-weaker k high (runs_below k rs) l (below_starts k rs))) refl

pub outer_stay : {K : Type 0} (low k high : ℕ) (rs new : List (AddressRun K)) → low ≤ k → k < high
    → new ≡ runs_below k rs ++ runs_from (k + 1) rs
    → runs_below low new ++ runs_from high new ≡ runs_below low rs ++ runs_from high rs
outer_stay low k high rs new l m is =
    let a = outer_below low k rs (runs_from (k + 1) rs) l
    (StartFrom-weaker k (k + 1) (runs_from (k + 1) rs) (omega arith) (from_starts (k + 1) rs)) in
    let b = outer_from k high rs (runs_from (k + 1) rs) (omega arith) ∙ from_from (k + 1) high rs (omega arith) in
    rw (is, a, b) refl

pub one_less : {K : Type 0} (limit : ℕ) (rs new : List (AddressRun K)) (r : AddressRun K) → AreAscending rs
    → runs_below limit rs ≡ runs_below r.start rs ++ r ∷ []
    → new ≡ runs_below r.start rs ++ runs_from (r.start + 1) rs → length new < length rs
one_less {K} limit rs new r h is e =
    let l : r.start < limit = last_starts limit (runs_below r.start rs) r
    (subst (StartsBelow limit) is (below_starts limit rs)) in
    let a = ap length (sym (ascending_split limit rs h) ∙ ap (λ (ys : List (AddressRun K)). ys ++ runs_from limit rs)
    is) in
    let b = ap length e in
    let c = length-append (runs_below r.start rs) (runs_from (r.start + 1) rs) in
    let d = length-append (runs_below r.start rs ++ r ∷ []) (runs_from limit rs) in
    let f = length-append (runs_below r.start rs) (r ∷ []) in
    let next : runs_from (r.start + 1) rs ≡ runs_from limit rs =
    ap (runs_from (r.start + 1)) (sym (ascending_split limit rs h)
    ∙ ap (λ (ys : List (AddressRun K)). ys ++ runs_from limit rs) is)
    ∙ from_of (r.start + 1) (runs_below r.start rs ++ r ∷ []) (runs_from limit rs)
    (StartsBelow-append (r.start + 1) (runs_below r.start rs) (r ∷ [])
    (StartsBelow-weaker r.start (r.start + 1) (runs_below r.start rs) (omega arith) (below_starts r.start rs))
    (omega arith, tt))
    (StartFrom-weaker (r.start + 1) limit (runs_from limit rs) (omega arith) (from_starts limit rs)) in
    let g = ap length next in
    omega arith

-- one run in the place of those between two addresses
pub put_one : {K : Type 0} (first high : ℕ) (r : AddressRun K) (rs put new : List (AddressRun K)) → r.start ≡ first
    → first < high → put ≡ runs_below r.start rs ++ r ∷ runs_from (r.start + 1) rs
    → new ≡ runs_below (first + 1) put ++ runs_from high put → new ≡ runs_below first rs ++ (r ∷ runs_from high rs)
put_one {K} first high r rs put new s l is e =
    let k = r.start in
    let starts = from_starts (k + 1) rs in
    let a : runs_below (k + 1) ((runs_below k rs ++ r ∷ []) ++ runs_from (k + 1) rs) ≡ runs_below k rs ++ r ∷ [] =
    below_of (k + 1) (runs_below k rs ++ r ∷ []) (runs_from (k + 1) rs)
    (StartsBelow-append (k + 1) (runs_below k rs) (r ∷ [])
    (StartsBelow-weaker k (k + 1) (runs_below k rs) (omega arith) (below_starts k rs)) (omega arith, tt)) starts in
    let a' : runs_below (k + 1) put ≡ runs_below k rs ++ r ∷ [] =
    ap (runs_below (k + 1)) (is ∙ sym (append_assoc (runs_below k rs) (r ∷ []) (runs_from (k + 1) rs))) ∙ a in
    let gone : leb high k ≡ false = grind (arith) in
    let b : runs_from high put ≡ runs_from high rs =
    ap (runs_from high) is ∙ outer_from k high rs (r ∷ runs_from (k + 1) rs) (omega arith)
    ∙ rw gone (from_from (k + 1) high rs (omega arith)) in
    let all : new ≡ runs_below (k + 1) put ++ runs_from high put = rw s e in
    let done : new ≡ runs_below k rs ++ (r ∷ runs_from high rs) =
    all ∙ rw (a', b) (append_assoc (runs_below k rs) (r ∷ []) (runs_from high rs)) in
    subst (λ (n : ℕ). new ≡ runs_below n rs ++ (r ∷ runs_from high rs)) s done

-- one more at the second of the addresses
pub put_two : {K : Type 0} (first last : ℕ) (r : AddressRun K) (rs put : List (AddressRun K)) → r.start ≡ last
    → first < last → put ≡ runs_below r.start rs ++ r ∷ runs_from (r.start + 1) rs
    → (runs_below first put ≡ runs_below first rs) × (runs_from last put ≡ r ∷ runs_from (last + 1) rs)
    × (runs_below last put ≡ runs_below last rs)
put_two {K} first last r rs put s l is =
    let k = r.start in
    let starts = from_starts (k + 1) rs in
    let t : StartFrom k (r ∷ runs_from (k + 1) rs) =
    (omega arith, StartFrom-weaker k (k + 1) (runs_from (k + 1) rs) (omega arith) starts) in
    let a : runs_below first put ≡ runs_below first rs =
    ap (runs_below first) is ∙ outer_below first k rs (r ∷ runs_from (k + 1) rs) (omega arith) t in
    let b : runs_from k put ≡ r ∷ runs_from (k + 1) rs =
    ap (runs_from k) is ∙ from_of k (runs_below k rs) (r ∷ runs_from (k + 1) rs) (below_starts k rs) t in
    let d : runs_below k put ≡ runs_below k rs =
    ap (runs_below k) is ∙ outer_below k k rs (r ∷ runs_from (k + 1) rs) (omega arith) t in (
      a,
      subst (λ (n : ℕ). runs_from n put ≡ r ∷ runs_from (n + 1) rs) s b,
      subst (λ (n : ℕ). runs_below n put ≡ runs_below n rs) s d,
    )

pub taken_back : {K : Type 0} (k : ℕ) (r : AddressRun K) (rs put new : List (AddressRun K)) → r.start ≡ k
    → AreAscending rs → runs_from k rs ≡ runs_from (k + 1) rs
    → put ≡ runs_below r.start rs ++ r ∷ runs_from (r.start + 1) rs
    → new ≡ runs_below k put ++ runs_from (k + 1) put → new ≡ rs
taken_back {K} k r rs put new s h none is e =
    let is' = subst (λ (n : ℕ). put ≡ runs_below n rs ++ (r ∷ runs_from (n + 1) rs)) s is in
    let t : StartFrom k (r ∷ runs_from (k + 1) rs) =
    (omega arith, StartFrom-weaker k (k + 1) (runs_from (k + 1) rs) (omega arith) (from_starts (k + 1) rs)) in
    let a : runs_below k put ≡ runs_below k rs =
    ap (runs_below k) is' ∙ below_of k (runs_below k rs) (r ∷ runs_from (k + 1) rs) (below_starts k rs) t in
    let gone : leb (k + 1) r.start ≡ false = grind (arith) in
    let b : runs_from (k + 1) put ≡ runs_from (k + 1) rs =
    ap (runs_from (k + 1)) is' ∙ outer_from k (k + 1) rs (r ∷ runs_from (k + 1) rs) (omega arith)
    ∙ rw gone (from-all (k + 1) (runs_from (k + 1) rs) (from_starts (k + 1) rs)) in
    e ∙ rw (a, b) (ap (λ (ys : List (AddressRun K)). runs_below k rs ++ ys) (sym none) ∙ ascending_split k rs h)

-- the run that starts at the second of the addresses goes
pub gone_after : (first last : ℕ) (run : Option (AddressRun Mapping)) (rs put new : List (AddressRun Mapping))
    → first < last → IfSome run (λ r. r.start ≡ first) → put ≡ runs_below first rs ++ (if_any run ++ runs_from last rs)
    → new ≡ runs_below last put ++ runs_from (last + 1) put
    → new ≡ runs_below first rs ++ (if_any run ++ runs_from (last + 1) rs)
gone_after first last run rs put new l s is e =
    let xs = runs_below first rs ++ if_any run in
    let low : StartsBelow last xs =
    StartsBelow-append last (runs_below first rs) (if_any run)
    (StartsBelow-weaker first last (runs_below first rs) (omega arith) (below_starts first rs)) (one run s) in
    let put_is : put ≡ xs ++ runs_from last rs =
    is ∙ sym (append_assoc (runs_below first rs) (if_any run) (runs_from last rs)) in
    let a : runs_below last put ≡ xs =
    ap (runs_below last) put_is ∙ below_of last xs (runs_from last rs) low (from_starts last rs) in
    let b : runs_from (last + 1) put ≡ runs_from (last + 1) rs =
    ap (runs_from (last + 1)) put_is ∙ filter-append (λ r. leb (last + 1) r.start) xs (runs_from last rs)
    ∙ rw (from-none (last + 1) xs (StartsBelow-weaker last (last + 1) xs (omega arith) low))
    (from_from last (last + 1) rs (omega arith)) in
    e ∙ rw (a, b) (append_assoc (runs_below first rs) (if_any run) (runs_from (last + 1) rs))
  where
    one : (run : Option (AddressRun Mapping)) → IfSome run (λ r. r.start ≡ first) → StartsBelow last (if_any run)
    one None s = tt
    one (Some r) s = (omega arith, tt)

-- ---- how many

pub parts_length : {K : Type 0} (low high : ℕ) (rs : List (AddressRun K)) → low ≤ high
    → length (runs_below low rs) + length (runs_from high rs) ≤ length rs
parts_length low high [] l = omega arith
parts_length low high (r ∷ rs) l =
    let rest = parts_length low high rs l in
    elim (cases_lt r.start low) [
      | inl m ↦
          let t : leb high r.start ≡ false = grind (arith) in
          rw (lt-ltb r.start low m, t) (omega arith)
      | inr m ↦
          elim (cases_Bool (leb high r.start)) [
            | inl t ↦ rw (le-ltb r.start low m, t) (omega arith)
            | inr t ↦ rw (le-ltb r.start low m, t) (omega arith)
          ]
    ]

pub front_length : (left : Option (AddressRun Mapping)) (start : ℕ) (rs : List (AddressRun Mapping))
    → IfSome left (λ l. (d : AddressRun Mapping) × (d.start ≡ l.start)
    × (runs_below start rs ≡ runs_below l.start rs ++ d ∷ []))
    → length (runs_below (start_or left start) rs) + length (if_any left) ≡ length (runs_below start rs)
front_length None start rs h = omega arith
front_length (Some l) start rs h =
    let a = ap length h.2 in
    let b = length-append (runs_below l.start rs) (h.0 ∷ []) in
    omega arith

pub length_four : {X : Type 0} (us vs ws xs ys new : List X) → new ≡ us ++ (vs ++ (ws ++ (xs ++ ys)))
    → length new ≡ length us + length vs + length ws + length xs + length ys
length_four us vs ws xs ys new e =
    let a = ap length e in
    let b = length-append us (vs ++ (ws ++ (xs ++ ys))) in
    let c = length-append vs (ws ++ (xs ++ ys)) in
    let d = length-append ws (xs ++ ys) in
    let f = length-append xs ys in
    omega arith
