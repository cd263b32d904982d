-- The runs on both sides of an address, in canonical runs.
use Rattle.std.proofs.Common.{◌≡◌, ℕ, ◌+◌, ◌-◌, ◌<◌, ◌≤◌, min, max, Bool, true, ltb, leb, List, [], ◌∷◌, ◌++◌, Option, Some, None, IfSome, IfNone, refl, sym, ap, subst, ◌∙◌, arith}
use Rattle.std.proofs.lemmas.Bool.{lt-ltb}
use Rattle.std.proofs.lemmas.List.{append_cancel_right, append_assoc}
use Rattle.std.proofs.lemmas.List.Elements.{filter-append}
use Rattle.vm_memory_base.specs.Change.{if_any, EndBelow, StartFrom, AreAscending, runs_below, runs_from}
use Rattle.vm_memory_base.specs.Runs.{AddressRun, IsCanonical, cut_to}
use Rattle.vm_memory_base.specs.Site.{IsLastBelow}
use Rattle.vm_memory_base.specs.Table.{Mapping, same_mapping}
use Rattle.vm_memory_base.specs.Walk.{HeadEndsAfter}
use Rattle.vm_memory_base.proofs.ChangeLemmas.{StartFrom-weaker, StartFrom-zero, EndBelow-weaker, tail_starts, cut_to-append, cut_to-inside, cut_to-before, cut_to-behind}
use Rattle.vm_memory_base.proofs.RunsLaws.{run, canonical_pos, canonical_tail}
use Rattle.vm_memory_base.proofs.StartLemmas.{StartsBelow, StartsBelow-weaker, ascending_canonical, ascending_from, ascending_split, below-all, below_below, below_starts, from-all, from_from, from_of, from_starts}
use Rattle.vm_memory_base.proofs.StoredLemmas.{last_starts, starts_at}

-- ---- parts of canonical runs

pub canonical_suffix : {K : Type 0} (same : K → K → Bool) (xs ys : List (AddressRun K)) → IsCanonical same (xs ++ ys)
    → IsCanonical same ys
canonical_suffix same [] ys h = h
canonical_suffix same (x ∷ xs) ys h = canonical_suffix same xs ys (canonical_tail same x (xs ++ ys) h)

pub canonical_prefix : {K : Type 0} (same : K → K → Bool) (xs ys : List (AddressRun K)) → IsCanonical same (xs ++ ys)
    → IsCanonical same xs
canonical_prefix same [] ys h = tt
canonical_prefix same (x ∷ []) ys h = canonical_pos same x ys h
canonical_prefix same (x ∷ y ∷ xs) ys h = (h.0, h.1, h.2, canonical_prefix same (y ∷ xs) ys h.3)

pub EndBelow-append : {K : Type 0} (limit : ℕ) (xs ys : List (AddressRun K)) → EndBelow limit xs → EndBelow limit ys
    → EndBelow limit (xs ++ ys)
EndBelow-append limit [] ys a b = b
EndBelow-append limit (x ∷ xs) ys a b = (a.0, EndBelow-append limit xs ys a.1 b)

pub EndBelow-suffix : {K : Type 0} (limit : ℕ) (xs ys : List (AddressRun K)) → EndBelow limit (xs ++ ys)
    → EndBelow limit ys
EndBelow-suffix limit [] ys a = a
EndBelow-suffix limit (x ∷ xs) ys a = EndBelow-suffix limit xs ys a.1

-- the runs before one end before it begins
pub ends_last : {K : Type 0} (same : K → K → Bool) (xs : List (AddressRun K)) (r : AddressRun K)
    (ys : List (AddressRun K)) → IsCanonical same (xs ++ r ∷ ys) → EndBelow (r.start + 1) xs
ends_last same [] r ys h = tt
ends_last same (x ∷ xs) r ys h =
    let l : x.start + x.len ≤ r.start =
    starts_at (x.start + x.len) xs r ys (tail_starts same x (xs ++ r ∷ ys) h) in
    (omega arith, ends_last same xs r ys (canonical_tail same x (xs ++ r ∷ ys) h))

-- the runs around the last one that starts below a limit
module _ {K : Type 0} (same : K → K → Bool) (limit : ℕ) (rs : List (AddressRun K)) (h : IsCanonical same rs)
    (r : AddressRun K) (is : runs_below limit rs ≡ runs_below r.start rs ++ r ∷ []) where
  pub whole : rs ≡ runs_below r.start rs ++ (r ∷ runs_from limit rs)
  whole = sym (ascending_split limit rs (ascending_canonical same rs h))
      ∙ ap (λ (ys : List (AddressRun K)). ys ++ runs_from limit rs) is
      ∙ append_assoc (runs_below r.start rs) (r ∷ []) (runs_from limit rs)

  pub canonical_whole : IsCanonical same (runs_below r.start rs ++ (r ∷ runs_from limit rs))
  canonical_whole = subst (IsCanonical same) whole h

  pub ends_before_last : EndBelow (r.start + 1) (runs_below r.start rs)
  ends_before_last = ends_last same (runs_below r.start rs) r (runs_from limit rs) canonical_whole

  pub starts_limit : r.start < limit
  starts_limit = last_starts limit (runs_below r.start rs) r (subst (StartsBelow limit) is (below_starts limit rs))

  pub starts_after : StartFrom (r.start + r.len) (runs_from limit rs)
  starts_after = tail_starts same r (runs_from limit rs)
      (canonical_suffix same (runs_below r.start rs) (r ∷ runs_from limit rs) canonical_whole)

  pub long : 0 < r.len
  long = canonical_pos same r (runs_from limit rs)
      (canonical_suffix same (runs_below r.start rs) (r ∷ runs_from limit rs) canonical_whole)

  pub all_end : (end : ℕ) → r.start + r.len < end → EndBelow end (runs_below limit rs)
  all_end end l =
      subst (EndBelow end) (sym is)
      (EndBelow-append end (runs_below r.start rs) (r ∷ [])
      (EndBelow-weaker (r.start + 1) end (runs_below r.start rs) (let p = long in omega arith) ends_before_last)
      (l, tt))

  -- the last run that starts below the limit reaches it
  pub front_cut : limit ≤ r.start + r.len
      → runs_below r.start rs ++ run r.start (limit - r.start) r.value ∷ [] ≡ cut_to 0 limit rs
  front_cut u =
      let s = starts_limit in
      let from : max 0 r.start ≡ r.start = omega arith in
      let to : min (0 + limit) (r.start + r.len) ≡ limit = omega arith in
      let below : ltb r.start limit ≡ true = lt-ltb r.start limit s in
      let t = cut_to-behind 0 limit (runs_from limit rs)
      (StartFrom-weaker (0 + limit) limit (runs_from limit rs) (omega arith) (from_starts limit rs)) in
      let p = cut_to-inside same 0 limit (runs_below r.start rs)
      (canonical_prefix same (runs_below r.start rs) (r ∷ runs_from limit rs) canonical_whole)
      (StartFrom-zero (runs_below r.start rs))
      (EndBelow-weaker (r.start + 1) (0 + limit + 1) (runs_below r.start rs) (omega arith) ends_before_last) in
      let last : cut_to 0 limit (r ∷ runs_from limit rs) ≡ run r.start (limit - r.start) r.value ∷ [] =
      rw (from, to, below, t) in
      sym (ap (cut_to 0 limit) whole
      ∙ cut_to-append 0 limit (runs_below r.start rs) (r ∷ runs_from limit rs) ∙ rw (p, last))

pub front_upto : {K : Type 0} (same : K → K → Bool) (limit : ℕ) (rs : List (AddressRun K)) → IsCanonical same rs
    → EndBelow (limit + 1) (runs_below limit rs) → runs_below limit rs ++ [] ≡ cut_to 0 limit rs
front_upto same limit rs h e =
    let split = sym (ascending_split limit rs (ascending_canonical same rs h)) in
    let t = cut_to-behind 0 limit (runs_from limit rs)
    (StartFrom-weaker (0 + limit) limit (runs_from limit rs) (omega arith) (from_starts limit rs)) in
    let p = cut_to-inside same 0 limit (runs_below limit rs)
    (canonical_prefix same (runs_below limit rs) (runs_from limit rs) (subst (IsCanonical same) split h))
    (StartFrom-zero (runs_below limit rs)) (EndBelow-weaker (limit + 1) (0 + limit + 1) (runs_below limit rs)
    (omega arith) e) in
    sym (ap (cut_to 0 limit) split ∙ cut_to-append 0 limit (runs_below limit rs) (runs_from limit rs) ∙ rw (p, t))

pub front_apart : {K : Type 0} (same : K → K → Bool) (limit : ℕ) (rs : List (AddressRun K)) → IsCanonical same rs
    → EndBelow limit (runs_below limit rs) → runs_below limit rs ++ [] ≡ cut_to 0 limit rs
front_apart same limit rs h e =
    front_upto same limit rs h (EndBelow-weaker limit (limit + 1) (runs_below limit rs) (omega arith) e)

inside_after : {K : Type 0} (same : K → K → Bool) (at n : ℕ) (rs : List (AddressRun K)) → IsCanonical same rs
    → EndBelow (at + n + 1) rs → cut_to at n (runs_from (at + 1) rs) ≡ runs_from (at + 1) rs
inside_after same at n rs h b =
    let split = sym (ascending_split (at + 1) rs (ascending_canonical same rs h)) in
    cut_to-inside same at n (runs_from (at + 1) rs)
    (canonical_suffix same (runs_below (at + 1) rs) (runs_from (at + 1) rs) (subst (IsCanonical same) split h))
    (StartFrom-weaker at (at + 1) (runs_from (at + 1) rs) (omega arith) (from_starts (at + 1) rs))
    (EndBelow-suffix (at + n + 1) (runs_below (at + 1) rs) (runs_from (at + 1) rs)
    (subst (EndBelow (at + n + 1)) split b))

pub back_apart : {K : Type 0} (same : K → K → Bool) (at n : ℕ) (rs : List (AddressRun K)) → IsCanonical same rs
    → EndBelow (at + n + 1) rs → EndBelow (at + 1) (runs_below (at + 1) rs) → runs_from (at + 1) rs ≡ cut_to at n rs
back_apart same at n rs h b e =
    let split = sym (ascending_split (at + 1) rs (ascending_canonical same rs h)) in
    let p = cut_to-before at n (runs_below (at + 1) rs) e in
    let q = inside_after same at n rs h b in
    sym (ap (cut_to at n) split ∙ cut_to-append at n (runs_below (at + 1) rs) (runs_from (at + 1) rs) ∙ rw (p, q))

pub back_cut : {K : Type 0} (same : K → K → Bool) (at n : ℕ) (rs : List (AddressRun K)) → IsCanonical same rs
    → EndBelow (at + n + 1) rs → (r : AddressRun K) → runs_below (at + 1) rs ≡ runs_below r.start rs ++ r ∷ []
    → at < r.start + r.len → run at (r.start + r.len - at) r.value ∷ runs_from (at + 1) rs ≡ cut_to at n rs
back_cut same at n rs h b r is u =
    let s = starts_limit same (at + 1) rs h r is in
    let w = whole same (at + 1) rs h r is in
    let e = ends_before_last same (at + 1) rs h r is in
    let all : EndBelow (at + n + 1) (r ∷ runs_from (at + 1) rs) =
    EndBelow-suffix (at + n + 1) (runs_below r.start rs) (r ∷ runs_from (at + 1) rs)
    (subst (EndBelow (at + n + 1)) w b) in
    let from : max at r.start ≡ at = omega arith in
    let to : min (at + n) (r.start + r.len) ≡ r.start + r.len = omega arith in
    let below : ltb at (r.start + r.len) ≡ true = lt-ltb at (r.start + r.len) u in
    let p = cut_to-before at n (runs_below r.start rs)
    (EndBelow-weaker (r.start + 1) (at + 1) (runs_below r.start rs) (omega arith) e) in
    let q = inside_after same at n rs h b in
    let last : cut_to at n (r ∷ runs_from (at + 1) rs)
    ≡ run at (r.start + r.len - at) r.value ∷ runs_from (at + 1) rs = rw (from, to, below, q) in
    sym (ap (cut_to at n) w ∙ cut_to-append at n (runs_below r.start rs) (r ∷ runs_from (at + 1) rs) ∙ rw (p, last))

-- where the runs that start below an address end there or before it
pub back_upto : {K : Type 0} (same : K → K → Bool) (at n : ℕ) (rs : List (AddressRun K)) → IsCanonical same rs
    → EndBelow (at + n + 1) rs → EndBelow (at + 1) (runs_below at rs) → runs_from at rs ≡ cut_to at n rs
back_upto same at n rs h b e =
    let split = sym (ascending_split at rs (ascending_canonical same rs h)) in
    let p = cut_to-before at n (runs_below at rs) e in
    let q = cut_to-inside same at n (runs_from at rs)
    (canonical_suffix same (runs_below at rs) (runs_from at rs) (subst (IsCanonical same) split h)) (from_starts at rs)
    (EndBelow-suffix (at + n + 1) (runs_below at rs) (runs_from at rs) (subst (EndBelow (at + n + 1)) split b)) in
    sym (ap (cut_to at n) split ∙ cut_to-append at n (runs_below at rs) (runs_from at rs) ∙ rw (p, q))

-- whether a run starts at an address
pub from_next : {K : Type 0} (at : ℕ) (rs : List (AddressRun K)) → AreAscending rs
    → StartsBelow at (runs_below (at + 1) rs) → runs_from at rs ≡ runs_from (at + 1) rs
from_next at rs h s =
    ap (runs_from at) (sym (ascending_split (at + 1) rs h))
    ∙ from_of at (runs_below (at + 1) rs) (runs_from (at + 1) rs) s
    (StartFrom-weaker at (at + 1) (runs_from (at + 1) rs) (omega arith) (from_starts (at + 1) rs))

pub StartsBelow-append : {K : Type 0} (limit : ℕ) (xs ys : List (AddressRun K)) → StartsBelow limit xs
    → StartsBelow limit ys → StartsBelow limit (xs ++ ys)
StartsBelow-append limit [] ys a b = b
StartsBelow-append limit (x ∷ xs) ys a b = (a.0, StartsBelow-append limit xs ys a.1 b)

pub from_absent : {K : Type 0} (at : ℕ) (rs : List (AddressRun K)) → AreAscending rs → (r : AddressRun K)
    → runs_below (at + 1) rs ≡ runs_below r.start rs ++ r ∷ [] → r.start < at
    → runs_from at rs ≡ runs_from (at + 1) rs
from_absent at rs h r is l =
    from_next at rs h
    (subst (StartsBelow at) (sym is)
    (StartsBelow-append at (runs_below r.start rs) (r ∷ [])
    (StartsBelow-weaker r.start at (runs_below r.start rs) (omega arith) (below_starts r.start rs)) (l, tt)))

pub from_here : {K : Type 0} (at : ℕ) (rs : List (AddressRun K)) → AreAscending rs → (r : AddressRun K)
    → runs_below (at + 1) rs ≡ runs_below r.start rs ++ r ∷ [] → r.start ≡ at
    → runs_from at rs ≡ run at (r.start + r.len - at) r.value ∷ runs_from (at + 1) rs
from_here {K} at rs h r is e =
    let len : r.start + r.len - at ≡ r.len = omega arith in
    let one : r ≡ run at (r.start + r.len - at) r.value = rw (len, ← e) refl in
    let w : rs ≡ runs_below r.start rs ++ (r ∷ runs_from (at + 1) rs) =
    sym (ascending_split (at + 1) rs h) ∙ ap (λ (ys : List (AddressRun K)). ys ++ runs_from (at + 1) rs) is
    ∙ append_assoc (runs_below r.start rs) (r ∷ []) (runs_from (at + 1) rs) in
    ap (runs_from at) w
    ∙ from_of at (runs_below r.start rs) (r ∷ runs_from (at + 1) rs)
    (StartsBelow-weaker r.start at (runs_below r.start rs) (omega arith) (below_starts r.start rs))
    (omega arith, StartFrom-weaker at (at + 1) (runs_from (at + 1) rs) (omega arith) (from_starts (at + 1) rs))
    ∙ ap (λ (x : AddressRun K). x ∷ runs_from (at + 1) rs) one

-- ---- the runs that have an address of a range

StartFrom-prefix : {K : Type 0} (low : ℕ) (xs ys : List (AddressRun K)) → StartFrom low (xs ++ ys) → StartFrom low xs
StartFrom-prefix low [] ys s = tt
StartFrom-prefix low (x ∷ xs) ys s = (s.0, StartFrom-prefix low xs ys s.1)

head_from : (at : ℕ) (rs : List (AddressRun Mapping)) → StartFrom (at + 1) rs → HeadEndsAfter at rs
head_from at [] s = tt
head_from at (r ∷ rs) s = omega arith

module _ (rs found : List (AddressRun Mapping)) (h : IsCanonical same_mapping rs) (start end : ℕ) (some : start < end)
    (is : found ≡ runs_below end (runs_from (start + 1) rs)) where
  from_found : found ++ runs_from end rs ≡ runs_from (start + 1) rs
  from_found =
      rw (is, ← from_from (start + 1) end rs (omega arith))
      (ascending_split end (runs_from (start + 1) rs)
      (ascending_from (start + 1) rs (ascending_canonical same_mapping rs h)))

  pub asked_parts : (held : Option (AddressRun Mapping))
      → IfNone held (EndBelow (start + 1) (runs_below (start + 1) rs))
      → IfSome held (λ r. (r.start ≤ start) × (start < r.start + r.len)
      × (runs_below (start + 1) rs ≡ runs_below r.start rs ++ r ∷ []) × EndBelow (start + 1) (runs_below r.start rs))
      → (front behind : List (AddressRun Mapping)) × (rs ≡ front ++ ((if_any held ++ found) ++ behind))
      × EndBelow (start + 1) front × StartFrom end behind × HeadEndsAfter start (if_any held ++ found)
  asked_parts None none there = (
    runs_below (start + 1) rs,
    runs_from end rs,
    sym (ascending_split (start + 1) rs (ascending_canonical same_mapping rs h))
        ∙ ap (λ (ys : List (AddressRun Mapping)). runs_below (start + 1) rs ++ ys) (sym from_found),
    none,
    from_starts end rs,
    head_from start found
        (StartFrom-prefix (start + 1) found (runs_from end rs)
        (subst (StartFrom (start + 1)) (sym from_found) (from_starts (start + 1) rs))),
  )
  asked_parts (Some r) none there = (
    runs_below r.start rs,
    runs_from end rs,
    whole same_mapping (start + 1) rs h r there.2
        ∙ ap (λ (ys : List (AddressRun Mapping)). runs_below r.start rs ++ (r ∷ ys)) (sym from_found),
    there.3,
    from_starts end rs,
    there.1,
  )

-- ---- where the last run up to an address is known

pub known : (last : Option (AddressRun Mapping)) (rs : List (AddressRun Mapping)) (limit : ℕ)
    → IsLastBelow rs limit last → (r : AddressRun Mapping) → last ≡ Some r
    → runs_below limit rs ≡ runs_below r.start rs ++ r ∷ []
known last rs limit h r is =
    let told : IsLastBelow rs limit (Some r) = rw is at h in
    told

-- where it starts below a lower limit too, it is the last of those
pub last_stays : (low high : ℕ) (rs : List (AddressRun Mapping)) (r : AddressRun Mapping) → low ≤ high → r.start < low
    → runs_below high rs ≡ runs_below r.start rs ++ r ∷ [] → runs_below high rs ≡ runs_below low rs
last_stays low high rs r l m is =
    let all : StartsBelow low (runs_below high rs) =
    subst (StartsBelow low) (sym is)
    (StartsBelow-append low (runs_below r.start rs) (r ∷ [])
    (StartsBelow-weaker r.start low (runs_below r.start rs) (omega arith) (below_starts r.start rs)) (m, tt)) in
    sym (below-all low (runs_below high rs) all) ∙ below_below low high rs l

pub none_stay : (low high : ℕ) (rs : List (AddressRun Mapping)) → low ≤ high → runs_below high rs ≡ []
    → runs_below low rs ≡ []
none_stay low high rs l none = sym (below_below low high rs l) ∙ ap (runs_below low) none

-- the runs from an address on, where another was put after it
pub clear_kept : (first last : ℕ) (r : AddressRun Mapping) (rs put : List (AddressRun Mapping)) → AreAscending rs
    → r.start ≡ last
    → first < last → put ≡ runs_below r.start rs ++ r ∷ runs_from (r.start + 1) rs
    → runs_from (first + 1) rs ≡ runs_from last rs → runs_from (first + 1) put ≡ runs_from last put
clear_kept first last r rs put h s l is same =
    let k = r.start in
    let starts = from_starts (k + 1) rs in
    let t : StartFrom k (r ∷ runs_from (k + 1) rs) =
    (omega arith, StartFrom-weaker k (k + 1) (runs_from (k + 1) rs) (omega arith) starts) in
    let none : runs_from (first + 1) (runs_below k rs) ≡ [] =
    append_cancel_right (runs_from (first + 1) (runs_below k rs)) [] (runs_from k rs)
    (sym (ap (λ (ys : List (AddressRun Mapping)). runs_from (first + 1) (runs_below k rs) ++ ys)
    (from-all (first + 1) (runs_from k rs) (StartFrom-weaker (first + 1) k (runs_from k rs) (omega arith)
    (from_starts k rs))))
    ∙ sym (filter-append (λ r. leb (first + 1) r.start) (runs_below k rs) (runs_from k rs))
    ∙ ap (runs_from (first + 1)) (ascending_split k rs h) ∙ rw s same) in
    let a : runs_from (first + 1) put ≡ r ∷ runs_from (k + 1) rs =
    ap (runs_from (first + 1)) is
    ∙ filter-append (λ r. leb (first + 1) r.start) (runs_below k rs) (r ∷ runs_from (k + 1) rs)
    ∙ rw (
      none,
      from-all (first + 1) (r ∷ runs_from (k + 1) rs)
          (StartFrom-weaker (first + 1) k (r ∷ runs_from (k + 1) rs) (omega arith) t),
    ) refl in
    let b : runs_from k put ≡ r ∷ runs_from (k + 1) rs =
    ap (runs_from k) is ∙ from_of k (runs_below k rs) (r ∷ runs_from (k + 1) rs) (below_starts k rs) t in
    a ∙ sym (subst (λ (n : ℕ). runs_from n put ≡ r ∷ runs_from (k + 1) rs) s b)

-- where no run below an address starts after another
pub none_from : (mid high : ℕ) (rs : List (AddressRun Mapping)) → AreAscending rs → mid ≤ high
    → StartsBelow mid (runs_below high rs) → runs_from mid rs ≡ runs_from high rs
none_from mid high rs h m s =
    ap (runs_from mid) (sym (ascending_split high rs h))
    ∙ from_of mid (runs_below high rs) (runs_from high rs) s
    (StartFrom-weaker mid high (runs_from high rs) m (from_starts high rs))

pub put_clear : (first high : ℕ) (r : AddressRun Mapping) (rs put : List (AddressRun Mapping)) → r.start ≡ first
    → put ≡ runs_below r.start rs ++ r ∷ runs_from (r.start + 1) rs → runs_from (first + 1) rs ≡ runs_from high rs
    → put ≡ runs_below first rs ++ (r ∷ runs_from high rs)
put_clear first high r rs put s is e =
    subst (λ (n : ℕ). put ≡ runs_below n rs ++ (r ∷ runs_from (n + 1) rs)) s is
    ∙ ap (λ (ys : List (AddressRun Mapping)). runs_below first rs ++ (r ∷ ys)) e

-- the last run up to an address goes, and it starts at the first that is asked for
pub first_goes_last : (first high : ℕ) (r : AddressRun Mapping) (rs new : List (AddressRun Mapping)) → AreAscending rs
    → r.start ≡ first → runs_below high rs ≡ runs_below r.start rs ++ r ∷ []
    → new ≡ runs_below r.start rs ++ runs_from (r.start + 1) rs → new ≡ runs_below first rs ++ runs_from high rs
first_goes_last first high r rs new h s is e =
    let l : r.start < high = last_starts high (runs_below r.start rs) r
    (subst (StartsBelow high) is (below_starts high rs)) in
    let next : runs_from (r.start + 1) rs ≡ runs_from high rs =
    ap (runs_from (r.start + 1)) (sym (ascending_split high rs h)
    ∙ ap (λ (ys : List (AddressRun Mapping)). ys ++ runs_from high rs) is)
    ∙ from_of (r.start + 1) (runs_below r.start rs ++ r ∷ []) (runs_from high rs)
    (StartsBelow-append (r.start + 1) (runs_below r.start rs) (r ∷ [])
    (StartsBelow-weaker r.start (r.start + 1) (runs_below r.start rs) (omega arith) (below_starts r.start rs))
    (omega arith, tt))
    (StartFrom-weaker (r.start + 1) high (runs_from high rs) (omega arith) (from_starts high rs)) in
    let done = e ∙ ap (λ (ys : List (AddressRun Mapping)). runs_below r.start rs ++ ys) next in
    subst (λ (n : ℕ). new ≡ runs_below n rs ++ runs_from high rs) s done
