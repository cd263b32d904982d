-- Segments that are loaded one after the other.
use Rattle.std.proofs.Common.{◌≡◌, ◌≢◌, ℕ, suc, ◌+◌, ◌-◌, ◌^◌, ◌<◌, ◌≤◌, ◌==◌, nat_lt, true, false, arith, List, [], ◌∷◌, add-one, drop, length, get_or, Option, Result, Ok, Err, refl, subst, sym}
use Rattle.std.proofs.Math.Seq.{drop-cons}
use Rattle.std.proofs.lemmas.Bool.Decides.{nat_tests}
use Rattle.std.proofs.lemmas.List.{drop_all}
use Rattle.vm_memory_base.specs.Transfer.{Answer, Next}
use Rattle.vm_memory_guest.specs.Host.{Host}
use Rattle.vm_memory_guest.specs.Memory.{Memory}
use Rattle.linux_loader.specs.Load.{Clears, ClearsRest, LoadsAll, LoadsSegment}
use Rattle.linux_loader.specs.declared.error.LoaderError.{LoaderError}
use Rattle.linux_loader.specs.declared.segment.Segment.{Segment}

-- the rest of a segment, of so many bytes at an address, was made zero
pub clears_rest : {B : Type 0} (marks : B → ℕ → ℕ → B → Type 0) (m : Memory) (s : Segment) (old new : Host B)
    (answer : Result (Unit {0}) LoaderError) (count a : ℕ) → count ≡ s.size - s.file_size → count ≢ 0
    → a ≡ s.addr.0 + s.file_size → s.addr.0 + s.file_size < 2 ^ 64 → Clears marks m a count old answer new
    → ClearsRest marks m s old answer new
clears_rest marks m s old new answer count a is some at fits clears =
    let test : (s.size - s.file_size == 0) ≡ false = grind (arith, nat_tests) in
    let inside : nat_lt (s.addr.0 + s.file_size) (2 ^ 64) ≡ true = grind (arith, nat_tests) in
    let here = subst (λ (k : ℕ). Clears marks m k (s.size - s.file_size) old answer new) at
    (subst (λ (k : ℕ). Clears marks m a k old answer new) is clears) in
    rw (test, inside) here

module _ {S B : Type 0} (bytes : S → Option (List ℕ)) (source : S → Option (List Next))
    (reads : S → List ℕ → Answer → List ℕ → S → Type 0) (known : S → Option ℕ) (marks : B → ℕ → ℕ → B → Type 0)
    (m : Memory) (all : List Segment) (old : S × Host B) where
  -- the segments before a place were loaded: what comes of the others comes of all
  pub record Loaded (i : ℕ) (now : S × Host B) : Type 0 where
    pub rest : (answer : Result (Unit {0}) LoaderError) (new : S × Host B)
        → LoadsAll bytes source reads known marks m (drop i all) now answer new
        → LoadsAll bytes source reads known marks m all old answer new

  here : (i : ℕ) (d : Segment) → i < length all → drop i all ≡ get_or all i d ∷ drop (suc i) all
  here i d l = drop-cons all i d l

  one : (s : Segment) (ss : List Segment) (now mid : S × Host B) (answer : Result (Unit {0}) LoaderError)
      (new : S × Host B) → LoadsSegment bytes source reads known marks m s now (Ok tt) mid
      → LoadsAll bytes source reads known marks m ss mid answer new
      → LoadsAll bytes source reads known marks m (s ∷ ss) now answer new
  unfolding LoadsAll
  one s ss now mid answer new loads more = (Ok tt, mid, loads, more)

  failed : (s : Segment) (ss : List Segment) (now mid : S × Host B) (e : LoaderError)
      → LoadsSegment bytes source reads known marks m s now (Err e) mid
      → LoadsAll bytes source reads known marks m (s ∷ ss) now (Err e) mid
  unfolding LoadsAll
  failed s ss now mid e loads = (Err e, mid, loads, (refl, refl))

  none : (now : S × Host B) → LoadsAll bytes source reads known marks m [] now (Ok tt) now
  unfolding LoadsAll
  none now = (refl, refl)

  pub loaded_more : (i : ℕ) (d : Segment) (now mid : S × Host B) → Loaded i now → i < length all
      → LoadsSegment bytes source reads known marks m (get_or all i d) now (Ok tt) mid → Loaded (i + 1) mid
  loaded_more i d now mid h l loads = record {
    rest = λ answer new more. h.rest answer new (subst (λ (ss : List Segment).
        LoadsAll bytes source reads known marks m ss now answer new) (sym (here i d l))
        (one (get_or all i d) (drop (suc i) all) now mid answer new loads
        (subst (λ (k : ℕ). LoadsAll bytes source reads known marks m (drop k all) mid answer new) (add-one i) more)));
  }

  pub loaded_failed : (i : ℕ) (d : Segment) (now mid : S × Host B) (e : LoaderError) → Loaded i now → i < length all
      → LoadsSegment bytes source reads known marks m (get_or all i d) now (Err e) mid
      → LoadsAll bytes source reads known marks m all old (Err e) mid
  loaded_failed i d now mid e h l loads = h.rest (Err e) mid (subst (λ (ss : List Segment).
      LoadsAll bytes source reads known marks m ss now (Err e) mid) (sym (here i d l))
      (failed (get_or all i d) (drop (suc i) all) now mid e loads))

  pub loaded_all : (i : ℕ) (now : S × Host B) → Loaded i now → length all ≤ i
      → LoadsAll bytes source reads known marks m all old (Ok tt) now
  loaded_all i now h past = h.rest (Ok tt) now (subst (λ (ss : List Segment).
      LoadsAll bytes source reads known marks m ss now (Ok tt) now) (sym (drop_all i all past)) (none now))
