-- The laws of page sets.
use Rattle.std.proofs.Common.{◌≡◌, ℕ, zero, suc, ◌+◌, ◌-◌, ◌*◌, ◌/◌, ◌^◌, ◌<◌, ◌≤◌, Bool, true, false, not, ◌&&◌, ◌||◌, cond, ltb, leb, List, [], ◌∷◌, ◌++◌, length, get_or, replicate, Some, None, refl, sym, ap, inl, inr, ◌⊎◌, ◌↔◌, ◌∙◌, add-zero, zero-add, add-one, arith}
use Rattle.std.proofs.Math.Nat.{div-lt_iff_lt-mul, le-div_iff_mul-le, mul-div_cancel, lt-div-mul-add, div-mul-le_self, div-zero}
use Rattle.std.proofs.lemmas.Nat.{le-div, div_below}
use Rattle.std.proofs.lemmas.Bool.{or_left, or_right, ltb-true, leb-true, le-leb, lt-leb, and_parts, and_from, and_right, cases_lt, lt-ltb, le-ltb, and_left}
use Rattle.std.proofs.lemmas.Bool.Decides.{nat_tests}
use Rattle.std.proofs.lemmas.List.{length-replicate, get_or_past}
use Rattle.std.proofs.lemmas.List.Kept.{AllPairs-cons}
use Rattle.std.proofs.lemmas.List.Elements.{All-nil, All-cons, All-weaker}
use Rattle.std.specs.List.{All, AllPairs, Contains}
use Rattle.vm_memory_base.specs.Address.{numbers, is_within}
use Rattle.vm_memory_base.specs.Pages.{Pages, PageSet, shape, is_dirty_at, dirty_from, dirty_pages, last_byte, takes, flags_set, marked, marked_each, cleaned, IsPageSet, pages_with}
use Rattle.vm_memory_base.specs.lemmas.NewPages.{none_dirty}
use Rattle.vm_memory_base.proofs.RunsLaws.{is_within-in, within_from}

or-false : (b : Bool) → (b || false) ≡ b
or-false true = refl
or-false false = refl

ltb-suc : (a b : ℕ) → ltb (suc a) (suc b) ≡ ltb a b
ltb-suc a b = grind (arith, nat_tests)

-- one test and then another, by which a flag is set
set_twice : (a b flag dirty : Bool) → cond a flag (cond b flag dirty) ≡ cond (b || a) flag dirty
set_twice true true flag dirty = refl
set_twice true false flag dirty = refl
set_twice false b flag dirty = rw or-false refl

-- only the later flag is left
set_again : (a flag other dirty : Bool) → cond a flag (cond a other dirty) ≡ cond a flag dirty
set_again true flag other dirty = refl
set_again false flag other dirty = refl

pub length-flags_set : (flag : Bool) (test : ℕ → Bool) (k : ℕ) (flags : List Bool)
    → length (flags_set flag test k flags) ≡ length flags
length-flags_set flag test k [] = refl
length-flags_set flag test k (dirty ∷ flags) = ap suc (length-flags_set flag test (k + 1) flags)

-- only what a test says of the pages matters
flags_set_agree : (flag : Bool) (p q : ℕ → Bool) → ((j : ℕ) → p j ≡ q j) → (k : ℕ) (flags : List Bool)
    → flags_set flag p k flags ≡ flags_set flag q k flags
flags_set_agree flag p q h k [] = refl
flags_set_agree flag p q h k (dirty ∷ flags) =
    let e = h k in let f = flags_set_agree flag p q h (k + 1) flags in cc

none_taken : (flag : Bool) (test : ℕ → Bool) (page : ℕ) (flags : List Bool)
    → ((j : ℕ) → j < page + length flags → test j ≡ false) → flags_set flag test page flags ≡ flags
none_taken flag test page [] h = refl
none_taken flag test page (dirty ∷ flags) h =
    let g = h page (omega arith) in
    let f = none_taken flag test (page + 1) flags (λ j l. h j (omega arith)) in
    cc

flags_set_twice : (flag : Bool) (p q : ℕ → Bool) (k : ℕ) (flags : List Bool)
    → flags_set flag p k (flags_set flag q k flags) ≡ flags_set flag (λ j. q j || p j) k flags
flags_set_twice flag p q k [] = refl
flags_set_twice flag p q k (dirty ∷ flags) =
    let e = set_twice (p k) (q k) flag dirty in let f = flags_set_twice flag p q (k + 1) flags in cc

pub flags_set_again : (flag other : Bool) (test : ℕ → Bool) (k : ℕ) (flags : List Bool)
    → flags_set flag test k (flags_set other test k flags) ≡ flags_set flag test k flags
flags_set_again flag other test k [] = refl
flags_set_again flag other test k (dirty ∷ flags) =
    let e = set_again (test k) flag other dirty in let f = flags_set_again flag other test (k + 1) flags in cc

-- a mark of no bytes changes nothing
pub marked-empty : (start : ℕ) (set : PageSet) → marked start 0 set ≡ set
marked-empty start None = refl
marked-empty start (Some p) =
    ap (pages_with p.page_size) (none_taken true (takes p.page_size start 0) 0 p.flags (λ j l. refl))

-- a mark keeps the page size and the number of pages
pub shape-marked : (start len : ℕ) (set : PageSet) → shape (marked start len set) ≡ shape set
shape-marked start len None = refl
shape-marked start len (Some p) =
    ap (λ (n : ℕ). Some (p.page_size, n)) (length-flags_set true (takes p.page_size start len) 0 p.flags)

-- after a mark there are as many pages of the same size
pub pages-marked : (start len : ℕ) (p : Pages) → (q : Pages) × (marked start len (Some p) ≡ Some q)
    × (q.page_size ≡ p.page_size) × (length q.flags ≡ length p.flags)
pages-marked start len p = (
  record { page_size = p.page_size; flags = flags_set true (takes p.page_size start len) 0 p.flags },
  refl,
  refl,
  length-flags_set true (takes p.page_size start len) 0 p.flags,
)

pub IsPageSet-marked : (start len : ℕ) (set : PageSet) → IsPageSet set → IsPageSet (marked start len set)
IsPageSet-marked start len None h = tt
IsPageSet-marked start len (Some p) h = (h.0, rw length-flags_set h.1)

-- the pages that the test takes have the flag
pub get_or-flags_set : (flag : Bool) (test : ℕ → Bool) (k : ℕ) (flags : List Bool) (i : ℕ)
    → get_or (flags_set flag test k flags) i false
    ≡ cond (ltb i (length flags) && test (k + i)) flag (get_or flags i false)
get_or-flags_set flag test k [] i = rw (le-ltb i 0 (omega arith)) refl
get_or-flags_set flag test k (dirty ∷ flags) zero = rw (add-zero, lt-ltb 0 (suc (length flags)) (omega arith)) refl
get_or-flags_set flag test k (dirty ∷ flags) (suc i) =
    let e : k + 1 + i ≡ k + suc i = omega arith in
    rw (← e, ltb-suc i (length flags)) (get_or-flags_set flag test (k + 1) flags i)

-- dirty after a mark: what was dirty, and the pages that the test takes
pub get_or-flags_marked : (test : ℕ → Bool) (k : ℕ) (flags : List Bool) (i : ℕ)
    → get_or (flags_set true test k flags) i false ≡ (get_or flags i false || (ltb i (length flags) && test (k + i)))
get_or-flags_marked test k flags i =
    get_or-flags_set true test k flags i ∙ one (ltb i (length flags) && test (k + i)) (get_or flags i false)
  where
    one : (t g : Bool) → cond t true g ≡ (g || t)
    one true true = refl
    one true false = refl
    one false g = sym (or-false g)

-- dirty after some pages are made clean: what was dirty, but for the pages that the test takes
pub get_or-flags_unmarked : (test : ℕ → Bool) (k : ℕ) (flags : List Bool) (i : ℕ)
    → get_or (flags_set false test k flags) i false ≡ (get_or flags i false && not (test (k + i)))
get_or-flags_unmarked test k flags i =
    elim (cases_lt i (length flags)) [
      | inl l ↦
          get_or-flags_set false test k flags i
          ∙ rw (lt-ltb i (length flags) l) (one (test (k + i)) (get_or flags i false))
      | inr l ↦
          get_or-flags_set false test k flags i ∙ rw (le-ltb i (length flags) l, get_or_past flags i false l) refl
    ]
  where
    one : (t g : Bool) → cond t false g ≡ (g && not t)
    one true true = refl
    one true false = refl
    one false true = refl
    one false false = refl

pub is_dirty_at-marked : (start len offset : ℕ) (p : Pages)
    → is_dirty_at (marked start len (Some p)) offset
    ≡ (is_dirty_at (Some p) offset
    || (ltb (offset / p.page_size) (length p.flags) && takes p.page_size start len (offset / p.page_size)))
is_dirty_at-marked start len offset p =
    get_or-flags_marked (takes p.page_size start len) 0 p.flags (offset / p.page_size) ∙ rw zero-add

-- of two marks
pub marked-marked : (a m b n : ℕ) (p : Pages)
    → marked a m (marked b n (Some p))
    ≡ pages_with p.page_size (flags_set true (λ k. takes p.page_size b n k || takes p.page_size a m k) 0 p.flags)
marked-marked a m b n p =
    ap (pages_with p.page_size) (flags_set_twice true (takes p.page_size a m) (takes p.page_size b n) 0 p.flags)

-- marks may be made in any order
pub marked_comm : (a m b n : ℕ) (set : PageSet) → marked a m (marked b n set) ≡ marked b n (marked a m set)
marked_comm a m b n None = refl
marked_comm a m b n (Some p) =
    marked-marked a m b n p
    ∙ ap (pages_with p.page_size) (flags_set_agree true (λ k. takes p.page_size b n k || takes p.page_size a m k)
    (λ k. takes p.page_size a m k || takes p.page_size b n k)
    (λ k. or_comm (takes p.page_size b n k) (takes p.page_size a m k)) 0 p.flags)
    ∙ sym (marked-marked b n a m p)
  where
    or_comm : (a b : Bool) → (a || b) ≡ (b || a)
    or_comm true true = refl
    or_comm true false = refl
    or_comm false b = sym (or-false b)

-- a mark made twice is one
pub marked_twice : (start len : ℕ) (set : PageSet) → marked start len (marked start len set) ≡ marked start len set
marked_twice start len None = refl
marked_twice start len (Some p) =
    ap (pages_with p.page_size) (flags_set_again true true (takes p.page_size start len) 0 p.flags)

-- ---- byte by byte

div_mono : (s a b : ℕ) → a ≤ b → a / s ≤ b / s
div_mono zero a b le = rw (div-zero a, div-zero b) (omega arith)
div_mono (suc s) a b le = le-div (a / suc s) b (suc s) (omega arith) (omega (arith, div-mul-le_self a (suc s)))

-- the page of the next byte is the same or the next
div_next : (s a : ℕ) → (a + 1) / s ≤ a / s + 1
div_next zero a = rw (div-zero (a + 1)) (omega arith)
div_next (suc s) a =
    let pos : 0 < suc s = omega arith in
    let h : a < a / suc s * suc s + suc s = lt-div-mul-add pos in
    let l : (a + 1) / suc s < a / suc s + 2 = div_below (a + 1) (suc s) (a / suc s + 2) pos (omega arith) in
    omega arith

-- the pages from p to r, in two parts
split_range : (p q r k : ℕ) → p ≤ q → q ≤ p + 1 → q ≤ r
    → ((leb p k && leb k p) || (leb q k && leb k r)) ≡ (leb p k && leb k r)
split_range p q r k a b c = grind (arith, nat_tests)

-- a mark of n + 1 bytes takes the page of the first, and those that the others take
takes_more : (size start n k : ℕ) → start + (n + 1) ≤ 2 ^ 64
    → (takes size start 1 k || takes size (start + 1) n k) ≡ takes size start (n + 1) k
takes_more size start zero k fits = rw or-false
takes_more size start (suc n) k fits =
    let e : last_byte start 1 ≡ start = omega arith in
    let f : last_byte (start + 1) (suc n) ≡ start + suc n = omega arith in
    let g : last_byte start (suc n + 1) ≡ start + suc n = omega arith in
    let a : start / size ≤ (start + 1) / size = div_mono size start (start + 1) (omega arith) in
    let b : (start + 1) / size ≤ (start + suc n) / size = div_mono size (start + 1) (start + suc n) (omega arith) in
    let i : ltb 0 (suc n + 1) ≡ true = lt-ltb 0 (suc n + 1) (omega arith) in
    let j : ltb 0 (suc n) ≡ true = lt-ltb 0 (suc n) (omega arith) in
    rw (e, f, g, i, j) (split_range (start / size) ((start + 1) / size) ((start + suc n) / size) k a
    (div_next size start) b)

marked_more : (start n : ℕ) (set : PageSet) → start + (n + 1) ≤ 2 ^ 64
    → marked (start + 1) n (marked start 1 set) ≡ marked start (n + 1) set
marked_more start n None fits = refl
marked_more start n (Some p) fits =
    marked-marked (start + 1) n start 1 p
    ∙ ap (pages_with p.page_size) (flags_set_agree true
    (λ k. takes p.page_size start 1 k || takes p.page_size (start + 1) n k)
    (takes p.page_size start (n + 1)) (λ k. takes_more p.page_size start n k fits) 0 p.flags)

-- a mark is a mark of each of its bytes, whatever the page size
pub marked_each-numbers : (start n : ℕ) (set : PageSet) → start + n ≤ 2 ^ 64
    → marked_each (numbers start n) set ≡ marked start n set
marked_each-numbers start zero set fits = sym (marked-empty start set)
marked_each-numbers start (suc n) set fits =
    marked_each-numbers (start + 1) n (marked start 1 set) (omega arith)
    ∙ marked_more start n set (omega arith)
    ∙ ap (λ (k : ℕ). marked start k set) (add-one n)

pub marked_each-append : (xs ys : List ℕ) (set : PageSet)
    → marked_each (xs ++ ys) set ≡ marked_each ys (marked_each xs set)
marked_each-append [] ys set = refl
marked_each-append (x ∷ xs) ys set = marked_each-append xs ys (marked x 1 set)

pub numbers-append : (start m n : ℕ) → numbers start (m + n) ≡ numbers start m ++ numbers (start + m) n
numbers-append start zero n = rw (zero-add, add-zero)
numbers-append start (suc m) n =
    let e : suc m + n ≡ suc (m + n) = omega arith in
    let f : start + suc m ≡ start + 1 + m = omega arith in
    rw (e, f) (ap (λ (xs : List ℕ). start ∷ xs) (numbers-append (start + 1) m n))

-- marks of neighbouring ranges are one
pub marked_on : (start m n : ℕ) (set : PageSet) → start + (m + n) ≤ 2 ^ 64
    → marked (start + m) n (marked start m set) ≡ marked start (m + n) set
marked_on start m n set fits =
    let by_bytes = marked_each-numbers start m set (omega arith) in
    let rest = marked_each-numbers (start + m) n (marked start m set) (omega arith) in
    let all = marked_each-numbers start (m + n) set fits in
    let joined = marked_each-append (numbers start m) (numbers (start + m) n) set in
    let parts = numbers-append start m n in
    cc

marked-marked_each : (start len : ℕ) (xs : List ℕ) (set : PageSet)
    → marked_each xs (marked start len set) ≡ marked start len (marked_each xs set)
marked-marked_each start len [] set = refl
marked-marked_each start len (x ∷ xs) set = ap (marked_each xs) (marked_comm x 1 start len set)
    ∙ marked-marked_each start len xs (marked x 1 set)

marked_each_turned : (xs ys : List ℕ) (set : PageSet)
    → marked_each ys (marked_each xs set) ≡ marked_each xs (marked_each ys set)
marked_each_turned [] ys set = refl
marked_each_turned (x ∷ xs) ys set = marked_each_turned xs ys (marked x 1 set)
    ∙ ap (marked_each xs) (marked-marked_each x 1 ys set)

-- the marks of bytes may be made in any order
pub marked_each_comm : (xs ys : List ℕ) (set : PageSet) → marked_each (xs ++ ys) set ≡ marked_each (ys ++ xs) set
marked_each_comm xs ys set = marked_each-append xs ys set ∙ marked_each_turned xs ys set
    ∙ sym (marked_each-append ys xs set)

pub shape-marked_each : (offsets : List ℕ) (set : PageSet) → shape (marked_each offsets set) ≡ shape set
shape-marked_each [] set = refl
shape-marked_each (offset ∷ offsets) set = shape-marked_each offsets (marked offset 1 set) ∙ shape-marked offset 1 set

pub IsPageSet-marked_each : (offsets : List ℕ) (set : PageSet) → IsPageSet set → IsPageSet (marked_each offsets set)
IsPageSet-marked_each [] set h = h
IsPageSet-marked_each (offset ∷ offsets) set h =
    IsPageSet-marked_each offsets (marked offset 1 set) (IsPageSet-marked offset 1 set h)

-- ---- where a mark ends

-- a mark goes no further than the greatest offset
pub marked_to_the_end : (start len : ℕ) (set : PageSet) → start < 2 ^ 64 → 2 ^ 64 ≤ start + len
    → marked start len set ≡ marked start (2 ^ 64 - start) set
marked_to_the_end start len None l h = refl
marked_to_the_end start len (Some p) l h =
    let a : last_byte start len ≡ 2 ^ 64 - 1 = omega arith in
    let b : last_byte start (2 ^ 64 - start) ≡ 2 ^ 64 - 1 = omega arith in
    let c : ltb 0 len ≡ true = lt-ltb 0 len (omega arith) in
    let d : ltb 0 (2 ^ 64 - start) ≡ true = lt-ltb 0 (2 ^ 64 - start) (omega arith) in
    ap (pages_with p.page_size)
    (flags_set_agree true (takes p.page_size start len) (takes p.page_size start (2 ^ 64 - start))
    (λ k. rw (a, b, c, d)) 0 p.flags)

-- a mark past the last page changes nothing
pub marked_past : (start len : ℕ) (p : Pages) → length p.flags ≤ start / p.page_size
    → marked start len (Some p) ≡ Some p
marked_past start len p h =
    ap (pages_with p.page_size) (none_taken true (takes p.page_size start len) 0 p.flags (λ j l.
    and_right (ltb 0 len) (leb (start / p.page_size) j && leb j (last_byte start len / p.page_size))
    (and_left (leb (start / p.page_size) j) (leb j (last_byte start len / p.page_size))
    (lt-leb (start / p.page_size) j (omega arith)))))

-- ---- which pages a mark takes

taken_byte : (size start len page : ℕ) → 0 < size → start < 2 ^ 64 → takes size start len page ≡ true → (offset : ℕ)
    × (is_within start len offset ≡ true) × (offset < 2 ^ 64) × (offset / size ≡ page)
taken_byte size start len page pos l h =
    let p = and_parts (ltb 0 len) (leb (start / size) page && leb page (last_byte start len / size)) h in
    let q = and_parts (leb (start / size) page) (leb page (last_byte start len / size)) p.1 in
    let some = ltb-true 0 len p.0 in
    let from = leb-true (start / size) page q.0 in
    let to = leb-true page (last_byte start len / size) q.1 in
    elim (cases_lt (start / size) page) [
      | inl m ↦
          let low : start < page * size = (div-lt_iff_lt-mul pos).0 m in
          let high : page * size ≤ last_byte start len = (le-div_iff_mul-le pos).0 to in (
            page * size,
            is_within-in start len (page * size) (omega arith) (omega arith),
            omega arith,
            mul-div_cancel page pos,
          )
      | inr m ↦ (start, is_within-in start len start (omega arith) (omega arith), l, omega arith)
    ]

byte_taken : (size start len page offset : ℕ) → 0 < size → is_within start len offset ≡ true → offset < 2 ^ 64
    → offset / size ≡ page → takes size start len page ≡ true
byte_taken size start len page offset pos w l e =
    let p = within_from start len offset w in
    let low = div_mono size start offset p.0 in
    let high = div_mono size offset (last_byte start len) (omega arith) in
    and_from (ltb 0 len) (leb (start / size) page && leb page (last_byte start len / size)) (lt-ltb 0 len (omega arith))
    (and_from (leb (start / size) page) (leb page (last_byte start len / size))
    (le-leb (start / size) page (omega arith)) (le-leb page (last_byte start len / size) (omega arith)))

-- a page is taken where one of the bytes that are marked lies in it
pub takes-true : (size start len page : ℕ) → 0 < size → start < 2 ^ 64 → (takes size start len page ≡ true)
    ↔ ((offset : ℕ) × (is_within start len offset ≡ true) × (offset < 2 ^ 64) × (offset / size ≡ page))
takes-true size start len page pos l =
    (taken_byte size start len page pos l, λ (offset, w, m, e). byte_taken size start len page offset pos w m e)

-- a byte that is marked is dirty, where its page is one
pub marked_is_dirty : (start len offset : ℕ) (p : Pages) → 0 < p.page_size → is_within start len offset ≡ true
    → offset < 2 ^ 64 → offset / p.page_size < length p.flags → is_dirty_at (marked start len (Some p)) offset ≡ true
marked_is_dirty start len offset p pos w l h =
    let t = byte_taken p.page_size start len (offset / p.page_size) offset pos w l refl in
    let i = lt-ltb (offset / p.page_size) (length p.flags) h in
    is_dirty_at-marked start len offset p
    ∙ or_right (is_dirty_at (Some p) offset)
    (ltb (offset / p.page_size) (length p.flags) && takes p.page_size start len (offset / p.page_size))
    (and_from (ltb (offset / p.page_size) (length p.flags))
    (takes p.page_size start len (offset / p.page_size)) i t)

-- no mark cleans a byte
pub stays_dirty : (start len offset : ℕ) (set : PageSet) → is_dirty_at set offset ≡ true
    → is_dirty_at (marked start len set) offset ≡ true
stays_dirty start len offset None h = h
stays_dirty start len offset (Some p) h =
    is_dirty_at-marked start len offset p
    ∙ or_left (is_dirty_at (Some p) offset)
    (ltb (offset / p.page_size) (length p.flags) && takes p.page_size start len (offset / p.page_size)) h

-- ---- marks of one byte

last_byte-le : (x : ℕ) → last_byte x 1 ≤ x
last_byte-le x = omega arith

neither : (a b : Bool) → (a || (b && false)) ≡ a
neither true true = refl
neither true false = refl
neither false true = refl
neither false false = refl

-- a mark of one byte takes no page but its own
takes_one_other : (size x y : ℕ) → (x / size ≡ y / size → ⊥) → takes size x 1 (y / size) ≡ false
takes_one_other size x y h =
    none (x / size) (y / size) (last_byte x 1 / size) (div_mono size (last_byte x 1) x (last_byte-le x)) h
  where
    none : (a b c : ℕ) → c ≤ a → (a ≡ b → ⊥) → (leb a b && leb b c) ≡ false
    none a b c l e = grind (arith, nat_tests)

-- a byte of another page than the marked one's stays as it is
pub is_dirty_at-marked_other : (x offset : ℕ) (p : Pages) → (x / p.page_size ≡ offset / p.page_size → ⊥)
    → is_dirty_at (marked x 1 (Some p)) offset ≡ is_dirty_at (Some p) offset
is_dirty_at-marked_other x offset p h =
    is_dirty_at-marked x 1 offset p
    ∙ rw (takes_one_other p.page_size x offset h)
    (neither (is_dirty_at (Some p) offset) (ltb (offset / p.page_size) (length p.flags)))

-- a byte of the page of the marked one is dirty, where the page is one
pub is_dirty_at-marked_own : (x offset : ℕ) (p : Pages) → x < 2 ^ 64 → x / p.page_size ≡ offset / p.page_size
    → offset / p.page_size < length p.flags → is_dirty_at (marked x 1 (Some p)) offset ≡ true
is_dirty_at-marked_own x offset p l h k =
    let e : last_byte x 1 ≡ x = omega arith in
    let t : takes p.page_size x 1 (offset / p.page_size) ≡ true = rw (e, h) (own (offset / p.page_size)) in
    is_dirty_at-marked x 1 offset p
    ∙ rw (t, lt-ltb (offset / p.page_size) (length p.flags) k) (either (is_dirty_at (Some p) offset))
  where
    own : (a : ℕ) → (leb a a && leb a a) ≡ true
    own a = grind (arith, nat_tests)

    either : (a : Bool) → (a || true) ≡ true
    either true = refl
    either false = refl

-- ---- all clean

-- of elements that are all alike each is, and so is what is read past the last
pub get_or-alike : {A : Type 0} (n i : ℕ) (x : A) → get_or (replicate n x) i x ≡ x
get_or-alike zero i x = refl
get_or-alike (suc n) zero x = refl
get_or-alike (suc n) (suc i) x = get_or-alike n i x

pub shape-cleaned : (set : PageSet) → shape (cleaned set) ≡ shape set
shape-cleaned None = refl
shape-cleaned (Some p) = ap (λ (n : ℕ). Some (p.page_size, n)) (length-replicate {A = Bool} (length p.flags) false)

pub IsPageSet-cleaned : (set : PageSet) → IsPageSet set → IsPageSet (cleaned set)
IsPageSet-cleaned None h = tt
IsPageSet-cleaned (Some p) h = (h.0, rw (length-replicate {A = Bool} (length p.flags) false) h.1)

pub dirty_pages-cleaned : (set : PageSet) → dirty_pages (cleaned set) ≡ []
dirty_pages-cleaned None = refl
dirty_pages-cleaned (Some p) = none_dirty 0 (length p.flags)

pub is_dirty_at-cleaned : (set : PageSet) (offset : ℕ) → is_dirty_at (cleaned set) offset ≡ false
is_dirty_at-cleaned None offset = refl
is_dirty_at-cleaned (Some p) offset = get_or-alike (length p.flags) (offset / p.page_size) false

-- ---- the list of the dirty pages

contains_head : (x : ℕ) (xs : List ℕ) → Contains (x ∷ xs) x
contains_head x xs = (0, omega arith, refl)

contains_tail : (x y : ℕ) (xs : List ℕ) → Contains xs y → Contains (x ∷ xs) y
contains_tail x y xs (k, l, e) = (suc k, omega arith, e)

contains_cases : (x y : ℕ) (xs : List ℕ) → Contains (x ∷ xs) y → (x ≡ y) ⊎ Contains xs y
contains_cases x y xs (zero, l, e) = inl e
contains_cases x y xs (suc k, l, e) = inr (k, omega arith, e)

not_in_nil : (y : ℕ) → Contains [] y → ⊥
not_in_nil y (k, l, e) = omega arith

listed : (page : ℕ) (flags : List Bool) (i : ℕ) → get_or flags i false ≡ true
    → Contains (dirty_from page flags) (page + i)
listed page [] i e = cc
listed page (true ∷ flags) zero e = rw add-zero (contains_head page (dirty_from (page + 1) flags))
listed page (false ∷ flags) zero e = cc
listed page (true ∷ flags) (suc i) e =
    let f : page + 1 + i ≡ page + suc i = omega arith in
    contains_tail page (page + suc i) (dirty_from (page + 1) flags) (rw (← f) (listed (page + 1) flags i e))
listed page (false ∷ flags) (suc i) e =
    let f : page + 1 + i ≡ page + suc i = omega arith in
    rw (← f) (listed (page + 1) flags i e)

listed_later : (page other : ℕ) (dirty : Bool) (flags : List Bool) → (i : ℕ) × (other ≡ page + 1 + i)
    × (get_or flags i false ≡ true) → (i : ℕ) × (other ≡ page + i) × (get_or (dirty ∷ flags) i false ≡ true)
listed_later page other dirty flags (i, e, g) = (suc i, omega arith, g)

listed_is_dirty : (page : ℕ) (flags : List Bool) (other : ℕ) → Contains (dirty_from page flags) other → (i : ℕ)
    × (other ≡ page + i) × (get_or flags i false ≡ true)
listed_is_dirty page [] other h = absurd (not_in_nil other h)
listed_is_dirty page (true ∷ flags) other h =
    elim (contains_cases page other (dirty_from (page + 1) flags) h) [
      | inl e ↦ (0, omega arith, refl)
      | inr k ↦ listed_later page other true flags (listed_is_dirty (page + 1) flags other k)
    ]
listed_is_dirty page (false ∷ flags) other h =
    listed_later page other false flags (listed_is_dirty (page + 1) flags other h)

-- the dirty pages are listed, and no others
pub Contains-dirty_pages : (p : Pages) (page : ℕ) → Contains (dirty_pages (Some p)) page
    ↔ (get_or p.flags page false ≡ true)
Contains-dirty_pages p page = (
  (λ h. let w : (i : ℕ) × (page ≡ 0 + i)
      × (get_or p.flags i false ≡ true) = listed_is_dirty 0 p.flags page h in let e : page ≡ w.0 = omega arith in rw e
      w.2),
  (λ e. let f : 0 + page ≡ page = zero-add page in rw f at (listed 0 p.flags page e)),
)

pub from_page : (page : ℕ) (flags : List Bool) → All (λ other. page ≤ other) (dirty_from page flags)
from_page page [] = All-nil (λ other. page ≤ other)
from_page page (true ∷ flags) =
    All-cons (λ other. page ≤ other) page (dirty_from (page + 1) flags) (omega arith)
    (All-weaker (λ other. page + 1 ≤ other) (λ other. page ≤ other) (λ other h. omega arith)
    (dirty_from (page + 1) flags) (from_page (page + 1) flags))
from_page page (false ∷ flags) =
    All-weaker (λ other. page + 1 ≤ other) (λ other. page ≤ other) (λ other h. omega arith)
    (dirty_from (page + 1) flags) (from_page (page + 1) flags)

ascending_from : (page : ℕ) (flags : List Bool) → AllPairs (λ y z. y < z) (dirty_from page flags)
ascending_from page [] = λ i j d l m. absurd (omega arith)
ascending_from page (true ∷ flags) =
    AllPairs-cons (λ y z. y < z) page (dirty_from (page + 1) flags)
    (All-weaker (λ other. page + 1 ≤ other) (λ other. page < other) (λ other h. omega arith)
    (dirty_from (page + 1) flags) (from_page (page + 1) flags)) (ascending_from (page + 1) flags)
ascending_from page (false ∷ flags) = ascending_from (page + 1) flags

-- the dirty pages are listed in ascending order
pub dirty_pages_ascend : (set : PageSet) → AllPairs (λ page other. page < other) (dirty_pages set)
dirty_pages_ascend None = λ i j d l m. absurd (omega arith)
dirty_pages_ascend (Some p) = ascending_from 0 p.flags
