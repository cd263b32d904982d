-- The flags and words of a bitmap.
use Rattle.std.proofs.Common.{◌≡◌, ◌≢◌, ℕ, zero, suc, ◌+◌, ◌-◌, ◌*◌, ◌/◌, ◌%◌, ◌^◌, ◌<◌, ◌≤◌, Bool, true, false, not, ◌&&◌, cond, ltb, leb, List, [], ◌∷◌, ◌++◌, length, get_or, take, drop, replicate, Option, Some, None, refl, subst, sym, ap, inl, inr, ◌∙◌, arith, add-zero, zero-add, mul-div_cancel, length-drop}
use Rattle.std.specs.Int.{div_ceil}
use Rattle.std.specs.List.{All, Contains}
use Rattle.std.proofs.Math.Nat.{pow-suc, pow-succ', div-div-eq-div-mul, zero-div, mul-zero}
use Rattle.std.proofs.Math.Pow.{pow_mono}
use Rattle.std.proofs.lemmas.Bool.{lt-ltb, le-leb, lt-leb, cases_lt, true≢false}
use Rattle.std.proofs.lemmas.Bool.Decides.{nat_tests}
use Rattle.std.proofs.lemmas.Grind.{div_ceil_times}
use Rattle.std.proofs.lemmas.Nat.{div_below}
use Rattle.std.proofs.lemmas.List.Elements.{All-head}
use Rattle.std.proofs.lemmas.List.{get_or-take, get_or-drop, get_or-replicate, get_or_append_left, get_or-append_right, length-take, length-take-le, length-replicate, take_more, take_all, drop-drop, drop_all}
use Rattle.std.proofs.lemmas.Option.{none-some, same_Some}
use Rattle.vm_memory_base.specs.Pages.{Pages, PageSet, shape, is_dirty_at, dirty_from, dirty_pages, dirty_words, takes, marked, unmarked, word_of, words_of, IsPageSet, IsCleanFor, pages_with}
use Rattle.vm_memory_base.proofs.PagesLaws.{length-flags_set, get_or-flags_unmarked, flags_set_again, from_page, Contains-dirty_pages}

-- ---- pages from one up to another

pub within : (a b i : ℕ) → a ≤ i → i < b → (leb a i && ltb i b) ≡ true
within a b i h k = rw (le-leb a i h, lt-ltb i b k) refl

pub before : (a b i : ℕ) → i < a → (leb a i && ltb i b) ≡ false
before a b i h = rw (lt-leb a i h) refl

pub behind : (a b i : ℕ) → b ≤ i → (leb a i && ltb i b) ≡ false
behind a b i h = grind (arith, nat_tests)

-- ---- words, those from one up to another alike

-- these words with the ones from word a up to b all alike
abbrev pub made_alike : ℕ → ℕ → ℕ → List ℕ → List ℕ
made_alike a b d words = take a words ++ (replicate (b - a) d ++ drop b words)

pub get_or-made_alike : (a b : ℕ) (d : ℕ) (words : List ℕ) (i : ℕ) → a ≤ b → b ≤ length words
    → get_or (made_alike a b d words) i 0 ≡ cond (leb a i && ltb i b) d (get_or words i 0)
get_or-made_alike a b d words i h k =
    let front : length (take a words) ≡ a = length-take-le a words (omega arith) in
    let mid : length (replicate (b - a) d) ≡ b - a = length-replicate {A = ℕ} (b - a) d in
    elim (cases_lt i a) [
      | inl l ↦
          let e : get_or (made_alike a b d words) i 0 ≡ get_or (take a words) i 0 =
          get_or_append_left (take a words) (replicate (b - a) d ++ drop b words) 0 i (omega arith) in
          e ∙ get_or-take a words i 0 l ∙ rw (before a b i l) refl
      | inr l ↦
          let e : get_or (made_alike a b d words) i 0 ≡ get_or (replicate (b - a) d ++ drop b words) (i - a) 0 =
          get_or-append_right (take a words) (replicate (b - a) d ++ drop b words) a i 0 front l in
          elim (cases_lt i b) [
            | inl m ↦
                e ∙ get_or_append_left (replicate (b - a) d) (drop b words) 0 (i - a) (omega arith)
                ∙ get_or-replicate (b - a) (i - a) d 0 (omega arith)
                ∙ rw (within a b i l m) refl
            | inr m ↦
                let f : b + (i - a - (b - a)) ≡ i = omega arith in
                e ∙ get_or-append_right (replicate (b - a) d) (drop b words) (b - a) (i - a) 0 mid (omega arith)
                ∙ get_or-drop b words (i - a - (b - a)) 0
                ∙ rw (f, behind a b i m) refl
          ]
    ]

-- ---- the list of the dirty pages, one flag after the other

dirty_from-last : (page : ℕ) (flags : List Bool) (d : Bool)
    → dirty_from page (flags ++ d ∷ []) ≡ dirty_from page flags ++ cond d ((page + length flags) ∷ []) []
dirty_from-last page [] true = ap (λ (p : ℕ). p ∷ []) (sym (add-zero page))
dirty_from-last page [] false = refl
dirty_from-last page (true ∷ flags) d =
    let e : page + 1 + length flags ≡ page + suc (length flags) = omega arith in
    ap (λ (ps : List ℕ). page ∷ ps) (dirty_from-last (page + 1) flags d ∙ rw e refl)
dirty_from-last page (false ∷ flags) d =
    let e : page + 1 + length flags ≡ page + suc (length flags) = omega arith in
    dirty_from-last (page + 1) flags d ∙ rw e refl

-- the dirty ones of one page more
dirty_from-more : (flags : List Bool) (page : ℕ) → page < length flags
    → dirty_from 0 (take (page + 1) flags) ≡ dirty_from 0 (take page flags)
    ++ cond (get_or flags page false) (page ∷ []) []
dirty_from-more flags page inside =
    let front : length (take page flags) ≡ page = length-take-le page flags (omega arith) in
    ap (dirty_from 0) (take_more flags page false inside)
    ∙ dirty_from-last 0 (take page flags) (get_or flags page false)
    ∙ rw (zero-add, front) refl

-- where nothing is tracked, no page is dirty
pub nothing_dirty : (set : PageSet) → shape set ≡ None → dirty_pages set ≡ []
nothing_dirty None is = refl
nothing_dirty (Some p) is = absurd (none-some (p.page_size, length p.flags) (sym is))

-- where a byte is dirty, a page is
dirty_from-some : (page k : ℕ) (flags : List Bool) → get_or flags k false ≡ true → dirty_from page flags ≢ []
dirty_from-some page k [] at = absurd (true≢false (sym at))
dirty_from-some page k (true ∷ flags) at = λ none. absurd (cc)
dirty_from-some page zero (false ∷ flags) at = absurd (true≢false (sym at))
dirty_from-some page (suc k) (false ∷ flags) at = dirty_from-some (page + 1) k flags at

pub dirty_pages-some : (set : PageSet) (offset : ℕ) → is_dirty_at set offset ≡ true → dirty_pages set ≢ []
dirty_pages-some None offset at = absurd (true≢false (sym at))
dirty_pages-some (Some p) offset at = dirty_from-some 0 (offset / p.page_size) p.flags at

-- the dirty ones of the first pages
abbrev pub dirty_below : PageSet → ℕ → List ℕ
dirty_below None count = []
dirty_below (Some p) count = dirty_from 0 (take count p.flags)

-- of a set of so many pages of this size, whose offsets are of 64 bits
module _ (size count : ℕ) where
  pub dirty_below-more : (set : PageSet) (page : ℕ) → IsPageSet set → shape set ≡ Some (size, count) → page < count
      → dirty_below set (page + 1) ≡ dirty_below set page ++ cond (is_dirty_at set (page * size)) (page ∷ []) []
  dirty_below-more None page fits is below = absurd (none-some (size, count) is)
  dirty_below-more (Some p) page fits is below =
      let s = same_Some (p.page_size, length p.flags) (size, count) is in
      let n : length p.flags ≡ count = ap (λ (t : ℕ × ℕ). t.1) s in
      let z : p.page_size ≡ size = ap (λ (t : ℕ × ℕ). t.0) s in
      let at : is_dirty_at (Some p) (page * size) ≡ get_or p.flags page false =
      ap (λ (k : ℕ). get_or p.flags k false) (rw (← z) (mul-div_cancel page fits.0)) in
      rw at (dirty_from-more p.flags page (omega arith))

  pub dirty_below-all : (set : PageSet) (page : ℕ) → shape set ≡ Some (size, count) → count ≤ page
      → dirty_below set page ≡ dirty_pages set
  dirty_below-all None page is past = refl
  dirty_below-all (Some p) page is past =
      let s = same_Some (p.page_size, length p.flags) (size, count) is in
      let n : length p.flags ≡ count = ap (λ (t : ℕ × ℕ). t.1) s in
      ap (dirty_from 0) (take_all page p.flags (omega arith))

-- ---- words, one bit and one word after the other

word_of-lt : (flags : List Bool) → word_of flags < 2 ^ length flags
word_of-lt [] = omega arith
word_of-lt (true ∷ flags) = omega (arith, word_of-lt flags, pow-suc 2 (length flags))
word_of-lt (false ∷ flags) = omega (arith, word_of-lt flags, pow-suc 2 (length flags))

-- ---- the bits of words

-- a bit of a word is its flag
bit_of-word_of : (flags : List Bool) (b : ℕ) → word_of flags / 2 ^ b % 2 ≡ cond (get_or flags b false) 1 0
bit_of-word_of [] b = ap (λ (n : ℕ). n % 2) (zero-div (2 ^ b))
bit_of-word_of (true ∷ flags) zero = omega arith
bit_of-word_of (false ∷ flags) zero = omega arith
bit_of-word_of (true ∷ flags) (suc b) =
    let half : (1 + 2 * word_of flags) / 2 ≡ word_of flags = omega arith in
    ap (λ (n : ℕ). (1 + 2 * word_of flags) / n % 2) (pow-succ' 2 b)
    ∙ ap (λ (n : ℕ). n % 2) (sym (div-div-eq-div-mul (1 + 2 * word_of flags) 2 (2 ^ b)))
    ∙ ap (λ (n : ℕ). n / 2 ^ b % 2) half
    ∙ bit_of-word_of flags b
bit_of-word_of (false ∷ flags) (suc b) =
    let half : (0 + 2 * word_of flags) / 2 ≡ word_of flags = omega arith in
    ap (λ (n : ℕ). (0 + 2 * word_of flags) / n % 2) (pow-succ' 2 b)
    ∙ ap (λ (n : ℕ). n % 2) (sym (div-div-eq-div-mul (0 + 2 * word_of flags) 2 (2 ^ b)))
    ∙ ap (λ (n : ℕ). n / 2 ^ b % 2) half
    ∙ bit_of-word_of flags b

-- each word has 64 flags, and past the last there is none
word_at : (n : ℕ) (flags : List Bool) (w : ℕ) → (n ≤ w → length flags ≤ 64 * w)
    → get_or (words_of n flags) w 0 ≡ word_of (take 64 (drop (64 * w) flags))
word_at zero flags w h = ap (λ (fs : List Bool). word_of (take 64 fs)) (sym (drop_all (64 * w) flags (h (omega arith))))
word_at (suc n) flags zero h = refl
word_at (suc n) flags (suc w) h =
    let e : 64 * suc w ≡ 64 + 64 * w = omega arith in
    let rest : n ≤ w → length (drop 64 flags) ≤ 64 * w = λ (l : n ≤ w). let all = h (omega arith) in
    omega (arith, length-drop 64 flags) in
    rw e (word_at n (drop 64 flags) w rest
    ∙ ap (λ (fs : List Bool). word_of (take 64 fs)) (drop-drop (64 * w) 64 flags))

past_the_last : (len w : ℕ) → div_ceil len 64 ≤ w → len ≤ 64 * w
past_the_last len w h = let c = div_ceil_times len 64 (omega arith) in omega (arith, c.0, h)

pub bit_of-dirty_words : (p : Pages) (w b : ℕ) → b < 64
    → get_or (dirty_words (Some p)) w 0 / 2 ^ b % 2 ≡ cond (get_or p.flags (64 * w + b) false) 1 0
bit_of-dirty_words p w b small =
    ap (λ (n : ℕ). n / 2 ^ b % 2) (word_at (div_ceil (length p.flags) 64) p.flags w (past_the_last (length p.flags) w))
    ∙ bit_of-word_of (take 64 (drop (64 * w) p.flags)) b
    ∙ ap (λ (d : Bool). cond d 1 0)
    (get_or-take 64 (drop (64 * w) p.flags) b false small ∙ get_or-drop (64 * w) p.flags b false)

length-words_of : (n : ℕ) (flags : List Bool) → length (words_of n flags) ≡ n
length-words_of zero flags = refl
length-words_of (suc n) flags = ap suc (length-words_of n (drop 64 flags))

pub length-dirty_words : (p : Pages) → length (dirty_words (Some p)) ≡ div_ceil (length p.flags) 64
length-dirty_words p = length-words_of (div_ceil (length p.flags) 64) p.flags

pub dirty_words-lt : (p : Pages) (w : ℕ) → get_or (dirty_words (Some p)) w 0 < 2 ^ 64
dirty_words-lt p w =
    let word = take 64 (drop (64 * w) p.flags) in
    let e = word_at (div_ceil (length p.flags) 64) p.flags w (past_the_last (length p.flags) w) in
    let short : length word ≤ 64 = omega (arith, length-take 64 (drop (64 * w) p.flags)) in
    let top : 2 ^ length word ≤ 2 ^ 64 = pow_mono {i = length word} {j = 64} short in
    omega (arith, e, word_of-lt word)

-- ---- pages made clean

pub is_dirty_at-unmarked : (start len offset : ℕ) (p : Pages)
    → is_dirty_at (unmarked start len (Some p)) offset
    ≡ (is_dirty_at (Some p) offset && not (takes p.page_size start len (offset / p.page_size)))
is_dirty_at-unmarked start len offset p =
    get_or-flags_unmarked (takes p.page_size start len) 0 p.flags (offset / p.page_size) ∙ rw zero-add refl

pub shape-unmarked : (start len : ℕ) (set : PageSet) → shape (unmarked start len set) ≡ shape set
shape-unmarked start len None = refl
shape-unmarked start len (Some p) =
    ap (λ (n : ℕ). Some (p.page_size, n)) (length-flags_set false (takes p.page_size start len) 0 p.flags)

pub IsPageSet-unmarked : (start len : ℕ) (set : PageSet) → IsPageSet set → IsPageSet (unmarked start len set)
IsPageSet-unmarked start len None h = tt
IsPageSet-unmarked start len (Some p) h = (h.0, rw length-flags_set h.1)

-- a mark is undone with what was dirty of its pages
pub unmarked-marked : (start len : ℕ) (set : PageSet)
    → unmarked start len (marked start len set) ≡ unmarked start len set
unmarked-marked start len None = refl
unmarked-marked start len (Some p) =
    ap (pages_with p.page_size) (flags_set_again false true (takes p.page_size start len) 0 p.flags)

-- ---- clean pages

pub clean_is_not_dirty : (len offset : ℕ) (set : PageSet) → IsCleanFor len set → is_dirty_at set offset ≡ false
clean_is_not_dirty len offset None h = refl
clean_is_not_dirty len offset (Some p) h = at (get_or p.flags (offset / p.page_size) false) refl
  where
    at : (d : Bool) → get_or p.flags (offset / p.page_size) false ≡ d → d ≡ false
    at false e = refl
    at true e =
        let listed : Contains (dirty_pages (Some p)) (offset / p.page_size) =
        (Contains-dirty_pages p (offset / p.page_size)).1 e in
        let none : Contains [] (offset / p.page_size) = rw h.0 at listed in
        absurd (omega (arith, none.1))

-- each of the bytes lies in a page
pub covered : (len offset : ℕ) (p : Pages) → IsCleanFor len (Some p) → offset < len
    → offset / p.page_size < length p.flags
covered len offset p h inside = at p.page_size refl
  where
    at : (size : ℕ) → p.page_size ≡ size → offset / p.page_size < length p.flags
    at zero e = absurd (omega (arith, ap (λ (n : ℕ). length p.flags * n) e, mul-zero (length p.flags), h.1))
    at (suc size) e = rw e (div_below offset (suc size) (length p.flags) (omega arith)
        (omega (arith, ap (λ (n : ℕ). length p.flags * n) e, h.1)))

-- ---- what the dirty pages decide

not_listed : (page : ℕ) (flags : List Bool) (rest : List ℕ) → page ∷ rest ≡ dirty_from (page + 1) flags → ⊥
not_listed page flags rest e =
    let all : All (λ (other : ℕ). page + 1 ≤ other) (page ∷ rest) =
    subst (All (λ (other : ℕ). page + 1 ≤ other)) (sym e) (from_page (page + 1) flags) in
    omega (arith, All-head (λ (other : ℕ). page + 1 ≤ other) page rest all)

same_flags : (page : ℕ) (xs ys : List Bool) → length xs ≡ length ys → dirty_from page xs ≡ dirty_from page ys → xs ≡ ys
same_flags page [] [] l e = refl
same_flags page [] (b ∷ ys) l e = absurd (omega arith)
same_flags page (a ∷ xs) [] l e = absurd (omega arith)
same_flags page (true ∷ xs) (true ∷ ys) l e =
    let rest : dirty_from (page + 1) xs ≡ dirty_from (page + 1) ys = cc in
    ap (λ (fs : List Bool). true ∷ fs) (same_flags (page + 1) xs ys (omega arith) rest)
same_flags page (false ∷ xs) (false ∷ ys) l e =
    ap (λ (fs : List Bool). false ∷ fs) (same_flags (page + 1) xs ys (omega arith) e)
same_flags page (true ∷ xs) (false ∷ ys) l e = absurd (not_listed page ys (dirty_from (page + 1) xs) e)
same_flags page (false ∷ xs) (true ∷ ys) l e = absurd (not_listed page xs (dirty_from (page + 1) ys) (sym e))

abbrev first_of : Option (ℕ × ℕ) → ℕ
first_of None = 0
first_of (Some s) = s.0

abbrev second_of : Option (ℕ × ℕ) → ℕ
second_of None = 0
second_of (Some s) = s.1

-- page sets of one shape with the same dirty pages are one
pub dirty_pages_decide : (p q : Pages) → shape (Some p) ≡ shape (Some q) → dirty_pages (Some p) ≡ dirty_pages (Some q)
    → p ≡ q
dirty_pages_decide p q s e =
    let size : p.page_size ≡ q.page_size = ap first_of s in
    let count : length p.flags ≡ length q.flags = ap second_of s in
    let flags = same_flags 0 p.flags q.flags count e in
    ap (λ (n : ℕ). record { page_size = n; flags = p.flags }) size
    ∙ ap (λ (fs : List Bool). record { page_size = q.page_size; flags = fs }) flags
