-- Flags of pages as bits of words.
use Rattle.std.proofs.Common.{◌≡◌, ◌≢◌, ℕ, zero, suc, ◌+◌, ◌-◌, ◌*◌, ◌/◌, ◌%◌, ◌^◌, ◌<◌, ◌≤◌, Bool, true, false, ◌&&◌, cond, eqb, ltb, leb, List, [], ◌∷◌, ◌++◌, length, get_or, set, map, replicate, min, max, Some, refl, sym, ap, inl, inr, ◌∙◌, arith, zero-add, add-zero, append-nil, w64}
use Rattle.std.specs.Prelude.{bit_and, bit_or}
use Rattle.std.specs.Int.{div_ceil, bit_at, bit_not}
use Rattle.std.specs.List.{range_with_len}
use Rattle.std.proofs.lemmas.Bool.{lt-ltb, le-ltb, cases_lt, cases_eq}
use Rattle.std.proofs.lemmas.Bool.Decides.{nat_tests}
use Rattle.std.proofs.lemmas.Grind.{div_ceil_times}
use Rattle.std.proofs.lemmas.List.{get_or-set_same, get_or-set_other, get_or_past, get_or_read, ext_get_or, length-replicate, get_or-replicate}
use Rattle.std.proofs.lemmas.List.FromFn.{get_or-map-range_with_len, fill_by_all}
use Rattle.std.proofs.lemmas.Nat.{and_le_l}
use Rattle.std.proofs.lemmas.Nat.Bits.{bit_at-zero, bit_at-lt, bit_at_and, bit_at_or, bit_at_not, bit_at_ones, bit_at_ones_above, bit_at_mask_inside, bit_at_mask_below, bit_at_clear_same, bit_at_clear_other, ones_shl, ones_shr, same_from_bits_below}
use Rattle.vm_memory_base.specs.Flags.{flag, flags_of, Gets, dirty_among}
use Rattle.vm_memory_base.specs.Pages.{Pages, dirty_from, dirty_words, takes, flags_set}
use Rattle.vm_memory_base.specs.Paging.{page_size_of, count_of, pages_in}
use Rattle.vm_memory_base.specs.declared.bitmap.paging.Paging.{Paging}
use Rattle.vm_memory_base.specs.lemmas.NewPages.{length-flags_of}
use Rattle.vm_memory_base.proofs.BitmapLemmas.{within, before, behind, made_alike, get_or-made_alike, bit_of-dirty_words, length-dirty_words, dirty_words-lt}
use Rattle.vm_memory_base.proofs.PagesLaws.{length-flags_set, get_or-flags_set, get_or-alike}

get_or-flags_of : (words : List ℕ) (count page : ℕ) → page < count
    → get_or (flags_of words count) page false ≡ flag words page
get_or-flags_of words count page inside =
    get_or-map-range_with_len (flag words) 0 count page page false inside (zero-add page)

-- ---- words of zeros

pub flag-zeros : (n page : ℕ) → flag (replicate n 0) page ≡ false
flag-zeros n page = let word = get_or-alike {A = ℕ} n (page / 64) 0 in rw (word, bit_at-zero (page % 64)) refl

pub flags_of-zeros : (n count : ℕ) → flags_of (replicate n 0) count ≡ replicate count false
flags_of-zeros n count =
    sym (fill_by_all (flag (replicate n 0)) (replicate count false) count false
    (length-replicate {A = Bool} count false)
    (λ k inside. get_or-replicate count k false false inside ∙ sym (flag-zeros n k)))

-- ---- pages that get a flag

-- first the pages from a up to b, and then those from b up to c
pub Gets-both : (old mid new : List ℕ) (a b c : ℕ) (d : Bool) → a ≤ b → b ≤ c → Gets old mid a b d → Gets mid new b c d
    → Gets old new a c d
Gets-both old mid new a b c d h k f g page =
    one (flag old page) (flag mid page) (flag new page) (f page) (g page)
  where
    one : (o m n : Bool) → m ≡ cond (leb a page && ltb page b) d o → n ≡ cond (leb b page && ltb page c) d m
        → n ≡ cond (leb a page && ltb page c) d o
    one o m n e f = grind (arith, nat_tests)

pub Gets-at : (old new : List ℕ) (a b x y : ℕ) (d : Bool) → x ≡ a → y ≡ b → Gets old new x y d → Gets old new a b d
Gets-at old new a b x y d e f g = rw (← e, ← f) g

bit_is : (d : Bool) → eqb (cond d 1 0) 1 ≡ d
bit_is true = refl
bit_is false = refl

-- a word got this bit from one bit up to another
abbrev pub GetsBits : ℕ → ℕ → ℕ → ℕ → Bool → Type 0
GetsBits old new first end d =
    (bit : ℕ) → bit < 64 → bit_at new bit ≡ cond (leb first bit && ltb bit end) (cond d 1 0) (bit_at old bit)

-- a flag that is told by a bit, where both are chosen by one test
told_by : (t d : Bool) (o : ℕ) → eqb (cond t (cond d 1 0) o) 1 ≡ cond t d (eqb o 1)
told_by true d o = bit_is d
told_by false d o = refl

pub Gets-word : (words : List ℕ) (k first end new : ℕ) (d : Bool) → k < length words → end ≤ 64
    → GetsBits (get_or words k 0) new first end d → Gets words (set words k new) (64 * k + first) (64 * k + end) d
Gets-word words k first end new d here small bits page =
    elim (cases_eq (page / 64) k) [
      | inl same ↦
          let test : (leb (64 * k + first) page && ltb page (64 * k + end))
          ≡ (leb first (page % 64) && ltb (page % 64) end) = grind (arith, nat_tests) in
          rw (test, same, get_or-set_same words k new 0 here, bits (page % 64) (omega arith))
          (told_by (leb first (page % 64) && ltb (page % 64) end) d (bit_at (get_or words k 0) (page % 64)))
      | inr other ↦
          let test : (leb (64 * k + first) page && ltb page (64 * k + end)) ≡ false = grind (arith, nat_tests) in
          rw (test, get_or-set_other words k (page / 64) new 0 other) refl
    ]

pub Gets-words : (words : List ℕ) (a b all : ℕ) (d : Bool) → a ≤ b → b ≤ length words
    → ((bit : ℕ) → bit < 64 → bit_at all bit ≡ cond d 1 0) → Gets words (made_alike a b all words) (64 * a) (64 * b) d
Gets-words words a b all d h k bits page =
    let test : (leb (64 * a) page && ltb page (64 * b)) ≡ (leb a (page / 64) && ltb (page / 64) b) =
    grind (arith, nat_tests) in
    rw (test, get_or-made_alike a b all words (page / 64) h k)
    (one (leb a (page / 64) && ltb (page / 64) b))
  where
    one : (t : Bool) → eqb (bit_at (cond t all (get_or words (page / 64) 0)) (page % 64)) 1 ≡ cond t d (flag words page)
    one true = ap (λ (n : ℕ). eqb n 1) (bits (page % 64) (omega arith)) ∙ bit_is d
    one false = refl

pub mask_bits : (first end bit : ℕ) → first < end → end ≤ 64 → bit < 64
    → bit_at (bit_and ((2 ^ 64 - 1) * 2 ^ first % 2 ^ 64) ((2 ^ 64 - 1) / 2 ^ (64 - end))) bit
    ≡ cond (leb first bit && ltb bit end) 1 0
mask_bits first end bit ordered inside small =
    let low = ones_shl 64 first (omega arith) in
    let back : 64 - (64 - end) ≡ end = omega arith in
    let high : (2 ^ 64 - 1) / 2 ^ (64 - end) ≡ 2 ^ end - 1 = rw back at (ones_shr 64 (64 - end) (omega arith)) in
    let both = bit_at_and (2 ^ 64 - 2 ^ first) (2 ^ end - 1) bit in
    rw (low, high)
    (elim (cases_lt bit first) [
      | inl l ↦ rw (before first end bit l) (omega (arith, both, bit_at_mask_below first 64 bit l))
      | inr l ↦
          elim (cases_lt bit end) [
            | inl m ↦
                rw (within first end bit l m)
                (omega (arith, both, bit_at_mask_inside first 64 bit l small, bit_at_ones end bit m))
            | inr m ↦ rw (behind first end bit m) (omega (arith, both, bit_at_ones_above end bit m))
          ]
    ])

-- a word with the bits of a mask, and without them
module _ (old mask first end : ℕ)
    (bits : (bit : ℕ) → bit < 64 → bit_at mask bit ≡ cond (leb first bit && ltb bit end) 1 0) where
  pub GetsBits-or : GetsBits old (bit_or old mask) first end true
  GetsBits-or bit small =
      bit_at_or old mask bit
      ∙ one (leb first bit && ltb bit end) (bit_at old bit) (bit_at mask bit) (bit_at-lt old bit) (bits bit small)
    where
      one : (t : Bool) (o m : ℕ) → o < 2 → m ≡ cond t 1 0 → max o m ≡ cond t 1 o
      one true o m h e = omega (arith, h, e)
      one false o m h e = omega (arith, h, e)

  pub GetsBits-and : mask < 2 ^ 64 → GetsBits old (bit_and old (bit_not w64 mask)) first end false
  GetsBits-and fits bit small =
      bit_at_and old (bit_not w64 mask) bit
      ∙ one (leb first bit && ltb bit end) (bit_at old bit) (bit_at (bit_not w64 mask) bit) (bit_at mask bit)
      (bit_at-lt old bit) (bits bit small) (bit_at_not w64 mask bit fits small)
    where
      one : (t : Bool) (o n m : ℕ) → o < 2 → m ≡ cond t 1 0 → n ≡ 1 - m → min o n ≡ cond t 0 o
      one true o n m h e f = omega (arith, h, e, f)
      one false o n m h e f = omega (arith, h, e, f)

-- ---- all pages after some got a flag

-- the pages that a mark takes are those from one up to another
pub taken_between : (p : Paging) (start len page : ℕ) → page < count_of p
    → takes (page_size_of p) start len page
    ≡ (leb (pages_in p start len).0 page && ltb page (pages_in p start len).1)
taken_between p start len page inside =
    elim (cases_lt 0 len) [
      | inl l ↦ rw (lt-ltb 0 len l) (grind (arith, nat_tests))
      | inr l ↦ rw (le-ltb 0 len l) (grind (arith, nat_tests))
    ]

module _ (old new : List ℕ) (count first end : ℕ) (test : ℕ → Bool)
    (taken : (page : ℕ) → page < count → test page ≡ (leb first page && ltb page end)) where
  pub flags_of-set : (d : Bool) → Gets old new first end d
      → flags_of new count ≡ flags_set d test 0 (flags_of old count)
  flags_of-set d gets =
      let flags = flags_of old count in
      sym (fill_by_all (flag new) (flags_set d test 0 flags) count false
      (length-flags_set d test 0 flags ∙ length-flags_of old count)
      (λ k inside.
      let e : 0 + k ≡ k = zero-add k in
      get_or-flags_set d test 0 flags k
      ∙ rw (e, length-flags_of old count, lt-ltb k count inside, get_or-flags_of old count k inside, taken k inside)
      (sym (gets k))))

-- past the last page none is dirty, whatever those up to it got
pub clear_after : (old new : List ℕ) (count first end : ℕ) (d : Bool) → end ≤ count
    → ((page : ℕ) → count ≤ page → flag old page ≡ false) → Gets old new first end d
    → (page : ℕ) → count ≤ page → flag new page ≡ false
clear_after old new count first end d inside clear gets page past =
    rw (behind first end page (omega arith)) at (gets page) ∙ clear page past

pub flags_of-clean : (old : List ℕ) (n count : ℕ)
    → flags_of (replicate n 0) count ≡ replicate (length (flags_of old count)) false
flags_of-clean old n count =
    flags_of-zeros n count ∙ ap (λ (k : ℕ). replicate k false) (sym (length-flags_of old count))

-- ---- the words as those of the dirty pages

bit_of-flag : (b : ℕ) → b < 2 → cond (eqb b 1) 1 0 ≡ b
bit_of-flag b small = grind (arith, nat_tests)

module _ (words : List ℕ) (count : ℕ) (clear : (page : ℕ) → count ≤ page → flag words page ≡ false) where
  -- past the last page no flag is told
  pub flag-told : (page : ℕ) → get_or (flags_of words count) page false ≡ flag words page
  flag-told page =
      elim (cases_lt page count) [
        | inl l ↦ get_or-flags_of words count page l
        | inr l ↦
            get_or_past (flags_of words count) page false (rw (length-flags_of words count) l) ∙ sym (clear page l)
      ]

  bit_told : (size w b : ℕ) → b < 64
      → bit_at (get_or words w 0) b
      ≡ get_or (dirty_words (Some (record { page_size = size; flags = flags_of words count }))) w 0 / 2 ^ b % 2
  bit_told size w b small =
      let page : (64 * w + b) / 64 ≡ w = omega arith in
      let bit : (64 * w + b) % 64 ≡ b = omega arith in
      sym (bit_of-dirty_words (record { page_size = size; flags = flags_of words count }) w b small
      ∙ rw (flag-told (64 * w + b), page, bit)
      (bit_of-flag (bit_at (get_or words w 0) b) (bit_at-lt (get_or words w 0) b)))

  pub words_are : (size : ℕ) → length words ≡ div_ceil count 64 → ((k : ℕ) → get_or words k 0 < 2 ^ 64)
      → words ≡ dirty_words (Some (record { page_size = size; flags = flags_of words count }))
  words_are size whole small =
      let p : Pages = record { page_size = size; flags = flags_of words count } in
      ext_get_or 0 words (dirty_words (Some p))
      (whole ∙ sym (length-dirty_words p ∙ ap (λ (n : ℕ). div_ceil n 64) (length-flags_of words count)))
      (λ w inside.
      same_from_bits_below 64 (get_or words w 0) (get_or (dirty_words (Some p)) w 0) (small w) (dirty_words-lt p w)
      (λ b l. bit_told size w b l))

pub inside_words : (words : List ℕ) (count end : ℕ) → length words ≡ div_ceil count 64 → end ≤ count
    → end ≤ 64 * length words
inside_words words count end whole inside = let c = div_ceil_times count 64 (omega arith) in omega (arith, c.0)

pub word_read : (words : List ℕ) (count page word : ℕ) → length words ≡ div_ceil count 64 → page < count
    → word ≡ get_or words (page / 64) word → word ≡ get_or words (page / 64) 0
word_read words count page word whole inside read =
    let c = div_ceil_times count 64 (omega arith) in
    get_or_read words (page / 64) word (omega (arith, c.0)) read 0

-- ---- the dirty ones of so many pages, by a test

abbrev pub dirty_by : (ℕ → Bool) → ℕ → ℕ → List ℕ
dirty_by test page n = dirty_from page (map test (range_with_len page n))

pub same_dirty : (f g : ℕ → Bool) (page n : ℕ) → ((p : ℕ) → page ≤ p → p < page + n → f p ≡ g p)
    → dirty_by f page n ≡ dirty_by g page n
same_dirty f g page zero same = refl
same_dirty f g page (suc n) same =
    let here = same page (omega arith) (omega arith) in
    let rest = same_dirty f g (page + 1) n (λ p l m. same p (omega arith) (omega arith)) in
    rw (here, rest) refl

pub none_dirty : (f : ℕ → Bool) (page n : ℕ) → ((p : ℕ) → page ≤ p → f p ≡ false) → dirty_by f page n ≡ []
none_dirty f page zero clean = refl
none_dirty f page (suc n) clean =
    let here = clean page (omega arith) in
    rw here (none_dirty f (page + 1) n (λ p l. clean p (omega arith)))

joined : (d : Bool) (page : ℕ) (xs ys zs : List ℕ) → xs ≡ ys ++ zs → cond d (page ∷ xs) xs ≡ cond d (page ∷ ys) ys ++ zs
joined true page xs ys zs e = ap (λ (ps : List ℕ). page ∷ ps) e
joined false page xs ys zs e = e

-- the first of them, and then the others
pub dirty_by-split : (f : ℕ → Bool) (page n m all : ℕ) → n + m ≡ all
    → dirty_by f page all ≡ dirty_by f page n ++ dirty_by f (page + n) m
dirty_by-split f page zero m all e = let same : all ≡ m = omega arith in rw (same, add-zero page) refl
dirty_by-split f page (suc n) m zero e = absurd (omega arith)
dirty_by-split f page (suc n) m (suc all) e =
    let at : page + suc n ≡ page + 1 + n = omega arith in
    rw at
    (joined (f page) page (dirty_by f (page + 1) all) (dirty_by f (page + 1) n) (dirty_by f (page + 1 + n) m)
    (dirty_by-split f (page + 1) n m all (omega arith)))

-- the first dirty one, and those that are left where it is clean
take_first : (f g : ℕ → Bool) (page n t : ℕ) → page ≤ t → t < page + n → ((p : ℕ) → page ≤ p → p < t → f p ≡ false)
    → f t ≡ true → g t ≡ false → ((p : ℕ) → page ≤ p → p < page + n → (p ≡ t → ⊥) → f p ≡ g p)
    → dirty_by f page n ≡ t ∷ dirty_by g page n
take_first f g page zero t h k low at gone same = absurd (omega arith)
take_first f g page (suc n) t h k low at gone same =
    elim (cases_eq page t) [
      | inl here ↦
          let f_at : f page ≡ true = ap f here ∙ at in
          let g_at : g page ≡ false = ap g here ∙ gone in
          let rest = same_dirty f g (page + 1) n (λ p l m. same p (omega arith) (omega arith) (λ e. omega arith)) in
          rw (f_at, g_at, rest) (ap (λ (p : ℕ). p ∷ dirty_by g (page + 1) n) here)
      | inr other ↦
          let f_at : f page ≡ false = low page (omega arith) (omega arith) in
          let g_at : g page ≡ false = sym (same page (omega arith) (omega arith) other) ∙ f_at in
          rw (f_at, g_at)
          (take_first f g (page + 1) n t (omega arith) (omega arith) (λ p l m. low p (omega arith) m) at gone
          (λ p l m. same p (omega arith) (omega arith)))
    ]

-- the lowest bit of a word, and the word without it
pub lowest_bit : (word first t : ℕ) → t < 64 → bit_at word t ≡ 1 → ((i : ℕ) → i < t → bit_at word i ≡ 0)
    → dirty_among word first ≡ (first + t) ∷ dirty_among (bit_and word (bit_not w64 (1 * 2 ^ t % 2 ^ 64))) first
unfolding dirty_among
lowest_bit word first t small set low =
    let left : ℕ = bit_and word (bit_not w64 (1 * 2 ^ t % 2 ^ 64)) in
    let here : first + t - first ≡ t = omega arith in
    take_first (λ page. eqb (bit_at word (page - first)) 1) (λ page. eqb (bit_at left (page - first)) 1) first 64
    (first + t) (omega arith) (omega arith)
    (λ p l m. ap (λ (n : ℕ). eqb n 1) (low (p - first) (omega arith)))
    (rw here (ap (λ (n : ℕ). eqb n 1) set))
    (rw here (ap (λ (n : ℕ). eqb n 1) (bit_at_clear_same w64 word t small)))
    (λ p l m other.
    ap (λ (n : ℕ). eqb n 1)
    (sym (bit_at_clear_other w64 word t small (p - first) (omega arith) (λ e. other (omega arith)))))

pub no_bits : (first : ℕ) → dirty_among 0 first ≡ []
unfolding dirty_among
no_bits first =
    none_dirty (λ page. eqb (bit_at 0 (page - first)) 1) first 64
    (λ p l. ap (λ (n : ℕ). eqb n 1) (bit_at-zero (p - first)))

pub not_empty : (xs : List ℕ) (y : ℕ) (ys : List ℕ) → xs ++ y ∷ ys ≢ []
not_empty [] y ys e = absurd (cc)
not_empty (x ∷ xs) y ys e = absurd (cc)

-- the pages of a word all bits of which are set, as many as have been seen
abbrev pub all_set : ℕ → ℕ → Bool
all_set first page = eqb (bit_at (2 ^ 64 - 1) (page - first)) 1

pub one_more : (first k : ℕ) → k < 64
    → dirty_by (all_set first) first (k + 1) ≡ dirty_by (all_set first) first k ++ (first + k) ∷ []
one_more first k inside =
    let at : first + k - first ≡ k = omega arith in
    let set : all_set first (first + k) ≡ true = rw at (ap (λ (n : ℕ). eqb n 1) (bit_at_ones 64 k inside)) in
    dirty_by-split (all_set first) first k 1 (k + 1) refl
    ∙ ap (λ (ps : List ℕ). dirty_by (all_set first) first k ++ ps) (rw set refl)

pub all_of_word : (first : ℕ) → dirty_by (all_set first) first 64 ≡ dirty_among (2 ^ 64 - 1) first
unfolding dirty_among
all_of_word first = refl

pub some_of_word : (first : ℕ) → dirty_among (2 ^ 64 - 1) first ≢ []
some_of_word first none = not_empty _ _ _ (sym (one_more first 63 (omega arith)) ∙ all_of_word first ∙ none)

-- the pages of one word more
pub dirty_of_word : (words : List ℕ) (k : ℕ)
    → dirty_by (flag words) 0 (64 * (k + 1))
    ≡ dirty_by (flag words) 0 (64 * k) ++ dirty_among (get_or words k 0) (64 * k)
unfolding dirty_among
dirty_of_word words k =
    let at : 0 + 64 * k ≡ 64 * k = omega arith in
    dirty_by-split (flag words) 0 (64 * k) 64 (64 * (k + 1)) (omega arith)
    ∙ rw at
    (ap (λ (ps : List ℕ). dirty_by (flag words) 0 (64 * k) ++ ps)
    (same_dirty (flag words) (λ page. eqb (bit_at (get_or words k 0) (page - 64 * k)) 1) (64 * k) 64
    (λ p l m.
    let word : p / 64 ≡ k = omega arith in
    let bit : p % 64 ≡ p - 64 * k = omega arith in
    rw (word, bit) refl)))

-- the pages of all words are those up to the last
pub dirty_of_words : (words : List ℕ) (count all : ℕ) → count ≤ all
    → ((page : ℕ) → count ≤ page → flag words page ≡ false)
    → dirty_by (flag words) 0 all ≡ dirty_by (flag words) 0 count
dirty_of_words words count all inside clear =
    dirty_by-split (flag words) 0 count (all - count) all (omega arith)
    ∙ rw (none_dirty (flag words) (0 + count) (all - count) (λ p l. clear p (omega arith))) (append-nil _)

-- where a word has a dirty page, there is one
pub some_dirty : (words : List ℕ) (count k : ℕ) → length words ≡ div_ceil count 64 → k < length words
    → ((page : ℕ) → count ≤ page → flag words page ≡ false) → dirty_among (get_or words k 0) (64 * k) ≢ []
    → dirty_by (flag words) 0 count ≢ []
some_dirty words count k whole inside clear some none =
    let all = 64 * length words in
    let enough = div_ceil_times count 64 (omega arith) in
    let e = dirty_of_words words count all (omega (arith, enough.0)) clear ∙ none in
    let f = dirty_by-split (flag words) 0 (64 * (k + 1)) (all - 64 * (k + 1)) all (omega arith) in
    some (middle (dirty_by (flag words) 0 (64 * k)) (dirty_among (get_or words k 0) (64 * k)) _
    (ap (λ (ps : List ℕ). ps ++ dirty_by (flag words) (0 + 64 * (k + 1)) (all - 64 * (k + 1)))
    (sym (dirty_of_word words k))
    ∙ sym f ∙ e))
  where
    middle : (xs ys zs : List ℕ) → (xs ++ ys) ++ zs ≡ [] → ys ≡ []
    middle [] [] zs e = refl
    middle [] (y ∷ ys) zs e = absurd (cc)
    middle (x ∷ xs) ys zs e = absurd (cc)

-- a word is less without a bit that it has
pub without_bit : (word t : ℕ) → t < 64 → bit_at word t ≡ 1 → bit_and word (bit_not w64 (1 * 2 ^ t % 2 ^ 64)) < word
without_bit word t small set =
    let left : ℕ = bit_and word (bit_not w64 (1 * 2 ^ t % 2 ^ 64)) in
    let gone : bit_at left t ≡ 0 = bit_at_clear_same w64 word t small in
    elim (cases_eq left word) [
      | inl same ↦ let both : bit_at left t ≡ bit_at word t = ap (λ (n : ℕ). bit_at n t) same in absurd (omega arith)
      | inr other ↦ omega (arith, and_le_l word (bit_not w64 (1 * 2 ^ t % 2 ^ 64)))
    ]
