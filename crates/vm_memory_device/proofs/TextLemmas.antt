-- Texts of segments, and how chains divide their segments.
use Rattle.std.proofs.Common.{◌≡◌, ◌∙◌, ℕ, zero, suc, ◌+◌, ◌-◌, ◌<◌, ◌≤◌, ◌^◌, Bool, true, false, not, ◌&&◌, ◌||◌, cond, List, [], ◌∷◌, ◌++◌, length, take, drop, Some, None, All, refl, sym, ap, subst, nat_le, min, arith, inl, inr, ◌⊎◌, length-append, append-nil, zero-add, get_or, length-drop}
use Rattle.std.specs.List.{list_any}
use Rattle.std.specs.Option.{option_or}
use Rattle.std.proofs.lemmas.Bool.{cases_lt}
use Rattle.std.proofs.lemmas.List.{take_all, drop_all, take-append-le, drop-append-le, take_more, take-append-drop}
use Rattle.std.proofs.Math.Seq.{drop-length, drop-cons}
use Rattle.std.proofs.lemmas.List.Elements.{filter-append, All-push, All-head, All-tail}
use Rattle.std.proofs.lemmas.List.Folds.{list_any-append}
use Rattle.std.proofs.lemmas.List.Sums.{sum_by-append, sum_by-cons}
use Rattle.vm_memory_device.specs.Chain.{Entry, access_len, entries_from, text, total_len, readable, writable, fault_past, fault_after, chain_fault}
use Rattle.vm_memory_device.specs.ChainText.{Divides, Fits, IsNext, IsPlace, Runs, entries}
use Rattle.vm_memory_device.specs.declared.chain.Segment.{Segment}
use Rattle.vm_memory_device.specs.declared.chain.ChainFault.{ChainFault}
use Rattle.vm_memory_device.specs.declared.chain.ChainFault.TheVariants.{Range, Order, TooLong}

-- ---- texts

-- a segment has as many entries as bytes
pub length-entries_from : (a n : ℕ) → length (entries_from a n) ≡ n
unfolding entries_from
length-entries_from a zero = refl
length-entries_from a (suc zero) = refl
length-entries_from a (suc (suc n)) = ap suc (length-entries_from (a + 1) (suc n))

-- and a text as many as its segments
pub length-text : (ss : List Segment) → length (text ss) ≡ total_len ss
length-text [] = refl
length-text (s ∷ ss) =
    length-append (entries_from s.addr.0 s.len) (text ss)
    ∙ ap (λ n. n + length (text ss)) (length-entries_from s.addr.0 s.len)
    ∙ ap (λ n. s.len + n) (length-text ss)
    ∙ sym (sum_by-cons (λ (r : Segment). r.len) s ss)

-- nothing is left of a segment
pub entries-none : (a : ℕ) (ss : List Segment) → entries a 0 ss ≡ text ss
unfolding entries_from
entries-none a ss = refl

pub length-entries : (a rest : ℕ) (ss : List Segment) → length (entries a rest ss) ≡ rest + length (text ss)
length-entries a rest ss =
    length-append (entries_from a rest) (text ss) ∙ ap (λ n. n + length (text ss)) (length-entries_from a rest)

same_entries : (a b n m : ℕ) (es : List Entry) → a ≡ b → n ≡ m → entries_from a n ++ es ≡ entries_from b m ++ es
same_entries a b n m es p q = cc

-- the entries of a segment after the first of them
pub drop-entries_from : (a n k : ℕ) (es : List Entry) → k ≤ n
    → drop k (entries_from a n ++ es) ≡ entries_from (a + k) (n - k) ++ es
unfolding entries_from
drop-entries_from a n zero es h = same_entries a (a + 0) n (n - 0) es (omega arith) (omega arith)
drop-entries_from a zero (suc k) es h = absurd (omega arith)
drop-entries_from a (suc zero) (suc k) es h =
    let none : k ≡ 0 = omega arith in
    ap (λ j. drop j es) none ∙ same_entries (a + suc k) (a + suc k) 0 (1 - suc k) es refl (omega arith)
drop-entries_from a (suc (suc n)) (suc k) es h =
    drop-entries_from (a + 1) (suc n) k es (omega arith)
    ∙ same_entries (a + 1 + k) (a + suc k) (suc n - k) (suc (suc n) - suc k) es (omega arith) (omega arith)

-- the first access of at most so many bytes goes to the end of the segment, or has them all
pub runs_front : (a n rest room : ℕ) (es : List Entry) → 0 < n → n ≤ room → n ≤ rest → (n ≡ room) ⊎ (n ≡ rest)
    → Runs a n (take room (entries_from a rest ++ es))
unfolding entries_from Runs
runs_front a zero rest room es some r s h = absurd (omega arith)
runs_front a (suc n) zero room es some r s h = absurd (omega arith)
runs_front a (suc n) (suc rest) zero es some r s h = absurd (omega arith)
runs_front a (suc zero) (suc zero) (suc room) es some r s h = (refl, inl refl)
runs_front a (suc zero) (suc (suc rest)) (suc room) es some r s (inl h) =
    let none : room ≡ 0 = omega arith in
    (refl, inr (ap (λ j. take j (entries_from (a + 1) (suc rest) ++ es)) none))
runs_front a (suc zero) (suc (suc rest)) (suc room) es some r s (inr h) = absurd (omega arith)
runs_front a (suc (suc n)) (suc zero) (suc room) es some r s h = absurd (omega arith)
runs_front a (suc (suc n)) (suc (suc rest)) (suc room) es some r s (inl h) = (
  refl,
  refl,
  runs_front (a + 1) (suc n) (suc rest) room es (omega arith) (omega arith) (omega arith)
      (inl (omega arith)),
)
runs_front a (suc (suc n)) (suc (suc rest)) (suc room) es some r s (inr h) = (
  refl,
  refl,
  runs_front (a + 1) (suc n) (suc rest) room es (omega arith) (omega arith) (omega arith)
      (inr (omega arith)),
)

-- the first access of a text goes up to the end of the segment
access_len-entries_from : (a n : ℕ) (es : List Entry) → 0 < n → access_len (entries_from a n ++ es) ≡ n
unfolding entries_from access_len
access_len-entries_from a zero es some = absurd (omega arith)
access_len-entries_from a (suc zero) es some = refl
access_len-entries_from a (suc (suc n)) es some =
    ap (λ k. k + 1) (access_len-entries_from (a + 1) (suc n) es (omega arith)) ∙ omega arith

pub access_len-place : (a rest : ℕ) (ss : List Segment) → IsPlace a rest ss → access_len (entries a rest ss) ≡ rest
unfolding entries_from access_len
access_len-place a zero ss h = ap (λ rs. access_len (entries a 0 rs)) (h.next refl)
access_len-place a (suc rest) ss h = access_len-entries_from a (suc rest) (text ss) (omega arith)

-- an access of no byte is the next one only where there is no room or no byte is left
pub none_next : (a rest room : ℕ) (ss : List Segment) → IsPlace a rest ss → min room rest ≡ 0
    → take room (entries a rest ss) ≡ []
unfolding entries_from
none_next a rest zero ss h none = refl
none_next a zero (suc room) ss h none = ap (λ rs. take (suc room) (entries a 0 rs)) (h.next refl)
none_next a (suc rest) (suc room) ss h none = absurd (omega arith)

pub some_next : (a rest room : ℕ) (ss : List Segment) → IsPlace a rest ss → 0 < min room rest
    → IsNext a (min room rest) room (entries a rest ss)
some_next a rest room ss h some =
    let len = access_len-place a rest ss h in
    record {
      runs = runs_front a (min room rest) rest room (text ss) some (omega arith) (omega arith) (least room rest);
      fits = omega arith;
      inside = omega arith;
    }
  where
    least : (x y : ℕ) → (min x y ≡ x) ⊎ (min x y ≡ y)
    least x y = elim (cases_lt x y) [ inl h ↦ inl (omega arith) | inr h ↦ inr (omega arith) ]

-- a place goes on inside its segment, and after it
pub place_inside : (a rest count : ℕ) (ss : List Segment) → IsPlace a rest ss → count < rest
    → IsPlace (a + count) (rest - count) ss
place_inside a rest count ss h inside =
    let ends = h.ends in record { ends = omega arith; fit = h.fit; next = λ none. absurd (omega arith) }

pub drop-inside : (a rest count : ℕ) (ss : List Segment) → count ≤ rest
    → entries (a + count) (rest - count) ss ≡ drop count (entries a rest ss)
drop-inside a rest count ss inside = sym (drop-entries_from a rest count (text ss) inside)

pub drop-segment : (a rest count : ℕ) (ss : List Segment) → count ≡ rest → text ss ≡ drop count (entries a rest ss)
unfolding entries_from
drop-segment a rest count ss all =
    let none : rest - count ≡ 0 = omega arith in
    ap (λ n. entries (a + count) n ss) (sym none) ∙ drop-inside a rest count ss (omega arith)

pub within_place : (a rest count : ℕ) (ss : List Segment) (es : List Entry) → IsPlace a rest ss
    → entries a rest ss ≡ es → count ≤ access_len es → count ≤ rest
within_place a rest count ss es h is within = omega (arith, ap access_len is, access_len-place a rest ss h)

pub fit_after : (ss behind : List Segment) (s : Segment) → ss ≡ s ∷ behind → All Fits ss → All Fits behind
fit_after ss behind s is h = All-tail Fits s behind (subst (λ rs. All Fits rs) is h)

-- where segments begin with one that has a byte, a place is there, and else after it
pub place_first : (ss behind : List Segment) (s : Segment) → ss ≡ s ∷ behind → All Fits ss → 0 < s.len
    → IsPlace s.addr.0 s.len behind
place_first ss behind s is fit some = record {
  ends = All-head Fits s behind (subst (λ rs. All Fits rs) is fit);
  fit = fit_after ss behind s is fit;
  next = λ none. absurd (omega arith);
}

pub text-others : (ss behind : List Segment) (s : Segment) → ss ≡ s ∷ behind → s.len ≡ 0 → text behind ≡ text ss
unfolding entries_from
text-others ss behind s is none = ap (λ n. entries s.addr.0 n behind) (sym none) ∙ ap text (sym is)

-- ---- chains

-- segments that were tested, and how they are divided so far
pub record Divided (before : List Segment) (count readable_len total : ℕ) (writes : Bool) : Type 0 where
  pub fit : All Fits before
  pub within : count ≤ length before
  pub front : take count before ≡ readable before
  pub back : drop count before ≡ writable before
  pub read : readable_len ≡ total_len (readable before)
  pub sum : total ≡ total_len before
  pub seen : writes ≡ list_any (λ (b : Segment). b.writable) before
  pub unseen : writes ≡ false → count ≡ length before

total_len-append : (ss rs : List Segment) → total_len (ss ++ rs) ≡ total_len ss + total_len rs
total_len-append ss rs = sum_by-append (λ (s : Segment). s.len) ss rs

total_len-push : (ss : List Segment) (s : Segment) → total_len (ss ++ s ∷ []) ≡ total_len ss + s.len
total_len-push ss s = total_len-append ss (s ∷ []) ∙ ap (λ n. total_len ss + n) (zero-add s.len)

-- a segment of the other kind is left out
pub readable-writable : (s : Segment) → s.writable ≡ true → readable (s ∷ []) ≡ []
readable-writable s e = ap (λ b. cond (not b) (s ∷ []) []) e

pub readable-readable : (s : Segment) → s.writable ≡ false → readable (s ∷ []) ≡ s ∷ []
readable-readable s e = ap (λ b. cond (not b) (s ∷ []) []) e

pub writable-writable : (s : Segment) → s.writable ≡ true → writable (s ∷ []) ≡ s ∷ []
writable-writable s e = ap (λ b. cond b (s ∷ []) []) e

pub writable-readable : (s : Segment) → s.writable ≡ false → writable (s ∷ []) ≡ []
writable-readable s e = ap (λ b. cond b (s ∷ []) []) e

any-push : (ss : List Segment) (s : Segment) (w : Bool) → s.writable ≡ w
    → list_any (λ (b : Segment). b.writable) (ss ++ s ∷ []) ≡ (list_any (λ (b : Segment). b.writable) ss || (w ||
    false))
any-push ss s w e =
    list_any-append (λ (b : Segment). b.writable) ss (s ∷ [])
    ∙ ap (λ v. list_any (λ (b : Segment). b.writable) ss || (v || false)) e

or-false : (w : Bool) → (w || (false || false)) ≡ w
or-false true = refl
or-false false = refl

or-true : (w : Bool) → (w || (true || false)) ≡ true
or-true true = refl
or-true false = refl

-- no segment was tested
pub divided_none : Divided [] 0 0 0 false
divided_none = record {
  fit = λ k d h. absurd (omega arith);
  within = omega arith;
  front = refl;
  back = refl;
  read = refl;
  sum = refl;
  seen = refl;
  unseen = λ e. refl;
}

-- a writable segment more
pub divided_writable : (before : List Segment) (count readable_len total sum : ℕ) (writes : Bool) (s : Segment)
    → Divided before count readable_len total writes → s.writable ≡ true → Fits s → sum ≡ total + s.len
    → Divided (before ++ s ∷ []) count readable_len sum true
divided_writable before count readable_len total sum writes s h w fits is = record {
  fit = All-push Fits before s h.fit fits;
  within = omega (arith, h.within, length-append before (s ∷ []));
  front = take-append-le count before (s ∷ []) h.within ∙ h.front ∙ sym (append-nil (readable before))
      ∙ ap (λ rs. readable before ++ rs) (sym (readable-writable s w)) ∙ sym (filter-append (λ (r : Segment). not
      r.writable) before (s ∷ []));
  back = drop-append-le count before (s ∷ []) h.within ∙ ap (λ rs. rs ++ s ∷ []) h.back
      ∙ ap (λ rs. writable before ++ rs) (sym (writable-writable s w)) ∙ sym (filter-append (λ (r : Segment).
      r.writable) before (s ∷ []));
  read = h.read ∙ ap total_len (sym (append-nil (readable before))
      ∙ ap (λ rs. readable before ++ rs) (sym (readable-writable s w)) ∙ sym (filter-append (λ (r : Segment). not
      r.writable) before (s ∷ [])));
  sum = is ∙ ap (λ n. n + s.len) h.sum ∙ sym (total_len-push before s);
  seen = sym (any-push before s true w ∙ or-true (list_any (λ (b : Segment). b.writable) before));
  unseen = λ e. absurd (cc);
}

-- a readable one more stands after readable ones alone
pub divided_readable : (before : List Segment) (count readable_len total sum : ℕ) (writes : Bool) (s : Segment)
    → Divided before count readable_len total writes → s.writable ≡ false → writes ≡ false → Fits s
    → sum ≡ total + s.len
    → Divided (before ++ s ∷ []) (count + 1) sum sum writes
divided_readable before count readable_len total sum writes s h w none fits is =
    let all : count ≡ length before = h.unseen none in
    let long : length (before ++ s ∷ []) ≡ length before + 1 = length-append before (s ∷ []) in
    let readables : before ≡ readable before =
    sym (take_all count before (omega arith)) ∙ h.front in
    let more : before ++ s ∷ [] ≡ readable (before ++ s ∷ []) =
    ap (λ rs. rs ++ s ∷ []) readables ∙ ap (λ rs. readable before ++ rs) (sym (readable-readable s w))
    ∙ sym (filter-append (λ (r : Segment). not r.writable) before (s ∷ [])) in
    let whole : sum ≡ total_len (before ++ s ∷ []) = is ∙ ap (λ n. n + s.len) h.sum ∙ sym (total_len-push before s) in
    record {
      fit = All-push Fits before s h.fit fits;
      within = omega arith;
      front = take_all (count + 1) (before ++ s ∷ []) (omega arith) ∙ more;
      back = ap (λ n. drop n (before ++ s ∷ [])) (ap (λ n. n + 1) all ∙ sym long) ∙ drop-length (before ++ s ∷ [])
          ∙ sym (drop-length before) ∙ ap (λ n. drop n before) (sym all) ∙ h.back ∙ sym (append-nil (writable before))
          ∙ ap (λ rs. writable before ++ rs) (sym (writable-readable s w))
          ∙ sym (filter-append (λ (r : Segment). r.writable) before (s ∷ []));
      read = whole ∙ ap total_len more;
      sum = whole;
      seen = h.seen ∙ sym (any-push before s false w ∙ or-false (list_any (λ (b : Segment). b.writable) before));
      unseen = λ e. omega arith;
    }

-- all segments were tested
pub divides_all : (ss : List Segment) (count readable_len total : ℕ) (writes : Bool)
    → Divided ss count readable_len total writes → Divides ss count readable_len (total - readable_len)
divides_all ss count readable_len total writes h =
    let both : total_len (readable ss) + total_len (writable ss) ≡ total_len ss =
    sym (total_len-append (readable ss) (writable ss))
    ∙ ap total_len (ap (λ rs. rs ++ writable ss) (sym h.front) ∙ ap (λ rs. take count ss ++ rs) (sym h.back)
    ∙ take-append-drop count ss) in
    let read = h.read in
    let sum = h.sum in
    record {
      fit = h.fit;
      within = h.within;
      front = h.front;
      back = h.back;
      read = h.read;
      written = omega arith;
    }

-- a readable segment has no fault only where no writable one came before
pub unseen_before : (writes : Bool) (total : ℕ) (s : Segment) → fault_past writes total s ≡ None → s.writable ≡ false
    → writes ≡ false
unseen_before false total s h w = refl
unseen_before true total s h w = go (nat_le (2 ^ 64) (s.addr.0 + s.len)) s.writable (nat_le (2 ^ 32) (total + s.len))
    w h
  where
    go : (far w long : Bool) → w ≡ false
        → cond far (Some Range) (cond (true && not w) (Some Order) (cond long (Some TooLong) None)) ≡ None
        → true ≡ false
    go true w long e h = absurd (cc)
    go false true long e h = e
    go false false long e h = absurd (cc)

-- the fault of segments is that of those after the tested ones
pub fault_next : (ss : List Segment) (i : ℕ) (d : Segment) (count readable_len total : ℕ) (writes : Bool)
    → i < length ss
    → Divided (take i ss) count readable_len total writes
    → fault_after (take i ss) (drop i ss)
    ≡ option_or (fault_past writes total (get_or ss i d)) (fault_after (take (i + 1) ss) (drop (i + 1) ss))
unfolding fault_after
fault_next ss i d count readable_len total writes h before =
    let s = get_or ss i d in
    let one : suc i ≡ i + 1 = omega arith in
    ap (fault_after (take i ss)) (drop-cons ss i d h)
    ∙ ap (λ w. option_or (fault_past w (total_len (take i ss)) s) (fault_after (take i ss ++ s ∷ []) (drop (suc i)
    ss)))
    (sym before.seen)
    ∙ ap (λ n. option_or (fault_past writes n s) (fault_after (take i ss ++ s ∷ []) (drop (suc i) ss))) (sym
    before.sum)
    ∙ ap (λ b. option_or (fault_past writes total s) (fault_after b (drop (suc i) ss))) (sym (take_more ss i d h))
    ∙ ap (λ n. option_or (fault_past writes total s) (fault_after (take (i + 1) ss) (drop n ss))) one

-- a segment that has a fault is the first that has one
pub fault_found : (ss : List Segment) (i : ℕ) (d : Segment) (count readable_len total : ℕ) (writes : Bool) (fault :
    ChainFault)
    → i < length ss → Divided (take i ss) count readable_len total writes
    → chain_fault ss ≡ fault_after (take i ss) (drop i ss)
    → fault_past writes total (get_or ss i d) ≡ Some fault → chain_fault ss ≡ Some fault
fault_found ss i d count readable_len total writes fault h before so_far here =
    so_far ∙ fault_next ss i d count readable_len total writes h before
    ∙ ap (λ f. option_or f (fault_after (take (i + 1) ss) (drop (i + 1) ss))) here

-- one that has none is passed
pub fault_passed : (ss : List Segment) (i : ℕ) (d : Segment) (count readable_len total : ℕ) (writes : Bool)
    → i < length ss → Divided (take i ss) count readable_len total writes
    → chain_fault ss ≡ fault_after (take i ss) (drop i ss) → fault_past writes total (get_or ss i d) ≡ None
    → chain_fault ss ≡ fault_after (take (i + 1) ss) (drop (i + 1) ss)
fault_passed ss i d count readable_len total writes h before so_far here =
    so_far ∙ fault_next ss i d count readable_len total writes h before
    ∙ ap (λ f. option_or f (fault_after (take (i + 1) ss) (drop (i + 1) ss))) here

-- where all are passed there is none
pub no_fault : (ss : List Segment) (i : ℕ) → length ss ≤ i → chain_fault ss ≡ fault_after (take i ss) (drop i ss)
    → chain_fault ss ≡ None
unfolding fault_after
no_fault ss i h so_far = so_far ∙ ap (fault_after (take i ss)) (drop_all i ss h)

-- the segments divided so far are all
pub divided_all : (ss : List Segment) (i count readable_len total : ℕ) (writes : Bool) → length ss ≤ i
    → Divided (take i ss) count readable_len total writes → Divides ss count readable_len (total - readable_len)
divided_all ss i count readable_len total writes h before =
    divides_all ss count readable_len total writes
    (subst (λ b. Divided b count readable_len total writes) (take_all i ss h) before)

-- the division goes on with the next segment
pub divided_next_writable : (ss : List Segment) (i : ℕ) (d : Segment) (count readable_len total sum : ℕ) (writes : Bool)
    → i < length ss → Divided (take i ss) count readable_len total writes → (get_or ss i d).writable ≡ true
    → Fits (get_or ss i d) → sum ≡ total + (get_or ss i d).len
    → Divided (take (i + 1) ss) count readable_len sum true
divided_next_writable ss i d count readable_len total sum writes h before w fits is =
    subst (λ b. Divided b count readable_len sum true) (sym (take_more ss i d h))
    (divided_writable (take i ss) count readable_len total sum writes (get_or ss i d) before w fits is)

pub divided_next_readable : (ss : List Segment) (i : ℕ) (d : Segment) (count readable_len total sum : ℕ) (writes : Bool)
    → i < length ss → Divided (take i ss) count readable_len total writes → (get_or ss i d).writable ≡ false
    → fault_past writes total (get_or ss i d) ≡ None → Fits (get_or ss i d) → sum ≡ total + (get_or ss i d).len
    → Divided (take (i + 1) ss) (count + 1) sum sum writes
divided_next_readable ss i d count readable_len total sum writes h before w none fits is =
    subst (λ b. Divided b (count + 1) sum sum writes) (sym (take_more ss i d h))
    (divided_readable (take i ss) count readable_len total sum writes (get_or ss i d) before w
    (unseen_before writes total (get_or ss i d) none w) fits is)

-- how many bytes the segments of either kind have
pub len_front : (ss : List Segment) (count readable_len writable_len : ℕ) → Divides ss count readable_len writable_len
    → readable_len ≡ length (text (take count ss))
len_front ss count readable_len writable_len h =
    h.read ∙ sym (length-text (readable ss)) ∙ ap (λ rs. length (text rs)) (sym h.front)

pub len_after : (ss : List Segment) (count readable_len writable_len : ℕ) → Divides ss count readable_len writable_len
    → writable_len ≡ length (text (take (length ss - count) (drop count ss)))
len_after ss count readable_len writable_len h =
    h.written ∙ sym (length-text (writable ss))
    ∙ ap (λ rs. length (text rs)) (sym h.back ∙ sym (take_all (length ss - count) (drop count ss) (omega (
      arith,
      length-drop count ss,
    ))))
