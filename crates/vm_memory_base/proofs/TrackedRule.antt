-- Each step on a word keeps the rule of a tracked bitmap.
use Rattle.std.proofs.Common.{◌≡◌, ◌≢◌, ◌⊎◌, ℕ, zero, suc, ◌+◌, ◌*◌, ◌/◌, ◌%◌, ◌^◌, ◌<◌, ◌≤◌, List, [], ◌∷◌, length, set, refl, sym, ap, ◌∙◌, subst, inl, inr, ⊎_elim, arith, bit_or, eq-eqb, ne_eqb, get_or-set_same, get_or-set_other}
use Rattle.std.specs.Prelude.{slice_index, max}
use Rattle.std.specs.Int.{bit_at}
use Rattle.std.proofs.lemmas.Nat.{or_shr, or_mod}
use Rattle.std.specs.Int.Bits.{or_zero_r}
use Rattle.std.proofs.lemmas.Bool.Decides.{nat_tests}
use Rattle.std.proofs.lemmas.Nat.Bits.{bit_at_or, bit_at-zero, bit_at-lt, bit_at-pow_other}
use Rattle.std.proofs.lemmas.List.{length-set, set-get_or, get_or_past}
use mathlib.Core.Option.{some, none, some-injective, some-ne-none}
use mathlib.Core.Logic.{dite}
use native.Mathlib.Decide.{ℕ_discrete}
use Rattle.std.proofs.Math.Decide.{dec_lt}
use lib.ListN.{get_elem?}
use Rattle.atomic_table.specs.Table.{step, keeps, Allows}
use Rattle.atomic_table.proofs.Lists.{at_set, set_else, set_again}
use Rattle.vm_memory_base.proofs.MarkerCounts.{put_counted}
use Rattle.vm_memory_base.specs.Notes.{Note, note, IsNoted, rounds_of, greatest_of}
use Rattle.vm_memory_base.specs.declared.bitmap.tracked.view.View.{View}
use Rattle.vm_memory_base.specs.Tracked.{set_pages, round_of, rounds_before, seen_of, words_for, IsWordBelow, AreWordsBelow, IsPage, IsMarked, IsTrue, HasHarvests, IsRuled, AreCounted, KeepsRule, after_mark, after_look, after_harvest, Marks, Looks, Harvests, Counts}

-- ---- lists

pub set_at : {A : Type 0} (l : List A) (i : ℕ) (a b : A) → get_elem? l i ≡ some a → get_elem? (set l i b) i ≡ some b
set_at [] i a b e = absurd (some-ne-none a (sym e))
set_at (x ∷ xs) zero a b e = refl
set_at (x ∷ xs) (suc i) a b e = set_at xs i a b e

-- what is so of the new word, and of each other as it was
of_words : (words : List ℕ) (i n : ℕ) (P : ℕ → ℕ → Type 0) → i < length words → P i n
    → ((w : ℕ) → w ≢ i → P w (slice_index words w)) → (w : ℕ) → P w (slice_index (set words i n) w)
of_words words i n P fits here there w =
    dite (ℕ_discrete w i)
    (λ (e : w ≡ i). subst (λ k. P k (slice_index (set words i n) k)) (sym e)
    (subst (P i) (sym (get_or-set_same words i n 0 fits)) here))
    (λ (ne : w ≢ i). subst (P w) (sym (get_or-set_other words i w n 0 ne)) (there w ne))

-- what is so of the new view, and of each other as it was
of_views : (views : List View) (id : ℕ) (v : View) (P : ℕ → View → Type 0)
    → P id v → ((j : ℕ) (u : View) → j ≢ id → get_elem? views j ≡ some u → P j u)
    → (j : ℕ) (u : View) → get_elem? (set views id v) j ≡ some u → P j u
of_views views id v P here there j u e =
    ⊎_elim
    (λ (x : (j ≡ id) × (v ≡ u)). subst (λ (y : ℕ × View). P y.0 y.1) (λ i. (sym x.0 i, x.1 i)) here)
    (λ (x : (j ≢ id) × (get_elem? views j ≡ some u)). there j u x.0 x.1)
    (at_set views id j v u e)

-- ---- words

pub one_page : (count page m : ℕ) → page < count → m ≡ 2 ^ (page % 32) → IsWordBelow count (page / 32) m
one_page count page m inside is p b =
    dite (ℕ_discrete p (page % 32))
    (λ (e : p ≡ page % 32). omega (arith, inside, e))
    (λ ne. let none_set = ap (λ n. bit_at n p) is ∙ bit_at-pow_other (page % 32) p ne in absurd (omega arith))

-- a word past the last is read as 0
pub all_below : (count : ℕ) (pages : List ℕ)
    → ((k : ℕ) → k < length pages → IsWordBelow count k (slice_index pages k)) → AreWordsBelow count pages
all_below count pages below w p b =
    dite (dec_lt w (length pages)) (λ (h : w < length pages). below w h p b)
    (λ out.
    let none_set = ap (λ n. bit_at n p) (get_or_past pages w 0 (omega arith)) ∙ bit_at-zero p in absurd (omega arith))

-- what is so of the words below one, and of what is put there, is so of one word more
pub put_more : (P : ℕ → ℕ → Type 0) (pages : List ℕ) (i x : ℕ) → i < length pages → P i x
    → ((k : ℕ) → k < i → P k (slice_index pages k)) → (k : ℕ) → k < i + 1 → P k (slice_index (set pages i x) k)
put_more P pages i x fits here below k =
    of_words pages i x (λ k n. k < i + 1 → P k n) fits (λ _. here) (λ k ne h. below k (omega (arith, h, ne))) k

-- ---- notes

more_seen : (w i r : ℕ) (notes : List Note) (limit : ℕ) → greatest_of w notes ≤ limit → (w ≡ i → r ≤ limit)
    → greatest_of w (note i r 0 ∷ notes) ≤ limit
more_seen w i r notes limit old new =
    dite (ℕ_discrete i w)
    (λ (e : i ≡ w). let h = new (sym e) in grind (arith, nat_tests))
    (λ (ne : i ≢ w). grind (arith, nat_tests))

abbrev pub IsAmong : ℕ → List ℕ → Type 0
IsAmong r [] = ⊥
IsAmong r (x ∷ xs) = (x ≡ r) ⊎ IsAmong r xs

among_before : (r n : ℕ) → IsAmong r (rounds_before n) → r < n
among_before r zero h = absurd h
among_before r (suc n) (inl e) = omega arith
among_before r (suc n) (inr h) = let k = among_before r n h in omega arith

noted_among : (w r p : ℕ) (notes : List Note) → IsNoted w r p notes → IsAmong r (rounds_of w notes)
noted_among w r p [] h = absurd h
noted_among w r p (n ∷ notes) (inl (e, f, b)) = rw (eq-eqb n.word w e) (inl f)
noted_among w r p (n ∷ notes) (inr h) =
    dite (ℕ_discrete n.word w) (λ e. rw (eq-eqb n.word w e) (inr (noted_among w r p notes h)))
    (λ ne. rw (ne_eqb n.word w ne) (noted_among w r p notes h))

-- a word whose rounds before this one were harvested has no harvest in this one
not_yet : (w r p : ℕ) (notes : List Note) → rounds_of w notes ≡ rounds_before r → IsNoted w r p notes → ⊥
not_yet w r p notes e h =
    let k = among_before r r (subst (IsAmong r) e (noted_among w r p notes h)) in omega arith

length-before : (n : ℕ) → length (rounds_before n) ≡ n
length-before zero = refl
length-before (suc n) = ap suc (length-before n)

-- ---- a view in the place of another

module _ (count : ℕ) (words : List ℕ) (views : List View) (kept : IsRuled count words views)
    (id : ℕ) (v : View) (at : get_elem? views id ≡ some v) where
  pub still_marked : (u : View) (w r p : ℕ) → (IsNoted w r p v.marks → IsNoted w r p u.marks)
      → IsMarked views w r p → IsMarked (set views id u) w r p
  still_marked u w r p more (j, x, e, noted) =
      dite (ℕ_discrete j id)
      (λ (is : j ≡ id).
      let was : x ≡ v = some-injective x v (sym e ∙ ap (get_elem? views) is ∙ at) in
      (id, u, set_at views id v u at, more (subst (λ (y : View). IsNoted w r p y.marks) was noted)))
      (λ (ne : j ≢ id). (j, x, set_else views id j u ne ∙ e, noted))

  module _ (u : View) (same : u.harvests ≡ v.harvests) (same_count : id ≡ 0 → u.count ≡ v.count) where
    still_first : HasHarvests count (set views id u) kept.harvests
    still_first =
        dite (ℕ_discrete id 0)
        (λ (e : id ≡ 0).
        let was : v ≡ kept.first.0 = some-injective v kept.first.0 (sym at ∙ ap (get_elem? views) e ∙ kept.first.1) in (
          u,
          subst (λ k. get_elem? (set views id u) k ≡ some u) e (set_at views id v u at),
          same ∙ ap (λ (x : View). x.harvests) was ∙ kept.first.2,
          same_count e ∙ ap (λ (x : View). x.count) was ∙ kept.first.3,
        ))
        (λ (ne : id ≢ 0).
        (kept.first.0, set_else views id 0 u (λ e. ne (sym e)) ∙ kept.first.1, kept.first.2, kept.first.3))

    still_alone : (j : ℕ) (x : View) → get_elem? (set views id u) j ≡ some x → j ≢ 0 → x.harvests ≡ []
    still_alone =
        of_views views id u (λ j x. j ≢ 0 → x.harvests ≡ []) (λ ne. same ∙ kept.alone id v at ne)
        (λ j x _ e. kept.alone j x e)

    pub replaced_keeps : IsTrue words kept.harvests u
        → ((w r p : ℕ) → IsMarked views w r p → IsMarked (set views id u) w r p) → IsRuled count words (set views id u)
    replaced_keeps says more = record {
      words_are = kept.words_are;
      harvests = kept.harvests;
      first = still_first;
      alone = still_alone;
      rounds = kept.rounds;
      true_of = of_views views id u (λ j x. IsTrue words kept.harvests x) says (λ j x _ e. kept.true_of j x e);
      marked = λ w r p h. more w r p (kept.marked w r p h);
      below = kept.below;
    }

  -- ---- steps that leave the harvests as they are: the word i becomes n

  module _ (i n : ℕ) (fits : i < words_for count) (round_is : round_of n ≡ round_of (slice_index words i))
      (grows : (p : ℕ) → bit_at (set_pages (slice_index words i)) p ≡ 1 → bit_at (set_pages n) p ≡ 1)
      (below : IsWordBelow count i (set_pages n)) where
    abbrev pub found : ℕ
    found = slice_index words i

    abbrev pub stepped : List ℕ
    stepped = set words i n

    inside : i < length words
    inside = subst (λ (k : ℕ). i < k) (sym kept.words_are) fits

    same_rounds : (w : ℕ) → round_of (slice_index stepped w) ≡ round_of (slice_index words w)
    same_rounds =
        of_words words i n (λ w x. round_of x ≡ round_of (slice_index words w)) inside round_is (λ w _. refl)

    more_pages : (w r p : ℕ) → IsPage words kept.harvests w r p → IsPage stepped kept.harvests w r p
    more_pages w r p (inr noted) = inr noted
    more_pages w r p (inl (e, b)) =
        inl (
          e ∙ sym (same_rounds w),
          of_words words i n (λ k x. bit_at (set_pages (slice_index words k)) p ≡ 1 → bit_at (set_pages x) p ≡ 1) inside
              (grows p) (λ k _ h. h) w b,
        )

    still_true : (x : View) → IsTrue words kept.harvests x → IsTrue stepped kept.harvests x
    still_true x is = record {
      marks = λ w r p h. more_pages w r p (is.marks w r p h);
      sightings = λ w r p h. more_pages w r p (is.sightings w r p h);
      rounds = λ w. subst (λ k. seen_of w x ≤ k) (sym (same_rounds w)) (is.rounds w);
    }

    -- a note of pages that are then set tells the truth, and so does one of the round
    noted_true : (q : ℕ) → ((p : ℕ) → bit_at q p ≡ 1 → bit_at (set_pages n) p ≡ 1) → (w r p : ℕ)
        → (i ≡ w) × (round_of found ≡ r) × (bit_at q p ≡ 1) → IsPage stepped kept.harvests w r p
    noted_true q among w r p (e, f, b) =
        let is = get_or-set_same words i n 0 inside in
        subst (λ (y : ℕ × ℕ). IsPage stepped kept.harvests y.0 y.1 p) (λ j. (e j, f j))
        (inl (sym round_is ∙ ap round_of (sym is), ap (λ x. bit_at (set_pages x) p) is ∙ among p b))

    seen_true : (w : ℕ) → greatest_of w (note i (round_of found) 0 ∷ v.rounds) ≤ round_of (slice_index stepped w)
    seen_true w =
        more_seen w i (round_of found) v.rounds (round_of (slice_index stepped w))
        ((still_true v (kept.true_of id v at)).rounds w)
        (λ e.
        let k : round_of (slice_index stepped w) ≡ round_of found =
        same_rounds w ∙ ap (λ j. round_of (slice_index words j)) e in omega arith)

    -- a page of the new word is one of the old word, or in the new view's marks
    module _ (u : View) (same : u.harvests ≡ v.harvests) (same_count : id ≡ 0 → u.count ≡ v.count)
        (says : IsTrue stepped kept.harvests u)
        (more : (w r p : ℕ) → IsNoted w r p v.marks → IsNoted w r p u.marks)
        (new : (p : ℕ) → bit_at (set_pages n) p ≡ 1
        → (bit_at (set_pages found) p ≡ 1) ⊎ IsNoted i (round_of found) p u.marks) where
      all_marked : (w r p : ℕ) → IsPage stepped kept.harvests w r p → IsMarked (set views id u) w r p
      all_marked w r p (inr noted) = still_marked u w r p (more w r p) (kept.marked w r p (inr noted))
      all_marked w r p (inl (e, b)) =
          of_words words i n
          (λ k x. bit_at (set_pages x) p ≡ 1 → r ≡ round_of (slice_index words k) → IsMarked (set views id u) k r p)
          inside
          (λ h f.
          ⊎_elim (λ o. still_marked u i r p (more i r p) (kept.marked i r p (inl (f, o))))
          (λ o. (id, u, set_at views id v u at, subst (λ k. IsNoted i k p u.marks) (sym f) o)) (new p h))
          (λ k _ h f. still_marked u k r p (more k r p) (kept.marked k r p (inl (f, h))))
          w b (e ∙ same_rounds w)

      stepped_keeps : IsRuled count stepped (set views id u)
      stepped_keeps = record {
        words_are = length-set words i n ∙ kept.words_are;
        harvests = kept.harvests;
        first = still_first u same same_count;
        alone = still_alone u same same_count;
        rounds = λ w. kept.rounds w ∙ ap rounds_before (sym (same_rounds w));
        true_of = of_views views id u (λ j x. IsTrue stepped kept.harvests x) says
            (λ j x _ e. still_true x (kept.true_of j x e));
        marked = all_marked;
        below = of_words words i n (λ w x. IsWordBelow count w (set_pages x)) inside below (λ w _. kept.below w);
      }

  -- ---- a mark, and a look

  module _ (i : ℕ) (fits : i < words_for count) where
    abbrev pub here : ℕ
    here = slice_index words i

    pub marked_keeps : (m : ℕ) → m < 2 ^ 32 → IsWordBelow count i m
        → IsRuled count (set words i (bit_or here m)) (set views id (after_mark i (round_of here) m v))
    marked_keeps m small m_below =
        let n : ℕ = bit_or here m in
        let round_is : round_of n ≡ round_of here =
        let none_of : m / 2 ^ 32 ≡ 0 = omega arith in
        or_shr here m 32 ∙ ap (bit_or (here / 2 ^ 32)) none_of ∙ or_zero_r (here / 2 ^ 32) in
        let pages : set_pages n ≡ bit_or (set_pages here) m =
        let same : m % 2 ^ 32 ≡ m = omega arith in or_mod here m 32 ∙ ap (bit_or (here % 2 ^ 32)) same in
        let bits : (p : ℕ) → bit_at (set_pages n) p ≡ max (bit_at (set_pages here) p) (bit_at m p) =
        λ p. ap (λ x. bit_at x p) pages ∙ bit_at_or (set_pages here) m p in
        let grows : (p : ℕ) → bit_at (set_pages here) p ≡ 1 → bit_at (set_pages n) p ≡ 1 =
        λ p h. omega (arith, h, bits p, bit_at-lt m p) in
        let adds : (p : ℕ) → bit_at m p ≡ 1 → bit_at (set_pages n) p ≡ 1 =
        λ p h. omega (arith, h, bits p, bit_at-lt (set_pages here) p) in
        let either : (p : ℕ) → bit_at (set_pages n) p ≡ 1
        → (bit_at (set_pages here) p ≡ 1) ⊎ (bit_at m p ≡ 1) =
        λ p h.
        dite (ℕ_discrete (bit_at (set_pages here) p) 1) (λ k. inl k)
        (λ ne. inr (omega (arith, h, ne, bits p, bit_at-lt m p, bit_at-lt (set_pages here) p))) in
        let below : IsWordBelow count i (set_pages n) =
        λ p h. ⊎_elim (λ k. kept.below i p k) (λ k. m_below p k) (either p h) in
        let was = still_true i n fits round_is grows below v (kept.true_of id v at) in
        stepped_keeps i n fits round_is grows below (after_mark i (round_of here) m v) refl (λ _. refl)
        (record {
          marks = λ w r p h.
              ⊎_elim (λ k. noted_true i n fits round_is grows below m adds w r p k) (λ k. was.marks w r p k) h;
          sightings = was.sightings;
          rounds = seen_true i n fits round_is grows below;
        })
        (λ w r p k. inr k) (λ p h. ⊎_elim (λ k. inl k) (λ k. inr (inl (refl, refl, k))) (either p h))

    pub looked_keeps : IsRuled count (set words i here) (set views id (after_look i here v))
    looked_keeps =
        let was = still_true i here fits refl (λ p h. h) (kept.below i) v (kept.true_of id v at) in
        stepped_keeps i here fits refl (λ p h. h) (kept.below i) (after_look i here v) refl (λ _. refl)
        (record {
          marks = was.marks;
          sightings = λ w r p h.
              ⊎_elim (λ k. noted_true i here fits refl (λ p h. h) (kept.below i) (set_pages here) (λ p h. h) w r p k)
              (λ k. was.sightings w r p k) h;
          rounds = seen_true i here fits refl (λ p h. h) (kept.below i);
        })
        (λ w r p k. k) (λ p h. inl h)

    -- no harvest of the open round is there yet
    pub set_now : (p : ℕ) → IsPage words kept.harvests i (round_of here) p → bit_at (set_pages here) p ≡ 1
    set_now p (inl h) = h.1
    set_now p (inr h) = absurd (not_yet i (round_of here) p kept.harvests (kept.rounds i) h)

module _ (count slots id i : ℕ) (fits : i < words_for count) (v : View) (c : List (ℕ × Unit {0})) where
  pub marks_allowed : (m : ℕ) → m < 2 ^ 32 → IsWordBelow count i m → 0 < v.markers
      → Allows (KeepsRule count) slots id (v, c) i (λ n. bit_or n m) (Marks (step slots i m 0 none) (v, c))
  marks_allowed m small m_below counts s kept homes at word_fits =
      let marked = after_mark i (round_of (slice_index s.words i)) m v in (
        marked,
        keeps,
        tt,
        (
          marked_keeps count s.words s.views kept.0 id v at i fits m small m_below,
          put_counted s.views id v marked at (λ _. refl) (λ idle none_there. absurd (omega (arith, counts, none_there)))
              refl kept.1,
        ),
        ((kept.0.true_of id v at).rounds i, refl),
      )

  pub looks_allowed : Allows (KeepsRule count) slots id (v, c) i (λ n. n) (Looks (step slots i 0 0 none) (v, c))
  looks_allowed s kept homes at word_fits =
      let own = kept.0.true_of id v at in
      let round = round_of (slice_index s.words i) in
      let seen = after_look i (slice_index s.words i) v in (
        seen,
        keeps,
        tt,
        (
          looked_keeps count s.words s.views kept.0 id v at i fits,
          put_counted s.views id v seen at (λ _. refl) (λ idle. idle) refl kept.1,
        ),
        (
          own.rounds i,
          (λ p h.
              set_now count s.words s.views kept.0 id v at i fits p
              (⊎_elim (λ k. own.marks i round p k) (λ k. own.sightings i round p k) h)),
          refl,
        ),
      )

-- ---- the first seat

module _ (count : ℕ) (words : List ℕ) (views : List View) (kept : IsRuled count words views)
    (v : View) (at : get_elem? views 0 ≡ some v) where
  is_first : v ≡ kept.first.0
  is_first = some-injective v kept.first.0 (sym at ∙ kept.first.1)

  pub own_harvests : v.harvests ≡ kept.harvests
  own_harvests = ap (λ (x : View). x.harvests) is_first ∙ kept.first.2

  pub own_count : v.count ≡ count
  own_count = ap (λ (x : View). x.count) is_first ∙ kept.first.3

  pub rounds_told : (w : ℕ) → length (rounds_of w v.harvests) ≡ round_of (slice_index words w)
  rounds_told w =
      ap (λ l. length (rounds_of w l)) own_harvests ∙ ap length (kept.rounds w)
      ∙ length-before (round_of (slice_index words w))

  -- ---- a harvest: the word i becomes m

  module _ (i : ℕ) (fits : i < words_for count) (m : ℕ)
      (m_is : m ≡ (length (rounds_of i v.harvests) + 1) * 2 ^ 32) where
    abbrev pub word : ℕ
    word = slice_index words i

    abbrev pub taken : List Note
    taken = note i (round_of word) (set_pages word) ∷ kept.harvests

    abbrev pub later : View
    later = after_harvest i (round_of word) (set_pages word) v

    there : i < length words
    there = subst (λ (k : ℕ). i < k) (sym kept.words_are) fits

    next : round_of m ≡ round_of word + 1
    next = let told = rounds_told i in omega (arith, m_is, told)

    not_set : (p : ℕ) → bit_at (set_pages m) p ≡ 1 → ⊥
    not_set p h =
        let none_set : set_pages m ≡ 0 = omega (arith, m_is) in
        let e = ap (λ x. bit_at x p) none_set ∙ bit_at-zero p in omega arith

    into_taken : (w r p : ℕ) → IsPage words kept.harvests w r p → IsPage (set words i m) taken w r p
    into_taken w r p (inr noted) = inr (inr noted)
    into_taken w r p (inl h) =
        of_words words i m
        (λ k x. (r ≡ round_of (slice_index words k)) × (bit_at (set_pages (slice_index words k)) p ≡ 1)
        → ((r ≡ round_of x) × (bit_at (set_pages x) p ≡ 1)) ⊎ IsNoted k r p taken)
        there (λ g. inr (inl (refl, sym g.0, g.1))) (λ k _ g. inl g) w h

    from_taken : (w r p : ℕ) → IsPage (set words i m) taken w r p → IsPage words kept.harvests w r p
    from_taken w r p (inr (inl (e, f, b))) =
        subst (λ (y : ℕ × ℕ). IsPage words kept.harvests y.0 y.1 p) (λ j. (e j, f j)) (inl (refl, b))
    from_taken w r p (inr (inr noted)) = inr noted
    from_taken w r p (inl h) =
        of_words words i m
        (λ k x. (r ≡ round_of x) × (bit_at (set_pages x) p ≡ 1) → IsPage words kept.harvests k r p)
        there (λ g. absurd (not_set p g.1)) (λ k _ g. inl g) w h

    rounds_now : (w : ℕ) → rounds_of w taken ≡ rounds_before (round_of (slice_index (set words i m) w))
    rounds_now =
        of_words words i m (λ k x. rounds_of k taken ≡ rounds_before (round_of x)) there
        (let e : suc (round_of word) ≡ round_of m = omega (arith, next) in
        rw (eq-eqb i i refl) (ap (λ l. round_of word ∷ l) (kept.rounds i) ∙ ap rounds_before e))
        (λ k ne. rw (ne_eqb i k (λ e. ne (sym e))) (kept.rounds k))

    true_after : (x : View) → IsTrue words kept.harvests x → IsTrue (set words i m) taken x
    true_after x is = record {
      marks = λ w r p h. into_taken w r p (is.marks w r p h);
      sightings = λ w r p h. into_taken w r p (is.sightings w r p h);
      rounds = λ w.
          let a = is.rounds w in
          let b : round_of (slice_index words w) ≤ round_of (slice_index (set words i m) w) =
          of_words words i m (λ k x. round_of (slice_index words k) ≤ round_of x) there (omega (arith, next))
          (λ k _. omega arith) w in omega arith;
    }

    says_later : IsTrue (set words i m) taken later
    says_later =
        let was = true_after v (kept.true_of 0 v at) in record {
          marks = was.marks;
          sightings = was.sightings;
          rounds = λ w.
              more_seen w i (round_of word + 1) v.rounds (round_of (slice_index (set words i m) w)) (was.rounds w)
              (λ e.
              let k : round_of (slice_index (set words i m) w) ≡ round_of m =
              ap (λ j. round_of (slice_index (set words i m) j)) e ∙ ap round_of (get_or-set_same words i m 0 there) in
              omega (arith, next));
        }

    pub harvested_keeps : IsRuled count (set words i m) (set views 0 later)
    harvested_keeps = record {
      words_are = length-set words i m ∙ kept.words_are;
      harvests = taken;
      first = (
        later,
        set_at views 0 v later at,
        ap (λ (l : List Note). note i (round_of word) (set_pages word) ∷ l) own_harvests,
        own_count,
      );
      alone = of_views views 0 later (λ j x. j ≢ 0 → x.harvests ≡ []) (λ ne. absurd (ne refl))
          (λ j x _ e. kept.alone j x e);
      rounds = rounds_now;
      true_of = of_views views 0 later (λ j x. IsTrue (set words i m) taken x) says_later
          (λ j x _ e. true_after x (kept.true_of j x e));
      marked = λ w r p h.
          still_marked count words views kept 0 v at later w r p (λ k. k) (kept.marked w r p (from_taken w r p h));
      below = of_words words i m (λ w x. IsWordBelow count w (set_pages x)) there (λ p h. absurd (not_set p h))
          (λ w _. kept.below w);
    }

harvests_first : (count slots i : ℕ) → i < words_for count → (v : View) (c : List (ℕ × Unit {0})) (m : ℕ)
    → m ≡ (length (rounds_of i v.harvests) + 1) * 2 ^ 32
    → Allows (KeepsRule count) slots 0 (v, c) i (λ _. m) (Harvests (step slots i m 0 none) (v, c))
harvests_first count slots i fits v c m m_is s kept homes at word_fits =
    let n : ℕ = slice_index s.words i in
    let taken = after_harvest i (round_of n) (set_pages n) v in (
      taken,
      keeps,
      tt,
      (
        harvested_keeps count s.words s.views kept.0 v at i fits m m_is,
        put_counted s.views 0 v taken at (λ _. refl) (λ idle. idle) refl kept.1,
      ),
      (
        rounds_told count s.words s.views kept.0 v at i,
        subst (λ k. IsWordBelow k i (set_pages n)) (sym (own_count count s.words s.views kept.0 v at))
            (kept.0.below i),
        refl,
      ),
    )

pub harvests_allowed : (count slots id i : ℕ) → id ≡ 0 → i < words_for count → (v : View) (c : List (ℕ × Unit {0}))
    (m : ℕ) → m ≡ (length (rounds_of i v.harvests) + 1) * 2 ^ 32
    → Allows (KeepsRule count) slots id (v, c) i (λ _. m) (Harvests (step slots i m 0 none) (v, c))
harvests_allowed count slots id i first fits v c m m_is =
    subst (λ k. Allows (KeepsRule count) slots k (v, c) i (λ _. m) (Harvests (step slots i m 0 none) (v, c)))
    (sym first)
    (harvests_first count slots i fits v c m m_is)

-- ---- a load that counts

counts_first : (count slots i : ℕ) (v : View) (c : List (ℕ × Unit {0}))
    → Allows (KeepsRule count) slots 0 (v, c) i (λ n. n) (Counts (step slots i 0 0 none) (v, c))
counts_first count slots i v c s kept homes at word_fits =
    let words = set-get_or s.words i 0 in
    let views = set_again s.views 0 v at in (
      v,
      keeps,
      tt,
      subst (λ (y : List ℕ × List View). IsRuled count y.0 y.1 × AreCounted y.1) (λ j. (sym words j, sym views j)) kept,
      (
        (λ w.
            subst (λ k. seen_of w v ≤ k) (sym (rounds_told count s.words s.views kept.0 v at w))
            ((kept.0.true_of 0 v at).rounds w)),
        refl,
      ),
    )

pub counts_allowed : (count slots id i : ℕ) → id ≡ 0 → (v : View) (c : List (ℕ × Unit {0}))
    → Allows (KeepsRule count) slots id (v, c) i (λ n. n) (Counts (step slots i 0 0 none) (v, c))
counts_allowed count slots id i first v c =
    subst (λ k. Allows (KeepsRule count) slots k (v, c) i (λ n. n) (Counts (step slots i 0 0 none) (v, c))) (sym first)
    (counts_first count slots i v c)
