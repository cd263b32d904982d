-- What messages leave of an image.
use Rattle.std.proofs.Common.{◌≡◌, ℕ, zero, suc, ◌+◌, ◌-◌, ◌*◌, ◌/◌, ◌<◌, ◌≤◌, ◌==◌, ◌&&◌, Bool, true, false, cond, ltb, leb, eqb, List, [], ◌∷◌, ◌++◌, drop, length, get_or, min, replicate, refl, sym, ap, subst, ◌∙◌, inl, inr, arith, eq-eqb, length-drop, zero-add, le_refl, add-mul, ◌||◌}
use Rattle.std.proofs.lemmas.Bool.{cases_lt, cases_eq, cases_Bool, leb-false, or_parts, true≢false, cond-true, cond-false, lt-ltb, le-ltb, le-leb, lt-leb, ltb-false, eqb-true, eqb-false, ne_eqb, and_from, and_cases, and_left, and_right}
use Rattle.std.proofs.lemmas.Grind.{div_ceil_times}
use Rattle.std.proofs.lemmas.List.{length-map, length-take, length-replicate, get_or-map, get_or-take, get_or-drop, get_or-replicate}
use Rattle.std.proofs.lemmas.List.FromFn.{length-range_with_len, get_or-range_with_len}
use Rattle.std.proofs.lemmas.List.Folds.{list_all_at}
use Rattle.std.proofs.lemmas.Nat.{div_below, le-div, mul-le}
use Rattle.std.specs.Int.{div_ceil}
use Rattle.std.specs.List.{list_all, list_any, flat_map, range_with_len}
use Rattle.vm_memory_base.specs.Address.{is_within, numbers}
use Rattle.live_migration.specs.Frame.{Message, Pages, ZeroPage, RoundEnd, Section, Done, Go}
use Rattle.live_migration.specs.Image.{page_bytes, placed, received, arrived, carries, copied}

numbers-is_range : (a n : ℕ) → numbers a n ≡ range_with_len a n
numbers-is_range a zero = refl
numbers-is_range a (suc n) = ap (λ (xs : List ℕ). a ∷ xs) (numbers-is_range (a + 1) n)

pub length-numbers : (a n : ℕ) → length (numbers a n) ≡ n
length-numbers a n = rw (numbers-is_range a n) (length-range_with_len a n)

pub get_or-numbers : (a n i d : ℕ) → i < n → get_or (numbers a n) i d ≡ a + i
get_or-numbers a n i d l = rw (numbers-is_range a n) (get_or-range_with_len a n i d l)

-- ---- placed bytes

pub length-placed : (at : ℕ) (bytes image : List ℕ) → length (placed at bytes image) ≡ length image
unfolding placed
length-placed at bytes image = simp (length-map, length-numbers)

pub get_or-placed : (at : ℕ) (bytes image : List ℕ) (k : ℕ) → k < length image
    → get_or (placed at bytes image) k 0
    ≡ cond (is_within at (length bytes) k) (get_or bytes (k - at) 0) (get_or image k 0)
unfolding placed
get_or-placed at bytes image k l =
    let byte : ℕ → ℕ = λ x. cond (is_within at (length bytes) x) (get_or bytes (x - at) 0) (get_or image x 0) in
    let count : length (numbers 0 (length image)) ≡ length image = length-numbers 0 (length image) in
    get_or-map byte (numbers 0 (length image)) k 0 0 (omega (arith, count))
    ∙ ap byte (get_or-numbers 0 (length image) k 0 l ∙ zero-add k)

pub is_inside : (at len k : ℕ) → at ≤ k → k < at + len → is_within at len k ≡ true
is_inside at len k low high = and_from _ _ (le-leb _ _ low) (lt-ltb _ _ high)

pub is_before : (at len k : ℕ) → k < at → is_within at len k ≡ false
is_before at len k low = and_left _ _ (lt-leb _ _ low)

pub is_after : (at len k : ℕ) → at + len ≤ k → is_within at len k ≡ false
is_after at len k high = and_right _ _ (le-ltb _ _ high)

length-zeros : (n : ℕ) → length (replicate {A = ℕ} n 0) ≡ n
length-zeros n = length-replicate n 0

-- ---- messages

module _ (size block : ℕ) where
  pub length-received : (m : Message) (image : List ℕ) → length (received size block m image) ≡ length image
  length-received (Pages b first bytes) image =
      elim (cases_Bool (eqb b block)) [
        | inl e ↦ ap length (cond-true _ _ _ e) ∙ length-placed (first * size) bytes image
        | inr e ↦ ap length (cond-false _ _ _ e)
      ]
  length-received (ZeroPage b page) image =
      elim (cases_Bool (eqb b block)) [
        | inl e ↦ ap length (cond-true _ _ _ e) ∙ length-placed (page * size) (replicate size 0) image
        | inr e ↦ ap length (cond-false _ _ _ e)
      ]
  length-received (RoundEnd round digest) image = refl
  length-received (Section name bytes) image = refl
  length-received Done image = refl
  length-received Go image = refl

  pub length-arrived : (ms : List Message) (image : List ℕ) → length (arrived size block ms image) ≡ length image
  unfolding arrived
  length-arrived [] image = refl
  length-arrived (m ∷ ms) image = length-arrived ms (received size block m image) ∙ length-received m image

  pub arrived-append : (ms ns : List Message) (image : List ℕ)
      → arrived size block (ms ++ ns) image ≡ arrived size block ns (arrived size block ms image)
  unfolding arrived
  arrived-append [] ns image = refl
  arrived-append (m ∷ ms) ns image = arrived-append ms ns (received size block m image)

rest_false : (b c : Bool) → b ≡ true → (b && c) ≡ false → c ≡ false
rest_false true c e h = h
rest_false false c e h = absurd cc

-- ---- a page that no message carries stays

module _ (size block page k : ℕ) (some : 0 < size) (here : k / size ≡ page) where
  low : page * size ≤ k
  low = subst (λ (p : ℕ). p * size ≤ k) here (omega arith)

  high : k < page * size + size
  high = subst (λ (p : ℕ). k < p * size + size) here (omega arith)

  stays_placed : (first : ℕ) (bytes image : List ℕ) → k < length image
      → (leb first page && ltb page (first + div_ceil (length bytes) size)) ≡ false
      → get_or (placed (first * size) bytes image) k 0 ≡ get_or image k 0
  stays_placed first bytes image l out =
      get_or-placed (first * size) bytes image k l
      ∙ cond-false _ _ _ (elim (and_cases _ _ out) [
        | inl before ↦ is_before (first * size) (length bytes) k (early (leb-false first page before))
        | inr behind ↦ is_after (first * size) (length bytes) k (late (ltb-false _ _ behind))
      ])
    where
      early : page < first → k < first * size
      early less = elim (cases_lt k (first * size)) [
        | inl below ↦ below
        | inr above ↦ absurd (omega (arith, le-div first k size some above, here))
      ]

      late : first + div_ceil (length bytes) size ≤ page → first * size + length bytes ≤ k
      late more =
          let whole = div_ceil (length bytes) size in
          let times : length bytes ≤ whole * size = (div_ceil_times (length bytes) size some).0 in
          let below : (first + whole) * size ≤ page * size =
          mul-le (first + whole) size page size more (le_refl size) in
          let split : (first + whole) * size ≡ first * size + whole * size = add-mul first whole size in
          let start : page * size ≤ k = low in
          omega arith

  stays_zero : (p : ℕ) (image : List ℕ) → k < length image → eqb p page ≡ false
      → get_or (placed (p * size) (replicate size 0) image) k 0 ≡ get_or image k 0
  stays_zero p image l other =
      get_or-placed (p * size) (replicate size 0) image k l ∙ cond-false _ _ _ out
    where
      out : is_within (p * size) (length (replicate {A = ℕ} size 0)) k ≡ false
      out = elim (cases_lt k (p * size)) [
        | inl below ↦ is_before (p * size) _ k below
        | inr above ↦ elim (cases_lt k (p * size + size)) [
          | inl inside ↦ absurd (eqb-false p page other
              (let first : p ≤ k / size = le-div p k size some above in
              let last : k / size < p + 1 = div_below k size (p + 1) some (omega arith) in omega (arith, here)))
          | inr behind ↦ is_after (p * size) _ k
              (omega (arith, length-zeros size))
        ]
      ]

  pub stays_received : (m : Message) (image : List ℕ) → k < length image → carries size block page m ≡ false
      → get_or (received size block m image) k 0 ≡ get_or image k 0
  stays_received (Pages b first bytes) image l out =
      elim (cases_Bool (eqb b block)) [
        | inl e ↦
            ap (λ (x : List ℕ). get_or x k 0) (cond-true _ _ _ e)
            ∙ stays_placed first bytes image l (rest_false _ _ e out)
        | inr e ↦ ap (λ (x : List ℕ). get_or x k 0) (cond-false _ _ _ e)
      ]
  stays_received (ZeroPage b p) image l out =
      elim (cases_Bool (eqb b block)) [
        | inl e ↦
            ap (λ (x : List ℕ). get_or x k 0) (cond-true _ _ _ e) ∙ stays_zero p image l (rest_false _ _ e out)
        | inr e ↦ ap (λ (x : List ℕ). get_or x k 0) (cond-false _ _ _ e)
      ]
  stays_received (RoundEnd round digest) image l out = refl
  stays_received (Section name bytes) image l out = refl
  stays_received Done image l out = refl
  stays_received Go image l out = refl

  pub stays_arrived : (ms : List Message) (image : List ℕ) → k < length image
      → list_any (carries size block page) ms ≡ false → get_or (arrived size block ms image) k 0 ≡ get_or image k 0
  unfolding arrived
  stays_arrived [] image l out = refl
  stays_arrived (m ∷ ms) image l out =
      let parts = or_parts _ _ out in
      let len : length (received size block m image) ≡ length image = length-received size block m image in
      stays_arrived ms (received size block m image) (omega arith) parts.1 ∙ stays_received m image l parts.0

-- ---- a page that is copied

module _ (size block p k : ℕ) (some : 0 < size) (bytes : List ℕ) (within : k < length bytes) where
  start_of : k / size ≡ p → p * size ≤ k
  start_of here = low size block p k some here

  end_of : k / size ≡ p → k < p * size + size
  end_of here = high size block p k some here

  page_of : p * size ≤ k → k < p * size + size → k / size ≡ p
  page_of above below =
      let first : p ≤ k / size = le-div p k size some above in
      let last : k / size < p + 1 = div_below k size (p + 1) some (omega arith) in
      omega arith

  placed_page : (x image : List ℕ) → k < length image → length x ≤ size
      → (k / size ≡ p → k - p * size < length x)
      → (k / size ≡ p → get_or x (k - p * size) 0 ≡ get_or bytes k 0)
      → get_or (placed (p * size) x image) k 0 ≡ cond (k / size == p) (get_or bytes k 0) (get_or image k 0)
  placed_page x image l short inside is =
      get_or-placed (p * size) x image k l ∙ elim (cases_eq (k / size) p) [
        | inl here ↦
            cond-true _ _ _ (is_inside (p * size) (length x) k (start_of here)
            (omega (arith, inside here, start_of here)))
            ∙ is here ∙ sym (cond-true _ _ _ (eq-eqb _ _ here))
        | inr other ↦ cond-false _ _ _ (out other) ∙ sym (cond-false _ _ _ (ne_eqb _ _ other))
      ]
    where
      out : (k / size ≡ p → ⊥) → is_within (p * size) (length x) k ≡ false
      out other = elim (cases_lt k (p * size)) [
        | inl below ↦ is_before (p * size) _ k below
        | inr above ↦ elim (cases_lt k (p * size + size)) [
          | inl in_page ↦ absurd (other (page_of above in_page))
          | inr behind ↦ is_after (p * size) _ k (omega arith)
        ]
      ]

  length-page : length (page_bytes size p bytes) ≡ min size (length bytes - p * size)
  length-page = length-take size (drop (p * size) bytes) ∙ ap (λ (n : ℕ). min size n) (length-drop (p * size) bytes)

  byte_of : k / size ≡ p → get_or (page_bytes size p bytes) (k - p * size) 0 ≡ get_or bytes k 0
  byte_of here =
      let first : p * size ≤ k = start_of here in
      let last : k < p * size + size = end_of here in
      let at : p * size + (k - p * size) ≡ k = omega arith in
      get_or-take size (drop (p * size) bytes) (k - p * size) 0 (omega arith)
      ∙ get_or-drop (p * size) bytes (k - p * size) 0 ∙ ap (λ (i : ℕ). get_or bytes i 0) at

  zero_of : list_all (λ b. b == 0) (page_bytes size p bytes) ≡ true → k / size ≡ p → get_or bytes k 0 ≡ 0
  zero_of all here =
      let first : p * size ≤ k = start_of here in
      let last : k < p * size + size = end_of here in
      let inside : k - p * size < length (page_bytes size p bytes) = omega (arith, length-page) in
      let test : ℕ → Bool = λ b. b == 0 in
      elim (cases_Bool (eqb (get_or (page_bytes size p bytes) (k - p * size) 0) 0)) [
        | inl e ↦ sym (byte_of here) ∙ eqb-true _ _ e
        | inr e ↦ absurd (true≢false (sym all ∙ list_all_at test (page_bytes size p bytes) (k - p * size) 0 inside e))
      ]

  pub page_arrives : (image : List ℕ) → length image ≡ length bytes
      → get_or (arrived size block (copied size block bytes p) image) k 0
      ≡ cond (k / size == p) (get_or bytes k 0) (get_or image k 0)
  unfolding arrived copied
  page_arrives image same =
      elim (cases_Bool (ltb (p * size) (length bytes))) [
        | inl there ↦ rw there (arrives there)
        | inr past ↦
            let below : k / size < p = div_below k size p some (omega (arith, ltb-false _ _ past)) in
            rw past (sym (cond-false _ _ _ (ne_eqb (k / size) p (λ (here : k / size ≡ p). omega arith))))
      ]
    where
      l : k < length image
      l = omega arith

      own : (x : List ℕ) → cond (eqb block block) x image ≡ x
      own x = cond-true _ _ _ (eq-eqb block block refl)

      arrives : ltb (p * size) (length bytes) ≡ true
          → get_or (received size block (cond (list_all (λ b. b == 0) (page_bytes size p bytes)) (ZeroPage block p)
          (Pages block p (page_bytes size p bytes))) image) k 0
          ≡ cond (k / size == p) (get_or bytes k 0) (get_or image k 0)
      arrives there =
          elim (cases_Bool (list_all (λ b. b == 0) (page_bytes size p bytes))) [
            | inl zeros ↦
                ap (λ (m : Message). get_or (received size block m image) k 0) (cond-true _ _ _ zeros)
                ∙ ap (λ (x : List ℕ). get_or x k 0) (own _)
                ∙ placed_page (replicate size 0) image l (omega (arith, length-zeros size))
                (λ here. omega (arith, length-zeros size, start_of here, end_of here))
                (λ here. get_or-replicate size (k - p * size) 0 0 (omega (arith, start_of here, end_of here))
                ∙ sym (zero_of zeros here))
            | inr others ↦
                ap (λ (m : Message). get_or (received size block m image) k 0) (cond-false _ _ _ others)
                ∙ ap (λ (x : List ℕ). get_or x k 0) (own _)
                ∙ placed_page (page_bytes size p bytes) image l (omega (arith, length-page))
                (λ here. omega (arith, length-page, start_of here, end_of here)) byte_of
          ]

-- what is copied of another block leaves this one
pub other_arrives : (size own block other : ℕ) (bytes : List ℕ) (p : ℕ) (image : List ℕ) → eqb other block ≡ false
    → arrived size block (copied own other bytes p) image ≡ image
unfolding arrived copied
other_arrives size own block other bytes p image ne =
    elim (cases_Bool (ltb (p * own) (length bytes))) [
      | inl there ↦ rw there (elim (cases_Bool (list_all (λ b. b == 0) (page_bytes own p bytes))) [
        | inl zeros ↦ rw zeros (cond-false _ _ _ ne)
        | inr others ↦ rw others (cond-false _ _ _ ne)
      ])
      | inr past ↦ rw past refl
    ]

pub others_arrive : (size own block other : ℕ) (bytes ps image : List ℕ) → eqb other block ≡ false
    → arrived size block (flat_map (copied own other bytes) ps) image ≡ image
unfolding arrived
others_arrive size own block other bytes [] image ne = refl
others_arrive size own block other bytes (p ∷ ps) image ne =
    arrived-append size block (copied own other bytes p) (flat_map (copied own other bytes) ps) image
    ∙ ap (arrived size block (flat_map (copied own other bytes) ps))
    (other_arrives size own block other bytes p image ne)
    ∙ others_arrive size own block other bytes ps image ne

either : {X : Type 0} (b c : Bool) (x y : X) → cond c x (cond b x y) ≡ cond (b || c) x y
either true true x y = refl
either true false x y = refl
either false c x y = refl

pub pages_arrive : (size block k : ℕ) → 0 < size → (bytes : List ℕ) → k < length bytes → (ps image : List ℕ)
    → length image ≡ length bytes
    → get_or (arrived size block (flat_map (copied size block bytes) ps) image) k 0
    ≡ cond (list_any (λ (p : ℕ). k / size == p) ps) (get_or bytes k 0) (get_or image k 0)
unfolding arrived
pages_arrive size block k some bytes within [] image same = refl
pages_arrive size block k some bytes within (p ∷ ps) image same =
    let mid = arrived size block (copied size block bytes p) image in
    let len : length mid ≡ length bytes = length-arrived size block (copied size block bytes p) image ∙ same in
    ap (λ (x : List ℕ). get_or x k 0)
    (arrived-append size block (copied size block bytes p) (flat_map (copied size block bytes) ps) image)
    ∙ pages_arrive size block k some bytes within ps mid len
    ∙ ap (λ (y : ℕ). cond (list_any (λ (q : ℕ). k / size == q) ps) (get_or bytes k 0) y)
    (page_arrives size block p k some bytes within image same)
    ∙ either (k / size == p) (list_any (λ (q : ℕ). k / size == q) ps) (get_or bytes k 0) (get_or image k 0)
