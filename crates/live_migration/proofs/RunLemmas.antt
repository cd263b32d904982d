-- Pages that follow one another, in one message, and what they leave.
use Rattle.std.proofs.Common.{◌≡◌, ℕ, zero, suc, ◌+◌, ◌-◌, ◌*◌, ◌/◌, ◌^◌, ◌<◌, ◌≤◌, ◌⊎◌, true, false, cond, eqb, ltb, List, [], ◌∷◌, ◌++◌, length, get_or, take, drop, min, Result, Ok, Err, OnOk, refl, sym, ap, subst, ◌∙◌, inl, inr, arith, append_assoc, append-nil, le_refl}
use Rattle.std.specs.List.{AllByRecursion}
use Rattle.std.specs.Prelude.{flat_map}
use Rattle.std.proofs.lemmas.Bool.{cases_lt, cases_Bool, cond-true, cond-false, eq-eqb, eqb-true, le-ltb, lt-ltb}
use Rattle.std.proofs.lemmas.List.{drop-drop, drop-take, ext_get_or, get_or-drop, get_or-take, length-drop, length-take, take-take, take_min, take_rest}
use Rattle.std.proofs.lemmas.List.Concat.{flat_map-append, flat_map-cons}
use Rattle.std.proofs.lemmas.Nat.{div_below, le-div, mul-le}
use Rattle.vm_memory_base.specs.Address.{is_within}
use Rattle.live_migration.specs.Frame.{IsMessage, Message, Pages, ZeroPage, RoundEnd, Section, Done, Go, spelling}
use Rattle.live_migration.specs.Image.{are_zero, arrived, copied, one_by_one, page_bytes, placed, received, split}
use Rattle.live_migration.specs.Sending.{CopiesRuns, IsRun, IsWrittenPage}
use Rattle.live_migration.proofs.ImageLemmas.{arrived-append, get_or-placed, length-placed, is_before, is_after, is_inside}

pub fits-append : (ms ns : List Message) → AllByRecursion IsMessage ms → AllByRecursion IsMessage ns
    → AllByRecursion IsMessage (ms ++ ns)
fits-append [] ns a b = b
fits-append (m ∷ ms) ns a b = (a.0, fits-append ms ns a.1 b)

-- ---- bytes that come in one piece or in two

placed_parts : (at n : ℕ) (bytes image : List ℕ)
    → placed (at + n) (drop n bytes) (placed at (take n bytes) image) ≡ placed at bytes image
placed_parts at n bytes image =
    let mid = placed at (take n bytes) image in
    let len : length mid ≡ length image = length-placed at (take n bytes) image in
    ext_get_or 0 (placed (at + n) (drop n bytes) mid) (placed at bytes image)
    (length-placed (at + n) (drop n bytes) mid ∙ len ∙ sym (length-placed at bytes image))
    (λ k within.
    let l : k < length image = omega (arith, length-placed (at + n) (drop n bytes) mid, len) in
    let m : k < length mid = omega (arith, len) in
    get_or-placed (at + n) (drop n bytes) mid k m
    ∙ ap (λ (x : ℕ).
    cond (is_within (at + n) (length (drop n bytes)) k) (get_or (drop n bytes) (k - (at + n)) 0) x)
    (get_or-placed at (take n bytes) image k l)
    ∙ byte k ∙ sym (get_or-placed at bytes image k l))
  where
    past : (k : ℕ) → at + length bytes ≤ k → is_within (at + n) (length (drop n bytes)) k ≡ false
    past k behind = elim (cases_lt k (at + n)) [
      | inl early ↦ is_before (at + n) (length (drop n bytes)) k early
      | inr late ↦ is_after (at + n) (length (drop n bytes)) k (omega (arith, length-drop n bytes))
    ]

    byte : (k : ℕ)
        → cond (is_within (at + n) (length (drop n bytes)) k) (get_or (drop n bytes) (k - (at + n)) 0)
        (cond (is_within at (length (take n bytes)) k) (get_or (take n bytes) (k - at) 0) (get_or image k 0))
        ≡ cond (is_within at (length bytes) k) (get_or bytes (k - at) 0) (get_or image k 0)
    byte k = elim (cases_lt k at) [
      | inl low ↦
          cond-false _ _ _ (is_before (at + n) (length (drop n bytes)) k (omega arith))
          ∙ cond-false _ _ _ (is_before at (length (take n bytes)) k low)
          ∙ sym (cond-false _ _ _ (is_before at (length bytes) k low))
      | inr high ↦ elim (cases_lt k (at + length bytes)) [
        | inl inside ↦ elim (cases_lt k (at + n)) [
          | inl first ↦
              cond-false _ _ _ (is_before (at + n) (length (drop n bytes)) k first)
              ∙ cond-true _ _ _ (is_inside at (length (take n bytes)) k high (omega (arith, length-take n bytes)))
              ∙ get_or-take n bytes (k - at) 0 (omega arith)
              ∙ sym (cond-true _ _ _ (is_inside at (length bytes) k high inside))
          | inr second ↦
              cond-true _ _ _ (is_inside (at + n) (length (drop n bytes)) k second (omega (arith, length-drop n bytes)))
              ∙ get_or-drop n bytes (k - (at + n)) 0
              ∙ ap (λ (i : ℕ). get_or bytes i 0) (let same : n + (k - (at + n)) ≡ k - at = omega arith in same)
              ∙ sym (cond-true _ _ _ (is_inside at (length bytes) k high inside))
        ]
        | inr behind ↦
            cond-false _ _ _ (past k behind)
            ∙ cond-false _ _ _ (is_after at (length (take n bytes)) k (omega (arith, length-take n bytes)))
            ∙ sym (cond-false _ _ _ (is_after at (length bytes) k behind))
      ]
    ]

module _ (size block : ℕ) where
  split_arrives : (more first : ℕ) (bytes image : List ℕ)
      → arrived size block (split size more block first bytes) image ≡ placed (first * size) bytes image
  unfolding arrived split
  split_arrives zero first bytes image = cond-true _ _ _ (eq-eqb block block refl)
  split_arrives (suc more) first bytes image =
      let next : (first + 1) * size ≡ first * size + size = omega arith in
      split_arrives more (first + 1) (drop size bytes) (received size block (Pages block first (take size bytes)) image)
      ∙ ap (placed ((first + 1) * size) (drop size bytes)) (cond-true _ _ _ (eq-eqb block block refl))
      ∙ ap (λ (at : ℕ). placed at (drop size bytes) (placed (first * size) (take size bytes) image)) next
      ∙ placed_parts (first * size) size bytes image

  -- pages of another block leave this one
  split_passes : (own more other first : ℕ) (bytes image : List ℕ) → eqb other block ≡ false
      → arrived size block (split own more other first bytes) image ≡ image
  unfolding arrived split
  split_passes own zero other first bytes image ne = cond-false _ _ _ ne
  split_passes own (suc more) other first bytes image ne =
      split_passes own more other (first + 1) (drop own bytes)
      (received size block (Pages other first (take own bytes)) image) ne
      ∙ cond-false _ _ _ ne

  module _ (sizes : ℕ → ℕ) (own : sizes block ≡ size) where
    one_arrives : (m : Message) (image : List ℕ)
        → arrived size block (one_by_one sizes m) image ≡ received size block m image
    unfolding arrived
    one_arrives (Pages b first bytes) image = elim (cases_Bool (eqb b block)) [
      | inl same ↦
          let at : b ≡ block = eqb-true b block same in
          let is : sizes b ≡ size = ap sizes at ∙ own in
          ap (λ (s : ℕ). arrived size block (split s ((length bytes - 1) / s) b first bytes) image) is
          ∙ ap (λ (c : ℕ). arrived size block (split size ((length bytes - 1) / size) c first bytes) image) at
          ∙ split_arrives ((length bytes - 1) / size) first bytes image
          ∙ sym (cond-true _ _ _ same)
      | inr other ↦
          split_passes (sizes b) ((length bytes - 1) / sizes b) b first bytes image other
          ∙ sym (cond-false _ _ _ other)
    ]
    one_arrives (ZeroPage b page) image = refl
    one_arrives (RoundEnd round digest) image = refl
    one_arrives (Section name bytes) image = refl
    one_arrives Done image = refl
    one_arrives Go image = refl

    -- messages of several pages leave what the pages leave one by one
    pub singles_arrive : (ms : List Message) (image : List ℕ)
        → arrived size block (flat_map (one_by_one sizes) ms) image ≡ arrived size block ms image
    unfolding arrived
    singles_arrive [] image = refl
    singles_arrive (m ∷ ms) image =
        ap (λ (xs : List Message). arrived size block xs image) (flat_map-cons (one_by_one sizes) m ms)
        ∙ arrived-append size block (one_by_one sizes m) (flat_map (one_by_one sizes) ms) image
        ∙ ap (arrived size block (flat_map (one_by_one sizes) ms)) (one_arrives m image)
        ∙ singles_arrive ms (received size block m image)

-- ---- what is copied

module _ (size number : ℕ) (bytes : List ℕ) where
  pub nothing_copied : (old new : List ℕ) → new ≡ old → CopiesRuns size number bytes [] old new
  nothing_copied old new same = record {
    messages = [];
    fit = tt;
    spelled = same ∙ sym (append-nil old);
    copies = λ sizes own. refl;
  }

  pub copied_more : (ps qs old mid new : List ℕ) → CopiesRuns size number bytes ps old mid
      → CopiesRuns size number bytes qs mid new → CopiesRuns size number bytes (ps ++ qs) old new
  copied_more ps qs old mid new a b = record {
    messages = a.messages ++ b.messages;
    fit = fits-append a.messages b.messages a.fit b.fit;
    spelled = b.spelled ∙ ap (λ (x : List ℕ). x ++ flat_map spelling b.messages) a.spelled
        ∙ append_assoc old (flat_map spelling a.messages) (flat_map spelling b.messages)
        ∙ ap (λ (x : List ℕ). old ++ x) (sym (flat_map-append spelling a.messages b.messages));
    copies = λ sizes own.
        flat_map-append (one_by_one sizes) a.messages b.messages
        ∙ ap (λ (x : List Message). x ++ flat_map (one_by_one sizes) b.messages) (a.copies sizes own)
        ∙ ap (λ (x : List Message). flat_map (copied size number bytes) ps ++ x) (b.copies sizes own)
        ∙ sym (flat_map-append (copied size number bytes) ps qs);
  }

  -- one message for the pages
  one_message : (m : Message) (ps old new : List ℕ) → IsMessage m → new ≡ old ++ spelling m
      → ((sizes : ℕ → ℕ) → sizes number ≡ size → one_by_one sizes m ≡ flat_map (copied size number bytes) ps)
      → CopiesRuns size number bytes ps old new
  one_message m ps old new is put copies = record {
    messages = m ∷ [];
    fit = (is, tt);
    spelled = put ∙ ap (λ (x : List ℕ). old ++ x) (sym (append-nil (spelling m)));
    copies = λ sizes own. append-nil (one_by_one sizes m) ∙ copies sizes own;
  }

  pub past_copied : (p : ℕ) (old new : List ℕ) → length bytes ≤ p * size → new ≡ old
      → CopiesRuns size number bytes (p ∷ []) old new
  unfolding copied
  past_copied p old new past same = record {
    messages = [];
    fit = tt;
    spelled = same ∙ sym (append-nil old);
    copies = λ sizes own. let out : ltb (p * size) (length bytes) ≡ false = le-ltb _ _ past in rw out refl;
  }

  pub zero_copied : (p : ℕ) (old new : List ℕ) → number < 2 ^ 32 → p < 2 ^ 64 → p * size < length bytes
      → (IsWrittenPage size bytes p → ⊥) → new ≡ old ++ spelling (ZeroPage number p)
      → CopiesRuns size number bytes (p ∷ []) old new
  unfolding copied
  zero_copied p old new few low within none put =
      let there : ltb (p * size) (length bytes) ≡ true = lt-ltb _ _ within in
      let zeros : are_zero (page_bytes size p bytes) ≡ true =
      elim (cases_Bool (are_zero (page_bytes size p bytes))) [
        | inl all ↦ all
        | inr some ↦ absurd (none (record { within = within; written = some }))
      ] in
      one_message (ZeroPage number p) (p ∷ []) old new (few, low) put (λ sizes own. rw (there, zeros) refl)

  -- a page that is written goes as it is
  written_goes : (p : ℕ) → IsWrittenPage size bytes p
      → copied size number bytes p ≡ Pages number p (page_bytes size p bytes) ∷ []
  unfolding copied
  written_goes p w =
      let there : ltb (p * size) (length bytes) ≡ true = lt-ltb _ _ w.within in
      let some = w.written in
      rw (there, some) refl

  abbrev run_bytes : ℕ → ℕ → List ℕ
  run_bytes first n = take (n * size) (drop (first * size) bytes)

  -- the bytes of a run, page by page
  run_goes : (ps : List ℕ) (first more : ℕ) → length ps ≡ suc more → IsRun size bytes first ps
      → split size more number first (run_bytes first (suc more)) ≡ flat_map (copied size number bytes) ps
  unfolding split
  run_goes [] first more len run = absurd (omega arith)
  run_goes (p ∷ []) first zero len run =
      let one : 1 * size ≡ size = omega arith in
      ap (λ (n : ℕ). Pages number first (take n (drop (first * size) bytes)) ∷ []) one
      ∙ sym (written_goes first run.1) ∙ ap (copied size number bytes) (sym run.0)
      ∙ sym (append-nil (copied size number bytes p))
  run_goes (p ∷ []) first (suc more) len run = absurd (omega arith)
  run_goes (p ∷ q ∷ qs) first zero len run = absurd (omega arith)
  run_goes (p ∷ q ∷ qs) first (suc more) len run =
      let whole = run_bytes first (suc (suc more)) in
      let count : suc (suc more) * size ≡ size + suc more * size = omega arith in
      let next : first * size + size ≡ (first + 1) * size = omega arith in
      let front : take size whole ≡ page_bytes size first bytes =
      take-take size (suc (suc more) * size) (drop (first * size) bytes) (omega (arith, count)) in
      let back : drop size whole ≡ run_bytes (first + 1) (suc more) =
      ap (λ (n : ℕ). drop size (take n (drop (first * size) bytes))) count
      ∙ drop-take size (suc more * size) (drop (first * size) bytes)
      ∙ ap (take (suc more * size)) (drop-drop size (first * size) bytes
      ∙ ap (λ (n : ℕ). drop n bytes) next) in
      ap (λ (x : List ℕ). Pages number first x ∷ split size more number (first + 1) (drop size whole)) front
      ∙ ap (λ (x : List ℕ). Pages number first (page_bytes size first bytes) ∷ split size more number (first + 1) x) back
      ∙ ap (λ (ms : List Message). Pages number first (page_bytes size first bytes) ∷ ms)
      (run_goes (q ∷ qs) (first + 1) more (omega arith) run.2)
      ∙ ap (λ (ms : List Message). ms ++ flat_map (copied size number bytes) (q ∷ qs)) (sym (written_goes first run.1))
      ∙ ap (λ (n : ℕ). copied size number bytes n ++ flat_map (copied size number bytes) (q ∷ qs)) (sym run.0)
      ∙ sym (flat_map-cons (copied size number bytes) p (q ∷ qs))

  -- the last page of a run has a byte
  run_within : (ps : List ℕ) (first more : ℕ) → length ps ≡ suc more → IsRun size bytes first ps
      → (first + more) * size < length bytes
  run_within [] first more len run = absurd (omega arith)
  run_within (p ∷ []) first zero len run =
      let within = run.1.within in
      subst (λ (n : ℕ). n * size < length bytes) (let same : first ≡ first + zero = omega arith in same) within
  run_within (p ∷ []) first (suc more) len run = absurd (omega arith)
  run_within (p ∷ q ∷ qs) first zero len run = absurd (omega arith)
  run_within (p ∷ q ∷ qs) first (suc more) len run =
      subst (λ (n : ℕ). n * size < length bytes) (let same : first + 1 + more ≡ first + suc more = omega arith in same)
      (run_within (q ∷ qs) (first + 1) more (omega arith) run.2)

  -- a run as one message
  pub run_copied : (ps : List ℕ) (first more : ℕ) (part old new : List ℕ) → 0 < size → length ps ≡ suc more
      → length ps * size ≤ 2 ^ 20 → number < 2 ^ 32 → first < 2 ^ 64 → IsRun size bytes first ps
      → part ≡ take (length ps * size) (drop (first * size) bytes)
      → new ≡ old ++ spelling (Pages number first part) → CopiesRuns size number bytes ps old new
  run_copied ps first more part old new some len short few low run is put =
      let all : part ≡ run_bytes first (suc more) =
      is ∙ ap (λ (n : ℕ). take (n * size) (drop (first * size) bytes)) len in
      let part_len : length part ≡ min (suc more * size) (length bytes - first * size) =
      ap length all ∙ length-take (suc more * size) (drop (first * size) bytes)
      ∙ ap (min (suc more * size)) (length-drop (first * size) bytes) in
      let within = run_within ps first more len run in
      let sum : (first + more) * size ≡ first * size + more * size = omega arith in
      let product : suc more * size ≡ more * size + size = omega arith in
      let same : length ps * size ≡ suc more * size = ap (λ (n : ℕ). n * size) len in
      let low_len : more * size ≤ length part - 1 = omega arith in
      let high_len : length part - 1 < (more + 1) * size = omega arith in
      let lower : more ≤ (length part - 1) / size = le-div more (length part - 1) size some low_len in
      let upper : (length part - 1) / size < more + 1 = div_below (length part - 1) size (more + 1) some high_len in
      let pieces : (length part - 1) / size ≡ more = omega arith in
      one_message (Pages number first part) ps old new (few, low, omega arith) put
      (λ sizes own.
      ap (λ (s : ℕ). split s ((length part - 1) / s) number first part) own
      ∙ ap (λ (n : ℕ). split size n number first part) pieces
      ∙ ap (split size more number first) all ∙ run_goes ps first more len run)

  -- the bytes that are lent of a run
  pub run_part : (first n start count : ℕ) → start ≡ first * size
      → count ≡ min (length (take (length bytes - start) (drop start bytes))) (n * size)
      → take count (take (length bytes - start) (drop start bytes)) ≡ take (n * size) (drop (first * size) bytes)
  run_part first n start count at is =
      let rest = take (length bytes - start) (drop start bytes) in
      let swap : min (length rest) (n * size) ≡ min (n * size) (length rest) = omega arith in
      ap (λ (k : ℕ). take k rest) (is ∙ swap) ∙ take_min (n * size) rest
      ∙ ap (take (n * size)) (take_rest bytes start ∙ ap (λ (k : ℕ). drop k bytes) at)

  pub run_head : (ps : List ℕ) (first : ℕ) → 0 < length ps → IsRun size bytes first ps → IsWrittenPage size bytes first
  run_head [] first some run = absurd (omega arith)
  run_head (p ∷ ps) first some run = run.1

  -- a page, and those after it
  pub run_starts : (ps : List ℕ) (first n : ℕ) → 0 < length ps → get_or ps 0 0 ≡ first → IsWrittenPage size bytes first
      → IsRun size bytes (first + 1) (take n (drop 1 ps)) → IsRun size bytes first (take (1 + n) ps)
  run_starts [] first n some at w run = absurd (omega arith)
  run_starts (p ∷ ps) first n some at w run =
      let more : 1 + n ≡ suc n = omega arith in
      subst (λ (k : ℕ). IsRun size bytes first (take k (p ∷ ps))) (sym more) (at, w, run)

-- one page more
pub run_more : (size : ℕ) (bytes : List ℕ) (ps : List ℕ) (first p : ℕ) → IsRun size bytes first ps
    → p ≡ first + length ps → IsWrittenPage size bytes p → IsRun size bytes first (ps ++ p ∷ [])
run_more size bytes [] first p run at w =
    let here : p ≡ first = omega arith in (here, subst (IsWrittenPage size bytes) here w, tt)
run_more size bytes (q ∷ qs) first p run at w =
    (run.0, run.1, run_more size bytes qs (first + 1) p run.2 (omega arith) w)

-- what waits is still short after some more pages, for which there was room
pub still_short : (old new some room size : ℕ) → 0 < some → some ≤ room → room * size ≤ 2 ^ 20
    → (room ≡ 0) ⊎ ((old ≡ 0) ⊎ (old + room * size ≤ 2 ^ 20)) → new ≤ old + (20 + some * size) → new ≤ 2 ^ 20 + 20
still_short old new some room size more fits most has grew =
    let less : some * size ≤ room * size = mul-le some size room size fits (le_refl size) in
    elim has [
      | inl none ↦ absurd (omega arith)
      | inr has' ↦ elim has' [ inl empty ↦ omega arith | inr short ↦ omega arith ]
    ]

-- what holds where a call succeeds
pub on_ok : {X E P Q : Type 0} (r : Result X E) → OnOk r P → (P → Q) → OnOk r Q
on_ok (Ok x) p f = f p
on_ok (Err e) p f = tt
