-- Patches of an image, page by page.
use Rattle.std.proofs.Common.{◌≡◌, ℕ, ◌+◌, ◌-◌, ◌*◌, ◌/◌, ◌<◌, ◌≤◌, ◌==◌, ◌||◌, Bool, true, false, cond, List, [], ◌∷◌, ◌++◌, take, drop, length, get_or, min, Some, None, refl, sym, ap, ◌∙◌, inl, inr, arith, eq-eqb, length-append, length-take-le, length-drop}
use Rattle.std.proofs.lemmas.Bool.{cases_lt, ne_eqb, cond-true, cond-false}
use Rattle.std.proofs.lemmas.List.{ext_get_or, get_or-append_right, get_or_append_left, get_or-take, get_or-drop}
use Rattle.std.proofs.lemmas.List.Folds.{list_any-append}
use Rattle.std.proofs.lemmas.Nat.{div_below, le-div}
use Rattle.std.proofs.lemmas.Option.{none-some, same_Some}
use Rattle.std.specs.List.{list_any}
use Rattle.vm_memory_base.specs.Pages.{PageSet, shape}
use Rattle.vm_memory_guest.specs.Patch.{patched}
use Rattle.vm_memory.specs.Rounds.{patched_by}
use Rattle.vm_memory_guest.proofs.PatchLemmas.{length-patched, get_or-patched}

or_none : (b : Bool) → (b || false) ≡ b
or_none true = refl
or_none false = refl

module _ (size page : ℕ) (some : 0 < size) (block image : List ℕ) (same : length image ≡ length block) where
  -- a byte of the page
  patched_inside : (k : ℕ) → k < length image → page * size ≤ k → k < page * size + size
      → get_or (patched size (page ∷ []) block image) k 0 ≡ get_or block k 0
  patched_inside k within low high =
      let above : page ≤ k / size = le-div page k size some low in
      let below : k / size < page + 1 = div_below k size (page + 1) some (omega arith) in
      let here : k / size ≡ page = omega arith in
      get_or-patched size (page ∷ []) block image k within
      ∙ cond-true _ _ _ (or_none (k / size == page) ∙ eq-eqb (k / size) page here)

  -- a byte of another page
  patched_outside : (k : ℕ) → k < length image → (k / size ≡ page → ⊥)
      → get_or (patched size (page ∷ []) block image) k 0 ≡ get_or image k 0
  patched_outside k within other =
      get_or-patched size (page ∷ []) block image k within
      ∙ cond-false _ _ _ (or_none (k / size == page) ∙ ne_eqb (k / size) page other)

  module _ (start end : ℕ) (first : start ≡ min (page * size) (length block))
      (last : end ≡ min (start + size) (length block)) where
    -- the page of the block in place of that of the image
    spliced : List ℕ
    spliced = take start image ++ (take (end - start) (drop start block) ++ drop end image)

    length-front : length (take start image) ≡ start
    length-front = length-take-le start image (omega (arith, first, same))

    length-middle : length (take (end - start) (drop start block)) ≡ end - start
    length-middle = length-take-le (end - start) (drop start block) (simp length-drop (omega (arith, last)))

    length-spliced : length spliced ≡ length image
    unfolding spliced
    length-spliced = simp (length-append, length-front, length-middle, length-drop) (omega (arith, first, last, same))

    front : (k : ℕ) → k < start → get_or spliced k 0 ≡ get_or image k 0
    unfolding spliced
    front k low =
        get_or_append_left (take start image) (take (end - start) (drop start block) ++ drop end image) 0 k
        (omega (arith, length-front))
        ∙ get_or-take start image k 0 low

    behind : (k : ℕ) → start ≤ k
        → get_or spliced k 0 ≡ get_or (take (end - start) (drop start block) ++ drop end image) (k - start) 0
    unfolding spliced
    behind k high =
        get_or-append_right (take start image)
        (take (end - start) (drop start block) ++ drop end image) start k 0 length-front high

    middle : (k : ℕ) → start ≤ k → k < end → get_or spliced k 0 ≡ get_or block k 0
    middle k high low =
        let at : start + (k - start) ≡ k = omega arith in
        behind k high
        ∙ get_or_append_left (take (end - start) (drop start block)) (drop end image) 0 (k - start)
        (omega (arith, length-middle))
        ∙ get_or-take (end - start) (drop start block) (k - start) 0 (omega arith)
        ∙ get_or-drop start block (k - start) 0
        ∙ ap (λ (i : ℕ). get_or block i 0) at

    back : (k : ℕ) → start ≤ end → end ≤ k → get_or spliced k 0 ≡ get_or image k 0
    back k ordered high =
        let at : end + (k - start - (end - start)) ≡ k = omega arith in
        behind k (omega arith)
        ∙ get_or-append_right (take (end - start) (drop start block)) (drop end image) (end - start)
        (k - start) 0 length-middle (omega arith)
        ∙ get_or-drop end image (k - start - (end - start)) 0
        ∙ ap (λ (i : ℕ). get_or image i 0) at

    ordered : start ≤ end
    ordered = omega (arith, first, last)

    at : (k : ℕ) → k < length image → get_or spliced k 0 ≡ get_or (patched size (page ∷ []) block image) k 0
    at k within = elim (cases_lt k start) [
      | inl low ↦
          front k low ∙ sym (patched_outside k within (before low))
      | inr high ↦
          elim (cases_lt k end) [
            | inl inside ↦
                middle k high inside
                ∙ sym (patched_inside k within (omega (arith, first, last)) (omega (arith, first, last)))
            | inr past ↦ back k ordered past ∙ sym (patched_outside k within (after high past))
          ]
    ]
      where
        before : k < start → k / size ≡ page → ⊥
        before low e = omega (arith, div_below k size page some (omega (arith, first)))

        after : start ≤ k → end ≤ k → k / size ≡ page → ⊥
        after high past e =
            let reach : page * size + size ≤ k = omega (arith, first, last, same, within) in
            omega (arith, le-div (page + 1) k size some (omega arith))

    pub page_copied : take start image ++ (take (end - start) (drop start block) ++ drop end image)
        ≡ patched size (page ∷ []) block image
    unfolding spliced
    page_copied =
        ext_get_or 0 spliced (patched size (page ∷ []) block image)
        (length-spliced ∙ sym (length-patched size (page ∷ []) block image))
        (λ k l. at k (omega (arith, length-spliced)))

-- no page, no change
pub patched-none : (size : ℕ) (now image : List ℕ) → patched size [] now image ≡ image
patched-none size now image =
    ext_get_or 0 (patched size [] now image) image (length-patched size [] now image)
    (λ k l. get_or-patched size [] now image k (omega (arith, length-patched size [] now image)))

-- either of two tests chooses the same
chosen : {X : Type 0} (b c : Bool) (x y : X) → cond (b || c) x y ≡ cond c x (cond b x y)
chosen true true x y = refl
chosen true false x y = refl
chosen false true x y = refl
chosen false false x y = refl

-- one page more
pub patched-more : (size page : ℕ) (pages now image : List ℕ)
    → patched size (pages ++ page ∷ []) now image ≡ patched size (page ∷ []) now (patched size pages now image)
patched-more size page pages now image =
    let mid = patched size pages now image in
    let whole = length-patched size (pages ++ page ∷ []) now image in
    let len = length-patched size pages now image in
    let last = length-patched size (page ∷ []) now mid in
    ext_get_or 0 (patched size (pages ++ page ∷ []) now image) (patched size (page ∷ []) now mid)
    (whole ∙ sym (last ∙ len))
    (λ k l. at k (omega (arith, whole)))
  where
    at : (k : ℕ) → k < length image
        → get_or (patched size (pages ++ page ∷ []) now image) k 0
        ≡ get_or (patched size (page ∷ []) now (patched size pages now image)) k 0
    at k within =
        let mid = patched size pages now image in
        let test : ℕ → Bool = λ q. k / size == q in
        get_or-patched size (pages ++ page ∷ []) now image k within
        ∙ ap (λ (b : Bool). cond b (get_or now k 0) (get_or image k 0)) (list_any-append test pages (page ∷ []))
        ∙ chosen (list_any test pages) (list_any test (page ∷ [])) (get_or now k 0) (get_or image k 0)
        ∙ ap (λ (b : ℕ). cond (list_any test (page ∷ [])) (get_or now k 0) b)
        (sym (get_or-patched size pages now image k within))
        ∙ sym (get_or-patched size (page ∷ []) now mid k (omega (arith, length-patched size pages now image)))

-- by the pages of a bitmap whose pages have this size
pub patched_by-shape : (set : PageSet) (size count : ℕ) (pages now image : List ℕ) → shape set ≡ Some (size, count)
    → patched_by set pages now image ≡ patched size pages now image
patched_by-shape None size count pages now image is = absurd (none-some (size, count) is)
patched_by-shape (Some p) size count pages now image is =
    let s = same_Some (p.page_size, length p.flags) (size, count) is in
    ap (λ (z : ℕ). patched z pages now image) (ap (λ (t : ℕ × ℕ). t.0) s)
