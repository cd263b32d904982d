-- Histories of marks and clears.
use Rattle.std.proofs.Common.{◌≡◌, ℕ, zero, suc, ◌<◌, Bool, true, false, not, ◌&&◌, ◌||◌, List, [], ◌∷◌, refl, sym, ◌⊎◌, inl, inr, ◌↔◌, arith}
use Rattle.std.proofs.lemmas.Bool.{true≢false}
use Rattle.vm_memory_base.specs.Events.{Event, Mark, Clear, sets, takes_word, after, is_left, marks_at, answers_at}

-- the page is answered after this step, or it is left
abbrev pub Found : ℕ → Bool → List Event → ℕ → Type 0
Found page set history j =
    ((i : ℕ) × (j < i) × (answers_at page set history i ≡ true)) ⊎ (is_left page set history ≡ true)

-- the page is answered, or it is left
abbrev pub Kept : ℕ → Bool → List Event → Type 0
Kept page set history = ((i : ℕ) × (answers_at page set history i ≡ true)) ⊎ (is_left page set history ≡ true)

kept_later : (page : ℕ) (set : Bool) (e : Event) (history : List Event) → Kept page (after page set e) history
    → Found page set (e ∷ history) 0
kept_later page set e history (inl (i, h)) = inl (suc i, omega arith, h)
kept_later page set e history (inr h) = inr h

found_kept : (page : ℕ) (set : Bool) (history : List Event) (j : ℕ) → Found page set history j → Kept page set history
found_kept page set history j (inl (i, p, h)) = inl (i, h)
found_kept page set history j (inr h) = inr h

-- a step that doesn't take the word of a page leaves it set
untaken : (page : ℕ) (e : Event) → takes_word page e ≡ false → after page true e ≡ true
untaken page e t = rw t refl

kept_by : (page : ℕ) (e : Event) (history : List Event) (taken : Bool) → takes_word page e ≡ taken
    → (taken ≡ false → Kept page (after page true e) history) → Kept page true (e ∷ history)
kept_by page e history true t rest = inl (0, t)
kept_by page e history false t rest =
    found_kept page true (e ∷ history) 0 (kept_later page true e history (rest refl))

-- a page that is set is answered or left
kept : (page : ℕ) (set : Bool) (history : List Event) → set ≡ true → Kept page set history
kept page true [] h = inr refl
kept page true (e ∷ history) h =
    kept_by page e history (takes_word page e) refl
    (λ n. kept page (after page true e) history (untaken page e n))
kept page false history h = absurd (true≢false (sym h))

-- a step that sets the page leaves it set
set_after : (page : ℕ) (set : Bool) (e : Event) → sets page e ≡ true → after page set e ≡ true
set_after page true (Mark p) h = refl
set_after page false (Mark p) h = rw h refl
set_after page set (Clear word) h = absurd (true≢false (sym h))

found_later : (page : ℕ) (set : Bool) (e : Event) (history : List Event) (j : ℕ)
    → Found page (after page set e) history j → Found page set (e ∷ history) (suc j)
found_later page set e history j (inl (i, p, h)) = inl (suc i, omega (arith, p), h)
found_later page set e history j (inr h) = inr h

-- a mark of the page is followed by an answer that has it, or the page is left
pub found : (page : ℕ) (set : Bool) (history : List Event) (j : ℕ) → marks_at page history j ≡ true
    → Found page set history j
found page set [] j h = absurd (true≢false (sym h))
found page set (e ∷ history) zero h =
    kept_later page set e history (kept page (after page set e) history (set_after page set e h))
found page set (e ∷ history) (suc j) h = found_later page set e history j (found page (after page set e) history j h)

-- the page was set before all of these steps, none of which up to this one answers it
abbrev pub Before : ℕ → Bool → List Event → ℕ → Type 0
Before page set history i = (set ≡ true) × ((k : ℕ) → k < i → answers_at page set history k ≡ true → ⊥)

-- the page is marked before this step, and not answered from there on
abbrev pub Since : ℕ → Bool → List Event → ℕ → Type 0
Since page set history i = (j : ℕ) × (j < i) × (marks_at page history j ≡ true)
    × ((k : ℕ) → k < i → answers_at page set history k ≡ true → k < j)

-- a step that sets a page answers none
no_answer : (page : ℕ) (set : Bool) (e : Event) → sets page e ≡ true → (set && takes_word page e) ≡ true → ⊥
no_answer page true (Mark p) h a = true≢false (sym a)
no_answer page false (Mark p) h a = true≢false (sym a)
no_answer page set (Clear word) h a = true≢false (sym h)

-- a page that a step leaves set and doesn't set was set, and the step doesn't answer it
stayed : (set sets taken : Bool) → sets ≡ false → ((set || sets) && not taken) ≡ true
    → (set ≡ true) × ((set && taken) ≡ true → ⊥)
stayed true false false n h = (refl, λ a. true≢false (sym a))
stayed true false true n h = absurd (true≢false (sym h))
stayed false false taken n h = absurd (true≢false (sym h))
stayed set true taken n h = absurd (true≢false n)

-- after a step, by whether it sets the page
back_by : (page : ℕ) (set : Bool) (e : Event) (history : List Event) (i : ℕ) (b : Bool) → sets page e ≡ b
    → Before page (after page set e) history i
    → Before page set (e ∷ history) (suc i) ⊎ Since page set (e ∷ history) (suc i)
back_by page set e history i true is before = inr (0, omega arith, is, none)
  where
    none : (k : ℕ) → k < suc i → answers_at page set (e ∷ history) k ≡ true → k < 0
    none zero p a = absurd (no_answer page set e is a)
    none (suc k) p a = absurd (before.1 k (omega (arith, p)) a)
back_by page set e history i false is before =
    let here = stayed set (sets page e) (takes_word page e) is before.0 in
    inl (here.0, none here.1)
  where
    none : ((set && takes_word page e) ≡ true → ⊥) → (k : ℕ) → k < suc i
        → answers_at page set (e ∷ history) k ≡ true → ⊥
    none not_here zero p a = not_here a
    none not_here (suc k) p a = before.1 k (omega (arith, p)) a

back_later : (page : ℕ) (set : Bool) (e : Event) (history : List Event) (i : ℕ)
    → Before page (after page set e) history i ⊎ Since page (after page set e) history i
    → Before page set (e ∷ history) (suc i) ⊎ Since page set (e ∷ history) (suc i)
back_later page set e history i (inl before) = back_by page set e history i (sets page e) refl before
back_later page set e history i (inr (j, below, marked, last)) =
    inr (suc j, omega (arith, below), marked, later)
  where
    later : (k : ℕ) → k < suc i → answers_at page set (e ∷ history) k ≡ true → k < suc j
    later zero p a = omega arith
    later (suc k) p a = omega (arith, last k (omega (arith, p)) a)

-- the answer at a step goes back to a mark, or to what was set before
back : (page : ℕ) (set : Bool) (history : List Event) (i : ℕ) → answers_at page set history i ≡ true
    → Before page set history i ⊎ Since page set history i
back page set [] i h = absurd (true≢false (sym h))
back page true (e ∷ history) zero h = inl (refl, λ k below a. absurd (omega (arith, below)))
back page false (e ∷ history) zero h = absurd (true≢false (sym h))
back page set (e ∷ history) (suc i) h = back_later page set e history i (back page (after page set e) history i h)

pub since : (page : ℕ) (history : List Event) (i : ℕ) → answers_at page false history i ≡ true
    → Since page false history i
since page history i h =
    elim (back page false history i h) [ inl before ↦ absurd (true≢false (sym before.0)) | inr s ↦ s ]

left_by : (page : ℕ) (set : Bool) (e : Event) (history : List Event) (b : Bool) → sets page e ≡ b
    → (after page set e ≡ true) ⊎ ((j : ℕ) × (marks_at page history j ≡ true))
    → (set ≡ true) ⊎ ((j : ℕ) × (marks_at page (e ∷ history) j ≡ true))
left_by page set e history b is (inr (j, m)) = inr (suc j, m)
left_by page set e history true is (inl h) = inr (0, is)
left_by page set e history false is (inl h) = inl (stayed set (sets page e) (takes_word page e) is h).0

-- a page that is left was set before, or marked
left_marked : (page : ℕ) (set : Bool) (history : List Event) → is_left page set history ≡ true
    → (set ≡ true) ⊎ ((j : ℕ) × (marks_at page history j ≡ true))
left_marked page set [] h = inl h
left_marked page set (e ∷ history) h =
    left_by page set e history (sets page e) refl (left_marked page (after page set e) history h)

marked_of_kept : (page : ℕ) (history : List Event) → Kept page false history
    → (j : ℕ) × (marks_at page history j ≡ true)
marked_of_kept page history (inl (i, h)) = let s = since page history i h in (s.0, s.2)
marked_of_kept page history (inr h) =
    elim (left_marked page false history h) [ inl set ↦ absurd (true≢false (sym set)) | inr m ↦ m ]

kept_of_marked : (page : ℕ) (history : List Event) → (j : ℕ) × (marks_at page history j ≡ true)
    → Kept page false history
kept_of_marked page history (j, m) = found_kept page false history j (found page false history j m)

pub told : (history : List Event) (page : ℕ)
    → Kept page false history ↔ ((j : ℕ) × (marks_at page history j ≡ true))
told history page = (marked_of_kept page history, kept_of_marked page history)
