-- Notes, one after the other.
use Rattle.std.proofs.Common.{◌≡◌, ◌∙◌, ℕ, suc, ◌+◌, ◌-◌, ◌<◌, ◌≤◌, nat_lt, true, false, if◌then◌else◌, List, drop, length, length-drop, min, Option, Some, None, Result, Ok, Err, ap, arith, refl, subst, sym, take}
use Rattle.std.proofs.lemmas.Bool.Decides.{nat_tests}
use Rattle.std.proofs.lemmas.List.{drop-drop, drop_min, take_rest}
use Rattle.linux_loader.specs.Error.{and_then}
use Rattle.linux_loader.specs.Notes.{entry_in, note_of, or_else}
use Rattle.linux_loader.specs.declared.elf.notes.Note.{Note}
use Rattle.linux_loader.specs.declared.error.LoaderError.{LoaderError}

module _ (align : ℕ) where
  -- what comes of a note, if there is one
  abbrev comes : ℕ → List ℕ → Result (Option ℕ) LoaderError
  comes k notes = and_then (note_of align notes) (λ note. or_else note.entry (entry_in k align (drop note.size notes)))

  one : (n k : ℕ) (notes : List ℕ) → n ≡ suc k
      → entry_in n align notes ≡ (if nat_lt (length notes) 12 then Ok None else comes k notes)
  unfolding entry_in
  one n k notes is = rw is refl

  one_long : (n k : ℕ) (notes : List ℕ) → n ≡ suc k → 12 ≤ length notes → entry_in n align notes ≡ comes k notes
  one_long n k notes is long =
      let e = one n k notes is in
      let test : nat_lt (length notes) 12 ≡ false = grind (arith, nat_tests) in rw test at e

  pub in_short : (n k : ℕ) (notes : List ℕ) → n ≡ suc k → length notes < 12 → entry_in n align notes ≡ Ok None
  in_short n k notes is short =
      let e = one n k notes is in
      let test : nat_lt (length notes) 12 ≡ true = grind (arith, nat_tests) in rw test at e

  pub in_wrong : (n k : ℕ) (notes : List ℕ) (e : LoaderError) → n ≡ suc k → 12 ≤ length notes
      → Err e ≡ note_of align notes → entry_in n align notes ≡ Err e
  in_wrong n k notes e is long note =
      let h = one_long n k notes is long in
      h ∙ ap (λ (r : Result Note LoaderError). and_then r (λ note.
      or_else note.entry (entry_in k align (drop note.size notes)))) (sym note)

  pub in_found : (n k : ℕ) (notes : List ℕ) (x : Note) (e : ℕ) → n ≡ suc k → 12 ≤ length notes
      → Ok x ≡ note_of align notes → x.entry ≡ Some e → entry_in n align notes ≡ Ok (Some e)
  in_found n k notes x e is long note found =
      let h = one_long n k notes is long in
      h ∙ ap (λ (r : Result Note LoaderError). and_then r (λ note.
      or_else note.entry (entry_in k align (drop note.size notes)))) (sym note)
      ∙ ap (λ (o : Option ℕ). or_else o (entry_in k align (drop x.size notes))) found

  pub in_on : (n k : ℕ) (notes : List ℕ) (x : Note) → n ≡ suc k → 12 ≤ length notes
      → Ok x ≡ note_of align notes → x.entry ≡ None
      → entry_in n align notes ≡ entry_in k align (drop x.size notes)
  in_on n k notes x is long note found =
      let h = one_long n k notes is long in
      h ∙ ap (λ (r : Result Note LoaderError). and_then r (λ note.
      or_else note.entry (entry_in k align (drop note.size notes)))) (sym note)
      ∙ ap (λ (o : Option ℕ). or_else o (entry_in k align (drop x.size notes))) found

  pub in_none : (n : ℕ) (notes : List ℕ) → n ≡ 0 → entry_in n align notes ≡ Ok None
  unfolding entry_in
  in_none n notes is = rw is refl

  module _ (all : List ℕ) where
    -- so many notes have been passed over, up to a place, and what comes of the rest is what comes of all
    pub record Passed (place at : ℕ) : Type 0 where
      pub within : at ≤ length all
      pub is : entry_in (length all) align all ≡ entry_in (length all - place) align (drop at all)

    abbrev part : ℕ → List ℕ
    part at = take (length all - at) (drop at all)

    left : (place : ℕ) → place < length all → length all - place ≡ suc (length all - (place + 1))
    left place l = omega arith

    pub passed_none : Passed 0 0
    passed_none = record { within = omega arith; is = let e : length all - 0 ≡ length all = omega arith in rw e refl }

    pub short_at : (place at : ℕ) → Passed place at → place < length all → length (part at) < 12
        → Ok None ≡ entry_in (length all) align all
    short_at place at p l short = sym (p.is
        ∙ in_short (length all - place) _ (drop at all) (left place l)
        (subst (λ (xs : List ℕ). length xs < 12) (take_rest all at) short))

    pub wrong_at : (place at : ℕ) (e : LoaderError) → Passed place at → place < length all → 12 ≤ length (part at)
        → Err e ≡ note_of align (part at) → Err e ≡ entry_in (length all) align all
    wrong_at place at e p l long note = sym (p.is
        ∙ in_wrong (length all - place) _ (drop at all) e (left place l)
        (subst (λ (xs : List ℕ). 12 ≤ length xs) (take_rest all at) long)
        (subst (λ (xs : List ℕ). Err e ≡ note_of align xs) (take_rest all at) note))

    pub found_at : (place at : ℕ) (x : Note) (e : ℕ) → Passed place at → place < length all → 12 ≤ length (part at)
        → Ok x ≡ note_of align (part at) → x.entry ≡ Some e → Ok (Some e) ≡ entry_in (length all) align all
    found_at place at x e p l long note found = sym (p.is
        ∙ in_found (length all - place) _ (drop at all) x e (left place l)
        (subst (λ (xs : List ℕ). 12 ≤ length xs) (take_rest all at) long)
        (subst (λ (xs : List ℕ). Ok x ≡ note_of align xs) (take_rest all at) note) found)

    pub on_at : (place at next : ℕ) (x : Note) → Passed place at → place < length all → 12 ≤ length (part at)
        → Ok x ≡ note_of align (part at) → x.entry ≡ None → next ≡ at + min (length (part at)) x.size
        → Passed (place + 1) next
    on_at place at next x p l long note found is = record {
      within = let w = p.within in let k = ap length (take_rest all at) in let d = length-drop at all in omega arith;
      is = p.is
          ∙ in_on (length all - place) _ (drop at all) x (left place l)
          (subst (λ (xs : List ℕ). 12 ≤ length xs) (take_rest all at) long)
          (subst (λ (xs : List ℕ). Ok x ≡ note_of align xs) (take_rest all at) note) found
          ∙ ap (λ (xs : List ℕ). entry_in (length all - (place + 1)) align xs) (sym there);
    }
      where
        there : drop next all ≡ drop x.size (drop at all)
        there =
            let size : min (length (part at)) x.size ≡ min x.size (length (drop at all)) =
            (let k = ap length (take_rest all at) in omega arith) in
            ap (λ (n : ℕ). drop n all) (is ∙ ap (λ (n : ℕ). at + n) size)
            ∙ sym (drop-drop (min x.size (length (drop at all))) at all)
            ∙ drop_min x.size (drop at all)

    pub ended_at : (place at : ℕ) → Passed place at → length all ≤ place → Ok None ≡ entry_in (length all) align all
    ended_at place at p l = sym (p.is ∙ in_none (length all - place) (drop at all) (omega arith))
