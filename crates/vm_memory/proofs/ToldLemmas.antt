-- Lines, and what is written of their answers.
use Rattle.std.proofs.Common.{◌≡◌, ◌∙◌, ℕ, ◌+◌, ◌-◌, ◌<◌, ◌≤◌, Bool, true, false, nat_eq, cond, List, [], ◌∷◌, ◌++◌, length, take, drop, append_assoc, append-nil, length-drop, Option, Some, None, refl, sym, ap, subst, arith}
use Rattle.std.specs.Io.KnownBytes.{Appends, Keeps}
use Rattle.std.specs.List.{position, position_or_len}
use Rattle.std.proofs.lemmas.Bool.{ltb-true, ltb-false, eqb-true}
use Rattle.std.proofs.lemmas.List.{take_all, take-take, drop-take, take-append-drop}
use Rattle.std.proofs.lemmas.List.Elements.{All-from_get_or}
use Rattle.std.proofs.lemmas.List.Sums.{fails_before_first}
use Rattle.std.proofs.lemmas.List.Splits.{slice_split_first, slice_split_none}
use Rattle.std.proofs.lemmas.Option.{cond_some}
use Rattle.vm_memory.specs.Told.{Puts}
use Rattle.vm_memory.specs.Words.{parts_of}

-- ---- lines

pub lines-first : (text : List ℕ) (end : ℕ) → position (λ b. nat_eq b 10) text ≡ Some end
    → parts_of 10 text ≡ take end text ∷ parts_of 10 (take (length text - (end + 1)) (drop (end + 1) text))
lines-first text end h =
    let found = cond_some _ _ end h in
    let within : position_or_len (λ b. nat_eq b 10) text < length text = ltb-true _ _ found.0 in
    let at : position_or_len (λ b. nat_eq b 10) text ≡ end = found.1 in
    let rest : take (length text - (end + 1)) (drop (end + 1) text) ≡ drop (end + 1) text =
    take_all (length text - (end + 1)) (drop (end + 1) text) (omega (arith, length-drop (end + 1) text)) in
    slice_split_first (λ b. nat_eq b 10) text 0 within
    ∙ ap (λ k. take k text ∷ parts_of 10 (drop (k + 1) text)) found.1
    ∙ ap (λ l. take end text ∷ parts_of 10 l) (sym rest)

none_found : (b : Bool) (k : ℕ) → cond b (Some k) None ≡ None → b ≡ false
none_found true k h = cc h
none_found false k h = refl

pub lines-last : (text : List ℕ) → position (λ b. nat_eq b 10) text ≡ None → parts_of 10 text ≡ text ∷ []
lines-last text h =
    let all : length text ≤ position_or_len (λ b. nat_eq b 10) text = ltb-false _ _ (none_found _ _ h) in
    slice_split_none (λ b. nat_eq b 10) text
    (All-from_get_or (λ b. nat_eq b 10 ≡ false) text 0
    (λ k within. fails_before_first (λ b. nat_eq b 10) text k 0 (omega arith)))

-- ---- what is written

pub appends-none : (c : Option (List ℕ)) → Appends c c []
appends-none None = tt
appends-none (Some xs) = sym (append-nil xs)

pub keeps-appends : (a b : Option (List ℕ)) → Keeps a b → Appends a b []
keeps-appends None b h = tt
keeps-appends (Some xs) None h = h
keeps-appends (Some xs) (Some ys) h = h ∙ sym (append-nil xs)

pub keeps_keeps : (a b c : Option (List ℕ)) → Keeps a b → Keeps b c → Keeps a c
keeps_keeps None b c h k = tt
keeps_keeps (Some xs) None c h k = absurd h
keeps_keeps (Some xs) (Some ys) None h k = k
keeps_keeps (Some xs) (Some ys) (Some zs) h k = k ∙ h

pub keeps_then : (a b c : Option (List ℕ)) (text : List ℕ) → Keeps a b → Appends b c text → Appends a c text
keeps_then None b c text h k = tt
keeps_then (Some xs) None c text h k = absurd h
keeps_then (Some xs) (Some ys) None text h k = k
keeps_then (Some xs) (Some ys) (Some zs) text h k = k ∙ ap (λ l. l ++ text) h

pub appends_appends : (a b c : Option (List ℕ)) (x y : List ℕ) → Appends a b x → Appends b c y → Appends a c (x ++ y)
appends_appends None b c x y h k = tt
appends_appends (Some xs) None c x y h k = absurd h
appends_appends (Some xs) (Some ys) None x y h k = k
appends_appends (Some xs) (Some ys) (Some zs) x y h k = k ∙ ap (λ l. l ++ y) h ∙ append_assoc xs x y

pub ruleset one_after_other = (keeps_keeps, keeps_then, appends_appends)

take-add : (xs : List ℕ) (a b : ℕ) → take (a + b) xs ≡ take a xs ++ take b (drop a xs)
take-add xs a b =
    sym (take-append-drop a (take (a + b) xs))
    ∙ ap (λ l. l ++ drop a (take (a + b) xs)) (take-take a (a + b) xs (omega arith))
    ∙ ap (λ l. take a xs ++ l) (drop-take a b xs)

-- the next bytes of a text are written
pub written-more : (a b c : Option (List ℕ)) (bytes : List ℕ) (n k : ℕ) → n ≤ length bytes
    → Appends a b (take n bytes) → k ≤ length (take (length bytes - n) (drop n bytes))
    → Appends b c (take k (take (length bytes - n) (drop n bytes)))
    → (n + k ≤ length bytes) × Appends a c (take (n + k) bytes)
written-more a b c bytes n k within h fits more =
    let all : take (length bytes - n) (drop n bytes) ≡ drop n bytes =
    take_all (length bytes - n) (drop n bytes) (omega (arith, length-drop n bytes)) in
    let inside : k ≤ length (drop n bytes) = subst (λ l. k ≤ length l) all fits in
    let next : Appends b c (take k (drop n bytes)) = subst (λ l. Appends b c (take k l)) all more in (
      omega (arith, length-drop n bytes),
      subst (Appends a c) (sym (take-add bytes n k)) (appends_appends a b c _ _ h next),
    )

-- bytes of which the first n are written
pub puts-first : (a c : Option (List ℕ)) (bytes : List ℕ) (n : ℕ) → Appends a c (take n bytes)
    → Puts a [] bytes (nat_eq n (length bytes)) c []
puts-first a c bytes n h = go (nat_eq n (length bytes)) refl
  where
    go : (b : Bool) → nat_eq n (length bytes) ≡ b → Puts a [] bytes b c []
    go true e =
        let all : take n bytes ≡ bytes =
        ap (λ k. take k bytes) (eqb-true n (length bytes) e)
        ∙ take_all (length bytes) bytes (omega arith) in
        (bytes, subst (Appends a c) all h, sym (append-nil bytes))
    go false e = (take n bytes, drop n bytes, h, sym (take-append-drop n bytes))

-- what waited is written, and then the text is taken
pub puts_puts : (a b c : Option (List ℕ)) (waiting text left : List ℕ) (r : Bool) → Puts a [] waiting true b []
    → Puts b [] text r c left → Puts a waiting text r c left
puts_puts a b c waiting text left true h k =
    let whole : waiting ≡ h.0 = h.2 ∙ append-nil h.0 in (
      h.0 ++ k.0,
      appends_appends a b c h.0 k.0 h.1 k.1,
      ap (λ l. l ++ text) whole ∙ ap (λ l. h.0 ++ l) k.2
          ∙ sym (append_assoc h.0 k.0 left),
    )
puts_puts a b c waiting text left false h k =
    let whole : waiting ≡ h.0 = h.2 ∙ append-nil h.0 in (
      h.0 ++ k.0,
      k.1,
      appends_appends a b c h.0 k.0 h.1 k.2,
      ap (λ l. l ++ text) whole ∙ ap (λ l. h.0 ++ l) k.3
          ∙ sym (append_assoc h.0 k.0 k.1),
    )

-- what waited is not written as a whole
pub puts-cut : (a b : Option (List ℕ)) (waiting text left : List ℕ) → Puts a [] waiting false b []
    → Puts a waiting text false b left
puts-cut a b waiting text left h =
    (h.0, h.1 ++ text, h.2, ap (λ l. l ++ text) h.3 ∙ append_assoc h.0 h.1 text)
