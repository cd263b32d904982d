-- Words as they are read.
use Rattle.std.proofs.Common.{◌≡◌, ◌∙◌, ℕ, ◌<◌, Bool, true, false, cond, nat_eq, List, [], ◌∷◌, ◌++◌, append_assoc, append-nil, length, Option, Some, None, Result, Ok, Err, refl, sym, ap}
use Rattle.std.specs.Bool.{Decides}
use Rattle.std.specs.Borrow.{Bor}
use Rattle.std.specs.Char.{is_digit}
use Rattle.std.specs.List.{list_all}
use Rattle.std.specs.Option.{MatchOption}
use Rattle.std.specs.Result.{OkIff, result_ok}
use Rattle.std.specs.Str.Parse.{AllDigits, IsNumeral, ParsesUnsigned, without_leading_plus}
use Rattle.std.proofs.lemmas.Bool.{ne_eqb}
use Rattle.std.proofs.lemmas.Bool.Decides.{Decides-and, Decides-ltb}
use Rattle.std.proofs.lemmas.List.Elements.{All-from_get_or}
use Rattle.std.proofs.lemmas.List.Splits.{slice_split_none, slice_split_first}
use Rattle.std.proofs.lemmas.Str.Pattern.{IsSplitOnceResult, split_parts, split_once_first}
use Rattle.vm_memory.specs.Words.{parts_of}
use Rattle.vm_memory.specs.Reading.{after_front, each, is_numeral, number_in, ◌>>=◌}

-- the first part of a text, and what is after it
pub parts_of-first : (c : ℕ) (text : List ℕ) (r : Option (Bor (List ℕ) × Bor (List ℕ))) → IsSplitOnceResult c text r
    → c < 128 → MatchOption r (parts_of c text ≡ text ∷ []) (λ x. parts_of c text ≡ x.0.now ∷ parts_of c x.1.now)
parts_of-first c text None h low =
    let apart = split_parts c text None h low in
    slice_split_none (λ b. nat_eq b c) text
    (All-from_get_or (λ b. nat_eq b c ≡ false) text 0 (λ i within. ne_eqb _ c (apart i within)))
parts_of-first c text (Some x) h low =
    let parts = split_once_first c text (Some x) h low in
    slice_split_first (λ b. nat_eq b c) text 0 parts.0 ∙ cc (sym parts.1, sym parts.2)

pub Decides-digits : (radix : ℕ) (ds : List ℕ) → Decides (list_all (λ c. is_digit c radix) ds) (AllDigits radix ds)
Decides-digits radix [] = (λ e. tt, λ d. refl)
Decides-digits radix (c ∷ cs) = Decides-and _ _ (Decides-ltb _ _) (Decides-digits radix cs)

pub Decides-numeral : (radix : ℕ) (ds : List ℕ) → Decides (is_numeral radix ds) (IsNumeral radix ds)
Decides-numeral radix ds = Decides-and _ _ (Decides-ltb 0 (length ds)) (Decides-digits radix ds)

-- what answers exactly where P holds answers by a test of P
pub result_ok-test : {T E : Type 0} (r : Result T E) (P : Type 0) (v : T) (b : Bool) → OkIff r P v → Decides b P
    → result_ok r ≡ cond b (Some v) None
result_ok-test (Ok x) P v b h d = rw (d.1 h.0, h.1) refl
result_ok-test (Err e) P v true h d = absurd (h (d.0 refl))
result_ok-test (Err e) P v false h d = refl

-- a conversion that takes a plus sign, at digits that begin with none
pub number_in-parse : {E : Type 0} (radix : ℕ) (ds : List ℕ) (r : Result ℕ E) → ParsesUnsigned 64 radix ds r
    → without_leading_plus ds ≡ ds → result_ok r ≡ number_in radix ds
number_in-parse radix ds r h e =
    let plain = rw e at h in
    result_ok-test r _ _ _ plain (Decides-and _ _ (Decides-numeral radix ds) (Decides-ltb _ _))

after_front-more : {A : Type 0} (front : List A) (x : A) (o : Option (List A))
    → after_front front (o >>= (λ xs. Some (x ∷ xs))) ≡ after_front (front ++ x ∷ []) o
after_front-more front x None = refl
after_front-more front x (Some xs) = ap Some (sym (append_assoc front (x ∷ []) xs))

-- one more text is read
pub each_more : {A : Type 0} (f : List ℕ → Option A) (text : List ℕ) (texts whole : List (List ℕ))
    (front : List A) (x : A)
    → each f whole ≡ after_front front (each f (text ∷ texts)) → f text ≡ Some x
    → each f whole ≡ after_front (front ++ x ∷ []) (each f texts)
unfolding each
each_more f text texts whole front x h e =
    h ∙ ap (λ o. after_front front (o >>= (λ y. each f texts >>= (λ xs. Some (y ∷ xs))))) e
    ∙ after_front-more front x (each f texts)

-- a text that spells nothing
pub each_none : {A : Type 0} (f : List ℕ → Option A) (text : List ℕ) (texts whole : List (List ℕ)) (front : List A)
    → each f whole ≡ after_front front (each f (text ∷ texts)) → f text ≡ None → each f whole ≡ None
unfolding each
each_none f text texts whole front h e =
    h ∙ ap (λ o. after_front front (o >>= (λ y. each f texts >>= (λ xs. Some (y ∷ xs))))) e

-- no text is left
pub each_all : {A : Type 0} (f : List ℕ → Option A) (left whole : List (List ℕ)) (front : List A)
    → each f whole ≡ after_front front (each f left) → left ≡ [] → each f whole ≡ Some front
unfolding each
each_all f left whole front h e = h ∙ ap (λ ws. after_front front (each f ws)) e ∙ ap Some (append-nil front)

pub ruleset each_word = (each_all, each_more, each_none)

pub each-start : {A : Type 0} (o : Option (List A)) → o ≡ after_front [] o
each-start None = refl
each-start (Some xs) = refl
