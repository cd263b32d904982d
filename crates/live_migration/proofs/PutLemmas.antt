-- Bytes that are put after others.
use Rattle.std.proofs.Common.{◌≡◌, ℕ, ◌+◌, ◌≤◌, List, ◌++◌, length, take, Result, Ok, Err, OnOk, OnErr, refl, sym, ap, ◌∙◌, append_assoc, arith}
use Rattle.std.proofs.lemmas.List.{take_at, take-take, length-append}
use Rattle.live_migration.specs.Frame.{Pages, ZeroPage, spelling}

-- one after the other
pub one_after_other : (new mid old a b : List ℕ) → new ≡ mid ++ b → mid ≡ old ++ a → new ≡ old ++ (a ++ b)
one_after_other new mid old a b e f = e ∙ ap (λ (x : List ℕ). x ++ b) f ∙ append_assoc old a b

-- what was there is still in front
pub front_kept : (new mid old a : List ℕ) → take (length mid) new ≡ mid → mid ≡ old ++ a
    → take (length old) new ≡ old
front_kept new mid old a e f =
    let all : take (length old) (take (length mid) new) ≡ old =
    ap (take (length old)) (e ∙ f) ∙ take_at old a (length old) refl in
    let below : length old ≤ length mid = omega (arith, ap length f, length-append old a) in
    sym (take-take (length old) (length mid) new below) ∙ all

pub ruleset put_after = (one_after_other, front_kept)

-- by how much bytes grow, if they do
grows_by : {X E : Type 0} (r : Result X E) (old new more : List ℕ) (n : ℕ) → OnOk r (new ≡ old ++ more)
    → OnErr r (new ≡ old) → length more ≤ n → length new ≤ length old + n
grows_by (Ok x) old new more n ok err l = omega (arith, ap length ok, length-append old more)
grows_by (Err e) old new more n ok err l = omega (arith, ap length err)

zero_page_len : (block page : ℕ) → length (spelling (ZeroPage block page)) ≡ 20
unfolding spelling
zero_page_len block page = refl

pages_len : (block first : ℕ) (bytes : List ℕ) → length (spelling (Pages block first bytes)) ≡ 20 + length bytes
unfolding spelling
pages_len block first bytes = omega arith

-- a page of zeros takes the head of a frame
pub zero_grows : {X E : Type 0} (r : Result X E) (old new : List ℕ) (number page : ℕ)
    → OnOk r (new ≡ old ++ spelling (ZeroPage number page)) → OnErr r (new ≡ old) → length new ≤ length old + 20
zero_grows r old new number page ok err =
    grows_by r old new (spelling (ZeroPage number page)) 20 ok err (omega (arith, zero_page_len number page))

-- pages that are copied take their bytes and the head of a frame, at most
pub run_grows : {X E : Type 0} (r : Result X E) (old new part : List ℕ) (number first most : ℕ)
    → OnOk r (new ≡ old ++ spelling (Pages number first part)) → OnErr r (new ≡ old) → length part ≤ most
    → length new ≤ length old + (20 + most)
run_grows r old new part number first most ok err l =
    grows_by r old new (spelling (Pages number first part)) (20 + most) ok err
    (omega (arith, pages_len number first part))
