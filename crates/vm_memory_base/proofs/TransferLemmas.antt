-- Tries of sources, and what bytes in memory give.
use Rattle.std.proofs.Common.{◌≡◌, ℕ, zero, suc, ◌-◌, ◌≤◌, Bool, false, min, List, [], ◌∷◌, ◌++◌, length, take, drop, Option, Result, Ok, refl, sym, ap, ◌∙◌, append-nil, arith}
use Rattle.std.proofs.lemmas.List.{take_rest, drop_all, drop_min, length-drop, length-take-le, length-append}
use borrow.Rule.Slice.PartMut.{put_mid}
use Rattle.vm_memory_base.specs.Transfer.{Next, tried, giving, Reads, ReadsAfter, filled_as, is_short, FillsBy, Stop, Again, WholeOf, Answer}

-- a buffer whose rest is replaced
placed : (done : ℕ) (buf new : List ℕ) → put_mid done (length buf - done) buf new ≡ take done buf ++ new
placed done buf new =
    let none : drop (length buf - done) (drop done buf) ≡ [] =
    drop_all (length buf - done) (drop done buf) (let rest = length-drop done buf in omega arith) in
    ap (λ (xs : List ℕ). take done buf ++ (new ++ xs)) none ∙ ap (λ (xs : List ℕ). take done buf ++ xs) (append-nil new)

pub length-placed : (done : ℕ) (buf new : List ℕ) → done ≤ length buf
    → length new ≡ length (take (length buf - done) (drop done buf))
    → (length (put_mid done (length buf - done) buf new) ≡ length buf)
    × (length (take (length buf - done) (drop done buf)) ≡ length buf - done)
length-placed done buf new within same =
    let rest : length (take (length buf - done) (drop done buf)) ≡ length buf - done =
    ap length (take_rest buf done) ∙ length-drop done buf in
    let a = length-append (take done buf) new in let b = length-take-le done buf within in
    (ap length (placed done buf new) ∙ omega arith, rest)

-- a source, a buffer that it is lent, and whether a try was interrupted
module _ {S : Type 0} (source : S → Option (List Next)) (reads : S → List ℕ → Answer → List ℕ → S → Type 0) where
  pub reads_after : {old new : S} {part : List ℕ} {flag interrupted : Bool} {given answer : Answer}
      (done : ℕ) (buf : List ℕ)
      → Again (Reads source reads) (old, take (length buf - done) (drop done buf), flag) given (new, part, interrupted)
      → given ≡ answer
      → ReadsAfter source reads done (old, buf, flag) answer
      (new, put_mid done (length buf - done) buf part, interrupted)
  reads_after {part = part} done buf tries is =
      (part, rw is at (rw (take_rest buf done) at tries), placed done buf part)

  -- a buffer is filled by reads in turn
  pub fills_by : (known : S → Option ℕ) (s t : S) (start buf : List ℕ) (flag : Bool) (count : ℕ) (stop : Stop)
      (answer : Result (Unit {0}) _) → is_short (known s) (length start) ≡ false
      → WholeOf (ReadsAfter source reads) (length start) (s, start, false) count stop (t, buf, flag)
      → answer ≡ filled_as (length start) flag count stop → FillsBy source reads known s start answer buf t
  fills_by known s t start buf flag count stop answer long whole is = rw long (count, stop, flag, whole, is)

-- a try of bytes that give themselves
pub record GivesFront (n : ℕ) (bs : List ℕ) : Type 0 where
  pub answer : (tried n (giving bs [])).answer ≡ Ok (min n (length bs))
  pub bytes : (tried n (giving bs [])).bytes ≡ take n bs
  pub left : (tried n (giving bs [])).left ≡ giving (drop (min n (length bs)) bs) []

pub gives_front : (n : ℕ) (bs : List ℕ) → GivesFront n bs
gives_front zero [] = record { answer = refl; bytes = refl; left = refl }
gives_front zero (b ∷ bs) =
    let none : min zero (length (b ∷ bs)) ≡ 0 = omega arith in
    record { answer = ap (λ (k : ℕ). Ok k) (sym none); bytes = refl; left = rw none refl }
gives_front (suc n) [] =
    let none : min (suc n) 0 ≡ 0 = omega arith in
    record { answer = ap (λ (k : ℕ). Ok k) (sym none); bytes = refl; left = rw none refl }
gives_front (suc n) (b ∷ bs) = record {
  answer = refl;
  bytes = refl;
  left = ap (λ (xs : List ℕ). giving xs []) (sym (drop_min (suc n) (b ∷ bs)));
}
