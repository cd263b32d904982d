-- Scripts: lines that are answered one after another, and how they end.
use Rattle.std.proofs.Common.{◌≡◌, ◌∙◌, ℕ, suc, ◌+◌, ◌-◌, ◌<◌, ◌≤◌, ◌^◌, min, nat_eq, count_by, true, false, List, [], ◌∷◌, ◌++◌, length, append_assoc, append-nil, length-append, Option, Some, None, IfSome, Result, Ok, Err, refl, sym, ap, subst, arith}
use Rattle.std.specs.Io.KnownBytes.{Appends, Keeps}
use Rattle.std.proofs.lemmas.List.Splits.{length-slice_split}
use Rattle.std.proofs.lemmas.List.Sums.{count_by-le-length}
use Rattle.vm_memory.specs.Script.{Stage, beginning, Answers, AnswersLine, BreaksOff, Ends}
use Rattle.vm_memory.specs.Told.{Puts, Waits, Tells, TellsAll, kept}
use Rattle.vm_memory.specs.Words.{parts_of}
use Rattle.vm_memory.specs.declared.script.DriveFault.{DriveFault}
use Rattle.vm_memory.specs.declared.script.DriveFault.TheVariants as fault
use Rattle.vm_memory.proofs.ToldLemmas.{appends-none, appends_appends, keeps-appends}

-- one line more is answered
answers-push : (old mid new : Stage) (lines : List (List ℕ)) (text : List ℕ) (line own : List ℕ)
    → Answers old lines text mid → AnswersLine mid line own new → Answers old (lines ++ line ∷ []) (text ++ own) new
answers-push old mid new [] text line own h k =
    let start : AnswersLine old line own new = subst (λ s. AnswersLine s line own new) h.1 k in
    (own, [], new, start, (refl, refl), ap (λ l. l ++ own) h.0 ∙ sym (append-nil own))
answers-push old mid new (first ∷ lines) text line own h k =
    let others = answers-push h.2 mid new lines h.1 line own h.4 k in
    (h.0, h.1 ++ own, h.2, h.3, others, ap (λ l. l ++ own) h.5 ∙ append_assoc h.0 h.1 own)

-- what was answered so far, and what of it is written
pub record Progress (before : Option (List ℕ)) (all left : List (List ℕ)) (stage : Stage) (n : ℕ)
    (now : Option (List ℕ)) (waiting : List ℕ) : Type 0 where
  pub done : List (List ℕ)
  pub text : List ℕ
  pub sent : List ℕ
  pub split : all ≡ done ++ left
  pub answered : Answers beginning done text stage
  pub written : Appends before now sent
  pub whole : text ≡ sent ++ waiting
  pub count : n ≡ length done

pub progress-start : (before : Option (List ℕ)) (all : List (List ℕ)) (stage : Stage) (waiting : List ℕ)
    → stage ≡ beginning → waiting ≡ [] → Progress before all all stage 0 before waiting
progress-start before all stage waiting at none = record {
  done = [];
  text = [];
  sent = [];
  split = refl;
  answered = (refl, at);
  written = appends-none before;
  whole = sym none;
  count = refl;
}

-- what is sent of a text that was taken
sent_of : (text waiting own sent left : List ℕ) (first : List ℕ) → text ≡ first ++ waiting
    → waiting ++ own ≡ sent ++ left → text ++ own ≡ (first ++ sent) ++ left
sent_of text waiting own sent left first h k =
    ap (λ l. l ++ own) h ∙ append_assoc first waiting own ∙ ap (λ l. first ++ l) k ∙ sym (append_assoc first sent left)

behind : (all done left : List (List ℕ)) (line : List ℕ) → all ≡ done ++ line ∷ left → all ≡ (done ++ line ∷ []) ++ left
behind all done left line h = h ∙ sym (append_assoc done (line ∷ []) left)

pub progress-more : (before now after : Option (List ℕ)) (all left : List (List ℕ)) (line : List ℕ) (old new : Stage)
    (n m : ℕ) (waiting kept : List ℕ) (done : Unit {0}) → Progress before all (line ∷ left) old n now waiting
    → m ≡ n + 1 → Tells old line m (Ok done) new now waiting after kept → Progress before all left new m after kept
progress-more before now after all left line old new n m waiting kept done p e h =
    let puts = h.2 in record {
      done = p.done ++ line ∷ [];
      text = p.text ++ h.0;
      sent = p.sent ++ puts.0;
      split = behind all p.done left line p.split;
      answered = answers-push beginning old new p.done p.text line h.0 p.answered h.1;
      written = appends_appends before now after p.sent puts.0 p.written puts.1;
      whole = sent_of p.text waiting h.0 puts.0 kept p.sent p.whole puts.2;
      count = e ∙ ap (λ k. k + 1) p.count ∙ sym (length-append p.done (line ∷ []));
    }

pub progress-end : (before now : Option (List ℕ)) (all left : List (List ℕ)) (stage : Stage) (n : ℕ) (waiting : List ℕ)
    (u : Unit {0}) → Progress before all left stage n now waiting → left ≡ [] → TellsAll all (Ok u) before now waiting
progress-end before now all left stage n waiting u p none =
    let whole : p.done ≡ all = sym (p.split ∙ ap (λ l. p.done ++ l) none ∙ append-nil p.done) in
    let answered = subst (λ t. Answers beginning p.done t stage) p.whole p.answered in
    (p.sent, p.written, (stage, subst (λ l. Answers beginning l (p.sent ++ waiting) stage) whole answered))

-- nothing more was sent
waited : (before now after : Option (List ℕ)) (sent waiting kept : List ℕ) → Appends before now sent
    → Waits now waiting after kept → Appends before after (sent ++ []) × ((sent ++ []) ++ kept ≡ sent ++ waiting)
waited before now after sent waiting kept h w =
    (appends_appends before now after sent [] h w.0, ap (λ l. l ++ kept) (append-nil sent) ∙ ap (λ l. sent ++ l) w.1)

pub progress-err : (before now after : Option (List ℕ)) (all left : List (List ℕ)) (line : List ℕ) (old new : Stage)
    (n m : ℕ) (waiting left_over : List ℕ) (e : DriveFault) → Progress before all (line ∷ left) old n now waiting
    → m ≡ n + 1 → Tells old line m (Err e) new now waiting after left_over → TellsAll all (Err e) before after left_over
progress-err before now after all left line old new n m waiting left_over (fault.BadLine k) p at h =
    let w = waited before now after p.sent waiting left_over p.written h.2 in
    let text : p.text ≡ (p.sent ++ []) ++ left_over = p.whole ∙ sym w.1 in (
      p.sent ++ [],
      w.0,
      (
        p.done,
        line,
        left,
        old,
        p.split,
        h.0 ∙ at ∙ ap (λ j. j + 1) p.count,
        subst (λ t. Answers beginning p.done t old) text p.answered,
        h.1,
      ),
    )
progress-err before now after all left line old new n m waiting left_over fault.Read p at h =
    let w = waited before now after p.sent waiting left_over p.written h in
    let text = p.whole ∙ sym w.1 ∙ sym (append-nil ((p.sent ++ []) ++ left_over)) in
    (p.sent ++ [], w.0, (p.done, line ∷ left, p.text, [], old, p.split, p.answered, text))
progress-err before now after all left line old new n m waiting left_over fault.Memory p at h =
    let w = waited before now after p.sent waiting left_over p.written h in
    let text = p.whole ∙ sym w.1 ∙ sym (append-nil ((p.sent ++ []) ++ left_over)) in
    (p.sent ++ [], w.0, (p.done, line ∷ left, p.text, [], old, p.split, p.answered, text))
progress-err before now after all left line old new n m waiting left_over fault.Write p at h =
    let puts = h.3 in
    let sent = p.sent ++ puts.0 in (
      sent,
      appends_appends before now after p.sent puts.0 p.written puts.2,
      (
        p.done ++ line ∷ [],
        left,
        p.text ++ h.0,
        puts.1,
        h.1,
        behind all p.done left line p.split,
        answers-push beginning old h.1 p.done p.text line h.0 p.answered h.2,
        sent_of p.text waiting h.0 puts.0 puts.1 p.sent p.whole puts.3
            ∙ ap (λ l. l ++ puts.1) (sym (append-nil sent)),
      ),
    )

-- a line that is left has a number of 64 bits
pub next-number : (before now : Option (List ℕ)) (text : List ℕ) (all left : List (List ℕ)) (line : List ℕ)
    (stage : Stage) (n m : ℕ) (waiting : List ℕ) → Progress before all (line ∷ left) stage n now waiting
    → all ≡ parts_of 10 text → length text + 1 < 2 ^ 64 → m ≡ min (n + 1) (2 ^ 64 - 1) → m ≡ n + 1
next-number before now text all left line stage n m waiting p is short number =
    let count : length all ≡ length p.done + suc (length left) =
    ap length p.split ∙ length-append p.done (line ∷ left) in
    let lines : length all ≡ count_by (λ b. nat_eq b 10) text + 1 =
    ap length is ∙ length-slice_split (λ b. nat_eq b 10) text in
    let most : count_by (λ b. nat_eq b 10) text ≤ length text = count_by-le-length (λ b. nat_eq b 10) text in
    let here = p.count in
    omega arith

-- nothing was written of a script that did not begin
pub none_begun : (lines : List (List ℕ)) (e : DriveFault) (before : Option (List ℕ)) (waiting : List ℕ)
    → e ≡ fault.Memory → waiting ≡ [] → TellsAll lines (Err e) before before waiting
none_begun lines e before waiting is none =
    subst (λ f. TellsAll lines (Err f) before before waiting) (sym is)
    ([], appends-none before, ([], lines, [], [], beginning, refl, (refl, refl), sym (append-nil waiting ∙ none)))

-- ---- what is still to be written

-- what was written is the beginning of what the lines are answered
breaks-off : (lines : List (List ℕ)) (r : Result (Unit {0}) DriveFault) (written rest : List ℕ)
    → Ends lines r (written ++ rest) → BreaksOff lines written
breaks-off lines (Ok done) written rest h =
    (lines, [], written ++ rest, rest, h.0, sym (append-nil lines), h.1, refl)
breaks-off lines (Err (fault.BadLine n)) written rest h =
    (h.0, h.1 ∷ h.2, written ++ rest, rest, h.3, h.4, h.6, refl)
breaks-off lines (Err fault.Read) written rest h =
    (h.0, h.1, h.2, rest ++ h.3, h.4, h.5, h.6, h.7 ∙ append_assoc written rest h.3)
breaks-off lines (Err fault.Write) written rest h =
    (h.0, h.1, h.2, rest ++ h.3, h.4, h.5, h.6, h.7 ∙ append_assoc written rest h.3)
breaks-off lines (Err fault.Memory) written rest h =
    (h.0, h.1, h.2, rest ++ h.3, h.4, h.5, h.6, h.7 ∙ append_assoc written rest h.3)

-- a write failed before
pub ends-failed : (lines : List (List ℕ)) (before now : Option (List ℕ)) (waiting : List ℕ)
    → TellsAll lines (Err fault.Write) before now waiting
    → (written : List ℕ) × Appends before now written × Ends lines (Err fault.Write) written
ends-failed lines before now waiting h = (h.0 ++ [], subst (Appends before now) (sym (append-nil h.0)) h.1, h.2)

-- all that waits is written
pub ends-whole : (lines : List (List ℕ)) (r : Result (Unit {0}) DriveFault) (before now mid after : Option (List ℕ))
    (waiting : List ℕ) → TellsAll lines r before now waiting → kept r waiting ≡ waiting
    → Puts now [] waiting true mid [] → Keeps mid after
    → (written : List ℕ) × Appends before after written × Ends lines r written
ends-whole lines r before now mid after waiting h all puts kept =
    let whole : puts.0 ≡ waiting = sym (puts.2 ∙ append-nil puts.0) in
    let sent = appends_appends before now mid h.0 puts.0 h.1 puts.1 in
    let written = subst (Appends before after) (append-nil (h.0 ++ puts.0))
    (appends_appends before mid after (h.0 ++ puts.0) [] sent (keeps-appends mid after kept)) in
    (h.0 ++ puts.0, written, subst (Ends lines r) (ap (λ l. h.0 ++ l) (all ∙ sym whole)) h.2)

-- the output fails, also after the whole was written
pub ends-cut : (lines : List (List ℕ)) (r : Result (Unit {0}) DriveFault) (before now after : Option (List ℕ))
    (waiting : List ℕ) → TellsAll lines r before now waiting → kept r waiting ≡ waiting
    → Puts now [] waiting false after []
    → (written : List ℕ) × Appends before after written × Ends lines (Err fault.Write) written
ends-cut lines r before now after waiting h all puts =
    let sent = h.0 ++ puts.0 in
    let split : h.0 ++ kept r waiting ≡ sent ++ puts.1 =
    ap (λ l. h.0 ++ l) (all ∙ puts.3) ∙ sym (append_assoc h.0 puts.0 puts.1) in (
      sent,
      appends_appends before now after h.0 puts.0 h.1 puts.2,
      breaks-off lines r sent puts.1 (subst (Ends lines r) split h.2),
    )

pub ends-unflushed : (lines : List (List ℕ)) (r : Result (Unit {0}) DriveFault)
    (before now mid after : Option (List ℕ)) (waiting : List ℕ) → TellsAll lines r before now waiting
    → kept r waiting ≡ waiting → Puts now [] waiting true mid [] → Keeps mid after
    → (written : List ℕ) × Appends before after written × Ends lines (Err fault.Write) written
ends-unflushed lines r before now mid after waiting h all puts kept =
    let whole = ends-whole lines r before now mid after waiting h all puts kept in
    (whole.0, whole.1, breaks-off lines r whole.0 [] (subst (Ends lines r) (sym (append-nil whole.0)) whole.2))

-- what holds of the bytes that were read holds of those that were known
pub of_known : (known : Option (List ℕ)) (bytes : List ℕ) (P : List ℕ → Type 0) → IfSome known (λ all. bytes ≡ all)
    → P bytes → IfSome known P
of_known None bytes P h p = tt
of_known (Some all) bytes P h p = subst P h p
