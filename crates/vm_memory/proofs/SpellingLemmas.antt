-- What is read of a word is what the word spells.
use Rattle.std.proofs.Common.{◌≡◌, ◌≢◌, ◌∙◌, ℕ, ◌<◌, ◌≤◌, ◌^◌, Bool, true, false, cond, nat_eq, nat_lt, List, [], ◌∷◌, ◌++◌, length, drop, Option, Some, None, Result, Ok, Err, refl, sym, ap, subst, inl, inr, ◌⊎◌, arith, codes}
use Rattle.std.specs.List.{starts_with}
use Rattle.std.specs.Result.{result_ok}
use Rattle.std.specs.Str.{bytes_eq}
use Rattle.std.specs.Str.Parse.{digits_value}
use Rattle.std.proofs.lemmas.Bool.{both_ways, and_parts, and_from, ltb-true, ltb-false, lt-ltb, le-ltb}
use Rattle.std.proofs.lemmas.Bool.Decides.{Decides-eqb}
use Rattle.std.proofs.lemmas.Option.{cond_some, same_Some, none-some}
use Rattle.std.proofs.lemmas.Slice.Eq.{starts_is, bytes_eq-Decides}
use Rattle.hex.specs.Hex.{decode_of}
use Rattle.vm_memory_base.specs.declared.io.scripted.SourceStep.{SourceStep}
use Rattle.vm_memory_base.specs.declared.io.scripted.SourceStep.TheVariants as source
use Rattle.vm_memory_base.specs.declared.io.scripted.SinkStep.{SinkStep}
use Rattle.vm_memory_base.specs.declared.io.scripted.SinkStep.TheVariants as sink
use Rattle.vm_memory.specs.Words.{Each, Writes, IsNumber, IsBytes, IsSourceStep, IsSinkStep, AreSteps, parts_of}
use Rattle.vm_memory.specs.Reading.{each, number_in, number_of, bytes_of, source_step_of, source_of, sink_step_of, sink_of, ◌>>=◌}
use Rattle.vm_memory.proofs.WordLemmas.{Decides-numeral}

-- f reads what is spelled
pub record Reads {A : Type 0} (f : List ℕ → Option A) (Spells : List ℕ → A → Type 0) : Type 0 where
  pub to : (text : List ℕ) (x : A) → f text ≡ Some x → Spells text x
  pub from : (text : List ℕ) (x : A) → Spells text x → f text ≡ Some x

-- and so of several texts
pub record ReadsAll {A : Type 0} (f : List (List ℕ) → Option (List A)) (Spell : List (List ℕ) → List A → Type 0)
    : Type 0 where
  pub to : (texts : List (List ℕ)) (xs : List A) → f texts ≡ Some xs → Spell texts xs
  pub from : (texts : List (List ℕ)) (xs : List A) → Spell texts xs → f texts ≡ Some xs

pub chosen : {A : Type 0} (b : Bool) (x y : Option A) (z : A) → cond b x y ≡ Some z
    → ((b ≡ true) × (x ≡ Some z)) ⊎ ((b ≡ false) × (y ≡ Some z))
chosen true x y z h = inl (refl, h)
chosen false x y z h = inr (refl, h)

-- both steps gave a value
pub both_read : {A B : Type 0} (o : Option A) (f : A → Option B) (y : B) → (o >>= f) ≡ Some y
    → (x : A) × (o ≡ Some x) × (f x ≡ Some y)
both_read None f y h = absurd (none-some y h)
both_read (Some x) f y h = (x, refl, h)

pub first : {A : Type 0} (b : Bool) (x y : A) → b ≡ true → cond b x y ≡ x
first b x y h = ap (λ t. cond t x y) h

pub second : {A : Type 0} (b : Bool) (x y : A) → b ≡ false → cond b x y ≡ y
second b x y h = ap (λ t. cond t x y) h

pub not_true : (b : Bool) → (b ≡ true → ⊥) → b ≡ false
not_true true h = absurd (h refl)
not_true false h = refl

-- a text that begins so
pub begins : (text front : List ℕ) → starts_with nat_eq text front ≡ true → text ≡ front ++ drop (length front) text
begins text front = (starts_is Decides-eqb text front _ refl).0

pub begins-from : (text front rest : List ℕ) → text ≡ front ++ rest → starts_with nat_eq text front ≡ true
begins-from text front rest = (starts_is Decides-eqb text front _ refl).1 rest

-- ---- numbers

number_in-to : (radix : ℕ) (digits : List ℕ) (n : ℕ) → number_in radix digits ≡ Some n
    → (n < 2 ^ 64) × Writes radix digits n
number_in-to radix digits n h =
    let found = cond_some _ _ n h in
    let parts = and_parts _ _ found.0 in
    (subst (λ v. v < 2 ^ 64) found.1 (ltb-true _ _ parts.1), ((Decides-numeral radix digits).0 parts.0, found.1))

number_in-from : (radix : ℕ) (digits : List ℕ) (n : ℕ) → n < 2 ^ 64 → Writes radix digits n
    → number_in radix digits ≡ Some n
number_in-from radix digits n small h =
    let below : digits_value radix digits < 2 ^ 64 = rw h.1 small in
    let holds = and_from _ _ ((Decides-numeral radix digits).1 h.0) (lt-ltb _ _ below) in
    ap (λ b. cond b (Some (digits_value radix digits)) None) holds ∙ ap Some h.1

-- no decimal digits begin with 0x
no_prefix : (digits : List ℕ) (n : ℕ) → Writes 10 (codes "0x" ++ digits) n → ⊥
no_prefix digits n h = let x = h.0.1.1.0 in omega arith

pub reads-number : Reads number_of IsNumber
unfolding number_of
reads-number = record { to = to; from = from }
  where
    to : (word : List ℕ) (n : ℕ) → number_of word ≡ Some n → IsNumber word n
    to word n h =
        elim (chosen (starts_with nat_eq word (codes "0x")) _ _ n h) [
          | inl hexadecimal ↦
              elim (chosen (nat_lt 16 (length (drop 2 word))) None _ n hexadecimal.1) [
                | inl long ↦ absurd (none-some n long.1)
                | inr short ↦
                    let read = number_in-to 16 (drop 2 word) n short.1 in
                    (read.0, inr (drop 2 word, begins word (codes "0x") hexadecimal.0, ltb-false _ _ short.0, read.1))
              ]
          | inr decimal ↦ let read = number_in-to 10 word n decimal.1 in (read.0, inl read.1)
        ]

    from : (word : List ℕ) (n : ℕ) → IsNumber word n → number_of word ≡ Some n
    from word n h =
        elim (h.1) [
          | inl decimal ↦
              let plain : starts_with nat_eq word (codes "0x") ≡ false =
              not_true _
              (λ e. no_prefix (drop 2 word) n (subst (λ w. Writes 10 w n) (begins word (codes "0x") e) decimal)) in
              second _ _ _ plain ∙ number_in-from 10 word n h.0 decimal
          | inr hexadecimal ↦
              let rest : drop 2 word ≡ hexadecimal.0 = ap (drop 2) hexadecimal.1 in
              let short : nat_lt 16 (length (drop 2 word)) ≡ false =
              le-ltb _ _ (subst (λ ds. length ds ≤ 16) (sym rest) hexadecimal.2) in
              first _ _ _ (begins-from word (codes "0x") hexadecimal.0 hexadecimal.1)
              ∙ second _ _ _ short ∙ ap (number_in 16) rest ∙ number_in-from 16 hexadecimal.0 n h.0 hexadecimal.3
        ]

-- ---- words that stand for a value

pub same_word : (word text : List ℕ) → bytes_eq word text ≡ true → word ≡ text
same_word word text = (bytes_eq-Decides word text).0

pub other_word : (word text : List ℕ) → word ≢ text → bytes_eq word text ≡ false
other_word word text apart = not_true _ (λ e. apart ((bytes_eq-Decides word text).0 e))

-- ---- lists of texts

each-to : {A : Type 0} (f : List ℕ → Option A) (Spells : List ℕ → A → Type 0)
    → ((text : List ℕ) (x : A) → f text ≡ Some x → Spells text x)
    → (texts : List (List ℕ)) (xs : List A) → each f texts ≡ Some xs → Each Spells texts xs
unfolding each
each-to f Spells h [] [] e = tt
each-to f Spells h [] (x ∷ xs) e = cc e
each-to f Spells h (text ∷ texts) [] e =
    let a = both_read (f text) _ [] e in let b = both_read (each f texts) _ [] a.2 in cc (b.2)
each-to f Spells h (text ∷ texts) (x ∷ xs) e =
    let a = both_read (f text) _ (x ∷ xs) e in
    let b = both_read (each f texts) _ (x ∷ xs) a.2 in
    let same = same_Some _ _ b.2 in
    let head : a.0 ≡ x = cc same in
    let tail : b.0 ≡ xs = cc same in
    (h text x (a.1 ∙ ap Some head), each-to f Spells h texts xs (b.1 ∙ ap Some tail))

each-from : {A : Type 0} (f : List ℕ → Option A) (Spells : List ℕ → A → Type 0)
    → ((text : List ℕ) (x : A) → Spells text x → f text ≡ Some x)
    → (texts : List (List ℕ)) (xs : List A) → Each Spells texts xs → each f texts ≡ Some xs
unfolding each
each-from f Spells h [] [] e = refl
each-from f Spells h [] (x ∷ xs) e = absurd e
each-from f Spells h (text ∷ texts) [] e = absurd e
each-from f Spells h (text ∷ texts) (x ∷ xs) e = rw (h text x e.0, each-from f Spells h texts xs e.1) refl

pub reads-each : {A : Type 0} (f : List ℕ → Option A) (Spells : List ℕ → A → Type 0) → Reads f Spells
    → ReadsAll (each f) (Each Spells)
reads-each f Spells h = record { to = each-to f Spells h.to; from = each-from f Spells h.from }

-- ---- bytes

decoded : {E : Type 0} (r : Result (List ℕ) E) (bytes : List ℕ) → result_ok r ≡ Some bytes → r ≡ Ok bytes
decoded (Ok x) bytes h = ap Ok (same_Some x bytes h)
decoded (Err e) bytes h = absurd (none-some bytes h)

no_dash : (bytes : List ℕ) → decode_of (codes "-") ≡ Ok bytes → ⊥
no_dash bytes h = cc h

pub reads-bytes : Reads bytes_of IsBytes
reads-bytes = record { to = to; from = from }
  where
    to : (word : List ℕ) (bytes : List ℕ) → bytes_of word ≡ Some bytes → IsBytes word bytes
    to word bytes h =
        elim (chosen (bytes_eq word (codes "-")) _ _ bytes h) [
          | inl none ↦ inl (same_word word (codes "-") none.0, sym (same_Some _ _ none.1))
          | inr some ↦
              elim (chosen (bytes_eq word []) None _ bytes some.1) [
                | inl empty ↦ absurd (none-some bytes empty.1)
                | inr pairs ↦ inr (λ e. both_ways _ pairs.0 ((bytes_eq-Decides word []).1 e), decoded _ bytes pairs.1)
              ]
        ]

    from : (word : List ℕ) (bytes : List ℕ) → IsBytes word bytes → bytes_of word ≡ Some bytes
    from word bytes (inl none) = first _ _ _ ((bytes_eq-Decides word (codes "-")).1 none.0) ∙ ap Some (sym none.1)
    from word bytes (inr some) =
        second _ _ _ (other_word word (codes "-") (λ e. no_dash bytes (subst (λ w. decode_of w ≡ Ok bytes) e some.1)))
        ∙ second _ _ _ (other_word word [] some.0) ∙ ap result_ok some.1

-- ---- what sources and sinks do

-- a letter and a colon, and what is made of the bytes after them
step-to : (front text : List ℕ) (make : List ℕ → SourceStep) (step : SourceStep)
    → starts_with nat_eq text front ≡ true → (bytes_of (drop (length front) text) >>= (λ b. Some (make b))) ≡ Some step
    → (word : List ℕ) × (bytes : List ℕ) × (text ≡ front ++ word) × IsBytes word bytes × (make bytes ≡ step)
step-to front text make step b h =
    let read = both_read (bytes_of (drop (length front) text)) _ step h in (
      drop (length front) text,
      read.0,
      begins text front b,
      reads-bytes.to _ read.0 read.1,
      same_Some _ _ read.2,
    )

step-from : (word bytes : List ℕ) (make : List ℕ → SourceStep) → IsBytes word bytes
    → (bytes_of word >>= (λ b. Some (make b))) ≡ Some (make bytes)
step-from word bytes make h = rw (reads-bytes.from word bytes h) refl

apart : (text front other word : List ℕ) → text ≡ other ++ word → starts_with nat_eq (other ++ word) front ≡ false
    → starts_with nat_eq text front ≡ false
apart text front other word e h = ap (λ t. starts_with nat_eq t front) e ∙ h

pub reads-source_step : Reads source_step_of IsSourceStep
reads-source_step = record { to = to; from = from }
  where
    to : (text : List ℕ) (step : SourceStep) → source_step_of text ≡ Some step → IsSourceStep text step
    to text step h =
        elim (chosen (starts_with nat_eq text (codes "g:")) _ _ step h) [
          | inl give ↦
              let read = step-to (codes "g:") text source.Give step give.0 give.1 in
              subst (IsSourceStep text) read.4 (read.0, read.2, read.3)
          | inr others ↦
              elim (chosen (starts_with nat_eq text (codes "i:")) _ _ step others.1) [
                | inl interrupted ↦
                    let read = step-to (codes "i:") text source.Interrupted step interrupted.0 interrupted.1 in
                    subst (IsSourceStep text) read.4 (read.0, read.2, read.3)
                | inr last ↦
                    elim (chosen (starts_with nat_eq text (codes "f:")) _ None step last.1) [
                      | inl fail ↦
                          let read = step-to (codes "f:") text source.Fail step fail.0 fail.1 in
                          subst (IsSourceStep text) read.4 (read.0, read.2, read.3)
                      | inr none ↦ absurd (none-some step none.1)
                    ]
              ]
        ]

    from : (text : List ℕ) (step : SourceStep) → IsSourceStep text step → source_step_of text ≡ Some step
    from text (source.Give bytes) h =
        let rest : drop 2 text ≡ h.0 = ap (drop 2) h.1 in
        first _ _ _ (begins-from text (codes "g:") h.0 h.1)
        ∙ ap (λ w. bytes_of w >>= (λ b. Some (source.Give b))) rest ∙ step-from h.0 bytes source.Give h.2
    from text (source.Interrupted bytes) h =
        let rest : drop 2 text ≡ h.0 = ap (drop 2) h.1 in
        second _ _ _ (apart text (codes "g:") (codes "i:") h.0 h.1 refl)
        ∙ first _ _ _ (begins-from text (codes "i:") h.0 h.1)
        ∙ ap (λ w. bytes_of w >>= (λ b. Some (source.Interrupted b))) rest ∙ step-from h.0 bytes source.Interrupted h.2
    from text (source.Fail bytes) h =
        let rest : drop 2 text ≡ h.0 = ap (drop 2) h.1 in
        second _ _ _ (apart text (codes "g:") (codes "f:") h.0 h.1 refl)
        ∙ second _ _ _ (apart text (codes "i:") (codes "f:") h.0 h.1 refl)
        ∙ first _ _ _ (begins-from text (codes "f:") h.0 h.1)
        ∙ ap (λ w. bytes_of w >>= (λ b. Some (source.Fail b))) rest ∙ step-from h.0 bytes source.Fail h.2

pub reads-sink_step : Reads sink_step_of IsSinkStep
reads-sink_step = record { to = to; from = from }
  where
    to : (text : List ℕ) (step : SinkStep) → sink_step_of text ≡ Some step → IsSinkStep text step
    to text step h =
        elim (chosen (starts_with nat_eq text (codes "t:")) _ _ step h) [
          | inl take ↦
              let read = both_read (number_of (drop 2 text)) _ step take.1 in
              subst (IsSinkStep text) (same_Some _ _ read.2)
              (drop 2 text, begins text (codes "t:") take.0, reads-number.to _ read.0 read.1)
          | inr others ↦
              elim (chosen (bytes_eq text (codes "i")) _ _ step others.1) [
                | inl interrupted ↦
                    subst (IsSinkStep text) (same_Some _ _ interrupted.1) (same_word text (codes "i") interrupted.0)
                | inr last ↦
                    elim (chosen (bytes_eq text (codes "f")) _ None step last.1) [
                      | inl fail ↦ subst (IsSinkStep text) (same_Some _ _ fail.1) (same_word text (codes "f") fail.0)
                      | inr none ↦ absurd (none-some step none.1)
                    ]
              ]
        ]

    from : (text : List ℕ) (step : SinkStep) → IsSinkStep text step → sink_step_of text ≡ Some step
    from text (sink.Take most) h =
        let rest : drop 2 text ≡ h.0 = ap (drop 2) h.1 in
        first _ _ _ (begins-from text (codes "t:") h.0 h.1)
        ∙ ap (λ w. number_of w >>= (λ n. Some (sink.Take n))) rest ∙ rw (reads-number.from h.0 most h.2) refl
    from text sink.Interrupted h = ap sink_step_of h
    from text sink.Fail h = ap sink_step_of h

steps-to : {A : Type 0} (f : List ℕ → Option A) (IsStep : List ℕ → A → Type 0) → Reads f IsStep
    → (word : List ℕ) (steps : List A)
    → cond (bytes_eq word (codes "-")) (Some []) (each f (parts_of 44 word)) ≡ Some steps → AreSteps IsStep word steps
steps-to f IsStep h word steps e =
    elim (chosen (bytes_eq word (codes "-")) _ _ steps e) [
      | inl none ↦ inl (same_word word (codes "-") none.0, sym (same_Some _ _ none.1))
      | inr some ↦ inr ((reads-each f IsStep h).to _ steps some.1)
    ]

-- a dash alone is one part, a dash
no_step : {A : Type 0} (f : List ℕ → Option A) → f (codes "-") ≡ None → each f (parts_of 44 (codes "-")) ≡ None
unfolding each
no_step f dash = rw dash refl

steps-from : {A : Type 0} (f : List ℕ → Option A) (IsStep : List ℕ → A → Type 0) → Reads f IsStep
    → f (codes "-") ≡ None → (word : List ℕ) (steps : List A) → AreSteps IsStep word steps
    → cond (bytes_eq word (codes "-")) (Some []) (each f (parts_of 44 word)) ≡ Some steps
steps-from f IsStep h dash word steps (inl none) =
    first _ _ _ ((bytes_eq-Decides word (codes "-")).1 none.0) ∙ ap Some (sym none.1)
steps-from f IsStep h dash word steps (inr some) =
    let read = (reads-each f IsStep h).from _ steps some in
    let clash = λ (e : word ≡ codes "-"). sym (no_step f dash) ∙ ap (λ w. each f (parts_of 44 w)) (sym e) ∙ read in
    second _ _ _ (other_word word (codes "-") (λ e. none-some steps (clash e))) ∙ read

-- a dash, or steps with commas between, none of which is a dash
pub reads-steps : {A : Type 0} (f : List ℕ → Option A) (IsStep : List ℕ → A → Type 0) → Reads f IsStep
    → f (codes "-") ≡ None
    → Reads (λ word. cond (bytes_eq word (codes "-")) (Some []) (each f (parts_of 44 word))) (AreSteps IsStep)
reads-steps f IsStep h dash = record {
  to = steps-to f IsStep h;
  from = steps-from f IsStep h dash;
}

pub reads-source : Reads source_of (AreSteps IsSourceStep)
reads-source = reads-steps source_step_of IsSourceStep reads-source_step refl

pub reads-sink : Reads sink_of (AreSteps IsSinkStep)
reads-sink = reads-steps sink_step_of IsSinkStep reads-sink_step refl
