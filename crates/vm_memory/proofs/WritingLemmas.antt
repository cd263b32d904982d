-- Each meaning of a line has a line.
use Rattle.std.proofs.Common.{◌≡◌, ◌≢◌, ◌∙◌, ℕ, zero, suc, ◌/◌, ◌%◌, ◌<◌, ◌^◌, Bool, true, false, ◌&&◌, nat_eq, nat_lt, List, [], ◌∷◌, ◌++◌, map, slice_index, Some, None, refl, sym, ap, subst, inl, inr, codes, arith, lit<}
use Rattle.std.specs.Fmt.{decimal}
use Rattle.std.specs.List.{AllByRecursion, list_all, onto_first}
use Rattle.std.specs.Str.{IsAscii, IsUtf8}
use Rattle.std.specs.Str.Parse.{AllDigits}
use Rattle.std.proofs.lemmas.Bool.{and_parts, eq-eqb, ltb-true, ne_eqb}
use Rattle.std.proofs.lemmas.Fmt.{decimal_is_IsNumeral}
use Rattle.std.proofs.lemmas.Str.{IsUtf8-from_ascii}
use Rattle.std.proofs.lemmas.Str.Ascii.{IsAscii-nil, IsAscii-cons}
use Rattle.std.proofs.lemmas.Str.Parse.{digit_from_value}
use Rattle.hex.specs.Hex.{IsBytes as AreBytes, encode_lower, encode_with, lower_digits}
use Rattle.hex.proofs.HexLemmas.{decode_of-encode_lower}
use Rattle.vm_memory_base.specs.declared.bitmap.BitmapId.TheVariants as bitmaps
use Rattle.vm_memory_base.specs.declared.iotlb.Permissions.{Permissions}
use Rattle.vm_memory_base.specs.declared.iotlb.Permissions.TheVariants.{No, Read, Write, ReadWrite}
use Rattle.vm_memory_base.specs.declared.io.scripted.SourceStep.{SourceStep}
use Rattle.vm_memory_base.specs.declared.io.scripted.SourceStep.TheVariants as gives
use Rattle.vm_memory_base.specs.declared.io.scripted.SinkStep.{SinkStep}
use Rattle.vm_memory_base.specs.declared.io.scripted.SinkStep.TheVariants as takes
use Rattle.vm_memory.specs.Words.{AreSteps, Each, IsBytes, IsNumber, IsSinkStep, IsSourceStep, parts_of, word_of_access, word_of_switch}
use Rattle.vm_memory.specs.Lines.{CanGive, CanSpell, CanTake, Field, IsField, Means, Spells, word, number, bytes, source, sink, command_fields, setup_fields}
use Rattle.vm_memory.specs.declared.machine.command.Command as commands
use Rattle.vm_memory.specs.declared.machine.command.Command.TheVariants as make
use Rattle.vm_memory.specs.declared.script.line.Line.TheVariants.{Command, Setup}
use Rattle.vm_memory.specs.declared.machine.setup.Setup as setups
use Rattle.vm_memory.specs.declared.machine.setup.Setup.TheVariants.{Block, Space, Table, Region, Translator}
use Rattle.vm_memory.proofs.SpellingLemmas.{first, second}

-- ---- texts and their parts

-- a letter, a digit, a dash or a colon; and one of these or a comma
abbrev pub IsLetter : ℕ → Type 0
IsLetter b = (44 < b) × (b < 128)

abbrev pub IsInWord : ℕ → Type 0
IsInWord b = (32 < b) × (b < 128)

abbrev pub Letters : List ℕ → Type 0
Letters text = AllByRecursion IsLetter text

abbrev pub InWord : List ℕ → Type 0
InWord text = AllByRecursion IsInWord text

-- what holds of each holds of what follows from it
pub weaker : {A : Type 0} (P Q : A → Type 0) (xs : List A) → ((x : A) → P x → Q x) → AllByRecursion P xs
    → AllByRecursion Q xs
weaker P Q [] f h = tt
weaker P Q (x ∷ xs) f h = (f x h.0, weaker P Q xs f h.1)

pub both : {A : Type 0} (P : A → Type 0) (xs ys : List A) → AllByRecursion P xs → AllByRecursion P ys
    → AllByRecursion P (xs ++ ys)
both P [] ys h k = k
both P (x ∷ xs) ys h k = (h.0, both P xs ys h.1 k)

pub in-word : (text : List ℕ) → Letters text → InWord text
in-word text h = weaker IsLetter IsInWord text (λ b l. let low = l.0 in (omega arith, l.1)) h

-- texts with a separator between any two
joined : ℕ → List ℕ → List (List ℕ) → List ℕ
joined c text [] = text
joined c text (other ∷ texts) = text ++ c ∷ joined c other texts

abbrev pub Apart : ℕ → List ℕ → Type 0
Apart c text = AllByRecursion (λ b. nat_eq b c ≡ false) text

pub parts-one : (c : ℕ) (text : List ℕ) → Apart c text → parts_of c text ≡ text ∷ []
parts-one c [] h = refl
parts-one c (b ∷ text) h = second _ _ _ h.0 ∙ ap (onto_first b) (parts-one c text h.1)

parts-more : (c : ℕ) (text rest : List ℕ) → Apart c text → parts_of c (text ++ c ∷ rest) ≡ text ∷ parts_of c rest
parts-more c [] rest h = first _ _ _ (eq-eqb c c refl)
parts-more c (b ∷ text) rest h = second _ _ _ h.0 ∙ ap (onto_first b) (parts-more c text rest h.1)

parts-joined : (c : ℕ) (text : List ℕ) (texts : List (List ℕ)) → AllByRecursion (Apart c) (text ∷ texts)
    → parts_of c (joined c text texts) ≡ text ∷ texts
unfolding joined
parts-joined c text [] h = parts-one c text h.0
parts-joined c text (other ∷ texts) h =
    parts-more c text (joined c other texts) h.0 ∙ ap (λ ps. text ∷ ps) (parts-joined c other texts h.1)

joined-all : (P : ℕ → Type 0) (c : ℕ) (text : List ℕ) (texts : List (List ℕ)) → P c
    → AllByRecursion (AllByRecursion P) (text ∷ texts) → AllByRecursion P (joined c text texts)
unfolding joined
joined-all P c text [] sep h = h.0
joined-all P c text (other ∷ texts) sep h =
    both P text (c ∷ joined c other texts) h.0 (sep, joined-all P c other texts sep h.1)

-- ---- words

-- a field with a word for it
pub record Written (f : Field) : Type 0 where
  pub text : List ℕ
  pub spells : IsField text f
  pub plain : InWord text

digits-letters : (ds : List ℕ) → AllDigits 10 ds → Letters ds
digits-letters [] h = tt
digits-letters (c ∷ cs) h =
    let range = digit_from_value c h.0 in
    let low = range.0 in
    let high = range.1 in
    ((omega arith, omega arith), digits-letters cs h.1)

pub decimal-letters : (n : ℕ) → n < 2 ^ 64 → Letters (decimal n)
decimal-letters n h = digits-letters (decimal n) (decimal_is_IsNumeral n h).0.1

number-spelled : (n : ℕ) → n < 2 ^ 64 → IsNumber (decimal n) n
number-spelled n h = (h, inl (decimal_is_IsNumeral n h))

digit-letter : (n : ℕ) → n < 16 → IsLetter (slice_index lower_digits n)
digit-letter zero h = (lit< tt, lit< tt)
digit-letter (suc zero) h = (lit< tt, lit< tt)
digit-letter (suc (suc zero)) h = (lit< tt, lit< tt)
digit-letter (suc (suc (suc zero))) h = (lit< tt, lit< tt)
digit-letter (suc (suc (suc (suc zero)))) h = (lit< tt, lit< tt)
digit-letter (suc (suc (suc (suc (suc zero))))) h = (lit< tt, lit< tt)
digit-letter (suc (suc (suc (suc (suc (suc zero)))))) h = (lit< tt, lit< tt)
digit-letter (suc (suc (suc (suc (suc (suc (suc zero))))))) h = (lit< tt, lit< tt)
digit-letter (suc (suc (suc (suc (suc (suc (suc (suc zero)))))))) h = (lit< tt, lit< tt)
digit-letter (suc (suc (suc (suc (suc (suc (suc (suc (suc zero))))))))) h = (lit< tt, lit< tt)
digit-letter (suc (suc (suc (suc (suc (suc (suc (suc (suc (suc zero)))))))))) h = (lit< tt, lit< tt)
digit-letter (suc (suc (suc (suc (suc (suc (suc (suc (suc (suc (suc zero))))))))))) h = (lit< tt, lit< tt)
digit-letter (suc (suc (suc (suc (suc (suc (suc (suc (suc (suc (suc (suc zero)))))))))))) h = (lit< tt, lit< tt)
digit-letter (suc (suc (suc (suc (suc (suc (suc (suc (suc (suc (suc (suc (suc zero))))))))))))) h = (lit< tt, lit< tt)
digit-letter (suc (suc (suc (suc (suc (suc (suc (suc
    (suc (suc (suc (suc (suc (suc zero)))))))))))))) h = (lit< tt, lit< tt)
digit-letter (suc (suc (suc (suc (suc (suc (suc (suc
    (suc (suc (suc (suc (suc (suc (suc zero))))))))))))))) h = (lit< tt, lit< tt)
digit-letter (suc (suc (suc (suc (suc (suc (suc (suc
    (suc (suc (suc (suc (suc (suc (suc (suc n)))))))))))))))) h = absurd (omega arith)

encoded-letters : (bs : List ℕ) → AllByRecursion (λ b. b < 256) bs → Letters (encode_lower bs)
unfolding encode_with
encoded-letters [] h = tt
encoded-letters (b ∷ bs) h =
    let small = h.0 in (
      digit-letter (b / 16) (omega arith),
      (digit-letter (b % 16) (omega arith), encoded-letters bs h.1),
    )

are_bytes : (bs : List ℕ) → AllByRecursion (λ b. b < 256) bs → AreBytes bs
are_bytes [] h i = lit< tt
are_bytes (b ∷ bs) h zero = h.0
are_bytes (b ∷ bs) h (suc i) = are_bytes bs h.1 i

-- a text of bytes
pub record BytesText (bs : List ℕ) : Type 0 where
  pub text : List ℕ
  pub spells : IsBytes text bs
  pub plain : Letters text

encoded-some : (b : ℕ) (bs : List ℕ) → encode_lower (b ∷ bs) ≢ []
unfolding encode_with
encoded-some b bs e = cc e

bytes-text : (bs : List ℕ) → AllByRecursion (λ b. b < 256) bs → BytesText bs
bytes-text [] h = record { text = codes "-"; spells = inl (refl, refl); plain = ((lit< tt, lit< tt), tt) }
bytes-text (b ∷ bs) h = record {
  text = encode_lower (b ∷ bs);
  spells = inr (encoded-some b bs, decode_of-encode_lower (b ∷ bs) (are_bytes (b ∷ bs) h));
  plain = encoded-letters (b ∷ bs) h;
}

-- a text of a step
pub record StepText {A : Type 0} (IsStep : List ℕ → A → Type 0) (step : A) : Type 0 where
  pub text : List ℕ
  pub spells : IsStep text step
  pub plain : Letters text

source-step : (step : SourceStep) → CanGive step → StepText IsSourceStep step
source-step (gives.Give bs) h = let t = bytes-text bs h in record {
  text = codes "g:" ++ t.text;
  spells = (t.text, refl, t.spells);
  plain = ((lit< tt, lit< tt), ((lit< tt, lit< tt), t.plain));
}
source-step (gives.Interrupted bs) h = let t = bytes-text bs h in record {
  text = codes "i:" ++ t.text;
  spells = (t.text, refl, t.spells);
  plain = ((lit< tt, lit< tt), ((lit< tt, lit< tt), t.plain));
}
source-step (gives.Fail bs) h = let t = bytes-text bs h in record {
  text = codes "f:" ++ t.text;
  spells = (t.text, refl, t.spells);
  plain = ((lit< tt, lit< tt), ((lit< tt, lit< tt), t.plain));
}

sink-step : (step : SinkStep) → CanTake step → StepText IsSinkStep step
sink-step (takes.Take most) h = record {
  text = codes "t:" ++ decimal most;
  spells = (decimal most, refl, number-spelled most h);
  plain = ((lit< tt, lit< tt), ((lit< tt, lit< tt), decimal-letters most h));
}
sink-step takes.Interrupted h = record { text = codes "i"; spells = refl; plain = ((lit< tt, lit< tt), tt) }
sink-step takes.Fail h = record { text = codes "f"; spells = refl; plain = ((lit< tt, lit< tt), tt) }

-- texts of steps
step-texts : {A : Type 0} (IsStep : List ℕ → A → Type 0) (Can : A → Type 0) (steps : List A)
    → ((step : A) → Can step → StepText IsStep step) → AllByRecursion Can steps
    → (texts : List (List ℕ)) × Each IsStep texts steps × AllByRecursion Letters texts
step-texts IsStep Can [] f h = ([], tt, tt)
step-texts IsStep Can (step ∷ steps) f h =
    let t = f step h.0 in
    let rest = step-texts IsStep Can steps f h.1 in
    (t.text ∷ rest.0, (t.spells, rest.1), (t.plain, rest.2))

no_comma : (text : List ℕ) → Letters text → Apart 44 text
no_comma text h =
    weaker IsLetter (λ b. nat_eq b 44 ≡ false) text (λ b l. let low = l.0 in ne_eqb b 44 (λ e. omega arith)) h

pub record StepsText {A : Type 0} (IsStep : List ℕ → A → Type 0) (steps : List A) : Type 0 where
  pub text : List ℕ
  pub spells : AreSteps IsStep text steps
  pub plain : InWord text

steps-text : {A : Type 0} (IsStep : List ℕ → A → Type 0) (Can : A → Type 0) (steps : List A)
    → ((step : A) → Can step → StepText IsStep step) → AllByRecursion Can steps → StepsText IsStep steps
steps-text IsStep Can [] f h = record {
  text = codes "-";
  spells = inl (refl, refl);
  plain = ((lit< tt, lit< tt), tt);
}
steps-text IsStep Can (step ∷ steps) f h =
    let t = f step h.0 in
    let rest = step-texts IsStep Can steps f h.1 in
    let apart = weaker Letters (Apart 44) (t.text ∷ rest.0) no_comma (t.plain, rest.2) in record {
      text = joined 44 t.text rest.0;
      spells = inr (subst (λ ps. Each IsStep ps (step ∷ steps)) (sym (parts-joined 44 t.text rest.0 apart))
          (t.spells, rest.1));
      plain = joined-all IsInWord 44 t.text rest.0 (lit< tt, lit< tt)
          (weaker Letters InWord (t.text ∷ rest.0) in-word (t.plain, rest.2));
    }

-- the words that stand for themselves are letters
abbrev IsPlainWord : Field → Type 0
IsPlainWord (word w) = InWord w
IsPlainWord f = Unit {0}

written : (f : Field) → CanSpell f → IsPlainWord f → Written f
written (word w) h plain = record { text = w; spells = refl; plain = plain }
written (number n) h plain = record {
  text = decimal n;
  spells = number-spelled n h;
  plain = in-word (decimal n) (decimal-letters n h);
}
written (bytes bs) h plain =
    let t = bytes-text bs h in record { text = t.text; spells = t.spells; plain = in-word t.text t.plain }
written (source steps) h plain =
    let t = steps-text IsSourceStep CanGive steps source-step h in
    record { text = t.text; spells = t.spells; plain = t.plain }
written (sink steps) h plain =
    let t = steps-text IsSinkStep CanTake steps sink-step h in
    record { text = t.text; spells = t.spells; plain = t.plain }

written-all : (fs : List Field) → AllByRecursion CanSpell fs → AllByRecursion IsPlainWord fs
    → (texts : List (List ℕ)) × Each IsField texts fs × AllByRecursion InWord texts
written-all [] h plain = ([], tt, tt)
written-all (f ∷ fs) h plain =
    let t = written f h.0 plain.0 in
    let rest = written-all fs h.1 plain.1 in
    (t.text ∷ rest.0, (t.spells, rest.1), (t.plain, rest.2))

-- ---- lines

ascii : (text : List ℕ) → AllByRecursion (λ b. b < 128) text → IsAscii text
ascii [] h = IsAscii-nil
ascii (b ∷ text) h = IsAscii-cons b text h.0 (ascii text h.1)

pub no_space : (text : List ℕ) → InWord text → Apart 32 text
no_space text h =
    weaker IsInWord (λ b. nat_eq b 32 ≡ false) text (λ b l. let low = l.0 in ne_eqb b 32 (λ e. omega arith)) h

-- fields have a line
pub line-of : (f : Field) (fs : List Field) → AllByRecursion CanSpell (f ∷ fs) → AllByRecursion IsPlainWord (f ∷ fs)
    → (line : List ℕ) × (IsUtf8 line × Spells line (f ∷ fs))
line-of f fs h plain =
    let t = written f h.0 plain.0 in
    let rest = written-all fs h.1 plain.1 in
    let words : InWord t.text × AllByRecursion InWord rest.0 = (t.plain, rest.2) in
    let low = weaker InWord (AllByRecursion (λ b. b < 128)) (t.text ∷ rest.0)
    (λ text l. weaker IsInWord (λ b. b < 128) text (λ b k. k.1) l) words in
    let apart = weaker InWord (Apart 32) (t.text ∷ rest.0) no_space words in
    let line = joined 32 t.text rest.0 in (
      line,
      (
        IsUtf8-from_ascii line (ascii line (joined-all (λ b. b < 128) 32 t.text rest.0 (lit< tt) low)),
        subst (λ ps. Each IsField ps (f ∷ fs)) (sym (parts-joined 32 t.text rest.0 apart)) (t.spells, rest.1),
      ),
    )

-- ---- the words of meanings

plain-by : (w : List ℕ) → list_all (λ b. nat_lt 32 b && nat_lt b 128) w ≡ true → InWord w
plain-by [] h = tt
plain-by (b ∷ w) h =
    let parts = and_parts _ _ h in
    let range = and_parts _ _ parts.0 in
    ((ltb-true 32 b range.0, ltb-true b 128 range.1), plain-by w parts.1)

plain-access : (access : Permissions) → InWord (word_of_access access)
plain-access No = plain-by (word_of_access No) refl
plain-access Read = plain-by (word_of_access Read) refl
plain-access Write = plain-by (word_of_access Write) refl
plain-access ReadWrite = plain-by (word_of_access ReadWrite) refl

plain-switch : (on : Bool) → InWord (word_of_switch on)
plain-switch true = plain-by (word_of_switch true) refl
plain-switch false = plain-by (word_of_switch false) refl

plain-numbers : (numbers : List ℕ) → AllByRecursion IsPlainWord (map number numbers)
plain-numbers [] = tt
plain-numbers (n ∷ numbers) = (tt, plain-numbers numbers)

pub line-of-command : (c : commands.Command) → AllByRecursion CanSpell (command_fields c)
    → (line : List ℕ) × Means line (Command c)
line-of-command (make.FromRegions numbers) h = line-of _ _ h (plain-by (codes "layout") refl, plain-numbers numbers)
line-of-command (make.Insert layout region) h = line-of _ _ h (plain-by (codes "insert") refl, (tt, (tt, tt)))
line-of-command (make.Remove layout base size) h = line-of _ _ h (plain-by (codes "remove") refl, (tt, (tt, (tt, tt))))
line-of-command (make.Plain layout) h = line-of _ _ h (plain-by (codes "plain") refl, (tt, tt))
line-of-command (make.NewMemory layout translator space on) h =
    line-of _ _ h (plain-by (codes "memory") refl, (tt, (tt, (tt, (plain-switch on, tt)))))
line-of-command (make.ReplaceBackend memory layout) h = line-of _ _ h (plain-by (codes "replace") refl, (tt, (tt, tt)))
line-of-command (make.Enable memory on) h = line-of _ _ h (plain-by (codes "enable") refl, (tt, (plain-switch on, tt)))
line-of-command (make.Read memory addr count) h = line-of _ _ h (plain-by (codes "read") refl, (tt, (tt, (tt, tt))))
line-of-command (make.Write memory addr bs) h = line-of _ _ h (plain-by (codes "write") refl, (tt, (tt, (tt, tt))))
line-of-command (make.ReadSlice memory addr count) h =
    line-of _ _ h (plain-by (codes "readx") refl, (tt, (tt, (tt, tt))))
line-of-command (make.WriteSlice memory addr bs) h =
    line-of _ _ h (plain-by (codes "writex") refl, (tt, (tt, (tt, tt))))
line-of-command (make.Store memory width addr value) h =
    line-of _ _ h (plain-by (codes "store") refl, (tt, (tt, (tt, (tt, tt)))))
line-of-command (make.Load memory width addr) h = line-of _ _ h (plain-by (codes "load") refl, (tt, (tt, (tt, tt))))
line-of-command (make.ReadFrom memory addr count steps) h =
    line-of _ _ h (plain-by (codes "from") refl, (tt, (tt, (tt, (tt, tt)))))
line-of-command (make.ReadExactFrom memory addr count steps) h =
    line-of _ _ h (plain-by (codes "fromx") refl, (tt, (tt, (tt, (tt, tt)))))
line-of-command (make.WriteTo memory addr count steps) h =
    line-of _ _ h (plain-by (codes "to") refl, (tt, (tt, (tt, (tt, tt)))))
line-of-command (make.WriteAllTo memory addr count steps) h =
    line-of _ _ h (plain-by (codes "tox") refl, (tt, (tt, (tt, (tt, tt)))))
line-of-command (make.CheckRange memory addr count access) h =
    line-of _ _ h (plain-by (codes "check") refl, (tt, (tt, (tt, (plain-access access, tt)))))
line-of-command (make.Copy from to) h =
    line-of _ _ h (plain-by (codes "copy") refl, (tt, (tt, (tt, (tt, (tt, (tt, tt)))))))
line-of-command (make.Set table iova to length access) h =
    line-of _ _ h (plain-by (codes "set") refl, (tt, (tt, (tt, (tt, (plain-access access, tt))))))
line-of-command (make.Invalidate table iova length) h =
    line-of _ _ h (plain-by (codes "invalidate") refl, (tt, (tt, (tt, tt))))
line-of-command (make.InvalidateAll table) h = line-of _ _ h (plain-by (codes "clear") refl, (tt, tt))
line-of-command (make.Lookup table iova length access) h =
    line-of _ _ h (plain-by (codes "lookup") refl, (tt, (tt, (tt, (plain-access access, tt)))))
line-of-command (make.Dirty (bitmaps.Block id)) h =
    let w = plain-by (codes "dirty") refl in
    let kind = plain-by (codes "block") refl in
    line-of _ _ h (w, (kind, (tt, tt)))
line-of-command (make.Dirty (bitmaps.Space id)) h =
    let w = plain-by (codes "dirty") refl in
    let kind = plain-by (codes "space") refl in
    line-of _ _ h (w, (kind, (tt, tt)))
line-of-command (make.Harvest (bitmaps.Block id)) h =
    let w = plain-by (codes "harvest") refl in
    let kind = plain-by (codes "block") refl in
    line-of _ _ h (w, (kind, (tt, tt)))
line-of-command (make.Harvest (bitmaps.Space id)) h =
    let w = plain-by (codes "harvest") refl in
    let kind = plain-by (codes "space") refl in
    line-of _ _ h (w, (kind, (tt, tt)))

pub line-of-setup : (s : setups.Setup) → AllByRecursion CanSpell (setup_fields s)
    → (line : List ℕ) × Means line (Setup s)
line-of-setup (Block size page) h = line-of _ _ h (plain-by (codes "block") refl, (tt, (tt, tt)))
line-of-setup (Space size page) h = line-of _ _ h (plain-by (codes "space") refl, (tt, (tt, tt)))
line-of-setup (Table None) h = line-of _ _ h (plain-by (codes "table") refl, tt)
line-of-setup (Table (Some limit)) h = line-of _ _ h (plain-by (codes "table") refl, (tt, tt))
line-of-setup (Region block addr) h = line-of _ _ h (plain-by (codes "region") refl, (tt, (tt, tt)))
line-of-setup (Translator table) h = line-of _ _ h (plain-by (codes "translator") refl, (tt, tt))
