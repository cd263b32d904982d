-- What lines mean, and what scripts run.
use Rattle.std.proofs.Common.{arith, ◌*◌, ◌+◌, ◌≡◌, ◌∙◌, ℕ, ◌<◌, true, false, nat_eq, cond, List, [], ◌∷◌, ◌++◌, append_assoc, flat_map, Option, Some, None, refl, sym, ap, subst, Bool}
use denote.Struct.Props.{props}
use Rattle.std.specs.Int.NonZero.{non_zero_usize_get}
use Rattle.std.specs.List.{onto_first}
use Rattle.std.specs.declared.num.NonZeroUsize.{NonZeroUsize}
use Rattle.std.proofs.lemmas.Bool.{both_ways}
use Rattle.std.proofs.lemmas.Option.{same_Some}
use Rattle.vm_memory.specs.Words.{Each, parts_of}
use Rattle.vm_memory.specs.Lines.{IsField, Field, word, Means, Spells, is_blank, command_fields, setup_fields}
use Rattle.vm_memory.specs.LineReading.{Shown, setup, command, line_at}
use Rattle.vm_memory.specs.Machine.{Run}
use Rattle.vm_memory.specs.Script.{Stage, setting, commanding, state_at, Answer, Answers}
use Rattle.vm_memory.specs.ScriptRun.{SetUpRun, commands_of, reply_line, setup_line, setups_of}
use Rattle.vm_memory.specs.State.{State}
use Rattle.vm_memory.specs.declared.machine.command.Command as commands
use Rattle.vm_memory.specs.declared.machine.command.Command.TheVariants as make
use Rattle.vm_memory.specs.declared.machine.command.Reply.{Reply}
use Rattle.vm_memory.specs.declared.script.line.Line.{Line}
use Rattle.vm_memory.specs.declared.script.line.Line.TheVariants.{Nothing, Setup, Command}
use Rattle.vm_memory.specs.declared.machine.setup.SetupReply.{SetupReply}
use Rattle.vm_memory.specs.declared.machine.setup.Setup as setups
use Rattle.vm_memory.specs.declared.machine.setup.Setup.TheVariants.{Block, Space, Table, Region, Translator}
use Rattle.vm_memory.proofs.CommandLemmas.{command-from}
use Rattle.vm_memory.proofs.LineLemmas.{command-no_setup, command-some, no_words, setup-from, setup-some}

-- ---- lines mean one thing

-- the first letter of a line whose first word has one
starts_word : (line w : List ℕ) (x : ℕ) (fs : List Field) → Spells line (word (x ∷ w) ∷ fs) → nat_eq x 35 ≡ false
    → is_blank line ≡ false
starts_word [] w x fs h other = cc (h.0)
starts_word (b ∷ rest) w x fs h other = go (nat_eq b 32) (parts_of 32 rest) h
  where
    go : (space : Bool) (parts : List (List ℕ))
        → Each IsField (cond space ([] ∷ parts) (onto_first b parts)) (word (x ∷ w) ∷ fs) → nat_eq b 35 ≡ false
    go true parts e = cc (e.0)
    go false [] e = let same : b ≡ x = cc (e.0) in ap (λ c. nat_eq c 35) same ∙ other
    go false (p ∷ ps) e = let same : b ≡ x = cc (e.0) in ap (λ c. nat_eq c 35) same ∙ other

command-not_blank : (line : List ℕ) (c : commands.Command) → Spells line (command_fields c) → is_blank line ≡ false
command-not_blank line (make.FromRegions numbers) h = starts_word line _ _ _ h refl
command-not_blank line (make.Insert layout region) h = starts_word line _ _ _ h refl
command-not_blank line (make.Remove layout base size) h = starts_word line _ _ _ h refl
command-not_blank line (make.Plain layout) h = starts_word line _ _ _ h refl
command-not_blank line (make.NewMemory layout translator space on) h = starts_word line _ _ _ h refl
command-not_blank line (make.ReplaceBackend memory layout) h = starts_word line _ _ _ h refl
command-not_blank line (make.Enable memory on) h = starts_word line _ _ _ h refl
command-not_blank line (make.Read memory addr count) h = starts_word line _ _ _ h refl
command-not_blank line (make.Write memory addr bs) h = starts_word line _ _ _ h refl
command-not_blank line (make.ReadSlice memory addr count) h = starts_word line _ _ _ h refl
command-not_blank line (make.WriteSlice memory addr bs) h = starts_word line _ _ _ h refl
command-not_blank line (make.Store memory width addr value) h = starts_word line _ _ _ h refl
command-not_blank line (make.Load memory width addr) h = starts_word line _ _ _ h refl
command-not_blank line (make.ReadFrom memory addr count steps) h = starts_word line _ _ _ h refl
command-not_blank line (make.ReadExactFrom memory addr count steps) h = starts_word line _ _ _ h refl
command-not_blank line (make.WriteTo memory addr count steps) h = starts_word line _ _ _ h refl
command-not_blank line (make.WriteAllTo memory addr count steps) h = starts_word line _ _ _ h refl
command-not_blank line (make.CheckRange memory addr count access) h = starts_word line _ _ _ h refl
command-not_blank line (make.Copy from to) h = starts_word line _ _ _ h refl
command-not_blank line (make.Set table iova to length access) h = starts_word line _ _ _ h refl
command-not_blank line (make.Invalidate table iova length) h = starts_word line _ _ _ h refl
command-not_blank line (make.InvalidateAll table) h = starts_word line _ _ _ h refl
command-not_blank line (make.Lookup table iova length access) h = starts_word line _ _ _ h refl
command-not_blank line (make.Dirty id) h = starts_word line _ _ _ h refl
command-not_blank line (make.Harvest id) h = starts_word line _ _ _ h refl

setup-not_blank : (line : List ℕ) (s : setups.Setup) → Spells line (setup_fields s) → is_blank line ≡ false
setup-not_blank line (Block size page) h = starts_word line _ _ _ h refl
setup-not_blank line (Space size page) h = starts_word line _ _ _ h refl
setup-not_blank line (Table None) h = starts_word line _ _ _ h refl
setup-not_blank line (Table (Some limit)) h = starts_word line _ _ _ h refl
setup-not_blank line (Region block addr) h = starts_word line _ _ _ h refl
setup-not_blank line (Translator table) h = starts_word line _ _ _ h refl

-- what is read of the words of a line that is not blank
setup-read : (words : List (List ℕ)) (s : setups.Setup) → Each IsField words (setup_fields s)
    → line_at words ≡ Some (setup (setup_fields s))
unfolding line_at
setup-read [] s h = absurd (no_words (setup_fields s) h (setup-some s))
setup-read (first ∷ ws) s h = rw (setup-from first ws s h) refl

command-read : (words : List (List ℕ)) (c : commands.Command) → Each IsField words (command_fields c)
    → line_at words ≡ Some (command c)
unfolding line_at
command-read [] c h = absurd (no_words (command_fields c) h (command-some c))
command-read (first ∷ ws) c h = rw (command-no_setup first ws c h, command-from first ws c h) refl

same_shown : {x y : Shown} {read : Option Shown} → read ≡ Some x → read ≡ Some y → x ≡ y
same_shown {x = x} {y = y} p q = same_Some x y (sym p ∙ q)

-- sizes that are the same number
above : (n : ℕ) → IsProp (0 < n)
above n = hlevel props

abbrev sized : (n : ℕ) → 0 < n → NonZeroUsize
sized n some = record { value = n; ok = some }

same_size : (m n : NonZeroUsize) → non_zero_usize_get m ≡ non_zero_usize_get n → m ≡ n
same_size m n e =
    let P : ℕ → Type 0 = λ k. (some : 0 < k) → sized (non_zero_usize_get m) m.ok ≡ sized k some in
    subst P e (λ some. ap (sized (non_zero_usize_get m)) (above (non_zero_usize_get m) m.ok some)) n.ok

-- the first two letters of the first word
abbrev initials : List Field → ℕ
initials (word (x ∷ y ∷ w) ∷ fs) = x * 256 + y
initials fs = 0

same_setup : (s t : setups.Setup) → setup_fields s ≡ setup_fields t → s ≡ t
same_setup (Block size page) (Block length other) e =
    let numbers : size ≡ length = cc e in
    let pages : page ≡ other = same_size page other (cc e) in
    ap (λ n. Block n page) numbers ∙ ap (Block length) pages
same_setup (Block size page) (Space length other) e = absurd (omega (arith, ap initials e))
same_setup (Block size page) (Table None) e = absurd (omega (arith, ap initials e))
same_setup (Block size page) (Table (Some other)) e = absurd (omega (arith, ap initials e))
same_setup (Block size page) (Region other place) e = absurd (omega (arith, ap initials e))
same_setup (Block size page) (Translator other) e = absurd (omega (arith, ap initials e))
same_setup (Space size page) (Block length other) e = absurd (omega (arith, ap initials e))
same_setup (Space size page) (Space length other) e =
    let numbers : size ≡ length = cc e in
    let pages : page ≡ other = same_size page other (cc e) in
    ap (λ n. Space n page) numbers ∙ ap (Space length) pages
same_setup (Space size page) (Table None) e = absurd (omega (arith, ap initials e))
same_setup (Space size page) (Table (Some other)) e = absurd (omega (arith, ap initials e))
same_setup (Space size page) (Region other place) e = absurd (omega (arith, ap initials e))
same_setup (Space size page) (Translator other) e = absurd (omega (arith, ap initials e))
same_setup (Table None) (Block length other) e = absurd (omega (arith, ap initials e))
same_setup (Table None) (Space length other) e = absurd (omega (arith, ap initials e))
same_setup (Table None) (Table None) e = refl
same_setup (Table None) (Table (Some other)) e = cc e
same_setup (Table None) (Region other place) e = absurd (omega (arith, ap initials e))
same_setup (Table None) (Translator other) e = absurd (omega (arith, ap initials e))
same_setup (Table (Some limit)) (Block length other) e = absurd (omega (arith, ap initials e))
same_setup (Table (Some limit)) (Space length other) e = absurd (omega (arith, ap initials e))
same_setup (Table (Some limit)) (Table None) e = cc e
same_setup (Table (Some limit)) (Table (Some other)) e = ap (λ n. Table (Some n)) (same_size limit other (cc e))
same_setup (Table (Some limit)) (Region other place) e = absurd (omega (arith, ap initials e))
same_setup (Table (Some limit)) (Translator other) e = absurd (omega (arith, ap initials e))
same_setup (Region block addr) (Block length other) e = absurd (omega (arith, ap initials e))
same_setup (Region block addr) (Space length other) e = absurd (omega (arith, ap initials e))
same_setup (Region block addr) (Table None) e = absurd (omega (arith, ap initials e))
same_setup (Region block addr) (Table (Some other)) e = absurd (omega (arith, ap initials e))
same_setup (Region block addr) (Region other place) e =
    let blocks : block.0 ≡ other.0 = cc e in
    let places : addr.0 ≡ place.0 = cc e in
    ap (λ n. Region (record { 0 = n }) addr) blocks ∙ ap (λ n. Region other (record { 0 = n })) places
same_setup (Region block addr) (Translator other) e = absurd (omega (arith, ap initials e))
same_setup (Translator table) (Block length other) e = absurd (omega (arith, ap initials e))
same_setup (Translator table) (Space length other) e = absurd (omega (arith, ap initials e))
same_setup (Translator table) (Table None) e = absurd (omega (arith, ap initials e))
same_setup (Translator table) (Table (Some other)) e = absurd (omega (arith, ap initials e))
same_setup (Translator table) (Region other place) e = absurd (omega (arith, ap initials e))
same_setup (Translator table) (Translator other) e =
    let numbers : table.0 ≡ other.0 = cc e in ap (λ n. Translator (record { 0 = n })) numbers

pub same_meaning : (line : List ℕ) (a b : Line) → Means line a → Means line b → a ≡ b
same_meaning line Nothing Nothing p q = refl
same_meaning line Nothing (Setup t) p q = absurd (both_ways _ (setup-not_blank line t q.1) p)
same_meaning line Nothing (Command d) p q = absurd (both_ways _ (command-not_blank line d q.1) p)
same_meaning line (Setup s) Nothing p q = absurd (both_ways _ (setup-not_blank line s p.1) q)
same_meaning line (Setup s) (Setup t) p q =
    let same = same_shown (setup-read _ s p.1) (setup-read _ t q.1) in
    ap Setup (same_setup s t (cc same))
same_meaning line (Setup s) (Command d) p q = cc (same_shown (setup-read _ s p.1) (command-read _ d q.1))
same_meaning line (Command c) Nothing p q = absurd (both_ways _ (command-not_blank line c p.1) q)
same_meaning line (Command c) (Setup t) p q = cc (same_shown (command-read _ c p.1) (setup-read _ t q.1))
same_meaning line (Command c) (Command d) p q =
    let same = same_shown (command-read _ c p.1) (command-read _ d q.1) in ap Command (cc same)

-- ---- scripts run the model

-- after the first command
abbrev CommandsRun : List (List ℕ) → State → List ℕ → Stage → Type 0
CommandsRun lines s text end =
    (meanings : List Line) × (replies : List Reply) × Each Means lines meanings × (setups_of meanings ≡ [])
    × Run s (commands_of meanings) replies (state_at end) × (text ≡ flat_map reply_line replies)

commands-more : (line : List ℕ) (lines : List (List ℕ)) (s : State) (m : Line) (own others text : List ℕ)
    (mid end : Stage) → ((t : State) → Answers (commanding t) lines others end → CommandsRun lines t others end)
    → Means line m → Answer (commanding s) m own mid → Answers mid lines others end → text ≡ own ++ others
    → CommandsRun (line ∷ lines) s text end
commands-more line lines s Nothing own others text mid end go m a h e =
    let rest = go s (subst (λ q. Answers q lines others end) a.1 h) in
    (Nothing ∷ rest.0, rest.1, (m, rest.2), rest.3, rest.4, e ∙ ap (λ t. t ++ others) a.0 ∙ rest.5)
commands-more line lines s (Setup u) own others text mid end go m a h e = absurd a
commands-more line lines s (Command c) own others text mid end go m a h e =
    let rest = go a.1 (subst (λ q. Answers q lines others end) a.4 h) in (
      Command c ∷ rest.0,
      a.0 ∷ rest.1,
      (m, rest.2),
      rest.3,
      (a.1, a.2, rest.4),
      e ∙ ap (λ t. t ++ others) a.3 ∙ ap (λ t. reply_line a.0 ++ t) rest.5,
    )

commands-run : (lines : List (List ℕ)) (s : State) (text : List ℕ) (end : Stage)
    → Answers (commanding s) lines text end → CommandsRun lines s text end
commands-run [] s text end h = ([], [], tt, refl, ap state_at h.1, h.0)
commands-run (line ∷ lines) s text end h =
    commands-more line lines s h.3.0 h.0 h.1 text h.2 end (λ t k. commands-run lines t h.1 end k) h.3.1 h.3.2 h.4 h.5

abbrev pub ScriptRuns : List (List ℕ) → State → List ℕ → Stage → Type 0
ScriptRuns lines s text end =
    (meanings : List Line) × (made : List SetupReply) × (start : State) × (replies : List Reply)
    × Each Means lines meanings × SetUpRun s (setups_of meanings) made start
    × Run start (commands_of meanings) replies (state_at end)
    × (text ≡ flat_map setup_line made ++ flat_map reply_line replies)

script-more : (line : List ℕ) (lines : List (List ℕ)) (s : State) (m : Line) (own others text : List ℕ)
    (mid end : Stage) → ((t : State) → Answers (setting t) lines others end → ScriptRuns lines t others end)
    → Means line m → Answer (setting s) m own mid → Answers mid lines others end → text ≡ own ++ others
    → ScriptRuns (line ∷ lines) s text end
script-more line lines s Nothing own others text mid end go m a h e =
    let rest = go s (subst (λ q. Answers q lines others end) a.1 h) in (
      Nothing ∷ rest.0,
      rest.1,
      rest.2,
      rest.3,
      (m, rest.4),
      rest.5,
      rest.6,
      e ∙ ap (λ t. t ++ others) a.0 ∙ rest.7,
    )
script-more line lines s (Setup u) own others text mid end go m a h e =
    let rest = go a.1 (subst (λ q. Answers q lines others end) a.4 h) in (
      Setup u ∷ rest.0,
      a.0 ∷ rest.1,
      rest.2,
      rest.3,
      (m, rest.4),
      (a.1, a.2, rest.5),
      rest.6,
      e ∙ ap (λ t. t ++ others) a.3 ∙ ap (λ t. setup_line a.0 ++ t) rest.7
          ∙ sym (append_assoc (setup_line a.0) (flat_map setup_line rest.1) (flat_map reply_line rest.3)),
    )
script-more line lines s (Command c) own others text mid end go m a h e =
    let rest = commands-run lines a.1 others end (subst (λ q. Answers q lines others end) a.4 h) in (
      Command c ∷ rest.0,
      [],
      s,
      a.0 ∷ rest.1,
      (m, rest.2),
      subst (λ us. SetUpRun s us [] s) (sym rest.3) refl,
      (a.1, a.2, rest.4),
      e ∙ ap (λ t. t ++ others) a.3 ∙ ap (λ t. reply_line a.0 ++ t) rest.5,
    )

pub scripts-run : (lines : List (List ℕ)) (s : State) (text : List ℕ) (end : Stage)
    → Answers (setting s) lines text end → ScriptRuns lines s text end
scripts-run [] s text end h = ([], [], s, [], tt, refl, ap state_at h.1, h.0)
scripts-run (line ∷ lines) s text end h =
    script-more line lines s h.3.0 h.0 h.1 text h.2 end (λ t k. scripts-run lines t h.1 end k) h.3.1 h.3.2 h.4 h.5
