-- What steps and runs do: each proof goes by the kinds of effects.
use Rattle.std.proofs.Common.{◌≡◌, ◌≢◌, ◌==◌, ℕ, List, [], ◌∷◌, ◌++◌, All, refl, sym, ap, subst, ◌∙◌, inl, inr}
use Rattle.std.proofs.lemmas.Bool.{eqb-true, cond-false, false_from_ne_true}
use Rattle.std.proofs.lemmas.List.Elements.{All-head, All-tail}
use Rattle.vm_memory_base.specs.Pages.{PageSet}
use Rattle.vm_memory_base.specs.declared.bitmap.BitmapId.TheVariants.{Block}
use Rattle.vm_memory_guest.specs.Host.{Host}
use Rattle.vm_memory.specs.Effect.{Effect, Replies, AddsLayout, AddsMemory, SetsMemory, Leaves, apply}
use Rattle.vm_memory.specs.Commands.{table_call}
use Rattle.vm_memory.specs.History.{table_calls, AtEachState}
use Rattle.vm_memory.specs.Lawful.{IsLawful}
use Rattle.vm_memory.specs.Commands.{MayWant, effect}
use Rattle.vm_memory.specs.Machine.{Step, Run}
use Rattle.vm_memory.specs.Rounds.{patched_with, bytes_of_block, pages_of_block, image_after, IsDirect, RunsDirectly, KeepsImage}
use Rattle.vm_memory.specs.State.{State}
use Rattle.vm_memory.specs.declared.machine.command.Command.{Command}
use Rattle.vm_memory.specs.declared.machine.command.Command.TheVariants as command
use Rattle.vm_memory.specs.declared.machine.command.Reply.{Reply}
use Rattle.vm_memory.specs.declared.machine.command.Reply.TheVariants as reply
use Rattle.vm_memory_device.proofs.TableLemmas.{AreLeftBy, same, one_after_the_other}
use Rattle.vm_memory.proofs.CallLemmas.{HistoryLaws}
use Rattle.vm_memory.proofs.EffectLemmas.{IsOf, IsSilent, ImageLaws, quiet_is_silent, command_has_effect}
use Rattle.vm_memory.proofs.LawfulLemmas.{PassesLaw, with_layout, with_memory, with_memory_at, with_other_host}
use Rattle.vm_memory.proofs.RoundsLemmas.{KeepsBlock, mirrors_from_clean, replies_as_image}
use Rattle.vm_memory.proofs.StepLemmas.{IsStill}
use Rattle.vm_memory.proofs.TransferLemmas.{RefusedLaw}
use Rattle.vm_memory.proofs.WantLemmas.{IsAnswer}

-- a run, and a step more
pub Run-step : (old : State) (cs : List Command) (rs : List Reply) (mid : State) (c : Command) (r : Reply) (new : State)
    → Run old cs rs mid → Step mid c r new → Run old (cs ++ c ∷ []) (rs ++ r ∷ []) new
Run-step old [] [] mid c r new ran step = (new, subst (λ (s : State). Step s c r new) ran step, refl)
Run-step old [] (q ∷ rs) mid c r new ran step = absurd ran
Run-step old (d ∷ cs) [] mid c r new ran step = absurd ran
Run-step old (d ∷ cs) (q ∷ rs) mid c r new ran step = (ran.0, ran.1, Run-step ran.0 cs rs mid c r new ran.2 step)

-- what holds of whatever a run reaches holds at each of its states
pub at_each_state : (P : List Command → List Reply → State → Type 0) (old : State) (cs : List Command) (rs : List Reply)
    (new : State) (run : Run old cs rs new)
    → ((ds : List Command) (qs : List Reply) (s : State) → Run old ds qs s → P ds qs s)
    → AtEachState P old cs rs new run
at_each_state P old [] [] new run all = all [] [] new run
at_each_state P old [] (r ∷ rs) new run all = absurd run
at_each_state P old (c ∷ cs) [] new run all = absurd run
at_each_state P old (c ∷ cs) (r ∷ rs) new run all = (
  all [] [] old refl,
  at_each_state (λ ds qs s. P (c ∷ ds) (r ∷ qs) s) run.0 cs rs new run.2
      (λ ds qs s ran. all (c ∷ ds) (r ∷ qs) s (run.0, run.1, ran)),
)

-- ---- refusals

-- a step that tells of no change makes none
pub still-step : RefusedLaw → (old new : State) (c : Command) (r : Reply) → IsStill r → Step old c r new → new ≡ old
still-step law old new c r still step =
    elim step [ inl e ↦ go (effect old c) (command_has_effect old c) e | inr want ↦ want.2 ]
  where
    told : (a : Reply × State) → (r, new) ≡ a → IsStill a.0
    told a e = subst (λ (p : Reply × State). IsStill p.0) e still

    left : (a : Reply × State) → (r, new) ≡ a → new ≡ a.1
    left a e = ap (λ (p : Reply × State). p.1) e

    go : (f : Effect) → IsOf old c f → (r, new) ≡ apply old f → new ≡ old
    go (Replies q) is e = left (apply old (Replies q)) e
    go (AddsLayout rs) is e = absurd (told (apply old (AddsLayout rs)) e)
    go (AddsMemory m) is e = absurd (told (apply old (AddsMemory m)) e)
    go (SetsMemory number m) is e = absurd (told (apply old (SetsMemory number m)) e)
    go (Leaves q host) is e =
        left (apply old (Leaves q host)) e
        ∙ ap (λ (h : Host PageSet). record old { host = h }) (is.still law (told (apply old (Leaves q host)) e))

-- ---- want of memory

answered : RefusedLaw → (old : State) (c : Command) (f : Effect) → IsOf old c f → IsAnswer (apply old f).0
answered law old c (Replies r) is = is.0
answered law old c (AddsLayout rs) is = tt
answered law old c (AddsMemory m) is = tt
answered law old c (SetsMemory number m) is = tt
answered law old c (Leaves r host) is = is.answer law

-- a command that replies want of memory is one that may
pub want-may-be : RefusedLaw → (old new : State) (c : Command) → Step old c reply.Memory new → MayWant old c
want-may-be law old new c step = elim step [
  | inl e ↦
      absurd (subst (λ (p : Reply × State). IsAnswer p.0) (sym e)
      (answered law old c (effect old c) (command_has_effect old c)))
  | inr want ↦ want.1
]

-- ---- layouts

laid : PassesLaw → (old : State) → IsLawful old → (c : Command) (f : Effect) → IsOf old c f → IsLawful (apply old f).1
laid passes old h c (Replies r) is = h
laid passes old h c (AddsLayout rs) is = with_layout old h rs (is passes h)
laid passes old h c (AddsMemory m) is = with_memory old h m (is h)
laid passes old h c (SetsMemory number m) is = with_memory_at old h number m (is.0 h)
laid passes old h c (Leaves r host) is = with_other_host old h host

pub run_keeps_layouts : PassesLaw → (old new : State) (cs : List Command) (rs : List Reply) → IsLawful old
    → Run old cs rs new → IsLawful new
run_keeps_layouts passes old new [] [] h run = subst IsLawful (sym run) h
run_keeps_layouts passes old new [] (r ∷ rs) h run = absurd run
run_keeps_layouts passes old new (c ∷ cs) [] h run = absurd run
run_keeps_layouts passes old new (c ∷ cs) (r ∷ rs) h run = run_keeps_layouts passes run.0 new cs rs next run.2
  where
    next : IsLawful run.0
    next = elim run.1 [
      | inl e ↦
          subst (λ (p : Reply × State). IsLawful p.1) (sym e)
          (laid passes old h c (effect old c) (command_has_effect old c))
      | inr want ↦ subst IsLawful (sym want.2) h
    ]

-- ---- tables

-- the table of a number, and the calls of it that a reply tells
abbrev LeavesTable : ℕ → State → Command → Reply × State → Type 0
LeavesTable number old c a = AreLeftBy number (table_call number c a.0) old.host.tables a.1.host.tables

quiet_leaves : (number : ℕ) (old : State) (c : Command) (a : Reply × State) → IsSilent c a.0
    → a.1.host.tables ≡ old.host.tables → LeavesTable number old c a
quiet_leaves number old c a silent e = rw (silent.calls number) (same number old.host.tables a.1.host.tables e)

effect_leaves : HistoryLaws → (number : ℕ) (old : State) (c : Command) (f : Effect) → IsOf old c f
    → LeavesTable number old c (apply old f)
effect_leaves laws number old c (Replies r) is = quiet_leaves number old c (r, old) is.1 refl
effect_leaves laws number old c (AddsLayout rs) is =
    let a = apply old (AddsLayout rs) in quiet_leaves number old c a (quiet_is_silent c a.0 tt) refl
effect_leaves laws number old c (AddsMemory m) is =
    let a = apply old (AddsMemory m) in quiet_leaves number old c a (quiet_is_silent c a.0 tt) refl
effect_leaves laws number old c (SetsMemory n m) is =
    quiet_leaves number old c (apply old (SetsMemory n m)) is.1 refl
effect_leaves laws number old c (Leaves r host) is = is.tables laws number

step_leaves : HistoryLaws → (number : ℕ) (old : State) (c : Command) (r : Reply) (new : State) → Step old c r new
    → LeavesTable number old c (r, new)
step_leaves laws number old c r new step = elim step [
  | inl e ↦
      subst (LeavesTable number old c) (sym e)
      (effect_leaves laws number old c (effect old c) (command_has_effect old c))
  | inr want ↦
      rw want.0
      (quiet_leaves number old c (reply.Memory, new) (quiet_is_silent c reply.Memory tt)
      (ap (λ (s : State). s.host.tables) want.2))
]

pub run_leaves : HistoryLaws → (number : ℕ) (old : State) (cs : List Command) (rs : List Reply) (new : State)
    → Run old cs rs new
    → AreLeftBy number (table_calls number cs rs) old.host.tables new.host.tables
run_leaves laws number old [] [] new run = same number _ _ (ap (λ (s : State). s.host.tables) run)
run_leaves laws number old [] (r ∷ rs) new run = absurd run
run_leaves laws number old (c ∷ cs) [] new run = absurd run
run_leaves laws number old (c ∷ cs) (r ∷ rs) new run =
    one_after_the_other number (table_call number c r) (table_calls number cs rs) old.host.tables run.0.host.tables
    new.host.tables (step_leaves laws number old c r run.0 run.1) (run_leaves laws number run.0 cs rs new run.2)

-- ---- images

module _ (laws : ImageLaws) (block : ℕ) where
  -- an image after a command and its reply, beside the state
  abbrev KeepsAfter : List ℕ → State → Command → Reply × State → Type 0
  KeepsAfter image old c a = KeepsBlock block (image_after block old.host c a.0 image) a.1.host

  silent_keeps : (image : List ℕ) (old : State) (c : Command) (a : Reply × State) → IsSilent c a.0
      → KeepsBlock block image a.1.host → KeepsAfter image old c a
  silent_keeps image old c a silent kept = rw (silent.patch block old.host image) kept

  effect_keeps : (image : List ℕ) (old : State) → KeepsBlock block image old.host → (c : Command) → IsDirect old c
      → (f : Effect) → IsOf old c f → KeepsAfter image old c (apply old f)
  effect_keeps image old kept c direct (Replies r) is =
      silent_keeps image old c (r, old) is.1 kept
  effect_keeps image old kept c direct (AddsLayout rs) is =
      let a = apply old (AddsLayout rs) in silent_keeps image old c a (quiet_is_silent c a.0 tt) kept
  effect_keeps image old kept c direct (AddsMemory m) is =
      let a = apply old (AddsMemory m) in silent_keeps image old c a (quiet_is_silent c a.0 tt) kept
  effect_keeps image old kept c direct (SetsMemory number m) is =
      silent_keeps image old c (apply old (SetsMemory number m)) is.1 kept
  effect_keeps image old kept c direct (Leaves r host) is = is.image laws block image direct kept

  step_keeps : (image : List ℕ) (old new : State) → KeepsBlock block image old.host → (c : Command) (r : Reply)
      → IsDirect old c → Step old c r new → KeepsAfter image old c (r, new)
  step_keeps image old new kept c r direct step = elim step [
    | inl e ↦
        subst (KeepsAfter image old c) (sym e)
        (effect_keeps image old kept c direct (effect old c) (command_has_effect old c))
    | inr want ↦
        rw want.0
        (silent_keeps image old c (reply.Memory, new) (quiet_is_silent c reply.Memory tt)
        (subst (λ (s : State). KeepsBlock block image s.host) (sym want.2) kept))
  ]

  -- at every state of a run
  pub run_keeps : (image : List ℕ) (old : State) (cs : List Command) (rs : List Reply) (new : State)
      (run : Run old cs rs new)
      → KeepsBlock block image old.host → RunsDirectly old cs rs new run → KeepsImage block image old cs rs new run
  run_keeps image old [] [] new run kept direct =
      let last = subst (λ (s : State). KeepsBlock block image s.host) (sym run) kept in
      mirrors_from_clean laws.are_listed (pages_of_block block new.host)
      (bytes_of_block block new.host) image last.clean
  run_keeps image old [] (r ∷ rs) new run kept direct = absurd run
  run_keeps image old (c ∷ cs) [] new run kept direct = absurd run
  run_keeps image old (c ∷ cs) (r ∷ rs) new run kept direct =
      let next = step_keeps image old run.0 kept c r direct.0 run.1 in
      let mirrors = mirrors_from_clean laws.are_listed (pages_of_block block old.host)
      (bytes_of_block block old.host) image kept.clean in (
        mirrors,
        replies_as_image block image old c mirrors,
        run_keeps (image_after block old.host c r image) run.0 cs rs new run.2 next direct.1,
      )

  -- no harvest of the block's bitmap, no patch
  unpatched : (image : List ℕ) (host : Host PageSet) (c : Command) (r : Reply) → c ≢ command.Harvest (Block block)
      → image_after block host c r image ≡ image
  unpatched image host (command.Harvest (Block b)) (reply.Pages pages) other =
      cond-false (b == block) (patched_with block host pages image) image
      (false_from_ne_true (b == block) (λ t. other (ap (λ (i : ℕ). command.Harvest (Block i)) (eqb-true b block t))))
  unpatched image host c r other = refl

  -- and the image still mirrors the block at the end
  pub unharvested_run_keeps : (image : List ℕ) (old : State) (cs : List Command) (rs : List Reply) (new : State)
      (run : Run old cs rs new)
      → KeepsBlock block image old.host → RunsDirectly old cs rs new run
      → All (λ (c : Command). c ≢ command.Harvest (Block block)) cs → KeepsBlock block image new.host
  unharvested_run_keeps image old [] [] new run kept direct none =
      subst (λ (s : State). KeepsBlock block image s.host) (sym run) kept
  unharvested_run_keeps image old [] (r ∷ rs) new run kept direct none = absurd run
  unharvested_run_keeps image old (c ∷ cs) [] new run kept direct none = absurd run
  unharvested_run_keeps image old (c ∷ cs) (r ∷ rs) new run kept direct none =
      let Other : Command → Type 0 = λ d. d ≢ command.Harvest (Block block) in
      let same = unpatched image old.host c r (All-head Other c cs none) in
      let next = step_keeps image old run.0 kept c r direct.0 run.1 in
      unharvested_run_keeps image run.0 cs rs new run.2
      (subst (λ (a : List ℕ). KeepsBlock block a run.0.host) same next) direct.1 (All-tail Other c cs none)
