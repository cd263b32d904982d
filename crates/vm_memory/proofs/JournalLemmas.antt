-- What runs say of journals: their entries, and runs of the same commands.
use Rattle.std.proofs.Common.{◌≡◌, ◌≢◌, ℕ, zero, suc, List, [], ◌∷◌, ◌++◌, length, All, Some, refl, sym, ap, subst, ◌∙◌, inl, inr}
use Rattle.std.specs.Prelude.{slice_get}
use Rattle.std.proofs.lemmas.List.Elements.{All-head, All-tail}
use Rattle.std.proofs.lemmas.Option.{none-some, get_or_from_slice_get}
use Rattle.vm_memory.specs.Journal.{Served, Serves, IsEntry}
use Rattle.vm_memory.specs.Machine.{Step, Run, outcome}
use Rattle.vm_memory.specs.Parts.{Parts}
use Rattle.vm_memory.specs.State.{State}
use Rattle.vm_memory.specs.declared.machine.command.Command.{Command}
use Rattle.vm_memory.specs.declared.machine.command.Reply.{Reply}
use Rattle.vm_memory.specs.declared.machine.command.Reply.TheVariants as reply

-- ---- entries

-- a run has as many replies as commands
pub run_replies_each : (opening now : State) (cs : List Command) (rs : List Reply) → Run opening cs rs now
    → length rs ≡ length cs
run_replies_each opening now [] [] run = refl
run_replies_each opening now [] (r ∷ rs) run = absurd run
run_replies_each opening now (c ∷ cs) [] run = absurd run
run_replies_each opening now (c ∷ cs) (r ∷ rs) run = ap suc (run_replies_each run.0 now cs rs run.2)

-- each of its replies has a command
command_of_reply : (opening now : State) (cs : List Command) (rs : List Reply) (n : ℕ) (r : Reply)
    → Run opening cs rs now → slice_get rs n ≡ Some r → (c : Command) × (slice_get cs n ≡ Some c)
command_of_reply opening now [] [] n r run there = absurd (none-some r there)
command_of_reply opening now [] (q ∷ rs) n r run there = absurd run
command_of_reply opening now (c ∷ cs) [] n r run there = absurd run
command_of_reply opening now (c ∷ cs) (q ∷ rs) zero r run there = (c, refl)
command_of_reply opening now (c ∷ cs) (q ∷ rs) (suc n) r run there = command_of_reply run.0 now cs rs n r run.2 there

pub entry_of_run : (opening now : State) (cs : List Command) (rs : List Reply) (n : ℕ) (r : Reply)
    → Run opening cs rs now → slice_get rs n ≡ Some r
    → (c : Command) × (slice_get cs n ≡ Some c) × IsEntry n c r
entry_of_run opening now cs rs n r run there =
    let c = command_of_reply opening now cs rs n r run there in (
      c.0,
      c.1,
      record {
        opening = opening;
        commands = cs;
        replies = rs;
        now = now;
        ran = run;
        has_command = c.1;
        has_reply = there;
      },
    )

-- the last of some elements
last_of : {X : Type 0} (xs : List X) (x : X) → slice_get (xs ++ x ∷ []) (length xs) ≡ Some x
last_of [] x = refl
last_of (y ∷ xs) x = last_of xs x

-- what was put last stands where it was put
last_is : {X : Type 0} (xs ys : List X) (n : ℕ) (x y : X) → ys ≡ xs ++ x ∷ [] → n ≡ length xs
    → slice_get ys n ≡ Some y → y ≡ x
last_is xs ys n x y is at there =
    let last : slice_get ys n ≡ Some x = rw (is, at) (last_of xs x) in
    sym (get_or_from_slice_get ys n y y there) ∙ get_or_from_slice_get ys n x y last

module _ {R I B : Type 0} (state : Parts R I B → State) (old new : Served R I B) (n : ℕ) (c : Command) (r : Reply) where
  -- the reply that a journal has of the entry that was served
  pub served_reply : ((q : Reply) × Serves state old n c q new) → Some r ≡ slice_get new.replies n
      → Serves state old n c r new
  served_reply served is =
      let s = served.1 in
      let same : r ≡ served.0 = last_is old.replies new.replies n served.0 r s.replies s.after_replies (sym is) in
      subst (λ (q : Reply). Serves state old n c q new) (sym same) s

  pub served_entry : ((q : Reply) × Serves state old n c q new)
      → ((d : Command) × (slice_get new.commands n ≡ Some d) × IsEntry n d r) → IsEntry n c r
  served_entry served entry =
      let s = served.1 in
      let same : entry.0 ≡ c =
      last_is old.commands new.commands n c entry.0 s.commands s.after_commands entry.1 in
      subst (λ (d : Command). IsEntry n d r) same entry.2

-- ---- runs of the same commands

-- what a step answers and leaves that did not want memory
ample_step : (old new : State) (c : Command) (r : Reply) → Step old c r new → r ≢ reply.Memory
    → (r, new) ≡ outcome old c
ample_step old new c r step ample = elim step [ inl e ↦ e | inr want ↦ absurd (ample want.0) ]

pub ample_runs_agree : (old new again : State) (cs : List Command) (rs qs : List Reply) → Run old cs rs new
    → Run old cs qs again → All (λ (r : Reply). r ≢ reply.Memory) rs → All (λ (r : Reply). r ≢ reply.Memory) qs
    → (qs ≡ rs) × (again ≡ new)
ample_runs_agree old new again [] [] [] run other a b = (refl, other ∙ sym run)
ample_runs_agree old new again [] (r ∷ rs) qs run other a b = absurd run
ample_runs_agree old new again [] [] (q ∷ qs) run other a b = absurd other
ample_runs_agree old new again (c ∷ cs) [] qs run other a b = absurd run
ample_runs_agree old new again (c ∷ cs) (r ∷ rs) [] run other a b = absurd other
ample_runs_agree old new again (c ∷ cs) (r ∷ rs) (q ∷ qs) run other a b =
    let Ample : Reply → Type 0 = λ r. r ≢ reply.Memory in
    let same : (q, other.0) ≡ (r, run.0) =
    ample_step old other.0 c q other.1 (All-head Ample q qs b)
    ∙ sym (ample_step old run.0 c r run.1 (All-head Ample r rs a)) in
    let mid : other.0 ≡ run.0 = ap (λ (p : Reply × State). p.1) same in
    let rest = ample_runs_agree run.0 new again cs rs qs run.2
    (subst (λ (s : State). Run s cs qs again) mid other.2) (All-tail Ample r rs a) (All-tail Ample q qs b) in (
      ap (λ (p : Reply × State). p.0 ∷ qs) same ∙ ap (λ (xs : List Reply). r ∷ xs) rest.0,
      rest.1,
    )
