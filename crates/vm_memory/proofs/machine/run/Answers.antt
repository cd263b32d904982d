use Rattle.std.proofs.Common.{◌≡◌, List, ◌++◌, ◌∷◌, [], ◌^◌, ◌<◌, length, take, subst, arith}
use Rattle.std.proofs.lemmas.List.{take_all, take_more, append_assoc}
use Rattle.vm_memory.specs.History.{AccessesFollowTables}
use Rattle.vm_memory.specs.Inside.{parts_of}
use Rattle.vm_memory.specs.Lawful.{IsLawful}
use Rattle.vm_memory.specs.Machine.{Run}
use Rattle.vm_memory.specs.Parts.{state_of}
use Rattle.vm_memory.specs.Rounds.{bytes_of_block}
use Rattle.vm_memory.specs.State.{State}
use Rattle.vm_memory.specs.declared.machine.command.Command.{Command}
use Rattle.vm_memory.specs.declared.machine.command.Reply.{Reply}
use Rattle.vm_memory.proofs.LawfulLemmas.{machine_is_lawful}
use Rattle.vm_memory.proofs.RunLemmas.{Run-step, at_each_state}
use Rattle.vm_memory.proofs.machine.run.Goals as goal

pub loop-command-preserved : goal.loop-command-preserved
loop-command-preserved g c =
    let state = state_of g.R.GuestMemoryRegion.region g.I.Iommu.number g.B.ExactBitmap.pages in
    let i = c.loop-command.command-index in
    let commands = c.args.commands.now in
    let item = c.command-item.result in
    let r = c.step-reply.result in
    let ran = c.loop-command.invariant.ran in
    let pushed = c.in_ok-push.ensures in
    record {
      room = omega (arith, c.loop-command.invariant.room, pushed.len, pushed.capacity);
      ran = (
        ran.0 ++ r ∷ [],
        rw (pushed.items, ran.1, append_assoc),
        rw (take_more commands i item (omega arith), ← c.command-item.is)
            (Run-step (state c.args.machine.now) (take i commands) ran.0 (state c.loop-command.machine) item r
            (state c.step-reply.new.self) ran.2 c.step-reply.ensures),
      );
    }

pub returns-clause-ran : goal.returns-clause-ran
returns-clause-ran g c =
    let state = state_of g.R.GuestMemoryRegion.region g.I.Iommu.number g.B.ExactBitmap.pages in
    let before = state c.args.machine.now in
    let after = state c.loop-command.machine in
    let commands = c.args.commands.now in
    let ran = c.loop-command.invariant.ran in
    let all : take c.loop-command.command-index commands ≡ commands =
    take_all c.loop-command.command-index commands (omega arith) in
    let run : Run before commands ran.0 after = rw all at ran.2 in
    let lawful = subst (λ p. IsLawful (state p)) c.machine.view_is
    (machine_is_lawful g.R.GuestMemoryRegion.region g.met.R.GuestMemoryRegion.fits g.I.Iommu.number
    g.B.ExactBitmap.pages (parts_of c.machine.inside) c.machine.invariant) in
    let layouts = c.runs_keep_layouts.ensures in
    let set_last = c.accesses_go_through_what_was_set_last.ensures.all in
    let reaches : (ds : List Command) (qs : List Reply) (s : State) → Run before ds qs s
    → AccessesFollowTables before ds qs s =
    λ ds qs s made.
    let here = layouts.kept before s ds qs lawful made in
    record {
      lawful = here;
      one_region = λ m memory a i j d. layouts.one_region s m memory a i j d here;
      set_last = λ m b t a n i access x. set_last before s ds qs m b t a n i access x made;
    } in
    let laws = c.runs_keep_images.ensures in (
      ran.0,
      ran.1,
      run,
      at_each_state (AccessesFollowTables before) before commands ran.0 after run reaches,
      λ block tracked direct.
          let short : length (bytes_of_block block before.host) < 2 ^ 63 =
          rw (← c.machine.view_is) (c.blocks_are_short.ensures block) in
          laws.kept block (bytes_of_block block before.host) before commands ran.0 after run tracked
          (omega arith) direct
          (laws.copy block before.host),
    )
