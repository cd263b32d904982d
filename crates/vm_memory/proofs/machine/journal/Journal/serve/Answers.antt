use Rattle.std.proofs.Common.{List, [], ◌∷◌, ◌++◌, ◌∙◌, ap, arith}
use Rattle.vm_memory.specs.Parts.{state_of}
use Rattle.vm_memory.specs.declared.machine.command.Command.{Command}
use Rattle.vm_memory.specs.declared.machine.command.Reply.{Reply}
use Rattle.vm_memory.proofs.JournalLemmas.{run_replies_each}
use Rattle.vm_memory.proofs.RunLemmas.{Run-step}
use Rattle.vm_memory.proofs.machine.journal.Journal.serve.Goals as goal

pub invariant_of-self-2 : goal.invariant_of-self-2
invariant_of-self-2 g c =
    let state = state_of g.R.GuestMemoryRegion.region g.I.Iommu.number g.B.ExactBitmap.pages in
    let j = c.self.inside in
    let led = c.self.invariant in (
      led.0,
      rw (
        c.in_ok-push.ensures.items,
        c.in_ok-push-2.ensures.items,
        c.in_ok-reserve.ensures.items,
        c.in_ok-reserve-2.ensures.items,
      )
          (Run-step led.0 j.commands.items j.replies.items (state j.machine) c.args.command c.step-reply.result
          (state c.step-reply.new.self) led.1 c.step-reply.ensures),
    )

pub returns-clause-served : goal.returns-clause-served
returns-clause-served g c =
    let state = state_of g.R.GuestMemoryRegion.region g.I.Iommu.number g.B.ExactBitmap.pages in
    let j = c.self.inside in
    let led = c.self.invariant in
    let each = run_replies_each led.0 (state j.machine) j.commands.items j.replies.items led.1 in
    rw (← c.self.view_is) (
      c.step-reply.result,
      record {
        after_commands = omega (arith, c.len-number.ensures, c.in_ok-reserve.ensures.len, j.commands.ok.0);
        after_replies = omega (arith, c.len-number.ensures, c.in_ok-reserve.ensures.len, j.commands.ok.0, each);
        commands =
            c.in_ok-push.ensures.items
            ∙ ap (λ (cs : List Command). cs ++ c.args.command ∷ []) c.in_ok-reserve.ensures.items;
        replies =
            c.in_ok-push-2.ensures.items
            ∙ ap (λ (rs : List Reply). rs ++ c.step-reply.result ∷ []) c.in_ok-reserve-2.ensures.items;
        stepped = c.step-reply.ensures;
      },
    )
