use Rattle.std.proofs.Common.{◌≡◌, ◌≤◌, ◌+◌, ◌-◌, List, ◌++◌, length, take, vec_len}
use Rattle.std.specs.Vec.{vec_capacity}
use Rattle.vm_memory.specs.Machine.{Run}
use Rattle.vm_memory.specs.Parts.{state_of}
use Rattle.vm_memory.specs.declared.machine.command.Reply.{Reply}
use Rattle.vm_memory.proofs.machine.run.Given as goal

abbrev pub invariant-loop-command : goal.invariant-loop-command
invariant-loop-command g l =
    let state = state_of g.R.GuestMemoryRegion.region g.I.Iommu.number g.B.ExactBitmap.pages in
    record {
      room : vec_len l.replies + (length l.commands - l.command-index) ≤ vec_capacity l.replies;
      ran : (new : List Reply) × (l.replies.items ≡ l.fn.replies.items ++ new)
          × Run (state l.fn.machine) (take l.command-index l.commands) new (state l.machine);
    }
