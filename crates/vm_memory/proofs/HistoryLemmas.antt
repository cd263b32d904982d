-- A command in a run.
use Rattle.std.proofs.Common.{List, [], ◌∷◌, ◌++◌, refl, ap}
use Rattle.vm_memory.specs.History.{AnsweredIn}
use Rattle.vm_memory.specs.Machine.{Run}
use Rattle.vm_memory.specs.State.{State}
use Rattle.vm_memory.specs.declared.machine.command.Command.{Command}
use Rattle.vm_memory.specs.declared.machine.command.Reply.{Reply}

pub command_in_run : (old new : State) (before after : List Command) (c : Command) (rs : List Reply)
    → Run old (before ++ c ∷ after) rs new → AnsweredIn old before c after rs new
command_in_run old new [] after c [] run = absurd run
command_in_run old new [] after c (r ∷ rs) run = record {
  earlier = [];
  reply = r;
  later = rs;
  replies = refl;
  mid = old;
  next = run.0;
  ran = refl;
  stepped = run.1;
  goes_on = run.2;
}
command_in_run old new (d ∷ before) after c [] run = absurd run
command_in_run old new (d ∷ before) after c (r ∷ rs) run =
    let rest = command_in_run run.0 new before after c rs run.2 in
    record {
      earlier = r ∷ rest.earlier;
      reply = rest.reply;
      later = rest.later;
      replies = ap (λ (qs : List Reply). r ∷ qs) rest.replies;
      mid = rest.mid;
      next = rest.next;
      ran = (run.0, run.1, rest.ran);
      stepped = rest.stepped;
      goes_on = rest.goes_on;
    }
