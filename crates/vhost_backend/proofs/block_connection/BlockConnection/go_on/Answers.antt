use Rattle.std.proofs.Common.{◌≡◌, ℕ, List, drop, subst}
use Rattle.vhost_backend.specs.BlockConnection.{looked_after}
use Rattle.vhost_backend.specs.Run.{Course, Rests, course_of}
use Rattle.vhost_backend.specs.declared.block_connection.BlockConnection.{BlockConnection}
use Rattle.vhost_backend.specs.declared.rows.EndRow.{EndRow}
use Rattle.vhost_backend.proofs.block_connection.BlockConnection.go_on.Goals as goal

rests_on : (c mid last : BlockConnection) (es : List EndRow) (n m turns : ℕ) (d : Course) → mid ≡ c
    → last ≡ looked_after mid → m ≡ n → Rests (course_of last (drop m es) turns) d
    → Rests (course_of (looked_after c) (drop n es) turns) d
rests_on c mid last es n m turns d same looks is rests =
    subst (λ k. Rests (course_of (looked_after c) (drop k es) turns) d) is
    (subst (λ b. Rests (course_of (looked_after b) (drop m es) turns) d) same
    (subst (λ b. Rests (course_of b (drop m es) turns) d) looks rests))

pub returns-else-next_event-clause-goes : goal.returns-else-next_event-clause-goes
returns-else-next_event-clause-goes c =
    let (quiet, same, puts) = c.in-Nothing.ensures.gives in (
      quiet,
      rests_on c.args.self.now c.give_next-given.new.self c.after_message.new.self c.args.ends.now
          c.args.counts.now.ends c.give_next-given.new.counts.ends c.args.turns.now
          (course_of c.next_event.new.self (drop c.next_event.new.taken c.args.ends.now) c.next_event.new.turns)
          same c.after_message.ensures c.in-Nothing.ensures.ends c.if-next_event.ensures.event,
      puts,
    )
