use Rattle.std.proofs.Common.{◌≡◌, ◌≤◌, List, drop, length}
use Rattle.vhost_backend.specs.Run.{Move, Moves, PutsMoves, course_of, output_of}
use Rattle.vhost_backend.proofs.block_connection.BlockConnection.fill.Given as goal

abbrev pub invariant-loop : goal.invariant-loop
invariant-loop l = record {
  taken : l.counts.ends ≤ length l.ends;
  made : (ms : List Move) × Moves (course_of l.initial.self (drop l.initial.counts.ends l.ends) l.initial.turns) ms
      (course_of l.self (drop l.counts.ends l.ends) l.turns)
      × PutsMoves (output_of l.initial.counts l.initial.actions l.initial.pieces l.initial.output) ms
      (output_of l.counts l.actions l.pieces l.output) × (length ms ≡ l.counter);
}
