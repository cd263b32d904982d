-- One byte more is two digits more.
use Rattle.std.proofs.Common.{◌<◌, length, get_or, arith, rules}
use Rattle.std.proofs.Output.{has_written_append, has_written_of_eq}
use Rattle.vm_memory.proofs.ReplyLemmas.{digits-more}
use Rattle.vm_memory.proofs.script.reply.HexDisplay.fmt.Goals as goal

pub loop-byte-preserved : goal.loop-byte-preserved
loop-byte-preserved g c plain =
    let bytes = c.args.self.now.0.now in
    let i = c.loop-byte.byte-index in
    let within : i < length bytes = omega arith in
    let small : get_or bytes i 0 < 256 = omega arith in
    has_written_of_eq _ _ _ _ _ (digits-more bytes i within small)
    (has_written_append _ _ _ _ _ _ (c.loop-byte.invariant plain) (search rules))
