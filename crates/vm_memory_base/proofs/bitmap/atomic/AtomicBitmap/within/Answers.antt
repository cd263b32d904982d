use Rattle.std.proofs.Common.{◌-◌, ◌*◌, arith}
use Rattle.vm_memory_base.proofs.WordLemmas.{cut_word}
use Rattle.vm_memory_base.proofs.bitmap.atomic.AtomicBitmap.within.Goals as goal

pub returns-then-pages-lt64 : goal.returns-then-pages-lt64
returns-then-pages-lt64 c bit small past =
    let len = c.len.ensures in
    cut_word c.args.word (c.len.result - 64 * c.args.k) bit c.if-pages-lt64.true (omega (arith, len, past))
