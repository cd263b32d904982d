use Rattle.std.proofs.Common.{◌-◌, take, arith}
use Rattle.vm_memory_device.proofs.ReachOfText.{runs-some}
use Rattle.vm_memory_device.proofs.chain.text.Text.skip.Goals as goal

pub loop-most-smaller : goal.loop-most-smaller
loop-most-smaller c =
    let l = c.loop-most in
    let next = c.in-Some.ensures in
    let some = runs-some c.in-Some.field-0-0.0 c.in-Some.most (take (c.min-total.result - l.passed) l.self) next.runs in
    omega (arith, next.fits)
