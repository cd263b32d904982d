use Rattle.std.proofs.Common.{[], ◌∷◌, take, ◌∙◌, sym, ap, subst, Ok}
use Rattle.vm_memory_guest.specs.Window.{Writes}
use Rattle.vm_memory_guest.proofs.HostLemmas.{Writes-taken, span-one}
use Rattle.vm_memory_guest.proofs.volatile_memory.slice.VolatileSliceBytesUsize.write.Goals as goal

pub returns-clause-answer : goal.returns-clause-answer
returns-clause-answer g c =
    let w = c.in_ok-window.window in
    let marks = g.B.Bitmap.marks in
    let old = c.args.host.now in
    let new = c.write.new.self in
    let count = c.len-count.ensures ∙ sym (span-one w) in
    rw c.in_ok-window.ensures.reach (
      ap (λ n. Ok n) count,
      Writes-taken marks (w ∷ []) c.args.buf.now old new
          (subst (λ n. Writes marks (w ∷ []) (take n c.args.buf.now) old new) count c.write.ensures.bytes),
    )
