use Rattle.std.proofs.Common.{◌≡◌, ◌*◌, ap, ◌∙◌, sym, arith}
use Rattle.vm_memory_guest.specs.Volatile.{Elements}
use Rattle.vm_memory_guest.proofs.ElementLemmas.{element-starts}
use Rattle.vm_memory_guest.proofs.volatile_memory.array.VolatileArrayRef.ref_at.Goals as goal

pub overflow_mul-index : goal.overflow_mul-index
overflow_mul-index g c =
    let r = c.self.inside in
    let counts = ap (λ (e : Elements). e.count) c.self.view_is in
    let size = c.size-size.result in
    let all : r.slice.size ≡ r.nelem * size = c.self.invariant.0 ∙ ap (λ n. r.nelem * n) (sym c.size-size.ensures) in
    let starts = element-starts c.args.index r.nelem size r.slice.size (omega arith) all in
    omega (arith, c.self.invariant.1)
