use Rattle.std.proofs.Common.{◌∙◌, ap, length, arith}
use Rattle.vm_memory_guest.specs.Typed.{size_of}
use Rattle.vm_memory_guest.proofs.ElementLemmas.{element-inside, values-put}
use Rattle.vm_memory_guest.proofs.HostLemmas.{length-bytes}
use Rattle.vm_memory_guest.proofs.host.HostMemory.read_values.Goals as goal

pub value_in-requires : goal.value_in-requires
value_in-requires g c =
    let long = ap length c.bytes-bytes.ensures ∙ length-bytes c.args.self.now.blocks c.args.window.now in
    element-inside c.loop-k.k (length c.args.values.now) (size_of g.T.ByteSized.width) (length c.bytes-bytes.result.now)
    (omega arith) (omega (arith, c.requires.size))

pub loop-k-preserved : goal.loop-k-preserved
loop-k-preserved g c short =
    values-put g.T.ByteValued.value_of g.T.ByteSized.width c.loop-k.k c.bytes-bytes.result.now c.loop-k.values
    c.value_in.result (omega arith) (c.loop-k.invariant short) (c.value_in.ensures short)
