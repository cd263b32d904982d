use Rattle.std.proofs.Common.{◌≡◌, arith}
use Rattle.vm_memory_guest.proofs.TypedLemmas.{empty-value}
use Rattle.vm_memory_guest.proofs.volatile_memory.slice.VolatileSliceBytesUsize.read_obj.Goals as goal

pub returns-then-expected-eq0 : goal.returns-then-expected-eq0
returns-then-expected-eq0 g c short =
    let none : g.T.ByteSized.width ≡ 0 = omega (arith, c.size-expected.ensures, c.if-expected-eq0.true) in
    let value = g.met.T.ByteValued.laws.from_bytes c.zeroed-value.result c.recall_law.ensures in (
      empty-value g.T.ByteValued.value_of c.args.self.now c.args.addr g.T.ByteSized.width c.args.host.now.blocks
          c.zeroed-value.result (g.T.ByteValued.bytes c.zeroed-value.result) none c.zeroed-value.ensures value,
      tt,
    )
