use Rattle.std.proofs.Common.{◌≡◌, ◌+◌, [], drop, length, ap, sym, ◌∙◌, arith, append-nil}
use Rattle.std.proofs.lemmas.List.{length-replicate, drop_all}
use Rattle.vm_memory_guest.specs.Host.{bytes_at}
use Rattle.vm_memory_guest.specs.Window.{cells_of}
use Rattle.vm_memory_guest.proofs.HostLemmas.{length-bytes}
use Rattle.vm_memory_guest.proofs.host.HostMemory.value.Goals as goal

pub set_bytes-requires-clause-inside : goal.set_bytes-requires-clause-inside
set_bytes-requires-clause-inside g c =
    let long = ap length c.bytes.ensures ∙ length-bytes c.args.self.now.blocks c.args.window.now in
    omega (arith, long, c.requires.size)

pub returns : goal.returns
returns g c all =
    let width = g.T.ByteSized.width in
    let bs = c.bytes.result.now in
    let long : length bs ≡ width =
    ap length c.bytes.ensures ∙ length-bytes c.args.self.now.blocks c.args.window.now ∙ all in
    let zeros = ap length c.zeroed-value.ensures ∙ length-replicate width 0 in
    let none : drop (0 + length bs) (g.T.ByteValued.bytes c.zeroed-value.result) ≡ [] =
    drop_all (0 + length bs) (g.T.ByteValued.bytes c.zeroed-value.result) (omega arith) in
    let bytes : g.T.ByteValued.bytes c.set_bytes.new.self
    ≡ bytes_at c.args.self.now.blocks (cells_of c.args.window.now) =
    c.set_bytes.ensures ∙ rw none (append-nil bs ∙ c.bytes.ensures) in
    sym (g.met.T.ByteValued.laws.from_bytes c.set_bytes.new.self c.recall_law.ensures) ∙ ap g.T.ByteValued.value_of bytes
