use Rattle.std.proofs.Common.{◌∙◌, ap, take, drop, arith}
use Rattle.std.proofs.lemmas.Grind.{common_steps}
use Rattle.vm_memory_guest.specs.Host.{cells_from, written}
use Rattle.vm_memory_guest.specs.Inside.{blocks_of}
use Rattle.vm_memory_guest.proofs.TypedLemmas.{place}
use Rattle.vm_memory_guest.proofs.host.block.put_value_in.Goals as goal

pub returns : goal.returns
returns g c =
    let at = c.args.at in
    let p = place c.args.blocks.now at.block at.offset at.len c.index_mut-all.result.now
    c.as_mut_slice.result.now (grind (arith, common_steps)) (grind (arith, common_steps)) c.as_mut_slice.ensures.value
    c.requires.within in
    let put = c.copy_bytes.ensures
    ∙ ap (λ k. take k (drop c.args.from (g.T.ByteValued.bytes c.args.value.now))) p.long in
    p.put c.copy_bytes.new.out c.copy_bytes.auto.out
    ∙ ap (λ bytes. written (cells_from at.block at.offset at.len) bytes (blocks_of c.args.blocks.now)) put
