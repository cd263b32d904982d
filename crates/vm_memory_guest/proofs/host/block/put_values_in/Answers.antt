use Rattle.std.proofs.Common.{◌∙◌, ap, length, map, arith}
use Rattle.std.proofs.lemmas.Grind.{common_steps}
use Rattle.vm_memory_guest.specs.Host.{cells_from, written}
use Rattle.vm_memory_guest.specs.Inside.{blocks_of}
use Rattle.vm_memory_guest.proofs.TypedLemmas.{place}
use Rattle.vm_memory_guest.proofs.WrittenLaws.{lengths-written}
use Rattle.vm_memory_guest.proofs.host.block.put_values_in.Goals as goal

pub returns-clause-put : goal.returns-clause-put
returns-clause-put g c short =
    let at = c.args.at in
    let p = place c.args.blocks.now at.block at.offset at.len c.index_mut-all.result.now
    c.as_mut_slice.result.now (grind (arith, common_steps)) (grind (arith, common_steps)) c.as_mut_slice.ensures.value
    c.requires.within in
    p.put c.fill_place.new.place c.fill_place.auto.place
    ∙ ap (λ bytes. written (cells_from at.block at.offset at.len) bytes (blocks_of c.args.blocks.now))
    (c.fill_place.ensures short)

pub returns-clause-lengths : goal.returns-clause-lengths
returns-clause-lengths g c =
    let at = c.args.at in
    let p = place c.args.blocks.now at.block at.offset at.len c.index_mut-all.result.now
    c.as_mut_slice.result.now (grind (arith, common_steps)) (grind (arith, common_steps)) c.as_mut_slice.ensures.value
    c.requires.within in
    ap (map length) (p.put c.fill_place.new.place c.fill_place.auto.place)
    ∙ lengths-written (cells_from at.block at.offset at.len) c.fill_place.new.place
    (blocks_of c.args.blocks.now)
