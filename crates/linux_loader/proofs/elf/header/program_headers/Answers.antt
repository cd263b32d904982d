use Rattle.std.proofs.Common.{◌∙◌}
use Rattle.linux_loader.proofs.ElfLemmas.{headers_none, headers_pushed}
use Rattle.linux_loader.proofs.elf.header.program_headers.Goals as goal

pub loop-place-init : goal.loop-place-init
loop-place-init c = c.new-headers.ensures.items ∙ headers_none c.args.table.now

pub loop-place-preserved : goal.loop-place-preserved
loop-place-preserved c =
    let header = c.program_header.ensures in
    headers_pushed c.loop-place.place c.args.table.now c.loop-place.headers.items _ _ c.loop-place.invariant header
    c.in_ok-push.ensures.items
