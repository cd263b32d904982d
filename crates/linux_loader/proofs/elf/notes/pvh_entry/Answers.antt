use Rattle.std.proofs.lemmas.Result.{err_from_is_err_and}
use Rattle.linux_loader.proofs.PvhLemmas.{sought_ended, sought_failed, sought_first, sought_found, sought_on}
use Rattle.linux_loader.proofs.elf.notes.pvh_entry.Goals as goal

pub loop-header-init : goal.loop-header-init
loop-header-init g c = sought_first (g.F.KernelImage.bytes c.args.image.now) c.args.size c.args.headers.now

pub returns-in_err-entry : goal.returns-in_err-entry
returns-in_err-entry g c =
    let l = c.loop-header in
    let p = err_from_is_err_and c.from_residual.result c.from_residual.ensures.1 in
    rw (p.1, p.2)
    (sought_failed (g.F.KernelImage.bytes c.args.image.now) (g.F.KernelImage.bytes l.image)
    (g.F.KernelImage.bytes c.entry_of.new.image) c.args.size c.args.headers.now l.header-index l.invariant _
    c.loop-header-test.true c.in_err-entry.field-0.0 c.in_err-entry.ensures)

pub returns-in-Some : goal.returns-in-Some
returns-in-Some g c =
    let l = c.loop-header in
    sought_found (g.F.KernelImage.bytes c.args.image.now) (g.F.KernelImage.bytes l.image)
    (g.F.KernelImage.bytes c.entry_of.new.image) c.args.size c.args.headers.now l.header-index l.invariant _
    c.loop-header-test.true c.in-Some.entry (rw c.in-Some.is at c.in_ok-entry.ensures)

pub loop-header-preserved : goal.loop-header-preserved
loop-header-preserved g c =
    let l = c.loop-header in
    sought_on (g.F.KernelImage.bytes c.args.image.now) (g.F.KernelImage.bytes l.image)
    (g.F.KernelImage.bytes c.entry_of.new.image) c.args.size c.args.headers.now l.header-index l.invariant _
    c.loop-header-test.true (rw c.in-None.is at c.in_ok-entry.ensures)

pub returns : goal.returns
returns g c =
    let l = c.loop-header in
    sought_ended (g.F.KernelImage.bytes c.args.image.now) (g.F.KernelImage.bytes l.image)
    (g.F.KernelImage.bytes l.image) c.args.size c.args.headers.now l.header-index l.invariant c.loop-header-test.false
