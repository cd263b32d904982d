use Rattle.std.proofs.Common.{List, ◌∙◌, ap}
use Rattle.std.proofs.lemmas.Result.{err_from_is_err_and}
use Rattle.linux_loader.specs.BzImage.{planned_with}
use Rattle.linux_loader.specs.declared.segment.Segment.{Segment}
use Rattle.linux_loader.proofs.PlanLemmas.{bz_all, bz_no_area, bz_no_kernel}
use Rattle.linux_loader.proofs.bzimage.plan_of.Goals as goal

pub returns-in_err-kernel-clause-named : goal.returns-in_err-kernel-clause-named
returns-in_err-kernel-clause-named c =
    let p = err_from_is_err_and c.from_residual.result c.from_residual.ensures.1 in
    rw (p.1, p.2)
    (bz_no_kernel c.args.header.now c.args.size c.args.kernel_offset c.args.highmem_start _ c.in_err-kernel.ensures.is)

pub returns-in_err-area-clause-named : goal.returns-in_err-area-clause-named
returns-in_err-area-clause-named c =
    let p = err_from_is_err_and c.from_residual-in_err-area.result c.from_residual-in_err-area.ensures.1 in
    rw (p.1, p.2)
    (bz_no_area c.args.header.now c.args.size c.args.kernel_offset c.args.highmem_start c.in_ok-kernel.kernel
    c.in_ok-kernel.ensures.is _ _ c.in_ok-setup_header.ensures (rw c.as_slice.ensures at c.in_err-area.ensures))

pub returns-clause-named : goal.returns-clause-named
returns-clause-named c =
    let kernel = c.in_ok-kernel.kernel in
    let area = c.in_ok-area.area in
    let header = c.in_ok-setup_header.setup_header in
    bz_all c.args.header.now c.args.size c.args.kernel_offset c.args.highmem_start kernel c.in_ok-kernel.ensures.is
    header area c.plan_with.result c.in_ok-setup_header.ensures (rw c.as_slice.ensures at c.in_ok-area.ensures)
    (c.plan_with.ensures ∙ ap (λ (segments : List Segment). planned_with segments kernel header area)
    c.in_ok-segments.ensures)
