use Rattle.std.proofs.Common.{◌≡◌, length, map, ap, ◌∙◌, arith}
use Rattle.std.proofs.lemmas.List.{take_all}
use Rattle.std.proofs.lemmas.Result.{err_from_is_err_and}
use Rattle.vm_memory_guest.specs.Collection.{regions_of}
use Rattle.vm_memory_guest.specs.Mmap.{mmap_region}
use Rattle.vm_memory_guest.specs.Ranges.{range_regions}
use Rattle.vm_memory_guest.proofs.RangeLemmas.{IsMade-none, IsMade-add, refused_next}
use Rattle.vm_memory_guest.proofs.mmap.ranges_in.Goals as goal

pub loop-range-init : goal.loop-range-init
loop-range-init g c = rw c.new-regions.ensures.items (IsMade-none g.B.Bitmap.made c.args.ranges.now c.args.host.now)

pub loop-range-preserved : goal.loop-range-preserved
loop-range-preserved g c =
    IsMade-add g.B.Bitmap.made c.args.ranges.now c.args.host.now c.loop-range.range-index
    c.loop-range.host c.add_range.new.host (regions_of c.loop-range.regions) (regions_of c.add_range.new.regions)
    _ c.loop-range.invariant c.loop-range-test.true c.in_ok-add_range.ensures.ok c.add_range.ensures.kept

pub returns-in_err-add_range-clause-answer : goal.returns-in_err-add_range-clause-answer
returns-in_err-add_range-clause-answer g c =
    let p = err_from_is_err_and c.from_residual.result c.from_residual.ensures.1 in
    rw (p.1, p.2) (refused_next g.B.Bitmap.made c.args.ranges.now c.args.host.now c.loop-range.range-index
    c.loop-range.host c.add_range.new.host (map mmap_region (regions_of c.loop-range.regions))
    _ c.in_err-add_range.field-0.0 c.loop-range.invariant c.loop-range-test.true c.in_err-add_range.ensures.err)

pub returns-in_err-add_range-clause-kept : goal.returns-in_err-add_range-clause-kept
returns-in_err-add_range-clause-kept g c names held =
    c.add_range.ensures.kept names (c.loop-range.invariant.kept names held)

pub returns-clause-answer : goal.returns-clause-answer
returns-clause-answer g c =
    let made = c.loop-range.invariant in
    let ranges = c.args.ranges.now in
    let n = c.loop-range.range-index in
    let all : n ≡ length ranges = omega arith in
    let whole = take_all n ranges (omega arith) in (
      n,
      omega arith,
      made.fit,
      made.blocks,
      (all, made.regions_are ∙ ap (range_regions (length c.args.host.now.blocks)) whole),
    )

pub returns-clause-held : goal.returns-clause-held
returns-clause-held g c = c.loop-range.invariant.held

pub returns-clause-kept : goal.returns-clause-kept
returns-clause-kept g c = c.loop-range.invariant.kept
