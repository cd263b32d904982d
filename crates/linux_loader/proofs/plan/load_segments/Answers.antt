use Rattle.std.proofs.Common.{◌∙◌}
use Rattle.std.proofs.lemmas.Result.{err_from_is_err_and}
use Rattle.linux_loader.proofs.LoadLemmas.{loaded_all, loaded_failed, loaded_more}
use Rattle.linux_loader.proofs.plan.load_segments.Goals as goal

pub returns-in_err-load_segment-clause-loaded : goal.returns-in_err-load_segment-clause-loaded
returns-in_err-load_segment-clause-loaded g c =
    let l = c.loop-segment in
    let p = err_from_is_err_and c.from_residual.result c.from_residual.ensures.1 in
    rw (p.1, p.2)
    (loaded_failed g.F.KernelImage.bytes g.F.ReadVolatile.source g.F.ReadVolatile.reads g.F.ReadVolatile.known_left
    g.B.Bitmap.marks (g.M.GuestMemory.memory c.args.mem.now) c.args.segments.now (c.args.image.now, c.args.host.now)
    l.segment-index _ (l.image, l.host) _ c.in_err-load_segment.field-0.0 l.invariant.0 c.loop-segment-test.true
    c.in_err-load_segment.ensures.loaded)

pub loop-segment-preserved : goal.loop-segment-preserved
loop-segment-preserved g c =
    let l = c.loop-segment in (
      loaded_more g.F.KernelImage.bytes g.F.ReadVolatile.source g.F.ReadVolatile.reads g.F.ReadVolatile.known_left
          g.B.Bitmap.marks (g.M.GuestMemory.memory c.args.mem.now) c.args.segments.now
          (c.args.image.now, c.args.host.now) l.segment-index _ (l.image, l.host) _ l.invariant.0
          c.loop-segment-test.true c.in_ok-load_segment.ensures.loaded,
      c.load_segment.ensures.shape ∙ l.invariant.1,
    )

pub returns-clause-loaded : goal.returns-clause-loaded
returns-clause-loaded g c =
    let l = c.loop-segment in
    loaded_all g.F.KernelImage.bytes g.F.ReadVolatile.source g.F.ReadVolatile.reads g.F.ReadVolatile.known_left
    g.B.Bitmap.marks (g.M.GuestMemory.memory c.args.mem.now) c.args.segments.now (c.args.image.now, c.args.host.now)
    l.segment-index (l.image, l.host) l.invariant.0 c.loop-segment-test.false
