use Rattle.linux_loader.proofs.LoadLemmas.{clears_rest}
use Rattle.linux_loader.proofs.plan.clear.Goals as goal

pub returns-clause-cleared : goal.returns-clause-cleared
returns-clause-cleared g c =
    clears_rest g.B.Bitmap.marks (g.M.GuestMemory.memory c.args.mem.now) c.args.segment.now c.args.host.now
    c.clear_at.new.host c.clear_at.result c.saturating_sub-count.result c.in-Some.addr
    c.saturating_sub-count.ensures c.if-count-eq0.false c.in-Some.ensures.1 c.in-Some.ensures.0
    c.clear_at.ensures.cleared
