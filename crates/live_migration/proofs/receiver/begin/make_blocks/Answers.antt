use Rattle.std.proofs.Common.{◌≡◌, ◌+◌, ◌++◌, List, ℕ, ap, arith, length, sym, subst, take, replicate, ◌∙◌}
use Rattle.std.proofs.lemmas.List.{length-append, length-map, length-take, take_more}
use Rattle.vm_memory_guest.specs.Host.{Host}
use Rattle.live_migration.specs.Receiving.{MakesBlocks, zeroed}
use Rattle.live_migration.specs.declared.header.BlockEntry.{BlockEntry}
use Rattle.live_migration.proofs.MakingLemmas.{made_more}
use Rattle.live_migration.proofs.receiver.begin.make_blocks.Goals as goal
use Rattle.live_migration.proofs.receiver.begin.make_blocks.Goals.{else-i-eq0, then-i-eq0}

pub loop-i-preserved : goal.loop-i-preserved
loop-i-preserved g c =
    let entries = c.args.entries.now in
    let i = c.loop-i.i in
    let old = c.args.host.now in
    let was = c.loop-i.invariant in
    let more = c.in-Ok.ensures.ok in
    let number = c.in-Ok.ensures.number in
    let some = take i entries in
    let blocks : length c.loop-i.host.blocks ≡ length (old.blocks ++ zeroed some) =
    ap (λ (h : Host g.row.B.Denot). length h.blocks) was.made.is in
    let count : length (old.blocks ++ zeroed some) ≡ length old.blocks + length some =
    length-append old.blocks (zeroed some)
    ∙ ap (λ (n : ℕ). length old.blocks + n) (length-map some (λ (e : BlockEntry). replicate e.len 0)) in
    record {
      made = subst (λ (es : List BlockEntry). MakesBlocks g.B.Bitmap.made es old c.new_block.new.self)
          (sym (take_more entries i _ c.loop-i-test.true))
          (made_more g.B.Bitmap.made some _ more.0 old c.loop-i.host c.new_block.new.self was.made more.1 more.2);
      base = λ l. elim c.if-i-eq0.branch [
        | then-i-eq0 w ↦ omega (arith, w.base-is, number, blocks, count, length-take i entries)
        | else-i-eq0 w ↦ w.base-is ∙ was.base (omega arith)
      ];
    }
