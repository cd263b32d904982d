use Rattle.std.proofs.Common.{◌≡◌, ℕ, ap, subst, sym, ◌∙◌, arith}
use Rattle.std.proofs.lemmas.List.{length-set}
use Rattle.std.specs.Int.{div_ceil}
use Rattle.std.specs.Prelude.{slice_index}
use Rattle.vm_memory_base.specs.Paging.{count_of}
use Rattle.vm_memory_base.specs.Tracked.{set_pages, AreLastPages, AreWordsBelow}
use Rattle.vm_memory_base.proofs.TrackedRule.{put_more}
use Rattle.vm_memory_base.proofs.TrackedSeats.{elem_index, closes, closes_marked, closes_last, closes_below}
use Rattle.vm_memory_base.proofs.bitmap.tracked.TrackedBitmap.close.Goals as goal

pub loop-word-preserved : goal.loop-word-preserved
loop-word-preserved c =
    let inv = c.loop-word.invariant in
    let inside = c.loop-word-test.true in
    let words = c.close_with-closed.result.words.items in (
      length-set c.loop-word.pages.items c.loop-word.word c.set_pages.result ∙ inv.0,
      put_more (λ (k n : ℕ). n ≡ set_pages (slice_index words k)) c.loop-word.pages.items c.loop-word.word
          c.set_pages.result (omega (arith, inv.0, inside))
          (c.set_pages.ensures ∙ ap set_pages (sym (elem_index words c.loop-word.word c.word.result c.word.ensures)))
          inv.1,
    )

pub returns-clause-left : goal.returns-clause-left
returns-clause-left c =
    let inv = c.loop-word.invariant in
    let words : c.div_ceil-words.result ≡ div_ceil (count_of c.args.self.paging) 32 =
    c.div_ceil-words.ensures ∙ ap (λ (n : ℕ). div_ceil n 32) c.len.ensures in
    let least = c.loop-word-test.false in (
      inv.0 ∙ words,
      closes c.args.self.table.shared.key c.args.harvester.seat.id c.args.harvester.harvests_all.0
          c.args.harvester.seat.me.0 _ c.close_with-closed.result.slots.items c.close_with-closed.ensures.values.2
          c.loop-word.pages.items (λ k h. inv.1 k (omega (arith, inv.0, least, h))),
    )

pub returns-clause-marked : goal.returns-clause-marked
returns-clause-marked c all =
    let inv = c.loop-word.invariant in
    let least = c.loop-word-test.false in
    closes_marked c.args.self.table.shared.key c.args.harvester.seat.id c.args.harvester.harvests_all.0
    c.args.harvester.seat.me.0 _ c.close_with-closed.result.slots.items c.close_with-closed.ensures.values.2
    c.loop-word.pages.items (λ k h. inv.1 k (omega (arith, inv.0, least, h))) all

pub returns-clause-last : goal.returns-clause-last
returns-clause-last c =
    let inv = c.loop-word.invariant in
    let least = c.loop-word-test.false in
    subst (λ n. AreLastPages n c.args.harvester.seat.me.0 c.loop-word.pages.items) c.args.self.fits.0
    (closes_last c.args.self.table.shared.key c.args.harvester.seat.id c.args.harvester.harvests_all.0
    c.args.harvester.seat.me.0 _ c.close_with-closed.result.slots.items c.close_with-closed.ensures.values.2
    c.loop-word.pages.items (λ k h. inv.1 k (omega (arith, inv.0, least, h))))

pub returns-clause-within : goal.returns-clause-within
returns-clause-within c =
    let inv = c.loop-word.invariant in
    let least = c.loop-word-test.false in
    subst (λ n. AreWordsBelow n c.loop-word.pages.items) c.args.self.fits.0
    (closes_below c.args.self.table.shared.key c.args.harvester.seat.id c.args.harvester.harvests_all.0
    c.args.harvester.seat.me.0 _ c.close_with-closed.result.slots.items c.close_with-closed.ensures.values.2
    c.loop-word.pages.items (λ k h. inv.1 k (omega (arith, inv.0, least, h))))
