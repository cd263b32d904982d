use Rattle.std.proofs.Common.{◌≡◌, ◌*◌, sym, ◌∙◌, append-nil}
use Rattle.std.proofs.lemmas.Result.{err_from_is_err_and}
use Rattle.vm_memory_base.specs.Pages.{is_dirty_at}
use Rattle.vm_memory_base.proofs.BitmapLemmas.{nothing_dirty, dirty_pages-some, dirty_below-more, dirty_below-all}
use Rattle.vm_memory_base.proofs.bitmap.ExactBitmap.dirty_pages.Goals as goal
use Rattle.vm_memory_base.proofs.bitmap.ExactBitmap.dirty_pages.Goals.{then-dirty_at+in_ok-push, else-dirty_at, in-Some+else-loop-page-test, in_default}

pub loop-page-preserved : goal.loop-page-preserved
loop-page-preserved g c =
    let bitmap = c.args.self.now in
    let set = g.Self.ExactBitmap.pages bitmap in
    let size = c.in-Some.page_size in
    let page = c.loop-page.page in
    let told : c.dirty_at.result ≡ is_dirty_at set (page * size) =
    g.met.Self.ExactBitmap.tells_pages bitmap (page * size) c.dirty_at.result c.dirty_at.ensures in
    let more =
    dirty_below-more size c.in-Some.count set page (g.met.Self.ExactBitmap.fits bitmap)
    (sym c.in-Some.ensures) c.loop-page-test.true in
    elim c.if-dirty_at.branch [
      | then-dirty_at+in_ok-push w ↦
          rw (w.dirty-is, w.in_ok-push.ensures.items, c.loop-page.invariant, more, ← told, w.if-dirty_at.true)
      | else-dirty_at w ↦
          rw (w.dirty-is, more, ← told, w.if-dirty_at.false, append-nil) c.loop-page.invariant
    ]

pub returns-in_err-push-clause-refused : goal.returns-in_err-push-clause-refused
returns-in_err-push-clause-refused g c =
    let p = err_from_is_err_and c.from_residual.result c.from_residual.ensures.1 in
    let bitmap = c.args.self.now in
    let offset = c.loop-page.page * c.in-Some.page_size in
    let told = g.met.Self.ExactBitmap.tells_pages bitmap offset c.dirty_at.result c.dirty_at.ensures in
    rw p.1 (dirty_pages-some (g.Self.ExactBitmap.pages bitmap) offset (sym told ∙ c.if-dirty_at.true))

pub returns-clause-dirty : goal.returns-clause-dirty
returns-clause-dirty g c =
    let set = g.Self.ExactBitmap.pages c.args.self.now in
    elim c.match-shape.branch [
      | in-Some+else-loop-page-test w ↦
          let all = dirty_below-all w.in-Some.page_size w.in-Some.count set w.loop-page.page
          (sym w.in-Some.ensures) w.loop-page-test.false in
          rw (w.dirty-is, w.loop-page.invariant, all)
      | in_default w ↦ rw (w.dirty-is, c.new-dirty.ensures.items) (sym (nothing_dirty set (sym w.in_default.ensures)))
    ]
