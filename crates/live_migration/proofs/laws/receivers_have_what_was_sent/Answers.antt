use Rattle.std.proofs.Common.{◌≡◌, ◌<◌, [], List, Some, ap, sym, ◌∙◌, arith}
use Rattle.std.specs.Prelude.{slice_get}
use Rattle.std.proofs.lemmas.Option.{slice_get_within}
use Rattle.live_migration.specs.Rounds.{story}
use Rattle.live_migration.specs.declared.sender.pages.Target.{Target}
use Rattle.live_migration.proofs.CallsLemmas.{all_go_on}
use Rattle.live_migration.proofs.WholeLemmas.{ends_equal, first_begins, first_sent, first_state, has_image}
use Rattle.live_migration.proofs.laws.receivers_have_what_was_sent.Goals as goal

pub returns-clause-rounds : goal.returns-clause-rounds
returns-clause-rounds g c = λ calls first last begun done.
    let pages = g.B.ExactBitmap.pages in
    let ts : List Target = first.sender.rounds.targets.items in
    let s = first_state pages first begun in
    let r = all_go_on pages begun.digests ts c.dirty_pages_are_listed.ensures.exactly calls first last s []
    (first_sent pages first begun) done in (
      s,
      r.events,
      first_begins pages first begun,
      r.may,
      r.sent.follows,
      λ sent p next gone read j t at. has_image g.C.Bitmap.made g.C.Bitmap.marks pages begun.digests ts last (story r.events s) r.messages r.sent sent p
          next gone read j t (ap (λ (xs : List Target). slice_get xs j) (sym r.sent.targets) ∙ at),
    )

pub returns-clause-equal : goal.returns-clause-equal
returns-clause-equal g c = λ first last sent p next begun paused gone read j t at.
    let pages = g.B.ExactBitmap.pages in
    let ts : List Target = first.sender.rounds.targets.items in
    let e = ends_equal c.dirty_pages_are_listed.ensures.exactly pages first last begun paused in
    let here : slice_get ts j ≡ Some t = ap (λ (xs : List Target). slice_get xs j) (sym e.sent.targets) ∙ at in
    let f = e.sent.follows in
    let l : j < e.state.count = omega (arith, f.count, slice_get_within last.sender.rounds.targets.items j t at) in
    has_image g.C.Bitmap.made g.C.Bitmap.marks pages begun.digests ts last e.state e.messages e.sent sent p next gone read j t here
    ∙ e.equal j l ∙ (f.sources j t at).bytes
