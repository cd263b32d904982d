use Rattle.std.proofs.Common.{[], ◌∷◌, refl, subst, arith}
use Rattle.std.proofs.lemmas.List.Elements.{All-cons, All-nil}
use Rattle.vm_memory_guest.specs.Window.{Window, Writes, block_window}
use Rattle.live_migration.specs.Writing.{MarksItsBlock}
use Rattle.tests_migration.proofs.steps.put_marked.Goals as goal

pub returns-then-not-has_place : goal.returns-then-not-has_place
returns-then-not-has_place g c =
    let host = c.args.host.now in (
      [],
      All-nil MarksItsBlock,
      c.writes_mark_what_they_change.ensures.changes [] [] host host refl,
    )

pub returns : goal.returns
returns g c =
    let block = c.args.block.0 in
    let at = c.args.at in
    let window = block_window block at 1 in
    let old = c.args.host.now in
    let new = c.write.new.self in
    let byte = c.args.byte ∷ [] in (
      window ∷ [],
      All-cons MarksItsBlock window [] (c.writes_mark_what_they_change.ensures.blocks block at 1 (omega arith))
          (All-nil MarksItsBlock),
      c.writes_mark_what_they_change.ensures.changes (window ∷ []) byte old new
          (subst (λ (w : Window). Writes g.B.Bitmap.marks (w ∷ []) byte old new) c.window-window.ensures.value
          c.write.ensures.bytes),
    )
