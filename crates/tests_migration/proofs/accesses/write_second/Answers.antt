use Rattle.std.proofs.Common.{◌≡◌, [], ◌∷◌, ap, refl, sym, subst, ◌∙◌, arith}
use Rattle.std.proofs.lemmas.List.Elements.{All-cons, All-nil}
use Rattle.vm_memory_guest.specs.Window.{Window, Writes, block_window, part, subslice_of}
use Rattle.live_migration.specs.Writing.{MarksItsBlock}
use Rattle.tests_migration.proofs.AccessLemmas.{ok_is}
use Rattle.tests_migration.proofs.accesses.write_second.Goals as goal

pub returns-then-not-has_place : goal.returns-then-not-has_place
returns-then-not-has_place g c =
    let host = c.args.host.now in
    ([], All-nil MarksItsBlock, c.writes_mark_what_they_change.ensures.changes [] [] host host refl)

pub returns-in_default : goal.returns-in_default
returns-in_default g c =
    let host = c.args.host.now in
    ([], All-nil MarksItsBlock, c.writes_mark_what_they_change.ensures.changes [] [] host host refl)

pub returns-then-len-ne1 : goal.returns-then-len-ne1
returns-then-len-ne1 g c =
    let host = c.args.host.now in
    ([], All-nil MarksItsBlock, c.writes_mark_what_they_change.ensures.changes [] [] host host refl)

pub returns-then-not-holds : goal.returns-then-not-holds
returns-then-not-holds g c =
    let host = c.args.host.now in
    ([], All-nil MarksItsBlock, c.writes_mark_what_they_change.ensures.changes [] [] host host refl)

pub returns : goal.returns
returns g c =
    let law = c.writes_mark_what_they_change.ensures in
    let old = c.args.host.now in
    let new = c.write.new.self in
    let byte = c.args.byte ∷ [] in
    let whole = block_window c.args.block.0 0 2 in
    let is : c.in-Ok.part ≡ part whole 1 1 =
    ok_is c.in-Ok.part (part whole 1 1) (sym c.in-Ok.is ∙ c.subslice.ensures
    ∙ ap (λ (w : Window). subslice_of w 1 1) c.window-window.ensures.value) in (
      part whole 1 1 ∷ [],
      All-cons MarksItsBlock (part whole 1 1) []
          (law.parts whole 1 1 (law.blocks c.args.block.0 0 2 (omega arith)) (omega arith) (omega arith))
          (All-nil MarksItsBlock),
      law.changes (part whole 1 1 ∷ []) byte old new
          (subst (λ (w : Window). Writes g.B.Bitmap.marks (w ∷ []) byte old new) is c.write.ensures.bytes),
    )
