use Rattle.std.proofs.Common.{[], inl, inr, refl, length}
use Rattle.std.proofs.lemmas.List.Elements.{All-nil}
use Rattle.vm_memory_base.specs.declared.iotlb.Permissions.TheVariants as permissions
use Rattle.vm_memory_guest.specs.Walk.{reached}
use Rattle.live_migration.specs.Writing.{MarksItsBlock}
use Rattle.tests_migration.proofs.AccessLemmas.{is_off, left_or_done}
use Rattle.tests_migration.proofs.accesses.write_bytes.Goals as goal

pub returns-in_default : goal.returns-in_default
returns-in_default g c =
    let host = c.args.host.now in
    ([], All-nil MarksItsBlock, c.writes_mark_what_they_change.ensures.changes [] [] host host refl)

pub returns-then-not-holds : goal.returns-then-not-holds
returns-then-not-holds g c =
    let host = c.args.host.now in
    ([], All-nil MarksItsBlock, c.writes_mark_what_they_change.ensures.changes [] [] host host refl)

pub returns : goal.returns
returns g c =
    let memory = g.M.GuestMemory.memory c.args.memory.now in
    let fits = g.met.M.GuestMemory.each_fits c.args.memory.now in
    let law = c.writes_mark_what_they_change.ensures in
    let old = c.args.host.now in
    let new = c.write-written.new.host in
    let address = c.args.address.0 in
    let off = is_off memory c.in-Some.ensures.0 in
    elim (left_or_done _ _ _ _ _ c.write-written.result c.write-written.ensures.answer) [
      | inl same ↦ ([], All-nil MarksItsBlock, law.changes [] [] old new same)
      | inr done ↦
          (let bytes = c.args.bytes.now in
          let windows = (reached memory old.tables address (length bytes) permissions.Write).windows in (
            windows,
            law.accesses memory old.tables address (length bytes) permissions.Write fits off,
            law.changes windows bytes old new done,
          ))
    ]
