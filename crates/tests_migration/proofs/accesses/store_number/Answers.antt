use Rattle.std.proofs.Common.{[], inl, inr, refl}
use Rattle.std.proofs.lemmas.List.Elements.{All-nil}
use Rattle.vm_memory_base.specs.declared.iotlb.Permissions.TheVariants as permissions
use Rattle.vm_memory_guest.specs.Access.{access_of}
use Rattle.vm_memory_guest.specs.Memory.{route}
use Rattle.vm_memory_guest.specs.Typed.{given, place_of}
use Rattle.live_migration.specs.Writing.{MarksItsBlock}
use Rattle.tests_migration.proofs.AccessLemmas.{is_off, left_or_done}
use Rattle.tests_migration.proofs.accesses.store_number.Goals as goal

pub returns-in_default : goal.returns-in_default
returns-in_default g c =
    let host = c.args.host.now in
    ([], All-nil MarksItsBlock, c.writes_mark_what_they_change.ensures.changes [] [] host host refl)

pub returns-then-not-holds : goal.returns-then-not-holds
returns-then-not-holds g c =
    let host = c.args.host.now in
    ([], All-nil MarksItsBlock, c.writes_mark_what_they_change.ensures.changes [] [] host host refl)

pub returns : goal.returns
returns g c =
    let memory = g.M.GuestMemory.memory c.args.memory.now in
    let fits = g.met.M.GuestMemory.each_fits c.args.memory.now in
    let law = c.writes_mark_what_they_change.ensures in
    let old = c.args.host.now in
    let new = c.store-stored.new.host in
    let address = c.args.address.0 in
    let off = is_off memory c.in-Some.ensures.0 in
    elim (left_or_done _ _ _ _ _ c.store-stored.result c.store-stored.ensures.answer) [
      | inl same ↦ ([], All-nil MarksItsBlock, law.changes [] [] old new same)
      | inr done ↦
          (let windows = given (place_of 4 (access_of memory.regions (route memory old.tables) address 4 permissions.Write)) in (
            windows,
            law.stores memory old.tables address 4 permissions.Write fits off,
            law.changes windows _ old new done,
          ))
    ]
