use Rattle.vm_memory_base.specs.declared.iotlb.Permissions.TheVariants as permissions
use Rattle.vm_memory_guest.specs.Memory.{route}
use Rattle.std.specs.Int.{w16, to_le_bytes}
use Rattle.virtio_queue.specs.Used.{entry_bytes}
use Rattle.virtio_queue.proofs.LawLemmas.{stored_by_bytes}
use Rattle.virtio_queue.proofs.laws.used_entries_are_written_by_bytes.Goals as goal

pub returns : goal.returns
returns g c = record {
  stored = λ m base offset value old new each stored.
      let laws = c.loads_and_stores_are_by_bytes.ensures in
      stored_by_bytes g.B.Bitmap.marks g.B.ExactBitmap.pages m base offset value old new
      (λ a. laws.answers m.regions (route m old.tables) a 2 permissions.Write)
      (λ a writes. laws.stores m.regions (route m old.tables) a 2 permissions.Write (to_le_bytes w16 value) old new each
      writes)
      stored;
  entry = λ m q head len old new each written. (
    written.0,
    written.1,
    c.accesses_are_by_bytes.ensures.writes m.regions (route m old.tables) written.0 8 permissions.Write
        (entry_bytes head len) old new each written.2,
  );
}
