use Rattle.std.proofs.Common.{◌<◌, ◌^◌, [], ◌∷◌, flat_map, Ok, Err, rules}
use Rattle.std.specs.Int.{w16, to_le_bytes}
use Rattle.vm_memory_base.specs.declared.iotlb.Permissions.TheVariants as permissions
use Rattle.vm_memory_guest.specs.Host.{shape_of}
use Rattle.vm_memory_guest.specs.Memory.{switched_names}
use Rattle.vm_memory_guest.specs.Region.{region_names}
use Rattle.virtio_queue.proofs.FieldLemmas.{word_stores}
use Rattle.virtio_queue.proofs.LawLemmas.{window_place}
use Rattle.virtio_queue.proofs.StoreLemmas.{place_held, stored_lies}
use Rattle.virtio_queue.proofs.fields.store_word.Goals as goal

pub returns-in-Ok-clause-stored : goal.returns-in-Ok-clause-stored
returns-in-Ok-clause-stored g c =
    let m = g.M.GuestMemory.memory c.args.mem.now in
    word_stores g.B.Bitmap.marks m c.args.base c.args.offset c.args.value c.args.host.now c.store.new.host
    c.in_ok-place.field-0 c.place.result c.place.ensures c.in_ok-place.was (Ok tt) c.in-Ok.ensures.answer

pub returns-in-Err-clause-stored : goal.returns-in-Err-clause-stored
returns-in-Err-clause-stored g c =
    let m = g.M.GuestMemory.memory c.args.mem.now in
    rw c.of_access.ensures
    (word_stores g.B.Bitmap.marks m c.args.base c.args.offset c.args.value c.args.host.now c.store.new.host
    c.in_ok-place.field-0 c.place.result c.place.ensures c.in_ok-place.was (Err c.in-Err.error) c.in-Err.ensures.answer)

pub returns-in-Ok-clause-lies : goal.returns-in-Ok-clause-lies
returns-in-Ok-clause-lies g c =
    let m = g.M.GuestMemory.memory c.args.mem.now in
    let old = c.args.host.now in
    let new = c.store.new.host in
    let (w, is, writes) = word_stores g.B.Bitmap.marks m c.args.base c.args.offset c.args.value old new
    c.in_ok-place.field-0 c.place.result c.place.ensures c.in_ok-place.was (Ok tt) c.in-Ok.ensures.answer in
    let (a, at, window) = window_place m old c.args.base c.args.offset w is in
    let shape = shape_of old in
    let names = rw (g.met.M.GuestMemory.names_memory c.args.mem.now) at c.requires.held in
    let (regions, iommu) = (c.names_are_held_one_by_one.ensures.joined shape
    (flat_map region_names m.regions) (switched_names m.iommu)).0 names in
    let each = g.met.M.GuestMemory.each_fits c.args.mem.now in
    let paths = c.windows_are_the_path.ensures in
    let (held, size) = place_held shape m.regions a 2 permissions.Write each
    (λ h. paths.held shape m.regions a 2 each h)
    (λ says space h k. paths.held_with_translation shape m.regions says space a 2 each h k)
    w m.iommu old.tables regions iommu window in
    let small : c.args.value < 2 ^ 16 = search rules in
    stored_lies g.B.Bitmap.marks m c.args.base c.args.offset c.args.value old new c.written_is_read_back.ensures
    small w is held size (c.writes_keep_shapes.ensures.tables (w ∷ []) (to_le_bytes w16 c.args.value) old new writes) writes
