use Rattle.std.proofs.Common.{◌≡◌, ◌∙◌, ◌*◌, ◌/◌, Some, ap, arith, drop, length, sym, take}
use Rattle.std.proofs.lemmas.List.{take_at}
use Rattle.virtio_blk.specs.Disk.{patched}
use Rattle.virtio_blk.proofs.DiskFacts.{length-patched, take-patched, whole_sectors}
use Rattle.virtio_blk.proofs.disk.memory.MemoryDiskDisk.write.Goals as goal

pub returns-clause-bytes : goal.returns-clause-bytes
returns-clause-bytes c =
    let bytes = c.args.self.now.bytes in
    let items = bytes.items in
    let content = c.args.data.now in
    let now = c.put.new.bytes in
    let at : c.args.sector * 512 ≡ 512 * c.args.sector = omega arith in
    let is : now ≡ patched (512 * c.args.sector) content items =
    rw (at, c.as_mut_slice.ensures.value) at c.put.ensures in
    let size : length now ≡ length items =
    ap length is ∙ length-patched (512 * c.args.sector) content items
    (omega (arith, c.requires.inside, whole_sectors items)) in
    let len : length items ≡ bytes.len = ap length (sym c.as_mut_slice.ensures.value) ∙ c.as_mut_slice.ensures.len in
    rw (take_at now (drop (length now) items) bytes.len (size ∙ len)) (ap Some (
    ap (λ n. take (512 * (n / 512)) now) size
    ∙ ap (take (512 * (length items / 512))) is
    ∙ take-patched (512 * c.args.sector) (512 * (length items / 512)) content items c.requires.inside
    (whole_sectors items)))
