use Rattle.std.proofs.Common.{◌*◌, inl, refl, rules}
use Rattle.virtio_blk.proofs.DiskFacts.{lie-none}
use Rattle.virtio_blk.proofs.TextFacts.{writes_none}
use Rattle.virtio_blk.proofs.device.pieces.load_piece.Goals as goal

pub returns-then-is_err-clause-gave : goal.returns-then-is_err-clause-gave
returns-then-is_err-clause-gave g c = (
  c.read.new.buf,
  search rules,
  lie-none (512 * c.args.sector) (g.D.Disk.bytes c.args.disk.now),
  writes_none g.B.Bitmap.marks (g.M.GuestMemory.memory c.args.mem.now) c.args.writer.now c.args.host.now,
  inl (refl, refl, search rules),
)
