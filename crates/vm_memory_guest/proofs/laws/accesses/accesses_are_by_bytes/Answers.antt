use Rattle.vm_memory_guest.specs.Access.{access_of}
use Rattle.vm_memory_guest.proofs.AccessLaws.{follows-access, cells-access, take-filled_path}
use Rattle.vm_memory_guest.proofs.DirtLaws.{after_write-Writes}
use Rattle.vm_memory_guest.proofs.PathLaws.{span-windows}
use Rattle.vm_memory_guest.proofs.laws.accesses.accesses_are_by_bytes.Goals as goal

pub returns : goal.returns
returns g c = record {
  count = λ regions route a n access. span-windows (access_of regions route a n access).path;
  reads = λ regions route a n access blocks buffer each.
      take-filled_path (access_of regions route a n access).path blocks buffer
      (cells-access regions each a n route access);
  writes = λ regions route a n access bytes old new each.
      after_write-Writes g.B.Bitmap.marks g.B.ExactBitmap.pages g.met.B.ExactBitmap.marks_pages
      c.mark_is_by_bytes.ensures.empty c.mark_is_by_bytes.ensures.each
      (access_of regions route a n access).path bytes old new
      (follows-access regions each a n c.allowed_where_each_address_grants.ensures route access)
      (cells-access regions each a n route access);
}
