use Rattle.vm_memory_guest.proofs.WholeRanges.{whole-by-bytes}
use Rattle.vm_memory_guest.proofs.laws.paths.ranges_are_whole_by_bytes.Goals as goal

pub returns : goal.returns
returns c = whole-by-bytes
