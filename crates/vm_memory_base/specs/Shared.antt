-- What contracts see of an `AtomicBitmap`: what no thread changes through a shared reference.
use Rattle.vm_memory_base.specs.declared.bitmap.atomic.AtomicBitmap.{AtomicBitmap}
use Rattle.vm_memory_base.specs.declared.bitmap.paging.Paging.{Paging}

-- how many bytes it tracks, and the size of its pages
abbrev pub paging_of : AtomicBitmap → Paging
paging_of b = b.paging
