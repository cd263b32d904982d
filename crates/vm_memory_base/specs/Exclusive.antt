-- What contracts see of an `ExclusiveBitmap`.
use Rattle.vm_memory_base.specs.Flags.{flags_of}
use Rattle.vm_memory_base.specs.Pages.{Pages}
use Rattle.vm_memory_base.specs.Paging.{page_size_of, count_of}
use Rattle.vm_memory_base.specs.declared.bitmap.exclusive.ExclusiveBitmap.{ExclusiveBitmap}
use Rattle.vm_memory_base.specs.declared.bitmap.paging.Paging.{Paging}

-- how many bytes it was made for, and the size of its pages
abbrev pub paging_of : ExclusiveBitmap → Paging
paging_of b = b.paging

-- the pages of a bitmap: their size, and which are dirty
abbrev pub pages_of : ExclusiveBitmap → Pages
pages_of b =
    record { page_size = page_size_of b.paging; flags = flags_of b.words.items (count_of b.paging) }
