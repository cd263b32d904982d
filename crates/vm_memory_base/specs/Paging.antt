-- What contracts see of a `Paging`, and of the pages of a range.
use Rattle.std.specs.Prelude.{ℕ, ◌+◌, ◌/◌, min, nat_lt, if◌then◌else◌}
use Rattle.std.specs.NonZero.{non_zero_usize_get}
use Rattle.std.specs.Int.{div_ceil}
use Rattle.vm_memory_base.specs.Pages.{last_byte}
use Rattle.vm_memory_base.specs.declared.bitmap.paging.Paging.{Paging}

-- the number of bytes
abbrev pub bytes_of : Paging → ℕ
bytes_of p = p.byte_size

-- the number of bytes of a page
abbrev pub page_size_of : Paging → ℕ
page_size_of p = non_zero_usize_get p.page_size

-- the number of pages, the last of which may be cut
abbrev pub count_of : Paging → ℕ
count_of p = div_ceil (bytes_of p) (page_size_of p)

-- the pages of len bytes from start on, of those that there are: from one up to another. No bytes have none
abbrev pub pages_in : Paging → ℕ → ℕ → ℕ × ℕ
pages_in p start len =
    if nat_lt 0 len then (start / page_size_of p, min (last_byte start len / page_size_of p + 1) (count_of p))
    else (0, 0)
