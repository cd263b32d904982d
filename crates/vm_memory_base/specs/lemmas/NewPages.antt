-- The proofs that new pages are clean and cover their bytes, and that pages fit, for the laws of implementations.
use Rattle.std.specs.Prelude.{◌≡◌, ℕ, zero, suc, ◌+◌, ◌-◌, ◌*◌, ◌^◌, ◌<◌, Bool, false, List, [], length, replicate}
use Rattle.std.specs.Int.{div_ceil}
use Rattle.std.proofs.Common.{refl, arith}
use Rattle.std.proofs.Math.Nat.{zero-mul, suc-mul}
use Rattle.std.proofs.lemmas.Grind.{div_ceil_times}
use Rattle.std.proofs.lemmas.List.{length-replicate}
use Rattle.std.proofs.lemmas.List.FromFn.{length-map-range_with_len}
use Rattle.vm_memory_base.specs.Flags.{flag, flags_of}
use Rattle.vm_memory_base.specs.Pages.{dirty_from, new_pages, pages_with, IsPageSet, IsCleanFor}
use Rattle.vm_memory_base.specs.Paging.{bytes_of, page_size_of, count_of}
use Rattle.vm_memory_base.specs.declared.bitmap.paging.Paging.{Paging}

-- no page of clean ones is dirty
pub none_dirty : (page n : ℕ) → dirty_from page (replicate n false) ≡ []
none_dirty page zero = refl
none_dirty page (suc n) = none_dirty (page + 1) n

pub new_pages_are_clean : (size bytes : ℕ) → 0 < size → IsCleanFor bytes (new_pages size bytes)
new_pages_are_clean size bytes pos =
    (none_dirty 0 (div_ceil bytes size), rw length-replicate (div_ceil_times bytes size pos).0)

pub pages_fit : (size bytes : ℕ) (flags : List Bool) → length flags ≡ div_ceil bytes size → 0 < size → bytes < 2 ^ 64
    → IsPageSet (pages_with size flags)
pages_fit size bytes flags count pos fits =
    (pos, rw count (last (div_ceil bytes size) (div_ceil_times bytes size pos).1))
  where
    last : (n : ℕ) → n * size < bytes + size → (n - 1) * size < 2 ^ 64
    last zero h = omega (arith, zero-mul size)
    last (suc n) h = let e : suc n - 1 ≡ n = omega arith in rw e (omega (arith, suc-mul n size))

pub length-flags_of : (words : List ℕ) (count : ℕ) → length (flags_of words count) ≡ count
length-flags_of words count = length-map-range_with_len (flag words) 0 count

pub flags_fit : (words : List ℕ) (p : Paging) → IsPageSet (pages_with (page_size_of p) (flags_of words (count_of p)))
flags_fit words p =
    pages_fit (page_size_of p) (bytes_of p) (flags_of words (count_of p)) (length-flags_of words (count_of p))
    p.page_size.ok p.fits
