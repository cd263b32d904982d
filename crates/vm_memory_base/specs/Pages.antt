-- What a bitmap tracks: pages of one size, each of them clean or dirty.
use Rattle.std.specs.Prelude.{ℕ, zero, suc, ◌+◌, ◌-◌, ◌*◌, ◌/◌, ◌%◌, ◌^◌, ◌<◌, ◌≤◌, ◌≡◌, min, Bool, true, false, ◌&&◌, if◌then◌else◌, nat_lt, nat_le, List, [], ◌∷◌, length, take, drop, replicate, slice_index_or, Option, Some, None, option_map}
use Rattle.std.specs.Int.{div_ceil}

-- pages of one size, and of each whether it is dirty
pub record Pages : Type 0 where
  pub page_size : ℕ
  pub flags : List Bool

-- pages, or nothing at all
abbrev pub PageSet : Type 0
PageSet = Option Pages

-- pages of this size with these flags
abbrev pub pages_with : ℕ → List Bool → PageSet
pages_with size flags = Some (record { page_size = size; flags = flags })

-- the page size and the number of pages, if pages are tracked
abbrev pub shape : PageSet → Option (ℕ × ℕ)
shape set = option_map (λ p. (p.page_size, length p.flags)) set

-- whether the byte at an offset lies in a dirty page: past the last page, or if nothing is tracked, it
-- does not
abbrev pub is_dirty_at : PageSet → ℕ → Bool
is_dirty_at None offset = false
is_dirty_at (Some p) offset = slice_index_or p.flags (offset / p.page_size) false

-- the dirty ones of these pages, the first of which has this number
abbrev pub dirty_from : ℕ → List Bool → List ℕ
dirty_from page [] = []
dirty_from page (dirty ∷ flags) =
    if dirty then (page ∷ dirty_from (page + 1) flags) else dirty_from (page + 1) flags

-- the dirty pages, ascending
abbrev pub dirty_pages : PageSet → List ℕ
dirty_pages None = []
dirty_pages (Some p) = dirty_from 0 p.flags

-- the last byte of len bytes from start on, at most the greatest offset
abbrev pub last_byte : ℕ → ℕ → ℕ
last_byte start len = min (start + len - 1) (2 ^ 64 - 1)

-- whether a mark of len bytes from start on takes a page of this size: from the page of its first byte to
-- that of its last. An empty mark takes none
abbrev pub takes : ℕ → ℕ → ℕ → ℕ → Bool
takes size start len page =
    nat_lt 0 len && (nat_le (start / size) page && nat_le page (last_byte start len / size))

-- the flags, the first of which is that of this page, after the pages that pass the test got this one
abbrev pub flags_set : Bool → (ℕ → Bool) → ℕ → List Bool → List Bool
flags_set flag test page [] = []
flags_set flag test page (dirty ∷ flags) = (if test page then flag else dirty) ∷ flags_set flag test (page + 1) flags

-- the pages after a mark of len bytes from start on. There are no pages past the last
abbrev pub marked : ℕ → ℕ → PageSet → PageSet
marked start len None = None
marked start len (Some p) = pages_with p.page_size (flags_set true (takes p.page_size start len) 0 p.flags)

-- the pages after a mark of one byte at each of these offsets, in order
abbrev pub marked_each : List ℕ → PageSet → PageSet
marked_each [] set = set
marked_each (offset ∷ offsets) set = marked_each offsets (marked offset 1 set)

-- the offset in a bitmap of an offset in a view of it that begins at base
abbrev pub in_view : ℕ → ℕ → ℕ
in_view base offset = (base + offset) % 2 ^ 64

-- the pages after those that a mark of len bytes from start on takes are made clean
abbrev pub unmarked : ℕ → ℕ → PageSet → PageSet
unmarked start len None = None
unmarked start len (Some p) = pages_with p.page_size (flags_set false (takes p.page_size start len) 0 p.flags)

-- the same pages, all clean
abbrev pub cleaned : PageSet → PageSet
cleaned None = None
cleaned (Some p) = pages_with p.page_size (replicate (length p.flags) false)

-- N bytes in pages of this size, all clean. The last page may be cut
abbrev pub new_pages : ℕ → ℕ → PageSet
new_pages size bytes = pages_with size (replicate (div_ceil bytes size) false)

-- the number whose bits are these flags, the lowest first
abbrev pub word_of : List Bool → ℕ
word_of [] = 0
word_of (dirty ∷ flags) = (if dirty then 1 else 0) + 2 * word_of flags

-- N words of 64 flags each
abbrev pub words_of : ℕ → List Bool → List ℕ
words_of zero flags = []
words_of (suc n) flags = word_of (take 64 flags) ∷ words_of n (drop 64 flags)

-- the pages as bits of words: page n is bit n % 64 of word n / 64
abbrev pub dirty_words : PageSet → List ℕ
dirty_words None = []
dirty_words (Some p) = words_of (div_ceil (length p.flags) 64) p.flags

-- pages have a size, and the first offset of the last is an offset
abbrev pub IsPageSet : PageSet → Type 0
IsPageSet None = Unit {0}
IsPageSet (Some p) = (0 < p.page_size) × ((length p.flags - 1) * p.page_size < 2 ^ 64)

-- no page is dirty, and the pages, if there are any, cover N bytes
abbrev pub IsCleanFor : ℕ → PageSet → Type 0
IsCleanFor len None = Unit {0}
IsCleanFor len (Some p) = (dirty_pages (Some p) ≡ []) × (len ≤ length p.flags * p.page_size)
