-- Flags of pages as bits of words: page n is bit n % 64 of word n / 64.
use Rattle.std.specs.Prelude.{ℕ, ◌≡◌, ◌-◌, ◌/◌, ◌%◌, Bool, List, map, slice_index, nat_eq, nat_le, nat_lt, ◌&&◌, if◌then◌else◌}
use Rattle.std.specs.Int.{bit_at}
use Rattle.std.specs.List.{range_with_len}
use Rattle.vm_memory_base.specs.Pages.{dirty_from}

-- whether the words say of a page that it is dirty
abbrev pub flag : List ℕ → ℕ → Bool
flag words page = nat_eq (bit_at (slice_index words (page / 64)) (page % 64)) 1

-- the flags of N pages
abbrev pub flags_of : List ℕ → ℕ → List Bool
flags_of words count = map (flag words) (range_with_len 0 count)

-- the pages from one up to another got this flag, and no other changed
abbrev pub Gets : List ℕ → List ℕ → ℕ → ℕ → Bool → Type 0
Gets old new first end dirty =
    (page : ℕ) → flag new page ≡ (if nat_le first page && nat_lt page end then dirty else flag old page)

-- the dirty pages of one word, the lowest bit of which is that of this page
unfoldable pub dirty_among : ℕ → ℕ → List ℕ
dirty_among word first =
    dirty_from first (map (λ (page : ℕ). nat_eq (bit_at word (page - first)) 1) (range_with_len first 64))
