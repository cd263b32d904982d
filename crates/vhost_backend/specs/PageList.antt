-- Pages that were changed, and are to be marked in the log.
use Rattle.std.specs.Prelude.{◌≡◌, ℕ, ◌+◌, ◌-◌, ◌/◌, ◌<◌, ◌≤◌, ◌⊎◌, ◌==◌, min, max, nat_le, Bool, ◌&&◌, ◌||◌, if◌then◌else◌, List, [], ◌∷◌, ◌++◌, length, Option, Some, None, option_to_list, MatchOption}
use Rattle.vhost_backend.specs.declared.page_list.PageRange.{PageRange}
use Rattle.vhost_backend.specs.declared.page_list.TheConstants.{RANGES}

pub record Pages : Type 0 where
  -- how many have a bit in the log: none if writes are not logged
  pub pages : ℕ
  -- the range that was added last, and those before it
  pub last : Option PageRange
  pub others : List PageRange

abbrev pub no_pages : Pages
no_pages = record { pages = 0; last = None; others = [] }

-- whether no page lies between two ranges, and their pages with those between them
abbrev pub touch : PageRange → PageRange → Bool
touch one other = nat_le one.first other.end && nat_le other.first one.end

abbrev pub hull : PageRange → PageRange → PageRange
hull one other = record { first = min one.first other.first; end = max one.end other.end }

-- no address is greater
abbrev pub capped : ℕ → ℕ
capped n = min n 0xffff_ffff_ffff_ffff

-- the pages of N bytes so far after an address that have a bit
abbrev pub pages_from : ℕ → ℕ → ℕ → Option PageRange
pages_from pages from n = if nat_le pages (from / 4096) then None
    else Some (record { first = from / 4096; end = min pages (capped (from + (n - 1)) / 4096 + 1) })

abbrev pub pages_of : ℕ → ℕ → ℕ → ℕ → Option PageRange
pages_of pages base offset n = if n == 0 then None else pages_from pages (capped (base + offset)) n

-- one that touches the last one, or finds no room, is put together with that
abbrev pub added_to : Pages → PageRange → Option PageRange → Pages
added_to l range None = record l { last = Some range }
added_to l range (Some last) = if touch last range || nat_le RANGES (length l.others)
    then record l { last = Some (hull last range) }
    else record l { last = Some range; others = l.others ++ last ∷ [] }

abbrev pub added : Pages → PageRange → Pages
added l range = added_to l range l.last

abbrev pub added_if : Pages → Option PageRange → Pages
added_if l None = l
added_if l (Some range) = added l range

abbrev pub marked : Pages → ℕ → ℕ → ℕ → Pages
marked l base offset n = added_if l (pages_of l.pages base offset n)

-- ---- what is to be marked

-- a page lies in a range
abbrev pub InRange : ℕ → PageRange → Type 0
InRange page range = (range.first ≤ page) × (page < range.end)

-- it lies in one of them
abbrev pub InAny : ℕ → List PageRange → Type 0
InAny page [] = ⊥
InAny page (range ∷ rest) = InRange page range ⊎ InAny page rest

-- it is to be marked
abbrev pub IsToMark : ℕ → Pages → Type 0
IsToMark page l = InAny page (l.others ++ option_to_list l.last)

-- no page is
abbrev pub NoneToMark : Pages → Type 0
NoneToMark l = (l.last ≡ None) × (l.others ≡ [])

-- the last range is taken, and the one before it is the last one then
abbrev pub TakesRange : Pages → PageRange → Pages → Type 0
TakesRange l range l' =
    (l.last ≡ Some range) × (l.others ≡ l'.others ++ option_to_list l'.last) × (l'.pages ≡ l.pages)

abbrev pub TakesPages : Pages → Option PageRange → Pages → Type 0
TakesPages l r l' = MatchOption r (NoneToMark l × (l' ≡ l)) (λ range. TakesRange l range l')
