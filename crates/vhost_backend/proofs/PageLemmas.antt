-- Pages that are to be marked: none is lost.
use Rattle.std.proofs.Common.{◌⊎◌, ℕ, nat_le, ◌||◌, Bool, true, false, List, [], ◌∷◌, ◌++◌, length, Option, Some, None, if◌then◌else◌, inl, inr, arith}
use Rattle.std.specs.Option.{option_to_list}
use Rattle.vhost_backend.specs.PageList.{InAny, InRange, IsToMark, Pages, added, added_to, hull, touch}
use Rattle.vhost_backend.specs.declared.page_list.PageRange.{PageRange}
use Rattle.vhost_backend.specs.declared.page_list.TheConstants.{RANGES}

any_left : (page : ℕ) (xs ys : List PageRange) → InAny page xs → InAny page (xs ++ ys)
any_left page [] ys is = absurd is
any_left page (x ∷ xs) ys (inl here) = inl here
any_left page (x ∷ xs) ys (inr there) = inr (any_left page xs ys there)

any_right : (page : ℕ) (xs ys : List PageRange) → InAny page ys → InAny page (xs ++ ys)
any_right page [] ys is = is
any_right page (x ∷ xs) ys is = inr (any_right page xs ys is)

pub any_of : (page : ℕ) (xs ys : List PageRange) → InAny page (xs ++ ys) → InAny page xs ⊎ InAny page ys
any_of page [] ys is = inr is
any_of page (x ∷ xs) ys (inl here) = inl (inl here)
any_of page (x ∷ xs) ys (inr there) = elim (any_of page xs ys there) [
  | inl left ↦ inl (inr left)
  | inr right ↦ inr right
]

in_hull_left : (page : ℕ) (one other : PageRange) → InRange page one → InRange page (hull one other)
in_hull_left page one other is = (omega (arith, is.0), omega (arith, is.1))

in_hull_right : (page : ℕ) (one other : PageRange) → InRange page other → InRange page (hull one other)
in_hull_right page one other is = (omega (arith, is.0), omega (arith, is.1))

-- a range that is added is to be marked
pub added_is_to_mark : (page : ℕ) (l : Pages) (range : PageRange) → InRange page range → IsToMark page (added l range)
added_is_to_mark page l range is = go l.last
  where
    go : (o : Option PageRange) → IsToMark page (added_to l range o)
    go None = any_right page l.others (range ∷ []) (inl is)
    go (Some last) = split (touch last range || nat_le RANGES (length l.others))
      where
        split : (v : Bool) → IsToMark page (if v then record l { last = Some (hull last range) }
            else record l { last = Some range; others = l.others ++ last ∷ [] })
        split true = any_right page l.others (hull last range ∷ []) (inl (in_hull_right page last range is))
        split false = any_right page (l.others ++ last ∷ []) (range ∷ []) (inl is)

-- and what was to be marked still is
pub still_to_mark : (page : ℕ) (l : Pages) (range : PageRange) → IsToMark page l → IsToMark page (added l range)
still_to_mark page l range is = go l.last (any_of page l.others (option_to_list l.last) is)
  where
    go : (o : Option PageRange) → InAny page l.others ⊎ InAny page (option_to_list o)
        → IsToMark page (added_to l range o)
    go None (inl before) = any_left page l.others (range ∷ []) before
    go None (inr none) = absurd none
    go (Some last) at = split (touch last range || nat_le RANGES (length l.others)) at
      where
        split : (v : Bool) → InAny page l.others ⊎ InAny page (last ∷ [])
            → IsToMark page (if v then record l { last = Some (hull last range) }
            else record l { last = Some range; others = l.others ++ last ∷ [] })
        split true (inl before) = any_left page l.others (hull last range ∷ []) before
        split true (inr (inl here)) =
            any_right page l.others (hull last range ∷ []) (inl (in_hull_left page last range here))
        split true (inr (inr none)) = absurd none
        split false (inl before) =
            any_left page (l.others ++ last ∷ []) (range ∷ []) (any_left page l.others (last ∷ []) before)
        split false (inr (inl here)) =
            any_left page (l.others ++ last ∷ []) (range ∷ []) (any_right page l.others (last ∷ []) (inl here))
        split false (inr (inr none)) = absurd none
