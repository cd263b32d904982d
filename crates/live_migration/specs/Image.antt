-- What a receiver has of a block, and what a sender copies of it.
use Rattle.std.specs.Prelude.{ℕ, zero, suc, ◌+◌, ◌-◌, ◌*◌, ◌/◌, Bool, false, ◌&&◌, ◌==◌, if◌then◌else◌, nat_lt, nat_le, List, [], ◌∷◌, length, map, take, drop, replicate, slice_index}
use Rattle.std.specs.Int.{div_ceil}
use Rattle.std.specs.List.{list_all}
use Rattle.vm_memory_base.specs.Address.{is_within, numbers}
use Rattle.live_migration.specs.Frame.{Message, Pages, ZeroPage}

-- all bytes are zero
abbrev pub are_zero : List ℕ → Bool
are_zero bytes = list_all (λ b. b == 0) bytes

-- the bytes of a page, of which the last may be cut
abbrev pub page_bytes : ℕ → ℕ → List ℕ → List ℕ
page_bytes size page bytes = take size (drop (page * size) bytes)

-- an image with these bytes from a place on instead of its own, as far as it goes
unfoldable pub placed : ℕ → List ℕ → List ℕ → List ℕ
placed at bytes image =
    map (λ k. if is_within at (length bytes) k then slice_index bytes (k - at) else slice_index image k)
    (numbers 0 (length image))

-- pages as messages of one page each, of which there are so many more than one
unfoldable pub split : ℕ → ℕ → ℕ → ℕ → List ℕ → List Message
split size zero block first bytes = Pages block first bytes ∷ []
split size (suc more) block first bytes =
    Pages block first (take size bytes) ∷ split size more block (first + 1) (drop size bytes)

-- a message of pages of a block, which have this size, as messages of one page each
abbrev pub one_by_one : (ℕ → ℕ) → Message → List Message
one_by_one sizes (Pages block first bytes) = split (sizes block) ((length bytes - 1) / sizes block) block first bytes
one_by_one sizes m = m ∷ []

module _ (size block : ℕ) where
  -- the image of this block, whose pages have this size, after a message
  abbrev pub received : Message → List ℕ → List ℕ
  received (Pages b first bytes) image = if b == block then placed (first * size) bytes image else image
  received (ZeroPage b page) image = if b == block then placed (page * size) (replicate size 0) image else image
  received m image = image

  -- and after messages, one after the other
  unfoldable pub arrived : List Message → List ℕ → List ℕ
  arrived [] image = image
  arrived (m ∷ ms) image = arrived ms (received m image)

  -- whether a message has bytes of this page of the block
  abbrev pub carries : ℕ → Message → Bool
  carries page (Pages b first bytes) =
      b == block && (nat_le first page && nat_lt page (first + div_ceil (length bytes) size))
  carries page (ZeroPage b p) = b == block && p == page
  carries page m = false

  -- what is sent of a page of the block: its bytes, or its number if all of them are zero. A page past the end has
  -- no bytes, and nothing is sent of it
  unfoldable pub copied : List ℕ → ℕ → List Message
  copied bytes page = if nat_lt (page * size) (length bytes)
      then (if are_zero (page_bytes size page bytes) then ZeroPage block page
      else Pages block page (page_bytes size page bytes)) ∷ []
      else []
