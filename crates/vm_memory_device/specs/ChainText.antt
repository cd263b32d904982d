-- How the texts of chains are kept. No public clause cites this module.
use Rattle.std.specs.Prelude.{◌≡◌, ◌⊎◌, ℕ, zero, suc, ◌+◌, ◌<◌, ◌≤◌, ◌^◌, true, false, List, [], ◌∷◌, ◌++◌, length, take, drop, Option, Some, None, Result, Ok, Err, All}
use Rattle.vm_memory_guest.specs.Transfer.{ended}
use Rattle.vm_memory_guest.specs.declared.region.error.GuestMemoryError.{GuestMemoryError}
use Rattle.vm_memory_device.specs.Chain.{Entry, access_len, entries_from, text, readable, writable, total_len}
use Rattle.vm_memory_device.specs.declared.chain.Segment.{Segment}

-- the addresses of a segment fit 64 bits
abbrev pub Fits : Segment → Type 0
Fits s = s.addr.0 + s.len < 2 ^ 64

-- the entries from a on of what is left of a segment, then those of the segments that follow
abbrev pub entries : ℕ → ℕ → List Segment → List Entry
entries a rest later = entries_from a rest ++ text later

-- the first access of a text takes n entries, from address a on
unfoldable pub Runs : ℕ → ℕ → List Entry → Type 0
Runs a n [] = ⊥
Runs a zero (e ∷ es) = ⊥
Runs a (suc zero) (e ∷ es) = (e.address ≡ a) × ((e.ends ≡ true) ⊎ (es ≡ []))
Runs a (suc (suc n)) (e ∷ es) = (e.address ≡ a) × (e.ends ≡ false) × Runs (a + 1) (suc n) es

-- a position in segments: the address of the next byte, the number of bytes that are left of its segment, and the
-- segments that follow. If no byte is left of the segment, none is left at all
pub record IsPlace (a rest : ℕ) (later : List Segment) : Type 0 where
  pub ends : a + rest < 2 ^ 64
  pub fit : All Fits later
  pub next : rest ≡ 0 → later ≡ []

-- the next access of at most this number of bytes of a text is to move n of them, from address a on
pub record IsNext (a n room : ℕ) (es : List Entry) : Type 0 where
  pub runs : Runs a n (take room es)
  pub fits : n ≤ room
  pub inside : n ≤ access_len es

-- how a call goes on after an access that was to move most bytes and returned this. If it moved all, the call goes on.
-- Otherwise the call returns how many bytes it moved in all, or the error if it moved none
abbrev pub GoesOn : ℕ → Result ℕ GuestMemoryError → ℕ → List Entry → Option (Result ℕ GuestMemoryError) → ℕ
    → List Entry → Type 0
GoesOn most (Ok count) total at None sum left = (most ≤ count) × (sum ≡ total + count) × (left ≡ drop count at)
GoesOn most (Ok count) total at (Some answer) sum left =
    (count < most) × (answer ≡ Ok (total + count)) × (left ≡ drop count at)
GoesOn most (Err e) total at None sum left = ⊥
GoesOn most (Err e) total at (Some answer) sum left = (answer ≡ ended total (Some e)) × (left ≡ at)

-- this number of segments are readable, those that follow are writable, and each kind has this number of bytes
pub record Divides (segments : List Segment) (count readable_len writable_len : ℕ) : Type 0 where
  pub fit : All Fits segments
  pub within : count ≤ length segments
  pub front : take count segments ≡ readable segments
  pub back : drop count segments ≡ writable segments
  pub read : readable_len ≡ total_len (readable segments)
  pub written : writable_len ≡ total_len (writable segments)
