-- What is given of a part of a request: where its bytes lie in memory, in order.
use Rattle.std.specs.Prelude.{◌≡◌, ◌⊎◌, ℕ, ◌+◌, ◌-◌, ◌<◌, ◌≤◌, nat_lt, Bool, true, false, if◌then◌else◌, List, [], ◌∷◌, ◌++◌, length, map, take, Option, Some, None, option_and_then}
use Rattle.vm_memory_device.specs.declared.chain.Segment.{Segment}
use Rattle.vhost_backend.specs.BlockConnection.{bytes_in}
use Rattle.vhost_backend.specs.ConnectionMemory.{MemoryState, place_of}
use Rattle.vhost_backend.specs.Pieces.{piece_from, side}
use Rattle.vhost_backend.specs.Rows.{part_row}
use Rattle.vhost_backend.specs.declared.block.BlockStep.{BlockStep}
use Rattle.vhost_backend.specs.declared.connection_memory.RegionPiece.{RegionPiece}
use Rattle.vhost_backend.specs.declared.given.OpenPart.{OpenPart}
use Rattle.vhost_backend.specs.declared.rows.ActionRow.{ActionRow}
use Rattle.vhost_backend.specs.declared.rows.Counts.{Counts}
use Rattle.vhost_backend.specs.declared.rows.PieceRow.{PieceRow}

-- how many bytes a part has
abbrev pub len_of_part : BlockStep → ℕ
len_of_part part = (bytes_in part).2

-- where the bytes of a part lie from one of them on, as far as that is in one region
abbrev pub place_from : MemoryState → List Segment → BlockStep → ℕ → Option RegionPiece
place_from m chain part from = option_and_then (place_of m)
    (piece_from (side (bytes_in part).0 chain) ((bytes_in part).1 + from) (len_of_part part - from))

-- its bytes from one of them on, up to another, lie in these places, in order
abbrev pub Lays : MemoryState → List Segment → BlockStep → ℕ → List RegionPiece → ℕ → Type 0
Lays m chain part from [] to = to ≡ from
Lays m chain part from (p ∷ ps) to =
    (from < len_of_part part) × (place_from m chain part from ≡ Some p) × Lays m chain part (from + p.len) ps to

-- whether all of them lie in memory: in some places, or there is one that does not
abbrev pub Lies : MemoryState → List Segment → BlockStep → Bool → Type 0
Lies m chain part true = (ps : List RegionPiece) × Lays m chain part 0 ps (len_of_part part)
Lies m chain part false = (k : ℕ) × (k < len_of_part part) × (place_from m chain part k ≡ None)

-- what is left of a part after so many of its bytes were given
abbrev pub is_left : OpenPart → ℕ → Bool
is_left p to = nat_lt to (len_of_part p.step)

abbrev pub rest_of : OpenPart → ℕ → Option OpenPart
rest_of p to = if is_left p to then Some (record p { given = to }) else None

-- its bytes from where it is up to one of them are served, which lie in so many pieces
abbrev pub part_action : OpenPart → ℕ → ℕ → ActionRow
part_action p count to = part_row p.ring p.id p.step p.given (to - p.given) count (is_left p to) p.left

abbrev pub piece_row : RegionPiece → PieceRow
piece_row p = record { region = p.region; offset = p.offset; len = p.len }

-- what was put after the first N of a list, of which there are M by then
abbrev pub Puts : {A : Type 0} → List A → ℕ → List A → List A → ℕ → Type 0
Puts old n xs new m = (m ≡ n + length xs) × (take m new ≡ take n old ++ xs)

-- a piece is put, if there is a place for it
abbrev pub PutsPiece : List PieceRow → ℕ → RegionPiece → Bool → List PieceRow → ℕ → Type 0
PutsPiece old n p true new m = Puts old n (piece_row p ∷ []) new m × (n < length new)
PutsPiece old n p false new m = (new ≡ old) × (m ≡ n) × (length new ≤ n)

-- pieces of a part are put from where it is, as far as there are places for them
abbrev pub PutsPart : MemoryState → List Segment → OpenPart → List PieceRow → ℕ → ℕ → List PieceRow → ℕ → Type 0
PutsPart memory chain p old n to new m = (ps : List RegionPiece) × Lays memory chain p.step p.given ps to
    × Puts old n (map piece_row ps) new m
    × (to < len_of_part p.step → (length new ≤ m) ⊎ (place_from memory chain p.step to ≡ None))

abbrev pub no_counts : Counts
no_counts = record { ends = 0; actions = 0; pieces = 0; bytes = 0; more = 0; state = 0 }
