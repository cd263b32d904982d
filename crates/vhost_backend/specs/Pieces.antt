-- Pieces of guest memory: the bytes of segments, as they lie there.
use Rattle.std.specs.Prelude.{ℕ, ◌-◌, min, nat_lt, Bool, true, false, if◌then◌else◌, List, [], ◌∷◌, Option, Some, None}
use Rattle.vm_memory_device.specs.Chain.{readable, writable}
use Rattle.vm_memory_device.specs.declared.chain.Segment.{Segment}
use Rattle.vhost_backend.specs.declared.pieces.Piece.{Piece}

-- the writable segments of a chain, or the readable ones
abbrev pub side : Bool → List Segment → List Segment
side true segments = writable segments
side false segments = readable segments

-- at most N bytes of a segment, from an offset on
abbrev pub piece_of : Segment → ℕ → ℕ → Piece
piece_of s offset n = record { base = s.addr.0; offset = offset; len = min n (s.len - offset) }

-- at most N bytes of segments, from an offset on, that lie together
abbrev pub piece_from : List Segment → ℕ → ℕ → Option Piece
piece_from [] offset n = None
piece_from (s ∷ ss) offset n =
    if nat_lt offset s.len then Some (piece_of s offset n) else piece_from ss (offset - s.len) n
