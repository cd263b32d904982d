-- The header of a message. All numbers have their lowest byte first.
use Rattle.std.specs.Prelude.{ℕ, ◌/◌, ◌%◌, ◌^◌, ◌<◌, ◌==◌, Bool, List, ◌++◌, take, drop}
use Rattle.std.specs.Int.{w32, to_le_bytes, from_le_bytes}
use Rattle.vhost_message.specs.declared.header.Header.{Header}

abbrev pub header_bytes : Header → List ℕ
header_bytes h = to_le_bytes w32 h.request ++ (to_le_bytes w32 h.flags ++ to_le_bytes w32 h.size)

-- the header that bytes are
abbrev pub header_in : List ℕ → Header
header_in bytes = record {
  request = from_le_bytes w32 (take 4 bytes);
  flags = from_le_bytes w32 (take 4 (drop 4 bytes));
  size = from_le_bytes w32 (take 4 (drop 8 bytes));
}

-- what has a spelling
pub record IsHeader (h : Header) : Type 0 where
  pub request : h.request < 2 ^ 32
  pub flags : h.flags < 2 ^ 32
  pub size : h.size < 2 ^ 32

-- the version is in the two lowest bits of the flags, and above it each bit is a flag
abbrev pub version_of : Header → ℕ
version_of h = h.flags % 4

abbrev pub is_reply : Header → Bool
is_reply h = (h.flags / 4) % 2 == 1

abbrev pub needs_reply : Header → Bool
needs_reply h = (h.flags / 8) % 2 == 1
