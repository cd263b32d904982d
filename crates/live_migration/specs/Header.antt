-- The header: a magic word, a version, whether the ends of rounds have digests, and the blocks, each with its length, its
-- page size and its place in guest memory, ascending. All numbers have their lowest byte first.
use Rattle.std.specs.Prelude.{◌≡◌, ℕ, zero, suc, ◌+◌, ◌-◌, ◌^◌, ◌<◌, ◌≤◌, Bool, ◌&&◌, ◌==◌, if◌then◌else◌, nat_lt, nat_le, List, [], ◌∷◌, ◌++◌, length, flat_map, Result, Ok, Err}
use Rattle.std.specs.Int.{w32, w64, to_le_bytes}
use Rattle.live_migration.specs.Reading.{◌>>=◌, number_at}
use Rattle.live_migration.specs.declared.header.BlockEntry.{BlockEntry}
use Rattle.live_migration.specs.declared.header.Header.{Header}
use Rattle.live_migration.specs.declared.refusal.Refusal.{Refusal}
use Rattle.live_migration.specs.declared.refusal.Refusal.TheVariants.{Magic, Version, Options, BlockCount, BlockLength, PageSize, Place, TooMuchMemory, FrameLength, Memory}

abbrev pub entry_bytes : BlockEntry → List ℕ
entry_bytes e = to_le_bytes w64 e.len ++ (to_le_bytes w64 e.page_size ++ to_le_bytes w64 e.address)

-- whether a header asks for digests, and its blocks
abbrev pub parts_of : Header → Bool × List BlockEntry
parts_of h = (h.options.digests, h.entries.items)

-- the options of a stream: 1 if digests are asked for, and else 0
abbrev pub option_bits : Bool → ℕ
option_bits digests = if digests then 1 else 0

-- the magic word reads "VMMIGRAT"
unfoldable pub header_bytes : Bool → List BlockEntry → List ℕ
header_bytes digests es = to_le_bytes w64 0x5441_5247_494d_4d56
    ++ (to_le_bytes w32 2 ++ (to_le_bytes w32 (option_bits digests)
    ++ (to_le_bytes w32 (length es) ++ flat_map entry_bytes es)))

-- numbers that eight bytes hold
pub record FitsFields (e : BlockEntry) : Type 0 where
  pub len : e.len < 2 ^ 64
  pub page_size : e.page_size < 2 ^ 64
  pub address : e.address < 2 ^ 64

-- a block that begins no earlier than this address, if N bytes are left of what is allowed
pub record IsEntry (from left : ℕ) (e : BlockEntry) : Type 0 where
  pub some : 0 < e.len
  pub short : e.len < 2 ^ 63
  pub paged : 0 < e.page_size
  pub small : e.page_size ≤ 2 ^ 20
  pub ascends : from ≤ e.address
  pub addressed : e.address + e.len < 2 ^ 64
  pub allowed : e.len ≤ left

abbrev pub AreEntries : ℕ → ℕ → List BlockEntry → Type 0
AreEntries from left [] = Unit {0}
AreEntries from left (e ∷ es) = IsEntry from left e × AreEntries (e.address + e.len) (left - e.len) es

-- a header whose blocks have at most N bytes in all
abbrev pub IsHeader : ℕ → List BlockEntry → Type 0
IsHeader limit es = (length es ≤ 256) × AreEntries 0 limit es

-- ---- reading

-- what a function returned is what reading gives, unless memory ran out
abbrev pub GivesUnlessMemory : {X Y : Type 0} → (X → Y) → Result X Refusal → Result Y Refusal → Type 0
GivesUnlessMemory view (Ok x) read = read ≡ Ok (view x)
GivesUnlessMemory view (Err Memory) read = Unit {0}
GivesUnlessMemory view (Err e) read = read ≡ Err e

-- whether digests are asked for, and the number of blocks
unfoldable pub front_in : List ℕ → Result (Bool × ℕ × List ℕ) Refusal
front_in bytes = do
  word ← number_at w64 bytes
  version ← if word.0 == 0x5441_5247_494d_4d56 then number_at w32 word.1 else Err Magic
  options ← if version.0 == 2 then number_at w32 version.1 else Err Version
  count ← if nat_lt options.0 2 then number_at w32 options.1 else Err Options
  if nat_lt 256 count.0 then Err BlockCount else Ok (options.0 == 1, count.0, count.1)

-- an entry that is one
abbrev pub checked : ℕ → ℕ → BlockEntry → Result BlockEntry Refusal
checked from left e = if nat_lt 0 e.len && nat_lt e.len (2 ^ 63)
    then (if nat_lt 0 e.page_size && nat_le e.page_size (2 ^ 20)
    then (if nat_le from e.address && nat_lt (e.address + e.len) (2 ^ 64)
    then (if nat_le e.len left then Ok e else Err TooMuchMemory)
    else Err Place) else Err PageSize) else Err BlockLength

unfoldable pub entry_in : ℕ → ℕ → List ℕ → Result (BlockEntry × List ℕ) Refusal
entry_in from left bytes = do
  len ← number_at w64 bytes
  size ← number_at w64 len.1
  address ← number_at w64 size.1
  e ← checked from left (record { len = len.0; page_size = size.0; address = address.0 })
  Ok (e, address.1)

unfoldable pub entries_in : ℕ → ℕ → ℕ → List ℕ → Result (List BlockEntry × List ℕ) Refusal
entries_in zero from left bytes = Ok ([], bytes)
entries_in (suc n) from left bytes = do
  first ← entry_in from left bytes
  others ← entries_in n (first.0.address + first.0.len) (left - first.0.len) first.1
  Ok (first.0 ∷ others.0, others.1)

-- whether digests are asked for, and the blocks of a header, which is all of the bytes
unfoldable pub header_in : ℕ → List ℕ → Result (Bool × List BlockEntry) Refusal
header_in limit bytes = do
  front ← front_in bytes
  es ← entries_in front.1 0 limit front.2
  if length es.1 == 0 then Ok (front.0, es.0) else Err FrameLength
