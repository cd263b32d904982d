-- What goes over the stream, and the one spelling of it. All numbers have their lowest byte first.
use Rattle.std.specs.Prelude.{◌≡◌, ◌⊎◌, ℕ, ◌^◌, ◌<◌, ◌≤◌, List, [], ◌∷◌, ◌++◌, length}
use Rattle.std.specs.Int.{w32, w64, to_le_bytes}
use Rattle.live_migration.specs.declared.frame.Frame.{Frame}
use Rattle.live_migration.specs.declared.frame.Frame.TheVariants as frame

-- Pages of a block from one on, with their bytes; a page of zeros; the end of a round, with the digest of all that
-- came before it, if the header asks for digests; the state of a device; the end of what is sent; and leave to run
pub data Message : Type 0 where
  Pages : (block first : ℕ) (bytes : List ℕ) → Message
  ZeroPage : (block page : ℕ) → Message
  RoundEnd : (round : ℕ) (digest : List ℕ) → Message
  Section : (name bytes : List ℕ) → Message
  Done : Message
  Go : Message

-- a frame without where its bytes lie
abbrev pub message_of : Frame → Message
message_of (frame.Pages block first bytes) = Pages block first bytes.now
message_of (frame.ZeroPage block page) = ZeroPage block page
message_of (frame.RoundEnd round digest) = RoundEnd round digest.now
message_of (frame.Section name bytes) = Section name.now bytes.now
message_of frame.Done = Done
message_of frame.Go = Go

-- what has a spelling
abbrev pub IsMessage : Message → Type 0
IsMessage (Pages block first bytes) = (block < 2 ^ 32) × (first < 2 ^ 64) × (length bytes ≤ 2 ^ 20)
IsMessage (ZeroPage block page) = (block < 2 ^ 32) × (page < 2 ^ 64)
IsMessage (RoundEnd round digest) = (round < 2 ^ 32) × ((length digest ≡ 0) ⊎ (length digest ≡ 32))
IsMessage (Section name bytes) = (length name < 256) × (length bytes ≤ 2 ^ 20)
IsMessage Done = Unit {0}
IsMessage Go = Unit {0}

abbrev pub kind_of : Message → ℕ
kind_of (Pages block first bytes) = 1
kind_of (ZeroPage block page) = 2
kind_of (RoundEnd round digest) = 3
kind_of (Section name bytes) = 4
kind_of Done = 5
kind_of Go = 6

abbrev pub payload_of : Message → List ℕ
payload_of (Pages block first bytes) = to_le_bytes w32 block ++ (to_le_bytes w64 first ++ bytes)
payload_of (ZeroPage block page) = to_le_bytes w32 block ++ to_le_bytes w64 page
payload_of (RoundEnd round digest) = to_le_bytes w32 round ++ digest
payload_of (Section name bytes) = (length name ∷ name) ++ bytes
payload_of Done = []
payload_of Go = []

-- the head of a frame: its kind, and the length of what follows
abbrev pub head : ℕ → ℕ → List ℕ
head kind len = to_le_bytes w32 kind ++ to_le_bytes w32 len

unfoldable pub spelling : Message → List ℕ
spelling m = head (kind_of m) (length (payload_of m)) ++ payload_of m
