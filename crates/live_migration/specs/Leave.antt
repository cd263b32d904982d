-- How a sender begins, and what it sends.
use Rattle.std.specs.Prelude.{◌≡◌, ◌⊎◌, ℕ, ◌-◌, ◌^◌, Bool, List, [], ◌++◌, map, take, Option}
use Rattle.std.specs.Io.KnownBytes.{Appends}
use Rattle.live_migration.specs.Digests.{HasNoted}
use Rattle.live_migration.specs.Header.{IsHeader, header_bytes}
use Rattle.live_migration.specs.declared.digest.StreamHasher.{StreamHasher}
use Rattle.live_migration.specs.declared.header.BlockEntry.{BlockEntry}
use Rattle.live_migration.specs.declared.sender.stream.SendStage.{SendStage}
use Rattle.live_migration.specs.declared.sender.stream.SendStage.TheVariants as stage
use Rattle.live_migration.specs.declared.sender.stream.Sender.{Sender}

-- these bytes went to the stream, and into the digest of it if there is one
pub record Sends (bytes : List ℕ) (before after : Option (List ℕ)) (old new : StreamHasher) : Type 0 where
  pub written : Appends before after bytes
  pub hashed : (digests : Bool) (sent : List ℕ) → HasNoted digests old sent → HasNoted digests new (sent ++ bytes)

-- rounds are sent
abbrev pub IsInRounds : SendStage → Type 0
IsInRounds s = (s ≡ stage.Sending) ⊎ (s ≡ stage.RoundEnded)

-- These bytes were not sent, since the stream failed in a round, or an allocation did: the stream got a beginning of
-- them, and the stage says so
pub record BreaksOff (bytes : List ℕ) (before after : Option (List ℕ)) (old new : SendStage) : Type 0 where
  pub in_round : IsInRounds old
  pub failed : new ≡ stage.Failed
  pub count : ℕ
  pub written : Appends before after (take count bytes)

-- before the first harvest, when the receiver's word that it is ready is awaited
pub record IsFirst (s : Sender) : Type 0 where
  pub round : s.rounds.round ≡ 0
  pub turn : s.rounds.turn ≡ 0
  pub waiting : s.rounds.waiting.items ≡ []
  pub next : s.rounds.next ≡ 0
  pub batch : s.rounds.batch.items ≡ []
  pub stage : s.stage ≡ stage.Begun

-- the blocks of a sender as its header says them
abbrev pub entries_sent : Sender → List BlockEntry
entries_sent s = map (λ t. t.entry) s.rounds.targets.items

-- a sender that wrote its header, which asks for digests or not
pub record BeginsToSend (digests : Bool) (before after : Option (List ℕ)) (s : Sender) : Type 0 where
  pub header : IsHeader (2 ^ 64 - 1) (entries_sent s)
  pub written : Appends before after (header_bytes digests (entries_sent s))
  pub hashed : HasNoted digests s.hasher (header_bytes digests (entries_sent s))
  pub first : IsFirst s
