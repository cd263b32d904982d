-- What goes back: the receiver is ready, it has all, or it refused.
use Rattle.std.specs.Prelude.{◌≡◌, ◌≢◌, ℕ, ◌<◌, List, [], ◌++◌, length, flat_map, Option, Result, Ok, Err}
use Rattle.std.specs.Int.{w32, to_le_bytes}
use Rattle.std.specs.Io.KnownBytes.{Consumes}
use Rattle.live_migration.specs.Frame.{Message, Done}
use Rattle.live_migration.specs.declared.receiver.Stage.{Stage}
use Rattle.live_migration.specs.declared.receiver.Stage.TheVariants as stage
use Rattle.live_migration.specs.declared.refusal.Refusal.{Refusal}
use Rattle.live_migration.specs.declared.refusal.Refusal.TheVariants as refusal
use Rattle.live_migration.specs.declared.reply.Reply.{Reply}
use Rattle.live_migration.specs.declared.reply.Reply.TheVariants.{Ready, Accepted, Refused}
use Rattle.live_migration.specs.declared.sender.pages.SendError.{SendError}
use Rattle.live_migration.specs.declared.sender.pages.SendError.TheVariants as error

abbrev pub code_of : Refusal → ℕ
code_of refusal.Magic = 1
code_of refusal.Version = 2
code_of refusal.BlockCount = 3
code_of refusal.BlockLength = 4
code_of refusal.PageSize = 5
code_of refusal.Place = 6
code_of refusal.TooMuchMemory = 7
code_of refusal.FrameKind = 8
code_of refusal.FrameLength = 9
code_of refusal.Block = 10
code_of refusal.Page = 11
code_of refusal.CutPage = 12
code_of refusal.Order = 13
code_of refusal.Digest = 14
code_of refusal.Ended = 15
code_of refusal.Failed = 16
code_of refusal.Memory = 17
code_of refusal.Options = 18

-- a reply has eight bytes: its kind, and the code of what was refused, or 0
abbrev pub reply_bytes : Reply → List ℕ
reply_bytes Ready = to_le_bytes w32 128 ++ to_le_bytes w32 0
reply_bytes Accepted = to_le_bytes w32 129 ++ to_le_bytes w32 0
reply_bytes (Refused r) = to_le_bytes w32 130 ++ to_le_bytes w32 (code_of r)

-- the replies that messages call for: that the receiver has all, after done
abbrev pub reply_to : Message → List ℕ
reply_to Done = reply_bytes Accepted
reply_to m = []

-- the reply at the stage that a message leads to
abbrev pub reply_after : Stage → List ℕ
reply_after stage.Done = reply_bytes Accepted
reply_after s = []

abbrev pub replies_to : List Message → List ℕ
replies_to ms = flat_map reply_to ms

-- What a sender reads that awaits a reply, and what it reports: just the bytes of this reply; those of a refusal; eight
-- bytes that are neither; or fewer, if the stream ended or failed
abbrev pub Awaits : {X : Type 0} → Reply → Option (List ℕ) → Option (List ℕ) → Result X SendError → Type 0
Awaits wanted before after (Ok x) = Consumes before after (reply_bytes wanted)
Awaits wanted before after (Err (error.Refused r)) = Consumes before after (reply_bytes (Refused r))
Awaits wanted before after (Err error.Reply) = (bytes : List ℕ) × (length bytes ≡ 8) × Consumes before after bytes
    × (bytes ≢ reply_bytes wanted) × ((r : Refusal) → bytes ≢ reply_bytes (Refused r))
Awaits wanted before after (Err error.Failed) = (bytes : List ℕ) × (length bytes < 8) × Consumes before after bytes
Awaits wanted before after (Err e) = ⊥
