-- In which order frames come: rounds of pages and sections, each with its end, then done, and then go.
use Rattle.std.specs.Prelude.{List, [], ◌∷◌, Result, Ok, Err}
use Rattle.live_migration.specs.Frame.{Message, Pages, ZeroPage, RoundEnd, Section, Done, Go}
use Rattle.live_migration.specs.Reading.{◌>>=◌}
use Rattle.live_migration.specs.declared.receiver.Stage.{Stage}
use Rattle.live_migration.specs.declared.receiver.Stage.TheVariants as stage
use Rattle.live_migration.specs.declared.refusal.Refusal.{Refusal}
use Rattle.live_migration.specs.declared.refusal.Refusal.TheVariants.{Order}

-- in a round
abbrev pub in_round : Message → Result Stage Refusal
in_round (Pages block first bytes) = Ok stage.Round
in_round (ZeroPage block page) = Ok stage.Round
in_round (RoundEnd round digest) = Ok stage.RoundEnded
in_round (Section name bytes) = Ok stage.Round
in_round Done = Err Order
in_round Go = Err Order

-- after the end of a round
abbrev pub after_round_end : Message → Result Stage Refusal
after_round_end Done = Ok stage.Done
after_round_end m = in_round m

-- after done
abbrev pub after_done : Message → Result Stage Refusal
after_done Go = Ok stage.Gone
after_done m = Err Order

-- the stage after a message
abbrev pub stage_after : Stage → Message → Result Stage Refusal
stage_after stage.Round m = in_round m
stage_after stage.RoundEnded m = after_round_end m
stage_after stage.Done m = after_done m
stage_after stage.Gone m = Err Order
stage_after stage.Failed m = Err Order

-- and after messages, one after the other
unfoldable pub stage_after_all : Stage → List Message → Result Stage Refusal
stage_after_all s [] = Ok s
stage_after_all s (m ∷ ms) = stage_after s m >>= (λ t. stage_after_all t ms)
