-- What each call of a run does and gives.
use Rattle.std.specs.Prelude.{◌≡◌, ◌⊎◌, ℕ, ◌+◌, Bool, true, false, List, [], ◌∷◌, length, map, slice_get, Option, Some, None, MatchOption}
use Rattle.vhost_backend.specs.BlockBackend.{gone_on, is_done}
use Rattle.vhost_backend.specs.BlockConnection.{with_backend}
use Rattle.vhost_backend.specs.BlockQueues.{chain_of}
use Rattle.vhost_backend.specs.Given.{Puts, PutsPart, part_action, piece_row}
use Rattle.vhost_backend.specs.Rings.{has_next}
use Rattle.vhost_backend.specs.declared.block_connection.BlockConnection.{BlockConnection}
use Rattle.vhost_backend.specs.declared.connection_memory.RegionPiece.{RegionPiece}
use Rattle.vhost_backend.specs.declared.deeds.Deed.{Deed}
use Rattle.vhost_backend.specs.declared.given.Given.{Given}
use Rattle.vhost_backend.specs.declared.given.Given.TheVariants as given
use Rattle.vhost_backend.specs.declared.given.OpenPart.{OpenPart}
use Rattle.vhost_backend.specs.declared.rows.ActionRow.{ActionRow}
use Rattle.vhost_backend.specs.declared.rows.EndRow.{EndRow}
use Rattle.vhost_backend.specs.declared.rows.PieceRow.{PieceRow}
use Rattle.vhost_backend.specs.Run.{Course, EventBy, Follows, GivesBy, GivesPart, IsFull, IsQuiet, Move, MoveBy, NoPiece, Output, PutsMoves, Rests, after_sent, does, end_taken, looked, lost_part, sent_by}

-- what is given of a part
abbrev pub PutsPartAt : BlockConnection → OpenPart → List PieceRow → ℕ → ℕ → List PieceRow → ℕ → Type 0
PutsPartAt c p old n to new m = MatchOption (chain_of p.id (slice_get c.backend.queues p.ring))
    ((to ≡ p.given) × (new ≡ old) × (m ≡ n)) (λ chain. PutsPart c.memory chain p old n to new m)

abbrev pub GivesPartRow : BlockConnection → OpenPart → List PieceRow → ℕ → Option ActionRow → BlockConnection
    → List PieceRow → ℕ → Type 0
GivesPartRow c p old n None c' new m = NoPiece c p new m × (c' ≡ c) × Puts old n [] new m
GivesPartRow c p old n (Some row) c' new m = (pieces : List RegionPiece) × (to : ℕ) × GivesPart c p pieces to c'
    × Puts old n (map piece_row pieces) new m × (row ≡ part_action p (length pieces) to)

-- what is given of something to be done
abbrev pub GivesDeed : BlockConnection → Deed → Output → BlockConnection → Output → Type 0
GivesDeed c d o c' o' = Follows (after_sent d c) d c' × PutsMoves o (does d (sent_by d c.backend.reply) ∷ []) o'
    × (o'.counts.ends ≡ o.counts.ends)

abbrev pub StepGives : BlockConnection → Output → Given → BlockConnection → Output → Type 0
StepGives c o given.Something c' o' = (m : Move) × GivesBy c m c' × PutsMoves o (m ∷ []) o'
StepGives c o given.Nothing c' o' = (is_done c.backend ≡ true) × (c' ≡ c) × (o' ≡ o)
StepGives c o given.Full c' o' = ⊥

-- something is given, or nothing is left, or there is no room
abbrev pub GivesNext : BlockConnection → Output → Given → BlockConnection → Output → Type 0
GivesNext c o given.Something c' o' = (m : Move) × GivesBy c m c' × PutsMoves o (m ∷ []) o'
GivesNext c o given.Nothing c' o' = IsQuiet c × (c' ≡ c) × PutsMoves o [] o'
GivesNext c o given.Full c' o' = IsFull c o' × (c' ≡ c) × PutsMoves o [] o'

-- events, each of which is there or not
abbrev pub LostBy : BlockConnection → Option (ℕ × ℕ) → Bool → BlockConnection → Type 0
LostBy c None is c' = (is ≡ false) × (c' ≡ c)
LostBy c (Some lost) is c' = (is ≡ true) × (c' ≡ lost_part c lost)

abbrev pub EndBy : BlockConnection → List EndRow → Bool → BlockConnection → List EndRow → Type 0
EndBy c ends true c' ends' = (e : EndRow) × (ends ≡ e ∷ ends') × (c' ≡ end_taken c e)
EndBy c ends false c' ends' = (ends ≡ []) × (ends' ≡ []) × (c' ≡ c)

abbrev pub TurnBy : BlockConnection → ℕ → Bool → BlockConnection → ℕ → Type 0
TurnBy c turns true c' turns' = (has_next c.backend.backend.rings ≡ true) × (turns ≡ turns' + 1)
    × (c' ≡ with_backend c (gone_on c.backend))
TurnBy c turns false c' turns' =
    ((turns ≡ 0) ⊎ (has_next c.backend.backend.rings ≡ false)) × (turns' ≡ turns) × (c' ≡ c)

-- an event is taken, or there is none
abbrev pub EventOr : Course → Bool → Course → Type 0
EventOr c true d = (m : Move) × EventBy c m d
EventOr c false d = Rests c d

abbrev pub GoesOn : Course → Output → Given → Course → Output → Type 0
GoesOn c o given.Something d o' = (m : Move) × MoveBy c m d × PutsMoves o (m ∷ []) o'
GoesOn c o given.Nothing d o' = IsQuiet c.connection × Rests (looked c) d × PutsMoves o [] o'
GoesOn c o given.Full d o' = IsFull c.connection o' × (d ≡ looked c) × PutsMoves o [] o'
