-- A run of a connection: what is done on memory and given to the program, move by move, and in which order.
use Rattle.std.specs.Prelude.{◌≡◌, ◌⊎◌, ℕ, ◌+◌, ◌-◌, ◌^◌, ◌<◌, ◌≤◌, ◌==◌, nat_lt, ◌||◌, ◌&&◌, Bool, true, false, if◌then◌else◌, List, [], ◌∷◌, length, drop, map, flat_map, slice_get, Option, Some, None, IsSome, IfSome, MatchOption, is_none, is_some, option_to_list}
use Rattle.vm_memory_base.specs.Table.{Table}
use Rattle.vhost_backend.specs.Backend.{is_at_rest, is_free, is_over}
use Rattle.vhost_backend.specs.BlockBackend.{Looks, Steps, answered, gone_on, is_done, told}
use Rattle.vhost_backend.specs.BlockConnection.{looked_after, with_backend}
use Rattle.vhost_backend.specs.BlockTable.{ChangesTable, memory_lost}
use Rattle.vhost_backend.specs.BlockQueues.{chain_of}
use Rattle.vhost_backend.specs.ConnectionMemory.{Joins, MemoryState, emptied, forgotten, memory_step, table_step, way_of, with_pages}
use Rattle.vhost_backend.specs.Given.{Lays, Lies, Puts, len_of_part, no_counts, part_action, piece_row, place_from, rest_of}
use Rattle.vhost_backend.specs.PageList.{NoneToMark, Pages, TakesRange}
use Rattle.vhost_backend.specs.Rings.{all_stopped, has_next}
use Rattle.vhost_backend.specs.Rows.{flag_of, mark_row, row_of}
use Rattle.vhost_backend.specs.TableCounts.{counted_if, evicted_by, missed}
use Rattle.vhost_backend.specs.declared.block.BlockStep.{BlockStep}
use Rattle.vhost_backend.specs.declared.block_backend.BlockBackend.{BlockBackend}
use Rattle.vhost_backend.specs.declared.block_connection.BlockConnection.{BlockConnection}
use Rattle.vhost_backend.specs.declared.connection_memory.RegionPiece.{RegionPiece}
use Rattle.vhost_backend.specs.declared.deeds.Deed.{Deed}
use Rattle.vhost_backend.specs.declared.deeds.Deed.TheVariants as deed
use Rattle.vhost_backend.specs.declared.deeds.Made.{Made}
use Rattle.vhost_backend.specs.declared.deeds.Made.TheVariants as made
use Rattle.vhost_backend.specs.declared.given.OpenPart.{OpenPart}
use Rattle.vhost_backend.specs.declared.page_list.PageRange.{PageRange}
use Rattle.vhost_backend.specs.declared.request.PartEnd.{PartEnd}
use Rattle.vhost_backend.specs.declared.request.PartEnd.TheVariants.{Moved, Failed}
use Rattle.vhost_backend.specs.declared.ring.RingEvent.TheVariants.{Ended}
use Rattle.vhost_backend.specs.declared.ring_memory.Logged.{Logged}
use Rattle.vhost_backend.specs.declared.rings.Event.TheVariants as event
use Rattle.vhost_backend.specs.declared.rows.ActionRow.{ActionRow}
use Rattle.vhost_backend.specs.declared.rows.Counts.{Counts}
use Rattle.vhost_backend.specs.declared.rows.EndRow.{EndRow}
use Rattle.vhost_backend.specs.declared.rows.PieceRow.{PieceRow}

pub data Move : Type 0 where
  -- pages are given, to be marked
  gives_marks : PageRange → Move
  -- the next pieces of a part are given, up to so many of its bytes
  gives_part : OpenPart → List RegionPiece → ℕ → Move
  -- a step is taken, and the program has something to do. If that sends a reply, these are its bytes
  does : Deed → List ℕ → Move
  -- a step is taken, and the program has nothing to do
  goes_on : Move
  -- nothing is left to be done. The part that has no memory has failed
  loses : Move
  -- or a part ended, or a ring is looked at, or one gets a turn
  takes_end : EndRow → Move
  looks : Move
  takes_turn : Move

-- ---- what a move gives to the program

abbrev pub rows_of : Move → List ActionRow
rows_of (gives_marks range) = mark_row range ∷ []
rows_of (gives_part p pieces to) = part_action p (length pieces) to ∷ []
rows_of (does d bytes) = option_to_list (row_of d (length bytes))
rows_of _ = []

abbrev pub pieces_of : Move → List PieceRow
pieces_of (gives_part p pieces to) = map piece_row pieces
pieces_of _ = []

abbrev pub bytes_of : Move → List ℕ
bytes_of (does d bytes) = bytes
bytes_of _ = []

-- the ends that it takes
abbrev pub ends_of : Move → List EndRow
ends_of (takes_end e) = e ∷ []
ends_of _ = []

-- ---- steps, and what follows from them

-- no page waits to be marked, and no chain is to be returned before the marks that this run gave are made
abbrev pub MayStep : BlockConnection → Type 0
MayStep c = NoneToMark c.memory.logged.pages × (c.marks ≡ true → c.backend.returning ≡ None)

abbrev pub with_memory : BlockConnection → BlockBackend → Logged (Unit {0}) → BlockConnection
with_memory c w logged = record c { backend = w; memory = record c.memory { logged = logged } }

-- a step on the memory
abbrev pub StepsTo : BlockConnection → Made → BlockConnection → Type 0
StepsTo c m c' = Steps (memory_step c.memory) c.backend c.memory.logged m c'.backend c'.memory.logged
    × (c' ≡ with_memory c c'.backend c'.memory.logged)

-- the regions become guest memory, if that can be done
abbrev pub JoinsAt : BlockConnection → BlockConnection → Type 0
JoinsAt c c' = (m : MemoryState) × (is : Bool) × Joins c.memory c.backend.backend.connection.memory is m
    × (c' ≡ record c { memory = m; backend = answered c.backend is })

-- a part is to be given if all its bytes lie in memory, and has failed if not
abbrev pub open_part : BlockConnection → ℕ → ℕ → BlockStep → ℕ → Bool → BlockConnection
open_part c ring id part left true =
    record c { part = Some (record { ring = ring; id = id; step = part; left = left; given = 0 }) }
open_part c ring id part left false = record c { lost = Some (ring, id) }

abbrev pub BeginsPart : BlockConnection → ℕ → ℕ → BlockStep → ℕ → BlockConnection → Type 0
BeginsPart c ring id part left c' = (is : Bool)
    × MatchOption (chain_of id (slice_get c.backend.queues ring)) (is ≡ false) (λ chain. Lies c.memory chain part is)
    × (c' ≡ open_part c ring id part left is)

-- the table is changed as the message has it, if that can be done, and that is counted
abbrev pub Applies : BlockConnection → BlockConnection → Type 0
Applies c c' = (evicted : Option ℕ) × (w : BlockBackend) × (t : Table) × (logged : Logged (Unit {0}))
    × ChangesTable (table_step c.memory) c.backend c.memory.table c.memory.logged (is_some evicted) w t logged
    × IfSome evicted (λ n. n ≡ evicted_by c.backend.change c.memory.table) × (c' ≡ record c {
      memory = record c.memory { logged = logged; table = t };
      backend = answered w (is_some evicted);
      table_counts = counted_if c.table_counts c.backend.change evicted;
    })

-- after the last ring was stopped nothing is said of I/O addresses
abbrev pub after_stop : BlockConnection → BlockConnection
after_stop c = if all_stopped c.backend.backend.rings
    then record c { memory = emptied c.memory; backend = memory_lost c.backend } else c

-- what follows from what is to be done, beside that the program does it
abbrev pub Follows : BlockConnection → Deed → BlockConnection → Type 0
Follows c deed.UnmapAll c' = c' ≡ record c { memory = forgotten c.memory; backend = memory_lost c.backend }
Follows c deed.Join c' = JoinsAt c c'
Follows c deed.Table c' = Applies c c'
Follows c (deed.Stopped ring) c' = c' ≡ after_stop c
Follows c (deed.Ask miss) c' = c' ≡ record c { table_counts = missed c.table_counts }
Follows c (deed.Part ring id part left) c' = BeginsPart c ring id part left c'
Follows c _ c' = c' ≡ c

-- the bytes that it sends, which are forgotten then
abbrev pub sent_by : Deed → List ℕ → List ℕ
sent_by deed.Send reply = reply
sent_by _ reply = []

abbrev pub after_sent : Deed → BlockConnection → BlockConnection
after_sent deed.Send c = with_backend c (record c.backend { reply = [] })
after_sent _ c = c

abbrev pub Does : BlockConnection → Deed → List ℕ → BlockConnection → Type 0
Does c d bytes c' = (mid : BlockConnection) × StepsTo c (made.Deed d) mid × (bytes ≡ sent_by d mid.backend.reply)
    × Follows (after_sent d mid) d c'

-- ---- parts

-- the next pieces of a part lie where its bytes do
abbrev pub GivesPart : BlockConnection → OpenPart → List RegionPiece → ℕ → BlockConnection → Type 0
GivesPart c p pieces to c' = MatchOption (chain_of p.id (slice_get c.backend.queues p.ring))
    ((pieces ≡ []) × (to ≡ p.given)) (λ chain. Lays c.memory chain p.step p.given pieces to)
    × ((p.given < to) ⊎ (len_of_part p.step ≤ p.given)) × (c' ≡ record c { part = rest_of p to })

-- ---- what is given

abbrev pub GivesMarks : BlockConnection → PageRange → BlockConnection → Type 0
GivesMarks c range c' = (pages : Pages) × TakesRange c.memory.logged.pages range pages
    × (c' ≡ record c { memory = with_pages c.memory pages; marks = true })

abbrev pub GivesBy : BlockConnection → Move → BlockConnection → Type 0
GivesBy c (gives_marks range) c' = GivesMarks c range c'
GivesBy c (gives_part p pieces to) c' = MayStep c × (c.part ≡ Some p) × GivesPart c p pieces to c'
GivesBy c (does d bytes) c' = MayStep c × (c.part ≡ None) × Does c d bytes c'
GivesBy c goes_on c' = MayStep c × (c.part ≡ None) × StepsTo c made.Again c'
GivesBy c _ c' = ⊥

-- ---- events

-- how far a run has come: the connection, the ends that it has not taken, and how many turns rings may have
pub record Course : Type 0 where
  pub connection : BlockConnection
  pub ends : List EndRow
  pub turns : ℕ

abbrev pub course_of : BlockConnection → List EndRow → ℕ → Course
course_of connection ends turns = record { connection = connection; ends = ends; turns = turns }

abbrev pub with_connection : Course → BlockConnection → Course
with_connection c connection = record c { connection = connection }

abbrev pub part_ended : BlockConnection → ℕ → ℕ → PartEnd → BlockConnection
part_ended c ring id end = with_backend c (told c.backend (event.Ring ring (Ended id end)))

abbrev pub end_of : EndRow → PartEnd
end_of e = if e.failed == 0 then Moved e.bytes else Failed

-- an end with an id that no request has changes nothing
abbrev pub end_taken : BlockConnection → EndRow → BlockConnection
end_taken c e = if nat_lt e.id (2 ^ 16) then part_ended c e.ring e.id (end_of e) else c

abbrev pub lost_part : BlockConnection → ℕ × ℕ → BlockConnection
lost_part c lost = part_ended (record c { lost = None }) lost.0 lost.1 Failed

-- a ring that was kicked is looked at, or else one pops in its turn, if it finds something
abbrev pub LooksBy : BlockConnection → Bool → BlockConnection → Type 0
LooksBy c is c' = Looks (memory_step c.memory) (way_of c.memory c.backend) c.backend c.memory.logged is c'.backend
    c'.memory.logged
    × (c' ≡ with_memory c c'.backend c'.memory.logged)

-- the part that has no memory comes first, then the ends in order, then looks, and then turns
abbrev pub EventBy : Course → Move → Course → Type 0
EventBy c loses d = (lost : ℕ × ℕ) × (c.connection.lost ≡ Some lost)
    × (d ≡ with_connection c (lost_part c.connection lost))
EventBy c (takes_end e) d = (c.connection.lost ≡ None) × (c.ends ≡ e ∷ d.ends)
    × (d ≡ record c { connection = end_taken c.connection e; ends = d.ends })
EventBy c looks d = (c.connection.lost ≡ None) × (c.ends ≡ []) × LooksBy c.connection true d.connection
    × (d ≡ with_connection c d.connection)
EventBy c takes_turn d = (mid : BlockConnection) × (c.connection.lost ≡ None) × (c.ends ≡ [])
    × LooksBy c.connection false mid × (has_next mid.backend.backend.rings ≡ true) × (c.turns ≡ d.turns + 1)
    × (d ≡ record c { connection = with_backend mid (gone_on mid.backend); turns = d.turns })
EventBy c _ d = ⊥

-- there is no event: a look finds nothing, and no ring gets a turn
abbrev pub Rests : Course → Course → Type 0
Rests c d = (c.connection.lost ≡ None) × (c.ends ≡ []) × LooksBy c.connection false d.connection
    × ((c.turns ≡ 0) ⊎ (has_next d.connection.backend.backend.rings ≡ false)) × (d ≡ with_connection c d.connection)

-- ---- moves

-- nothing waits: no page, no part that is being given, and nothing that follows from an event
abbrev pub IsQuiet : BlockConnection → Type 0
IsQuiet c = NoneToMark c.memory.logged.pages × (c.part ≡ None) × (is_done c.backend ≡ true)

-- the log is looked after, if a message was finished
abbrev pub looked : Course → Course
looked c = with_connection c (looked_after c.connection)

-- something is given, or else an event is taken
abbrev pub MoveBy : Course → Move → Course → Type 0
MoveBy c m d = ((mid : BlockConnection) × GivesBy c.connection m mid × (d ≡ looked (with_connection c mid)))
    ⊎ (IsQuiet c.connection × EventBy (looked c) m d)

-- moves are made one after another
abbrev pub Moves : Course → List Move → Course → Type 0
Moves c [] d = d ≡ c
Moves c (m ∷ ms) d = (mid : Course) × MoveBy c m mid × Moves mid ms d

-- ---- runs

-- what a run has put so far: how much of each, and the rows, pieces and bytes, for which there are so many places
pub record Output : Type 0 where
  pub counts : Counts
  pub actions : List ActionRow
  pub pieces : List PieceRow
  pub bytes : List ℕ

abbrev pub output_of : Counts → List ActionRow → List PieceRow → List ℕ → Output
output_of counts actions pieces bytes = record { counts = counts; actions = actions; pieces = pieces; bytes = bytes }

-- what some moves give is put after what was
abbrev pub PutsMoves : Output → List Move → Output → Type 0
PutsMoves o ms o' = Puts o.actions o.counts.actions (flat_map rows_of ms) o'.actions o'.counts.actions
    × Puts o.pieces o.counts.pieces (flat_map pieces_of ms) o'.pieces o'.counts.pieces
    × Puts o.bytes o.counts.bytes (flat_map bytes_of ms) o'.bytes o'.counts.bytes

-- bytes of a part are left, and there is no place for the next piece of it, or its memory is gone
abbrev pub NoPiece : BlockConnection → OpenPart → List PieceRow → ℕ → Type 0
NoPiece c p pieces n = (p.given < len_of_part p.step) × ((length pieces ≤ n)
    ⊎ MatchOption (chain_of p.id (slice_get c.backend.queues p.ring)) (Unit {0})
    (λ chain. place_from c.memory chain p.step p.given ≡ None))

-- there is no room for an action, a piece or a reply, or a chain is to be returned after marks of this run are made
abbrev pub IsFull : BlockConnection → Output → Type 0
IsFull c o = (length o.actions ≤ o.counts.actions)
    ⊎ (((c.marks ≡ true) × IsSome c.backend.returning)
    ⊎ (((p : OpenPart) × (c.part ≡ Some p) × NoPiece c p o.pieces o.counts.pieces)
    ⊎ (length o.bytes < o.counts.bytes + length c.backend.reply)))

-- after some moves it stops: nothing is left and no event comes, or there is no room, or these were all for one run
abbrev pub Stops : Course → List Move → Output → Bool → Course → Type 0
Stops c ms o false d = IsQuiet c.connection × Rests (looked c) d
Stops c ms o true d = (IsFull c.connection o × (d ≡ looked c)) ⊎ ((length ms ≡ 2 ^ 64 - 1) × (d ≡ c))

abbrev pub Fills : Course → Output → Bool → Course → Output → Type 0
Fills c o is_full d o' = (ms : List Move) × (last : Course) × Moves c ms last × PutsMoves o ms o'
    × Stops last ms o' is_full d

-- a message is taken if nothing is left to be done, and the one before it is over
abbrev pub takes_messages : BlockConnection → Bool
takes_messages c =
    is_none c.part && is_none c.lost && is_done c.backend && is_free c.backend.backend.taken

-- 0 if a message is taken, 1 if something is left to be done before, 2 if the connection is over, and 3 if it is at rest
abbrev pub state_of : BlockConnection → ℕ
state_of c = if is_at_rest c.backend.backend && is_done c.backend then 3 else if is_over c.backend.backend.taken then 2
    else if takes_messages c then 0 else 1

-- ---- runs

-- no mark of this run is given yet
abbrev pub begun : BlockConnection → List EndRow → ℕ → Course
begun c ends turns = record { connection = record c { marks = false }; ends = ends; turns = turns }

-- a run with these ends and so many turns makes moves until it stops. What they give lies at the front of ACTIONS,
-- PIECES and BYTES, in order, and R says how much that is. The first ends were taken
abbrev pub RunsBy : BlockConnection → List EndRow → ℕ → List ActionRow → List PieceRow → List ℕ → Counts → BlockConnection
    → Type 0
RunsBy c ends turns actions pieces bytes r c' = (is_full : Bool) × (d : Course)
    × Fills (begun c ends turns) (output_of no_counts [] [] []) is_full d (output_of r actions pieces bytes)
    × (d.connection ≡ c') × (d.ends ≡ drop r.ends ends) × (r.ends ≤ length ends)
    × (r.more ≡ flag_of (is_full || (nat_lt r.ends (length ends) || has_next c'.backend.backend.rings)))
    × (r.state ≡ state_of c')
