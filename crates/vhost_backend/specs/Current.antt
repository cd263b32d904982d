-- What the front end's messages say of I/O addresses, move by move, and that nothing of a connection leads elsewhere.
use Rattle.std.specs.Prelude.{◌≡◌, ◌⊎◌, ℕ, ◌<◌, ◌^◌, Bool, true, false, List, [], ◌∷◌, ◌++◌, All, Contains, slice_get, Option, Some, None, is_some, IfSome, option_to_list}
use Rattle.std.proofs.Common.{inl, inr}
use Rattle.vm_memory_base.specs.Address.{difference, is_within}
use Rattle.vm_memory_base.specs.Table.{Mapping, Says, Table, says}
use Rattle.vhost_iotlb.specs.Kept.{IsCurrent, IsReal, SaysNoMore, after_change}
use Rattle.vhost_iotlb.specs.declared.kept.Change.{Change}
use Rattle.vhost_iotlb.specs.declared.kept.Change.TheVariants.{Map, Unmap}
use Rattle.vhost_iotlb.specs.declared.kept.Kept.{Kept}
use Rattle.vhost_backend.specs.Behind.{or_empty}
use Rattle.vhost_backend.specs.BlockQueue.{BlockQueueState}
use Rattle.vhost_backend.specs.Fetch.{FetchState, guest_chain}
use Rattle.vhost_backend.specs.Reach.{ReachState}
use Rattle.vhost_backend.specs.Run.{Course, Follows, GivesBy, Move, MoveBy, Moves, RunsBy, after_sent, begun, does}
use Rattle.vhost_backend.specs.declared.block_connection.BlockConnection.{BlockConnection}
use Rattle.vhost_backend.specs.declared.block_queue.Asked.{Asked}
use Rattle.vhost_backend.specs.declared.deeds.Deed.{Deed}
use Rattle.vhost_backend.specs.declared.deeds.Deed.TheVariants as deed
use Rattle.vhost_backend.specs.declared.fetch.Goal.TheVariants as goal
use Rattle.vhost_backend.specs.declared.rows.ActionRow.{ActionRow}
use Rattle.vhost_backend.specs.declared.rows.Counts.{Counts}
use Rattle.vhost_backend.specs.declared.rows.EndRow.{EndRow}
use Rattle.vhost_backend.specs.declared.rows.PieceRow.{PieceRow}

-- ---- what messages say

-- the change of a message on the table that is applied: no other message, and nothing else, changes what is said
abbrev pub change_if : Bool → Option Change → Option Change
change_if true change = change
change_if false change = None

abbrev pub change_by : (d : Deed) (c c' : BlockConnection) → Follows c d c' → Option Change
change_by deed.Table c c' applies = change_if (is_some applies.0) c.backend.change
change_by d c c' follows = None

abbrev pub change_given : (c : BlockConnection) (m : Move) (c' : BlockConnection) → GivesBy c m c' → Option Change
change_given c (does d bytes) c' gives = change_by d (after_sent d gives.2.0) c' gives.2.3
change_given c m c' gives = None

abbrev pub change_of : (c : Course) (m : Move) (d : Course) → MoveBy c m d → Option Change
change_of c m d (inl gives) = change_given c.connection m gives.0 gives.1
change_of c m d (inr event) = None

-- the changes that moves make, in order
abbrev pub changes_of : (c : Course) (ms : List Move) (d : Course) → Moves c ms d → List Change
changes_of c [] d none = []
changes_of c (m ∷ ms) d moves =
    option_to_list (change_of c m moves.0 moves.1) ++ changes_of moves.0 ms d moves.2

-- and a run
abbrev pub run_changes : (c : BlockConnection) (ends : List EndRow) (turns : ℕ) (actions : List ActionRow)
    (pieces : List PieceRow) (bytes : List ℕ) (r : Counts) (c' : BlockConnection)
    → RunsBy c ends turns actions pieces bytes r c' → List Change
run_changes c ends turns actions pieces bytes r c' run =
    changes_of (begun c ends turns) run.2.0 run.2.1 run.2.2

-- what is said after changes, if f was said before
abbrev pub after_changes : List Change → Says → Says
after_changes [] f = f
after_changes (c ∷ cs) f = after_changes cs (after_change c f)

-- ---- nothing leads elsewhere

-- a range has bytes, and each leads where it is said to lead now
abbrev pub Stands : Says → Kept → Type 0
Stands f k = IsReal k × IsCurrent f k

-- so far as something is fetched. A ring whose areas are fetched has none that are kept
abbrev pub FetchStands : Says → ReachState → FetchState → Type 0
FetchStands f r g = All (Stands f) g.kept × (g.goal ≡ goal.Ring → r.pages ≡ [])

-- the chain of a request under way is made of such ranges, or lies at guest addresses and goes through no table
abbrev pub RequestStands : Says → Asked → Type 0
RequestStands f a = All (Stands f) a.kept × ((a.kept ≡ []) ⊎ (a.chain ≡ or_empty (guest_chain a.kept)))

pub record QueueStands (f : Says) (q : BlockQueueState) : Type 0 where
  pub pages : All (Stands f) q.reach.pages
  pub rows : All (Stands f) q.reach.rows
  pub fetch : IfSome q.reach.fetch (FetchStands f q.reach)
  pub asked : (id : ℕ) (a : Asked) → slice_get q.asked id ≡ Some (Some a) → RequestStands f a

abbrev pub QueuesStand : Says → List BlockQueueState → Type 0
QueuesStand f qs = (ring : ℕ) (q : BlockQueueState) → slice_get qs ring ≡ Some q → QueueStands f q

-- a range is kept for a ring: of its areas, or of rows of indirect tables
abbrev pub IsKeptBy : ReachState → Kept → Type 0
IsKeptBy r k = Contains r.pages k ⊎ Contains r.rows k

abbrev pub IsKeptFor : List BlockQueueState → Kept → Type 0
IsKeptFor qs k =
    (ring : ℕ) × (q : BlockQueueState) × (slice_get qs ring ≡ Some q) × IsKeptBy q.reach k

-- an address is one of a range, and has the mapping of that
abbrev pub IsMappedBy : Kept → ℕ → Mapping → Type 0
IsMappedBy k x m = (is_within k.iova k.len x ≡ true)
    × (m ≡ record { difference = difference k.iova k.base; permissions = k.access })

-- a table says nothing but what such ranges have
abbrev pub ComesFrom : (Kept → Type 0) → Table → Type 0
ComesFrom P t = (x : ℕ) (m : Mapping) → x < 2 ^ 64 → says t x ≡ Some m → (k : Kept) × P k × IsMappedBy k x m

-- the table of a connection says nothing but what the messages say, that of its rings nothing but what is kept for a
-- ring, and all that is kept, fetched or under way leads where the messages say
pub record Current (f : Says) (c : BlockConnection) : Type 0 where
  pub table : SaysNoMore c.memory.table f
  pub rings : (t : Table) → slice_get c.memory.logged.host.tables 0 ≡ Some t
      → ComesFrom (IsKeptFor c.backend.queues) t
  pub queues : QueuesStand f c.backend.queues
  pub unjoined : c.memory.is_joined ≡ false → c.memory.logged.host.tables ≡ []

-- ---- what follows for an address

-- a range is kept, fetched or under way for a ring
abbrev pub IsUsedBy : BlockQueueState → Kept → Type 0
IsUsedBy q k = IsKeptBy q.reach k ⊎ (((g : FetchState) × (q.reach.fetch ≡ Some g) × Contains g.kept k)
    ⊎ ((id : ℕ) × (a : Asked) × (slice_get q.asked id ≡ Some (Some a)) × Contains a.kept k))

-- nothing leads from an address: no table says something of it, and no range has it
pub record LeadsNowhere (x : ℕ) (c : BlockConnection) : Type 0 where
  pub table : says c.memory.table x ≡ None
  pub rings : (t : Table) → slice_get c.memory.logged.host.tables 0 ≡ Some t → says t x ≡ None
  pub ranges : (ring : ℕ) (q : BlockQueueState) (k : Kept) → slice_get c.backend.queues ring ≡ Some q → IsUsedBy q k
      → is_within k.iova k.len x ≡ true → ⊥

-- a change maps an address
abbrev pub maps : Change → ℕ → Bool
maps (Map iova to len permissions) x = is_within iova len x
maps (Unmap iova len) x = false

-- ---- after memory went

-- nothing is under way for a ring
abbrev pub NoneUnderWay : List BlockQueueState → Type 0
NoneUnderWay qs = (ring id : ℕ) (q : BlockQueueState) (a : Asked) → slice_get qs ring ≡ Some q
    → slice_get q.asked id ≡ Some (Some a) → ⊥

-- nothing is said any more, and nothing kept or fetched for a ring
pub record IsForgotten (c : BlockConnection) : Type 0 where
  pub table : (x : ℕ) → says c.memory.table x ≡ None
  pub rings : (t : Table) (x : ℕ) → slice_get c.memory.logged.host.tables 0 ≡ Some t → x < 2 ^ 64 → says t x ≡ None
  pub ranges : (ring : ℕ) (q : BlockQueueState) (k : Kept) → slice_get c.backend.queues ring ≡ Some q
      → IsKeptBy q.reach k ⊎ ((g : FetchState) × (q.reach.fetch ≡ Some g) × Contains g.kept k) → ⊥
