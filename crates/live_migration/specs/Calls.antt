-- The calls of a sender, one after the other, and writes of its guest between them.
use Rattle.std.specs.Prelude.{◌≡◌, ℕ, ◌+◌, Bool, List, [], ◌∷◌, length, All, Option, Some}
use Rattle.std.specs.List.{AllByRecursion}
use Rattle.vm_memory_base.specs.Pages.{PageSet}
use Rattle.vm_memory_guest.specs.Dirt.{with_pages}
use Rattle.vm_memory_guest.specs.Host.{Host}
use Rattle.vm_memory_guest.specs.Lent.{MarksChanges}
use Rattle.vm_memory_guest.specs.Window.{Window}
use Rattle.live_migration.specs.Digests.{HasNoted, digest_of}
use Rattle.live_migration.specs.Following.{KeepsRounds, StaysAsItWas}
use Rattle.live_migration.specs.Frame as message
use Rattle.live_migration.specs.Frame.{IsMessage, Message, RoundEnd, spelling}
use Rattle.live_migration.specs.Leave.{BeginsToSend, Sends}
use Rattle.live_migration.specs.Receiving.{Begins, ReceivesAll}
use Rattle.live_migration.specs.Sending.{CopiesPages, HarvestsNext, IsIdle}
use Rattle.live_migration.specs.Targets.{AreTargets}
use Rattle.live_migration.specs.Writing.{MarksItsBlock}
use Rattle.live_migration.specs.declared.receiver.progress.Progress.{Progress}
use Rattle.live_migration.specs.declared.sender.stream.Sender.{Sender}

-- a call of a sender, which may be refused, or writes of its guest
pub data Call : Type 0 where
  WriteGuest : Call
  Refuse : Call
  Ready : Call
  Harvest : Call
  Copy : (count : ℕ) → Call
  Send : Call
  SendSection : (name bytes : List ℕ) → Call
  EndRound : Call
  Done : Call

-- it leaves the guest's memory as it is
abbrev pub IsQuiet : Call → Type 0
IsQuiet WriteGuest = ⊥
IsQuiet c = Unit {0}

-- a sender, its host, and what its stream was given, if that is known
pub record Moment (B : Type 0) : Type 0 where
  pub sender : Sender
  pub host : Host B
  pub stream : Option (List ℕ)

module _ {B : Type 0} (pages_of : B → PageSet) (old new : Moment B) where
  -- the guest is written in windows that mark their own block, and what changed is marked
  pub record WritesGuest : Type 0 where
    pub windows : List Window
    pub own : All MarksItsBlock windows
    pub changes : MarksChanges windows (with_pages pages_of old.host) (with_pages pages_of new.host)
    pub sender : new.sender ≡ old.sender
    pub stream : new.stream ≡ old.stream

  pub record HarvestsBlock : Type 0 where
    pub taken : HarvestsNext pages_of old.sender.rounds new.sender.rounds old.host new.host
    pub hasher : new.sender.hasher ≡ old.sender.hasher
    pub stream : new.stream ≡ old.stream

module _ {B : Type 0} (old new : Moment B) where
  -- a harvest or a copy was refused, or nothing was written
  pub record RefusesCall : Type 0 where
    pub stays : StaysAsItWas old.sender.rounds new.sender.rounds
    pub hasher : new.sender.hasher ≡ old.sender.hasher
    pub host : new.host ≡ old.host
    pub stream : new.stream ≡ old.stream

  -- the receiver's word came that it is ready
  pub record HearsReady : Type 0 where
    pub rounds : new.sender.rounds ≡ old.sender.rounds
    pub hasher : new.sender.hasher ≡ old.sender.hasher
    pub host : new.host ≡ old.host
    pub stream : new.stream ≡ old.stream

  pub record CopiesBatch (count : ℕ) : Type 0 where
    pub copied : CopiesPages count old.sender.rounds new.sender.rounds old.host
    pub hasher : new.sender.hasher ≡ old.sender.hasher
    pub host : new.host ≡ old.host
    pub stream : new.stream ≡ old.stream

  pub record SendsBatch : Type 0 where
    pub sent : Sends old.sender.rounds.batch.items old.stream new.stream old.sender.hasher new.sender.hasher
    pub none : new.sender.rounds.batch.items ≡ []
    pub kept : KeepsRounds old.sender.rounds new.sender.rounds
    pub round : new.sender.rounds.round ≡ old.sender.rounds.round
    pub turn : new.sender.rounds.turn ≡ old.sender.rounds.turn
    pub host : new.host ≡ old.host

  -- a section is sent, or that all was sent
  pub record SendsFrame (m : Message) : Type 0 where
    pub fits : IsMessage m
    pub sent : Sends (spelling m) old.stream new.stream old.sender.hasher new.sender.hasher
    pub rounds : new.sender.rounds ≡ old.sender.rounds
    pub host : new.host ≡ old.host

  pub record EndsRound : Type 0 where
    pub sent : (digests : Bool) (bytes : List ℕ) → HasNoted digests old.sender.hasher bytes
        → let m = RoundEnd old.sender.rounds.round (digest_of digests bytes) in
        IsMessage m × Sends (spelling m) old.stream new.stream old.sender.hasher new.sender.hasher
    pub idle : IsIdle old.sender.rounds
    pub through : old.sender.rounds.turn ≡ length old.sender.rounds.targets.items
    pub round : new.sender.rounds.round ≡ old.sender.rounds.round + 1
    pub turn : new.sender.rounds.turn ≡ 0
    pub kept : KeepsRounds old.sender.rounds new.sender.rounds
    pub batch : new.sender.rounds.batch ≡ old.sender.rounds.batch
    pub host : new.host ≡ old.host

module _ {B : Type 0} (pages_of : B → PageSet) where
  -- what each call says of itself
  abbrev pub Does : Call → Moment B → Moment B → Type 0
  Does WriteGuest old new = WritesGuest pages_of old new
  Does Refuse old new = RefusesCall old new
  Does Ready old new = HearsReady old new
  Does Harvest old new = HarvestsBlock pages_of old new
  Does (Copy count) old new = CopiesBatch old new count
  Does Send old new = SendsBatch old new
  Does (SendSection name bytes) old new = SendsFrame old new (message.Section name bytes)
  Does EndRound old new = EndsRound old new
  Does Done old new = SendsFrame old new message.Done

  -- calls one after the other
  abbrev pub DoAll : List Call → Moment B → Moment B → Type 0
  DoAll [] old new = new ≡ old
  DoAll (c ∷ cs) old new = (mid : Moment B) × Does c old mid × DoAll cs mid new

  -- a sender that has just begun, over a stream that had nothing
  pub record HasBegun (m : Moment B) : Type 0 where
    pub digests : Bool
    pub begun : BeginsToSend digests (Some []) m.stream m.sender
    pub targets : AreTargets pages_of m.host m.sender.rounds.targets.items

  -- A guest is paused as a round begins. This round is gone through to its end, and nothing is written from the
  -- pause on
  pub record EndsPaused (first last : Moment B) : Type 0 where
    pub before : List Call
    pub round : List Call
    pub later : List Call
    pub paused : Moment B
    pub through : Moment B
    pub runs : DoAll before first paused
    pub begins : paused.sender.rounds.turn ≡ 0
    pub goes : DoAll round paused through
    pub ends : DoAll (EndRound ∷ later) through last
    pub quiet : AllByRecursion IsQuiet round × AllByRecursion IsQuiet later

-- a receiver read the whole of a stream, up to leave to run the guest
pub record ReadsAll {C : Type 0} (made : ℕ → C → Type 0) (marks : C → ℕ → ℕ → C → Type 0) (stream : Option (List ℕ))
    (p : Progress) (next : Host C) : Type 0 where
  pub limit : ℕ
  pub host : Host C
  pub begun : Host C
  pub rest : Option (List ℕ)
  pub header : Begins made limit stream rest p host begun
  pub frames : ReceivesAll marks rest (Some []) p.base p.entries.items begun next
