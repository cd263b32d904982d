-- Looks at guest memory and stores into it, while a driver may write it at any moment, also while a call runs: the steps
-- that a call takes, and what it makes of what they give.
use Rattle.std.specs.Prelude.{◌≡◌, ◌⊎◌, ℕ, ◌*◌, true, Bool, if◌then◌else◌, List, [], ◌∷◌, length, Result, Ok, Err, MatchResult}
use Rattle.vm_memory_base.specs.declared.iotlb.Permissions.{Permissions}
use Rattle.vm_memory_base.specs.declared.iotlb.Permissions.TheVariants.{Read, Write}
use Rattle.vm_memory_guest.specs.Host.{Holds, Host, shape_of}
use Rattle.vm_memory_guest.specs.Memory.{Memory}
use Rattle.vm_memory_guest.specs.Walk.{NeedsPieces}
use Rattle.vm_memory_guest.specs.Window.{Window, window_names}
use Rattle.virtio_queue.specs.Fields.{Answers, MayWant, StoresWord, WritesBytes, descriptor_at, is_word, room_at, stored_at, window_at, word_at}
use Rattle.virtio_queue.specs.Rings.{and_then}
use Rattle.virtio_queue.specs.declared.descriptor.Descriptor.{Descriptor}
use Rattle.virtio_queue.specs.declared.error.QueueError.{QueueError}
use Rattle.virtio_queue.specs.declared.error.QueueError.TheVariants as errors

-- a step. A look at the number of 16 bits at an offset from an address, or at the descriptor of an index in a table. A
-- look-up of where n bytes go at such an offset, or a load or a store of a number. At a place that was looked up: these
-- bytes are written, a number is stored, or the one that lies there is loaded
pub data Step : Type 0 where
  word : ℕ → ℕ → Step
  row : ℕ → ℕ → Step
  room : ℕ → ℕ → ℕ → Step
  spot : Permissions → ℕ → ℕ → Step
  writes : ℕ → ℕ → List ℕ → Step
  stores : ℕ → ℕ → ℕ → Step
  loads : ℕ → ℕ → Step

-- what it gives: what was found, or the place of a look-up
abbrev pub Given : Step → Type 0
Given (word base offset) = ℕ
Given (row table i) = Descriptor
Given (room base offset n) = ℕ
Given (spot access base offset) = Window
Given (writes base offset bytes) = Unit {0}
Given (stores base offset value) = Unit {0}
Given (loads base offset) = ℕ

-- a result; or a step, and what is made of what it gives; or something to keep, for which an allocation may fail, and
-- what comes then. What refuses a step is the result
pub data Tree (T : Type 0) : Type 0 where
  gives : Result T QueueError → Tree T
  takes : (s : Step) → (Given s → Tree T) → Tree T
  keeps : Tree T → Tree T

-- first this, and then what is made of its result, if it is one
abbrev pub if_ok : {S T : Type 0} → (S → Tree T) → Result S QueueError → Tree T
if_ok f (Ok x) = f x
if_ok f (Err e) = gives (Err e)

abbrev pub and_takes : {S T : Type 0} → Tree S → (S → Tree T) → Tree T
and_takes (gives r) f = if_ok f r
and_takes (takes s k) f = takes s (λ v. and_takes (k v) f)
and_takes (keeps t) f = keeps (and_takes t f)

-- what a queue does if it is ready
abbrev pub if_ready : {T : Type 0} → Bool → Tree T → Tree T
if_ready ready t = if ready then t else gives (Err errors.QueueNotReady)

-- a call on memory whose steps are these returned this: it took the steps that the tree has, in this order and each once,
-- and its result is what is made of what they gave. Or an allocation failed, after a part of them
abbrev pub Follows : {M T : Type 0} → (M → (s : Step) → Result (Given s) QueueError → M → Type 0) → Tree T → M
    → Result T QueueError → M → Type 0
Follows steps (gives r) old result new = (result ≡ r) × (new ≡ old)
Follows {M} steps (takes s k) old result new = (given : Result (Given s) QueueError) × (mid : M)
    × steps old s given mid
    × MatchResult given (λ v. Follows steps (k v) mid result new) (λ e. (result ≡ Err e) × (new ≡ mid))
Follows steps (keeps t) old result new =
    Follows steps t old result new ⊎ ((result ≡ Err errors.Memory) × (new ≡ old))

-- ---- what several calls do

-- the index of a ring
abbrev pub index_of : Bool → ℕ → Tree ℕ
index_of ready ring = if_ready ready (takes (word ring 2) (λ idx. gives (Ok idx)))

-- bytes are written, and last a number that gives them to the driver is stored. Both places are looked up first
abbrev pub handing : ℕ → ℕ → List ℕ → ℕ → ℕ → Tree (Unit {0})
handing ring offset bytes last value = takes (room ring offset (length bytes)) (λ _. takes (spot Write ring last) (λ _.
    takes (writes ring offset bytes) (λ _. takes (stores ring last value) (λ _. gives (Ok tt)))))

-- a number is stored at a place that is looked up first
abbrev pub setting : ℕ → ℕ → ℕ → Tree (Unit {0})
setting base offset value = takes (spot Write base offset) (λ _. takes (stores base offset value) (λ _. gives (Ok tt)))

-- ---- what steps gave

-- a step, and what it gave or why nothing
pub data Seen : Type 0 where
  saw : (s : Step) → Result (Given s) QueueError → Seen

-- steps of which no more is known than what they give, one after another: the next one gives the first of these
abbrev pub Saw : List Seen → (s : Step) → Result (Given s) QueueError → List Seen → Type 0
Saw seen s given rest = seen ≡ saw s given ∷ rest

-- ---- memory that nobody else writes

-- what looks and look-ups give, which change nothing
abbrev pub Finds : {B : Type 0} → Memory → Host B → (s : Step) → Result (Given s) QueueError → Type 0
Finds m host (word base offset) given = Answers (MayWant m host base offset 2 Read) (word_at m host base offset) given
Finds m host (row table i) given = Answers (MayWant m host table (16 * i) 16 Read) (descriptor_at m host table i) given
Finds m host (room base offset n) given =
    Answers (MayWant m host base offset n Write) (room_at m host base offset n) given
Finds m host (spot access base offset) given =
    Answers (MayWant m host base offset 2 access) (window_at m host base offset access) given
Finds m host s given = ⊥

-- what looks and look-ups find, and what is made of that
module _ {B : Type 0} (m : Memory) (host : Host B) where
  abbrev pub found_in : (s : Step) → Result (Given s) QueueError
  found_in (word base offset) = word_at m host base offset
  found_in (row table i) = descriptor_at m host table i
  found_in (room base offset n) = room_at m host base offset n
  found_in (spot access base offset) = window_at m host base offset access
  found_in s = Err errors.Memory

  abbrev pub answer : {T : Type 0} → Tree T → Result T QueueError
  answer (gives r) = r
  answer (takes s k) = and_then (found_in s) (λ v. answer (k v))
  answer (keeps t) = answer t

-- what other steps do: what was stored lies there
abbrev pub Takes : {B : Type 0} → (B → ℕ → ℕ → B → Type 0) → Memory → Host B → (s : Step)
    → Result (Given s) QueueError → Host B → Type 0
Takes marks m old (writes base offset bytes) given new =
    (a : ℕ) × (room_at m old base offset (length bytes) ≡ Ok a) × MatchResult given
    (λ _. WritesBytes marks m a bytes old new × (shape_of new ≡ shape_of old))
    (λ e. (e ≡ errors.Memory) × NeedsPieces m old.tables a (length bytes) Write × (new ≡ old))
Takes marks m old (stores base offset value) given new = (given ≡ Ok tt)
    × StoresWord marks m base offset value old (Ok tt) new × (stored_at m new base offset ≡ Ok value)
    × (shape_of new ≡ shape_of old)
Takes marks m old (loads base offset) given new =
    (v : ℕ) × (given ≡ Ok v) × (word_at m old base offset ≡ Ok v) × (new ≡ old)
Takes marks m old s given new = Finds m old s given × (new ≡ old)

-- a place that was looked up is still where such an access goes
abbrev pub IsAt : {B : Type 0} → Memory → Host B → (s : Step) → Given s → Type 0
IsAt m host (room base offset n) a = room_at m host base offset n ≡ Ok a
IsAt m host (spot access base offset) w = (window_at m host base offset access ≡ Ok w)
    × Holds (shape_of host) (window_names w) × (is_word w ≡ true)
IsAt m host s x = Unit {0}

-- a call may fail to allocate: its looks and look-ups can come to that, whatever bitmaps there are
abbrev pub bare : {B : Type 0} → Host B → Host (Unit {0})
bare host = record { blocks = host.blocks; bitmaps = []; spaces = []; tables = host.tables }

abbrev pub MayWantAny : {B T : Type 0} → Memory → Host B → Tree T → Type 0
MayWantAny m host t = let nothing : Unit {0} = tt in
    Follows (λ s p given rest. Finds m (bare host) p given × (rest ≡ s)) t nothing (Err errors.Memory) nothing
