-- Sources and sinks of bytes: what they do at a try, if that is known, and retries after interruptions.
use Rattle.std.specs.Prelude.{◌≡◌, ◌⊎◌, ℕ, zero, suc, ◌+◌, ◌-◌, ◌<◌, ◌≤◌, Bool, true, false, ◌||◌, nat_lt, if◌then◌else◌, min, List, [], ◌∷◌, ◌++◌, length, take, drop, Option, Some, None, IfSome, option_map, Result, Ok, Err, IfOk, MatchBool}
use Rattle.std.specs.declared.io.ErrorKind.{ErrorKind}
use Rattle.std.specs.declared.io.ErrorKind.TheVariants.{Interrupted, WriteZero, UnexpectedEof}
use Rattle.vm_memory_base.specs.declared.io.ReadExactFault.{ReadExactFault}
use Rattle.vm_memory_base.specs.declared.io.VolatileMemoryError.{VolatileMemoryError}
use Rattle.vm_memory_base.specs.declared.io.VolatileMemoryError.TheVariants.{OutOfBounds, Overflow, TooBig, Misaligned, IOError, PartialBuffer, Memory}

-- what a try returns: how many bytes it moved, or why it failed
abbrev pub Answer : Type 0
Answer = Result ℕ VolatileMemoryError

-- what a source does next: it gives these bytes, at as many tries as it takes, or it fails at one try, after
-- a scribble over the beginning of what it was lent
pub data Next : Type 0 where
  Gives : (bytes : List ℕ) → Next
  Fails : (scribble : List ℕ) (error : VolatileMemoryError) → Next

-- one try of a source: the bytes that came to the beginning of what it was lent, its result, and what it does
-- next
pub record Tried : Type 0 where
  pub bytes : List ℕ
  pub answer : Answer
  pub left : List Next

-- bytes that are still to be given, if there are any
abbrev pub giving : List ℕ → List Next → List Next
giving [] rest = rest
giving (b ∷ bs) rest = Gives (b ∷ bs) ∷ rest

-- a try of n bytes: one of none asks the source for nothing, and a source with nothing left gives none
abbrev pub tried_next : ℕ → Next → List Next → Tried
tried_next n (Gives bs) rest = record {
  bytes = take n bs;
  answer = Ok (min n (length bs));
  left = giving (drop n bs) rest;
}
tried_next n (Fails bs e) rest = record { bytes = take n bs; answer = Err e; left = rest }

abbrev pub tried : ℕ → List Next → Tried
tried zero source = record { bytes = []; answer = Ok 0; left = source }
tried (suc n) [] = record { bytes = []; answer = Ok 0; left = [] }
tried (suc n) (next ∷ rest) = tried_next (suc n) next rest

-- a buffer with these bytes at its beginning
abbrev pub over_front : List ℕ → List ℕ → List ℕ
over_front bytes buffer = bytes ++ drop (length bytes) buffer

abbrev pub is_interruption : ErrorKind → Bool
is_interruption Interrupted = true
is_interruption kind = false

-- whether a try was interrupted
abbrev pub is_interrupted_by : VolatileMemoryError → Bool
is_interrupted_by (IOError kind) = is_interruption kind
is_interrupted_by (OutOfBounds addr) = false
is_interrupted_by (Overflow base offset) = false
is_interrupted_by (TooBig nelements size) = false
is_interrupted_by (Misaligned addr alignment) = false
is_interrupted_by (PartialBuffer expected completed) = false
is_interrupted_by Memory = false

abbrev pub is_interrupted : {T : Type 0} → Result T VolatileMemoryError → Bool
is_interrupted (Ok count) = false
is_interrupted (Err e) = is_interrupted_by e

abbrev pub count_of : Answer → ℕ
count_of (Ok count) = count
count_of (Err e) = 0

-- ---- turns of any kind: of a source, of a sink, or of a window that is lent

-- what was returned, and the state after it
pub record Made (E X : Type 0) : Type 0 where
  pub answer : Result ℕ E
  pub left : X

-- how many times in a row a try is made again after an interruption
abbrev pub retries : ℕ
retries = 64

-- a try, and again after an interruption, at most N times in a row
unfoldable pub again_upto : {X : Type 0} → (X → Made VolatileMemoryError X) → ℕ → X → Made VolatileMemoryError X
again_upto try zero x = try x
again_upto try (suc more) x = let t = try x in if is_interrupted t.answer then again_upto try more t.left else t

abbrev pub again : {X : Type 0} → (X → Made VolatileMemoryError X) → X → Made VolatileMemoryError X
again try = again_upto try retries

-- why no more bytes are moved: all are, the last turn moved none, or it failed
pub data Stop : Type 0 where
  Whole : Stop
  Dry : Stop
  Failed : (error : VolatileMemoryError) → Stop

-- what came of turns: how many bytes they moved, why not more, and the state after them
pub record Moved (X : Type 0) : Type 0 where
  pub count : ℕ
  pub stop : Stop
  pub left : X

-- how many bytes that is, or the error
abbrev pub counted_as : ℕ → Stop → Answer
counted_as count Whole = Ok count
counted_as count Dry = Ok count
counted_as count (Failed e) = Err e

-- what follows a turn, after the bytes that were moved before it
abbrev pub after_turn : {X : Type 0} → ℕ → X → Answer → (ℕ → Moved X) → Moved X
after_turn done x (Ok zero) more = record { count = done; stop = Dry; left = x }
after_turn done x (Ok (suc count)) more = more (done + suc count)
after_turn done x (Err e) more = record { count = done; stop = Failed e; left = x }

-- the rest of n bytes is moved by turns, each from where the one before ended, until all are moved or a turn
-- moves none
unfoldable pub rest_of : {X : Type 0} → (ℕ → X → Made VolatileMemoryError X) → (n turns done : ℕ) → X → Moved X
rest_of turn n zero done x = record { count = done; stop = Whole; left = x }
rest_of turn n (suc turns) done x =
    let t = turn done x in
    if nat_lt done n then after_turn done t.left t.answer (λ now. rest_of turn n turns now t.left)
    else record { count = done; stop = Whole; left = x }

abbrev pub whole_of : {X : Type 0} → (ℕ → X → Made VolatileMemoryError X) → ℕ → X → Moved X
whole_of turn n x = rest_of turn n n 0 x

-- the same of a try, and of turns, of which a relation says what may come of them
module _ {X : Type 0} (Try : X → Answer → X → Type 0) where
  pub data AgainUpto : ℕ → X → Answer → X → Type 0 where
    Last : {x y : X} {answer : Answer} → Try x answer y → AgainUpto 0 x answer y
    Done : {x y : X} {more : ℕ} {answer : Answer} → Try x answer y
        → is_interrupted answer ≡ false → AgainUpto more x answer y
    Retry : {x y z : X} {more : ℕ} {tried answer : Answer} → Try x tried y
        → is_interrupted tried ≡ true → AgainUpto more y answer z → AgainUpto (suc more) x answer z

  abbrev pub Again : X → Answer → X → Type 0
  Again = AgainUpto retries

module _ {X : Type 0} (Turn : ℕ → X → Answer → X → Type 0) (n : ℕ) where
  pub data RestOf : ℕ → X → ℕ → Stop → X → Type 0 where
    AllMoved : {done : ℕ} {x : X} → n ≤ done → RestOf done x done Whole x
    NoneMoved : {done : ℕ} {x y : X} → done < n → Turn done x (Ok 0) y → RestOf done x done Dry y
    TurnFailed : {done : ℕ} {x y : X} {error : VolatileMemoryError} → done < n → Turn done x (Err error) y
        → RestOf done x done (Failed error) y
    SomeMoved : {done count total : ℕ} {x y z : X} {stop : Stop} → done < n → Turn done x (Ok count) y
        → 0 < count → RestOf (done + count) y total stop z → RestOf done x total stop z

  abbrev pub WholeOf : X → ℕ → Stop → X → Type 0
  WholeOf = RestOf 0

-- ---- sources

-- if what a source does next is known: one try of it, over this buffer
abbrev pub ReadsAs : Option (List Next) → List ℕ → Answer → List ℕ
    → Option (List Next) → Type 0
ReadsAs source old answer new after = IfSome source (λ next.
    let t = tried (length old) next in
    (answer ≡ t.answer) × (new ≡ over_front t.bytes old) × (after ≡ Some t.left))

-- a source that is lent a buffer, and whether a try was interrupted so far
module _ {S : Type 0} (source : S → Option (List Next)) (reads : S → List ℕ → Answer → List ℕ → S → Type 0) where
  -- one try
  abbrev pub Reads : S × List ℕ × Bool → Answer → S × List ℕ × Bool → Type 0
  Reads old answer new = ReadsAs (source old.0) old.1 answer new.1 (source new.0)
      × IfOk answer (λ count. count ≤ length old.1) × reads old.0 old.1 answer new.1 new.0
      × (new.2 ≡ (old.2 || is_interrupted answer))

  -- tries of what follows the bytes that are done
  abbrev pub ReadsAfter : ℕ → S × List ℕ × Bool → Answer → S × List ℕ × Bool → Type 0
  ReadsAfter done old answer new = (part : List ℕ)
      × Again Reads (old.0, drop done old.1, old.2) answer (new.0, part, new.2)
      × (new.1 ≡ take done old.1 ++ part)

-- a source that is lent a buffer: what that is, what the source does next, and whether a try was interrupted
pub record Lending : Type 0 where
  pub buffer : List ℕ
  pub next : List Next
  pub interrupted : Bool

abbrev pub lending : List ℕ → List Next → Lending
lending buffer next = record { buffer = buffer; next = next; interrupted = false }

-- one try
abbrev pub lent_once : Lending → Made VolatileMemoryError Lending
lent_once l =
    let t = tried (length l.buffer) l.next in
    record {
      answer = t.answer;
      left = record {
        buffer = over_front t.bytes l.buffer;
        next = t.left;
        interrupted = l.interrupted || is_interrupted t.answer;
      };
    }

-- tries of what is left of the buffer
abbrev pub lent_after : ℕ → Lending → Made VolatileMemoryError Lending
lent_after done l =
    let t = again lent_once (record l { buffer = drop done l.buffer }) in
    record { answer = t.answer; left = record t.left { buffer = take done l.buffer ++ t.left.buffer } }

-- a buffer that a source was to fill: what it is then, the result, and what the source does next
pub record Filled : Type 0 where
  pub buffer : List ℕ
  pub answer : Result (Unit {0}) ReadExactFault
  pub left : List Next

-- how much of n bytes may have changed, and why not all are filled
abbrev pub filled_as : ℕ → Bool → ℕ → Stop → Result (Unit {0}) ReadExactFault
filled_as n interrupted count Whole = Ok tt
filled_as n interrupted count Dry =
    Err (record { touched = if interrupted then n else count; error = IOError UnexpectedEof })
filled_as n interrupted count (Failed e) = Err (record { touched = n; error = e })

-- whether a source that knows how many bytes it has left has fewer than n
abbrev pub is_short : Option ℕ → ℕ → Bool
is_short None n = false
is_short (Some left) n = nat_lt left n

-- a whole buffer is filled by tries. A source that knows that it has too few bytes left refuses at once
abbrev pub filled_whole : Option ℕ → List ℕ → List Next → Filled
filled_whole known buffer source =
    let n = length buffer in
    let m = whole_of lent_after n (lending buffer source) in
    if is_short known n then record {
      buffer = buffer;
      answer = Err (record { touched = 0; error = IOError UnexpectedEof });
      left = source;
    }
    else record {
      buffer = m.left.buffer;
      answer = filled_as n m.left.interrupted m.count m.stop;
      left = m.left.next;
    }

-- a whole buffer was to be filled: by tries of what is left of it, until it is full or the source gives none. Or
-- a source that knows that it has too few bytes left refused at once
abbrev pub FillsBy : {S : Type 0} → (S → Option (List Next)) → (S → List ℕ → Answer → List ℕ → S → Type 0)
    → (S → Option ℕ) → S → List ℕ → Result (Unit {0}) ReadExactFault → List ℕ → S → Type 0
FillsBy source reads known old buffer answer new after =
    let n = length buffer in
    MatchBool (is_short (known old) n)
    ((answer ≡ Err (record { touched = 0; error = IOError UnexpectedEof })) × (new ≡ buffer) × (after ≡ old))
    ((count : ℕ) × (stop : Stop) × (interrupted : Bool)
    × WholeOf (ReadsAfter source reads) n (old, buffer, false) count stop (after, new, interrupted)
    × (answer ≡ filled_as n interrupted count stop))

-- if what a source does next is known: it fills a buffer
abbrev pub FillsAs : Option ℕ → Option (List Next) → List ℕ → Result (Unit {0}) ReadExactFault → List ℕ
    → Option (List Next) → Type 0
FillsAs known source old answer new after = IfSome source (λ next.
    let f = filled_whole known old next in
    (answer ≡ f.answer) × (new ≡ f.buffer) × (after ≡ Some f.left))

-- ---- sinks

-- what a sink does next: it takes at most N bytes at one try, or it fails at one
pub data Taking : Type 0 where
  Takes : (count : ℕ) → Taking
  Refuses : (error : VolatileMemoryError) → Taking

-- a sink: what it does next, and how many bytes it has room for, if that is bounded. After the last it takes
-- what it has room for
pub record Sink : Type 0 where
  pub next : List Taking
  pub room : Option ℕ

abbrev pub room_for : Option ℕ → ℕ → ℕ
room_for None n = n
room_for (Some room) n = min n room

abbrev pub taking : ℕ → List Taking → Option ℕ → Made VolatileMemoryError Sink
taking count next room = record {
  answer = Ok count;
  left = record { next = next; room = option_map (λ r. r - count) room };
}

-- a sink is offered n bytes
abbrev pub offered_next : ℕ → List Taking → Option ℕ → Made VolatileMemoryError Sink
offered_next n [] room = taking (room_for room n) [] room
offered_next n (Takes count ∷ rest) room = taking (min count (room_for room n)) rest room
offered_next n (Refuses e ∷ rest) room =
    record { answer = Err e; left = record { next = rest; room = room } }

abbrev pub offered : ℕ → Sink → Made VolatileMemoryError Sink
offered n sink = offered_next n sink.next sink.room

-- a sink whose next steps are known was offered n bytes. Or an allocation failed, if it may and n is not 0, and
-- took none
abbrev pub TakesAs : Type 0 → Option Sink → ℕ → Answer → Option Sink → Type 0
TakesAs may_want sink n answer after = IfSome sink (λ before.
    let o = offered n before in
    ((answer ≡ Err Memory) × (0 < n) × may_want × (after ≡ Some before))
    ⊎ ((answer ≡ o.answer) × (after ≡ Some o.left)))

-- a sink that keeps what it takes has taken the first bytes of what it was offered
abbrev pub Keeps : Option (List ℕ) → List ℕ → ℕ → Option (List ℕ) → Type 0
Keeps None bytes count after = Unit {0}
Keeps (Some before) bytes count after = after ≡ Some (before ++ take count bytes)

-- one write of a sink: of the bytes that it was offered, its result, and the sink before and after it
module _ {S : Type 0} (sink : S → Option Sink) (taken : S → Option (List ℕ)) (may_want : S → Type 0)
    (writes : S → List ℕ → Answer → S → Type 0) where
  abbrev pub TakesOnce : List ℕ → S → Answer → S → Type 0
  TakesOnce bytes old answer new = TakesAs (may_want old) (sink old) (length bytes) answer (sink new)
      × Keeps (taken old) bytes (count_of answer) (taken new) × (may_want new → may_want old)
      × writes old bytes answer new

-- a sink whose next steps are known was offered n bytes by tries. Or an allocation failed, if it may
abbrev pub OffersAs : Type 0 → Option Sink → ℕ → Answer → Option Sink → Type 0
OffersAs may_want sink n answer after = IfSome sink (λ before.
    let o = again (offered n) before in
    ((answer ≡ Err Memory) × (0 < n) × may_want) ⊎ ((answer ≡ o.answer) × (after ≡ Some o.left)))

-- n bytes are sent to a sink by tries, each of what is left of them
abbrev pub sent : ℕ → Sink → Moved Sink
sent n = whole_of (λ done. again (offered (n - done))) n

-- what is returned if the sink took all, took none of what was left, or failed
abbrev pub sent_as : Stop → Result (Unit {0}) VolatileMemoryError
sent_as Whole = Ok tt
sent_as Dry = Err (IOError WriteZero)
sent_as (Failed e) = Err e

-- a sink whose next steps are known was given n bytes, and took N of them. Or an allocation failed, if it may
abbrev pub SendsAs : Type 0 → Option Sink → ℕ → ℕ → Result (Unit {0}) VolatileMemoryError → Option Sink
    → Type 0
SendsAs may_want sink n count answer after = IfSome sink (λ before.
    let s = sent n before in
    ((answer ≡ Err Memory) × (0 < n) × may_want)
    ⊎ ((answer ≡ sent_as s.stop) × (count ≡ s.count) × (after ≡ Some s.left)))

-- bytes were sent to a sink by tries of what is left of them, until all are taken or the sink takes none
abbrev pub SendsBy : {S : Type 0} → (List ℕ → S → Answer → S → Type 0) → S → List ℕ → ℕ
    → Result (Unit {0}) VolatileMemoryError → S → Type 0
SendsBy Try old bytes count answer after = (stop : Stop)
    × WholeOf (λ done. Again (Try (drop done bytes))) (length bytes) old count stop after
    × (answer ≡ sent_as stop)
