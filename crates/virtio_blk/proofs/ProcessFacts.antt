-- Chains that are popped, served and returned, one after the other.
use Rattle.std.proofs.Common.{◌≡◌, ◌∙◌, inl, inr, ℕ, ◌+◌, ◌<◌, ◌≤◌, ◌==◌, Bool, true, false, not, List, Option, Some, None, Result, Ok, Err, MatchBool, MatchResult, refl, sym, ap, subst, arith, add-one}
use Rattle.std.proofs.lemmas.Bool.{eq-eqb}
use Rattle.std.specs.Option.{option_or}
use Rattle.vm_memory_guest.specs.Host.{Host, shape_of}
use Rattle.vm_memory_guest.specs.Memory.{Memory}
use Rattle.vm_memory_device.specs.declared.chain.Segment.{Segment}
use Rattle.virtio_queue.specs.Any.{AddsUsed, Enables, HasNone, MayWantChain, Waits, after_asked, after_pop, after_used, past, popped}
use Rattle.virtio_queue.specs.Available.{avail_idx}
use Rattle.virtio_queue.specs.Fields.{Answers}
use Rattle.virtio_queue.specs.Notification as split
use Rattle.virtio_queue.specs.Notification.{has_more}
use Rattle.virtio_queue.specs.Packed.{PackedVirtqueue}
use Rattle.virtio_queue.specs.PackedEvents as packed
use Rattle.virtio_queue.specs.PackedRing.{has_next}
use Rattle.virtio_queue.specs.Rings.{and_then}
use Rattle.virtio_queue.specs.State.{Virtqueue}
use Rattle.virtio_queue.specs.declared.any.AnyQueue.{AnyQueue}
use Rattle.virtio_queue.specs.declared.any.AnyQueue.TheVariants.{Split, Packed}
use Rattle.virtio_queue.specs.declared.error.QueueError.{QueueError}
use Rattle.virtio_queue.specs.declared.error.QueueError.TheVariants.{QueueNotReady}
use Rattle.virtio_queue.specs.declared.packed.state.PackedBuffer.{PackedBuffer}
use Rattle.virtio_queue.specs.declared.state.QueueState.{QueueState}
use Rattle.virtio_blk.specs.Config.{Device}
use Rattle.virtio_blk.specs.Disk.{Call}
use Rattle.virtio_blk.specs.Process.{Ends, Idles, NextTurn, Runs, State, Stays, Tries, Turn, Turns, error_in, or_value}
use Rattle.virtio_blk.specs.Served.{Serves}

pub option_or-none : {T : Type 0} (o : Option T) → option_or o None ≡ o
option_or-none None = refl
option_or-none (Some x) = refl

-- asking whether the driver needs a notification keeps what a device waits for
pub asked_waits : {B : Type 0} (m : Memory) (host : Host B) (q : AnyQueue) (answer : Result Bool QueueError)
    → Waits m host q → Waits m host (after_asked q answer)
asked_waits m host (Split q) (Ok needs) waits = waits
asked_waits m host (Split q) (Err e) waits = waits
asked_waits m host (Packed q) (Ok needs) waits = waits
asked_waits m host (Packed q) (Err e) waits = waits

-- a value that was answered is the one that is expected
pub answered_is : {T : Type 0} (may_want : Type 0) (expected answer : Result T QueueError) (x : T)
    → Answers may_want expected answer → answer ≡ Ok x → expected ≡ Ok x
answered_is may_want expected answer x (inl e) is = sym e ∙ is
answered_is may_want expected answer x (inr (e, wants)) is = absurd (cc)

module _ {B D : Type 0} (marks : B → ℕ → ℕ → B → Type 0) (bytes : D → Option (List ℕ)) (sectors : D → ℕ)
    (calls : D → Call → Bool → D → Type 0) (m : Memory) where
  -- a chain that was popped and served, and returned or not
  pub turned : (device : Device D) (queue : AnyQueue) (host : Host B)
      (pop : Result (Option (PackedBuffer × List Segment)) QueueError) (buffer : PackedBuffer) (chain : List Segment)
      → Answers (MayWantChain m host queue) (popped m host queue) pop → pop ≡ Ok (Some (buffer, chain))
      → (moved : AnyQueue) → moved ≡ after_pop queue pop
      → (len : ℕ) (after : Device D) (mid : Host B)
      → Serves marks bytes sectors calls m chain device host len after mid
      → (answer : Result (Unit {0}) QueueError) (back : AnyQueue) (new : Host B)
      → AddsUsed marks m moved buffer len mid answer new → back ≡ after_used moved buffer answer
      → Turn marks bytes sectors calls m (record { device = device; queue = queue; host = host }) answer
      (record { device = after; queue = back; host = new })
  turned device queue host pop buffer chain answers is moved place len after mid served answer back new added kept =
      let passed : moved ≡ past queue buffer =
      place ∙ ap (λ (p : Result (Option (PackedBuffer × List Segment)) QueueError). after_pop queue p) is in
      record {
        buffer = buffer;
        chain = chain;
        len = len;
        mid = mid;
        popped = answered_is (MayWantChain m host queue) (popped m host queue) pop (Some (buffer, chain)) answers is;
        served = served;
        returned = subst (λ (q : AnyQueue). AddsUsed marks m q buffer len mid answer new) passed added;
        queue = kept ∙ ap (λ (q : AnyQueue). after_used q buffer answer) passed;
      }

  -- ---- tries

  -- there was no chain, and the driver was asked to notify the device
  pub idled : (old now : State B D) (answer : Result Bool QueueError) (host : Host B)
      → Stays marks bytes sectors calls m old (Ok false) now
      → Enables marks m now.queue now.host answer host
      → Idles marks bytes sectors calls m old answer (record now { host = host })
  idled old now answer host (same, (more, none)) asked = record {
    none = none;
    asked = subst (λ (s : State B D). Enables marks m s.queue s.host answer host) same asked;
    left = ap (λ (s : State B D). record s { host = host }) same;
  }

  -- where the driver had published more, there is a chain, or the queue refuses
  asked_split : (v : Virtqueue) (old new : Host B) → avail_idx m new v.state ≡ Ok v.state.next_avail
      → split.EnablesIfReady marks m v.state old (Ok true) new → ⊥
  asked_split v old new idx asked = go v.state.ready asked
    where
      q : QueueState
      q = v.state

      none : has_more m new q ≡ Ok false
      none = ap (λ (r : Result ℕ QueueError). and_then r (λ i. Ok (not (i == q.next_avail)))) idx
          ∙ ap (λ b. Ok (not b)) (eq-eqb q.next_avail q.next_avail refl)

      go : (b : Bool) → MatchBool b (split.Enables marks m q old (Ok true) new)
          ((◌≡◌ {A = Result Bool QueueError} (Ok true) (Err QueueNotReady)) × (new ≡ old)) → ⊥
      go true (stores, more) = let bad : Ok true ≡ Ok false = sym more ∙ none in absurd (cc)
      go false (refused, same) = absurd (cc)

  asked_packed : (v : PackedVirtqueue) (old new : Host B) → has_next m new v.state ≡ Ok false
      → packed.EnablesIfReady marks m v.state old (Ok true) new → ⊥
  asked_packed v old new none asked = go v.state.ready asked
    where
      go : (b : Bool) → MatchBool b (packed.Enables marks m v.state old (Ok true) new)
          ((◌≡◌ {A = Result Bool QueueError} (Ok true) (Err QueueNotReady)) × (new ≡ old)) → ⊥
      go true (mid, offset, flags, more) = let bad : Ok true ≡ Ok false = sym more ∙ none in absurd (cc)
      go false (refused, same) = absurd (cc)

  asked_none : (q : AnyQueue) (old new : Host B) → HasNone m new q → Enables marks m q old (Ok true) new → ⊥
  asked_none (Split q) old new none asked = asked_split q old new none asked
  asked_none (Packed q) old new none asked = asked_packed q old new none asked

  pub has_chain : (old start : State B D) → Idles marks bytes sectors calls m old (Ok true) start
      → HasNone m start.host start.queue → ⊥
  has_chain old start idles all =
      asked_none old.queue old.host start.host
      (subst (λ (q : AnyQueue). HasNone m start.host q) (ap (λ (s : State B D). s.queue) idles.left) all) idles.asked

  -- one try that does not ask the driver
  pub tried : (old next : State B D) (e : QueueError) → NextTurn marks bytes sectors calls m old (Err e) next
      → Tries marks bytes sectors calls m old (Err e) next
  tried old next e turn = inr (old, inl refl, turn)

  -- one that does, and finds more
  pub tried_again : (old start next : State B D) → Idles marks bytes sectors calls m old (Ok true) start
      → (r : Result Bool QueueError) → NextTurn marks bytes sectors calls m start r next
      → (r ≡ Ok false → HasNone m next.host next.queue)
      → Tries marks bytes sectors calls m old r next
  tried_again old start next idles (Ok true) turn none = (start, inr idles, turn)
  tried_again old start next idles (Err e) turn none = inr (start, inr idles, turn)
  tried_again old start next idles (Ok false) turn none =
      absurd (has_chain old start idles
      (subst (λ (s : State B D). HasNone m s.host s.queue) turn.0 (none refl)))

  -- ---- all tries

  -- so many chains were served
  pub record ServedSoFar (most count : ℕ) (old now : State B D) : Type 0 where
    pub turns : Turns marks bytes sectors calls m count old now
    pub within : count ≤ most
    pub shape : shape_of now.host ≡ shape_of old.host

  pub served_none : (most : ℕ) (old : State B D) → ServedSoFar most 0 old old
  served_none most old = record { turns = refl; within = omega arith; shape = refl }

  pub served_more : (most count : ℕ) (old now next : State B D) → ServedSoFar most count old now → count < most
      → Tries marks bytes sectors calls m now (Ok true) next → shape_of next.host ≡ shape_of now.host
      → ServedSoFar most (count + 1) old next
  served_more most count old now next h short (start, before, turn) shape = record {
    turns = subst (λ n. Turns marks bytes sectors calls m n old next) (sym (add-one count))
        (now, start, h.turns, before, turn);
    within = omega arith;
    shape = shape ∙ h.shape;
  }

  -- it ended by itself
  pub ended_early : (most count : ℕ) (old now next : State B D) (answer : Result Bool QueueError)
      → ServedSoFar most count old now → count < most → MatchResult answer (λ more. more ≡ false) (λ e. Unit {0})
      → Tries marks bytes sectors calls m now answer next
      → Runs marks bytes sectors calls m most old count answer next
  ended_early most count old now next answer h short ended tries = record {
    last = now;
    turns = h.turns;
    ends = inl (short, ends answer ended tries);
  }
    where
      ends : (r : Result Bool QueueError) → MatchResult r (λ more. more ≡ false) (λ e. Unit {0})
          → Tries marks bytes sectors calls m now r next → Ends marks bytes sectors calls m now r next
      ends (Ok true) ended tries = absurd (cc)
      ends (Ok false) ended tries = tries
      ends (Err e) ended tries = tries

  -- or its bound ended it
  pub ended_full : (most count : ℕ) (old now : State B D) → ServedSoFar most count old now → most ≤ count
      → Runs marks bytes sectors calls m most old count (Ok true) now
  ended_full most count old now h full = record {
    last = now;
    turns = h.turns;
    ends = inr (omega (arith, h.within, full), refl, refl);
  }

-- a call that is done had nothing left
pub done_answer : (answer needs : Result Bool QueueError) (more : Bool) (failed : Option QueueError)
    → more ≡ or_value false answer → failed ≡ option_or (error_in answer) (error_in needs) → more ≡ false
    → failed ≡ None → answer ≡ Ok false
done_answer (Ok b) needs more failed is why ended none = ap Ok (sym is ∙ ended)
done_answer (Err e) needs more failed is why ended none = absurd (cc)
