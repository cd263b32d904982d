-- Chains that are read and written from an offset on, slots that are cleared, and chains that are returned.
use Rattle.std.proofs.Common.{◌≡◌, ◌∙◌, ◌<◌, ◌+◌, ℕ, zero, suc, true, is_some, List, ◌∷◌, [], ◌++◌, length, drop, min, replicate, slice_set, Option, Some, None, MatchOption, Result, Err, refl, ap, arith, add-one}
use Rattle.std.proofs.lemmas.Bool.{false≢true}
use Rattle.std.proofs.lemmas.List.{drop_min}
use Rattle.vm_memory_device.specs.declared.chain.Segment.{Segment}
use Rattle.virtio_queue.specs.Any.{after_used}
use Rattle.virtio_queue.specs.declared.any.AnyQueue.{AnyQueue}
use Rattle.virtio_queue.specs.declared.any.AnyQueue.TheVariants.{Split, Packed}
use Rattle.virtio_queue.specs.declared.error.QueueError.{QueueError}
use Rattle.virtio_queue.specs.declared.packed.state.PackedBuffer.{PackedBuffer}
use Rattle.vm_session.specs.MemorySteps.{MemoryStep, Returned, adds_used}
use Rattle.vm_session.specs.QueueCodes.{answer_of_done, not_in_flight}
use Rattle.vm_session.specs.Queues.{Returns, after_returned}
use Rattle.vm_session.specs.SessionState.{DeviceQueue, buffer_of, chain_of}
use Rattle.vm_session.specs.declared.call.Answer.{Answer}

-- what is left of a text of which so many were skipped
pub skipped : {X : Type 0} → (offset n : ℕ) (all es left : List X) → es ≡ all → n ≡ min offset (length es)
    → left ≡ drop n es → left ≡ drop offset all
skipped offset n all es left is count place =
    place ∙ (ap (λ (k : ℕ). drop k es) count ∙ (drop_min offset es ∙ ap (drop offset) is))

-- one slot more is cleared
slots : {X : Type 0} → (x : X) (i : ℕ) (old : List X) → i < length old
    → slice_set (replicate i x ++ drop i old) i x ≡ replicate (suc i) x ++ drop (suc i) old
slots x i [] h = absurd (omega arith)
slots x zero (y ∷ ys) h = refl
slots x (suc i) (y ∷ ys) h = ap (λ (zs : List _). x ∷ zs) (slots x i ys (omega arith))

pub cleared_more : {X : Type 0} → (x : X) (i : ℕ) (old flight : List X) → i < length old
    → flight ≡ replicate i x ++ drop i old → slice_set flight i x ≡ replicate (i + 1) x ++ drop (i + 1) old
cleared_more x i old flight h is =
    rw add-one (ap (λ (zs : List _). slice_set zs i x) is ∙ slots x i old h)

-- a queue that refuses to return a chain is as it was
pub not_used : (q : AnyQueue) (buffer : PackedBuffer) (e : QueueError) → after_used q buffer (Err e) ≡ q
not_used (Split q) buffer e = refl
not_used (Packed q) buffer e = refl

-- a chain that is in flight was returned, or that was refused
pub returned : {H : Type 0} (step : H → (s : MemoryStep) → Returned s → H → Type 0) (q : DeviceQueue) (head len : ℕ)
    (old : H) (a : Answer) (q' : DeviceQueue) (new : H) (r : Result (Unit {0}) QueueError)
    → is_some (chain_of q head) ≡ true → step old (adds_used q.queue (buffer_of q head) len) r new → a ≡ answer_of_done r
    → q' ≡ after_returned q head r → Returns step q head len old a q' new
returned step q head len old a q' new r there adds told is = at (chain_of q head) there
  where
    at : (o : Option (List Segment)) → is_some o ≡ true
        → MatchOption o ((a ≡ not_in_flight) × (q' ≡ q) × (new ≡ old)) (λ chain.
        (r : Result (Unit {0}) QueueError) × step old (adds_used q.queue (buffer_of q head) len) r new
        × (a ≡ answer_of_done r) × (q' ≡ after_returned q head r))
    at None h = absurd (false≢true h)
    at (Some chain) h = (r, adds, told, is)
