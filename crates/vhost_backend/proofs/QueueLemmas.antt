-- Requests of a block device's queue that are under way.
use Rattle.std.proofs.Common.{◌≡◌, ◌∙◌, ℕ, ◌<◌, ◌^◌, nat_le, Bool, true, false, if◌then◌else◌, List, replicate, set, Option, Some, None, sym, subst, arith, inl, inr}
use Rattle.std.specs.List.{slice_get}
use Rattle.std.proofs.Math.ListN.{length-set}
use Rattle.std.proofs.lemmas.Bool.{cases_eq, cases_lt, le-ltb, lt-ltb}
use Rattle.std.proofs.lemmas.Option.{slice_get_cases, slice_get_within}
use Rattle.vm_memory_device.specs.declared.chain.Segment.{Segment}
use Rattle.virtio_queue.specs.Any.{past}
use Rattle.virtio_queue.specs.declared.any.AnyQueue.{AnyQueue}
use Rattle.virtio_queue.specs.declared.packed.state.PackedBuffer.{PackedBuffer}
use Rattle.virtio_blk.specs.Steps.{FitsOn}
use Rattle.virtio_blk.specs.declared.request.Request.{Request}
use Rattle.virtio_blk.specs.declared.request.Request.TheVariants.{Read, Write, Flush, GetId, Refused, Unserved}
use Rattle.virtio_blk.specs.declared.request.DeviceLimits.{DeviceLimits}
use Rattle.vhost_backend.proofs.OwnWayLemmas.{get-replicate, get-set_other, get-set_same}
use Rattle.vhost_backend.specs.Block.{Short, len_of}
use Rattle.vhost_backend.specs.BlockQueue.{AllShort, Begins, BlockQueueState, shortened, with_queue}
use Rattle.vhost_backend.specs.RingMemory.{MemoryStep, Returned}
use Rattle.vhost_backend.specs.declared.block_queue.Asked.{Asked}
use Rattle.vhost_backend.specs.declared.block_queue.Pop.{Pop}

pub short_none : (n : ℕ) → AllShort (replicate n None)
short_none n i a there = let bad : Some a ≡ None = get-replicate n i None (Some a) there in absurd (cc)

pub short_set : (asked : List (Option Asked)) (id : ℕ) (o : Option Asked) → AllShort asked
    → ((a : Asked) → o ≡ Some a → Short a.request) → AllShort (set asked id o)
short_set asked id o all short i a there = elim (cases_eq id i) [
  | inl same ↦ here (subst (λ k. slice_get (set asked id o) k ≡ Some (Some a)) (sym same) there)
  | inr differs ↦ all i a (sym (get-set_other asked id i o (λ same. differs (sym same))) ∙ there)
]
  where
    here : slice_get (set asked id o) id ≡ Some (Some a) → Short a.request
    here there = elim (slice_get_cases asked id).1 [
      | inl (was, inside, found, other) ↦
          let both : Some o ≡ Some (Some a) = sym (get-set_same asked id o was found) ∙ there in
          let is : o ≡ Some a = cc in
          short a is
      | inr (past, none) ↦
          absurd (omega (arith, slice_get_within (set asked id o) id (Some a) there, past, length-set asked id o))
    ]

short_fits : (sectors : ℕ) (r : Request) → FitsOn sectors r → sectors < 2 ^ 55 → len_of r < 2 ^ 32 → Short r
short_fits sectors (Read sector len) fits small short = (short, omega (arith, fits.1))
short_fits sectors (Write sector len flush) fits small short = (short, omega (arith, fits.1))
short_fits sectors Flush fits small short = (omega arith, omega arith)
short_fits sectors (GetId len) fits small short = (short, omega (arith, fits))
short_fits sectors (Refused status) fits small short = (omega arith, omega arith)
short_fits sectors Unserved fits small short = (omega arith, omega arith)

pub short_request : (most count sectors : ℕ) (r : Request) → FitsOn sectors r → sectors < 2 ^ 55
    → Short (shortened most count r)
short_request most count sectors r fits small = elim (cases_lt (len_of r) (2 ^ 32)) [
  | inl below ↦ rw (lt-ltb (len_of r) (2 ^ 32) below) (few below (nat_le count most))
  | inr past ↦ rw (le-ltb (len_of r) (2 ^ 32) past) (omega arith, omega arith)
]
  where
    few : len_of r < 2 ^ 32 → (b : Bool) → Short (if b then r else Refused 1)
    few below true = short_fits sectors r fits small below
    few below false = (omega arith, omega arith)

-- a queue that goes back to where it stood
pub popped_begins : {H : Type 0} (step : H → (s : MemoryStep) → Returned s → H → Type 0) (terms : DeviceLimits)
    (q : BlockQueueState) (back queue : AnyQueue) (buffer : PackedBuffer) (chain : List Segment) (old : H) (a : Pop)
    (new_q : BlockQueueState) (new : H) → back ≡ q.queue → queue ≡ past q.queue buffer
    → Begins step terms back (with_queue q queue) buffer chain old a new_q new
    → Begins step terms q.queue (with_queue q (past q.queue buffer)) buffer chain old a new_q new
popped_begins step terms q back queue buffer chain old a new_q new is moved begins =
    subst (λ (b : AnyQueue). Begins step terms b (with_queue q (past q.queue buffer)) buffer chain old a new_q new) is
    (subst (λ (u : AnyQueue). Begins step terms back (with_queue q u) buffer chain old a new_q new) moved begins)
