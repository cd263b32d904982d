-- A message that is a step on a host, as one on its state.
use Rattle.std.proofs.Common.{◌≡◌, ℕ, List, slice_get, Option, Some, None, option_map, MatchOption, Result, Ok, Err, sym, ap, subst}
use Rattle.std.proofs.lemmas.Option.{slice_get-map}
use Rattle.vm_memory_base.specs.Pages.{PageSet}
use Rattle.vm_memory_base.specs.Table as table
use Rattle.vm_memory_base.specs.Table.{TableEvent}
use Rattle.vm_memory_guest.specs.Dirt.{with_pages}
use Rattle.vm_memory_guest.specs.Host.{Host}
use Rattle.vm_memory_guest.specs.Memory.{Memory}
use Rattle.vm_memory_guest.specs.Region.{Region}
use Rattle.vm_memory_device.specs.Memories.{memory_meant}
use Rattle.vm_memory_device.specs.declared.machine_memory.MachineMemory.{MachineMemory}
use Rattle.vm_memory.specs.WithMemory.{StepsOn, StepsOnIf}
use Rattle.vm_memory.specs.Parts.{Parts, state_of}
use Rattle.vm_memory.specs.declared.machine.refusal.Refusal as machine_refusals
use Rattle.vm_memory.specs.declared.machine.refusal.Refusal.TheVariants as machine_refusal
use Rattle.vhost_iotlb.specs.Changes.{Applies, Changes, Makes, MakesOfMalformed, call_of, evicted_for}
use Rattle.vhost_message.specs.declared.iotlb.IotlbMessage.{IotlbMessage}
use Rattle.vhost_message.specs.declared.iotlb.IotlbMessage.TheVariants as message
use Rattle.vhost_iotlb.specs.declared.table.Refusal.{Refusal}
use Rattle.vhost_iotlb.specs.declared.table.Refusal.TheVariants as refusal
use Rattle.vhost_message.specs.declared.regions.MemoryRegion.{MemoryRegion}
use Rattle.vm_session.specs.Messages.{IsApplied, answer_of_applied}
use Rattle.vm_session.specs.QueueCodes.{no_such}
use Rattle.vm_session.specs.declared.call.Answer.{Answer}
use Rattle.vm_session.specs.declared.messages.MessageStep.{MessageStep}

-- ---- what a message makes of a host's tables says nothing of its bitmaps

module _ {B : Type 0} (pages : B → PageSet) where
  abbrev seen : Host B → Host PageSet
  seen host = with_pages pages host

  changes_seen : (number : ℕ) (call : TableEvent) (old new : Host B) → Changes number call old new
      → Changes number call (seen old) (seen new)
  changes_seen number call old new h = record { before = h.before; there = h.there; left = ap seen h.left }

  makes_seen : (number : ℕ) (asked : Result TableEvent Refusal) (calls : List TableEvent) (old new : Host B)
      → Makes number asked calls old new → Makes number asked calls (seen old) (seen new)
  makes_seen number asked calls old new h = record {
    wanted = h.wanted;
    call = h.call;
    is_asked = h.is_asked;
    done_for = h.done_for;
    made = h.made;
    changes = changes_seen number h.call old new h.changes;
  }

  malformed_seen : (number : ℕ) (m : IotlbMessage) (calls : List TableEvent) (old new : Host B)
      → MakesOfMalformed number m calls old new → MakesOfMalformed number m calls (seen old) (seen new)
  malformed_seen number (message.Invalidate iova size) calls old new h =
      (h.0, changes_seen number table.InvalidateAll old new h.1)
  malformed_seen number (message.Update iova size user permissions) calls old new h = (h.0, ap seen h.1)
  malformed_seen number (message.Miss iova access) calls old new h = (h.0, ap seen h.1)
  malformed_seen number (message.AccessFail iova access) calls old new h = (h.0, ap seen h.1)

  pub applies_seen : (number : ℕ) (regions : List MemoryRegion) (m : IotlbMessage) (r : Result (Unit {0}) Refusal)
      (calls : List TableEvent) (old new : Host B) → Applies number regions m r calls old new
      → Applies number regions m r calls (seen old) (seen new)
  applies_seen number regions m (Ok u) calls old new h = makes_seen number (call_of regions m) calls old new h
  applies_seen number regions m (Err (refusal.Malformed e)) calls old new h =
      (h.0, malformed_seen number m calls old new h.1)
  applies_seen number regions m (Err refusal.UserAddress) calls old new h = (h.0, (h.1.0, ap seen h.1.1))
  applies_seen number regions m (Err refusal.Memory) calls old new h = (h.0, (h.1.0, ap seen h.1.1))
  applies_seen number regions m (Err refusal.NoTable) calls old new h = (h.0, (h.1.0, ap seen h.1.1))

-- ---- the step that a machine was given

module _ {R I B : Type 0} (region : R → Region) (number : I → ℕ) (pages : B → PageSet) where
  -- what the step does, as a machine is told
  abbrev pub MessageDoes : MessageStep → Memory → Host B → MessageStep → Host B → Type 0
  MessageDoes w m host w' host' = (r : Result (Unit {0}) Refusal) × (calls : List TableEvent)
      × Applies w.device.table.0 w.device.memory w.message r calls host host'
      × (w'.answer
      ≡ answer_of_applied (evicted_for (call_of w.device.memory w.message) (slice_get host.tables w.device.table.0)) r)

  module _ (old new : Parts R I B) (w w' : MessageStep) where
    abbrev Done : Option Memory → Answer → Type 0
    Done o a = MatchOption o ((a ≡ no_such) × (state_of region number pages new ≡ state_of region number pages old))
        (λ m. IsApplied w.device.table.0 w.device.memory w.message (state_of region number pages old) a
        (state_of region number pages new))

    done : (o : Option (MachineMemory R I)) (u : Unit {0}) → StepsOnIf region number MessageDoes o old w (Ok u) w' new
        → Done (option_map (memory_meant region number) o) w'.answer
    done None u h = absurd (cc)
    done (Some m) u h = (
      h.1.0,
      h.1.1,
      with_pages pages new.host,
      applies_seen pages w.device.table.0 w.device.memory w.message h.1.0 h.1.1 old.host new.host h.1.2,
      h.1.3,
      ap (state_of region number pages) h.2,
    )

    refused : (o : Option (MachineMemory R I)) (e : machine_refusals.Refusal)
        → StepsOnIf region number MessageDoes o old w (Err e) w' new → (a : Answer)
        → (e ≡ machine_refusal.NoSuch → a ≡ no_such) → Done (option_map (memory_meant region number) o) a
    refused (Some m) e h a told = absurd (cc)
    refused None e h a told = (told (cc), ap (state_of region number pages) h.2)

    pub message_done : (memory : ℕ) (u : Unit {0}) → StepsOn region number MessageDoes old memory w (Ok u) w' new
        → Done (slice_get (state_of region number pages old).memories memory) w'.answer
    message_done memory u h =
        subst (λ (o : Option Memory). Done o w'.answer)
        (sym (slice_get-map (memory_meant region number) old.memories memory))
        (done (slice_get old.memories memory) u h)

    pub message_refused : (memory : ℕ) (e : machine_refusals.Refusal)
        → StepsOn region number MessageDoes old memory w (Err e) w' new → (a : Answer)
        → (e ≡ machine_refusal.NoSuch → a ≡ no_such)
        → Done (slice_get (state_of region number pages old).memories memory) a
    message_refused memory e h a told =
        subst (λ (o : Option Memory). Done o a)
        (sym (slice_get-map (memory_meant region number) old.memories memory))
        (refused (slice_get old.memories memory) e h a told)

-- ---- the message of a call

-- whatever memory there is
pub always : {M : Type 0} {P Q : Type 0} (o : Option M) → P → Q → MatchOption o P (λ m. Q)
always None p q = p
always (Some m) p q = q
