-- A step on a queue that a machine was given is one on its state.
use Rattle.std.proofs.Common.{◌≡◌, ℕ, List, slice_get, Option, Some, None, option_map, MatchOption, Ok, Err, sym, ap, subst}
use Rattle.std.proofs.lemmas.Option.{slice_get-map}
use Rattle.vm_memory_base.specs.Pages.{PageSet, marked}
use Rattle.vm_memory_guest.specs.Dirt.{with_pages}
use Rattle.vm_memory_guest.specs.Host.{Host}
use Rattle.vm_memory_guest.specs.Memory.{Memory}
use Rattle.vm_memory_guest.specs.Region.{Region}
use Rattle.vm_memory_device.specs.Memories.{memory_meant}
use Rattle.vm_memory_device.specs.declared.machine_memory.MachineMemory.{MachineMemory}
use Rattle.vm_memory.specs.WithMemory.{StepsOn, StepsOnIf}
use Rattle.vm_memory.specs.Parts.{Parts, state_of}
use Rattle.vm_memory.specs.declared.machine.refusal.Refusal.{Refusal}
use Rattle.vm_session.proofs.PageLemmas.{work_seen}
use Rattle.vm_session.specs.QueueCodes.{no_such}
use Rattle.vm_session.specs.MemorySteps.{Still, marks_pages}
use Rattle.vm_session.specs.Queues.{CompletesIf, NeedsNotification, Pops, ReadsInto, ReturnsIf, Works, WorksOn, WritesChain}
use Rattle.vm_session.specs.SessionState.{DeviceQueue}
use Rattle.vm_session.specs.declared.call.Answer.{Answer}
use Rattle.vm_session.specs.declared.call.Call.{Call}
use Rattle.vm_session.specs.declared.call.Kind.{Kind}
use Rattle.vm_session.specs.declared.requests.CompleteStep.{CompleteStep}
use Rattle.vm_session.specs.declared.requests.PopStep.{PopStep}
use Rattle.vm_session.specs.declared.requests.ReadStep.{ReadStep}
use Rattle.vm_session.specs.declared.requests.WriteStep.{WriteStep}
use Rattle.vm_session.specs.declared.requests.UsedStep.{UsedStep}
use Rattle.vm_session.specs.declared.requests.NotifyStep.{NotifyStep}
use Rattle.vm_session.specs.declared.work.QueueStep.{QueueStep}

module _ {R I B W : Type 0} (region : R → Region) (number : I → ℕ) (marks : B → ℕ → ℕ → B → Type 0)
    (pages : B → PageSet)
    (exact : (old new : B) (offset len : ℕ) → marks old offset len new
    → pages new ≡ marked offset len (pages old))
    (does : W → Memory → Host B → W → Host B → Type 0) where
  module _ (k : Kind) (call : Call) (input : List ℕ) (old new : Parts R I B) (w w' : W) (q q' : DeviceQueue)
      (out out' : List ℕ) (a : Answer) where
    abbrev Done : Option Memory → Type 0
    Done o = MatchOption o ((a ≡ no_such) × (state_of region number pages new ≡ state_of region number pages old)
        × (q' ≡ q) × (out' ≡ out))
        (λ m. (host : Host PageSet)
        × Works marks_pages m (Still marks_pages m) k call input q (with_pages pages old.host) out a q' host out'
        × (state_of region number pages new ≡ record (state_of region number pages old) { host = host }))

    -- the step of a call was taken
    done : ((m : Memory) → does w m old.host w' new.host
        → Works marks m (Still marks m) k call input q old.host out a q' new.host out')
        → (o : Option (MachineMemory R I)) (u : Unit {0}) → StepsOnIf region number does o old w (Ok u) w' new
        → Done (option_map (memory_meant region number) o)
    done works None u h = absurd (cc)
    done works (Some m) u h = (
      with_pages pages new.host,
      work_seen marks pages exact (memory_meant region number m) k call input q old.host out a q' new.host out'
          (works (memory_meant region number m) h.1),
      ap (state_of region number pages) h.2,
    )

    -- or there is no such memory
    refused : (a ≡ no_such) × (q' ≡ q) × (out' ≡ out) → (o : Option (MachineMemory R I)) (e : Refusal)
        → StepsOnIf region number does o old w (Err e) w' new → Done (option_map (memory_meant region number) o)
    refused told (Some m) e h = absurd (cc)
    refused told None e h = (told.0, ap (state_of region number pages) h.2, told.1, told.2)

    pub work_done : (u : Unit {0}) → StepsOn region number does old call.second w (Ok u) w' new
        → ((m : Memory) → does w m old.host w' new.host
        → Works marks m (Still marks m) k call input q old.host out a q' new.host out')
        → WorksOn k call input (state_of region number pages old) q out a (state_of region number pages new) q' out'
    work_done u h works =
        subst Done (sym (slice_get-map (memory_meant region number) old.memories call.second))
        (done works (slice_get old.memories call.second) u h)

    pub work_refused : (e : Refusal) → StepsOn region number does old call.second w (Err e) w' new
        → (a ≡ no_such) × (q' ≡ q) × (out' ≡ out)
        → WorksOn k call input (state_of region number pages old) q out a (state_of region number pages new) q' out'
    work_refused e h told =
        subst Done (sym (slice_get-map (memory_meant region number) old.memories call.second))
        (refused told (slice_get old.memories call.second) e h)

-- what a reference that a step kept leads to, once the step is over, is what the step left there
module _ {N X : Type 0} {was is : N} {x : X} (left : X) (same : is ≡ was) where
  pub left_in_one : (P : X → Type 0) → (was ≡ is → x ≡ left) → P left → P x
  left_in_one P follows h = subst P (sym (follows (sym same))) h

  module _ {Y : Type 0} {was₂ is₂ : N} {y : Y} (left₂ : Y) (same₂ : is₂ ≡ was₂) (P : X → Y → Type 0) where
    pub left_in_two : (was ≡ is → x ≡ left) → (was₂ ≡ is₂ → y ≡ left₂) → P left left₂ → P x y
    left_in_two follows also h =
        subst (λ (v : X). P v y) (sym (follows (sym same))) (subst (P left) (sym (also (sym same₂))) h)

-- what each step does, as a machine is told
module _ {B : Type 0} (marks : B → ℕ → ℕ → B → Type 0) where
  abbrev pub PopDoes : PopStep → Memory → Host B → PopStep → Host B → Type 0
  PopDoes w m host after host' = (after.queue.ghost_name ≡ w.queue.ghost_name)
      × (after.answer.ghost_name ≡ w.answer.ghost_name)
      × Pops (Still marks m) w.queue.now host after.answer.now after.queue.now host'

  abbrev pub ReadDoes : ReadStep → Memory → Host B → ReadStep → Host B → Type 0
  ReadDoes w m host after host' = (after.output.ghost_name ≡ w.output.ghost_name)
      × (after.answer.ghost_name ≡ w.answer.ghost_name)
      × ReadsInto m w.call.now w.queue.now host w.output.now after.answer.now after.output.now × (host' ≡ host)

  abbrev pub WriteDoes : WriteStep → Memory → Host B → WriteStep → Host B → Type 0
  WriteDoes w m host after host' = (after.answer.ghost_name ≡ w.answer.ghost_name)
      × WritesChain marks m w.queue.now w.call.now.third w.call.now.address w.input.now host
      after.answer.now host'

  abbrev pub UsedDoes : UsedStep → Memory → Host B → UsedStep → Host B → Type 0
  UsedDoes w m host after host' = (after.queue.ghost_name ≡ w.queue.ghost_name)
      × (after.answer.ghost_name ≡ w.answer.ghost_name)
      × ReturnsIf (Still marks m) w.call.now w.queue.now host after.answer.now after.queue.now host'

  abbrev pub CompleteDoes : CompleteStep → Memory → Host B → CompleteStep → Host B → Type 0
  CompleteDoes w m host after host' = (after.queue.ghost_name ≡ w.queue.ghost_name)
      × (after.answer.ghost_name ≡ w.answer.ghost_name)
      × CompletesIf marks m (Still marks m) w.call.now w.input.now w.queue.now host after.answer.now after.queue.now host'

  abbrev pub NotifyDoes : NotifyStep → Memory → Host B → NotifyStep → Host B → Type 0
  NotifyDoes w m host after host' = (after.queue.ghost_name ≡ w.queue.ghost_name)
      × (after.answer.ghost_name ≡ w.answer.ghost_name)
      × NeedsNotification (Still marks m) w.queue.now host after.answer.now after.queue.now host'

  abbrev pub QueueDoes : QueueStep → Memory → Host B → QueueStep → Host B → Type 0
  QueueDoes w m host after host' = (after.answer.ghost_name ≡ w.answer.ghost_name)
      × ((input out : List ℕ) → Works marks m (Still marks m) w.kind w.call.now input w.queue.now host out
      after.answer.now w.queue.now host' out)
