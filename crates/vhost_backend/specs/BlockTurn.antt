-- A step of a ring's turn: what happens to it next on guest memory, and what the back end makes of that.
use Rattle.std.specs.Prelude.{◌≡◌, ℕ, Option, Some, None, MatchBool}
use Rattle.virtio_blk.specs.declared.request.DeviceLimits.{DeviceLimits}
use Rattle.vhost_backend.specs.Backend.{BackendState, after_event}
use Rattle.vhost_backend.specs.BlockQueue.{BlockQueueState}
use Rattle.vhost_backend.specs.Flight.{HappensIn}
use Rattle.vhost_backend.specs.RingMemory.{MemoryStep, Returned}
use Rattle.vhost_backend.specs.Rings.{may_pop}
use Rattle.vhost_backend.specs.declared.backend.Todo.{Todo}
use Rattle.vhost_backend.specs.Sight.{Sight}
use Rattle.vhost_backend.specs.declared.ring.RingEvent.{RingEvent}
use Rattle.vhost_backend.specs.declared.rings.Event.TheVariants.{Ring}

-- it is told what happened, if something did
abbrev pub told : BackendState → ℕ → Option RingEvent → BackendState × Option Todo
told b ring None = (b, None)
told b ring (Some e) = let t = after_event b (Ring ring e) in (t.0, Some t.1)

-- a ring takes a step of its turn. One that may pop nothing now takes none
abbrev pub TakesStep : {H : Type 0} → (H → (s : MemoryStep) → Returned s → H → Type 0) → Option Sight → DeviceLimits → ℕ
    → BackendState → BlockQueueState → H → Option Todo → BackendState → BlockQueueState → H → Type 0
TakesStep step way terms ring b q old r b' q' new = MatchBool (may_pop b.rings ring)
    ((e : Option RingEvent) × HappensIn step terms way q old e q' new × ((b', r) ≡ told b ring e))
    ((r ≡ None) × (b' ≡ b) × (q' ≡ q) × (new ≡ old))
