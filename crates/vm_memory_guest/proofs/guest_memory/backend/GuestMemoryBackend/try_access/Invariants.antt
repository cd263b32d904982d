use Rattle.std.proofs.Common.{◌≡◌, ◌⊎◌, ◌-◌, ◌<◌}
use Rattle.vm_memory_guest.specs.TryAccess.{CallsAt, TryAccess}
use Rattle.vm_memory_guest.proofs.guest_memory.backend.GuestMemoryBackend.try_access.Given as goal

-- how the rest of the access is answered, the whole is; not all bytes are handled, unless none was
abbrev pub invariant-loop-region : goal.invariant-loop-region
invariant-loop-region g l =
    let rs = g.Self.GuestMemoryBackend.regions l.fn.self in
    let Access = TryAccess g.Self.R.GuestMemoryRegion.region rs (CallsAt g.F.FnMut) l.fn.addr.0 l.fn.count in
    goal.F-IsAlwaysCallable g l.f
    × ((l.total < l.count) ⊎ (l.total ≡ 0))
    × ((answer : _) (last : _) → Access l.f l.total l.current.0 answer last → Access l.fn.f 0 l.fn.addr.0 answer last)

abbrev pub decreases-loop-region : goal.decreases-loop-region
decreases-loop-region g l = l.count - l.total
