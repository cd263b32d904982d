use Rattle.std.proofs.Common.{◌≡◌, drop, map}
use Rattle.vhost_message.specs.Regions.{guest_of}
use Rattle.vm_session.specs.Messages.{region_in}
use Rattle.vm_session.proofs.messages.any_has_range.Given as goal

-- no row before this one has the range
abbrev pub invariant-loop-chunk : goal.invariant-loop-chunk
invariant-loop-chunk l = guest_of (map region_in l.chunks) l.user_address l.size
    ≡ guest_of (map region_in (drop l.chunk-index l.chunks)) l.user_address l.size
