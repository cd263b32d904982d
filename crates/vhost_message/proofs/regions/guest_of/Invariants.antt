use Rattle.std.proofs.Common.{◌≡◌, drop}
use Rattle.vhost_message.specs.Regions.{guest_of}
use Rattle.vhost_message.proofs.regions.guest_of.Given as goal

-- no region before this one has the range
abbrev pub invariant-loop-region : goal.invariant-loop-region
invariant-loop-region l = guest_of l.regions l.user_address l.size
    ≡ guest_of (drop l.region-index l.regions) l.user_address l.size
