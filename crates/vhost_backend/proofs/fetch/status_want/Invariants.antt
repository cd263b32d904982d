use Rattle.std.proofs.Common.{◌≡◌, drop}
use Rattle.std.specs.Option.{option_or}
use Rattle.vhost_backend.specs.Fetch.{status_want}
use Rattle.vhost_backend.proofs.fetch.status_want.Given as goal

-- what comes from here on goes before what was found
abbrev pub invariant-loop-segment : goal.invariant-loop-segment
invariant-loop-segment l = option_or (status_want (drop l.segment-index l.segments)) l.found ≡ status_want l.segments
