use Rattle.std.proofs.Common.{◌≡◌, ◌++◌, drop}
use Rattle.vhost_backend.specs.Fetch.{chain_wants}
use Rattle.vhost_backend.proofs.fetch.chain_wants.Given as goal

abbrev pub invariant-loop-segment : goal.invariant-loop-segment
invariant-loop-segment l = l.wants.items ++ chain_wants (drop l.segment-index l.segments) ≡ chain_wants l.segments
