use Rattle.std.proofs.Common.{◌≡◌, ◌++◌, drop}
use Rattle.std.specs.List.{list_any}
use Rattle.vhost_backend.specs.Fetch.{guest_segments, is_long}
use Rattle.vhost_backend.proofs.fetch.guest_chain.Given as goal

abbrev pub invariant-loop-one : goal.invariant-loop-one
invariant-loop-one l = record {
  short : list_any is_long (drop l.one-index l.kept) ≡ list_any is_long l.kept;
  made : l.segments.items ++ guest_segments (drop l.one-index l.kept) ≡ guest_segments l.kept;
}
