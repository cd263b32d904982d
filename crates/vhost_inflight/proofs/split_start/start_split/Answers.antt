use Rattle.std.proofs.Common.{ap, length, ◌∙◌}
use Rattle.std.proofs.lemmas.List.FromFn.{length-map-range_with_len}
use Rattle.vhost_inflight.specs.SplitBytes.{entry_at}
use Rattle.vhost_inflight.proofs.split_start.start_split.Goals as goal

pub start_from-requires-clause-len : goal.start_from-requires-clause-len
start_from-requires-clause-len c =
    ap length c.in_ok-entries.ensures ∙ length-map-range_with_len (entry_at c.args.bytes.now) 0 c.args.descriptors
