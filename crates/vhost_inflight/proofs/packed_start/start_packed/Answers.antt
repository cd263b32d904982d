use Rattle.std.proofs.Common.{ap, length, ◌∙◌}
use Rattle.std.proofs.lemmas.List.FromFn.{length-map-range_with_len}
use Rattle.vhost_inflight.specs.PackedBytes.{entry_at}
use Rattle.vhost_inflight.proofs.packed_start.start_packed.Goals as goal

pub start_from-requires : goal.start_from-requires
start_from-requires c =
    ap length c.in_ok-entries.ensures ∙ length-map-range_with_len (entry_at c.args.bytes.now) 0 c.args.descriptors
