use Rattle.std.proofs.Common.{◌≡◌, ◌++◌, ◌∷◌, [], sym, arith}
use Rattle.std.proofs.lemmas.List.FromFn.{map-range_with_len_more}
use Rattle.vhost_inflight.specs.PackedBytes.{entry_at}
use Rattle.vhost_inflight.proofs.packed_region.entries_in.Goals as goal

pub loop-index-preserved : goal.loop-index-preserved
loop-index-preserved c =
    let pushed : c.push.new.self.items ≡ c.loop-index.entries.items ++ c.entry_at.result ∷ [] =
    c.in_ok-push.ensures.items in
    rw (pushed, c.loop-index.invariant, c.entry_at.ensures)
    (sym (map-range_with_len_more (entry_at c.args.bytes.now) 0 c.loop-index.index c.loop-index.index (omega arith)))
