use Rattle.std.proofs.Common.{◌≡◌, ◌++◌, ◌∷◌, [], sym, arith}
use Rattle.std.proofs.lemmas.List.FromFn.{map-range_with_len_more}
use Rattle.vhost_inflight.specs.SplitBytes.{entry_at}
use Rattle.vhost_inflight.proofs.split_region.entries_in.Goals as goal

pub loop-head-preserved : goal.loop-head-preserved
loop-head-preserved c =
    let pushed : c.push.new.self.items ≡ c.loop-head.entries.items ++ c.entry_at.result ∷ [] =
    c.in_ok-push.ensures.items in
    rw (pushed, c.loop-head.invariant, c.entry_at.ensures)
    (sym (map-range_with_len_more (entry_at c.args.bytes.now) 0 c.loop-head.head c.loop-head.head (omega arith)))
