use Rattle.std.proofs.Common.{◌≡◌, false, is_some}
use Rattle.std.specs.List.{list_any}
use Rattle.vhost_backend.proofs.UseLemmas.{idle_uses_nothing}
use Rattle.vhost_backend.proofs.block_queue.BlockQueue.is_used.Goals as goal

pub returns-else-is_busy : goal.returns-else-is_busy
returns-else-is_busy c =
    let q = c.args.self.now in
    let idle : list_any is_some q.asked ≡ false = cc in
    let no : c.is_busy.result ≡ false = cc in
    rw (idle_uses_nothing c.args.change.now q.asked idle, idle) no
