use Rattle.std.proofs.Common.{arith, refl}
use Rattle.live_migration.proofs.PutLemmas.{zero_grows}
use Rattle.live_migration.proofs.RunLemmas.{on_ok, past_copied, zero_copied}
use Rattle.live_migration.proofs.sender.pages.copy_zero.Goals as goal

pub returns-then-saturating_mul-bytes-clause-ok : goal.returns-then-saturating_mul-bytes-clause-ok
returns-then-saturating_mul-bytes-clause-ok c =
    past_copied c.args.page_size c.args.number c.args.bytes.now c.args.page c.args.batch.now.items
    c.args.batch.now.items (omega arith) refl

pub returns-clause-ok : goal.returns-clause-ok
returns-clause-ok c =
    on_ok c.encode.result c.encode.ensures.ok (λ put. zero_copied c.args.page_size c.args.number c.args.bytes.now
    c.args.page c.args.batch.now.items c.encode.new.out.items (omega arith) (omega arith) (omega arith) c.requires put)

pub returns-clause-len : goal.returns-clause-len
returns-clause-len c =
    zero_grows c.encode.result c.args.batch.now.items c.encode.new.out.items c.args.number c.args.page
    c.encode.ensures.ok c.encode.ensures.err
