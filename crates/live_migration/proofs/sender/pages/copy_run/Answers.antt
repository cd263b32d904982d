use Rattle.std.proofs.Common.{◌-◌, ◌*◌, arith, drop, length, take}
use Rattle.std.proofs.lemmas.List.{length-take}
use Rattle.live_migration.proofs.PutLemmas.{run_grows}
use Rattle.live_migration.proofs.RunLemmas.{on_ok, run_copied, run_head, run_part}
use Rattle.live_migration.proofs.sender.pages.copy_run.Goals as goal

pub returns-clause-ok : goal.returns-clause-ok
returns-clause-ok c =
    let size = c.args.page_size in
    let bytes = c.args.bytes.now in
    let run = c.args.run.now in
    let head = run_head size c.args.number bytes run _ c.requires.some c.requires.run in
    let within = head.within in
    on_ok c.encode.result c.encode.ensures.ok (λ put.
    run_copied size c.args.number bytes run _ (length run - 1) _ c.args.batch.now.items c.encode.new.out.items
    c.requires.page (omega arith) c.requires.most (omega arith) (omega arith) c.requires.run
    (run_part size c.args.number bytes _ (length run) c.min-start.result c.min.result (omega (arith, within))
    c.min.ensures) put)

pub returns-clause-len : goal.returns-clause-len
returns-clause-len c =
    run_grows c.encode.result c.args.batch.now.items c.encode.new.out.items _ c.args.number _
    (length c.args.run.now * c.args.page_size) c.encode.ensures.ok c.encode.ensures.err
    (let bytes = c.args.bytes.now in
    let start = c.min-start.result in
    omega (arith, length-take c.min.result (take (length bytes - start) (drop start bytes))))
