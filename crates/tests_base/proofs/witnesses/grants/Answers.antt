use Rattle.vm_memory_base.specs.Table.{says}
use Rattle.tests_base.proofs.witnesses.grants.Goals as goal

pub returns : goal.returns
returns c = λ granted.
    (c.look_up_by_addresses.ensures.allowed (says c.args.table.now) c.args.iova c.args.length c.args.access
    (λ none. c.ranges.iova.fits)).0 c.in-Ok.ensures.found.0
