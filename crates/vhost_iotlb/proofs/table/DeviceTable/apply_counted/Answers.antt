use Rattle.vhost_iotlb.specs.Kept.{event_of}
use Rattle.vhost_iotlb.proofs.ApplyLemmas.{made_or_not, refused_by}
use Rattle.vhost_iotlb.proofs.table.DeviceTable.apply_counted.Goals as goal

pub returns-in-Ok-clause-applied : goal.returns-in-Ok-clause-applied
returns-in-Ok-clause-applied g c =
    let regions = c.args.self.now.memory in
    made_or_not c.args.self.now.table.0 regions c.args.host.now c.make.new.host c.args.message.now
    (event_of c.in-Ok.change) (c.in-Ok.ensures.call regions c.guest_asked.ensures) c.make.result c.make.ensures.made
    c.make.ensures.refused

pub returns-in-Err-clause-applied : goal.returns-in-Err-clause-applied
returns-in-Err-clause-applied g c =
    let regions = c.args.self.now.memory in
    refused_by c.args.self.now.table.0 regions c.args.host.now c.refuse.new.host c.args.message.now c.in-Err.error
    (c.in-Err.ensures.call regions c.guest_asked.ensures) c.refuse.ensures.refused
