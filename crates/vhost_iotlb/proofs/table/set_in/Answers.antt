use Rattle.vhost_iotlb.proofs.TableLemmas.{put_back}
use Rattle.vhost_iotlb.proofs.table.set_in.Goals as goal

pub returns-in-Err-clause-refused : goal.returns-in-Err-clause-refused
returns-in-Err-clause-refused g c =
    put_back c.args.host.now c.args.table.0 c.table_mut.result.now c.set_mapping_counted-set.new.self c.table_mut.ensures.value
    c.in-Err.ensures.err.2
