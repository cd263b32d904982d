use Rattle.vhost_iotlb.proofs.TableLemmas.{put_back}
use Rattle.vhost_backend.proofs.ring_memory.keep_in.Goals as goal

pub returns-in-Err-clause-set : goal.returns-in-Err-clause-set
returns-in-Err-clause-set g c =
    put_back c.args.host.now c.args.table.0 c.table_mut-table.result.now c.set_mapping.new.self c.table_mut-table.ensures.value
    c.in-Err.ensures.err.2
