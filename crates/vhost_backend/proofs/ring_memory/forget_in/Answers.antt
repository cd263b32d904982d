use Rattle.vhost_iotlb.proofs.TableLemmas.{put_back}
use Rattle.vhost_backend.proofs.ring_memory.forget_in.Goals as goal

pub returns-in-Err-clause-forgotten : goal.returns-in-Err-clause-forgotten
returns-in-Err-clause-forgotten g c =
    put_back c.args.host.now c.args.table.0 c.table_mut-table.result.now c.invalidate_mapping.new.self c.table_mut-table.ensures.value
    c.in-Err.ensures.err.2
