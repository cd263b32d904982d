use Rattle.vhost_backend.proofs.QueueLemmas.{short_request}
use Rattle.vhost_backend.proofs.block_queue.BlockQueue.begin.Goals as goal

pub put_asked-requires : goal.put_asked-requires
put_asked-requires g c = rw c.shortened-request.ensures
    (short_request _ _ c.args.terms.sectors c.in-Ok.request c.in-Ok.ensures.fits c.requires.small)
