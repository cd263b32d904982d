use Rattle.vhost_backend.proofs.fetch.Fetch.of_ring.Goals as goal

pub returns-in_err-wants-clause-enough : goal.returns-in_err-wants-clause-enough
returns-in_err-wants-clause-enough c buffer len = c.what_a_ring_uses_is_fetched.ensures.returns c.args.queue.now
    c.args.log buffer len c.is_possible.ensures
