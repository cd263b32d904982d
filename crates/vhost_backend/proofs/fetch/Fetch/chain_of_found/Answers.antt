use Rattle.vhost_backend.proofs.FetchLemmas.{chain_leads}
use Rattle.vhost_backend.proofs.fetch.Fetch.chain_of_found.Goals as goal

pub returns-clause-leads : goal.returns-clause-leads
returns-clause-leads c =
    let law = c.guest_chain_is_the_drivers.ensures in
    let fetch = c.self.inside in
    rw (← c.self.view_is) (chain_leads law.whole law.status fetch.state fetch.goal fetch.taking.wants fetch.taking.kept
    c.guest_chain.result c.self.invariant.0 c.self.invariant.1 c.kept.ensures.covers c.self.invariant.2
    (rw c.kept.ensures.lent at c.guest_chain.ensures))
