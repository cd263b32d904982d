use Rattle.linux_loader.proofs.PlanLemmas.{header_read}
use Rattle.linux_loader.proofs.bzimage.read_header.Goals as goal

pub returns-clause-known : goal.returns-clause-known
returns-clause-known g c = λ all known.
    let h = c.read_bytes.ensures.known all known in (
      h.0,
      λ sized. header_read all c.args.size c.min-count.result c.read_bytes.result c.if-size.false
          c.min-count.ensures sized h.1,
    )
