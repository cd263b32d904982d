use Rattle.std.proofs.Common.{sym, ap, ◌∙◌}
use Rattle.vhost_message.specs.Header.{header_in}
use Rattle.vhost_message.proofs.CodecLemmas.{header_again}
use Rattle.vhost_message.proofs.header.Header.decode.Goals as goal

pub returns-clause-only : goal.returns-clause-only
returns-clause-only c = λ h is spelled.
    c.header_in.ensures.fields ∙ ap header_in (sym spelled) ∙ header_again h is
