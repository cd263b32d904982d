use Rattle.std.proofs.Common.{ℕ, List, sym, ap, subst, ◌∙◌}
use Rattle.vhost_message.specs.Iotlb.{Spells, fields_in, payload_bytes}
use Rattle.vhost_message.proofs.CodecLemmas.{payload_spells}
use Rattle.vhost_message.proofs.iotlb.IotlbMessage.encode.Goals as goal

pub returns-clause-spelled : goal.returns-clause-spelled
returns-clause-spelled c = λ is.
    subst (λ (bytes : List ℕ). Spells (fields_in bytes) c.args.self)
    (sym (c.payload_bytes.ensures ∙ ap payload_bytes c.fields.ensures)) (payload_spells c.args.self is)
