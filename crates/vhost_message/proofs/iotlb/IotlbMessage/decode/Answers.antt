use Rattle.std.proofs.Common.{ap, ◌∙◌}
use Rattle.vhost_message.specs.Iotlb.{fields_in, message_in}
use Rattle.vhost_message.proofs.CodecLemmas.{read_as_spelled, spelled_is_read}
use Rattle.vhost_message.proofs.iotlb.IotlbMessage.decode.Goals as goal

pub returns-clause-found : goal.returns-clause-found
returns-clause-found c =
    read_as_spelled (fields_in c.args.payload.now) c.message_in.result
    (c.message_in.ensures ∙ ap message_in c.fields_in.ensures)

pub returns-clause-only : goal.returns-clause-only
returns-clause-only c = λ m is.
    c.message_in.ensures ∙ ap message_in c.fields_in.ensures
    ∙ spelled_is_read (fields_in c.args.payload.now) m is
