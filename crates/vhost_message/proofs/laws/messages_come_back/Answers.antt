use Rattle.vhost_message.specs.Iotlb.{fields_in, fields_of, payload_bytes}
use Rattle.vhost_message.proofs.CodecLemmas.{one_spelling, payload_spells, spelled_is_read}
use Rattle.vhost_message.proofs.laws.messages_come_back.Goals as goal

pub returns : goal.returns
returns c = record {
  spelled = payload_spells;
  decoded = λ m is. spelled_is_read (fields_in (payload_bytes (fields_of m))) m (payload_spells m is);
  one = λ payload m n first second. one_spelling (fields_in payload) m n first second;
}
