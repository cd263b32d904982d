use Rattle.std.proofs.Common.{refl}
use Rattle.vhost_backend.proofs.MappingLemmas.{each, rest}
use Rattle.vhost_backend.proofs.messages_laws.memory_is_mapped_at_rest.Goals as goal

pub returns : goal.returns
returns c = record { rest = rest; first = λ h table. refl; each = each }
