use Rattle.vhost_inflight.specs.Split.{place}
use Rattle.vhost_inflight.proofs.ByteLemmas.{field_changed, length-stored}
use Rattle.vhost_inflight.proofs.split_laws.stores_change_their_field.Goals as goal

pub returns-clause-field : goal.returns-clause-field
returns-clause-field c = field_changed

pub returns-clause-len : goal.returns-clause-len
returns-clause-len c = λ bytes store. length-stored bytes (place store)
