use Rattle.vm_memory_base.proofs.TableLaws.{is_allowed-each}
use Rattle.vm_memory_base.proofs.laws.table.allowed_where_each_address_grants.Goals as goal

pub returns : goal.returns
returns c = is_allowed-each
