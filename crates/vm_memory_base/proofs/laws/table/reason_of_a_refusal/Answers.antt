use Rattle.vm_memory_base.proofs.TableLaws.{reason-miss, reason-no_miss}
use Rattle.vm_memory_base.proofs.laws.table.reason_of_a_refusal.Goals as goal

pub returns : goal.returns
returns c = record { missing = reason-miss; not_allowed = reason-no_miss }
