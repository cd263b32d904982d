use Rattle.std.proofs.Common.{ap, is_some}
use Rattle.vm_memory_base.specs.Address.{difference}
use Rattle.vm_memory_base.specs.Table.{target}
use Rattle.vhost_iotlb.specs.declared.kept.Change.TheVariants.{Map}
use Rattle.vhost_backend.proofs.ServeLemmas.{leads_then, update_drops, update_serves}
use Rattle.vhost_backend.proofs.goes_on_laws.an_update_serves_before_it_evicts.Goals as goal

pub returns : goal.returns
returns g c = record {
  leads = λ mem w new_w t new_t old new change ring q fetch iova to access changes asked there fetching waiting none room leads.
      update_serves (g.D.RingMemory.steps mem) w new_w t new_t old new change ring q fetch iova to access changes asked there
      fetching waiting none room (λ applies. leads);
  dropped = λ mem w new_w t new_t old new change ring q fetch changes asked there fetching.
      update_drops (g.D.RingMemory.steps mem) w new_w t new_t old new change ring q changes asked there
      (ap (λ o. is_some o) fetching);
  sets = λ mem w new_w t new_t old new ring q fetch iova base to len access permissions fits within allowed changes asked
      there fetching waiting none room.
      update_serves (g.D.RingMemory.steps mem) w new_w t new_t old new (Map base to len permissions) ring q fetch iova
      (target iova (record { difference = difference base to; permissions = permissions })) access changes asked there
      fetching waiting none room
      (leads_then c.tables_keep_to_their_limits.ensures.set base to len iova permissions access t new_t fits within allowed);
}
