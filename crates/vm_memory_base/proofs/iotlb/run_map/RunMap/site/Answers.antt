use Rattle.vm_memory_base.specs.Table.{same_mapping}
use Rattle.vm_memory_base.proofs.StartLemmas.{ascending_canonical}
use Rattle.vm_memory_base.proofs.iotlb.run_map.RunMap.site.Goals as goal

pub is_clear-requires-clause-ascending : goal.is_clear-requires-clause-ascending
is_clear-requires-clause-ascending c = ascending_canonical same_mapping c.args.self.now c.requires.kept.canonical
