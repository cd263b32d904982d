use Rattle.vm_memory_base.proofs.bitmap.paging.Paging.page_of.Goals as goal

pub overflow_shr-result : goal.overflow_shr-result
overflow_shr-result c = let power = c.args.self.now.shifts _ c.in-Some.is in power.0
