use Rattle.vm_memory_guest.proofs.EffectLaws.{is_dirty_at-after_write_other}
use Rattle.vm_memory_guest.proofs.laws.effects.other_pages_stay.Goals as goal

pub returns : goal.returns
returns c = is_dirty_at-after_write_other c.marked_bytes_are_dirty.ensures.other
