use Rattle.vm_memory_guest.proofs.EffectLaws.{blocks-after_write, is_dirty_at-after_write_stays}
use Rattle.vm_memory_guest.proofs.laws.effects.dirt_stays.Goals as goal

pub returns : goal.returns
returns c = record {
  bytes = blocks-after_write;
  pages = is_dirty_at-after_write_stays c.marked_bytes_are_dirty.ensures.before;
}
