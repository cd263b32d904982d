use Rattle.vm_memory_guest.proofs.EffectLaws.{is_dirty_at-after_write}
use Rattle.vm_memory_guest.proofs.laws.effects.named_pages_are_dirty.Goals as goal

pub returns : goal.returns
returns c = is_dirty_at-after_write c.marked_bytes_are_dirty.ensures.own c.marked_bytes_are_dirty.ensures.before
    c.mark_keeps_shape.ensures.pages
