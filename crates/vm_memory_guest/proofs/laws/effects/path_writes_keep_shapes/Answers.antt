use Rattle.vm_memory_guest.proofs.EffectLaws.{tables-after_write, shape_of-after_write, bitmap_shapes-after_write, space_shapes-after_write}
use Rattle.vm_memory_guest.proofs.laws.effects.path_writes_keep_shapes.Goals as goal

pub returns : goal.returns
returns c =
    let shape_stays = c.mark_keeps_shape.ensures.shape in
    record {
      tables = tables-after_write shape_stays;
      shape = shape_of-after_write shape_stays;
      bitmaps = bitmap_shapes-after_write shape_stays;
      spaces = space_shapes-after_write shape_stays;
    }
