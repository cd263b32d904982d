use Rattle.std.proofs.Common.{◌<◌, length, refl, rules, slice_set}
use Rattle.std.proofs.lemmas.Option.{slice_get_read}
use Rattle.vm_memory_guest.proofs.host.HostMemory.mark.Goals as goal

pub returns-in-Block : goal.returns-in-Block
returns-in-Block g c =
    let there : c.in-Block.block < length c.self.inside.bitmaps.items = search rules in
    rw (c.in-Block.is, ← c.self.view_is) (
      slice_set c.self.inside.bitmaps.items c.in-Block.block c.mark_dirty.new.self,
      record {
        before = c.index_mut-bitmap.result.now;
        after = c.mark_dirty.new.self;
        was = slice_get_read c.self.inside.bitmaps.items
            (length c.self.inside.bitmaps.items) c.in-Block.block c.index_mut-bitmap.result.now refl there
            c.index_mut-bitmap.ensures.value;
        marked = c.mark_dirty.ensures;
        is = refl;
      },
      refl,
    )

pub returns-in-Space : goal.returns-in-Space
returns-in-Space g c =
    let there : c.in-Space.space < length c.self.inside.spaces.items = search rules in
    rw (c.in-Space.is, ← c.self.view_is) (
      slice_set c.self.inside.spaces.items c.in-Space.space c.mark_dirty-in-Space.new.self,
      record {
        before = c.index_mut-bitmap-in-Space.result.now;
        after = c.mark_dirty-in-Space.new.self;
        was = slice_get_read c.self.inside.spaces.items
            (length c.self.inside.spaces.items) c.in-Space.space c.index_mut-bitmap-in-Space.result.now refl there
            c.index_mut-bitmap-in-Space.ensures.value;
        marked = c.mark_dirty-in-Space.ensures;
        is = refl;
      },
      refl,
    )
