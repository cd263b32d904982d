use Rattle.vm_memory.proofs.MarkLemmas.{dirtied_cells-dirty, dirtied_cells-rest, dirtied_cells-stay}
use Rattle.vm_memory.proofs.laws.machine.marks_change_bitmaps_alone.Goals as goal

pub returns : goal.returns
returns c = record {
  rest = dirtied_cells-rest;
  stays = dirtied_cells-stay c.dirt_stays.ensures.pages;
  dirty = dirtied_cells-dirty c.named_pages_are_dirty.ensures;
}
