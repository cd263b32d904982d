use Rattle.std.proofs.Common.{ℕ, List, ap}
use Rattle.vm_memory_guest.specs.Host.{cells_from}
use Rattle.vm_memory_guest.specs.Inside.{blocks_of}
use Rattle.vm_memory_guest.proofs.TypedLemmas.{sound-written}
use Rattle.vm_memory_guest.proofs.host.HostMemory.fill_place.Goals as goal

pub invariant_of-self : goal.invariant_of-self
invariant_of-self g c =
    let w = c.place.result in
    let host = c.self.inside in
    let put = c.fill_in.ensures.tried in
    sound-written (cells_from w.block w.offset w.len) put.0 (blocks_of host.blocks)
    (blocks_of c.fill_in.new.blocks) put.3
    host.bitmaps.items host.spaces.items host.tables.items host.shape c.self.invariant

pub returns-clause-tried : goal.returns-clause-tried
returns-clause-tried g c =
    let host = c.self.inside in
    let put = rw c.place.ensures at c.fill_in.ensures.tried in
    rw (← c.self.view_is) (
      put.0,
      put.1,
      put.2,
      ap (λ (bs : List (List ℕ)). record {
        blocks = bs;
        bitmaps = host.bitmaps.items;
        spaces = host.spaces.items;
        tables = host.tables.items;
      }) put.3,
    )
