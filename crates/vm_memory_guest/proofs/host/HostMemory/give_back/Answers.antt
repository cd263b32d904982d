use Rattle.std.proofs.Common.{◌≡◌, ◌∙◌, ℕ, List, [], map, set, slice_get, Some, option_map, refl, sym, ap}
use Rattle.std.proofs.lemmas.List.{map-set}
use Rattle.std.proofs.lemmas.Option.{slice_get-map, get_or_from_slice_get}
use Rattle.vm_memory_guest.specs.BlockBytes.{bytes_of}
use Rattle.vm_memory_guest.specs.Inside.{blocks_of}
use Rattle.vm_memory_guest.proofs.BackLemmas.{sound-without}
use Rattle.vm_memory_guest.proofs.host.HostMemory.give_back.Given.{Over}
use Rattle.vm_memory_guest.proofs.host.HostMemory.give_back.Goals as goal
use Rattle.vm_memory_guest.proofs.host.HostMemory.give_back.Goals.{After-exchange-bitmap}

-- the blocks that are left
left : (g : Over) (c : After-exchange-bitmap g)
    → blocks_of c.exchange-bytes.new.list ≡ set (blocks_of c.self.inside.blocks) c.args.block.0 []
left g c = ap (map bytes_of) c.exchange-bytes.ensures.list
    ∙ map-set bytes_of c.self.inside.blocks.items c.args.block.0 _
    ∙ ap (λ (bytes : List ℕ). set (blocks_of c.self.inside.blocks) c.args.block.0 bytes) c.new.ensures.items

pub invariant_of-self : goal.invariant_of-self
invariant_of-self g c =
    let h = c.self.inside in
    rw (left g c, c.empty_block.ensures, c.exchange-bitmap.ensures.list)
    (sound-without h.shape (blocks_of h.blocks) h.bitmaps.items h.spaces.items h.tables.items c.args.block.0
    c.args.bitmap c.self.invariant)

pub returns-clause-bytes : goal.returns-clause-bytes
returns-clause-bytes g c =
    let blocks = c.self.inside.blocks.items in
    let is : slice_get (map bytes_of blocks) c.args.block.0 ≡ Some (bytes_of c.exchange-bytes.result) =
    slice_get-map bytes_of blocks c.args.block.0 ∙ ap (λ o. option_map bytes_of o) c.exchange-bytes.ensures.value in
    rw (← c.self.view_is) (sym (get_or_from_slice_get (map bytes_of blocks) c.args.block.0 _ [] is))

pub returns-clause-left : goal.returns-clause-left
returns-clause-left g c =
    rw (← c.self.view_is, left g c, c.exchange-bitmap.ensures.list) refl
