use Rattle.std.proofs.Common.{◌∙◌, ap, sym, Ok, Err}
use Rattle.vm_memory_base.specs.declared.iotlb.Permissions.TheVariants as permissions
use Rattle.vm_memory_guest.specs.Access.{access_of}
use Rattle.vm_memory_guest.specs.Dirt.{path_cells}
use Rattle.vm_memory_guest.specs.Host.{bytes_at}
use Rattle.vm_memory_guest.specs.Memory.{route}
use Rattle.vm_memory_guest.specs.Typed.{answered, place_of, typed_path}
use Rattle.vm_memory_guest.specs.Walk.{NeedsPieces}
use Rattle.vm_memory_guest.specs.Window.{cells_of}
use Rattle.vm_memory.proofs.TypedLemmas.{answered_then, load_is}
use Rattle.vm_memory.proofs.machine.typed.load_any.Goals as goal

pub returns-in-Ok : goal.returns-in-Ok
returns-in-Ok g c =
    let m = g.M.GuestMemory.memory c.args.memory.now in
    let host = c.args.host.now in
    let way = route m host.tables in
    let a = c.args.addr.0 in
    let n = g.T.ByteSized.width in
    let value = g.T.ByteValued.value_of in
    let each = g.met.M.GuestMemory.each_fits c.args.memory.now in
    let access = access_of m.regions way a n permissions.Read in
    let bytes = c.loads_and_stores_are_by_bytes.ensures.loads m.regions way a n permissions.Read host.blocks each in
    let same =
    answered_then (λ w. bytes_at host.blocks (cells_of w)) value (place_of n access)
    ∙ ap (answered value) bytes
    ∙ sym (answered_then (λ xs. bytes_at host.blocks (path_cells xs)) value (typed_path n access)) in
    load_is (NeedsPieces m host.tables a n permissions.Read) same (Ok c.in-Ok.value) c.in-Ok.ensures

pub returns-in-Err : goal.returns-in-Err
returns-in-Err g c =
    let m = g.M.GuestMemory.memory c.args.memory.now in
    let host = c.args.host.now in
    let way = route m host.tables in
    let a = c.args.addr.0 in
    let n = g.T.ByteSized.width in
    let value = g.T.ByteValued.value_of in
    let each = g.met.M.GuestMemory.each_fits c.args.memory.now in
    let access = access_of m.regions way a n permissions.Read in
    let bytes = c.loads_and_stores_are_by_bytes.ensures.loads m.regions way a n permissions.Read host.blocks each in
    let same =
    answered_then (λ w. bytes_at host.blocks (cells_of w)) value (place_of n access)
    ∙ ap (answered value) bytes
    ∙ sym (answered_then (λ xs. bytes_at host.blocks (path_cells xs)) value (typed_path n access)) in
    rw c.from.ensures
    (load_is (NeedsPieces m host.tables a n permissions.Read) same (Err c.in-Err.error) c.in-Err.ensures)
