use Rattle.std.proofs.Common.{◌≡◌, ap, length, Ok, Err}
use Rattle.vm_memory_base.specs.declared.iotlb.Permissions.TheVariants as permissions
use Rattle.vm_memory_guest.specs.Dirt.{with_pages}
use Rattle.vm_memory_guest.specs.Memory.{route}
use Rattle.vm_memory_guest.specs.Walk.{NeedsPieces}
use Rattle.vm_memory.proofs.TypedLemmas.{store_is}
use Rattle.vm_memory.proofs.machine.typed.store_any.Goals as goal

pub returns-in-Ok-clause-stored : goal.returns-in-Ok-clause-stored
returns-in-Ok-clause-stored g c =
    let m = g.M.GuestMemory.memory c.args.memory.now in
    let host = c.args.host.now in
    let new = c.store.new.host in
    let pages = g.B.ExactBitmap.pages in
    let way = route m host.tables in
    let a = c.args.addr.0 in
    let n = g.T.ByteSized.width in
    let bytes = g.T.ByteValued.bytes c.args.value in
    let len : length bytes ≡ n = g.met.T.ByteValued.laws.length_bytes c.args.value c.recall_law.ensures in
    let laws = c.loads_and_stores_are_by_bytes.ensures in
    let each = g.met.M.GuestMemory.each_fits c.args.memory.now in
    store_is m (with_pages pages host) (with_pages pages new) a n bytes len
    (λ k. NeedsPieces m host.tables a k permissions.Write)
    (laws.answers m.regions way a n permissions.Write)
    (λ writes. laws.stores m.regions way a n permissions.Write bytes host new each writes)
    (λ same. ap (with_pages pages) same) (Ok tt) c.in-Ok.ensures.answer

pub returns-in-Err-clause-stored : goal.returns-in-Err-clause-stored
returns-in-Err-clause-stored g c =
    let m = g.M.GuestMemory.memory c.args.memory.now in
    let host = c.args.host.now in
    let new = c.store.new.host in
    let pages = g.B.ExactBitmap.pages in
    let way = route m host.tables in
    let a = c.args.addr.0 in
    let n = g.T.ByteSized.width in
    let bytes = g.T.ByteValued.bytes c.args.value in
    let len : length bytes ≡ n = g.met.T.ByteValued.laws.length_bytes c.args.value c.recall_law.ensures in
    let laws = c.loads_and_stores_are_by_bytes.ensures in
    let each = g.met.M.GuestMemory.each_fits c.args.memory.now in
    rw c.from.ensures
    (store_is m (with_pages pages host) (with_pages pages new) a n bytes len
    (λ k. NeedsPieces m host.tables a k permissions.Write)
    (laws.answers m.regions way a n permissions.Write)
    (λ writes. laws.stores m.regions way a n permissions.Write bytes host new each writes)
    (λ same. ap (with_pages pages) same) (Err c.in-Err.error) c.in-Err.ensures.answer)
