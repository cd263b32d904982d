use Rattle.std.proofs.Common.{◌∙◌, ℕ, Ok, ap, refl, sym}
use Rattle.vm_memory_base.specs.declared.iotlb.Permissions.TheVariants.{Read}
use Rattle.vm_memory_guest.specs.Memory.{route}
use Rattle.virtio_queue.proofs.RingLemmas.{word_in_window}
use Rattle.virtio_queue.proofs.stores.WholeStoresHostMemory.load.Goals as goal

pub returns-clause-step : goal.returns-clause-step
returns-clause-step g c =
    let m = g.M.GuestMemory.memory c.args.self.now.mem.now in
    let host = c.args.host.now in
    let each = g.met.M.GuestMemory.each_fits c.args.self.now.mem.now in
    let loads = λ (a : ℕ). c.loads_and_stores_are_by_bytes.ensures.loads m.regions (route m host.tables) a 2 Read
    host.blocks each in
    let word = word_in_window m host c.args.base c.args.offset c.args.window.now loads c.requires.found.0 in
    (c.load_in.result, refl, word ∙ ap Ok (sym c.load_in.ensures), refl)
