use Rattle.std.proofs.Common.{◌≡◌, ◌∙◌, Some, arith, refl, subst}
use Rattle.std.specs.Iterator.{YieldsFirst}
use Rattle.vm_memory_base.specs.declared.iotlb.Permissions.TheVariants.{Read}
use Rattle.vm_memory_guest.specs.Host.{bytes_at, shape_of}
use Rattle.vm_memory_guest.specs.Window.{cells_of}
use Rattle.vm_memory_guest.specs.Walk.{items_of}
use Rattle.vm_memory_guest.proofs.AccessLemmas.{gave-window, walk-held}
use Rattle.vm_memory_guest.proofs.HostLemmas.{length-bytes}
use Rattle.virtio_blk.proofs.LentFacts.{lent_of}
use Rattle.virtio_blk.proofs.lent.whole_window.Goals as goal

pub returns-then-len-clause-held : goal.returns-then-len-clause-held
returns-then-len-clause-held g c =
    let m = g.M.GuestMemory.memory c.args.mem.now in
    let host = c.args.host.now in
    let held = walk-held m host.tables c.in_ok-addr.addr.0 c.args.len Read c.in-Ok.walk c.in-Ok.ensures.answer
    (shape_of host) (g.M.Named.names c.args.mem.now) (g.met.M.GuestMemory.each_fits c.args.mem.now)
    (g.met.M.GuestMemory.names_memory c.args.mem.now) c.requires in
    let first = gave-window c.in-Ok.walk c.next.new.self c.in-Some-Ok.window
    (subst (λ item. YieldsFirst items_of c.in-Ok.walk (Some item) c.next.new.self) c.in-Some-Ok.field-0-is
    c.in-Some-Ok.ensures.steps) in
    (rw first at held).0

pub returns-then-len-clause-lent : goal.returns-then-len-clause-lent
returns-then-len-clause-lent g c =
    let m = g.M.GuestMemory.memory c.args.mem.now in
    let host = c.args.host.now in
    let w = c.in-Some-Ok.window in
    let first = gave-window c.in-Ok.walk c.next.new.self w
    (subst (λ item. YieldsFirst items_of c.in-Ok.walk (Some item) c.next.new.self) c.in-Some-Ok.field-0-is
    c.in-Some-Ok.ensures.steps) in
    let size : w.size ≡ c.args.len = omega (arith, c.len.ensures, c.if-len.true) in
    rw c.in_ok-addr.was (lent_of m host c.in_ok-addr.addr.0 c.args.len c.in-Ok.walk w c.next.new.self.windows
    (bytes_at host.blocks (cells_of w)) (g.met.M.GuestMemory.each_fits c.args.mem.now) c.in-Ok.ensures.answer first size
    refl)

pub returns-then-len-clause-len : goal.returns-then-len-clause-len
returns-then-len-clause-len g c =
    let w = c.in-Some-Ok.window in
    let size : w.size ≡ c.args.len = omega (arith, c.len.ensures, c.if-len.true) in
    length-bytes c.args.host.now.blocks w ∙ size
