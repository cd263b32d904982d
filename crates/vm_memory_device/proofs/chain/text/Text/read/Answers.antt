use Rattle.std.proofs.Common.{◌≡◌, ◌-◌, [], length, take, None, Some, arith, refl, subst}
use Rattle.vm_memory_base.specs.declared.iotlb.Permissions.TheVariants as permissions
use Rattle.vm_memory_device.proofs.CallsOfText.{came_to_none, ended_whole, goes_further, part_len}
use Rattle.vm_memory_device.proofs.ReachOfText.{runs-some}
use Rattle.vm_memory_device.proofs.ReadsOfText.{Filled, read_turn}
use Rattle.vm_memory_device.proofs.chain.text.Text.read.Goals as goal

pub loop-addr-init : goal.loop-addr-init
loop-addr-init g c =
    let buf = c.args.buf.now in
    came_to_none (g.M.GuestMemory.memory c.args.mem.now) c.args.host.now.tables permissions.Read c.args.self.now
    (length buf) (Filled c.args.host.now buf buf) refl

pub returns : goal.returns
returns g c =
    let l = c.loop-addr in
    ended_whole (g.M.GuestMemory.memory c.args.mem.now) c.args.host.now.tables permissions.Read c.args.self.now
    (length c.args.buf.now) l.invariant
    (subst (λ n. take (n - l.total) l.self ≡ []) l.auto.buf c.in_default.ensures)

pub returns-in-Some-go_on : goal.returns-in-Some-go_on
returns-in-Some-go_on g c =
    let l = c.loop-addr in
    let next = c.in-Some.ensures in
    read_turn (g.M.GuestMemory.memory c.args.mem.now) c.args.host.now c.args.self.now c.args.buf.now
    (g.met.M.GuestMemory.each_fits c.args.mem.now) l.buf l.invariant l.auto.buf c.in-Some.addr.0 c.in-Some.most next
    c.read-read.new.buf c.read-read.result (Some c.in-Some-go_on.answer) c.go_on.new.total c.go_on.new.self
    (rw (part_len l.total c.in-Some.most l.buf next.fits) at c.read-read.ensures.answer) c.in-Some-go_on.ensures

pub loop-addr-preserved : goal.loop-addr-preserved
loop-addr-preserved g c =
    let l = c.loop-addr in
    let next = c.in-Some.ensures in
    read_turn (g.M.GuestMemory.memory c.args.mem.now) c.args.host.now c.args.self.now c.args.buf.now
    (g.met.M.GuestMemory.each_fits c.args.mem.now) l.buf l.invariant l.auto.buf c.in-Some.addr.0 c.in-Some.most next
    c.read-read.new.buf c.read-read.result None c.go_on.new.total c.go_on.new.self
    (rw (part_len l.total c.in-Some.most l.buf next.fits) at c.read-read.ensures.answer) c.in_default-go_on.ensures

pub loop-addr-smaller : goal.loop-addr-smaller
loop-addr-smaller g c =
    let l = c.loop-addr in
    let next = c.in-Some.ensures in
    let some = runs-some c.in-Some.addr.0 c.in-Some.most (take (length l.buf - l.total) l.self) next.runs in
    let further = goes_further c.in-Some.most l.total c.go_on.new.total c.read-read.result l.self c.go_on.new.self
    c.in_default-go_on.ensures in
    omega (arith, next.fits, l.auto.buf)
