use Rattle.std.proofs.Common.{◌∙◌, ◌-◌, length, take, None, Some, arith, refl}
use Rattle.vm_memory_base.specs.declared.iotlb.Permissions.TheVariants as permissions
use Rattle.vm_memory_device.proofs.CallsOfText.{came_to_none, ended_whole, goes_further, part_len}
use Rattle.vm_memory_device.proofs.ReachOfText.{runs-some}
use Rattle.vm_memory_device.proofs.WritesOfText.{Wrote, wrote_none, write_turn, writes_text}
use Rattle.vm_memory_device.proofs.chain.text.Text.write.Goals as goal

pub loop-addr-init : goal.loop-addr-init
loop-addr-init g c =
    let marks = g.B.Bitmap.marks in
    let buf = c.args.buf.now in
    let host = c.args.host.now in
    record {
      call = came_to_none (g.M.GuestMemory.memory c.args.mem.now) host.tables permissions.Write c.args.self.now
          (length buf) (Wrote marks c.args.self.now buf host host) (wrote_none marks c.args.self.now buf host);
      shape = refl;
    }

pub returns-clause-wrote : goal.returns-clause-wrote
returns-clause-wrote g c =
    let m = g.M.GuestMemory.memory c.args.mem.now in
    let l = c.loop-addr in
    writes_text g.B.Bitmap.marks c.args.self.now c.args.buf.now c.args.host.now m _ _ l.host
    (ended_whole m c.args.host.now.tables permissions.Write c.args.self.now (length c.args.buf.now) l.invariant.call
    c.in_default.ensures)

pub returns-in-Some-go_on-clause-wrote : goal.returns-in-Some-go_on-clause-wrote
returns-in-Some-go_on-clause-wrote g c =
    let m = g.M.GuestMemory.memory c.args.mem.now in
    let l = c.loop-addr in
    let next = c.in-Some.ensures in
    let host = c.write-written.new.host in
    writes_text g.B.Bitmap.marks c.args.self.now c.args.buf.now c.args.host.now m _ _ host
    (write_turn g.B.Bitmap.marks c.args.self.now c.args.buf.now c.args.host.now m
    (g.met.M.GuestMemory.each_fits c.args.mem.now) l.host l.invariant.call c.in-Some.addr.0 c.in-Some.most next host
    c.write-written.result (Some c.in-Some-go_on.answer) c.go_on.new.total c.go_on.new.self
    (rw (part_len l.total c.in-Some.most c.args.buf.now next.fits) at c.write-written.ensures.answer)
    c.in-Some-go_on.ensures)

pub loop-addr-preserved : goal.loop-addr-preserved
loop-addr-preserved g c =
    let l = c.loop-addr in
    let next = c.in-Some.ensures in
    record {
      call = write_turn g.B.Bitmap.marks c.args.self.now c.args.buf.now c.args.host.now
          (g.M.GuestMemory.memory c.args.mem.now) (g.met.M.GuestMemory.each_fits c.args.mem.now) l.host
          l.invariant.call c.in-Some.addr.0 c.in-Some.most next c.write-written.new.host c.write-written.result None
          c.go_on.new.total c.go_on.new.self
          (rw (part_len l.total c.in-Some.most c.args.buf.now next.fits) at c.write-written.ensures.answer)
          c.in_default-go_on.ensures;
      shape = c.write-written.ensures.shape ∙ l.invariant.shape;
    }

pub loop-addr-smaller : goal.loop-addr-smaller
loop-addr-smaller g c =
    let l = c.loop-addr in
    let next = c.in-Some.ensures in
    let some = runs-some c.in-Some.addr.0 c.in-Some.most (take (length c.args.buf.now - l.total) l.self) next.runs in
    let further = goes_further c.in-Some.most l.total c.go_on.new.total c.write-written.result l.self
    c.go_on.new.self c.in_default-go_on.ensures in
    omega (arith, next.fits)
