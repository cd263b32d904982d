use Rattle.std.proofs.Common.{◌≡◌, ◌-◌, [], arith, drop, length, refl}
use Rattle.vm_memory_device.specs.Chain.{readable, text, writable}
use Rattle.virtio_blk.proofs.TextFacts.{writes_none}
use Rattle.virtio_blk.proofs.device.BlockDevice.act.Goals as goal

pub returns-in-Read-clause-did : goal.returns-in-Read-clause-did
returns-in-Read-clause-did g c =
    let loaded = rw c.writer-writer.ensures.text at c.load.ensures.loaded in
    let len : length (text (writable c.args.chain.now)) - 1 ≡ c.in-Read.len =
    let can = rw c.in-Read.is at c.requires.can in omega (arith, can.2) in
    rw (c.in-Read.is, ← c.self.view_is, ← len) (record {
      sent = loaded.0;
      disk = c.load.new.disk;
      count = loaded.1;
      does = loaded.2;
      written = loaded.3;
      is = refl;
    })

pub returns-in-Write-clause-did : goal.returns-in-Write-clause-did
returns-in-Write-clause-did g c =
    let chain = c.args.chain.now in
    let len : c.in-Write.len ≡ length (drop 16 (text (readable chain))) =
    let can = rw c.in-Write.is at c.requires.can in can.2 in
    rw (c.in-Write.is, ← c.self.view_is) (record {
      sent = [];
      disk = c.store_data-status.new.disk;
      count = refl;
      does = (refl, rw len c.store_data-status.ensures);
      written = writes_none g.B.Bitmap.marks (g.M.GuestMemory.memory c.args.mem.now) (text (writable chain))
          c.args.host.now;
      is = refl;
    })

pub returns-in-Flush-clause-did : goal.returns-in-Flush-clause-did
returns-in-Flush-clause-did g c =
    rw (c.in-Flush.is, ← c.self.view_is) (record {
      sent = [];
      disk = c.flush.new.disk;
      count = refl;
      does = (refl, refl, c.flush.ensures);
      written = writes_none g.B.Bitmap.marks (g.M.GuestMemory.memory c.args.mem.now) (text (writable c.args.chain.now))
          c.args.host.now;
      is = refl;
    })

pub returns-in-GetId-clause-did : goal.returns-in-GetId-clause-did
returns-in-GetId-clause-did g c =
    let told = rw c.writer-writer-in-GetId.ensures.text at c.tell_id.ensures.told in
    rw (c.in-GetId.is, ← c.self.view_is) (record {
      sent = told.0;
      disk = c.self.inside.disk;
      count = told.1;
      does = (told.2, refl);
      written = told.3;
      is = refl;
    })

pub returns-in-Refused-clause-did : goal.returns-in-Refused-clause-did
returns-in-Refused-clause-did g c =
    rw c.in-Refused.is (record {
      sent = [];
      disk = c.args.self.now.disk;
      count = refl;
      does = (refl, refl, refl, refl);
      written = writes_none g.B.Bitmap.marks (g.M.GuestMemory.memory c.args.mem.now) (text (writable c.args.chain.now))
          c.args.host.now;
      is = refl;
    })

pub returns-in-Unserved-clause-did : goal.returns-in-Unserved-clause-did
returns-in-Unserved-clause-did g c =
    rw c.in-Unserved.is (record {
      sent = [];
      disk = c.args.self.now.disk;
      count = refl;
      does = (refl, refl, refl);
      written = writes_none g.B.Bitmap.marks (g.M.GuestMemory.memory c.args.mem.now) (text (writable c.args.chain.now))
          c.args.host.now;
      is = refl;
    })
