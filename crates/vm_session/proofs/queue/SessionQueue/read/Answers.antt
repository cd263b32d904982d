use Rattle.std.proofs.Common.{subst, List}
use Rattle.vm_memory_device.specs.Chain.{Entry, ReadsText, readable, text}
use Rattle.vm_session.proofs.QueueLemmas.{skipped}
use Rattle.vm_session.proofs.queue.SessionQueue.read.Goals as goal

pub returns : goal.returns
returns g c =
    let chain = c.in-Some.chain.now in
    let m = g.M.GuestMemory.memory c.args.mem.now in
    rw (← c.in-Some.ensures) (
      c.read.result,
      c.read.new.self,
      subst (λ (es : List Entry). ReadsText m c.args.host.now es c.args.buf.now c.read.result c.read.new.self
          c.read.new.buf)
          (skipped c.args.offset c.skip.result (text (readable chain)) c.reader-reader.result c.skip.new.self
          c.reader-reader.ensures.text c.skip.ensures.passed c.skip.ensures.place)
          c.read.ensures,
      c.bytes_moved.ensures,
    )
