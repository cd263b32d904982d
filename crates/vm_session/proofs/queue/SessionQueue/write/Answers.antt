use Rattle.std.proofs.Common.{subst, List}
use Rattle.vm_memory_device.specs.Chain.{Entry, WritesText, text, writable}
use Rattle.vm_session.proofs.QueueLemmas.{skipped}
use Rattle.vm_session.proofs.queue.SessionQueue.write.Goals as goal

pub returns-clause-written : goal.returns-clause-written
returns-clause-written g c =
    let chain = c.in-Some.chain.now in
    let m = g.M.GuestMemory.memory c.args.mem.now in
    rw (← c.in-Some.ensures) (
      c.write.result,
      c.write.new.self,
      subst (λ (es : List Entry). WritesText g.B.Bitmap.marks m es c.args.bytes.now c.args.host.now c.write.result
          c.write.new.self c.write.new.host)
          (skipped c.args.offset c.skip.result (text (writable chain)) c.writer-writer.result c.skip.new.self
          c.writer-writer.ensures.text c.skip.ensures.passed c.skip.ensures.place)
          c.write.ensures.wrote,
      c.bytes_moved.ensures,
    )
