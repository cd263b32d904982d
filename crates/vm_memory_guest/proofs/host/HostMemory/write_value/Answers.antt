use Rattle.std.proofs.Common.{drop, refl}
use Rattle.vm_memory_guest.proofs.TypedLemmas.{Writes-put}
use Rattle.vm_memory_guest.proofs.host.HostMemory.write_value.Goals as goal

pub returns-clause-bytes : goal.returns-clause-bytes
returns-clause-bytes g c =
    let w = c.args.window.now in
    Writes-put g.B.Bitmap.marks w
    (drop c.args.from (g.T.ByteValued.bytes c.args.value.now)) c.args.self.now c.put_value.new.self
    c.mark_window.new.self w.size refl c.put_value.ensures.put c.mark_window.ensures.marks
