use Rattle.std.proofs.Common.{◌≡◌, ◌∙◌, slice_get, ap, arith}
use Rattle.vm_memory_guest.specs.Host.{Shape, shape_of}
use Rattle.vm_memory_guest.proofs.BackLemmas.{has_bytes-none}
use Rattle.vm_memory_guest.proofs.mmap.MmapRegion.of_block.Given.{Over}
use Rattle.vm_memory_guest.proofs.mmap.MmapRegion.of_block.Goals.{In_default, in_default-via-in-Some+else-size-gt0, in_default-via-in_default}
use Rattle.vm_memory_guest.proofs.mmap.MmapRegion.of_block.Goals as goal

told : (g : Over) (c : In_default g) → c.block_len.result ≡ slice_get (shape_of c.args.host.now).blocks c.args.block.0
told g c = c.block_len.ensures ∙ ap (λ (s : Shape). slice_get s.blocks c.args.block.0) c.shape.ensures.value

pub returns-in_default-clause-there : goal.returns-in_default-clause-there
returns-in_default-clause-there g c = has_bytes-none (shape_of c.args.host.now) c.args.block.0 c.block_len.result
    (told g c) (elim c.in_default.branch [
      | in_default-via-in-Some+else-size-gt0 w ↦ rw w.in-Some.is w.if-size-gt0.false
      | in_default-via-in_default w ↦ rw w.in_default.is (omega arith)
    ])
