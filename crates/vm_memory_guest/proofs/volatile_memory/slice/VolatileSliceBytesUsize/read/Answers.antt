use Rattle.std.proofs.Common.{◌≡◌, length, ◌∙◌, sym, ap, ◌≤◌, arith}
use Rattle.std.proofs.lemmas.Grind.{common_steps}
use Rattle.vm_memory_guest.proofs.HostLemmas.{length-bytes}
use Rattle.vm_memory_guest.proofs.volatile_memory.slice.VolatileSliceBytesUsize.read.Goals as goal

pub copy_from_slice-requires : goal.copy_from_slice-requires
copy_from_slice-requires g c =
    let bytes : length c.bytes.result.now ≡ c.len-count.result =
    ap length c.bytes.ensures ∙ length-bytes c.args.host.now.blocks c.in_ok-window.window ∙ sym c.len-count.ensures in
    let within : c.len-count.result ≤ length c.args.buf.now =
    omega (arith, c.in_ok-window.ensures.at_most, c.len-count.ensures) in
    grind (arith, common_steps)
