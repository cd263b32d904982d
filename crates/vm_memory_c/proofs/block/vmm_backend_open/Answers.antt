use Rattle.std.proofs.Common.{Err, refl}
use Rattle.vhost_user.specs.declared.backend_req_handler.OfferError.TheVariants.{Memory}
use Rattle.vm_memory_c.proofs.block.vmm_backend_open.Goals as goal

-- without memory for its box a connection is refused as without memory for its parts
pub returns : goal.returns
returns c = (Err 3, (Memory, c.in-Ok.ensures.0, refl), (refl, refl))
