-- Which addresses an INVALIDATE leaves without a mapping.
use Rattle.std.specs.Prelude.{ℕ, Bool, false, ◌||◌, is_err}
use Rattle.vm_memory_base.specs.Address.{is_within}
use Rattle.vhost_iotlb.specs.Changes.{invalidated, named}
use Rattle.vhost_message.specs.declared.iotlb.IotlbMessage.{IotlbMessage}
use Rattle.vhost_message.specs.declared.iotlb.IotlbMessage.TheVariants.{Miss, Update, Invalidate, AccessFail}

-- whether an INVALIDATE unmaps an address: one that it names, or any if it is malformed
abbrev pub unmaps : ℕ → ℕ → ℕ → Bool
unmaps iova size x = is_err (invalidated iova size) || is_within iova (named iova size) x

-- whether a message is an UPDATE of an address
abbrev pub updates : ℕ → IotlbMessage → Bool
updates x (Update iova size user permissions) = is_within iova size x
updates x (Invalidate iova size) = false
updates x (Miss iova access) = false
updates x (AccessFail iova access) = false
