-- How long a region of what is in flight is.
use Rattle.std.specs.Prelude.{ℕ, ◌+◌, ◌*◌, ◌/◌, if◌then◌else◌}
use Rattle.vhost_user.specs.Features.{has, ring_packed}
use Rattle.vhost_message.specs.declared.frontend_req.VhostUserInflight.{VhostUserInflight}

-- how many bytes a queue needs: a head, and an entry for each descriptor
abbrev pub needed_len : ℕ → ℕ → ℕ
needed_len features queue_size = if has features ring_packed then 32 + 32 * queue_size else 16 + 16 * queue_size

-- and how many it has: a multiple of 64
abbrev pub queue_len : ℕ → ℕ → ℕ
queue_len features queue_size = (needed_len features queue_size + 63) / 64 * 64

-- how many the region has
abbrev pub region_len : ℕ → VhostUserInflight → ℕ
region_len features r = r.num_queues * queue_len features r.queue_size
