-- What the calls of a queue use of a ring's areas.
use Rattle.std.specs.Prelude.{◌≡◌, ◌⊎◌, ℕ, ◌+◌, ◌*◌, ◌≤◌, true, List, [], ◌∷◌, length, None}
use Rattle.vm_memory_base.specs.Permissions.{allow}
use Rattle.vm_memory_base.specs.declared.iotlb.Permissions.{Permissions}
use Rattle.vm_memory_base.specs.declared.iotlb.Permissions.TheVariants.{Read, Write}
use Rattle.virtio_queue.specs.Looks.{Given, Tree, gives, keeps, loads, room, row, spot, stores, takes, word, writes}
use Rattle.virtio_queue.specs.Packed as packed
use Rattle.virtio_queue.specs.State as split
use Rattle.virtio_queue.specs.declared.any.AnyQueue.{AnyQueue}
use Rattle.virtio_queue.specs.declared.any.AnyQueue.TheVariants.{Split, Packed}
use Rattle.vhost_iotlb.specs.declared.taking.Want.{Want}

-- N bytes at an address lie in one of these ranges, which is wanted for an access like this one
abbrev pub IsWanted : List Want → Permissions → ℕ → ℕ → Type 0
IsWanted [] access a n = ⊥
IsWanted (w ∷ ws) access a n = ((w.iova ≤ a) × (a + n ≤ w.iova + w.len) × (allow w.access access ≡ true))
    ⊎ IsWanted ws access a n

-- whatever a call finds, what it looks at, looks up and stores is so: an access, an address and a number of bytes
abbrev pub Uses : {T : Type 0} → (Permissions → ℕ → ℕ → Type 0) → Tree T → Type 0
Uses so (gives r) = Unit {0}
Uses so (takes (word base offset) k) = so Read (base + offset) 2 × ((v : ℕ) → Uses so (k v))
Uses so (takes (row table i) k) = so Read (table + 16 * i) 16 × ((v : Given (row table i)) → Uses so (k v))
Uses so (takes (room base offset n) k) = so Write (base + offset) n × ((v : ℕ) → Uses so (k v))
Uses so (takes (spot access base offset) k) =
    so access (base + offset) 2 × ((v : Given (spot access base offset)) → Uses so (k v))
Uses so (takes (writes base offset bytes) k) = so Write (base + offset) (length bytes) × Uses so (k tt)
Uses so (takes (stores base offset value) k) = so Write (base + offset) 2 × Uses so (k tt)
Uses so (takes (loads base offset) k) = so Read (base + offset) 2 × ((v : ℕ) → Uses so (k v))
Uses so (keeps t) = Uses so t

-- a queue can have its state
abbrev pub IsPossible : AnyQueue → Type 0
IsPossible (Split q) = split.state_error q.state ≡ None
IsPossible (Packed q) = packed.state_error q.state ≡ None
