-- Descriptors that follow one another in a table.
use Rattle.std.specs.Prelude.{◌≡◌, ℕ, Bool, true, false, not, ◌||◌, if◌then◌else◌, List, [], ◌∷◌, Some, None, Result, Ok}
use Rattle.virtio_queue.specs.Available.{Followed, entry}
use Rattle.virtio_queue.specs.Descriptor.{has_next, is_indirect, segment_of}
use Rattle.virtio_queue.specs.declared.descriptor.Descriptor.{Descriptor}
use Rattle.virtio_queue.specs.declared.error.QueueError.{QueueError}

-- a descriptor ends the part of a chain in its table: none follows it, or it leads to an indirect table
abbrev pub is_last : Descriptor → Bool
is_last d = is_indirect d || not (has_next d)

-- these descriptors are those from an index on in a table of N: `next` of each is the index of the one after it
-- it, and the last one ends them
unfoldable pub AreLinked : (ℕ → Result Descriptor QueueError) → ℕ → ℕ → List Descriptor → Type 0
AreLinked descriptor len i [] = ⊥
AreLinked descriptor len i (d ∷ []) = (entry descriptor len i ≡ Ok d) × (is_last d ≡ true)
AreLinked descriptor len i (d ∷ e ∷ ds) =
    (entry descriptor len i ≡ Ok d) × (is_last d ≡ false) × AreLinked descriptor len d.next (e ∷ ds)

-- these descriptors lead from an index to another one: `next` of each is the index of the one after it, `next` of the
-- last one is the other index, and none of them ends the part of a chain
unfoldable pub LeadsTo : (ℕ → Result Descriptor QueueError) → ℕ → ℕ → List Descriptor → ℕ → Type 0
LeadsTo descriptor len i [] j = i ≡ j
LeadsTo descriptor len i (d ∷ ds) j =
    (entry descriptor len i ≡ Ok d) × (is_last d ≡ false) × LeadsTo descriptor len d.next ds j

-- what they describe: the segments of direct ones, and the indirect one
abbrev pub told_by : List Descriptor → Followed
told_by [] = record { segments = []; indirect = None }
told_by (d ∷ ds) = if is_indirect d then record { segments = []; indirect = Some d }
    else record { segments = segment_of d ∷ (told_by ds).segments; indirect = (told_by ds).indirect }
