-- Looks at the texts of chains, which a driver may write at any moment, also while a call runs, and stores to them: which
-- ones a call makes, and what it makes of what they found.
use Rattle.std.specs.Prelude.{◌≡◌, ℕ, ◌-◌, ◌<◌, min, nat_lt, Bool, ◌==◌, ◌||◌, List, [], ◌∷◌, length, take, drop, Result, Ok, Err, MatchBool}
use Rattle.vm_memory_guest.specs.Host.{Host, shape_of}
use Rattle.vm_memory_guest.specs.Memory.{Memory}
use Rattle.vm_memory_guest.specs.declared.region.error.GuestMemoryError.{GuestMemoryError}
use Rattle.vm_memory_guest.specs.declared.region.error.GuestMemoryError.TheVariants as errors
use Rattle.vm_memory_device.specs.Chain.{Entry, ReadsText, WritesText}
use Rattle.virtio_blk.specs.Disk.{joined}
use Rattle.virtio_blk.specs.Request.{request_of}
use Rattle.virtio_blk.specs.Steps.{gapless}
use Rattle.virtio_blk.specs.declared.request.Request.{Request}
use Rattle.virtio_blk.specs.declared.request.Request.TheVariants.{Refused, Unserved}
use Rattle.virtio_blk.specs.declared.request.DeviceLimits.{DeviceLimits}

-- what a look found that filled the front of a buffer
abbrev pub found_in : List ℕ → Result ℕ GuestMemoryError → Result (List ℕ) GuestMemoryError
found_in buffer (Ok count) = Ok (take count buffer)
found_in buffer (Err e) = Err e

-- what a step returns whose access failed: the error, if the step may succeed later, and else what it returns without
-- the access
abbrev pub failed : {T : Type 0} → GuestMemoryError → T → Result T GuestMemoryError
failed (errors.IommuError e) without = Err (errors.IommuError e)
failed errors.Memory without = Err errors.Memory
failed e without = Ok without

-- what a step returns by what its access brought
abbrev pub by_access : {S T : Type 0} → Result S GuestMemoryError → (S → T) → T → Result T GuestMemoryError
by_access (Ok x) done without = Ok (done x)
by_access (Err e) done without = failed e without

module _ {S : Type 0} (look : S → List Entry → ℕ → Result (List ℕ) GuestMemoryError → S → Type 0) where
  -- looks at the first N bytes of a text found these pieces, the last one first: each look is at the bytes after those
  -- that were found before it, so no byte is found twice
  abbrev pub Finds : List Entry → ℕ → List (List ℕ) → S → S → Type 0
  Finds es n [] old new = new ≡ old
  Finds es n (p ∷ ps) old new = let k = length (joined ps) in
      (k < n) × ((mid : S) × Finds es n ps old mid × look mid (drop k es) (n - k) (Ok p) new)

  -- all of them were found, or a look found none
  abbrev pub FindsAll : List Entry → ℕ → S → Result (List ℕ) GuestMemoryError → S → Type 0
  FindsAll es n old (Ok bytes) new =
      (ps : List (List ℕ)) × Finds es n ps old new × (bytes ≡ joined ps) × (length bytes ≡ n)
  FindsAll es n old (Err e) new = (ps : List (List ℕ)) × (mid : S) × Finds es n ps old mid
      × (let k = length (joined ps) in (k < n) × look mid (drop k es) (n - k) (Err e) new)

  -- the first step: at most the 16 bytes of the header are looked at, and only to know what is asked for. All of that is
  -- made of what these looks found
  unfoldable pub BeginsBy : DeviceLimits → Bool → List Entry → List Entry → S → Result Request GuestMemoryError → S → Type 0
  BeginsBy limits is_broken given room old answer new =
      MatchBool (length room == 0) ((answer ≡ Ok Unserved) × (new ≡ old))
      (MatchBool (is_broken || nat_lt (length given) 16) ((answer ≡ Ok (Refused 1)) × (new ≡ old))
      ((header : Result (List ℕ) GuestMemoryError) × FindsAll given 16 old header new × (answer ≡ by_access header
      (λ bytes. request_of limits bytes (length given - 16) (length room - 1)) (Refused 1))))

-- the second step: one store, of the status, at the last byte of a text
unfoldable pub FinishesBy : {S : Type 0} → (S → List Entry → List ℕ → Result ℕ GuestMemoryError → S → Type 0) → List Entry
    → ℕ → ℕ → S → Result ℕ GuestMemoryError → S → Type 0
FinishesBy store es status moved old answer new = let front = min moved (length es - 1) in
    MatchBool (length es == 0) ((answer ≡ Ok 0) × (new ≡ old))
    ((stored : Result ℕ GuestMemoryError) × store old (drop (length es - 1) es) (status ∷ []) stored new
    × (answer ≡ by_access stored (λ count. gapless es front) front))

-- ---- memory that stands still

-- what a look at the first N bytes of a text finds in it
abbrev pub FoundBy : {B : Type 0} → Memory → Host B → List Entry → ℕ → Result (List ℕ) GuestMemoryError → Type 0
FoundBy m host es n found = (buffer : List ℕ) × (answer : Result ℕ GuestMemoryError) × (left : List Entry)
    × (filled : List ℕ) × (length buffer ≡ n) × ReadsText m host es buffer answer left filled
    × (found ≡ found_in filled answer)

-- bytes are stored in memory that only this writes
abbrev pub PutBy : {B : Type 0} → (B → ℕ → ℕ → B → Type 0) → Memory → List Entry → List ℕ → Host B
    → Result ℕ GuestMemoryError → Host B → Type 0
PutBy marks m es bytes old stored new =
    ((left : List Entry) × WritesText marks m es bytes old stored left new) × (shape_of new ≡ shape_of old)
