-- How segments are loaded, one after the other.
use Rattle.std.specs.Prelude.{◌≡◌, ℕ, ◌+◌, ◌-◌, ◌^◌, nat_lt, ◌==◌, List, [], ◌∷◌, replicate, AllPairs, Option, Some, None, Result, Ok, Err, IfOk, MatchBool, MatchResult, ⊤}
use Rattle.vm_memory_base.specs.Transfer.{Answer, Next, giving}
use Rattle.vm_memory_base.specs.declared.io.VolatileMemoryError.{VolatileMemoryError}
use Rattle.vm_memory_base.specs.declared.iotlb.Permissions.TheVariants as permissions
use Rattle.vm_memory_guest.specs.Answer.{told}
use Rattle.vm_memory_guest.specs.Error.{error_of, of_window}
use Rattle.vm_memory_guest.specs.Host.{Host}
use Rattle.vm_memory_guest.specs.Memory.{Memory}
use Rattle.vm_memory_guest.specs.Transfer.{Fills, Transfers, UntilWhole, all_of}
use Rattle.vm_memory_guest.specs.Walk.{NeedsPieces, reached}
use Rattle.vm_memory_guest.specs.declared.region.error.GuestMemoryError.{GuestMemoryError}
use Rattle.vm_memory_guest.specs.declared.region.error.GuestMemoryError.TheVariants as access
use Rattle.linux_loader.specs.Error as error
use Rattle.linux_loader.specs.Error.{and_then}
use Rattle.linux_loader.specs.Image.{IfKnown, StandsAt}
use Rattle.linux_loader.specs.Plan.{Apart, Planned, Plans, planned_of}
use Rattle.linux_loader.specs.Runtime.{FindsArea}
use Rattle.linux_loader.specs.declared.error.LoaderError.{LoaderError}
use Rattle.linux_loader.specs.declared.error.LoaderError.TheVariants as errors
use Rattle.linux_loader.specs.declared.plan.KernelLoaderResult.{KernelLoaderResult}
use Rattle.linux_loader.specs.declared.plan.KernelPlan.{KernelPlan}
use Rattle.linux_loader.specs.declared.segment.Segment.{Segment}

-- the call `read_exact_volatile_from`: a source was lent the windows of count bytes at an address, one after the
-- other, each until it is full
module _ {S B : Type 0} (source : S → Option (List Next)) (reads : S → List ℕ → Answer → List ℕ → S → Type 0)
    (known : S → Option ℕ) (marks : B → ℕ → ℕ → B → Type 0) (m : Memory) where
  abbrev pub Receives : ℕ → ℕ → S × Host B → Result (Unit {0}) GuestMemoryError → S × Host B → Type 0
  Receives a count old answer new =
      Transfers access.Memory (NeedsPieces m old.1.tables a count permissions.Write) of_window
      (told error_of (reached m old.1.tables a count permissions.Write))
      (Fills source reads known marks UntilWhole) (all_of access.PartialBuffer count) old answer new

  -- the same, as a loader returns it
  abbrev pub Lends : ℕ → ℕ → S × Host B → Result (Unit {0}) LoaderError → S × Host B → Type 0
  Lends a count old answer new =
      (r : Result (Unit {0}) GuestMemoryError) × Receives a count old r new × (answer ≡ error.told r)

-- a source that has N zeros left
abbrev pub zeros : ℕ → Option (List Next)
zeros left = Some (giving (replicate left 0) [])

module _ {B : Type 0} (marks : B → ℕ → ℕ → B → Type 0) (m : Memory) where
  -- N zeros were lent to an address
  abbrev pub Clears : ℕ → ℕ → Host B → Result (Unit {0}) LoaderError → Host B → Type 0
  Clears a count old answer new = (left : ℕ)
      × Lends zeros (λ s lent answer after t. ⊤) (λ s. None) marks m a count (count, old) answer (left, new)

  -- the rest of a segment, after the bytes of the image, was made zero
  abbrev pub ClearsRest : Segment → Host B → Result (Unit {0}) LoaderError → Host B → Type 0
  ClearsRest s old answer new = let rest = s.size - s.file_size in let a = s.addr.0 + s.file_size in
      MatchBool (rest == 0) ((answer ≡ Ok tt) × (new ≡ old))
      (MatchBool (nat_lt a (2 ^ 64)) (Clears a rest old answer new)
      ((answer ≡ Err errors.MemoryOverflow) × (new ≡ old)))

module _ {S B : Type 0} (bytes : S → Option (List ℕ)) (source : S → Option (List Next))
    (reads : S → List ℕ → Answer → List ℕ → S → Type 0) (known : S → Option ℕ) (marks : B → ℕ → ℕ → B → Type 0)
    (m : Memory) where
  -- an image, which stands at the segment's bytes, was lent the beginning of the segment
  abbrev pub FillsFrom : Segment → S × Host B → Result (Unit {0}) LoaderError → S × Host B → Type 0
  FillsFrom s old answer new = (stands : Result (Unit {0}) VolatileMemoryError) × (image : S)
      × StandsAt bytes source old.0 s.file_offset stands image
      × MatchResult stands (λ _. Lends source reads known marks m s.addr.0 s.file_size (image, old.1) answer new)
      (λ e. (answer ≡ Err (errors.Image e)) × (new ≡ (image, old.1)))

  -- the same, unless no byte comes from the image
  abbrev pub FillsFront : Segment → S × Host B → Result (Unit {0}) LoaderError → S × Host B → Type 0
  FillsFront s old answer new =
      MatchBool (s.file_size == 0) ((answer ≡ Ok tt) × (new ≡ old)) (FillsFrom s old answer new)

  -- a segment was loaded: its beginning was filled from the image, and after it the rest was made zero
  abbrev pub LoadsSegment : Segment → S × Host B → Result (Unit {0}) LoaderError → S × Host B → Type 0
  LoadsSegment s old answer new = (filled : Result (Unit {0}) LoaderError) × (mid : S × Host B)
      × FillsFront s old filled mid
      × MatchResult filled (λ _. ClearsRest marks m s mid.1 answer new.1 × (new.0 ≡ mid.0))
      (λ e. (answer ≡ Err e) × (new ≡ mid))

  -- segments were loaded one after the other, up to the first that was refused
  unfoldable pub LoadsAll : List Segment → S × Host B → Result (Unit {0}) LoaderError → S × Host B → Type 0
  LoadsAll [] old answer new = (answer ≡ Ok tt) × (new ≡ old)
  LoadsAll (s ∷ ss) old answer new = (loaded : Result (Unit {0}) LoaderError) × (mid : S × Host B)
      × LoadsSegment s old loaded mid
      × MatchResult loaded (λ _. LoadsAll ss mid answer new) (λ e. (answer ≡ Err e) × (new ≡ mid))

  -- the segments of a plan were loaded. Then a loader returns so
  abbrev pub LoadsSegments : Planned → S × Host B → Result KernelLoaderResult LoaderError → S × Host B → Type 0
  LoadsSegments p old answer new = (loaded : Result (Unit {0}) LoaderError) × LoadsAll p.segments old loaded new
      × (answer ≡ and_then loaded (λ _. Ok p.result))

  -- what is planned was loaded, if where the kernel runs lies in memory. Else nothing was
  abbrev pub LoadsPlan : Planned → S × Host B → Result KernelLoaderResult LoaderError → S × Host B → Type 0
  LoadsPlan p old answer new = (found : Result (Unit {0}) LoaderError)
      × FindsArea m old.1.tables p.result.runtime_area found
      × MatchResult found (λ _. LoadsSegments p old answer new) (λ e. (answer ≡ Err e) × (new ≡ old))

  -- what is planned of an image was loaded, or nothing was, and then the host is as it was. What is planned of an
  -- image whose bytes are known is known, and whether memory is asked for before
  pub record LoadsImage (allocates : List ℕ → Type 0) (plan : List ℕ → Result Planned LoaderError) (old : S × Host B)
      (answer : Result KernelLoaderResult LoaderError) (new : S × Host B) : Type 0 where
    pub planned : Result KernelPlan LoaderError
    pub image : S
    pub told : IfKnown (bytes old.0) (λ all. (bytes image ≡ Some all) × Plans (allocates all) (plan all) planned)
    pub apart : IfOk planned (λ p. AllPairs Apart p.segments.items)
    pub loads : MatchResult planned (λ p. LoadsPlan (planned_of p) (image, old.1) answer new)
        (λ e. (answer ≡ Err e) × (new ≡ (image, old.1)))
