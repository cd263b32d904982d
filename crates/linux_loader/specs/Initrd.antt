-- Where an initrd lies, and how it is loaded.
use Rattle.std.specs.Prelude.{◌≡◌, ℕ, ◌-◌, ◌%◌, nat_lt, ◌==◌, if◌then◌else◌, min, List, length, Option, Some, None, unwrap_or, Result, Ok, Err, MatchResult}
use Rattle.vm_memory_base.specs.Transfer.{Answer, Next}
use Rattle.vm_memory_base.specs.declared.address.GuestAddress.{GuestAddress}
use Rattle.vm_memory_base.specs.declared.io.VolatileMemoryError.{VolatileMemoryError}
use Rattle.vm_memory_guest.specs.Host.{Host}
use Rattle.vm_memory_guest.specs.Memory.{Memory}
use Rattle.linux_loader.specs.Error.{and_then}
use Rattle.linux_loader.specs.Image.{Tells}
use Rattle.linux_loader.specs.Load.{LoadsSegment}
use Rattle.linux_loader.specs.Runtime.{field_since, first_free}
use Rattle.linux_loader.specs.declared.error.LoaderError.{LoaderError}
use Rattle.linux_loader.specs.declared.error.LoaderError.TheVariants as errors
use Rattle.linux_loader.specs.declared.plan.KernelLoaderResult.{KernelLoaderResult}
use Rattle.linux_loader.specs.declared.segment.Segment.{Segment}

-- the greatest address that an initrd may have: a bzImage of version 2.03 says it at 0x22c
abbrev pub greatest : ℕ → Option (List ℕ) → ℕ
greatest limit None = limit
greatest limit (Some h) = min limit (unwrap_or (field_since h 0x203 0x3b) 0x37ffffff)

-- the first byte of the page of an address
abbrev pub page_of : ℕ → ℕ
page_of a = a - a % 4096

-- the highest page at which N bytes pass no address, if it lies at or after an end
abbrev pub highest_page : ℕ → ℕ → ℕ → Result GuestAddress LoaderError
highest_page end most size = if size == 0 then Err errors.EmptyInitrd
    else if nat_lt most (size - 1) then Err errors.NoRoomForInitrd
    else if nat_lt (page_of (most - (size - 1))) end then Err errors.NoRoomForInitrd
    else Ok (record { 0 = page_of (most - (size - 1)) })

-- the highest page above all that the kernel uses
abbrev pub initrd_address : KernelLoaderResult → ℕ → ℕ → Result GuestAddress LoaderError
initrd_address k size limit =
    highest_page (first_free k.kernel_end k.runtime_area) (greatest limit k.setup_header) size

-- all of an initrd, at an address
abbrev pub initrd_at : ℕ → GuestAddress → Segment
initrd_at size a = record { file_offset = 0; addr = a; file_size = size; size = size }

module _ {S B : Type 0} (bytes : S → Option (List ℕ)) (source : S → Option (List Next))
    (reads : S → List ℕ → Answer → List ℕ → S → Type 0) (known : S → Option ℕ) (marks : B → ℕ → ℕ → B → Type 0)
    (m : Memory) where
  -- an initrd was loaded as a segment, or nothing was, and then the host is as it was
  pub record LoadsInitrd (k : KernelLoaderResult) (limit : ℕ) (old : S × Host B) (answer : Result Segment LoaderError)
      (new : S × Host B) : Type 0 where
    pub size : Result ℕ VolatileMemoryError
    pub initrd : S
    pub told : Tells bytes old.0 (λ all. length all) size initrd
    pub loads : MatchResult size
        (λ n. MatchResult (initrd_address k n limit)
        (λ a. (loaded : Result (Unit {0}) LoaderError)
        × LoadsSegment bytes source reads known marks m (initrd_at n a) (initrd, old.1) loaded new
        × (answer ≡ and_then loaded (λ _. Ok (initrd_at n a))))
        (λ e. (answer ≡ Err e) × (new ≡ (initrd, old.1))))
        (λ e. (answer ≡ Err (errors.Image e)) × (new ≡ (initrd, old.1)))
