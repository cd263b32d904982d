-- What is to be loaded of an image, and where.
use Rattle.std.specs.Prelude.{◌≡◌, ◌⊎◌, ℕ, ◌+◌, ◌^◌, ◌<◌, ◌≤◌, max, List, [], ◌∷◌, AllPairs, Option, unwrap_or, Result, Ok, Err, Vec}
use Rattle.std.specs.declared.alloc.Global.{Global}
use Rattle.vm_memory_base.specs.declared.address.GuestAddress.{GuestAddress}
use Rattle.linux_loader.specs.declared.error.LoaderError.{LoaderError}
use Rattle.linux_loader.specs.declared.error.LoaderError.TheVariants as errors
use Rattle.linux_loader.specs.declared.plan.KernelLoaderResult.{KernelLoaderResult}
use Rattle.linux_loader.specs.declared.plan.KernelPlan.{KernelPlan}
use Rattle.linux_loader.specs.declared.segment.Segment.{Segment}

-- the segments, and what a loader returns
pub record Planned : Type 0 where
  pub segments : List Segment
  pub result : KernelLoaderResult

abbrev pub planned_of : KernelPlan → Planned
planned_of p = record { segments = p.segments.items; result = p.result }

-- an address that may be given, or another
abbrev pub address_or : ℕ → Option GuestAddress → ℕ
address_or other o = (unwrap_or o (record { 0 = other })).0

-- the address after the last byte of a segment
abbrev pub end_of : Segment → ℕ
end_of s = s.addr.0 + s.size

-- and of the highest of segments, 0 of none
abbrev pub highest_end : List Segment → ℕ
highest_end [] = 0
highest_end (s ∷ ss) = max (end_of s) (highest_end ss)

-- a segment has a byte, and the address after its last byte is a number of 64 bits
pub record HasBytes (s : Segment) : Type 0 where
  pub some : 0 < s.size
  pub fits : end_of s < 2 ^ 64

-- two segments share no address
abbrev pub Apart : Segment → Segment → Type 0
Apart s t = (end_of s ≤ t.addr.0) ⊎ (end_of t ≤ s.addr.0)

-- a call returned what is expected, or an allocation failed
abbrev pub Answers : {T : Type 0} → Result T LoaderError → Result T LoaderError → Type 0
Answers expected answer = (answer ≡ expected) ⊎ (answer ≡ Err errors.Memory)

-- the same of a list
abbrev pub Lists : {T : Type 0} → Result (List T) LoaderError → Result (Vec T Global) LoaderError → Type 0
Lists expected (Ok v) = expected ≡ Ok v.items
Lists expected (Err e) = (expected ≡ Err e) ⊎ (e ≡ errors.Memory)

-- what is planned is what is expected, or an allocation failed
abbrev pub Names : Result Planned LoaderError → Result KernelPlan LoaderError → Type 0
Names expected (Ok p) = expected ≡ Ok (planned_of p)
Names expected (Err e) = (expected ≡ Err e) ⊎ (e ≡ errors.Memory)

-- what is planned is what is expected, if no two segments share an address. Or an allocation failed, if one is made
abbrev pub Plans : Type 0 → Result Planned LoaderError → Result KernelPlan LoaderError → Type 0
Plans allocates expected (Ok p) = (expected ≡ Ok (planned_of p)) × AllPairs Apart p.segments.items
Plans allocates expected (Err e) = (expected ≡ Err e) ⊎ (((e ≡ errors.Memory) × allocates)
    ⊎ ((e ≡ errors.SegmentsOverlap) × (p : Planned) × (expected ≡ Ok p) × ¬ AllPairs Apart p.segments))
