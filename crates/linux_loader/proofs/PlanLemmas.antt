-- What is planned of an ELF file, step by step.
use Rattle.std.proofs.Common.{◌≡◌, ◌⊎◌, ◌∙◌, ℕ, ◌+◌, ◌-◌, ◌<◌, ◌≤◌, List, ◌∷◌, [], arith, false, nat_lt, drop, length, length-drop, min, take, AllPairs, Option, Result, Ok, Err, IsOkAnd, MatchResult, Vec, ap, inl, inr, refl, subst, sym}
use Rattle.std.proofs.lemmas.Bool.{cases_lt}
use Rattle.std.proofs.lemmas.Bool.Decides.{nat_tests}
use Rattle.std.proofs.lemmas.List.{take_min}
use Rattle.std.specs.declared.alloc.Global.{Global}
use Rattle.vm_memory_base.specs.declared.address.GuestAddress.{GuestAddress}
use Rattle.linux_loader.specs.BzImage.{BzAllocates, bz_kernel, bz_named, bz_plan, bz_planned, header_as_loaded, header_in, planned_with}
use Rattle.linux_loader.specs.Elf.{ElfAllocates, elf_header, elf_named, elf_plan, elf_planned, entry_at, headers_in, program_headers, pvh_entry, segments_of, some_segments}
use Rattle.linux_loader.specs.Error.{and_then}
use Rattle.linux_loader.specs.Plan.{Answers, Apart, Lists, Names, Planned, Plans, planned_of}
use Rattle.linux_loader.specs.Runtime.{runtime_area}
use Rattle.linux_loader.specs.declared.elf.header.ElfHeader.{ElfHeader}
use Rattle.linux_loader.specs.declared.elf.header.ProgramHeader.{ProgramHeader}
use Rattle.linux_loader.specs.declared.error.LoaderError.{LoaderError}
use Rattle.linux_loader.specs.declared.error.LoaderError.TheVariants as errors
use Rattle.linux_loader.specs.declared.plan.KernelPlan.{KernelPlan}
use Rattle.linux_loader.specs.declared.segment.Segment.{Segment}
use Rattle.linux_loader.specs.declared.runtime.RuntimeArea.{RuntimeArea}

-- a list that was expected
pub listed : {T : Type 0} (xs : List T) (v : Vec T Global) → Lists (Ok xs) (Ok v) → v.items ≡ xs
listed xs v h = cc

pub not_listed : {T : Type 0} (xs : List T) (e : LoaderError) → Lists (Ok xs) (Err e) → e ≡ errors.Memory
not_listed xs e (inl h) = absurd (cc)
not_listed xs e (inr memory) = memory

-- a header without program headers names no segment
pub named_none : (all : List ℕ) (offset : ℕ) (h : ElfHeader) → h.count ≡ 0
    → Names (elf_named all offset h) (Err errors.NoLoadSegment)
unfolding elf_named program_headers segments_of
named_none all offset h none = inl (rw none refl)

module _ (all : List ℕ) (offset : ℕ) (h : ElfHeader) (size : ℕ) (headers : List ProgramHeader)
    (sized : size ≡ length all) (read : headers ≡ headers_in all h) where
  -- what comes of each answer
  abbrev From : Result (List Segment) LoaderError → Result GuestAddress LoaderError
      → Result (Option ℕ) LoaderError → Result Planned LoaderError
  From segments entry pvh = and_then segments (λ segments. and_then entry (λ entry. and_then pvh (λ pvh.
      Ok (elf_planned segments entry pvh))))

  named_from : elf_named all offset h
      ≡ From (some_segments size offset headers) (entry_at h.entry offset) (pvh_entry all headers)
  unfolding elf_named
  named_from = rw (sized, read) refl

  pub named_no_segments : (e : LoaderError) → Lists (some_segments size offset headers) (Err e)
      → Names (elf_named all offset h) (Err e)
  named_no_segments e (inl is) = inl (named_from ∙ ap (λ (r : Result (List Segment) LoaderError).
      From r (entry_at h.entry offset) (pvh_entry all headers)) is)
  named_no_segments e (inr memory) = inr memory

  module _ (segments : Vec Segment Global) (found : Lists (some_segments size offset headers) (Ok segments)) where
    with_segments : elf_named all offset h ≡ From (Ok segments.items) (entry_at h.entry offset) (pvh_entry all headers)
    with_segments = named_from ∙ ap (λ (r : Result (List Segment) LoaderError).
        From r (entry_at h.entry offset) (pvh_entry all headers)) found

    pub named_no_entry : (e : LoaderError) → Err e ≡ entry_at h.entry offset → Names (elf_named all offset h) (Err e)
    named_no_entry e is = inl (with_segments ∙ ap (λ (r : Result GuestAddress LoaderError).
        From (Ok segments.items) r (pvh_entry all headers)) (sym is))

    module _ (entry : GuestAddress) (at : Ok entry ≡ entry_at h.entry offset) where
      with_entry : elf_named all offset h ≡ From (Ok segments.items) (Ok entry) (pvh_entry all headers)
      with_entry = with_segments ∙ ap (λ (r : Result GuestAddress LoaderError).
          From (Ok segments.items) r (pvh_entry all headers)) (sym at)

      pub named_no_pvh : (e : LoaderError) → Answers (pvh_entry all headers) (Err e)
          → Names (elf_named all offset h) (Err e)
      named_no_pvh e (inl is) = inl (with_entry ∙ ap (λ (r : Result (Option ℕ) LoaderError).
          From (Ok segments.items) (Ok entry) r) (sym is))
      named_no_pvh e (inr is) = inr (let same : e ≡ errors.Memory = cc in same)

      pub named_all : (pvh : Option ℕ) (p : KernelPlan) → Answers (pvh_entry all headers) (Ok pvh)
          → planned_of p ≡ elf_planned segments.items entry pvh → Names (elf_named all offset h) (Ok p)
      named_all pvh p (inl is) made = with_entry ∙ ap (λ (r : Result (Option ℕ) LoaderError).
          From (Ok segments.items) (Ok entry) r) (sym is) ∙ ap (λ (x : Planned). Ok x) (sym made)
      named_all pvh p (inr is) made = absurd (cc)

module _ (all : List ℕ) (offset lowest : ℕ) where
  plan_from : elf_plan all offset lowest ≡ and_then (elf_header all lowest) (λ h. elf_named all offset h)
  unfolding elf_plan
  plan_from = refl

  pub plan_no_header : (e : LoaderError) → Err e ≡ elf_header all lowest
      → Plans (ElfAllocates all lowest) (elf_plan all offset lowest) (Err e)
  plan_no_header e is = inl (plan_from ∙ ap (λ (r : Result ElfHeader LoaderError).
      and_then r (λ h. elf_named all offset h)) (sym is))

  module _ (h : ElfHeader) (header : Ok h ≡ elf_header all lowest) where
    with_header : elf_plan all offset lowest ≡ elf_named all offset h
    with_header = plan_from ∙ ap (λ (r : Result ElfHeader LoaderError). and_then r (λ h. elf_named all offset h))
        (sym header)

    allocates : 0 < h.count → ElfAllocates all lowest
    allocates some =
        subst (λ (r : Result ElfHeader LoaderError). IsOkAnd r (λ (x : ElfHeader). 0 < x.count)) header some

    pub plan_not_named : (e : LoaderError) → Names (elf_named all offset h) (Err e)
        → (h.count ≡ 0 → e ≡ errors.NoLoadSegment) → Plans (ElfAllocates all lowest) (elf_plan all offset lowest) (Err e)
    plan_not_named e (inl is) none = inl (with_header ∙ is)
    plan_not_named e (inr memory) none = inr (inl (
      memory,
      allocates (elim (cases_lt 0 h.count) [
        | inl some ↦ some
        | inr less ↦ let is = none (omega arith) in absurd (cc)
      ]),
    ))

    pub plan_named : (p : KernelPlan) (r : Result KernelPlan LoaderError) → 0 < h.count → Names (elf_named all offset h) (Ok p)
        → MatchResult r (λ q. (planned_of q ≡ planned_of p) × AllPairs Apart q.segments.items)
        (λ e. (e ≡ errors.Memory) ⊎ ((e ≡ errors.SegmentsOverlap) × ¬ AllPairs Apart p.segments.items))
        → Plans (ElfAllocates all lowest) (elf_plan all offset lowest) r
    plan_named p (Ok q) some named (same, apart) =
        (with_header ∙ named ∙ ap (λ (x : Planned). Ok x) (sym same), apart)
    plan_named p (Err e) some named (inl memory) = inr (inl (memory, allocates some))
    plan_named p (Err e) some named (inr (is, overlap)) = inr (inr (is, planned_of p, with_header ∙ named, overlap))

-- ---- bzImages

module _ (h : List ℕ) (size : ℕ) (at : Option GuestAddress) (lowest : ℕ) where
  kernel_from : bz_named h size at lowest ≡ and_then (bz_kernel h size at lowest) (λ kernel. bz_planned h kernel)
  unfolding bz_named
  kernel_from = refl

  pub bz_no_kernel : (e : LoaderError) → Err e ≡ bz_kernel h size at lowest
      → Names (bz_named h size at lowest) (Err e)
  bz_no_kernel e is = inl (kernel_from ∙ ap (λ (r : Result Segment LoaderError).
      and_then r (λ kernel. bz_planned h kernel)) (sym is))

  module _ (kernel : Segment) (is : Ok kernel ≡ bz_kernel h size at lowest) where
    -- what comes of where the kernel runs
    abbrev FromArea : Result (Option RuntimeArea) LoaderError → Result Planned LoaderError
    FromArea area = and_then area (λ area.
        Ok (planned_with (kernel ∷ []) kernel (header_as_loaded h kernel.addr.0) area))

    with_kernel : bz_named h size at lowest
        ≡ FromArea (runtime_area (header_as_loaded h kernel.addr.0) kernel.addr.0)
    with_kernel = kernel_from ∙ ap (λ (r : Result Segment LoaderError). and_then r (λ kernel. bz_planned h kernel))
        (sym is)

    pub bz_no_area : (header : List ℕ) (e : LoaderError) → header ≡ header_as_loaded h kernel.addr.0
        → Err e ≡ runtime_area header kernel.addr.0 → Names (bz_named h size at lowest) (Err e)
    bz_no_area header e loaded none = inl (with_kernel ∙ ap FromArea (sym (rw loaded at none)))

    pub bz_all : (header : List ℕ) (area : Option RuntimeArea) (p : KernelPlan)
        → header ≡ header_as_loaded h kernel.addr.0 → Ok area ≡ runtime_area header kernel.addr.0
        → planned_of p ≡ planned_with (kernel ∷ []) kernel header area → Names (bz_named h size at lowest) (Ok p)
    bz_all header area p loaded found made = with_kernel ∙ ap FromArea (sym (rw loaded at found))
        ∙ ap (λ (x : Planned). Ok x) (sym (rw loaded at made))

module _ (all : List ℕ) (at : Option GuestAddress) (lowest : ℕ) where
  bz_from : bz_plan all at lowest ≡ and_then (header_in all) (λ h. bz_named h (length all) at lowest)
  unfolding bz_plan
  bz_from = refl

  pub bz_no_header : (e : LoaderError) → Lists (header_in all) (Err e)
      → (length all < 0x218 → e ≡ errors.ReadBzImageHeader) → Plans (BzAllocates all) (bz_plan all at lowest) (Err e)
  bz_no_header e (inl is) short = inl (bz_from ∙ ap (λ (r : Result (List ℕ) LoaderError).
      and_then r (λ h. bz_named h (length all) at lowest)) is)
  bz_no_header e (inr memory) short = inr (inl (
    memory,
    elim (cases_lt (length all) 0x218) [
      | inl less ↦ let is = short less in absurd (cc)
      | inr long ↦ let test : nat_lt (length all) 0x218 ≡ false = grind (arith, nat_tests) in rw test refl
    ],
  ))

  module _ (h : List ℕ) (header : header_in all ≡ Ok h) where
    bz_with : bz_plan all at lowest ≡ bz_named h (length all) at lowest
    bz_with = bz_from ∙ ap (λ (r : Result (List ℕ) LoaderError). and_then r (λ h. bz_named h (length all) at lowest))
        header

    bz_allocates : BzAllocates all
    bz_allocates = rw header refl

    pub bz_not_named : (e : LoaderError) → Names (bz_named h (length all) at lowest) (Err e)
        → Plans (BzAllocates all) (bz_plan all at lowest) (Err e)
    bz_not_named e (inl is) = inl (bz_with ∙ is)
    bz_not_named e (inr memory) = inr (inl (memory, bz_allocates))

    pub bz_is_named : (p : KernelPlan) (r : Result KernelPlan LoaderError)
        → Names (bz_named h (length all) at lowest) (Ok p)
        → MatchResult r (λ q. (planned_of q ≡ planned_of p) × AllPairs Apart q.segments.items)
        (λ e. (e ≡ errors.Memory) ⊎ ((e ≡ errors.SegmentsOverlap) × ¬ AllPairs Apart p.segments.items))
        → Plans (BzAllocates all) (bz_plan all at lowest) r
    bz_is_named p (Ok q) named (same, apart) = (bz_with ∙ named ∙ ap (λ (x : Planned). Ok x) (sym same), apart)
    bz_is_named p (Err e) named (inl memory) = inr (inl (memory, bz_allocates))
    bz_is_named p (Err e) named (inr (is, overlap)) = inr (inr (is, planned_of p, bz_with ∙ named, overlap))

-- ---- the header of a bzImage

pub header_cut : (all : List ℕ) (n : ℕ) → n ≡ min (length all - 0x1f1) 272
    → take n (drop 0x1f1 all) ≡ take 272 (drop 0x1f1 all)
header_cut all n is =
    let size = length-drop 0x1f1 all in
    let m : n ≡ min 272 (length (drop 0x1f1 all)) = omega arith in
    rw m (take_min 272 (drop 0x1f1 all))

pub header_read : (all : List ℕ) (size n : ℕ) (r : Result (Vec ℕ Global) LoaderError) → 0x218 ≤ size
    → n ≡ min (size - 0x1f1) 272 → size ≡ length all
    → (0x1f1 + n ≤ length all → MatchResult r (λ bytes. bytes.items ≡ take n (drop 0x1f1 all))
    (λ e. e ≡ errors.Memory))
    → Lists (header_in all) r
header_read all size n r long is sized read = go r (read (omega arith))
  where
    test : nat_lt (length all) 0x218 ≡ false
    test = grind (arith, nat_tests)

    go : (r : Result (Vec ℕ Global) LoaderError)
        → MatchResult r (λ bytes. bytes.items ≡ take n (drop 0x1f1 all)) (λ e. e ≡ errors.Memory)
        → Lists (header_in all) r
    go (Ok bytes) h = rw test (ap (λ (xs : List ℕ). Ok xs) (sym (h ∙ header_cut all n (rw (← sized) is))))
    go (Err e) memory = inr memory
