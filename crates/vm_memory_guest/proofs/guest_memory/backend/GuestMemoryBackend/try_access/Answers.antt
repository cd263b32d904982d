use Rattle.std.proofs.Common.{◌∙◌, ◌+◌, Ok, Err, ap, refl, inl, inr, arith}
use Rattle.std.proofs.lemmas.Bool.Decides.{nat_tests}
use denote.Param.Always.{mut_next}
use Rattle.std.proofs.lemmas.Result.{err_from_is_err_and}
use Rattle.vm_memory_guest.specs.TryAccess.{after_call}
use Rattle.vm_memory_guest.specs.declared.region.error.GuestMemoryError.TheVariants.{InvalidGuestAddress}
use Rattle.vm_memory_guest.proofs.TryLemmas.{ends-here, goes-on, ends-nowhere}
use Rattle.vm_memory_guest.proofs.QueryLemmas.{found-from, found-below}
use Rattle.vm_memory_guest.proofs.guest_memory.backend.GuestMemoryBackend.try_access.Goals as goal

pub loop-region-init : goal.loop-region-init
loop-region-init g c = (c.requires, inr refl, λ answer last h. h)

pub overflow_sub-offset : goal.overflow_sub-offset
overflow_sub-offset g c =
    let rs = g.Self.GuestMemoryBackend.regions c.args.self.now in
    let low = found-from g.Self.R.GuestMemoryRegion.region rs c.loop-region.current.0 c.in-Some.region.now
    c.in-Some.ensures.found in
    omega (arith, c.start_addr.ensures)

pub overflow_sub-len : goal.overflow_sub-len
overflow_sub-len g c =
    let rs = g.Self.GuestMemoryBackend.regions c.args.self.now in
    let high = found-below g.Self.R.GuestMemoryRegion.region rs c.loop-region.current.0 c.in-Some.region.now
    c.in-Some.ensures.found in
    omega (arith, c.start_addr.ensures, c.len.ensures)

pub returns-in_err-handled : goal.returns-in_err-handled
returns-in_err-handled g c =
    let region = g.Self.R.GuestMemoryRegion.region in
    let rs = g.Self.GuestMemoryBackend.regions c.args.self.now in
    let p = err_from_is_err_and c.from_residual.result c.from_residual.ensures.1 in
    let e = c.in_err-handled.field-0.0 in
    let end = ends-here region rs g.F.FnMut c.args.addr.0 c.args.count c.loop-region.f c.f.new.self c.in-Some.region
    c.loop-region.total c.loop-region.current.0 c.start_addr.result.0 c.len.result c.min-len.result c.f.result
    c.f.ensures c.start_addr.ensures c.len.ensures c.min-len.ensures c.in-Some.ensures.found
    (Err e) (ap (after_call c.args.count c.loop-region.total c.loop-region.current.0) c.in_err-handled.was) in
    rw (p.1, p.2) (c.f.new.self, c.loop-region.invariant.2 (Err e) c.f.new.self end)

pub returns-in_err-next : goal.returns-in_err-next
returns-in_err-next g c =
    let region = g.Self.R.GuestMemoryRegion.region in
    let rs = g.Self.GuestMemoryBackend.regions c.args.self.now in
    let p = err_from_is_err_and c.from_residual-in_err-next.result c.from_residual-in_err-next.ensures.1 in
    let e = c.in_err-next.field-0.0 in
    let end = ends-here region rs g.F.FnMut c.args.addr.0 c.args.count c.loop-region.f c.f.new.self c.in-Some.region
    c.loop-region.total c.loop-region.current.0 c.start_addr.result.0 c.len.result c.min-len.result c.f.result
    c.f.ensures c.start_addr.ensures c.len.ensures c.min-len.ensures c.in-Some.ensures.found
    (Err e) (ap (after_call c.args.count c.loop-region.total c.loop-region.current.0) c.in_ok-handled.was
    ∙ c.in_err-next.ensures) in
    rw (p.1, p.2) (c.f.new.self, c.loop-region.invariant.2 (Err e) c.f.new.self end)

pub returns-in_default-next : goal.returns-in_default-next
returns-in_default-next g c =
    let region = g.Self.R.GuestMemoryRegion.region in
    let rs = g.Self.GuestMemoryBackend.regions c.args.self.now in
    let answer = Ok (c.loop-region.total + c.in_ok-handled.handled) in
    let end = ends-here region rs g.F.FnMut c.args.addr.0 c.args.count c.loop-region.f c.f.new.self c.in-Some.region
    c.loop-region.total c.loop-region.current.0 c.start_addr.result.0 c.len.result c.min-len.result c.f.result
    c.f.ensures c.start_addr.ensures c.len.ensures c.min-len.ensures c.in-Some.ensures.found
    answer (ap (after_call c.args.count c.loop-region.total c.loop-region.current.0) c.in_ok-handled.was
    ∙ (rw c.in_default-next.is at c.in_ok-next.ensures.1)) in
    (c.f.new.self, c.loop-region.invariant.2 answer c.f.new.self end)

pub loop-region-preserved : goal.loop-region-preserved
loop-region-preserved g c =
    let region = g.Self.R.GuestMemoryRegion.region in
    let rs = g.Self.GuestMemoryBackend.regions c.args.self.now in
    let goes = goes-on region rs g.F.FnMut c.args.addr.0 c.args.count c.loop-region.f c.f.new.self c.in-Some.region
    c.loop-region.total c.loop-region.current.0 c.start_addr.result.0 c.len.result c.min-len.result c.f.result
    c.f.ensures c.start_addr.ensures c.len.ensures c.min-len.ensures c.in-Some.ensures.found
    c.in_ok-handled.handled c.in-Some-next.next.0 in
    let behind = rw c.in-Some-next.is at c.in_ok-next.ensures.1 in (
      mut_next g.F.FnMut c.loop-region.f _ c.f.result c.f.new.self c.f.new.self c.f.ensures refl
          c.loop-region.invariant.0,
      inl behind.2,
      λ answer last rest. c.loop-region.invariant.2 answer last
          (goes answer last c.in_ok-handled.was behind.0 behind.3 rest),
    )

pub returns-then-total-eq0 : goal.returns-then-total-eq0
returns-then-total-eq0 g c =
    let region = g.Self.R.GuestMemoryRegion.region in
    let rs = g.Self.GuestMemoryBackend.regions c.args.self.now in
    let answer = Err (InvalidGuestAddress c.args.addr) in
    let end = ends-nowhere region rs g.F.FnMut c.args.addr.0 c.args.count c.loop-region.f c.loop-region.total
    c.loop-region.current.0 answer c.in_default.ensures.found (grind (arith, nat_tests)) in
    (c.loop-region.f, c.loop-region.invariant.2 answer c.loop-region.f end)

pub returns : goal.returns
returns g c =
    let region = g.Self.R.GuestMemoryRegion.region in
    let rs = g.Self.GuestMemoryBackend.regions c.args.self.now in
    let answer = Ok c.loop-region.total in
    let end = ends-nowhere region rs g.F.FnMut c.args.addr.0 c.args.count c.loop-region.f c.loop-region.total
    c.loop-region.current.0 answer c.in_default.ensures.found (grind (arith, nat_tests)) in
    (c.loop-region.f, c.loop-region.invariant.2 answer c.loop-region.f end)
