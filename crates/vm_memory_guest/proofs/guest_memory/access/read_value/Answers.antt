use Rattle.std.proofs.Common.{◌≡◌, ◌∙◌, length, ap, arith}
use Rattle.vm_memory_guest.specs.Host.{Holds, shape_of}
use Rattle.vm_memory_guest.specs.Window.{window_names}
use Rattle.vm_memory_guest.proofs.HostLemmas.{length-bytes}
use Rattle.vm_memory_guest.proofs.AccessLemmas.{gave, ends_in, ends_whole, next_all, next_fits, answer-whole, answer-ends, filled_first, filled-ends}
use Rattle.vm_memory_guest.proofs.TypedWalk.{filled_next}
use Rattle.vm_memory_guest.proofs.guest_memory.access.read_value.Goals as goal

pub loop-item-init : goal.loop-item-init
loop-item-init g c = rw c.into_iter-item-iterator.ensures.into_iter_gives
    (filled_first c.args.walk c.args.host.now.blocks (g.V.ByteValued.bytes c.args.value.now))

pub bytes-requires : goal.bytes-requires
bytes-requires g c =
    next_all c.loop-item.invariant.came c.in-Some.ensures.steps c.in-Ok.is
    (λ v. Holds (shape_of c.args.host.now) (window_names v)) c.requires.held

pub set_bytes-requires : goal.set_bytes-requires
set_bytes-requires g c =
    let fits = next_fits c.loop-item.invariant.came c.in-Some.ensures.steps c.in-Ok.is _ c.requires.fits in
    let long = ap length c.bytes.ensures ∙ length-bytes c.args.host.now.blocks c.in-Ok.window in
    record { inside = omega arith; fits = omega arith }

pub overflow_add-total : goal.overflow_add-total
overflow_add-total g c =
    let fits = next_fits c.loop-item.invariant.came c.in-Some.ensures.steps c.in-Ok.is _ c.requires.fits in
    omega (arith, c.len-total.ensures)

pub loop-item-preserved : goal.loop-item-preserved
loop-item-preserved g c =
    let long : length c.bytes.result.now ≡ c.in-Ok.window.size =
    ap length c.bytes.ensures ∙ length-bytes c.args.host.now.blocks c.in-Ok.window in
    filled_next c.loop-item.invariant
    (gave c.loop-item.item-iterator c.next.new.self _ _ c.in-Some.ensures.steps c.in-Ok.is)
    (g.V.ByteValued.bytes c.set_bytes.new.self) c.bytes.result.now c.len-total.result c.len-total.ensures long
    c.bytes.ensures c.set_bytes.ensures

pub returns-in-Err : goal.returns-in-Err
returns-in-Err g c =
    let end = ends_in c.loop-item.item-iterator _ _ _ c.in-Some.ensures.steps c.in-Err.is in record {
      answer = c.ended.ensures ∙ answer-ends c.loop-item.invariant.came end;
      bytes = filled-ends c.loop-item.invariant end;
    }

pub returns : goal.returns
returns g c =
    let end = ends_whole c.loop-item.item-iterator c.in-None.ensures.steps.0 in record {
      answer = answer-whole c.loop-item.invariant.came end;
      bytes = filled-ends c.loop-item.invariant end;
    }
