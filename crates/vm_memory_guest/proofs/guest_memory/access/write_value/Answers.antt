use Rattle.std.proofs.Common.{◌≡◌, length, arith, ◌∙◌}
use Rattle.vm_memory_guest.proofs.AccessLemmas.{gave, ends_in, ends_whole, next_fits, answer-whole, answer-ends, wrote_first, wrote-held, wrote-ends}
use Rattle.vm_memory_guest.proofs.TypedWalk.{wrote_next}
use Rattle.vm_memory_guest.proofs.guest_memory.access.write_value.Goals as goal

pub loop-item-init : goal.loop-item-init
loop-item-init g c = rw c.into_iter-item-iterator.ensures.into_iter_gives
    (wrote_first g.B.Bitmap.marks c.args.walk (g.V.ByteValued.bytes c.args.value.now) c.args.host.now)

pub write_value-requires : goal.write_value-requires
write_value-requires g c =
    let fits = next_fits c.loop-item.invariant.came c.in-Some.ensures.steps c.in-Ok.is _ c.requires.fits in record {
      held = wrote-held g.B.Bitmap.marks c.loop-item.invariant c.in-Some.ensures.steps c.in-Ok.is c.requires.held;
      inside = omega arith;
      fits = omega arith;
    }

pub overflow_add-total : goal.overflow_add-total
overflow_add-total g c =
    let fits = next_fits c.loop-item.invariant.came c.in-Some.ensures.steps c.in-Ok.is _ c.requires.fits in
    omega (arith, c.len-total.ensures)

pub loop-item-preserved : goal.loop-item-preserved
loop-item-preserved g c =
    let long : length (g.V.ByteValued.bytes c.args.value.now) ≡ g.V.ByteSized.width =
    g.met.V.ByteValued.laws.length_bytes c.args.value.now c.recall_law.ensures in
    wrote_next g.B.Bitmap.marks c.loop-item.invariant
    (gave c.loop-item.item-iterator c.next.new.self _ _ c.in-Some.ensures.steps c.in-Ok.is)
    c.write_value.new.self c.len-total.result c.len-total.ensures (omega (arith, c.requires.fits))
    c.write_value.ensures.bytes

pub returns-in-Err : goal.returns-in-Err
returns-in-Err g c =
    let end = ends_in c.loop-item.item-iterator _ _ _ c.in-Some.ensures.steps c.in-Err.is in record {
      answer = c.ended.ensures ∙ answer-ends c.loop-item.invariant.came end;
      bytes = wrote-ends g.B.Bitmap.marks c.loop-item.invariant end;
    }

pub returns : goal.returns
returns g c =
    let end = ends_whole c.loop-item.item-iterator c.in-None.ensures.steps.0 in record {
      answer = answer-whole c.loop-item.invariant.came end;
      bytes = wrote-ends g.B.Bitmap.marks c.loop-item.invariant end;
    }
