use Rattle.std.proofs.Common.{◌≡◌, nat_lt, refl, sym, subst, false}
use Rattle.std.specs.Option.{option_or}
use Rattle.virtio_queue.specs.Any.{Waits}
use Rattle.virtio_queue.specs.declared.any.AnyQueue.{AnyQueue}
use Rattle.virtio_blk.specs.Process.{error_in, or_value}
use Rattle.virtio_blk.proofs.ProcessFacts.{asked_waits, done_answer, option_or-none}
use Rattle.virtio_blk.proofs.device.BlockDevice.process.Goals as goal
use Rattle.virtio_blk.proofs.device.BlockDevice.process.Goals.{in-Ok, in-Err, in-Ok-needs_notification, in-Err-needs_notification}

pub returns : goal.returns
returns g c =
    let all = c.serve_all-count in
    let more : (c.match-more.more.0 ≡ or_value false all.result.1) × (c.match-more.more.1 ≡ error_in all.result.1) =
    elim c.match-more.branch [
      | in-Ok w ↦ rw (w.more-is, w.in-Ok.is) (refl, refl)
      | in-Err w ↦ rw (w.more-is, w.in-Err.is) (refl, refl)
    ] in
    let told : (c.match-needs_notification.interrupt ≡ or_value (nat_lt 0 all.result.0) c.needs_notification.result)
    × (c.match-needs_notification.failed ≡ option_or c.match-more.more.1 (error_in c.needs_notification.result)) =
    elim c.match-needs_notification.branch [
      | in-Ok-needs_notification w ↦ (
        rw (w.interrupt-is, w.in-Ok-needs_notification.is) refl,
        rw (w.failed-is, w.in-Ok-needs_notification.is) (sym (option_or-none c.match-more.more.1)),
      )
      | in-Err-needs_notification w ↦ (
        rw (w.interrupt-is, w.in-Err-needs_notification.is) refl,
        rw (w.failed-is, w.or-failed.ensures, w.in-Err-needs_notification.is) refl,
      )
    ] in
    let failed : c.match-needs_notification.failed
    ≡ option_or (error_in all.result.1) (error_in c.needs_notification.result) = rw (← more.1) told.1 in
    record {
      processed = record {
        answer = all.result.1;
        last = record { device = all.new.self; queue = all.new.queue; host = all.new.host };
        needs = c.needs_notification.result;
        runs = all.ensures.runs;
        more = more.0;
        asked = c.needs_notification.ensures.needs;
        interrupt = told.0;
        failed = failed;
        left = rw c.needs_notification.ensures.asked refl;
      };
      waits = λ done.
          let ended = done_answer all.result.1 c.needs_notification.result c.match-more.more.0
          c.match-needs_notification.failed more.0 failed done.0 done.1 in
          let m = g.M.GuestMemory.memory c.args.mem.now in
          subst (λ (q : AnyQueue). Waits m all.new.host q) (sym c.needs_notification.ensures.asked)
          (asked_waits m all.new.host all.new.queue c.needs_notification.result (all.ensures.waits ended));
      shape = all.ensures.shape;
    }
