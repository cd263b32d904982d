use Rattle.std.proofs.Common.{◌≡◌, refl, ◌∙◌}
use Rattle.vm_memory_base.proofs.PutLemmas.{put_two, taken_back, gone_after}
use Rattle.vm_memory_base.proofs.SideLemmas.{clear_kept}
use Rattle.vm_memory_base.proofs.ChangeLemmas.{on_ok, on_err}
use Rattle.vm_memory_base.proofs.iotlb.run_map.RunMap.put.Goals as goal

pub returns-then-is_err-clause-err : goal.returns-then-is_err-clause-err
returns-then-is_err-clause-err c =
    let end = c.args.site.now.end in
    let starts : c.in-Some.next.start ≡ end = rw c.in-Some.is at c.requires.site.back.starts in
    on_err c.put_alone-put.result
    (λ e. taken_back end c.in-Some.next c.args.self.now c.put_alone-put.new.self c.remove-then-is_err.new.self starts
    c.requires.ascending (c.requires.site.back.absent c.if-back-2.false) (e ∙ c.in_ok-insert.ensures.ok)
    c.remove-then-is_err.ensures)
    c.put_alone-put.ensures.err

pub returns-else-is_err-clause-ok : goal.returns-else-is_err-clause-ok
returns-else-is_err-clause-ok c =
    let site = c.args.site.now in
    let starts : c.in-Some.next.start ≡ site.end = rw c.in-Some.is at c.requires.site.back.starts in
    let told = put_two site.start site.end c.in-Some.next c.args.self.now c.insert.new.self starts
    c.requires.site.order c.in_ok-insert.ensures.ok in
    on_ok c.put_alone-put.result (λ e. e ∙ rw (told.0, told.1, c.in-Some.is) refl) c.put_alone-put.ensures.ok

pub put_alone-put-requires-clause-clear : goal.put_alone-put-requires-clause-clear
put_alone-put-requires-clause-clear c t =
    let site = c.args.site.now in
    let starts : c.in-Some.next.start ≡ site.end = rw c.in-Some.is at c.requires.site.back.starts in
    clear_kept site.start site.end c.in-Some.next c.args.self.now c.insert.new.self c.requires.ascending starts
    c.requires.site.order c.in_ok-insert.ensures.ok (c.requires.site.clear t)

pub returns-then-back-clause-ok : goal.returns-then-back-clause-ok
returns-then-back-clause-ok c =
    let site = c.args.site.now in
    rw c.in_default.is
    (gone_after site.start site.end c.args.run c.args.self.now c.put_alone.new.self c.remove.new.self
    c.requires.site.order c.requires.starts c.in_ok-put_alone.ensures.ok c.remove.ensures)
