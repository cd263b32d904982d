use Rattle.std.proofs.Common.{◌≡◌, ◌+◌, ◌-◌, arith}
use Rattle.vm_memory_base.proofs.PutLemmas.{put_one}
use Rattle.vm_memory_base.proofs.SideLemmas.{put_clear}
use Rattle.vm_memory_base.proofs.iotlb.run_map.RunMap.put_alone.Goals as goal

pub returns-in_default-clause-ok : goal.returns-in_default-clause-ok
returns-in_default-clause-ok c = rw c.in_default.is c.take_out.ensures

pub returns-then-not-site-clause-ok : goal.returns-then-not-site-clause-ok
returns-then-not-site-clause-ok c =
    let starts : c.in-Some.run'.start ≡ c.args.site.now.start = rw c.in-Some.is at c.requires.starts in
    let to : c.args.site.now.end - 1 + 1 ≡ c.args.site.now.end = omega arith in
    let put = put_one c.args.site.now.start c.args.site.now.end c.in-Some.run' c.args.self.now c.insert.new.self
    c.remove_between.new.self starts c.requires.order c.in_ok-insert.ensures.ok (rw to at c.remove_between.ensures) in
    rw c.in-Some.is put

pub returns-else-not-site-clause-ok : goal.returns-else-not-site-clause-ok
returns-else-not-site-clause-ok c =
    let starts : c.in-Some.run'.start ≡ c.args.site.now.start = rw c.in-Some.is at c.requires.starts in
    let next = c.requires.clear c.if-not-site.false in
    let put = put_clear c.args.site.now.start c.args.site.now.end c.in-Some.run' c.args.self.now c.insert.new.self
    starts
    c.in_ok-insert.ensures.ok next in
    rw c.in-Some.is put
