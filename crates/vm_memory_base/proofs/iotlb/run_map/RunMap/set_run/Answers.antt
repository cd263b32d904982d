use Rattle.std.proofs.Common.{◌≡◌, ◌+◌, ◌<◌, ◌≤◌, ◌++◌, ◌∷◌, false, length, IfSome, sym, ap, subst, ◌∙◌, arith}
use Rattle.vm_memory_base.specs.Change.{EndBelow, IsKept, runs_below, runs_from, start_or, with_run}
use Rattle.vm_memory_base.specs.Site.{IsFront, IsReplaced, CutsInFront}
use Rattle.vm_memory_base.specs.Table.{same_mapping, canonical_list}
use Rattle.vm_memory_base.specs.declared.iotlb.site.Edge.{Edge}
use Rattle.vm_memory_base.proofs.StartLemmas.{ascending_canonical}
use Rattle.vm_memory_base.proofs.SiteLemmas.{replaced_at, set_over, stands_alone}
use Rattle.vm_memory_base.proofs.ChangeLemmas.{on_ok, either_way}
use Rattle.vm_memory_base.proofs.iotlb.run_map.RunMap.set_run.Goals as goal
use Rattle.vm_memory_base.proofs.iotlb.run_map.RunMap.set_run.Goals.{After-insert, After-replace}

told : (c : After-replace)
    → IsReplaced c.args.self.now c.joined-site.result.0 c.joined-site.result.1 c.replace.new.self
    → (IsKept c.replace.new.self × (c.replace.new.self ≡ canonical_list (with_run c.args.run c.args.self.now)))
    × (length c.replace.new.self ≤ length c.args.self.now + 2)
told c e =
    let rs = c.args.self.now in
    let start = c.start-start.result in
    let met = c.site-met.result in
    let site = c.joined-site.result.0 in
    let same = c.site-met.ensures.same in
    let stays = c.joined-site.ensures.same in
    let front : IsFront rs start met.front × CutsInFront rs start met.front
    × EndBelow start (runs_below (start_or met.front.run start) rs)
    × IfSome met.front.run (λ l. (0 < l.len) × (l.start + l.len ≡ start)) =
    subst (λ (f : Edge). IsFront rs start f × CutsInFront rs start f
    × EndBelow start (runs_below (start_or f.run start) rs) × IfSome f.run
    (λ l. (0 < l.len) × (l.start + l.len ≡ start)))
    (sym same.2) (
      c.front-front.ensures.front,
      c.front-front.ensures.cut,
      c.front-front.ensures.apart,
      c.front-front.ensures.reaches,
    ) in
    let low : start_or site.front.run site.start ≡ start_or met.front.run start =
    stays.2 ∙ ap (start_or met.front.run) same.0 in
    set_over rs c.requires.kept c.args.run c.requires.some c.requires.fits start c.end-end.result c.start-start.ensures
    c.end-end.ensures.value met.front met.back front.0 front.1 front.2 front.3 c.site-met.ensures.cut site.front.run
    c.joined-site.result.1 site.back.run c.joined-site.ensures.joined c.joined-site.ensures.room c.replace.new.self
    (replaced_at rs site c.joined-site.result.1 c.replace.new.self (start_or met.front.run start) c.end-end.result low
    (stays.1 ∙ same.1) e)

pub replace-requires-clause-ascending : goal.replace-requires-clause-ascending
replace-requires-clause-ascending c = ascending_canonical same_mapping c.args.self.now c.requires.kept.canonical

pub returns-clause-ok : goal.returns-clause-ok
returns-clause-ok c = on_ok c.replace.result (λ e. (told c e).0.1) c.replace.ensures.ok

pub returns-clause-kept : goal.returns-clause-kept
returns-clause-kept c =
    either_way c.replace.result c.replace.ensures.ok c.replace.ensures.err (λ e. (told c e).0.0)
    (λ e. subst IsKept (sym e) c.requires.kept)

pub returns-clause-growth : goal.returns-clause-growth
returns-clause-growth c =
    either_way c.replace.result c.replace.ensures.ok c.replace.ensures.err (λ e. (told c e).1)
    (λ e. let l = ap length e in omega arith)

-- where the run stands alone
alone : (c : After-insert) → c.insert.new.self ≡ runs_below c.args.run.start c.args.self.now
    ++ c.args.run ∷ runs_from (c.args.run.start + 1) c.args.self.now
    → (IsKept c.insert.new.self × (c.insert.new.self ≡ canonical_list (with_run c.args.run c.args.self.now)))
    × (length c.insert.new.self ≤ length c.args.self.now + 2)
alone c =
    let near = c.neighbours-near.result in
    let end = c.end-end.ensures.value in
    let differs : IfSome near.last (λ t. c.end-end.result ≡ t.start
    → same_mapping c.args.run.value t.value ≡ false) =
    rw end (c.stands_alone.ensures.last c.if-stands_alone.true) in
    stands_alone c.args.self.now c.requires.kept c.args.run c.requires.some c.end-end.result end (omega arith)
    near.last c.neighbours-near.ensures.near.last differs near.before c.neighbours-near.ensures.near.before
    (c.stands_alone.ensures.before c.if-stands_alone.true) c.insert.new.self

pub returns-then-stands_alone-clause-ok : goal.returns-then-stands_alone-clause-ok
returns-then-stands_alone-clause-ok c = on_ok c.insert.result (λ e. (alone c e).0.1) c.insert.ensures.ok

pub returns-then-stands_alone-clause-kept : goal.returns-then-stands_alone-clause-kept
returns-then-stands_alone-clause-kept c =
    either_way c.insert.result c.insert.ensures.ok c.insert.ensures.err (λ e. (alone c e).0.0)
    (λ e. subst IsKept (sym e) c.requires.kept)

pub returns-then-stands_alone-clause-growth : goal.returns-then-stands_alone-clause-growth
returns-then-stands_alone-clause-growth c =
    either_way c.insert.result c.insert.ensures.ok c.insert.ensures.err (λ e. (alone c e).1)
    (λ e. let l = ap length e in omega arith)
