use Rattle.std.proofs.Common.{◌≡◌, ℕ, ◌+◌, ◌-◌, ◌^◌, ◌<◌, ◌≤◌, ◌++◌, List, Option, Some, None, length, IsSomeAnd, sym, ap, subst, arith}
use Rattle.vm_memory_base.specs.Change.{IsKept, runs_below, runs_from, start_or, without_range}
use Rattle.vm_memory_base.specs.Runs.{AddressRun}
use Rattle.vm_memory_base.specs.Site.{IsFront, IsLastBelow, IsReplaced, CutsInFront}
use Rattle.vm_memory_base.specs.Table.{Mapping, same_mapping, canonical_list}
use Rattle.vm_memory_base.specs.declared.iotlb.site.Edge.{Edge}
use Rattle.vm_memory_base.proofs.StartLemmas.{ascending_canonical}
use Rattle.vm_memory_base.proofs.SiteLemmas.{cleared_over, replaced_at, whole_goes}
use Rattle.vm_memory_base.proofs.ChangeLemmas.{on_ok, either_way}
use Rattle.vm_memory_base.proofs.iotlb.run_map.RunMap.clear_range.Goals as goal
use Rattle.vm_memory_base.proofs.iotlb.run_map.RunMap.clear_range.Goals.{After-replace, After-remove}

cleared : (c : After-replace) → IsReplaced c.args.self.now c.site-site.result None c.replace.new.self
    → (IsKept c.replace.new.self
    × (c.replace.new.self ≡ canonical_list (without_range c.args.start (c.args.end - c.args.start) c.args.self.now)))
    × (length c.replace.new.self ≤ length c.args.self.now + 1)
cleared c e =
    let rs = c.args.self.now in
    let site = c.site-site.result in
    let same = c.site-site.ensures.same in
    let front : IsFront rs c.args.start site.front × CutsInFront rs c.args.start site.front =
    subst (λ (f : Edge). IsFront rs c.args.start f × CutsInFront rs c.args.start f) (sym same.2)
    (c.front_over-front.ensures.front, c.front_over-front.ensures.cut) in
    let low : start_or site.front.run site.start ≡ start_or site.front.run c.args.start =
    ap (start_or site.front.run) same.0 in
    cleared_over rs c.requires.kept c.args.start c.args.end c.requires.some (omega arith) site.front site.back front.0
    front.1 c.site-site.ensures.cut c.replace.new.self
    (replaced_at rs site None c.replace.new.self (start_or site.front.run c.args.start) c.args.end low same.1 e)

pub replace-requires-clause-ascending : goal.replace-requires-clause-ascending
replace-requires-clause-ascending c = ascending_canonical same_mapping c.args.self.now c.requires.kept.canonical

pub returns-clause-ok : goal.returns-clause-ok
returns-clause-ok c = on_ok c.replace.result (λ e. (cleared c e).0.1) c.replace.ensures.ok

pub returns-clause-kept : goal.returns-clause-kept
returns-clause-kept c =
    either_way c.replace.result c.replace.ensures.ok c.replace.ensures.err (λ e. (cleared c e).0.0)
    (λ e. subst IsKept (sym e) c.requires.kept)

pub returns-clause-growth : goal.returns-clause-growth
returns-clause-growth c =
    either_way c.replace.result c.replace.ensures.ok c.replace.ensures.err (λ e. (cleared c e).1)
    (λ e. let l = ap length e in omega arith)

-- where the run goes that has just these addresses
gone : (before : Option (AddressRun Mapping)) (all : List (AddressRun Mapping)) → IsKept all → (start end : ℕ)
    → start < end → end < 2 ^ 64 → IsLastBelow all end before
    → IsSomeAnd before (λ r. (r.start ≡ start) × (r.start + r.len ≡ end)) → (new : List (AddressRun Mapping))
    → new ≡ runs_below start all ++ runs_from (start + 1) all
    → (IsKept new × (new ≡ canonical_list (without_range start (end - start) all))) × (length new ≤ length all + 1)
gone None all k start end some fits is h new e = absurd h
gone (Some r) all k start end some fits is h new e = whole_goes all k start end some fits r is h.0 h.1 new e

whole : (c : After-remove) → (IsKept c.remove.new.self
    × (c.remove.new.self ≡ canonical_list (without_range c.args.start (c.args.end - c.args.start) c.args.self.now)))
    × (length c.remove.new.self ≤ length c.args.self.now + 1)
whole c =
    gone c.neighbours-near.result.before c.args.self.now c.requires.kept c.args.start c.args.end c.requires.some
    (omega arith) c.neighbours-near.ensures.near.before (c.has_just.ensures c.if-has_just.true) c.remove.new.self
    c.remove.ensures

pub returns-then-has_just-clause-ok : goal.returns-then-has_just-clause-ok
returns-then-has_just-clause-ok c = (whole c).0.1

pub returns-then-has_just-clause-kept : goal.returns-then-has_just-clause-kept
returns-then-has_just-clause-kept c = (whole c).0.0

pub returns-then-has_just-clause-growth : goal.returns-then-has_just-clause-growth
returns-then-has_just-clause-growth c = (whole c).1
