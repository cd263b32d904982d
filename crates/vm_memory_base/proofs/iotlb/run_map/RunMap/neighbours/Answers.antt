use Rattle.std.proofs.Common.{◌≡◌, ◌+◌, ◌++◌, ◌∷◌, [], List, sym, ap, subst, ◌∙◌, arith}
use Rattle.vm_memory_base.specs.Change.{runs_below}
use Rattle.vm_memory_base.specs.Runs.{AddressRun}
use Rattle.vm_memory_base.specs.Stored.{runs_in}
use Rattle.vm_memory_base.specs.Table.{Mapping}
use Rattle.vm_memory_base.proofs.StoredLemmas.{between_upto, last_stored, last_seen, front_seen, front_stored}
use Rattle.vm_memory_base.proofs.SideLemmas.{last_stays, none_stay}
use Rattle.vm_memory_base.proofs.iotlb.run_map.RunMap.neighbours.Goals as goal
use Rattle.vm_memory_base.proofs.iotlb.run_map.RunMap.neighbours.Goals.{After-of_tail-last}

pub returns-in_default-clause-near : goal.returns-in_default-clause-near
returns-in_default-clause-near c =
    let none : runs_below (c.args.at + 1) c.args.self.now ≡ [] =
    subst (λ (rs : List (AddressRun Mapping)). runs_below (c.args.at + 1) rs ≡ []) c.self.view_is
    (sym (between_upto c.args.at c.self.inside.tails.entries)
    ∙ ap runs_in (sym (c.range-upto.ensures.between tt) ∙ c.in_default.ensures.steps.0)) in
    record { before = none_stay c.args.at (c.args.at + 1) c.args.self.now (omega arith) none; last = none }

pub of_tail-last-requires : goal.of_tail-last-requires
of_tail-last-requires c =
    (last_stored c.args.at c.self.inside.tails.entries c.range-upto.result c.next_back.new.self
    (c.in-Some.start.now, c.in-Some.tail.now) c.self.invariant (c.range-upto.ensures.between tt)
    c.in-Some.ensures.steps).0

last : (c : After-of_tail-last) → runs_below (c.args.at + 1) c.args.self.now
    ≡ runs_below c.of_tail-last.result.start c.args.self.now ++ c.of_tail-last.result ∷ []
last c =
    last_seen c.self.inside.tails.entries c.args.self.now c.self.view_is c.self.invariant c.args.at c.range-upto.result
    c.next_back.new.self (c.range-upto.ensures.between tt) (c.in-Some.start.now, c.in-Some.tail.now)
    c.in-Some.ensures.steps c.of_tail-last.result c.of_tail-last.ensures

pub returns-then-start-at-clause-near : goal.returns-then-start-at-clause-near
returns-then-start-at-clause-near c =
    let s = c.start.ensures in
    let is = last (goal.at.returns-then-start-at-clause-near c).After-of_tail-last in
    record {
      before = sym (last_stays c.args.at (c.args.at + 1) c.args.self.now c.of_tail-last.result (omega arith)
          (omega arith) is) ∙ is;
      last = is;
    }

pub returns-in_default-next_back-clause-near : goal.returns-in_default-next_back-clause-near
returns-in_default-next_back-clause-near c =
    let s = c.start.ensures in
    record {
      before = front_seen c.self.inside.tails.entries c.args.self.now c.self.view_is c.self.invariant c.args.at
          c.range-upto.result c.next_back.new.self (c.range-upto.ensures.between tt)
          (c.in-Some.start.now, c.in-Some.tail.now) c.in-Some.ensures.steps c.of_tail-last.result
          c.of_tail-last.ensures (omega arith)
          ∙ ap runs_in c.in_default-next_back.ensures.steps.0;
      last = last (goal.at.returns-in_default-next_back-clause-near c).After-of_tail-last;
    }

pub of_tail-requires : goal.of_tail-requires
of_tail-requires c =
    let s = c.start.ensures in
    (front_stored c.self.inside.tails.entries c.args.self.now c.self.view_is c.self.invariant c.args.at
    c.range-upto.result c.next_back.new.self (c.range-upto.ensures.between tt)
    (c.in-Some.start.now, c.in-Some.tail.now) c.in-Some.ensures.steps c.of_tail-last.result c.of_tail-last.ensures
    (omega arith) c.next_back-2.new.self (c.in-Some-next_back.start.now, c.in-Some-next_back.tail.now)
    c.in-Some-next_back.ensures.steps).0

pub returns-clause-near : goal.returns-clause-near
returns-clause-near c =
    let s = c.start.ensures in
    record {
      before = rw c.of_tail.ensures
          ((front_stored c.self.inside.tails.entries c.args.self.now c.self.view_is c.self.invariant c.args.at
          c.range-upto.result c.next_back.new.self (c.range-upto.ensures.between tt)
          (c.in-Some.start.now, c.in-Some.tail.now) c.in-Some.ensures.steps c.of_tail-last.result
          c.of_tail-last.ensures (omega arith) c.next_back-2.new.self
          (c.in-Some-next_back.start.now, c.in-Some-next_back.tail.now) c.in-Some-next_back.ensures.steps).1);
      last = last (goal.at.returns-clause-near c).After-of_tail-last;
    }
