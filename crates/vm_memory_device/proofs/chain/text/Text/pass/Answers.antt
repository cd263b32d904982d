use Rattle.std.proofs.Common.{◌∙◌, ◌+◌, ◌-◌, ap, arith, drop, length}
use Rattle.vm_memory_device.proofs.TextLemmas.{drop-inside, drop-segment, length-entries, place_inside, within_place}
use Rattle.vm_memory_device.proofs.chain.text.Text.pass.Goals as goal

pub overflow_sub-self : goal.overflow_sub-self
overflow_sub-self c =
    let t = c.self.inside in
    let within = within_place t.addr t.rest c.args.count t.later.now c.args.self.now c.self.invariant.0 c.self.view_is
    c.requires in
    omega (arith, c.self.invariant.1, length-entries t.addr t.rest t.later.now)

pub invariant_of-self : goal.invariant_of-self
invariant_of-self c =
    let t = c.self.inside in
    let n = c.args.count in (
      place_inside t.addr t.rest n t.later.now c.self.invariant.0 c.if-count-self.true,
      omega (
        arith,
        c.self.invariant.1,
        c.if-count-self.true,
        length-entries t.addr t.rest t.later.now,
        length-entries (t.addr + n) (t.rest - n) t.later.now,
      ),
    )

pub returns-then-count-self : goal.returns-then-count-self
returns-then-count-self c =
    let t = c.self.inside in
    drop-inside t.addr t.rest c.args.count t.later.now (omega (arith, c.if-count-self.true))
    ∙ ap (drop c.args.count) c.self.view_is

pub invariant_of-self-2 : goal.invariant_of-self-2
invariant_of-self-2 c =
    let t = c.self.inside in
    let within = within_place t.addr t.rest c.args.count t.later.now c.args.self.now c.self.invariant.0 c.self.view_is
    c.requires in (
      c.beginning-addr.ensures.place,
      omega (
        arith,
        c.self.invariant.1,
        c.if-count-self.false,
        length-entries t.addr t.rest t.later.now,
        ap length c.beginning-addr.ensures.text,
      ),
    )

pub returns : goal.returns
returns c =
    let t = c.self.inside in
    let within = within_place t.addr t.rest c.args.count t.later.now c.args.self.now c.self.invariant.0 c.self.view_is
    c.requires in
    c.beginning-addr.ensures.text
    ∙ drop-segment t.addr t.rest c.args.count t.later.now (omega (arith, c.if-count-self.false))
    ∙ ap (drop c.args.count) c.self.view_is
