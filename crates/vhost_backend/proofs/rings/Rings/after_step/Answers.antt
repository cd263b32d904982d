use Rattle.std.proofs.Common.{◌<◌, length, arith}
use Rattle.vhost_backend.proofs.LineLemmas.{line-settled, room}
use Rattle.vhost_backend.proofs.rings.Rings.after_step.Goals as goal

pub settle-requires : goal.settle-requires
settle-requires c out =
    let (line, capacity) = c.self.invariant in
    let rings = c.self.inside.rings.items in
    let there : c.args.ring < length rings = rw (← c.self.view_is) at c.requires in
    let fits : length c.self.inside.line.items < length rings =
    room (length rings) c.args.ring c.self.inside.line.items line there out in
    omega (arith, c.self.inside.line.ok.0)

pub invariant_of-self : goal.invariant_of-self
invariant_of-self c =
    let (line, capacity) = c.self.invariant in
    let rings = c.self.inside.rings.items in
    let there : c.args.ring < length rings = rw (← c.self.view_is) at c.requires in (
      rw c.settle.ensures.items (line-settled
          (length rings) c.args.ring c.self.inside.line.items c.args.wants line there),
      rw c.settle.ensures.capacity capacity,
    )
