use Rattle.std.proofs.Common.{rules, ◌≡◌, ◌<◌, false, arith}
use Rattle.vhost_backend.specs.Questions.{has_miss}
use Rattle.vhost_backend.proofs.QuestionLemmas.{due_room, kept-push}
use Rattle.vhost_backend.proofs.questions.Questions.wants.Goals as goal

pub push_reserved-requires : goal.push_reserved-requires
push_reserved-requires c =
    let k = c.self.invariant in
    let inside = c.self.inside in
    let below : c.args.miss.ring < inside.rings = omega arith in
    let out : has_miss inside.sent.items inside.due.items c.args.miss.ring ≡ false = search rules in
    let room = due_room inside.rings inside.sent.items inside.due.items c.args.miss.ring k.once below out in
    omega (arith, k.has_room, inside.due.ok.0)

pub invariant_of-self : goal.invariant_of-self
invariant_of-self c =
    let k = c.self.invariant in
    let inside = c.self.inside in
    let below : c.args.miss.ring < inside.rings = omega arith in
    let out : has_miss inside.sent.items inside.due.items c.args.miss.ring ≡ false = search rules in
    rw (c.push_reserved.ensures.items, c.push_reserved.ensures.capacity) (record {
      once = kept-push inside.rings inside.sent.items inside.due.items c.args.miss k.once below out;
      few = k.few;
      sends = k.sends;
      has_room = k.has_room;
    })
