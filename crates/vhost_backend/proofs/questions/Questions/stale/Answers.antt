use Rattle.vhost_backend.proofs.QuestionLemmas.{kept-stale, length-staled}
use Rattle.vhost_backend.proofs.questions.Questions.stale.Goals as goal

pub invariant_of-self : goal.invariant_of-self
invariant_of-self c =
    let k = c.self.invariant in
    let inside = c.self.inside in
    rw (c.mark_stale.ensures.items, c.mark_stale.ensures.capacity, c.forget.ensures.items, c.forget.ensures.capacity)
    (record {
      once = kept-stale inside.rings inside.sent.items inside.due.items c.args.ring k.once;
      few = rw (length-staled inside.sent.items c.args.ring) k.few;
      sends = k.sends;
      has_room = k.has_room;
    })
