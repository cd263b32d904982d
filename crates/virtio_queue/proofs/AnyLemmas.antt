-- Queues of either kind.
use Rattle.std.proofs.Common.{ℕ, Option, Result, ap, inl, inr}
use Rattle.virtio_queue.specs.Any.{by_head}
use Rattle.virtio_queue.specs.Fields.{Answers}
use Rattle.virtio_queue.specs.declared.error.QueueError.{QueueError}

-- a pop of a split queue answers by the head what it answers
pub answers_by_head : {X : Type 0} (may_want : Type 0) (expected answer : Result (Option (ℕ × X)) QueueError)
    → Answers may_want expected answer → Answers may_want (by_head expected) (by_head answer)
answers_by_head may_want expected answer (inl e) = inl (ap by_head e)
answers_by_head may_want expected answer (inr (e, wants)) = inr (ap by_head e, wants)
