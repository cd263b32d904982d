use Rattle.std.proofs.Common.{◌≡◌, ◌∙◌, Bool, List, Some, None, length, refl, ap, sym}
use Rattle.std.proofs.lemmas.Option.{slice_get_read}
use Rattle.std.specs.List.{slice_get, slice_set}
use Rattle.std.specs.Prelude.{if◌then◌else◌}
use Rattle.vhost_backend.proofs.QueueAtLemmas.{at_none, at_some, no_entry, none_some}
use Rattle.vhost_backend.specs.BlockQueue.{BlockQueueState}
use Rattle.vhost_backend.specs.BlockQueues.{Turns}
use Rattle.vhost_backend.specs.Sight.{sight_of}
use Rattle.vhost_backend.specs.contracts.block_queues.BlockQueues.{the_view}
use Rattle.vhost_backend.specs.declared.backend.Todo.{Todo}
use Rattle.vhost_backend.proofs.block_queues.BlockQueues.take_step.Goals.{in-Some, in-None}
use Rattle.vhost_backend.proofs.block_queues.BlockQueues.take_step.Goals as goal

pub returns-clause-turns : goal.returns-clause-turns
returns-clause-turns g c = elim c.match-get_mut.branch [
  | in-Some w ↦
      let view : c.args.self.now ≡ c.self.inside.queues.items = sym c.self.view_is in
      let there : slice_get c.args.self.now c.args.ring ≡ Some w.in-Some.queue.now =
      ap (λ (qs : List BlockQueueState). slice_get qs c.args.ring) view
      ∙ slice_get_read c.self.inside.queues.items (length c.self.inside.queues.items) c.args.ring w.in-Some.queue.now
      refl w.in-Some.ensures.item.3.0 w.in-Some.ensures.value in
      let is : the_view c.match-get_mut.self-inside ≡ slice_set c.args.self.now c.args.ring w.take_step.new.queue =
      ap the_view w.self-inside-is
      ∙ ap (λ (qs : List BlockQueueState). slice_set qs c.args.ring w.take_step.new.queue) (sym view) in
      let same : (if c.match-get_mut.result then Some c.match-get_mut.todo else None)
      ≡ (if w.take_step.result then Some w.take_step.new.todo else None) =
      ap (λ (v : Bool). if v then Some c.match-get_mut.todo else None) w.result-is
      ∙ ap (λ (t : Todo). if w.take_step.result then Some t else None) w.todo-is in
      at_some (λ b new. Turns (g.D.RingMemory.steps c.args.mem.now) (sight_of c.args.way) c.args.terms c.args.ring
      c.args.backend.now b c.args.host.now new) c.args.self.now (the_view c.match-get_mut.self-inside) c.args.ring
      None (if c.match-get_mut.result then Some c.match-get_mut.todo else None)
      (if w.take_step.result then Some w.take_step.new.todo else None) c.args.host.now c.match-get_mut.host
      w.take_step.new.host c.match-get_mut.backend w.take_step.new.backend w.in-Some.queue.now w.take_step.new.queue
      there w.take_step.ensures.takes w.backend-is w.host-is same is
  | in-None w ↦
      let missing : slice_get c.args.self.now c.args.ring ≡ None =
      ap (λ (qs : List BlockQueueState). slice_get qs c.args.ring) (sym c.self.view_is)
      ∙ no_entry c.self.inside.queues.items c.args.ring w.in-None.ensures.item.0 in
      let none : (if c.match-get_mut.result then Some c.match-get_mut.todo else None) ≡ None =
      ap (λ (v : Bool). if v then Some c.match-get_mut.todo else None) w.result-is in
      let is : the_view c.match-get_mut.self-inside ≡ c.args.self.now =
      ap the_view w.self-inside-is ∙ c.self.view_is in
      at_none (Turns (g.D.RingMemory.steps c.args.mem.now) (sight_of c.args.way) c.args.terms c.args.ring
      c.args.backend.now c.match-get_mut.backend c.args.host.now c.match-get_mut.host) c.args.self.now
      (the_view c.match-get_mut.self-inside) c.args.ring None
      (if c.match-get_mut.result then Some c.match-get_mut.todo else None) c.args.host.now c.match-get_mut.host
      missing none is w.host-is
]

pub returns-clause-none : goal.returns-clause-none
returns-clause-none g c missing = elim c.match-get_mut.branch [
  | in-Some w ↦
      let view : c.args.self.now ≡ c.self.inside.queues.items = sym c.self.view_is in
      let there : slice_get c.args.self.now c.args.ring ≡ Some w.in-Some.queue.now =
      ap (λ (qs : List BlockQueueState). slice_get qs c.args.ring) view
      ∙ slice_get_read c.self.inside.queues.items (length c.self.inside.queues.items) c.args.ring w.in-Some.queue.now
      refl w.in-Some.ensures.item.3.0 w.in-Some.ensures.value in
      none_some (slice_get c.args.self.now c.args.ring) w.in-Some.queue.now missing there
  | in-None w ↦ w.backend-is
]
