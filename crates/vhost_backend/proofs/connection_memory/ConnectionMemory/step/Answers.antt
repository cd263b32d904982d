use Rattle.std.proofs.Common.{is_some, refl, subst}
use Rattle.vhost_backend.proofs.IoMemoryLemmas.{io_held, io_steps, kept_held, plain_steps}
use Rattle.vhost_backend.specs.BlockBackend.{Steps}
use Rattle.vhost_backend.specs.ConnectionMemory.{MemoryState, memory_step}
use Rattle.vhost_backend.proofs.connection_memory.ConnectionMemory.step.Goals as goal

pub step-requires-2 : goal.step-requires-2
step-requires-2 c = let f = c.self.inside in (
  io_held f.layout f.logged.host f.is_behind f.behind c.in-Some.ring.now c.self.invariant c.in-Some.ensures.0,
  kept_held f.layout f.logged.host f.is_behind f.behind c.self.invariant.1,
)

pub returns-clause-steps : goal.returns-clause-steps
returns-clause-steps c =
    let f = c.self.inside in
    let m : MemoryState = record {
      layout = f.layout;
      logged = f.logged;
      table = f.table;
      is_joined = is_some f.behind;
      is_behind = f.is_behind;
    } in
    subst (λ (n : MemoryState). Steps (memory_step n) c.args.backend.now n.logged c.step-2.result c.step-2.new.self
    c.step-2.new.host) c.self.view_is
    (io_steps (λ s. Steps s c.args.backend.now f.logged c.step-2.result c.step-2.new.self c.step-2.new.host) m f.behind
    refl c.in-Some.ring.now c.self.invariant.1 c.in-Some.ensures.0 c.in-Some.ensures.1 c.step-2.ensures.steps)

pub returns-in_default-clause-steps : goal.returns-in_default-clause-steps
returns-in_default-clause-steps c =
    let f = c.self.inside in
    let m : MemoryState = record {
      layout = f.layout;
      logged = f.logged;
      table = f.table;
      is_joined = is_some f.behind;
      is_behind = f.is_behind;
    } in
    subst (λ (n : MemoryState). Steps (memory_step n) c.args.backend.now n.logged c.step.result c.step.new.self
    c.step.new.host) c.self.view_is
    (plain_steps (λ s. Steps s c.args.backend.now f.logged c.step.result c.step.new.self c.step.new.host) m f.behind refl
    c.in_default.ensures c.step.ensures.steps)
