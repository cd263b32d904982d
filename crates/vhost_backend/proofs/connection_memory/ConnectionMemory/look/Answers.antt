use Rattle.std.proofs.Common.{None, Option, Some, is_some, refl, subst}
use Rattle.vhost_backend.proofs.IoMemoryLemmas.{io_held, io_steps, io_way, kept_held, no_way, plain_steps}
use Rattle.vhost_backend.specs.BlockBackend.{Looks}
use Rattle.vhost_backend.specs.ConnectionMemory.{MemoryState, memory_step, way_of}
use Rattle.vhost_backend.specs.Sight.{Sight}
use Rattle.vhost_backend.proofs.connection_memory.ConnectionMemory.look.Goals as goal

pub look-requires-2 : goal.look-requires-2
look-requires-2 c = let f = c.self.inside in (
  io_held f.layout f.logged.host f.is_behind f.behind c.in-Some.ring.now c.self.invariant c.in-Some.ensures.0,
  kept_held f.layout f.logged.host f.is_behind f.behind c.self.invariant.1,
)

pub returns-clause-looks : goal.returns-clause-looks
returns-clause-looks c =
    let f = c.self.inside in
    let m : MemoryState = record {
      layout = f.layout;
      logged = f.logged;
      table = f.table;
      is_joined = is_some f.behind;
      is_behind = f.is_behind;
    } in
    let way : Option Sight = Some (record { table = f.table; can_ask = c.can_ask.result }) in
    subst (λ (n : MemoryState). Looks (memory_step n) (way_of n c.args.backend.now) c.args.backend.now n.logged
    c.look-2.result c.look-2.new.self c.look-2.new.host) c.self.view_is
    (subst (λ (way : Option Sight). Looks (memory_step m) way c.args.backend.now f.logged c.look-2.result c.look-2.new.self
    c.look-2.new.host)
    (io_way m f.behind refl c.args.backend.now c.in-Some.ring.now c.can_ask.result c.in-Some.ensures.0 c.in-Some.ensures.1
    c.can_ask.ensures)
    (io_steps (λ s. Looks s way c.args.backend.now f.logged c.look-2.result c.look-2.new.self c.look-2.new.host) m f.behind
    refl c.in-Some.ring.now c.self.invariant.1 c.in-Some.ensures.0 c.in-Some.ensures.1 c.look-2.ensures.looks))

pub returns-in_default-clause-looks : goal.returns-in_default-clause-looks
returns-in_default-clause-looks c =
    let f = c.self.inside in
    let m : MemoryState = record {
      layout = f.layout;
      logged = f.logged;
      table = f.table;
      is_joined = is_some f.behind;
      is_behind = f.is_behind;
    } in
    subst (λ (n : MemoryState). Looks (memory_step n) (way_of n c.args.backend.now) c.args.backend.now n.logged
    c.look.result c.look.new.self c.look.new.host) c.self.view_is
    (subst (λ (way : Option Sight). Looks (memory_step m) way c.args.backend.now f.logged c.look.result c.look.new.self
    c.look.new.host) (no_way m f.behind refl c.args.backend.now c.in_default.ensures)
    (plain_steps (λ s. Looks s None c.args.backend.now f.logged c.look.result c.look.new.self c.look.new.host) m f.behind
    refl c.in_default.ensures c.look.ensures.looks))
