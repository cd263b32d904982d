use Rattle.std.proofs.Common.{is_some, refl, subst}
use Rattle.vhost_backend.proofs.IoMemoryLemmas.{io_held, joined_steps, kept_held, unjoined_steps}
use Rattle.vhost_backend.specs.BlockTable.{ChangesTable}
use Rattle.vhost_backend.specs.ConnectionMemory.{MemoryState, table_step}
use Rattle.vhost_backend.proofs.connection_memory.ConnectionMemory.change.Goals as goal

pub change_table-requires-2 : goal.change_table-requires-2
change_table-requires-2 c = let f = c.self.inside in (
  io_held f.layout f.logged.host f.is_behind f.behind c.in-Some.ring c.self.invariant c.in-Some.is,
  kept_held f.layout f.logged.host f.is_behind f.behind c.self.invariant.1,
)

pub returns-clause-changes : goal.returns-clause-changes
returns-clause-changes c =
    let f = c.self.inside in
    let m : MemoryState = record {
      layout = f.layout;
      logged = f.logged;
      table = f.table;
      is_joined = is_some f.behind;
      is_behind = f.is_behind;
    } in
    subst (λ (n : MemoryState). ChangesTable (table_step n) c.args.backend.now n.table n.logged
    (is_some c.change_table-2.result) c.change_table-2.new.self c.change_table-2.new.table c.change_table-2.new.host)
    c.self.view_is
    (joined_steps (λ s. ChangesTable s c.args.backend.now f.table f.logged (is_some c.change_table-2.result)
    c.change_table-2.new.self c.change_table-2.new.table c.change_table-2.new.host) m f.behind refl
    c.in-Some.ring c.self.invariant.1 c.in-Some.is c.change_table-2.ensures.changes)

pub returns-in_default-clause-changes : goal.returns-in_default-clause-changes
returns-in_default-clause-changes c =
    let f = c.self.inside in
    let m : MemoryState = record {
      layout = f.layout;
      logged = f.logged;
      table = f.table;
      is_joined = is_some f.behind;
      is_behind = f.is_behind;
    } in
    subst (λ (n : MemoryState). ChangesTable (table_step n) c.args.backend.now n.table n.logged
    (is_some c.change_table.result) c.change_table.new.self c.change_table.new.table c.change_table.new.host)
    c.self.view_is
    (unjoined_steps (λ s. ChangesTable s c.args.backend.now f.table f.logged (is_some c.change_table.result)
    c.change_table.new.self c.change_table.new.table c.change_table.new.host) m f.behind refl
    c.in_default.is c.change_table.ensures.changes)
