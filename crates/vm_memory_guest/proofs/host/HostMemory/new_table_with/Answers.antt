use Rattle.vm_memory_guest.specs.Host.{with_given_table}
use Rattle.vm_memory_guest.proofs.HoldsLemmas.{Holds-table, Holds-made}
use Rattle.vm_memory_guest.proofs.host.HostMemory.new_table_with.Goals as goal

pub returns-clause-kept : goal.returns-clause-kept
returns-clause-kept g c =
    let old = c.args.self.now in
    let made = c.add_table.ensures in
    let table = c.args.table in
    Holds-made old c.add_table.new.self (with_given_table old table) (Holds-table old table) c.add_table.result made.ok
    made.err
