use Rattle.vm_memory_guest.proofs.PieceLemmas as lemmas
use Rattle.vm_memory_guest.proofs.laws.paths.pieces_are_the_access.Goals as goal

pub returns : goal.returns
returns c = lemmas.pieces-access c.canonical_list_decides_the_table.ensures.same_mapping
    c.allowed_where_each_address_grants.ensures
