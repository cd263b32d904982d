use Rattle.std.proofs.Common.{[], Some, None}
use Rattle.vm_memory_base.specs.InMemory.{WritesWhole}
use Rattle.vm_memory_base.specs.lemmas.Vectors.{takes_whole}
use Rattle.vm_memory_base.proofs.laws.transfers.vectors_take_whole_pieces.Goals as goal

pub returns : goal.returns
returns c old new bytes count answer h =
    takes_whole (λ v. v.items) (λ v. Some (record { next = []; room = None })) (λ v. Some v.items) (λ v. Unit {0})
    (λ v bytes answer t. WritesWhole v.items bytes answer t.items) (λ s t bytes answer k. k) bytes old new count
    answer h
