use Rattle.vm_memory_guest.specs.Error.{of_window}
use Rattle.vm_memory_guest.proofs.VectorLaws.{windows_whole}
use Rattle.vm_memory_guest.proofs.laws.transfers.vectors_take_whole_windows.Goals as goal

pub returns : goal.returns
returns c fault ws total old new blocks answer h =
    windows_whole (λ v. v.items) _ _ _ _ (λ s t bytes a k. k) blocks of_window fault ws total old answer new h
