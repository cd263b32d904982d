-- What is taken from the laws of writes for the tables of a host.
use Rattle.std.proofs.Common.{◌≡◌, Bool, ℕ, List, Option}
use Rattle.vm_memory_base.specs.Pages.{PageSet}
use Rattle.vm_memory_base.specs.Transfer.{Next}
use Rattle.vm_memory_guest.specs.Access.{Reached}
use Rattle.vm_memory_guest.specs.Dealt.{received}
use Rattle.vm_memory_guest.specs.Dirt.{after_write}
use Rattle.vm_memory_guest.specs.Error.{of_window}
use Rattle.vm_memory_guest.specs.Host.{Host}
use Rattle.vm_memory_guest.specs.Lent.{MarksChanges}
use Rattle.vm_memory_guest.specs.Window.{Window}
use Rattle.vm_memory_guest.specs.declared.region.error.GuestMemoryError.{GuestMemoryError}

-- what is taken from the laws of writes
pub record HistoryLaws : Type 0 where
  pub writes_keep : (xs : List Reached) (bytes : List ℕ) (host : Host PageSet)
      → (after_write xs bytes host).tables ≡ host.tables
  pub lent_keep : (fault : Option GuestMemoryError) (until_full : Bool) (ws : List Window) (total : ℕ)
      (next : List Next)
      (host : Host PageSet) → (received of_window fault until_full ws total next host).host.tables ≡ host.tables

pub history_laws : ((xs : List Reached) (bytes : List ℕ) (host : Host PageSet) → (after_write xs bytes host).tables ≡ host.tables)
    → ((fault : Option GuestMemoryError) (until_full : Bool) (ws : List Window) (total : ℕ) (next : List Next)
    (host : Host PageSet) → MarksChanges ws host (received of_window fault until_full ws total next host).host)
    → HistoryLaws
history_laws writes_keep lent_mark = record {
  writes_keep = writes_keep;
  lent_keep = λ fault until_full ws total next host. (lent_mark fault until_full ws total next host).tables;
}
