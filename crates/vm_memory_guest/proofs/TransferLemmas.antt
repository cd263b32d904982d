-- Sinks that were offered the bytes of a window.
use Rattle.std.proofs.Common.{◌≡◌, ℕ, ◌≤◌, List, length, Option, Result, IfOk, OnOk, ap, ◌∙◌, refl, subst}
use Rattle.vm_memory_base.specs.Transfer.{Answer, Sink, SendsBy, Again, TakesOnce}
use Rattle.vm_memory_base.specs.declared.io.VolatileMemoryError.{VolatileMemoryError}
use Rattle.vm_memory_guest.specs.Host.{bytes_at}
use Rattle.vm_memory_guest.specs.Transfer.{Offers, Sends}
use Rattle.vm_memory_guest.specs.Typed.{answered}
use Rattle.vm_memory_guest.specs.Window.{Window, cells_of}
use Rattle.vm_memory_guest.proofs.HostLemmas.{length-bytes}

module _ {S : Type 0} (sink : S → Option Sink) (taken : S → Option (List ℕ)) (wants : S → Type 0)
    (writes : S → List ℕ → Answer → S → Type 0) (blocks : List (List ℕ)) (w : Window) (old new : S) (bytes : List ℕ)
    (is : bytes ≡ bytes_at blocks (cells_of w)) where
  abbrev Once : List ℕ → S → Answer → S → Type 0
  Once = TakesOnce sink taken wants writes

  long : length bytes ≡ w.size
  long = ap length is ∙ length-bytes blocks w

  -- a sink was offered the bytes of a window until it took them
  pub sends_of : (result : Result (Unit {0}) VolatileMemoryError)
      → ((count : ℕ) × (count ≤ length bytes) × OnOk result (count ≡ length bytes)
      × SendsBy Once old bytes count result new)
      → Sends sink taken wants writes blocks w old (answered (λ all. w.size) result) new
  sends_of result sends = record {
    count = sends.0;
    sent = result;
    within = subst (λ (n : ℕ). sends.0 ≤ n) long sends.1;
    whole = subst (λ (n : ℕ). OnOk result (sends.0 ≡ n)) long sends.2;
    written_by = subst (λ (bs : List ℕ). SendsBy Once old bs sends.0 result new) is sends.3;
    told = refl;
  }

  -- and by one try
  pub offers_of : (result : Answer) → IfOk result (λ count. count ≤ length bytes) → Again (Once bytes) old result new
      → Offers sink taken wants writes blocks w old result new
  offers_of result within by = record {
    within = subst (λ (n : ℕ). IfOk result (λ count. count ≤ n)) long within;
    written_by = subst (λ (bs : List ℕ). Again (Once bs) old result new) is by;
  }
