-- Tables of a host by their numbers.
use Rattle.std.proofs.Common.{◌≡◌, ℕ, ◌+◌, ◌-◌, ◌^◌, ◌<◌, List, slice_get, Some, IsSome, false, refl, ap, ◌∙◌, arith}
use Rattle.std.proofs.lemmas.Bool.{le-ltb}
use Rattle.vm_memory_base.specs.Table.{Table, overruns}
use Rattle.vm_memory_guest.specs.Host.{Host, with_table_at}
use Rattle.vm_memory.proofs.BitmapLemmas.{set-same}

-- where a change of a table wanted memory, the range was one, and the host is as it was
module _ {B : Type 0} (host : Host B) (number : ℕ) (old new : Table) (there : slice_get host.tables number ≡ Some old)
    (same : new ≡ old) (a n : ℕ) (fits : a + n < 2 ^ 64) where
  pub wanted : IsSome (slice_get host.tables number) × (overruns a n ≡ false) × (with_table_at host number new ≡ host)
  wanted = (
    rw there refl,
    le-ltb (2 ^ 64 - 1) (a + n) (omega arith),
    ap (λ (t : Table). with_table_at host number t) same
        ∙ ap (λ (ts : List Table). record host { tables = ts }) (set-same host.tables number old there),
  )
