-- A table of a host that is put back as it was.
use Rattle.std.proofs.Common.{◌≡◌, ℕ, List, set, slice_get, Some, sym, ap, ◌∙◌}
use Rattle.std.proofs.lemmas.List.{set-get_or}
use Rattle.std.proofs.lemmas.Option.{get_or_from_slice_get}
use Rattle.vm_memory_base.specs.Table.{Table}
use Rattle.vm_memory_guest.specs.Host.{Host, with_table_at}

pub put_back : {B : Type 0} (host : Host B) (number : ℕ) (old new : Table) → slice_get host.tables number ≡ Some old
    → new ≡ old → with_table_at host number new ≡ host
put_back {B} host number old new there same =
    ap (λ (t : Table). with_table_at host number t) same
    ∙ ap (λ (ts : List Table). record host { tables = ts })
    (ap (λ (t : Table). set host.tables number t) (sym (get_or_from_slice_get host.tables number old old there))
    ∙ set-get_or host.tables number old)
