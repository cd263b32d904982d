use Rattle.std.proofs.Common.{◌≡◌, ℕ, ◌^◌, ◌<◌, List, length, sym, ap, ◌∙◌}
use Rattle.vm_memory_base.specs.Runs.{AddressRun}
use Rattle.vm_memory_base.specs.Table.{Mapping, says}
use Rattle.vm_memory_base.proofs.TableLaws.{canonical_list-agree, same_tables}
use Rattle.vm_memory_base.proofs.laws.table.tables_that_say_the_same.Goals as goal

pub returns : goal.returns
returns c =
    let a = c.args.a.now in
    let b = c.args.b.now in
    let first = c.num_ranges-first.ensures in
    let second = c.num_ranges-second.ensures in
    let alike : ((x : ℕ) → x < 2 ^ 64 → says a x ≡ says b x) → a.ranges ≡ b.ranges =
    λ agree. sym first.canonical ∙ canonical_list-agree (says a) (says b) agree ∙ second.canonical in
    record {
      same = λ limit agree. same_tables a b limit (alike agree);
      ranges = λ agree. ap (λ (rs : List (AddressRun Mapping)). length rs) (alike agree);
    }
