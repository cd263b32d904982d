use Rattle.vhost_iotlb.proofs.CallLemmas.{table_is_left}
use Rattle.vhost_iotlb.proofs.laws.accesses_go_through_what_was_updated_last.Goals as goal

pub returns : goal.returns
returns g c =
    let gone = c.accesses_go_through_what_calls_left.ensures in
    record {
      all = λ regions ms calls old new m b t a n i access x h on there.
          gone.all new.tables m b t calls a n i access x on
          (table_is_left b.table regions ms calls old new t h there);
      updated = λ regions ms calls old new m b t a n i iova to len access perm x h on there.
          gone.set new.tables m b t calls a n i iova to len access perm x on
          (table_is_left b.table regions ms calls old new t h there);
      taken_back = λ regions ms calls old new m b t a n i access x call h on there.
          gone.invalidated new.tables m b t calls a n i access x call on
          (table_is_left b.table regions ms calls old new t h there);
    }
