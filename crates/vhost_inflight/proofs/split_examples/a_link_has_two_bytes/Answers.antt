use Rattle.std.proofs.Common.{arith, replicate}
use Rattle.vhost_inflight.specs.declared.split.SplitStore.TheVariants.{Next}
use Rattle.vhost_inflight.proofs.split_examples.a_link_has_two_bytes.Goals as goal

pub returns-clause-field : goal.returns-clause-field
returns-clause-field c =
    c.stores_change_their_field.ensures.field 2 (replicate 64 0) (Next 1 258) (omega arith) (omega arith, omega arith)
