use Rattle.std.proofs.Common.{Ok, Err, ap, refl}
use Rattle.linux_loader.specs.declared.error.LoaderError.{LoaderError}
use Rattle.linux_loader.proofs.plan.clear_at.Goals as goal

pub returns-in-Ok-clause-cleared : goal.returns-in-Ok-clause-cleared
returns-in-Ok-clause-cleared g c =
    (c.read_exact_volatile_from.new.src, (Ok tt, rw c.new-zeros.ensures at c.in-Ok.ensures.answer, refl))

pub returns-in-Err-clause-cleared : goal.returns-in-Err-clause-cleared
returns-in-Err-clause-cleared g c = (
  c.read_exact_volatile_from.new.src,
  (
    Err c.in-Err.error,
    rw c.new-zeros.ensures at c.in-Err.ensures.answer,
    ap (λ (e : LoaderError). Err e) c.of_access.ensures,
  ),
)
