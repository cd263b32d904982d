use Rattle.std.proofs.Common.{[], ◌∷◌, refl}
use Rattle.live_migration.specs.Calls as call
use Rattle.tests_migration.proofs.steps.copies.Goals as goal

pub returns-in-Ok : goal.returns-in-Ok
returns-in-Ok g c = λ stream. (
  call.Copy c.in-Ok.field-0 ∷ [],
  (
    record { sender = c.copy_batch.new.self; host = c.args.host.now; stream = stream },
    record { copied = c.in-Ok.ensures.copied; hasher = c.copy_batch.ensures.same.0; host = refl; stream = refl },
    refl,
  ),
)

pub returns-in-Err : goal.returns-in-Err
returns-in-Err g c = λ stream. (
  call.Refuse ∷ [],
  (
    record { sender = c.copy_batch.new.self; host = c.args.host.now; stream = stream },
    record { stays = c.in-Err.ensures.err; hasher = c.copy_batch.ensures.same.0; host = refl; stream = refl },
    refl,
  ),
)
