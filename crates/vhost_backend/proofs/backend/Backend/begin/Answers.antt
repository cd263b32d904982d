use Rattle.std.proofs.Common.{refl, ap}
use Rattle.vhost_backend.proofs.backend.Backend.begin.Goals as goal

pub returns-in-Err : goal.returns-in-Err
returns-in-Err c =
    let (fails, same) = rw c.in-Err.is at c.serve.ensures in
    let released = ap (λ t. t.0) c.handle.ensures in
    rw (← c.self.view_is, fails, released, same) refl
