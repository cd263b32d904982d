use Rattle.std.proofs.Common.{◌*◌, ◌-◌, ◌^◌, ◌≤◌, arith}
use Rattle.std.proofs.lemmas.Nat.{mul-le}
use Rattle.live_migration.proofs.policy.product.Goals as goal

pub overflow_mul-result : goal.overflow_mul-result
overflow_mul-result c =
    let most : c.from.result * c.from-2.result ≤ (2 ^ 64 - 1) * (2 ^ 64 - 1) =
    mul-le c.from.result c.from-2.result (2 ^ 64 - 1) (2 ^ 64 - 1) (omega arith) (omega arith) in
    omega arith
