use Rattle.std.proofs.Common.{◌≡◌, true, false, Result, Ok, Err, is_err, MatchResult, refl}
use Rattle.std.specs.declared.alloc.AllocError.{AllocError}
use Rattle.vhost_backend.proofs.block_backend.BlockBackend.change_table.Goals as goal

err_ends : (P : Unit {0} → Type 0) {Q : Type 0} (r : Result (Unit {0}) AllocError) → true ≡ is_err r → Q
    → MatchResult r P (λ e. Q)
err_ends P (Ok done) is q = absurd (cc)
err_ends P (Err e) is q = q

ok_ends : {P : Type 0} (Q : AllocError → Type 0) (r : Result (Unit {0}) AllocError) → false ≡ is_err r → P
    → MatchResult r (λ done. P) Q
ok_ends Q (Ok done) is p = p
ok_ends Q (Err e) is p = absurd (cc)

pub returns-then-is_err-clause-changes : goal.returns-then-is_err-clause-changes
returns-then-is_err-clause-changes g c = rw (c.in-Some.is, ← c.if-in_use.ensures) (
  c.change.result,
  c.change.new.self,
  c.change.new.kicks,
  c.change.ensures.changes,
  err_ends _ c.change.result c.if-is_err.ensures.value (refl, refl, refl),
)

pub returns-clause-changes : goal.returns-clause-changes
returns-clause-changes g c = rw (c.in-Some.is, ← c.if-in_use.ensures) (
  c.change.result,
  c.change.new.self,
  c.change.new.kicks,
  c.change.ensures.changes,
  rw (← c.in-Some.is) (ok_ends _ c.change.result c.if-is_err.ensures.value c.change_and_resume.ensures.changes),
)

pub returns-clause-evicts : goal.returns-clause-evicts
returns-clause-evicts g c = rw c.in-Some.is c.change_and_resume.ensures.evicts
