-- What a count that is answered says of what was reached.
use Rattle.std.proofs.Common.{◌≡◌, refl, ℕ, Bool, true, false, ◌==◌, cond, Option, Some, None, Ok, Err}
use Rattle.std.proofs.lemmas.Bool.{eqb-true}
use Rattle.vm_memory_guest.specs.Transfer.{all_of, ended}

-- the count that is answered is what was reached
pub ended_is : {E : Type 0} (reached : ℕ) (fault : Option E) (k : ℕ) → Ok k ≡ ended reached fault → k ≡ reached
ended_is reached None k e = cc
ended_is reached (Some f) k e = go (reached == 0) e
  where
    go : (b : Bool) → Ok k ≡ cond b (Err f) (Ok reached) → k ≡ reached
    go true e = absurd (cc)
    go false e = cc

-- and where all are wanted, and it is answered that they were reached, they were
pub whole_is : {E : Type 0} (partial : ℕ → ℕ → E) (reached : ℕ) (fault : Option E) (n : ℕ) (u : Unit {0})
    → Ok u ≡ all_of partial n (ended reached fault) → reached ≡ n
whole_is {E} partial reached fault n u e = from fault e
  where
    all : (b : Bool) → (reached == n) ≡ b → Ok u ≡ cond b (Ok tt) (Err (partial n reached)) → reached ≡ n
    all true h e = eqb-true reached n h
    all false h e = absurd (cc)

    stopped : (f : E) (b : Bool) → Ok u ≡ all_of partial n (cond b (Err f) (Ok reached)) → reached ≡ n
    stopped f true e = absurd (cc)
    stopped f false e = all (reached == n) refl e

    from : (o : Option E) → Ok u ≡ all_of partial n (ended reached o) → reached ≡ n
    from None e = all (reached == n) refl e
    from (Some f) e = stopped f (reached == 0) e
