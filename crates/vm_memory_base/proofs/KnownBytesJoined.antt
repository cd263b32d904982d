-- One write or read after another, at a writer or reader that tells its bytes.
use Rattle.std.proofs.Common.{◌≡◌, ℕ, ◌+◌, List, take, drop, Option}
use Rattle.std.proofs.KnownBytes.{Appends-trans, Consumes-trans}
use Rattle.std.proofs.Math.Seq.{take-add}
use Rattle.std.specs.Io.KnownBytes.{Appends, Consumes}

pub appends_next : (a b c : Option (List ℕ)) (xs : List ℕ) (i n : ℕ) → Appends a b (take i xs)
    → Appends b c (take n (drop i xs))
    → Appends a c (take (i + n) xs)
appends_next a b c xs i n p q =
    rw (take-add i n xs) (Appends-trans a b c (take i xs) (take n (drop i xs)) p q)

-- ys are the bytes with those read at i, and xs those before
pub consumes_next : (a b c : Option (List ℕ)) (xs ys : List ℕ) (i n : ℕ) → Consumes a b (take i xs)
    → take i ys ≡ take i xs
    → Consumes b c (take n (drop i ys)) → Consumes a c (take (i + n) ys)
consumes_next a b c xs ys i n p same q =
    rw (take-add i n ys, same) (Consumes-trans a b c (take i xs) (take n (drop i ys)) p q)
