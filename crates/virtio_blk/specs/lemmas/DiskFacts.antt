-- How many bytes of disks are known.
use Rattle.std.proofs.Common.{◌≡◌, ◌∙◌, ℕ, ◌*◌, ◌/◌, List, length, take, Option, Some, None, ap, arith}
use Rattle.std.proofs.lemmas.List.{length-take-le}

-- the bytes of whole sectors of a list are as many as these have
pub told_whole : (items all : List ℕ) → Some (take (512 * (length items / 512)) items) ≡ Some all
    → length all ≡ 512 * (length items / 512)
told_whole items all e =
    let same : all ≡ take (512 * (length items / 512)) items = cc in
    ap length same ∙ length-take-le (512 * (length items / 512)) items (omega arith)

-- if no bytes are known, there is nothing to know of them
pub told_none : (all : List ℕ) (n : ℕ) → ◌≡◌ {A = Option (List ℕ)} None (Some all) → length all ≡ n
told_none all n e = absurd (cc)
