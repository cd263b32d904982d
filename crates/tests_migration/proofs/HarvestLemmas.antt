-- Notes of marks and harvests.
use Rattle.std.proofs.Common.{◌≡◌, ◌<◌, ◌++◌, ℕ, zero, suc, List, [], ◌∷◌, length, inl, inr, arith}
use Rattle.std.specs.Prelude.{Contains, slice_index_or}
use Rattle.vm_memory_base.specs.Notes.{IsNoted, Note}

-- what is noted is noted among more
pub noted_among : (word round page : ℕ) (xs ys : List Note) → IsNoted word round page xs
    → IsNoted word round page (xs ++ ys)
noted_among word round page [] ys h = absurd h
noted_among word round page (n ∷ ns) ys (inl h) = inl h
noted_among word round page (n ∷ ns) ys (inr h) = inr (noted_among word round page ns ys h)

-- the one harvest
pub one_of : (h x : ℕ × List ℕ) → Contains (h ∷ []) x → h ≡ x
one_of h x c = go c.0 c.1 c.2
  where
    go : (k : ℕ) → k < length (h ∷ []) → slice_index_or (h ∷ []) k x ≡ x → h ≡ x
    go zero l e = e
    go (suc k) l e = absurd (omega arith)
