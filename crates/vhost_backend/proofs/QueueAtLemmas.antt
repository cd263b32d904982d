-- What is done with the queue of a ring is done with the queues of all.
use Rattle.std.proofs.Common.{◌≡◌, ◌⊎◌, ◌<◌, ◌≤◌, ℕ, true, false, List, Option, Some, None, MatchOption, get_or, inl, inr, length, sym, subst}
use Rattle.std.proofs.lemmas.Bool.{lt-ltb}
use Rattle.std.proofs.lemmas.Option.{slice_get_cases}
use Rattle.std.specs.Prelude.{nat_lt}
use Rattle.std.specs.List.{slice_get, slice_set}
use Rattle.vhost_backend.specs.Backend.{BackendState}
use Rattle.vhost_backend.specs.BlockQueue.{BlockQueueState}
use Rattle.vhost_backend.specs.BlockQueues.{WithQueue}

-- there is one
pub at_some : {H T : Type 0} (P : BackendState → H → BlockQueueState → T → BlockQueueState → Type 0)
    (qs qs' : List BlockQueueState) (ring : ℕ) (none r r' : T) (old new new' : H) (b b' : BackendState)
    (q q' : BlockQueueState) → slice_get qs ring ≡ Some q → P b' new' q r' q' → b ≡ b' → new ≡ new' → r ≡ r'
    → qs' ≡ slice_set qs ring q' → WithQueue qs ring none old r qs' new (P b new)
at_some P qs qs' ring none r r' old new new' b b' q q' there p same_b same_new same_r is =
    subst (λ (o : Option BlockQueueState). MatchOption o ((r ≡ none) × (qs' ≡ qs) × (new ≡ old))
    (λ q. (q' : BlockQueueState) × P b new q r q' × (qs' ≡ slice_set qs ring q'))) (sym there) (
      q',
      subst (λ x. P x new q r q') (sym same_b) (subst (λ x. P b' x q r q') (sym same_new)
          (subst (λ x. P b' new' q x q') (sym same_r) p)),
      is,
    )

-- there is none
pub at_none : {H T : Type 0} (P : BlockQueueState → T → BlockQueueState → Type 0) (qs qs' : List BlockQueueState)
    (ring : ℕ) (none r : T) (old new : H) → slice_get qs ring ≡ None → r ≡ none → qs' ≡ qs → new ≡ old
    → WithQueue qs ring none old r qs' new P
at_none P qs qs' ring none r old new missing is same still =
    subst (λ (o : Option BlockQueueState). MatchOption o ((r ≡ none) × (qs' ≡ qs) × (new ≡ old))
    (λ q. (q' : BlockQueueState) × P q r q' × (qs' ≡ slice_set qs ring q'))) (sym missing) (is, same, still)

-- there is not both
pub none_some : {A R : Type 0} (o : Option A) (a : A) → o ≡ None → o ≡ Some a → R
none_some None a none some = absurd (cc)
none_some (Some b) a none some = absurd (cc)

pub no_entry : {X : Type 0} (xs : List X) (i : ℕ) → false ≡ nat_lt i (length xs) → slice_get xs i ≡ None
no_entry {X} xs i past = go (slice_get_cases xs i).1
  where
    go : ((x : X) × (i < length xs) × (slice_get xs i ≡ Some x) × (get_or xs i x ≡ x))
        ⊎ ((length xs ≤ i) × (slice_get xs i ≡ None)) → slice_get xs i ≡ None
    go (inl (x, less, is, read)) = let there : nat_lt i (length xs) ≡ true = lt-ltb i (length xs) less in absurd (cc)
    go (inr (after, is)) = is
