-- What a change of the table concerns of a ring.
use Rattle.std.proofs.Common.{◌≡◌, false, List, [], ◌∷◌, Option, Some, None, is_some, refl}
use Rattle.std.specs.List.{list_any}
use Rattle.vhost_iotlb.specs.declared.kept.Change.{Change}
use Rattle.vhost_backend.specs.Behind.{asked_uses}
use Rattle.vhost_backend.specs.declared.block_queue.Asked.{Asked}

-- it concerns no request if none is under way
pub idle_uses_nothing : (c : Change) (all : List (Option Asked)) → list_any is_some all ≡ false
    → list_any (asked_uses c) all ≡ false
idle_uses_nothing c [] none = refl
idle_uses_nothing c (None ∷ all) none = idle_uses_nothing c all none
idle_uses_nothing c (Some asked ∷ all) none = cc
