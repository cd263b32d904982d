-- The region after the stores of a start, and a start on that.
use Rattle.std.specs.Prelude.{◌≡◌, ◌↔◌, ℕ, List, [], ◌∷◌, None}
use Rattle.vhost_inflight.specs.Split.{SplitRegion, put}
use Rattle.vhost_inflight.specs.SplitStart.{Flies, IsInFlight, fault, start_stores, started}
use Rattle.vhost_inflight.specs.declared.split.SplitStore.{SplitStore}

-- what the region says after stores
abbrev pub all_put : SplitRegion → List SplitStore → SplitRegion
all_put r [] = r
all_put r (s ∷ ss) = all_put (put r s) ss

-- a region on which a start goes on as on another
pub record Remains (descriptors size used : ℕ) (r new : SplitRegion) : Type 0 where
  pub again : (heads : List ℕ) → Flies r used heads ↔ Flies new used heads
  pub accepted : fault descriptors size new used ≡ None

-- the region after all stores of a start on another: nothing is left to do, and another start goes on at the same place
pub record Settles (descriptors size used : ℕ) (r new : SplitRegion) : Type 0 where
  pub version : new.version ≡ 1
  pub index : new.used_idx ≡ used
  -- exactly what is served again is marked as in flight
  pub marked : (heads : List ℕ) → Flies r used heads ↔ IsInFlight new.entries heads
  pub again : (heads : List ℕ) → Flies r used heads ↔ Flies new used heads
  pub accepted : fault descriptors size new used ≡ None
  pub nothing : start_stores descriptors new used ≡ []
  pub kept : started new used ≡ started r used
