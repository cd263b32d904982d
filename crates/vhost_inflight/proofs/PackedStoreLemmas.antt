-- What holds of a packed queue's region after each store.
use Rattle.std.proofs.Common.{◌≡◌, ℕ, zero, suc, ◌+◌, ◌<◌, ◌≤◌, true, false, List, [], ◌∷◌, ◌++◌, length, refl, sym, ◌∙◌, ◌⊎◌, inl, inr}
use Rattle.std.specs.Prelude.{nat_lt, take}
use Rattle.std.specs.List.{list_any}
use Rattle.vhost_inflight.specs.Packed.{PackedRegion, changed}
use Rattle.vhost_inflight.specs.PackedCrash.{Deed, Id, Region, World, all_done, done, position}
use Rattle.vhost_inflight.specs.PackedStart.{Flies, is_available, is_same, settled}
use Rattle.vhost_inflight.specs.declared.packed.PackedStore.TheVariants.{FreeHead, OldFreeHead, Used}
use Rattle.vhost_inflight.specs.declared.packed_region.PackedEntry.{PackedEntry}
use Rattle.vhost_inflight.specs.declared.packed_region.PackedPosition.{PackedPosition}
use Rattle.vhost_inflight.proofs.PackedEntryLemmas.{rises_once}
use Rattle.vhost_inflight.proofs.PackedChainLemmas.{Chain, slots, uses}
use Rattle.vhost_inflight.proofs.PackedCoreLemmas.{Core, Given, core_free}
use Rattle.vhost_inflight.proofs.PackedGuestLemmas.{Guest}
use Rattle.vhost_inflight.proofs.PackedRingLemmas.{position_slot, same_here}

pub flies_once : (r : PackedRegion) (base : PackedPosition) (flags : ℕ) (xs ys : List ℕ) → Flies r base flags xs
    → Flies r base flags ys → xs ≡ ys
flies_once r base flags xs ys a b =
    rises_once (settled r base flags) xs ys (λ e. a.each e ∙ sym (b.each e)) a.order b.order

-- nothing was popped yet
pub record Fresh (g : Given) (w : World) : Type 0 where
  pub version : w.region.header.version ≡ 0
  pub len : length w.region.entries ≡ g.descriptors
  pub bits : list_any (λ e. nat_lt 1 e.in_flight) w.region.entries ≡ false
  pub guest : Guest g w.view w.published w.popped w.used w.flags []
  pub began : w.used ≡ g.began

-- the ring is not ahead of the region's old state
pub record Level (g : Given) (w : World) (free : List ℕ) (cs : List Chain) : Type 0 where
  pub core : Core g w.region.entries w.region.header.old_free_head w.popped free cs
  pub guest : Guest g w.view w.published w.popped w.used w.flags cs
  pub version : w.region.header.version ≡ 1
  pub desc_num : w.region.header.desc_num ≡ g.descriptors
  pub old : w.region.header.old_used ≡ position g.size w.used
  pub inside : w.region.header.used.slot < g.size
  pub same : (is_same w.region.header.used w.region.header.old_used ≡ true) ⊎ (0 < slots cs)

-- the ring is one chain ahead of it
pub record Ahead (g : Given) (w : World) (free : List ℕ) (cs : List Chain) : Type 0 where
  pub core : Core g w.region.entries w.region.header.free_head w.popped free cs
  pub guest : Guest g w.view w.published w.popped w.used w.flags cs
  pub version : w.region.header.version ≡ 1
  pub desc_num : w.region.header.desc_num ≡ g.descriptors
  pub new : w.region.header.used ≡ position g.size w.used
  pub before : ℕ
  pub old : w.region.header.old_used ≡ position g.size before
  pub behind : before < w.used
  pub near : w.used ≤ before + g.size
  pub gone : is_available (w.flags (position g.size before).slot) (position g.size before).wrap ≡ false

-- ---- what holds whenever a back end is cut off

pub data Sound (g : Given) (w : World) : Type 0 where
  IsFresh : Fresh g w → Sound g w
  IsLevel : (free : List ℕ) (cs : List Chain) → Level g w free cs → Sound g w
  IsAhead : (free : List ℕ) (cs : List Chain) → Ahead g w free cs → Sound g w

-- after each of these stores, and before the first
abbrev pub Each : Given → World → List Deed → Type 0
Each g w [] = Sound g w
Each g w (d ∷ ds) = Sound g w × Each g (done g.size w d) ds

pub each_cut : (g : Given) (ds : List Deed) (w : World) (n : ℕ) → Each g w ds → Sound g (all_done g.size w (take n ds))
each_cut g [] w zero e = e
each_cut g [] w (suc n) e = e
each_cut g (d ∷ ds) w zero (here, rest) = here
each_cut g (d ∷ ds) w (suc n) (here, rest) = each_cut g ds (done g.size w d) n rest

pub each-append : (g : Given) (xs ys : List Deed) (w : World) → Each g w xs → Each g (all_done g.size w xs) ys
    → Each g w (xs ++ ys)
each-append g [] ys w a b = b
each-append g (x ∷ xs) ys w (here, rest) b = (here, each-append g xs ys (done g.size w x) rest b)

pub all_done-append : (size : ℕ) (xs ys : List Deed) (w : World)
    → all_done size w (xs ++ ys) ≡ all_done size (all_done size w xs) ys
all_done-append size [] ys w = refl
all_done-append size (x ∷ xs) ys w = all_done-append size xs ys (done size w x)

-- ---- one store at a time

abbrev pub with_entries : World → List PackedEntry → World
with_entries w es = record w { region = record w.region { entries = es } }

pub level_free : (g : Given) (w : World) (free : List ℕ) (cs : List Chain) (i : ℕ) (f : PackedEntry → PackedEntry)
    → ((e : PackedEntry) → (f e).next ≡ e.next)
    → ((e : PackedEntry) → nat_lt 1 e.in_flight ≡ false → nat_lt 1 (f e).in_flight ≡ false) → 0 < uses i free
    → Level g w free cs → Level g (with_entries w (changed w.region.entries i f)) free cs
level_free g w free cs i f next bits at s = record {
  core = core_free g w.region.entries w.region.header.old_free_head w.popped free cs i f next bits at s.core;
  guest = s.guest;
  version = s.version;
  desc_num = s.desc_num;
  old = s.old;
  inside = s.inside;
  same = s.same;
}

pub level_entries : (g : Given) (w : World) (free : List ℕ) (cs : List Chain) (es : List PackedEntry)
    → Core g es w.region.header.old_free_head w.popped free cs → Level g w free cs → Level g (with_entries w es) free cs
level_entries g w free cs es core s = record {
  core = core;
  guest = s.guest;
  version = s.version;
  desc_num = s.desc_num;
  old = s.old;
  inside = s.inside;
  same = s.same;
}

pub ahead_free : (g : Given) (w : World) (free : List ℕ) (cs : List Chain) (i : ℕ) (f : PackedEntry → PackedEntry)
    → ((e : PackedEntry) → (f e).next ≡ e.next)
    → ((e : PackedEntry) → nat_lt 1 e.in_flight ≡ false → nat_lt 1 (f e).in_flight ≡ false) → 0 < uses i free
    → Ahead g w free cs → Ahead g (with_entries w (changed w.region.entries i f)) free cs
ahead_free g w free cs i f next bits at s = record {
  core = core_free g w.region.entries w.region.header.free_head w.popped free cs i f next bits at s.core;
  guest = s.guest;
  version = s.version;
  desc_num = s.desc_num;
  new = s.new;
  before = s.before;
  old = s.old;
  behind = s.behind;
  near = s.near;
  gone = s.gone;
}

pub level_free_head : (g : Given) (w : World) (free : List ℕ) (cs : List Chain) (h : ℕ) → Level g w free cs
    → Level g (done g.size w (Region (FreeHead h))) free cs
level_free_head g w free cs h s = record {
  core = s.core;
  guest = s.guest;
  version = s.version;
  desc_num = s.desc_num;
  old = s.old;
  inside = s.inside;
  same = s.same;
}

pub level_id : (g : Given) (w : World) (free : List ℕ) (cs : List Chain) (id : ℕ) → Level g w free cs
    → Level g (done g.size w (Id id)) free cs
level_id g w free cs id s = record {
  core = s.core;
  guest = s.guest;
  version = s.version;
  desc_num = s.desc_num;
  old = s.old;
  inside = s.inside;
  same = s.same;
}

-- the used position moves, and the old one stays
pub level_turned : (g : Given) (w : World) (free : List ℕ) (cs : List Chain) (new old : PackedPosition)
    → old ≡ position g.size w.used → new.slot < g.size → 0 < slots cs → Level g w free cs
    → Level g (done g.size w (Region (Used new old))) free cs
level_turned g w free cs new old is inside some s = record {
  core = s.core;
  guest = s.guest;
  version = s.version;
  desc_num = s.desc_num;
  old = is;
  inside = inside;
  same = inr some;
}

-- the old state is the new one
pub level_old_free_head : (g : Given) (w : World) (free : List ℕ) (cs : List Chain) (h : ℕ)
    → h ≡ w.region.header.old_free_head → Level g w free cs
    → Level g (done g.size w (Region (OldFreeHead h))) free cs
level_old_free_head g w free cs h is s = record {
  core = rw is s.core;
  guest = s.guest;
  version = s.version;
  desc_num = s.desc_num;
  old = s.old;
  inside = s.inside;
  same = s.same;
}

pub level_settled : (g : Given) (w : World) (free : List ℕ) (cs : List Chain) (p : PackedPosition)
    → p ≡ position g.size w.used → Level g w free cs → Level g (done g.size w (Region (Used p p))) free cs
level_settled g w free cs p is s = record {
  core = s.core;
  guest = s.guest;
  version = s.version;
  desc_num = s.desc_num;
  old = is;
  inside = rw is (position_slot g.size w.used g.some);
  same = inl (same_here p);
}

pub ahead_free_head : (g : Given) (w : World) (free : List ℕ) (cs : List Chain) (h : ℕ)
    → h ≡ w.region.header.free_head → Ahead g w free cs → Ahead g (done g.size w (Region (FreeHead h))) free cs
ahead_free_head g w free cs h is s = record {
  core = rw is s.core;
  guest = s.guest;
  version = s.version;
  desc_num = s.desc_num;
  new = s.new;
  before = s.before;
  old = s.old;
  behind = s.behind;
  near = s.near;
  gone = s.gone;
}

pub ahead_old_free_head : (g : Given) (w : World) (free : List ℕ) (cs : List Chain) (h : ℕ) → Ahead g w free cs
    → Ahead g (done g.size w (Region (OldFreeHead h))) free cs
ahead_old_free_head g w free cs h s = record {
  core = s.core;
  guest = s.guest;
  version = s.version;
  desc_num = s.desc_num;
  new = s.new;
  before = s.before;
  old = s.old;
  behind = s.behind;
  near = s.near;
  gone = s.gone;
}

-- nothing is left to do
pub level_caught_up : (g : Given) (w : World) (free : List ℕ) (cs : List Chain) (p : PackedPosition)
    → w.region.header.old_free_head ≡ w.region.header.free_head → p ≡ position g.size w.used → Ahead g w free cs
    → Level g (done g.size w (Region (Used p p))) free cs
level_caught_up g w free cs p head is s = record {
  core = rw head s.core;
  guest = s.guest;
  version = s.version;
  desc_num = s.desc_num;
  old = is;
  inside = rw is (position_slot g.size w.used g.some);
  same = inl (same_here p);
}
