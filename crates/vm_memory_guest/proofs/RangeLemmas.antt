-- Blocks that are made for ranges, one after another.
use Rattle.std.proofs.Common.{◌≡◌, ◌⊎◌, ℕ, ◌+◌, ◌<◌, ◌≤◌, List, [], ◌∷◌, ◌++◌, length, get_or, slice_get, take, map, flat_map, Some, None}
use Rattle.std.proofs.Common.{refl, sym, ap, subst, ◌∙◌, inl, inr, length-append, replicate, arith}
use Rattle.std.proofs.lemmas.List.{take_more, get_or_default, map-append}
use Rattle.std.proofs.lemmas.List.Elements.{All-push}
use Rattle.std.proofs.lemmas.Option.{slice_get_read}
use Rattle.vm_memory_base.specs.declared.address.GuestAddress.{GuestAddress}
use Rattle.vm_memory_guest.specs.Host.{Host, Name, Holds, shape_of, with_block}
use Rattle.vm_memory_guest.specs.Mmap.{mmap_region}
use Rattle.vm_memory_guest.specs.Ranges.{RangeList, AllFit, FoundNoMemory, HasBlocks, range_error, range_refusal, range_region, range_regions, refused_at}
use Rattle.vm_memory_guest.specs.Region.{Region, region_names}
use Rattle.vm_memory_guest.specs.declared.mmap.FromRangesError.{FromRangesError}
use Rattle.vm_memory_guest.specs.declared.mmap.GuestRegionMmap.{GuestRegionMmap}
use Rattle.vm_memory_guest.specs.declared.mmap.FromRangesError.TheVariants.{Collection}
use Rattle.vm_memory_guest.specs.declared.region.error.GuestRegionCollectionError.TheVariants as layout
use Rattle.vm_memory_guest.proofs.HoldsLemmas.{Holds-each}

-- one range more
pub AllFit-more : (rs : RangeList) (r : GuestAddress × ℕ) → AllFit rs → range_error r.0 r.1 ≡ None
    → AllFit (rs ++ r ∷ [])
AllFit-more [] r all fits = (fits, tt)
AllFit-more (q ∷ rs) r all fits = (all.0, AllFit-more rs r all.1 fits)

pub range_regions-more : (n : ℕ) (rs : RangeList) (r : GuestAddress × ℕ)
    → range_regions n (rs ++ r ∷ []) ≡ range_regions n rs ++ range_region (n + length rs) r.0 r.1 ∷ []
range_regions-more n [] r =
    let here : n ≡ n + length {A = GuestAddress × ℕ} [] = omega arith in
    ap (λ (k : ℕ). range_region k r.0 r.1 ∷ []) here
range_regions-more n (q ∷ rs) r =
    let here : n + 1 + length rs ≡ n + length (q ∷ rs) = omega arith in
    ap (λ (ys : List Region). range_region n q.0 q.1 ∷ ys)
    (range_regions-more (n + 1) rs r
    ∙ ap (λ (k : ℕ). range_regions (n + 1) rs ++ range_region k r.0 r.1 ∷ []) here)

module _ {B : Type 0} (made : ℕ → B → Type 0) where
  pub HasBlocks-more : (rs : RangeList) (r : GuestAddress × ℕ) (old mid new : Host B) (bitmap : B)
      → HasBlocks made rs old mid → made r.1 bitmap → new ≡ with_block mid r.1 bitmap
      → HasBlocks made (rs ++ r ∷ []) old new
  HasBlocks-more [] r old mid new bitmap h m e =
      (bitmap, m, e ∙ ap (λ (host : Host B). with_block host r.1 bitmap) h)
  HasBlocks-more (q ∷ rs) r old mid new bitmap h m e =
      (h.0, h.1, HasBlocks-more rs r (with_block old q.1 h.0) mid new bitmap h.2 m e)

  pub HasBlocks-length : (rs : RangeList) (old new : Host B) → HasBlocks made rs old new
      → length new.blocks ≡ length old.blocks + length rs
  HasBlocks-length [] old new h =
      let same = ap (λ (host : Host B). length host.blocks) h in
      omega arith
  HasBlocks-length (q ∷ rs) old new h =
      let rest = HasBlocks-length rs (with_block old q.1 h.0) new h.2 in
      let more = length-append old.blocks (replicate q.1 0 ∷ []) in
      omega arith

-- ---- the blocks and the regions of the first of some ranges

module _ {B : Type 0} (made : ℕ → B → Type 0) (ranges : RangeList) (old : Host B) where
  pub record IsMade (n : ℕ) (host : Host B) (regions : List Region) : Type 0 where
    pub fit : AllFit (take n ranges)
    pub blocks : HasBlocks made (take n ranges) old host
    pub regions_are : regions ≡ range_regions (length old.blocks) (take n ranges)
    pub held : Holds (shape_of host) (flat_map region_names regions)
    pub kept : (names : List Name) → Holds (shape_of old) names → Holds (shape_of host) names

  pub IsMade-none : IsMade 0 old []
  IsMade-none = record { fit = tt; blocks = refl; regions_are = refl; held = tt; kept = λ names h. h }

  module _ (n : ℕ) (host new : Host B) (regions : List Region) (so_far : IsMade n host regions)
      (r : GuestAddress × ℕ) (within : n < length ranges) (at : r ≡ get_or ranges n r) where
    next : take (n + 1) ranges ≡ take n ranges ++ r ∷ []
    next = take_more ranges n r within ∙ ap (λ (q : GuestAddress × ℕ). take n ranges ++ q ∷ []) (sym at)

    module _ (bitmap : B) (fits : range_error r.0 r.1 ≡ None) (has : made r.1 bitmap)
        (is : new ≡ with_block host r.1 bitmap) where
      more_blocks : HasBlocks made (take (n + 1) ranges) old new
      more_blocks = rw next (HasBlocks-more made (take n ranges) r old host new bitmap so_far.blocks has is)

      more_fit : AllFit (take (n + 1) ranges)
      more_fit = rw next (AllFit-more (take n ranges) r so_far.fit fits)

      pub IsMade-more : (region : Region) → region ≡ range_region (length host.blocks) r.0 r.1
          → Holds (shape_of new) (region_names region)
          → ((names : List Name) → Holds (shape_of host) names → Holds (shape_of new) names)
          → IsMade (n + 1) new (regions ++ region ∷ [])
      IsMade-more region same names kept =
          let count = HasBlocks-length made (take n ranges) old host so_far.blocks in
          let here : region ≡ range_region (length old.blocks + length (take n ranges)) r.0 r.1 =
          same ∙ ap (λ (k : ℕ). range_region k r.0 r.1) count in
          let P : Region → Type 0 = λ q. Holds (shape_of new) (region_names q) in
          let before = (Holds-each (shape_of new) regions).0 (kept (flat_map region_names regions) so_far.held) in
          record {
            fit = more_fit;
            blocks = more_blocks;
            regions_are = ap (λ (q : Region). regions ++ q ∷ []) here
                ∙ ap (λ (rs : List Region). rs ++ range_region (length old.blocks + length (take n ranges)) r.0 r.1
                ∷ []) so_far.regions_are
                ∙ sym (ap (range_regions (length old.blocks)) next
                ∙ range_regions-more (length old.blocks) (take n ranges) r);
            held = (Holds-each (shape_of new) (regions ++ region ∷ [])).1 (All-push P regions region before names);
            kept = λ ns h. kept ns (so_far.kept ns h);
          }

    abbrev Refused : FromRangesError → Type 0
    Refused e = (k : ℕ) × (k ≤ length ranges) × AllFit (take k ranges) × HasBlocks made (take k ranges) old new
        × (FoundNoMemory k e ⊎ ((k < length ranges)
        × (refused_at (slice_get ranges k) (range_regions (length old.blocks) ranges) ≡ Some e)))

    -- an error of the next range, before its block was made, or after it for want of memory
    pub refused_at_next : (e : FromRangesError)
        → ((new ≡ host) × (e ≡ range_refusal r.0 r.1))
        ⊎ ((e ≡ Collection layout.Memory) × (range_error r.0 r.1 ≡ None)
        × ((bitmap : B) × made r.1 bitmap × (new ≡ with_block host r.1 bitmap)))
        → Refused e
    refused_at_next e why = elim why [
      | inl refused ↦
          let blocks = subst (λ (h : Host B). HasBlocks made (take n ranges) old h) (sym refused.0) so_far.blocks in
          let there = slice_get_read ranges (length ranges) n r refl within at in
          let told : refused_at (slice_get ranges n) (range_regions (length old.blocks) ranges) ≡ Some e =
          rw there (ap (λ (f : FromRangesError). Some f) (sym refused.1)) in
          (n, omega (arith, within), so_far.fit, blocks, inr (within, told))
      | inr want ↦ (
        n + 1,
        omega (arith, within),
        more_fit want.2.0 want.1 want.2.1 want.2.2,
        more_blocks want.2.0 want.1 want.2.1 want.2.2,
        inl (omega arith, want.0),
      )
    ]

module _ {B : Type 0} (made : ℕ → B → Type 0) (ranges : RangeList) (old : Host B)
    (n : ℕ) (host new : Host B) where
  -- a call made the next block and its region
  pub IsMade-add : (vs ws : List GuestRegionMmap) (d : GuestAddress × ℕ)
      → IsMade made ranges old n host (map mmap_region vs) → n < length ranges
      → (range_error (get_or ranges n d).0 (get_or ranges n d).1 ≡ None)
      × ((bitmap : B) × made (get_or ranges n d).1 bitmap × (new ≡ with_block host (get_or ranges n d).1 bitmap))
      × ((v : GuestRegionMmap) × (ws ≡ vs ++ v ∷ [])
      × (mmap_region v ≡ range_region (length host.blocks) (get_or ranges n d).0 (get_or ranges n d).1)
      × Holds (shape_of new) (region_names (mmap_region v)))
      → ((names : List Name) → Holds (shape_of host) names → Holds (shape_of new) names)
      → IsMade made ranges old (n + 1) new (map mmap_region ws)
  IsMade-add vs ws d so_far within told kept =
      let r = get_or ranges n d in
      let v = told.2.0 in
      let same : map mmap_region ws ≡ map mmap_region vs ++ mmap_region v ∷ [] =
      ap (λ (xs : List GuestRegionMmap). map mmap_region xs) told.2.1 ∙ map-append mmap_region vs (v ∷ []) in
      subst (λ (rs : List Region). IsMade made ranges old (n + 1) new rs) (sym same)
      (IsMade-more made ranges old n host new (map mmap_region vs) so_far r within
      (get_or_default ranges n d r within) told.1.0 told.0 told.1.1 told.1.2 (mmap_region v) told.2.2 told.2.3 kept)

  -- or was refused
  pub refused_next : (regions : List Region) (d : GuestAddress × ℕ) (e : FromRangesError)
      → (so_far : IsMade made ranges old n host regions) → (within : n < length ranges)
      → ((new ≡ host) × (e ≡ range_refusal (get_or ranges n d).0 (get_or ranges n d).1))
      ⊎ ((e ≡ Collection layout.Memory) × (range_error (get_or ranges n d).0 (get_or ranges n d).1 ≡ None)
      × ((bitmap : B) × made (get_or ranges n d).1 bitmap × (new ≡ with_block host (get_or ranges n d).1 bitmap)))
      → (k : ℕ) × (k ≤ length ranges) × AllFit (take k ranges) × HasBlocks made (take k ranges) old new
      × (FoundNoMemory k e ⊎ ((k < length ranges)
      × (refused_at (slice_get ranges k) (range_regions (length old.blocks) ranges) ≡ Some e)))
  refused_next regions d e so_far within why =
      let r = get_or ranges n d in
      refused_at_next made ranges old n host new regions so_far r within (get_or_default ranges n d r within) e why
