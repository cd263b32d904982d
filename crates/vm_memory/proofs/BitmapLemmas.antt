-- Bitmaps of a host by their names.
use Rattle.std.proofs.Common.{◌≡◌, ◌≢◌, ℕ, Bool, true, false, cond, List, [], set, map, slice_get, Option, Some, None, option_map, Result, Ok, Err, OnOk, refl, sym, ap, ◌∙◌, inl, inr}
use Rattle.std.proofs.lemmas.List.{map-set, set-get_or}
use Rattle.std.proofs.lemmas.Option.{slice_get-map, get_or_from_slice_get}
use Rattle.vm_memory_base.specs.Pages.{PageSet, dirty_pages, cleaned}
use Rattle.vm_memory_base.specs.declared.bitmap.BitmapId.{BitmapId}
use Rattle.vm_memory_base.specs.declared.bitmap.BitmapId.TheVariants.{Block, Space}
use Rattle.vm_memory_guest.specs.Dirt.{with_pages}
use Rattle.vm_memory_guest.specs.Host.{Host, has_bytes, shape_of}
use Rattle.vm_memory_guest.specs.Region.{Region}
use Rattle.vm_memory_guest.specs.Window.{bitmap_of, with_bitmap}
use Rattle.vm_memory.specs.Commands.{bitmap_in}
use Rattle.vm_memory.specs.Machine.{Step}
use Rattle.vm_memory.specs.Parts.{Parts, state_of}
use Rattle.vm_memory.specs.Rounds.{pages_of_block, image_now, IsSynced}
use Rattle.vm_memory.specs.declared.machine.command.Command.TheVariants as command
use Rattle.vm_memory.specs.declared.machine.command.Reply.TheVariants as reply

-- ---- named bitmaps

module _ {B : Type 0} (pages : B → PageSet) (host : Host B) where
  pub bitmap_of-with_pages : (id : BitmapId)
      → bitmap_of (with_pages pages host) id ≡ option_map pages (bitmap_of host id)
  bitmap_of-with_pages (Block block) = slice_get-map pages host.bitmaps block
  bitmap_of-with_pages (Space space) = slice_get-map pages host.spaces space

  pub bitmap_in-with_pages : (id : BitmapId)
      → bitmap_in (with_pages pages host) id ≡ option_map pages (bitmap_in host id)
  bitmap_in-with_pages (Block block) =
      ap (λ (o : Option PageSet). cond (has_bytes (shape_of host) block) o None) (slice_get-map pages host.bitmaps block)
      ∙ mapped (has_bytes (shape_of host) block) (slice_get host.bitmaps block)
    where
      mapped : (b : Bool) (o : Option B) → cond b (option_map pages o) None ≡ option_map pages (cond b o None)
      mapped true o = refl
      mapped false o = refl
  bitmap_in-with_pages (Space space) = slice_get-map pages host.spaces space

  pub with_pages-with_bitmap : (id : BitmapId) (b : B)
      → with_pages pages (with_bitmap host id b) ≡ with_bitmap (with_pages pages host) id (pages b)
  with_pages-with_bitmap (Block block) b =
      ap (λ (bs : List PageSet). record (with_pages pages host) { bitmaps = bs }) (map-set pages host.bitmaps block b)
  with_pages-with_bitmap (Space space) b =
      ap (λ (bs : List PageSet). record (with_pages pages host) { spaces = bs }) (map-set pages host.spaces space b)

  -- the pages of a block's bitmap
  pub pages_of_block-with_pages : (block : ℕ) (b : B) → bitmap_of host (Block block) ≡ Some b
      → pages_of_block block (with_pages pages host) ≡ pages b
  pages_of_block-with_pages block b there =
      get_or_from_slice_get (map pages host.bitmaps) block (pages b) None
      (slice_get-map pages host.bitmaps block ∙ ap (option_map pages) there)

-- a bitmap whose block was not given back is there
pub bitmap_in-there : {B : Type 0} (host : Host B) (id : BitmapId) (b : B) → bitmap_in host id ≡ Some b
    → bitmap_of host id ≡ Some b
bitmap_in-there {B} host (Block block) b e = chosen (has_bytes (shape_of host) block) (slice_get host.bitmaps block) e
  where
    chosen : (c : Bool) (o : Option B) → cond c o None ≡ Some b → o ≡ Some b
    chosen true o e = e
    chosen false o e = absurd (cc)
bitmap_in-there host (Space space) b e = e

-- the bitmap that is there, put there again
pub set-same : {X : Type 0} (xs : List X) (i : ℕ) (x : X) → slice_get xs i ≡ Some x → set xs i x ≡ xs
set-same xs i x there =
    ap (λ (y : _). set xs i y) (sym (get_or_from_slice_get xs i x x there)) ∙ set-get_or xs i x

pub with_bitmap-same : {B : Type 0} (host : Host B) (id : BitmapId) (b : B) → bitmap_of host id ≡ Some b
    → with_bitmap host id b ≡ host
with_bitmap-same host (Block block) b there =
    ap (λ (bs : List _). record host { bitmaps = bs }) (set-same host.bitmaps block b there)
with_bitmap-same host (Space space) b there =
    ap (λ (bs : List _). record host { spaces = bs }) (set-same host.spaces space b there)

-- ---- a harvest is a step

module _ {R I B : Type 0} (region : R → Region) (number_of : I → ℕ) (pages : B → PageSet) (m : Parts R I B)
    (id : BitmapId) (b : B)
    (found : bitmap_in m.host id ≡ bitmap_of m.host id) (there : bitmap_of m.host id ≡ Some b)
  where
    seen : bitmap_in (with_pages pages m.host) id ≡ Some (pages b)
    seen = bitmap_in-with_pages pages m.host id ∙ ap (option_map pages) (found ∙ there)

    pub harvest_is_step : (dirty : List ℕ) (after : B) → dirty ≡ dirty_pages (pages b) → pages after ≡ cleaned (pages b)
        → Step (state_of region number_of pages m) (command.Harvest id) (reply.Pages dirty)
        (state_of region number_of pages (record m { host = with_bitmap m.host id after }))
    unfolding seen
    harvest_is_step dirty after listed clean =
        rw (seen, with_pages-with_bitmap pages m.host id after, listed, clean) (inl refl)

    pub refusal_is_step : dirty_pages (pages b) ≢ []
        → Step (state_of region number_of pages m) (command.Harvest id) reply.Memory
        (state_of region number_of pages (record m { host = with_bitmap m.host id b }))
    refusal_is_step some = rw (seen, with_bitmap-same m.host id b there) (inr (refl, some, refl))

-- ---- a sync

module _ {R I B E : Type 0} (region : R → Region) (number_of : I → ℕ) (pages : B → PageSet) (m : Parts R I B)
    (block : ℕ)
    (image synced : List ℕ) (host : Host B)
  where
    pub sync_is_synced : (r : Result (Unit {0}) E)
        → OnOk r (synced ≡ image_now block (with_pages pages m.host) image)
        → OnOk r ((after : B) × (pages after ≡ cleaned (pages_of_block block (with_pages pages m.host)))
        × (host ≡ with_bitmap m.host (Block block) after))
        → OnOk r (IsSynced block (state_of region number_of pages m) image
        (state_of region number_of pages (record m { host = host })) synced)
    sync_is_synced (Err e) patched cleans = tt
    sync_is_synced (Ok done) patched (after, clean, left) = (
      patched,
      ap (λ (h : Host PageSet). record (state_of region number_of pages m) { host = h })
          (ap (with_pages pages) left ∙ with_pages-with_bitmap pages m.host (Block block) after
          ∙ ap (with_bitmap (with_pages pages m.host) (Block block)) clean),
    )
