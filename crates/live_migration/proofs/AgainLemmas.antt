-- Blocks that are marked again are dirty.
use Rattle.std.proofs.Common.{◌≡◌, ℕ, zero, suc, ◌+◌, ◌<◌, true, List, [], ◌∷◌, map, get_or, set, Some, None, option_map, inl, inr, refl, sym, ap, subst, ◌∙◌, get_or-set_other, zero-add}
use Rattle.std.specs.Prelude.{slice_get}
use Rattle.std.proofs.lemmas.Bool.{cases_eq}
use Rattle.std.proofs.lemmas.List.{map-set, set-get_or}
use Rattle.std.proofs.lemmas.Option.{get_or_from_slice_get, same_Some, slice_get-map}
use Rattle.vm_memory_base.specs.Pages.{PageSet, shape, is_dirty_at}
use Rattle.vm_memory_base.specs.declared.bitmap.BitmapId.{BitmapId}
use Rattle.vm_memory_base.specs.declared.bitmap.BitmapId.TheVariants.{Block, Space}
use Rattle.vm_memory_guest.specs.Dirt.{pages_at, with_pages}
use Rattle.vm_memory_guest.specs.Host.{Host}
use Rattle.vm_memory_guest.specs.Lent.{IsDirty}
use Rattle.vm_memory_guest.proofs.EffectLaws.{DirtyPagesStay, ShapeStays}
use Rattle.vm_memory_guest.proofs.LentLaws.{Dirtier, MarkedBytesAreDirty, dirty_after, stays_dirty}
use Rattle.live_migration.specs.Sending.{AreMarkedAgain, IsAsItWas, IsMarkedAgain, MarksBlock}
use Rattle.live_migration.specs.declared.sender.pages.Target.{Target}
use Rattle.live_migration.proofs.FollowingLemmas.{slice_get-set_same}

module _ (shape_stays : ShapeStays) (stays : DirtyPagesStay) (dirties : MarkedBytesAreDirty) {B : Type 0}
    (pages_of : B → PageSet)
  where
    module _ (block len : ℕ) (old new : Host B) (m : MarksBlock pages_of block len old new) where
      bitmaps_are : new.bitmaps ≡ set old.bitmaps block m.after
      bitmaps_are = ap (λ (h : Host B). h.bitmaps) m.is

      pages_are : map pages_of new.bitmaps ≡ set (map pages_of old.bitmaps) block (pages_of m.after)
      pages_are = ap (map pages_of) bitmaps_are ∙ map-set pages_of old.bitmaps block m.after

      was_at : get_or (map pages_of old.bitmaps) block None ≡ pages_of m.before
      was_at =
          get_or_from_slice_get (map pages_of old.bitmaps) block (pages_of m.before) None
          (slice_get-map pages_of old.bitmaps block ∙ ap (option_map pages_of) m.was)

      now_at : get_or (map pages_of new.bitmaps) block None ≡ pages_of m.after
      now_at =
          get_or_from_slice_get (map pages_of new.bitmaps) block (pages_of m.after) None
          (ap (λ (ps : List PageSet). slice_get ps block) pages_are
          ∙ slice_get-set_same (map pages_of old.bitmaps) block (pages_of m.before) (pages_of m.after)
          (slice_get-map pages_of old.bitmaps block ∙ ap (option_map pages_of) m.was))

      same_shape : shape (pages_of m.after) ≡ shape (pages_of m.before)
      same_shape = ap shape m.dirty ∙ shape_stays 0 len (pages_of m.before)

      shapes : map shape (map pages_of new.bitmaps) ≡ map shape (map pages_of old.bitmaps)
      shapes =
          let all = map shape (map pages_of old.bitmaps) in
          ap (map shape) pages_are ∙ map-set shape (map pages_of old.bitmaps) block (pages_of m.after)
          ∙ ap (set all block) (same_shape ∙ sym (get_or_from_slice_get all block (shape (pages_of m.before)) None
          (slice_get-map shape (map pages_of old.bitmaps) block
          ∙ ap (option_map shape) (slice_get-map pages_of old.bitmaps block ∙ ap (option_map pages_of) m.was))))
          ∙ set-get_or all block None

      still : (id : BitmapId) (offset : ℕ) → is_dirty_at (pages_at id (with_pages pages_of old)) offset ≡ true
          → is_dirty_at (pages_at id (with_pages pages_of new)) offset ≡ true
      still (Space s) offset h =
          subst (λ (bs : List B). is_dirty_at (get_or (map pages_of bs) s None) offset ≡ true)
          (sym (ap (λ (w : Host B). w.spaces) m.is)) h
      still (Block b) offset h = elim (cases_eq b block) [
        | inl e ↦
            subst (λ (i : ℕ). is_dirty_at (get_or (map pages_of new.bitmaps) i None) offset ≡ true) (sym e)
            (subst (λ (set : PageSet). is_dirty_at set offset ≡ true) (sym (now_at ∙ m.dirty))
            (stays 0 len offset (pages_of m.before) (subst (λ (set : PageSet). is_dirty_at set offset ≡ true)
            (ap (λ (i : ℕ). get_or (map pages_of old.bitmaps) i None) e ∙ was_at) h)))
        | inr ne ↦
            subst (λ (set : PageSet). is_dirty_at set offset ≡ true)
            (sym (ap (λ (ps : List PageSet). get_or ps b None) pages_are
            ∙ get_or-set_other (map pages_of old.bitmaps) block b (pages_of m.after) None ne)) h
      ]

      -- a block that is marked only becomes dirtier
      marked_dirtier : Dirtier (with_pages pages_of old) (with_pages pages_of new)
      marked_dirtier = record {
        bitmaps = shapes;
        spaces = ap (λ (w : Host B). map shape (map pages_of w.spaces)) m.is;
        dirty = still;
      }

      -- and each of its bytes is dirty
      marked_dirty : (k : ℕ) → k < len → IsDirty (Block block) k (with_pages pages_of new)
      marked_dirty k l p has below fits =
          let at : 0 + k ≡ k = zero-add k in
          subst (λ (n : ℕ). is_dirty_at (Some p) n ≡ true) at
          (dirty_after shape_stays stays dirties (pages_of m.before) 0 len k p (sym m.dirty ∙ sym now_at ∙ has) l
          (rw at below) (rw at fits))

    abbrev pub Dirtied : Target → Host B → Type 0
    Dirtied t host = (k : ℕ) → k < t.entry.len → IsDirty (Block t.block.0) k (with_pages pages_of host)

    pub record Again (ts : List Target) (old new : Host B) : Type 0 where
      pub blocks : new.blocks ≡ old.blocks
      pub dirtier : Dirtier (with_pages pages_of old) (with_pages pages_of new)
      pub dirty : (j : ℕ) (t : Target) → slice_get ts j ≡ Some t → IsAsItWas t old → Dirtied t new

    -- the same host
    same_host : (old new : Host B) → new ≡ old → Again [] old new
    same_host old new e =
        subst (λ (w : Host B). Again [] old w) (sym e) (record {
          blocks = refl;
          dirtier = record { bitmaps = refl; spaces = refl; dirty = λ id offset h. h };
          dirty = λ j t at was. absurd cc;
        })

    first_again : (t : Target) (old mid : Host B) → IsMarkedAgain pages_of t old mid
        → (mid.blocks ≡ old.blocks) × Dirtier (with_pages pages_of old) (with_pages pages_of mid)
        × (IsAsItWas t old → Dirtied t mid)
    first_again t old mid (inl m) = (
      ap (λ (w : Host B). w.blocks) m.is,
      marked_dirtier t.block.0 t.entry.len old mid m,
      λ was. marked_dirty t.block.0 t.entry.len old mid m,
    )
    first_again t old mid (inr s) = (
      ap (λ (w : Host B). w.blocks) s.0,
      (same_host old mid s.0).dirtier,
      λ was. absurd (s.1 was),
    )

    pub all_again : (ts : List Target) (old new : Host B) → AreMarkedAgain pages_of ts old new → Again ts old new
    all_again [] old new are = same_host old new are
    all_again (t ∷ ts) old new are =
        let mid = are.0 in
        let f = first_again t old mid are.1 in
        let r = all_again ts mid new are.2 in
        let d = r.dirtier in
        record {
          blocks = r.blocks ∙ f.0;
          dirtier = record {
            bitmaps = d.bitmaps ∙ f.1.bitmaps;
            spaces = d.spaces ∙ f.1.spaces;
            dirty = λ id offset h. d.dirty id offset (f.1.dirty id offset h);
          };
          dirty = each r;
        }
      where
        each : Again ts are.0 new → (j : ℕ) (u : Target) → slice_get (t ∷ ts) j ≡ Some u → IsAsItWas u old
            → Dirtied u new
        each r zero u at was =
            let here : t ≡ u = same_Some t u at in
            let first : Dirtied u are.0 = subst (λ (x : Target). Dirtied x are.0) here
            ((first_again t old are.0 are.1).2 (subst (λ (x : Target). IsAsItWas x old) (sym here) was)) in
            λ k l. stays_dirty (with_pages pages_of are.0) (with_pages pages_of new) r.dirtier (Block u.block.0) k
            (first k l)
        each r (suc j) u at was =
            r.dirty j u at
            (subst (λ (blocks : List (List ℕ)). IsAsItWas u (record old { blocks = blocks }))
            (sym (first_again t old are.0 are.1).0) was)
