use Rattle.std.proofs.Common.{◌≡◌, ◌⊎◌, ℕ, Bool, true, false, ltb, List, [], ◌∷◌, ◌∙◌, slice_get, MatchBool, Option, Some, None, Result, Ok, Err, All, refl, sym, subst, inl, inr}
use Rattle.std.proofs.lemmas.List.Elements.{All-get_or, All-set}
use Rattle.std.proofs.lemmas.Option.{slice_get_within, get_or_from_slice_get}
use Rattle.vm_memory_base.specs.declared.bitmap.BitmapId.{BitmapId}
use Rattle.vm_memory_base.specs.declared.bitmap.BitmapId.TheVariants.{Block, Space}
use Rattle.vm_memory_base.specs.declared.bitmap.tracked.Marker.{Marker}
use Rattle.vm_memory_base.specs.declared.bitmap.tracked.TrackedBitmap.{TrackedBitmap}
use Rattle.vm_memory_base.specs.declared.bitmap.tracked.marker_bitmap.MarkerBitmap.{MarkerBitmap}
use Rattle.vm_memory_base.specs.MarkerBitmap.{held_of, MarksHeld}
use Rattle.vm_memory_guest.specs.Answer.{Outcome}
use Rattle.vm_memory_guest.specs.Host.{Host, written}
use Rattle.vm_memory_guest.specs.Window.{cells, Marks, MarksWindow, MarksAll, Writes, Window}
use Rattle.test_regions.specs.Markers.{IsHeldOf, AreMarkersOf}
use Rattle.tests_guest_transfers.proofs.tracked.write_bytes.Goals as goal

-- what holds of each element holds of one by its number
All-slice_get : {X : Type 0} (P : X → Type 0) (xs : List X) (i : ℕ) (x : X) → slice_get xs i ≡ Some x → All P xs → P x
All-slice_get P xs i x e all =
    subst P (get_or_from_slice_get xs i x x e) (All-get_or P xs i x (slice_get_within xs i x e) all)

match_bool-either : (b : Bool) (P Q R : Type 0) → (P → R) → (Q → R) → MatchBool b P Q → R
match_bool-either true P Q R f g h = f h
match_bool-either false P Q R f g h = g h

-- what each mark keeps of a bitmap, marks of windows keep of all bitmaps of blocks
module _ {B : Type 0} (marks : B → ℕ → ℕ → B → Type 0) (P : B → Type 0)
    (keeps : (old : B) (offset len : ℕ) (new : B) → P old → marks old offset len new → P new) where
  kept-Marks : (id : BitmapId) (offset len : ℕ) (old new : Host B) → Marks marks id offset len old new
      → All P old.bitmaps → All P new.bitmaps
  kept-Marks (Block block) offset len old new h all =
      let one = h.1 in
      let after = keeps one.before offset len one.after (All-slice_get P old.bitmaps block one.before one.was all)
      one.marked in
      let set : All P h.0 = subst (All P) (sym one.is) (All-set P old.bitmaps block one.after after all) in
      subst (λ (x : Host B). All P x.bitmaps) (sym h.2) set
  kept-Marks (Space space) offset len old new h all = subst (λ (x : Host B). All P x.bitmaps) (sym h.2) all

  kept-MarksAll : (ws : List Window) (old new : Host B) → MarksAll marks ws old new → All P old.bitmaps
      → All P new.bitmaps
  kept-MarksAll [] old new h all = subst (λ (x : Host B). All P x.bitmaps) (sym h) all
  kept-MarksAll (w ∷ ws) old new h all =
      kept-MarksAll ws h.0 new h.2 (match_bool-either (ltb 0 w.size)
      (Marks marks w.bitmap.id w.bitmap.base w.size old h.0) (h.0 ≡ old)
      (All P h.0.bitmaps)
      (λ m. kept-Marks w.bitmap.id w.bitmap.base w.size old h.0 m all)
      (λ e. subst (λ (x : Host B). All P x.bitmaps) (sym e) all) h.1)

-- a mark by a marker is one of the same bitmap
held-marked : (bitmap : TrackedBitmap) (old : Option (TrackedBitmap × Marker)) (offset len : ℕ)
    (new : Option (TrackedBitmap × Marker)) → IsHeldOf bitmap old → MarksHeld old offset len new → IsHeldOf bitmap new
held-marked bitmap None offset len new is h = subst (IsHeldOf bitmap) (sym h) tt
held-marked bitmap (Some held) offset len new is h = subst (IsHeldOf bitmap) (sym h.1) (is.0, h.2 ∙ is.1)

kept-outcome : {T E : Type 0} (bitmap : TrackedBitmap) (memory : E) (may_want : Type 0) (expected : Result T E)
    (r : Result T E)
    (ws : List Window) (bytes : List ℕ) (old new : Host MarkerBitmap)
    → Outcome memory may_want expected (new ≡ old)
    (Writes (λ (b : MarkerBitmap) offset len c. MarksHeld (held_of b) offset len (held_of c)) ws bytes old new) r
    → AreMarkersOf bitmap old.bitmaps → AreMarkersOf bitmap new.bitmaps
kept-outcome {T} {E} bitmap memory may_want expected r ws bytes old new h all = by_case r h
  where
    marks : MarkerBitmap → ℕ → ℕ → MarkerBitmap → Type 0
    marks b offset len c = MarksHeld (held_of b) offset len (held_of c)

    wrote : Writes marks ws bytes old new → AreMarkersOf bitmap new.bitmaps
    wrote w = kept-MarksAll marks (λ b. IsHeldOf bitmap (held_of b))
        (λ b offset len c is m. held-marked bitmap (held_of b) offset len (held_of c) is m)
        ws (record old { blocks = written (cells ws) bytes old.blocks }) new w all

    by_case : (r : Result T E) → Outcome memory may_want expected (new ≡ old) (Writes marks ws bytes old new) r
        → AreMarkersOf bitmap new.bitmaps
    by_case (Ok value) h = wrote h.1
    by_case (Err e) (inl none) = subst (λ (x : Host MarkerBitmap). AreMarkersOf bitmap x.bitmaps) (sym none.2) all
    by_case (Err e) (inr some) = wrote some.1

pub returns : goal.returns
returns c =
    kept-outcome c.args.bitmap.now _ _ _ c.write.result _ _ c.args.host.now c.write.new.host c.write.ensures.answer
    c.requires
