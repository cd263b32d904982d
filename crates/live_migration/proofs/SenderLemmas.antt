-- What a sender copies.
use Rattle.std.proofs.Common.{◌≡◌, ℕ, zero, suc, ◌+◌, ◌<◌, List, [], ◌∷◌, ◌++◌, length, map, get_or, take, set, Some, Result, Ok, Err, OnErr, refl, sym, ap, ap₂, subst, ◌∙◌, arith, add-zero, zero-add, ◌⊎◌, inl, inr}
use Rattle.std.proofs.lemmas.List.{map_more, map_push, set-get_or, take_all}
use Rattle.std.specs.Int.{div_ceil}
use Rattle.std.specs.Prelude.{slice_get}
use Rattle.std.proofs.lemmas.Bool.{cond-false, ne_eqb}
use Rattle.std.proofs.lemmas.Option.{get_or_from_slice_get, same_Some}
use Rattle.vm_memory_base.specs.Address.{numbers}
use Rattle.vm_memory_guest.proofs.WrittenLaws.{bytes_at-block}
use Rattle.vm_memory_base.specs.Pages.{PageSet, cleaned, dirty_pages}
use Rattle.vm_memory_base.specs.declared.bitmap.BitmapId.TheVariants.{Block}
use Rattle.vm_memory_guest.specs.Host.{Host, block_at, bytes_at}
use Rattle.vm_memory_guest.specs.declared.host.BlockId.{BlockId}
use Rattle.vm_memory_guest.specs.Window.{bitmap_of, block_window, cells_of, with_bitmap}
use Rattle.live_migration.specs.Sending.{AreMarkedAgain, Harvests, IsAsItWas, IsMarkedAgain, IsTracked, TakesPages}
use Rattle.live_migration.specs.Targets.{AreBlocks, AreTargets, IsOther, place_of}
use Rattle.live_migration.specs.declared.sender.pages.Target.{Target}

-- all bytes of a block are a window of it
pub whole_bytes : (blocks : List (List ℕ)) (block n : ℕ) → n ≡ length (block_at blocks block)
    → bytes_at blocks (cells_of (block_window block 0 n)) ≡ block_at blocks block
whole_bytes blocks block n size =
    bytes_at-block block 0 n blocks (omega arith) ∙ take_all n (block_at blocks block) (omega arith)

-- one number more
numbers-suc : (a n : ℕ) → numbers a (suc n) ≡ numbers a n ++ (a + n) ∷ []
numbers-suc a zero = ap (λ (k : ℕ). k ∷ []) (sym (add-zero a))
numbers-suc a (suc n) =
    let at : a + 1 + n ≡ a + suc n = omega arith in
    ap (λ (xs : List ℕ). a ∷ xs)
    (numbers-suc (a + 1) n ∙ ap (λ (k : ℕ). numbers (a + 1) n ++ k ∷ []) at)

pub numbers_more : (n : ℕ) → numbers 0 (n + 1) ≡ numbers 0 n ++ n ∷ []
numbers_more n =
    let more : n + 1 ≡ suc n = omega arith in
    ap (numbers 0) more ∙ numbers-suc 0 n ∙ ap (λ (k : ℕ). numbers 0 n ++ k ∷ []) (zero-add n)

-- the bitmap that is there, put there again
pub with_bitmap-same : {B : Type 0} (host : Host B) (block : ℕ) (b : B) → bitmap_of host (Block block) ≡ Some b
    → with_bitmap host (Block block) b ≡ host
with_bitmap-same host block b there =
    ap (λ (bs : List _). record host { bitmaps = bs })
    (ap (λ (y : _). set host.bitmaps block y) (sym (get_or_from_slice_get host.bitmaps block b b there))
    ∙ set-get_or host.bitmaps block b)

module _ {B : Type 0} (pages_of : B → PageSet) (t : Target) (old new : Host B)
    (tracked : IsTracked pages_of t old)
  where
    -- the bitmap that was harvested is the one that was looked at
    same_bitmap : (pages : List ℕ) (h : Harvests pages_of t.block.0 pages old new) → h.before ≡ tracked.bitmap
    same_bitmap pages h = same_Some h.before tracked.bitmap (sym h.was ∙ tracked.was)

    dirty_of : (pages : List ℕ) (h : Harvests pages_of t.block.0 pages old new)
        → pages_of h.before ≡ Some tracked.tracked
    dirty_of pages h = ap pages_of (same_bitmap pages h) ∙ tracked.dirty

    pub takes_dirty : (round : ℕ) (pages : List ℕ) → (round ≡ 0 → ⊥) → Harvests pages_of t.block.0 pages old new
        → TakesPages pages_of t round pages old new
    takes_dirty round pages later h = record {
      before = h.before;
      after = h.after;
      tracked = tracked.tracked;
      was = h.was;
      dirty = dirty_of pages h;
      size = tracked.size;
      pages_are = h.pages_are ∙ ap dirty_pages (dirty_of pages h) ∙ sym (cond-false _ _ _ (ne_eqb round 0 later));
      clean = h.clean ∙ ap cleaned (dirty_of pages h);
      is = h.is;
    }

    pub takes_all : (len : ℕ) (all pages : List ℕ) → len ≡ length (block_at old.blocks t.block.0)
        → all ≡ numbers 0 (div_ceil len t.entry.page_size) → Harvests pages_of t.block.0 pages old new
        → TakesPages pages_of t 0 all old new
    takes_all len all pages size is h = record {
      before = h.before;
      after = h.after;
      tracked = tracked.tracked;
      was = h.was;
      dirty = dirty_of pages h;
      size = tracked.size;
      pages_are = is ∙ ap (λ (n : ℕ). numbers 0 (div_ceil n t.entry.page_size)) size
          ∙ ap (λ (n : ℕ). numbers 0 (div_ceil (length (block_at old.blocks t.block.0)) n)) (sym tracked.size);
      clean = h.clean ∙ ap cleaned (dirty_of pages h);
      is = h.is;
    }

-- a harvest that was refused
pub refused_same : {B X E : Type 0} (r : Result X E) (Q : Type 0) (host : Host B) (block : ℕ) (b after : B)
    → bitmap_of host (Block block) ≡ Some b → OnErr r ((after ≡ b) × Q)
    → OnErr r (with_bitmap host (Block block) after ≡ host)
refused_same (Ok x) Q host block b after there h = tt
refused_same (Err e) Q host block b after there h =
    ap (λ (c : _). with_bitmap host (Block block) c) h.0 ∙ with_bitmap-same host block b there

-- one target more
pub marked_more : {B : Type 0} (pages_of : B → PageSet) (ts : List Target) (t : Target) (old mid new : Host B)
    → AreMarkedAgain pages_of ts old mid → IsMarkedAgain pages_of t mid new
    → AreMarkedAgain pages_of (ts ++ t ∷ []) old new
marked_more pages_of [] t old mid new are is =
    (new, subst (λ (h : Host _). IsMarkedAgain pages_of t h new) are is, refl)
marked_more pages_of (x ∷ xs) t old mid new are is =
    (are.0, are.1, marked_more pages_of xs t are.0 mid new are.2 is)

-- ---- targets

-- what a list has with one more
sliced_more : (ts : List Target) (t u : Target) (j : ℕ) → slice_get (ts ++ t ∷ []) j ≡ Some u
    → (slice_get ts j ≡ Some u) ⊎ ((j ≡ length ts) × (t ≡ u))
sliced_more [] t u zero e = inr (refl, same_Some t u e)
sliced_more [] t u (suc j) e = absurd cc
sliced_more (x ∷ xs) t u zero e = inl e
sliced_more (x ∷ xs) t u (suc j) e =
    elim (sliced_more xs t u j e) [ inl old ↦ inl old | inr new ↦ inr (ap suc new.0, new.1) ]

pub none_blocks : {B : Type 0} (host : Host B) → AreBlocks host []
none_blocks host = record {
  there = λ j t e. absurd cc;
  once = λ i j t u a b e. absurd cc;
}

pub none_targets : {B : Type 0} (pages_of : B → PageSet) (host : Host B) → AreTargets pages_of host []
none_targets pages_of host = record { blocks = none_blocks host; each = λ j t e. absurd cc }

pub blocks_more : {B : Type 0} (host : Host B) (ts : List Target) (t : Target) → AreBlocks host ts → IsAsItWas t host
    → IsOther ts t → AreBlocks host (ts ++ t ∷ [])
blocks_more host ts t are there other = record {
  there = λ j u e. elim (sliced_more ts t u j e) [
    | inl old ↦ are.there j u old
    | inr new ↦ subst (λ (x : Target). IsAsItWas x host) new.1 there
  ];
  once = λ i j u v a b e. elim (sliced_more ts t u i a) [
    | inl old ↦ elim (sliced_more ts t v j b) [
      | inl old' ↦ are.once i j u v old old' e
      | inr new' ↦ absurd (other i u old (e ∙ ap (λ (x : Target). x.block.0) (sym new'.1)))
    ]
    | inr new ↦ elim (sliced_more ts t v j b) [
      | inl old' ↦ absurd (other j v old' (sym e ∙ ap (λ (x : Target). x.block.0) (sym new.1)))
      | inr new' ↦ new.0 ∙ sym new'.0
    ]
  ];
}

pub targets_more : {B : Type 0} (pages_of : B → PageSet) (host : Host B) (ts : List Target) (t : Target)
    → AreTargets pages_of host ts → IsTracked pages_of t host → IsAsItWas t host → IsOther ts t
    → AreTargets pages_of host (ts ++ t ∷ [])
targets_more pages_of host ts t are is there other = record {
  blocks = blocks_more host ts t are.blocks there other;
  each = λ j u e. elim (sliced_more ts t u j e) [
    | inl old ↦ are.each j u old
    | inr new ↦ subst (λ (x : Target). IsTracked pages_of x host) new.1 is
  ];
}

-- one block more is one that was asked for
pub asked_more : {X Y : Type 0} (f : Target → Y) (g : X → Y) (ts : List Target) (xs : List X) (t : Target) (i : ℕ)
    (d : X) → i < length xs → map f ts ≡ map g (take i xs) → f t ≡ g (get_or xs i d)
    → map f (ts ++ t ∷ []) ≡ map g (take (i + 1) xs)
asked_more {Y = Y} f g ts xs t i d l same is =
    map_push f ts t ∙ ap (λ (ys : List Y). ys ++ f t ∷ []) same
    ∙ ap (λ (y : Y). map g (take i xs) ++ y ∷ []) is ∙ sym (map_more g xs i d l)

pub place_is : (t : Target) (b : BlockId) (a : ℕ) → t.block ≡ b → t.entry.address ≡ a → place_of t ≡ (b.0, a)
place_is t b a p q = ap₂ (λ (x : BlockId) (y : ℕ). (x.0, y)) p q
