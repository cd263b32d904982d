-- What a write of a window leaves of the blocks of a host.
use Rattle.std.proofs.Common.{◌≡◌, ℕ, zero, suc, ◌+◌, ◌-◌, ◌*◌, ◌<◌, ◌≤◌, Bool, true, false, cond, List, [], ◌∷◌, map, length, get_or, set, take, drop, replicate, min, Some, refl, sym, ap, subst, ◌∙◌, inl, inr, arith}
use Rattle.std.specs.Prelude.{MatchBool, nat_lt, slice_get}
use Rattle.std.proofs.lemmas.Bool.{cases_lt, cases_eq, cond-true, cond-false, eq-eqb, lt-ltb, ne_eqb}
use Rattle.std.proofs.lemmas.List.{append-nil, ext_get_or, length-set, length-map, length-replicate, get_or-map, get_or-set_same, get_or-set_other, get_or-replicate, get_or_past}
use Rattle.std.proofs.lemmas.Option.{same_Some, slice_get_within}
use Rattle.vm_memory_base.specs.Address.{is_within}
use Rattle.vm_memory_base.specs.declared.bitmap.BitmapId.{BitmapId}
use Rattle.vm_memory_base.specs.declared.bitmap.BitmapId.TheVariants.{Block, Space}
use Rattle.vm_memory_guest.specs.Host.{Host, Cell, Shape, IsHeld, block_at, bytes_at, cells_from, shape_of, with_byte, written}
use Rattle.vm_memory_guest.specs.Host as names
use Rattle.vm_memory_guest.specs.Window.{Marks, MarksOne, Writes, block_window, cells, cells_of}
use Rattle.live_migration.specs.Frame.{Message, Pages, ZeroPage}
use Rattle.live_migration.specs.Image.{are_zero, page_bytes, placed, received}
use Rattle.live_migration.specs.Placing.{HasPlaced, Applies, TellsNothing}
use Rattle.live_migration.specs.declared.header.BlockEntry.{BlockEntry}
use Rattle.vm_memory_guest.proofs.WrittenLaws.{bytes_at-block}
use Rattle.live_migration.proofs.ImageLemmas.{get_or-placed, length-placed, is_before, is_after, is_inside}
use Rattle.live_migration.proofs.ZeroLemmas.{zeros_stay}

-- ---- bytes that are written to the cells of a block

module _ (b : ℕ) where
  put_at : ℕ → ℕ → List (List ℕ) → List (List ℕ)
  put_at off x blocks = with_byte blocks (record { block = b; offset = off }) x

  block_put : (off x : ℕ) (blocks : List (List ℕ)) → b < length blocks
      → block_at (put_at off x blocks) b ≡ set (block_at blocks b) off x
  unfolding put_at
  block_put off x blocks l = get_or-set_same blocks b (set (block_at blocks b) off x) [] l

  count_put : (off x : ℕ) (blocks : List (List ℕ)) → length (put_at off x blocks) ≡ length blocks
  unfolding put_at
  count_put off x blocks = length-set blocks b (set (block_at blocks b) off x)

  length-put : (off x : ℕ) (blocks : List (List ℕ)) → b < length blocks
      → length (block_at (put_at off x blocks) b) ≡ length (block_at blocks b)
  length-put off x blocks l = ap length (block_put off x blocks l) ∙ length-set (block_at blocks b) off x

  written_byte : (n off : ℕ) (bytes : List ℕ) (blocks : List (List ℕ)) → length bytes ≡ n → b < length blocks
      → off + n ≤ length (block_at blocks b) → (k : ℕ)
      → get_or (block_at (written (cells_from b off n) bytes blocks) b) k 0
      ≡ cond (is_within off n k) (get_or bytes (k - off) 0) (get_or (block_at blocks b) k 0)
  unfolding put_at
  written_byte zero off bytes blocks len l room k = sym (cond-false _ _ _ (nowhere off k))
    where
      nowhere : (off k : ℕ) → is_within off 0 k ≡ false
      nowhere off k = elim (cases_lt k off) [
        | inl low ↦ is_before off 0 k low
        | inr high ↦ is_after off 0 k (omega arith)
      ]
  written_byte (suc n) off [] blocks len l room k = absurd (omega (arith, len))
  written_byte (suc n) off (x ∷ xs) blocks len l room k =
      let mid = put_at off x blocks in
      let same : length (block_at mid b) ≡ length (block_at blocks b) = length-put off x blocks l in
      written_byte n (off + 1) xs mid (omega (arith, len)) (omega (arith, count_put off x blocks)) (omega arith) k
      ∙ elim (cases_lt k off) [
        | inl low ↦
            cond-false _ _ _ (is_before (off + 1) n k (omega arith))
            ∙ old (λ e. omega (arith, e)) ∙ sym (cond-false _ _ _ (is_before off (suc n) k low))
        | inr high ↦ elim (cases_eq k off) [
          | inl here ↦
              cond-false _ _ _ (is_before (off + 1) n k (omega arith))
              ∙ new here
              ∙ sym (cond-true _ _ _ (is_inside off (suc n) k high (omega arith)) ∙ first here)
          | inr there ↦ elim (cases_lt k (off + suc n)) [
            | inl inside ↦
                cond-true _ _ _ (is_inside (off + 1) n k (after high there) (omega arith))
                ∙ sym (cond-true _ _ _ (is_inside off (suc n) k high inside) ∙ later (after high there))
            | inr behind ↦
                cond-false _ _ _ (is_after (off + 1) n k (omega arith))
                ∙ old there ∙ sym (cond-false _ _ _ (is_after off (suc n) k behind))
          ]
        ]
      ]
    where
      after : off ≤ k → (k ≡ off → ⊥) → off + 1 ≤ k
      after high there = elim (cases_lt off k) [ inl less ↦ omega arith | inr more ↦ absurd (there (omega arith)) ]

      old : (k ≡ off → ⊥) → get_or (block_at (put_at off x blocks) b) k 0 ≡ get_or (block_at blocks b) k 0
      old ne = ap (λ (ys : List ℕ). get_or ys k 0) (block_put off x blocks l)
          ∙ get_or-set_other (block_at blocks b) off k x 0 ne

      new : k ≡ off → get_or (block_at (put_at off x blocks) b) k 0 ≡ x
      new here = ap (λ (ys : List ℕ). get_or ys k 0) (block_put off x blocks l)
          ∙ ap (λ (i : ℕ). get_or (set (block_at blocks b) off x) i 0) here
          ∙ get_or-set_same (block_at blocks b) off x 0 (omega arith)

      first : k ≡ off → get_or (x ∷ xs) (k - off) 0 ≡ x
      first here = let none : k - off ≡ 0 = omega arith in ap (λ (i : ℕ). get_or (x ∷ xs) i 0) none

      later : off + 1 ≤ k → get_or (x ∷ xs) (k - off) 0 ≡ get_or xs (k - (off + 1)) 0
      later high = let more : k - off ≡ suc (k - (off + 1)) = omega arith in ap (λ (i : ℕ). get_or (x ∷ xs) i 0) more

  written_length : (n off : ℕ) (bytes : List ℕ) (blocks : List (List ℕ)) → b < length blocks
      → length (block_at (written (cells_from b off n) bytes blocks) b) ≡ length (block_at blocks b)
  unfolding put_at
  written_length zero off bytes blocks l = refl
  written_length (suc n) off [] blocks l = refl
  written_length (suc n) off (x ∷ xs) blocks l =
      written_length n (off + 1) xs (put_at off x blocks) (omega (arith, count_put off x blocks))
      ∙ length-put off x blocks l

  written_other : (n off : ℕ) (bytes : List ℕ) (blocks : List (List ℕ)) (c : ℕ) → (c ≡ b → ⊥)
      → block_at (written (cells_from b off n) bytes blocks) c ≡ block_at blocks c
  unfolding put_at
  written_other zero off bytes blocks c ne = refl
  written_other (suc n) off [] blocks c ne = refl
  written_other (suc n) off (x ∷ xs) blocks c ne =
      written_other n (off + 1) xs (put_at off x blocks) c ne
      ∙ get_or-set_other blocks b c (set (block_at blocks b) off x) [] ne

  pub written_placed : (off : ℕ) (bytes : List ℕ) (blocks : List (List ℕ)) → b < length blocks
      → off + length bytes ≤ length (block_at blocks b)
      → block_at (written (cells_from b off (length bytes)) bytes blocks) b ≡ placed off bytes (block_at blocks b)
  written_placed off bytes blocks l room =
      let len = written_length (length bytes) off bytes blocks l in
      ext_get_or 0 (block_at (written (cells_from b off (length bytes)) bytes blocks) b)
      (placed off bytes (block_at blocks b))
      (len ∙ sym (length-placed off bytes (block_at blocks b)))
      (λ k within. written_byte (length bytes) off bytes blocks refl l room k
      ∙ sym (get_or-placed off bytes (block_at blocks b) k (omega (arith, len))))

-- ---- marks leave the blocks

module _ {B : Type 0} (marks : B → ℕ → ℕ → B → Type 0) where
  marks-blocks : (id : BitmapId) (offset len : ℕ) (old new : Host B) → Marks marks id offset len old new
      → new.blocks ≡ old.blocks
  marks-blocks (Block block) offset len old new m = ap (λ (h : Host B). h.blocks) m.2
  marks-blocks (Space space) offset len old new m = ap (λ (h : Host B). h.blocks) m.2

  marked_blocks : (b : Bool) (id : BitmapId) (offset len : ℕ) (old new : Host B)
      → MatchBool b (Marks marks id offset len old new) (new ≡ old) → new.blocks ≡ old.blocks
  marked_blocks true id offset len old new m = marks-blocks id offset len old new m
  marked_blocks false id offset len old new m = ap (λ (h : Host B). h.blocks) m

  marked_spaces : (b : Bool) (block offset len : ℕ) (old new : Host B)
      → MatchBool b (Marks marks (Block block) offset len old new) (new ≡ old) → new.spaces ≡ old.spaces
  marked_spaces true block offset len old new m = ap (λ (h : Host B). h.spaces) m.2
  marked_spaces false block offset len old new m = ap (λ (h : Host B). h.spaces) m

  marked_tables : (b : Bool) (block offset len : ℕ) (old new : Host B)
      → MatchBool b (Marks marks (Block block) offset len old new) (new ≡ old) → new.tables ≡ old.tables
  marked_tables true block offset len old new m = ap (λ (h : Host B). h.tables) m.2
  marked_tables false block offset len old new m = ap (λ (h : Host B). h.tables) m

  marked_one : (b : Bool) (block offset len : ℕ) (old new : Host B) → b ≡ true
      → MatchBool b (Marks marks (Block block) offset len old new) (new ≡ old)
      → MarksOne marks block offset len old.bitmaps new.bitmaps
  marked_one true block offset len old new is m =
      subst (λ (bs : List B). MarksOne marks block offset len old.bitmaps bs)
      (sym (ap (λ (h : Host B). h.bitmaps) m.2)) m.1
  marked_one false block offset len old new is m = absurd (cc)

  -- the bytes of a window that has some are marked
  pub window_marked : (b off : ℕ) (bytes : List ℕ) (old new : Host B)
      → Writes marks (block_window b off (length bytes) ∷ []) bytes old new → 0 < length bytes
      → MarksOne marks b off (length bytes) old.bitmaps new.bitmaps
  window_marked b off bytes old new w some =
      let mid = record old { blocks = written (cells (block_window b off (length bytes) ∷ [])) bytes old.blocks } in
      subst (λ (bs : List B). MarksOne marks b off (length bytes) old.bitmaps bs)
      (sym (ap (λ (h : Host B). h.bitmaps) w.2))
      (marked_one (nat_lt 0 (length bytes)) b off (length bytes) mid w.0 (lt-ltb 0 (length bytes) some) w.1)

  pub window_written : (b off : ℕ) (bytes : List ℕ) (old new : Host B)
      → Writes marks (block_window b off (length bytes) ∷ []) bytes old new
      → new.blocks ≡ written (cells_from b off (length bytes)) bytes old.blocks
  window_written b off bytes old new w =
      let mid = record old { blocks = written (cells (block_window b off (length bytes) ∷ [])) bytes old.blocks } in
      ap (λ (h : Host B). h.blocks) w.2
      ∙ marked_blocks (nat_lt 0 (length bytes)) (Block b) off (length bytes) mid w.0 w.1
      ∙ ap (λ (cs : List Cell). written cs bytes old.blocks) (append-nil (cells_from b off (length bytes)))

  pub bytes_placed : (b off : ℕ) (bytes : List ℕ) (old new : Host B)
      → IsHeld (shape_of old) (names.Place b off (length bytes))
      → Writes marks (block_window b off (length bytes) ∷ []) bytes old new → shape_of new ≡ shape_of old
      → HasPlaced old new b off bytes
  bytes_placed b off bytes old new held w same =
      let mid = record old { blocks = written (cells (block_window b off (length bytes) ∷ [])) bytes old.blocks } in
      let blocks = window_written b off bytes old new w in
      let l : b < length old.blocks = omega (arith, held.0, length-map old.blocks (λ (x : List ℕ). length x)) in
      let at : get_or (map length old.blocks) b 0 ≡ length (block_at old.blocks b) =
      get_or-map length old.blocks b [] 0 l in
      record {
        block_is = ap (λ (bs : List (List ℕ)). block_at bs b) blocks
            ∙ written_placed b off bytes old.blocks l (omega (arith, held.1, at));
        others = λ c ne. ap (λ (bs : List (List ℕ)). block_at bs c) blocks
            ∙ written_other b (length bytes) off bytes old.blocks c ne;
        shape = same;
        spaces = ap (λ (h : Host B). h.spaces) w.2
            ∙ marked_spaces (nat_lt 0 (length bytes)) b off (length bytes) mid w.0 w.1;
        tables = ap (λ (h : Host B). h.tables) w.2
            ∙ marked_tables (nat_lt 0 (length bytes)) b off (length bytes) mid w.0 w.1;
      }

-- the bytes of a place that is held
pub place_bytes : {B : Type 0} (b off n : ℕ) (host : Host B) → IsHeld (shape_of host) (names.Place b off n)
    → (off + n ≤ length (block_at host.blocks b))
    × (bytes_at host.blocks (cells_of (block_window b off n)) ≡ take n (drop off (block_at host.blocks b)))
place_bytes b off n host held =
    let l : b < length host.blocks = omega (arith, held.0, length-map host.blocks (λ (x : List ℕ). length x)) in
    let at : get_or (map length host.blocks) b 0 ≡ length (block_at host.blocks b) =
    get_or-map length host.blocks b [] 0 l in
    let room : off + n ≤ length (block_at host.blocks b) = omega (arith, held.1, at) in
    (room, bytes_at-block b off n host.blocks room)

-- zeros that are there are as good as placed
pub zeros_there : {B : Type 0} (b off : ℕ) (zeros : List ℕ) (host : Host B)
    → off + length zeros ≤ length (block_at host.blocks b) → zeros ≡ replicate (length zeros) 0
    → are_zero (take (length zeros) (drop off (block_at host.blocks b))) ≡ true → HasPlaced host host b off zeros
zeros_there b off zeros host room none all = record {
  block_is = sym (zeros_stay off (length zeros) zeros (block_at host.blocks b) room none all);
  others = λ c ne. refl;
  shape = refl;
  spaces = refl;
  tables = refl;
}

-- ---- messages

module _ {B : Type 0} (base : ℕ) (entries : List BlockEntry) (old new : Host B) where
  -- the block of another number
  apart : (i j : ℕ) → (i ≡ j → ⊥) → base + i ≡ base + j → ⊥
  apart i j ne e = ne (omega arith)

  -- bytes that came into the block of an entry
  placed_applies : (m : Message) (i at : ℕ) (entry : BlockEntry) (bytes : List ℕ)
      → slice_get entries i ≡ Some entry → HasPlaced old new (base + i) at bytes
      → ((e : BlockEntry) → entry ≡ e → (image : List ℕ) → length image ≡ length (block_at old.blocks (base + i))
      → received e.page_size i m image ≡ placed at bytes image)
      → ((j : ℕ) → (i ≡ j → ⊥) → (size : ℕ) (image : List ℕ) → received size j m image ≡ image)
      → (TellsNothing base entries m old → new ≡ old) → Applies base entries m old new
  placed_applies m i at entry bytes there has own other same = record {
    images = λ j e here. elim (cases_eq i j) [
      | inl same ↦
          let is : entry ≡ e = same_Some entry e (sym there ∙ ap (slice_get entries) same ∙ here) in
          ap (λ (k : ℕ). block_at new.blocks (base + k)) (sym same) ∙ has.block_is
          ∙ sym (ap (λ (k : ℕ). received e.page_size k m (block_at old.blocks (base + k))) (sym same)
          ∙ own e is (block_at old.blocks (base + i)) refl)
      | inr ne ↦
          has.others (base + j) (apart j i (λ h. ne (sym h)))
          ∙ sym (other j ne e.page_size (block_at old.blocks (base + j)))
    ];
    others = λ c outside. has.others c (λ here. elim outside [
      | inl before ↦ omega arith
      | inr behind ↦ omega (arith, slice_get_within entries i entry there)
    ]);
    shape = has.shape;
    spaces = has.spaces;
    tables = has.tables;
    same = same;
  }

  pub pages_apply : (i first : ℕ) (entry : BlockEntry) (bytes : List ℕ) → slice_get entries i ≡ Some entry
      → HasPlaced old new (base + i) (first * entry.page_size) bytes
      → Applies base entries (Pages i first bytes) old new
  pages_apply i first entry bytes there has =
      placed_applies (Pages i first bytes) i (first * entry.page_size) entry bytes there has
      (λ e is image len. cond-true _ _ _ (eq-eqb i i refl)
      ∙ ap (λ (x : BlockEntry). placed (first * x.page_size) bytes image) (sym is))
      (λ j ne size image. cond-false _ _ _ (ne_eqb i j ne)) (λ none. absurd none)

  -- zeros up to the end are as good as a page of them
  cut_zeros : (at n size : ℕ) (image : List ℕ) → n ≡ min size (length image - at)
      → placed at (replicate size 0) image ≡ placed at (replicate n 0) image
  cut_zeros at n size image is =
      ext_get_or 0 (placed at (replicate size 0) image) (placed at (replicate n 0) image)
      (length-placed at (replicate size 0) image ∙ sym (length-placed at (replicate n 0) image))
      (λ k within. let l : k < length image = omega (arith, length-placed at (replicate size 0) image) in
      get_or-placed at (replicate size 0) image k l ∙ byte k l ∙ sym (get_or-placed at (replicate n 0) image k l))
    where
      zeros : (m : ℕ) → length (replicate {A = ℕ} m 0) ≡ m
      zeros m = length-replicate m 0

      zero_at : (m i : ℕ) → get_or (replicate {A = ℕ} m 0) i 0 ≡ 0
      zero_at m i = elim (cases_lt i m) [
        | inl below ↦ get_or-replicate m i 0 0 below
        | inr past ↦ get_or_past (replicate m 0) i 0 (omega (arith, zeros m))
      ]

      byte : (k : ℕ) → k < length image
          → cond (is_within at (length (replicate {A = ℕ} size 0)) k) (get_or (replicate size 0) (k - at) 0)
          (get_or image k 0)
          ≡ cond (is_within at (length (replicate {A = ℕ} n 0)) k) (get_or (replicate n 0) (k - at) 0)
          (get_or image k 0)
      byte k l = elim (cases_lt k at) [
        | inl low ↦ cond-false _ _ _ (is_before at _ k low) ∙ sym (cond-false _ _ _ (is_before at _ k low))
        | inr high ↦ elim (cases_lt k (at + n)) [
          | inl inside ↦
              cond-true _ _ _ (is_inside at _ k high (omega (arith, zeros size))) ∙ zero_at size (k - at)
              ∙ sym (cond-true _ _ _ (is_inside at _ k high (omega (arith, zeros n))) ∙ zero_at n (k - at))
          | inr behind ↦
              cond-false _ _ _ (is_after at _ k (omega (arith, zeros size)))
              ∙ sym (cond-false _ _ _ (is_after at _ k (omega (arith, zeros n))))
        ]
      ]

  pub zeros_apply : (i page n : ℕ) (entry : BlockEntry) → slice_get entries i ≡ Some entry
      → n ≡ min entry.page_size (length (block_at old.blocks (base + i)) - page * entry.page_size)
      → HasPlaced old new (base + i) (page * entry.page_size) (replicate n 0)
      → (are_zero (page_bytes entry.page_size page (block_at old.blocks (base + i))) ≡ true → new ≡ old)
      → Applies base entries (ZeroPage i page) old new
  zeros_apply i page n entry there cut has same =
      placed_applies (ZeroPage i page) i (page * entry.page_size) entry (replicate n 0) there has
      (λ e is image len. cond-true _ _ _ (eq-eqb i i refl)
      ∙ ap (λ (x : BlockEntry). placed (page * x.page_size) (replicate x.page_size 0) image) (sym is)
      ∙ cut_zeros (page * entry.page_size) n entry.page_size image
      (cut ∙ ap (λ (l : ℕ). min entry.page_size (l - page * entry.page_size)) (sym len)))
      (λ j ne size image. cond-false _ _ _ (ne_eqb i j ne))
      (λ told. same (ap (λ (x : BlockEntry). are_zero (page_bytes x.page_size page (block_at old.blocks (base + i))))
      (same_Some entry told.0 (sym there ∙ told.1)) ∙ told.2))
