-- Writes that mark what they change are events of the rounds.
use Rattle.std.proofs.Common.{◌≡◌, ℕ, zero, suc, ◌+◌, ◌*◌, ◌<◌, ◌≤◌, inl, inr, true, List, [], map, length, get_or, Option, Some, None, option_map, All, refl, sym, ap, subst, ◌∙◌, arith}
use Rattle.std.specs.Prelude.{slice_get}
use Rattle.std.proofs.lemmas.Bool.{cases_eq, cond-true, cond-false, eq-eqb, ne_eqb, true≢false}
use Rattle.std.proofs.lemmas.List.Elements.{All-contains}
use Rattle.std.proofs.lemmas.Option.{get_or_from_slice_get, same_Some, slice_get-map, slice_get_cases, slice_get_within}
use Rattle.vm_memory_base.specs.Address.{numbers}
use Rattle.vm_memory_base.specs.Pages.{PageSet, Pages, shape, is_dirty_at}
use Rattle.vm_memory_base.specs.declared.bitmap.BitmapId.{BitmapId}
use Rattle.vm_memory_base.specs.declared.bitmap.BitmapId.TheVariants.{Block}
use Rattle.vm_memory_base.specs.declared.bitmap.BitmapRef.{BitmapRef}
use Rattle.vm_memory_guest.specs.Dirt.{pages_at, with_pages}
use Rattle.vm_memory_guest.specs.Host.{Cell, Host, block_at}
use Rattle.vm_memory_guest.specs.Lent.{IsDirty, IsMarked, MarksChanges}
use Rattle.vm_memory_guest.specs.Window.{Window, bitmap_of}
use Rattle.vm_memory_guest.proofs.WrittenLaws.{length-block_at}
use Rattle.live_migration.specs.Following.{Follows, IsSource}
use Rattle.live_migration.specs.Rounds.{AllMay, Ends, IsWritten, Source, Write, after, story}
use Rattle.live_migration.specs.Sending.{source_of}
use Rattle.live_migration.specs.Writing.{MarksItsBlock, all_written}
use Rattle.live_migration.specs.declared.sender.pages.Target.{Target}
use Rattle.live_migration.specs.declared.sender.rounds.Rounds.{Rounds}

-- ---- the source that a block of a host is

-- the pages that are tracked, or no pages of one byte
some_pages : PageSet → Pages
some_pages None = record { page_size = 1; flags = [] }
some_pages (Some p) = p

module _ {B : Type 0} (pages_of : B → PageSet) where
  -- the source that a host has for a target, or one of no bytes
  pub source_in : Host B → Option Target → Source
  source_in host None = record { bytes = []; pages = some_pages None }
  source_in host (Some t) = record {
    bytes = block_at host.blocks t.block.0;
    pages = some_pages (pages_at (Block t.block.0) (with_pages pages_of host));
  }

  pages_there : (host : Host B) (block : ℕ) (b : B) (p : Pages) → bitmap_of host (Block block) ≡ Some b
      → pages_of b ≡ Some p → pages_at (Block block) (with_pages pages_of host) ≡ Some p
  pages_there host block b p there is =
      get_or_from_slice_get (map pages_of host.bitmaps) block (pages_of b) None
      (slice_get-map pages_of host.bitmaps block ∙ ap (option_map pages_of) there) ∙ is

  pub source_there : (host : Host B) (t : Target) (b : B) (p : Pages) → bitmap_of host (Block t.block.0) ≡ Some b
      → pages_of b ≡ Some p → source_in host (Some t) ≡ source_of t p host
  unfolding source_in some_pages
  source_there host t b p there is =
      ap (λ (set : PageSet). record { bytes = block_at host.blocks t.block.0; pages = some_pages set })
      (pages_there host t.block.0 b p there is)

  -- ---- a block that is written

  -- a bitmap that has as many pages, and as large
  record SeenAs (bitmaps : List B) (i : ℕ) (p : Pages) : Type 0 where
    bitmap : B
    pages : Pages
    there : slice_get bitmaps i ≡ Some bitmap
    is : pages_of bitmap ≡ Some pages
    size : pages.page_size ≡ p.page_size
    count : length pages.flags ≡ length p.flags

  seen_as : (ys : List B) (i : ℕ) (p : Pages) (y : B) (set : PageSet) → slice_get ys i ≡ Some y → pages_of y ≡ set
      → shape set ≡ shape (Some p) → SeenAs ys i p
  seen_as ys i p y None there is same = absurd cc
  seen_as ys i p y (Some q) there is same =
      let both : (q.page_size, length q.flags) ≡ (p.page_size, length p.flags) = cc in
      record {
        bitmap = y;
        pages = q;
        there = there;
        is = is;
        size = ap (λ (x : ℕ × ℕ). x.0) both;
        count = ap (λ (x : ℕ × ℕ). x.1) both;
      }

  same_shape : (xs ys : List B) (i : ℕ) (b : B) (p : Pages)
      → map shape (map pages_of ys) ≡ map shape (map pages_of xs) → slice_get xs i ≡ Some b → pages_of b ≡ Some p
      → SeenAs ys i p
  same_shape xs ys i b p same there is =
      let seen : slice_get (map shape (map pages_of ys)) i ≡ Some (shape (Some p)) =
      ap (λ (ss : List (Option (ℕ × ℕ))). slice_get ss i) same
      ∙ slice_get-map shape (map pages_of xs) i
      ∙ ap (option_map shape) (slice_get-map pages_of xs i ∙ ap (option_map pages_of) there)
      ∙ ap (λ (set : PageSet). Some (shape set)) is in
      elim (slice_get_cases ys i).1 [
        | inl f ↦ seen_as ys i p f.0 (pages_of f.0) f.2 refl
            (same_Some (shape (pages_of f.0)) (shape (Some p))
            (sym (slice_get-map shape (map pages_of ys) i
            ∙ ap (option_map shape) (slice_get-map pages_of ys i ∙ ap (option_map pages_of) f.2)) ∙ seen))
        | inr f ↦ absurd (none_shape (sym (slice_get-map shape (map pages_of ys) i
            ∙ ap (option_map shape) (slice_get-map pages_of ys i ∙ ap (option_map pages_of) f.1)) ∙ seen))
      ]
    where
      none_shape : ◌≡◌ {A = Option (Option (ℕ × ℕ))} None (Some (shape (Some p))) → ⊥
      none_shape e = cc

  module _ (ws : List Window) (old new : Host B) (own : All MarksItsBlock ws)
      (c : MarksChanges ws (with_pages pages_of old) (with_pages pages_of new)) (t : Target) (x : Source)
      (is : IsSource pages_of t old x)
    where
      seen : SeenAs new.bitmaps t.block.0 x.pages
      seen = same_shape old.bitmaps new.bitmaps t.block.0 is.bitmap x.pages c.bitmaps is.there is.pages

      pages_now : pages_at (Block t.block.0) (with_pages pages_of new) ≡ Some seen.pages
      pages_now = pages_there new t.block.0 seen.bitmap seen.pages seen.there seen.is

      pages_before : pages_at (Block t.block.0) (with_pages pages_of old) ≡ Some x.pages
      pages_before = pages_there old t.block.0 is.bitmap x.pages is.there is.pages

      len_now : length (block_at new.blocks t.block.0) ≡ length x.bytes
      len_now = length-block_at new.blocks t.block.0
          ∙ ap (λ (ns : List ℕ). get_or ns t.block.0 0) c.lengths ∙ sym (length-block_at old.blocks t.block.0)
          ∙ ap length (sym is.bytes)

      dirty_now : (k : ℕ) → k < length x.bytes
          → IsMarked ws (record { block = t.block.0; offset = k }) (with_pages pages_of new)
          → is_dirty_at (Some seen.pages) k ≡ true
      dirty_now k l m =
          let w = m.window in
          let o = All-contains MarksItsBlock ws w own m.among in
          let at : k ≡ w.offset + m.at = ap (λ (z : Cell). z.offset) m.is in
          let id : w.bitmap.id ≡ Block t.block.0 =
          ap (λ (r : BitmapRef). r.id) o.bitmap ∙ ap (λ (z : Cell). Block z.block) (sym m.is) in
          let place : w.bitmap.base + m.at ≡ k = ap (λ (r : BitmapRef). r.base + m.at) o.bitmap ∙ sym at in
          let dirty : IsDirty (Block t.block.0) k (with_pages pages_of new) =
          subst (λ (n : ℕ). IsDirty (Block t.block.0) n (with_pages pages_of new)) place
          (subst (λ (i : BitmapId). IsDirty i (w.bitmap.base + m.at) (with_pages pages_of new)) id m.dirty) in
          let covers : length x.bytes ≤ length seen.pages.flags * seen.pages.page_size =
          rw (seen.count, seen.size) is.covers in
          let within = m.within in
          let fits = o.fits in
          dirty seen.pages pages_now (omega arith) (omega arith)

      source_now : source_in new (Some t) ≡ source_of t seen.pages new
      source_now = source_there new t seen.bitmap seen.pages seen.there seen.is

      pub is_written : IsWritten x (source_in new (Some t))
      is_written = subst (λ (y : Source). IsWritten x y) (sym source_now) (record {
        size = seen.size;
        len = len_now;
        bytes = λ k l clean. elim (c.bytes (record { block = t.block.0; offset = k })) [
          | inl e ↦ e ∙ ap (λ (bs : List ℕ). get_or bs k 0) (sym is.bytes)
          | inr m ↦ absurd (true≢false (sym (dirty_now k l m) ∙ clean))
        ];
        dirt = λ k d. subst (λ (set : PageSet). is_dirty_at set k ≡ true) pages_now
            (c.dirty (Block t.block.0) k
            (subst (λ (set : PageSet). is_dirty_at set k ≡ true) (sym pages_before) d));
      })

      pub is_source : IsSource pages_of t new (source_in new (Some t))
      is_source = subst (λ (y : Source). IsSource pages_of t new y) (sym source_now) (record {
        bitmap = seen.bitmap;
        there = seen.there;
        pages = seen.is;
        bytes = refl;
        size = seen.size ∙ is.size;
        covers = rw (len_now, seen.count, seen.size) is.covers;
        len = len_now ∙ is.len;
      })

-- ---- each block is written

-- so many blocks from one on are written, and nothing else changed
pub record Rewritten (f : ℕ → Source) (a n : ℕ) (s t : Ends) : Type 0 where
  pub count : t.count ≡ s.count
  pub round : t.round ≡ s.round
  pub turn : t.turn ≡ s.turn
  pub last : t.last ≡ s.last
  pub waiting : t.waiting ≡ s.waiting
  pub batch : t.batch ≡ s.batch
  pub images : t.images ≡ s.images
  pub before : (j : ℕ) → j < a → t.sources j ≡ s.sources j
  pub inside : (j : ℕ) → a ≤ j → j < a + n → t.sources j ≡ f j

module _ (f : ℕ → Source) where
  first_written : (a : ℕ) (s : Ends) → (after (Write a (f a)) s).sources a ≡ f a
  first_written a s = cond-true _ _ _ (eq-eqb a a refl)

  others_written : (a j : ℕ) (s : Ends) → (j ≡ a → ⊥) → (after (Write a (f a)) s).sources j ≡ s.sources j
  others_written a j s ne = cond-false _ _ _ (ne_eqb j a ne)

  rewritten : (n a : ℕ) (s : Ends) → Rewritten f a n s (story (map (λ j. Write j (f j)) (numbers a n)) s)
  unfolding story
  rewritten zero a s = record {
    count = refl;
    round = refl;
    turn = refl;
    last = refl;
    waiting = refl;
    batch = refl;
    images = refl;
    before = λ j l. refl;
    inside = λ j low high. absurd (omega arith);
  }
  rewritten (suc n) a s =
      let next = after (Write a (f a)) s in
      let r = rewritten n (a + 1) next in
      record {
        count = r.count;
        round = r.round;
        turn = r.turn;
        last = r.last;
        waiting = r.waiting;
        batch = r.batch;
        images = r.images;
        before = λ j l. r.before j (omega arith) ∙ others_written a j s (λ e. omega arith);
        inside = λ j low high. elim (cases_eq j a) [
          | inl e ↦ r.before j (omega arith)
              ∙ subst (λ (i : ℕ). next.sources i ≡ f i) (sym e) (first_written a s)
          | inr ne ↦ r.inside j (omega arith) (omega arith)
        ];
      }

  may_rewrite : (n a : ℕ) (s : Ends) → ((j : ℕ) → a ≤ j → j < a + n → IsWritten (s.sources j) (f j))
      → AllMay (map (λ j. Write j (f j)) (numbers a n)) s
  unfolding AllMay
  may_rewrite zero a s each = tt
  may_rewrite (suc n) a s each = (
    each a (omega arith) (omega arith),
    may_rewrite n (a + 1) (after (Write a (f a)) s) (λ j low high.
        subst (λ (x : Source). IsWritten x (f j)) (sym (others_written a j s (λ e. omega arith)))
        (each j (omega arith) (omega arith))),
  )

module _ {B : Type 0} (pages_of : B → PageSet) (ws : List Window) (r : Rounds) (old new : Host B) (s : Ends)
    (f : Follows pages_of r old s) (own : All MarksItsBlock ws)
    (c : MarksChanges ws (with_pages pages_of old) (with_pages pages_of new))
  where
    pub sources_now : ℕ → Source
    sources_now j = source_in pages_of new (slice_get r.targets.items j)

    now_at : (j : ℕ) (t : Target) → slice_get r.targets.items j ≡ Some t
        → sources_now j ≡ source_in pages_of new (Some t)
    unfolding sources_now
    now_at j t at = ap (source_in pages_of new) at

    written_at : (j : ℕ) → j < s.count → IsWritten (s.sources j) (sources_now j)
    written_at j l =
        let count = f.count in
        elim (slice_get_cases r.targets.items j).1 [
          | inl g ↦ subst (λ (y : Source). IsWritten (s.sources j) y) (sym (now_at j g.0 g.2))
              (is_written pages_of ws old new own c g.0 (s.sources j) (f.sources j g.0 g.2))
          | inr g ↦ absurd (let past = g.0 in omega arith)
        ]

    pub writes_may : AllMay (all_written sources_now s.count) s
    writes_may = may_rewrite sources_now s.count 0 s (λ j low high. written_at j (omega arith))

    pub writes_rewrite : Rewritten sources_now 0 s.count s (story (all_written sources_now s.count) s)
    writes_rewrite = rewritten sources_now s.count 0 s

    pub writes_follow : Follows pages_of r new (story (all_written sources_now s.count) s)
    writes_follow =
        let w = writes_rewrite in
        record {
          count = w.count ∙ f.count;
          round = w.round ∙ f.round;
          turn = w.turn ∙ f.turn;
          last = w.last ∙ f.last;
          waiting = w.waiting ∙ f.waiting;
          messages = f.messages;
          fit = f.fit;
          batch = f.batch;
          pages = f.pages ∙ sym w.batch;
          sources = λ j t at.
              let inside : j < 0 + s.count = omega (arith, f.count, slice_get_within r.targets.items j t at) in
              subst (λ (y : Source). IsSource pages_of t new y) (sym (w.inside j (omega arith) inside ∙ now_at j t at))
              (is_source pages_of ws old new own c t (s.sources j) (f.sources j t at));
          once = f.once;
        }
