-- What a sender does is what the rounds say.
use Rattle.std.proofs.Common.{◌≡◌, ℕ, zero, suc, ◌+◌, ◌*◌, ◌<◌, ◌≤◌, true, false, cond, eqb, List, [], ◌∷◌, ◌++◌, length, take, drop, set, replicate, Some, refl, sym, ap, subst, ◌∙◌, arith}
use Rattle.std.specs.Global.{Vec}
use Rattle.std.specs.Prelude.{flat_map, slice_get}
use Rattle.std.proofs.lemmas.Bool.{cond-true, cond_both, and_from, eq-eqb, eqb-true, eqb-false, lt-ltb}
use Rattle.std.proofs.lemmas.List.{drop_all, drop-drop, length-replicate}
use Rattle.std.proofs.lemmas.List.Concat.{flat_map-append, flat_map-cons}
use Rattle.std.proofs.lemmas.Option.{same_Some, slice_get_within}
use Rattle.vm_memory_base.specs.Pages.{PageSet, Pages, cleaned}
use Rattle.vm_memory_base.specs.declared.bitmap.BitmapId.TheVariants.{Block}
use Rattle.vm_memory_guest.specs.Host.{Host, block_at}
use Rattle.vm_memory_guest.specs.Window.{bitmap_of}
use Rattle.live_migration.specs.Following.{Follows, IsSource, KeepsRounds, StaysAsItWas}
use Rattle.live_migration.specs.Frame.{Message, spelling}
use Rattle.live_migration.specs.Leave.{IsFirst}
use Rattle.live_migration.specs.Targets.{AreTargets}
use Rattle.live_migration.specs.declared.sender.stream.Sender.{Sender}
use Rattle.live_migration.specs.Image.{copied, one_by_one}
use Rattle.live_migration.specs.Rounds.{Ends, IsBeginning, IsThrough, Source, Harvest, Copy, Send, EndRound, after, is_round_over, clean, may_harvest, size_of, taken}
use Rattle.live_migration.specs.Sending.{CopiesPages, HarvestsNext, IsIdle, page_size_at, page_size_of, source_of}
use Rattle.live_migration.specs.declared.sender.pages.Target.{Target}
use Rattle.live_migration.specs.declared.sender.rounds.Rounds.{Rounds}
use Rattle.live_migration.proofs.OneWayLemmas.{some_bytes}
use Rattle.live_migration.proofs.RunLemmas.{fits-append}

pub slice_get-set_same : {X : Type 0} (xs : List X) (i : ℕ) (x y : X) → slice_get xs i ≡ Some x
    → slice_get (set xs i y) i ≡ Some y
slice_get-set_same [] i x y e = absurd cc
slice_get-set_same (z ∷ zs) zero x y e = refl
slice_get-set_same (z ∷ zs) (suc i) x y e = slice_get-set_same zs i x y e

pub slice_get-set_other : {X : Type 0} (xs : List X) (i j : ℕ) (y : X) → (j ≡ i → ⊥)
    → slice_get (set xs i y) j ≡ slice_get xs j
slice_get-set_other [] i j y ne = refl
slice_get-set_other (z ∷ zs) zero zero y ne = absurd (ne refl)
slice_get-set_other (z ∷ zs) zero (suc j) y ne = refl
slice_get-set_other (z ∷ zs) (suc i) zero y ne = refl
slice_get-set_other (z ∷ zs) (suc i) (suc j) y ne = slice_get-set_other zs i j y (λ e. ne (ap suc e))

-- a clean block has as many pages
as_many : (x : Source) → length x.bytes ≤ length x.pages.flags * x.pages.page_size
    → length x.bytes ≤ length (replicate (length x.pages.flags) false) * x.pages.page_size
as_many x covers = rw (length-replicate (length x.pages.flags) false) covers

pub is_over : (s : Ends) → IsThrough s → is_round_over s ≡ true
is_over s t = and_from _ _ (eq-eqb _ _ t.turn)
    (and_from _ _ (eq-eqb _ _ (ap length t.waiting)) (eq-eqb _ _ (ap length t.batch)))

none_batched : (ms : List Message) → flat_map spelling ms ≡ [] → ms ≡ []
none_batched [] e = refl
none_batched (m ∷ ms) e = absurd (some_bytes m (flat_map spelling ms) (sym e ∙ flat_map-cons spelling m ms))

module _ {B : Type 0} (pages_of : B → PageSet) where
  -- the source of a block is decided by the host
  same_source : (t : Target) (host : Host B) (x : Source) (p : Pages) (b : B) → IsSource pages_of t host x
      → bitmap_of host (Block t.block.0) ≡ Some b → pages_of b ≡ Some p → source_of t p host ≡ x
  same_source t host x p b is there pages =
      let same_b : b ≡ is.bitmap = same_Some b is.bitmap (sym there ∙ is.there) in
      let same_p : p ≡ x.pages = same_Some p x.pages (sym pages ∙ ap pages_of same_b ∙ is.pages) in
      ap (λ (q : Pages). source_of t q host) same_p
      ∙ ap (λ (bytes : List ℕ). record { bytes = bytes; pages = x.pages }) (sym is.bytes)

  module _ (old new : Rounds) (host next : Host B) (s : Ends) (f : Follows pages_of old host s)
      (h : HarvestsNext pages_of old new host next)
    where
      here : ℕ
      here = s.turn

      there : slice_get old.targets.items s.turn ≡ Some h.target
      there = ap (λ (i : ℕ). slice_get old.targets.items i) f.turn ∙ h.there

      may : may_harvest s ≡ true
      may =
          let none : s.waiting ≡ [] = f.waiting ∙ drop_all old.next old.waiting.items h.idle in
          let inside : s.turn < s.count =
          omega (arith, f.count, slice_get_within old.targets.items s.turn h.target there) in
          and_from _ _ (eq-eqb _ _ (ap length none)) (lt-ltb _ _ inside)

      source_is : source_of h.target h.takes.tracked host ≡ s.sources s.turn
      source_is =
          same_source h.target host (s.sources s.turn) h.takes.tracked h.takes.before (f.sources s.turn h.target there)
          h.takes.was h.takes.dirty

      block_is : (b : ℕ) → b ≡ h.target.block.0 → bitmap_of next (Block b) ≡ Some h.takes.after
      block_is b e =
          ap (λ (w : Host B). bitmap_of w (Block b)) h.takes.is
          ∙ ap (λ (c : ℕ). slice_get (set host.bitmaps h.target.block.0 h.takes.after) c) e
          ∙ slice_get-set_same host.bitmaps h.target.block.0 h.takes.before h.takes.after h.takes.was

      other_is : (b : ℕ) → (b ≡ h.target.block.0 → ⊥) → bitmap_of next (Block b) ≡ bitmap_of host (Block b)
      other_is b ne =
          ap (λ (w : Host B). bitmap_of w (Block b)) h.takes.is
          ∙ slice_get-set_other host.bitmaps h.target.block.0 b h.takes.after ne

      same_blocks : next.blocks ≡ host.blocks
      same_blocks = ap (λ (w : Host B). w.blocks) h.takes.is

      -- the block that was harvested
      taken_source : (t : Target) → h.target ≡ t → IsSource pages_of t next (clean (s.sources s.turn))
      taken_source t e =
          let was = f.sources s.turn h.target there in
          let pages_is : h.takes.tracked ≡ (s.sources s.turn).pages = ap (λ (x : Source). x.pages) source_is in
          subst (λ (u : Target). IsSource pages_of u next (clean (s.sources s.turn))) e (record {
            bitmap = h.takes.after;
            there = block_is h.target.block.0 refl;
            pages = h.takes.clean ∙ ap (λ (p : Pages). cleaned (Some p)) pages_is;
            bytes = was.bytes ∙ ap (λ (bs : List (List ℕ)). block_at bs h.target.block.0) (sym same_blocks);
            size = was.size;
            covers = as_many (s.sources s.turn) was.covers;
            len = was.len;
          })

      -- another block
      other_source : (t : Target) (x : Source) → (t.block.0 ≡ h.target.block.0 → ⊥) → IsSource pages_of t host x
          → IsSource pages_of t next x
      other_source t x ne is = record {
        bitmap = is.bitmap;
        there = other_is t.block.0 ne ∙ is.there;
        pages = is.pages;
        bytes = is.bytes ∙ ap (λ (bs : List (List ℕ)). block_at bs t.block.0) (sym same_blocks);
        size = is.size;
        covers = is.covers;
        len = is.len;
      }

      targets_are : new.targets.items ≡ old.targets.items
      targets_are = ap (λ (v : Vec Target). v.items) h.same.0

      pub harvest_follows : Follows pages_of new next (after Harvest s)
      harvest_follows = subst (λ (z : Ends). Follows pages_of new next z) (sym (cond-true _ _ _ may)) (record {
        count = f.count ∙ ap length (sym targets_are);
        round = f.round ∙ sym h.same.1;
        turn = ap (λ (n : ℕ). n + 1) f.turn ∙ sym h.turn;
        last = f.turn ∙ sym h.last;
        waiting = sym (ap (λ (n : ℕ). drop n new.waiting.items) h.start ∙ h.takes.pages_are
            ∙ ap (λ (r : ℕ). taken r (source_of h.target h.takes.tracked host)) (sym f.round)
            ∙ ap (taken s.round) source_is);
        messages = f.messages;
        fit = f.fit;
        batch = ap (λ (v : Vec ℕ). v.items) h.same.2 ∙ f.batch;
        pages = ap (λ (ts : List Target). flat_map (one_by_one (page_size_at ts)) f.messages) targets_are ∙ f.pages;
        sources = λ j t at. source_at j t (ap (λ (ts : List Target). slice_get ts j) (sym targets_are) ∙ at);
        once = λ i j t u a b e. f.once i j t u (ap (λ (ts : List Target). slice_get ts i) (sym targets_are) ∙ a)
            (ap (λ (ts : List Target). slice_get ts j) (sym targets_are) ∙ b) e;
      })
        where
          source_at : (j : ℕ) (t : Target) → slice_get old.targets.items j ≡ Some t
              → IsSource pages_of t next (cond (eqb j s.turn) (clean (s.sources s.turn)) (s.sources j))
          source_at j t at =
              cond_both (eqb j s.turn) (clean (s.sources s.turn)) (s.sources j) (λ x. IsSource pages_of t next x)
              (λ own. taken_source t (same_Some h.target t (sym there
              ∙ ap (λ (i : ℕ). slice_get old.targets.items i) (sym (eqb-true j s.turn own)) ∙ at)))
              (λ other. other_source t (s.sources j)
              (λ e. eqb-false j s.turn other (f.once j s.turn t h.target at there e)) (f.sources j t at))

  pub copy_follows : (n : ℕ) (old new : Rounds) (host : Host B) (s : Ends) → Follows pages_of old host s
      → CopiesPages n old new host → Follows pages_of new host (after (Copy n) s)
  copy_follows n old new host s f c =
      let targets : new.targets.items ≡ old.targets.items = ap (λ (v : Vec Target). v.items) c.same.0 in
      let there : slice_get old.targets.items s.last ≡ Some c.target =
      ap (λ (i : ℕ). slice_get old.targets.items i) f.last ∙ c.there in
      let is = f.sources s.last c.target there in
      let pages : copied c.target.entry.page_size old.last (block_at host.blocks c.target.block.0)
      ≡ copied (size_of s s.last) s.last (s.sources s.last).bytes =
      ap (λ (size : ℕ). copied size old.last (block_at host.blocks c.target.block.0)) (sym is.size)
      ∙ ap (λ (b : ℕ). copied (size_of s s.last) b (block_at host.blocks c.target.block.0)) (sym f.last)
      ∙ ap (copied (size_of s s.last) s.last) (sym is.bytes) in
      record {
        count = f.count ∙ ap length (sym targets);
        round = f.round ∙ sym c.same.1;
        turn = f.turn ∙ sym c.same.3;
        last = f.last ∙ sym c.same.4;
        waiting = ap (drop n) f.waiting ∙ drop-drop n old.next old.waiting.items
            ∙ ap (λ (k : ℕ). drop k old.waiting.items) (sym c.next)
            ∙ ap (λ (v : Vec ℕ). drop new.next v.items) (sym c.same.2);
        messages = f.messages ++ c.batch.messages;
        fit = fits-append f.messages c.batch.messages f.fit c.batch.fit;
        batch = c.batch.spelled ∙ ap (λ (x : List ℕ). x ++ flat_map spelling c.batch.messages) f.batch
            ∙ sym (flat_map-append spelling f.messages c.batch.messages);
        pages = ap (λ (ts : List Target). flat_map (one_by_one (page_size_at ts)) (f.messages ++ c.batch.messages)) targets
            ∙ flat_map-append (one_by_one (page_size_at old.targets.items)) f.messages c.batch.messages
            ∙ ap (λ (x : List Message). x ++ flat_map (one_by_one (page_size_at old.targets.items)) c.batch.messages)
            f.pages
            ∙ ap (λ (x : List Message). s.batch ++ x)
            (c.batch.copies (page_size_at old.targets.items) (ap page_size_of c.there))
            ∙ ap (λ (g : ℕ → List Message). s.batch ++ flat_map g (take n (drop old.next old.waiting.items))) pages
            ∙ ap (λ (w : List ℕ). s.batch
            ++ flat_map (copied (size_of s s.last) s.last (s.sources s.last).bytes) (take n w)) (sym f.waiting);
        sources = λ j t at. f.sources j t (ap (λ (ts : List Target). slice_get ts j) (sym targets) ∙ at);
        once = λ i j t u a b e. f.once i j t u (ap (λ (ts : List Target). slice_get ts i) (sym targets) ∙ a)
            (ap (λ (ts : List Target). slice_get ts j) (sym targets) ∙ b) e;
      }

  -- the fields that a send or the end of a round leaves
  pub send_follows : (old new : Rounds) (host : Host B) (s : Ends) → Follows pages_of old host s
      → KeepsRounds old new → new.turn ≡ old.turn → new.round ≡ old.round → new.batch.items ≡ []
      → Follows pages_of new host (after Send s)
  send_follows old new host s f k turn round none = record {
    count = f.count ∙ ap (λ (v : Vec Target). length v.items) (sym k.targets);
    round = f.round ∙ sym round;
    turn = f.turn ∙ sym turn;
    last = f.last ∙ sym k.last;
    waiting = f.waiting ∙ ap (λ (n : ℕ). drop n old.waiting.items) (sym k.next)
        ∙ ap (λ (v : Vec ℕ). drop new.next v.items) (sym k.waiting);
    messages = [];
    fit = tt;
    batch = none;
    pages = refl;
    sources = λ j t at. f.sources j t (ap (λ (v : Vec Target). slice_get v.items j) (sym k.targets) ∙ at);
    once = λ i j t u a b e. f.once i j t u (ap (λ (v : Vec Target). slice_get v.items i) (sym k.targets) ∙ a)
        (ap (λ (v : Vec Target). slice_get v.items j) (sym k.targets) ∙ b) e;
  }

  -- a call that is refused
  pub refused_follows : (old new : Rounds) (host : Host B) (s : Ends) → Follows pages_of old host s
      → StaysAsItWas old new → Follows pages_of new host s
  refused_follows old new host s f r = record {
    count = f.count ∙ ap (λ (v : Vec Target). length v.items) (sym r.kept.targets);
    round = f.round ∙ sym r.round;
    turn = f.turn ∙ sym r.turn;
    last = f.last ∙ sym r.kept.last;
    waiting = f.waiting ∙ ap (λ (n : ℕ). drop n old.waiting.items) (sym r.kept.next)
        ∙ ap (λ (v : Vec ℕ). drop new.next v.items) (sym r.kept.waiting);
    messages = f.messages;
    fit = f.fit;
    batch = r.batch ∙ f.batch;
    pages = ap (λ (v : Vec Target). flat_map (one_by_one (page_size_at v.items)) f.messages) r.kept.targets ∙ f.pages;
    sources = λ j t at. f.sources j t (ap (λ (v : Vec Target). slice_get v.items j) (sym r.kept.targets) ∙ at);
    once = λ i j t u a b e. f.once i j t u (ap (λ (v : Vec Target). slice_get v.items i) (sym r.kept.targets) ∙ a)
        (ap (λ (v : Vec Target). slice_get v.items j) (sym r.kept.targets) ∙ b) e;
  }

  -- a round that a sender has gone through
  pub is_through : (old : Rounds) (host : Host B) (s : Ends) → Follows pages_of old host s → IsIdle old
      → old.turn ≡ length old.targets.items → IsThrough s
  is_through old host s f idle all = record {
    turn = f.turn ∙ all ∙ sym f.count;
    waiting = f.waiting ∙ drop_all old.next old.waiting.items idle.0;
    batch = sym f.pages ∙ ap (flat_map (one_by_one (page_size_at old.targets.items)))
        (none_batched f.messages (sym f.batch ∙ idle.1));
  }

  pub round_follows : (old new : Rounds) (host : Host B) (s : Ends) → Follows pages_of old host s
      → KeepsRounds old new → IsIdle old → old.turn ≡ length old.targets.items → new.turn ≡ 0
      → new.round ≡ old.round + 1 → new.batch ≡ old.batch → Follows pages_of new host (after EndRound s)
  round_follows old new host s f k idle all turn round same =
      let over : is_round_over s ≡ true = is_over s (is_through old host s f idle all) in
      subst (λ (z : Ends). Follows pages_of new host z) (sym (cond-true _ _ _ over)) (record {
        count = f.count ∙ ap (λ (v : Vec Target). length v.items) (sym k.targets);
        round = ap (λ (n : ℕ). n + 1) f.round ∙ sym round;
        turn = sym turn;
        last = f.last ∙ sym k.last;
        waiting = f.waiting ∙ ap (λ (n : ℕ). drop n old.waiting.items) (sym k.next)
            ∙ ap (λ (v : Vec ℕ). drop new.next v.items) (sym k.waiting);
        messages = f.messages;
        fit = f.fit;
        batch = ap (λ (v : Vec ℕ). v.items) same ∙ f.batch;
        pages = ap (λ (v : Vec Target). flat_map (one_by_one (page_size_at v.items)) f.messages) k.targets ∙ f.pages;
        sources = λ j t at. f.sources j t (ap (λ (v : Vec Target). slice_get v.items j) (sym k.targets) ∙ at);
        once = λ i j t u a b e. f.once i j t u (ap (λ (v : Vec Target). slice_get v.items i) (sym k.targets) ∙ a)
            (ap (λ (v : Vec Target). slice_get v.items j) (sym k.targets) ∙ b) e;
      })

  pub begin_follows : (x : Sender) (host : Host B) (s : Ends) → IsFirst x
      → AreTargets pages_of host x.rounds.targets.items
      → IsBeginning s → s.last ≡ x.rounds.last → s.count ≡ length x.rounds.targets.items
      → ((j : ℕ) (t : Target) → slice_get x.rounds.targets.items j ≡ Some t → IsSource pages_of t host (s.sources j))
      → Follows pages_of x.rounds host s
  begin_follows x host s first are b last count sources = record {
    count = count;
    round = b.round ∙ sym first.round;
    turn = b.turn ∙ sym first.turn;
    last = last;
    waiting = b.waiting ∙ sym (ap (λ (n : ℕ). drop n x.rounds.waiting.items) first.next ∙ first.waiting);
    messages = [];
    fit = tt;
    batch = first.batch;
    pages = sym b.batch;
    sources = sources;
    once = are.blocks.once;
  }
