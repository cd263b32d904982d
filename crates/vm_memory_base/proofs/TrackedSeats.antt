-- The seats of a tracked bitmap keep its rule: the first, one more, two made one, and the last.
use Rattle.std.proofs.Common.{◌≡◌, ◌≢◌, ◌⊎◌, ℕ, zero, suc, ◌<◌, ◌≤◌, List, [], ◌∷◌, ◌++◌, length, replicate, set, refl, sym, ap, ◌∙◌, subst, inl, inr, ⊎_elim, arith}
use Rattle.std.specs.Prelude.{slice_index}
use Rattle.std.specs.Int.{bit_at}
use Rattle.std.proofs.lemmas.Nat.Bits.{bit_at-zero}
use Rattle.std.proofs.lemmas.List.{length-replicate, get_or_past}
use Rattle.std.proofs.lemmas.List.Elements.{All-nil}
use mathlib.Core.Option.{some, some-injective, some-ne-none}
use mathlib.Core.Logic.{dite}
use native.Mathlib.Decide.{ℕ_discrete}
use Rattle.std.proofs.Math.Decide.{dec_lt}
use lib.ListN.{get_elem?}
use Rattle.atomic_table.specs.Table.{Splits, Joins, Final, Seen}
use Rattle.atomic_table.proofs.Lists.{set_else, at_snoc, at_longer, set_again}
use Rattle.vm_memory_base.specs.Notes.{Note, IsNoted, rounds_of}
use Rattle.vm_memory_base.proofs.NotesLemmas.{noted_left, noted_right, noted_either, greatest-append}
use Rattle.vm_memory_base.proofs.MarkerCounts.{IsIdle, counted_more, counted_exactly, put_counts, added_counted, dealt_counted, marked_by_first}
use Rattle.vm_memory_base.proofs.PagesLaws.{get_or-alike}
use Rattle.vm_memory_base.proofs.TrackedRule.{set_at, all_below, still_marked, replaced_keeps, own_harvests, rounds_told}
use Rattle.vm_memory_base.specs.declared.bitmap.tracked.view.View.{View}
use Rattle.vm_memory_base.specs.Tracked.{set_pages, round_of, rounds_before, seen_of, newcomer, new_marker, after_deals, note_of, both, words_for, IsWordBelow, AreWordsBelow, IsPage, IsTrue, IsRuled, AreCounted, KeepsRule, IsLeft, HasAllMarkers, WereMarked, AreLastPages, AreHarvested, AreSeen}

-- who noted nothing tells no lie
nothing_noted : (words : List ℕ) (harvests : List Note) (count : ℕ) → IsTrue words harvests (newcomer count)
nothing_noted words harvests count =
    record { marks = λ w r p h. absurd h; sightings = λ w r p h. absurd h; rounds = λ w. omega arith }

-- ---- the beginning

starts_clean : (n w r p : ℕ) → IsPage (replicate n 0) [] w r p → ⊥
starts_clean n w r p (inr noted) = absurd noted
starts_clean n w r p (inl (e, b)) =
    let none_set = ap (λ x. bit_at (set_pages x) p) (get_or-alike n w 0) ∙ bit_at-zero p in omega arith

begins_ruled : (count : ℕ) → IsRuled count (replicate (words_for count) 0) (newcomer count ∷ [])
begins_ruled count = record {
  words_are = length-replicate (words_for count) 0;
  harvests = [];
  first = (newcomer count, refl, refl, refl);
  alone = λ id v e ne. ap (λ (x : View). x.harvests) (sym (one id v e));
  rounds = λ w. ap (λ x. rounds_before (round_of x)) (sym (get_or-alike (words_for count) w 0));
  true_of = λ id v e.
      subst (IsTrue (replicate (words_for count) 0) []) (one id v e)
      (nothing_noted (replicate (words_for count) 0) [] count);
  marked = λ w r p h. absurd (starts_clean (words_for count) w r p h);
  below = λ w p h.
      absurd (starts_clean (words_for count) w (round_of (slice_index (replicate (words_for count) 0) w)) p
      (inl (refl, h)));
}
  where
    one : (id : ℕ) (v : View) → get_elem? (newcomer count ∷ []) id ≡ some v → newcomer count ≡ v
    one zero v e = some-injective (newcomer count) v e
    one (suc id) v e = absurd (some-ne-none v (sym e))

pub begins : (count : ℕ)
    → IsRuled count (replicate (words_for count) 0) (newcomer count ∷ []) × AreCounted (newcomer count ∷ [])
begins count = (begins_ruled count, (refl, All-nil IsIdle))

-- ---- one more view

module _ (count : ℕ) (words : List ℕ) (views : List View) (kept : IsRuled count words views) (x : View)
    (none_there : x.harvests ≡ []) (says : IsTrue words kept.harvests x) where
  added_keeps : IsRuled count words (views ++ x ∷ [])
  added_keeps = record {
    words_are = kept.words_are;
    harvests = kept.harvests;
    first = (kept.first.0, at_longer views (x ∷ []) 0 kept.first.0 kept.first.1, kept.first.2, kept.first.3);
    alone = λ id v e ne.
        ⊎_elim (λ h. kept.alone id v h ne) (λ (h : x ≡ v). ap (λ (y : View). y.harvests) (sym h) ∙ none_there)
        (at_snoc views x v id e);
    rounds = kept.rounds;
    true_of = λ id v e.
        ⊎_elim (λ h. kept.true_of id v h) (λ (h : x ≡ v). subst (IsTrue words kept.harvests) h says)
        (at_snoc views x v id e);
    marked = λ w r p h.
        let m = kept.marked w r p h in (m.0, m.1, at_longer views (x ∷ []) m.0 m.1 m.2, m.3);
    below = kept.below;
  }

deals_first : (count : ℕ) (v : View)
    → Splits {S = Unit {0}} (KeepsRule count) 0 v (after_deals 1 v) (new_marker v.count)
deals_first count v s kept at =
    let was = kept.0.true_of 0 v at in
    let more : View = after_deals 1 v in
    let one : IsRuled count s.words (set s.views 0 more) =
    replaced_keeps count s.words s.views kept.0 0 v at more refl (λ _. refl)
    (record { marks = was.marks; sightings = was.sightings; rounds = was.rounds })
    (λ w r p. still_marked count s.words s.views kept.0 0 v at more w r p (λ h. h)) in (
      added_keeps count s.words (set s.views 0 more) one (new_marker v.count) refl
          (record { marks = λ w r p h. absurd h; sightings = λ w r p h. absurd h; rounds = λ w. omega arith }),
      dealt_counted s.views v at kept.1,
    )

pub deals_allowed : (count id : ℕ) → id ≡ 0 → (v : View)
    → Splits {S = Unit {0}} (KeepsRule count) id v (after_deals 1 v) (new_marker v.count)
deals_allowed count id first v =
    subst (λ (k : ℕ). Splits {S = Unit {0}} (KeepsRule count) k v (after_deals 1 v) (new_marker v.count)) (sym first)
    (deals_first count v)

pub notes_allowed : (count id : ℕ) (v : View) → Splits {S = Unit {0}} (KeepsRule count) id v v (note_of v)
notes_allowed count id v s kept at =
    let is = kept.0.true_of id v at in
    subst (λ (l : List View). IsRuled count s.words (l ++ note_of v ∷ []) × AreCounted (l ++ note_of v ∷ []))
    (sym (set_again s.views id v at)) (
      added_keeps count s.words s.views kept.0 (note_of v) refl
          (record { marks = λ w r p h. absurd h; sightings = λ w r p h. absurd h; rounds = is.rounds }),
      added_counted s.views (note_of v) refl refl kept.1,
    )

-- ---- two views made one

both_true : (words : List ℕ) (harvests : List Note) (v w : View) → IsTrue words harvests v → IsTrue words harvests w
    → IsTrue words harvests (both v w)
both_true words harvests v w one two = record {
  marks = λ k r p h.
      ⊎_elim (λ n. two.marks k r p n) (λ n. one.marks k r p n) (noted_either k r p w.marks v.marks h);
  sightings = λ k r p h.
      ⊎_elim (λ n. two.sightings k r p n) (λ n. one.sightings k r p n)
      (noted_either k r p w.sightings v.sightings h);
  rounds = λ k. omega (arith, greatest-append k w.rounds v.rounds, one.rounds k, two.rounds k);
}

-- a view that counts no marker has none of the marks of two of which this is so
both_idle : (v w : View) → IsIdle v → IsIdle w → IsIdle (both v w)
both_idle v w one two none_there =
    ap (λ (l : List Note). l ++ v.marks) (two (omega (arith, none_there))) ∙ one (omega (arith, none_there))

-- the first seat's view is never spent: it takes in another, or the other knows no number of pages and dealt nothing
module _ (count id other : ℕ) (v w : View) (plain : w.harvests ≡ [])
    (later : (id ≡ 0) ⊎ ((w.count ≡ 0) × (w.dealt ≡ 0))) where
  abbrev pub joined : View
  joined = both v w

  abbrev pub spent : View
  spent = newcomer 0

  not_first : (apart : other ≡ id → ⊥) → other ≡ 0 → (spent.count ≡ w.count) × (spent.dealt ≡ w.dealt)
  not_first apart e =
      ⊎_elim (λ (first : id ≡ 0). absurd (apart (e ∙ sym first)))
      (λ (z : (w.count ≡ 0) × (w.dealt ≡ 0)). (sym z.0, sym z.1)) later

  module _ (words : List ℕ) (views : List View) (kept : IsRuled count words views) (at : get_elem? views id ≡ some v)
      (apart : other ≡ id → ⊥) (there : get_elem? (set views id joined) other ≡ some w) where
    was_there : get_elem? views other ≡ some w
    was_there = sym (set_else views id other joined apart) ∙ there

    joined_keeps : IsRuled count words (set (set views id joined) other spent)
    joined_keeps =
        let one : IsRuled count words (set views id joined) =
        replaced_keeps count words views kept id v at joined refl (λ _. refl)
        (both_true words kept.harvests v w (kept.true_of id v at) (kept.true_of other w was_there))
        (λ k r p. still_marked count words views kept id v at joined k r p (noted_right k r p w.marks v.marks)) in
        let mine : get_elem? (set (set views id joined) other spent) id ≡ some joined =
        set_else (set views id joined) other id spent (λ e. apart (sym e)) ∙ set_at views id v joined at in
        replaced_keeps count words (set views id joined) one other w there spent (sym plain)
        (λ e. (not_first apart e).0)
        (nothing_noted words one.harvests 0)
        (λ k r p (j, x, e, noted).
        dite (ℕ_discrete j other)
        (λ (is : j ≡ other).
        let same : x ≡ w = some-injective x w (sym e ∙ ap (get_elem? (set views id joined)) is ∙ there) in (
          id,
          joined,
          mine,
          noted_left k r p w.marks v.marks (subst (λ (y : View). IsNoted k r p y.marks) same noted),
        ))
        (λ (ne : j ≢ other). (j, x, set_else (set views id joined) other j spent ne ∙ e, noted)))

    joined_counted : (IsIdle v → IsIdle joined) → AreCounted views
        → AreCounted (set (set views id joined) other spent)
    joined_counted idle counted =
        counted_exactly (set (set views id joined) other spent)
        (put_counts (set views id joined) other w spent w.markers 0 there (λ e. (not_first apart e).1) (λ _ _. refl)
        (omega arith)
        (put_counts views id v joined 0 w.markers at (λ _. refl) idle (omega arith) (counted_more views counted)))

pub joins_allowed : (count id other : ℕ) (v w : View) → w.harvests ≡ []
    → (id ≡ 0) ⊎ ((w.count ≡ 0) × (w.dealt ≡ 0)) → (w.markers ≡ 0 → w.marks ≡ [])
    → Joins {S = Unit {0}} (KeepsRule count) id v other w (both v w) (newcomer 0)
joins_allowed count id other v w plain later idle s kept at apart there = (
  joined_keeps count id other v w plain later s.words s.views kept.0 at apart there,
  joined_counted count id other v w plain later s.words s.views kept.0 at apart there
      (λ one. both_idle v w one idle) kept.1,
)

-- each of the two has seen what the other saw, and the harvester all that it opened
pub meets : (w : ℕ) (mine his : View) → length (rounds_of w his.harvests) ≤ seen_of w his
    → seen_of w (both his (note_of mine)) ≤ length (rounds_of w his.harvests)
    → seen_of w (both mine (note_of (both his (note_of mine)))) ≡ length (rounds_of w his.harvests)
meets w mine his least most =
    let all : List Note = mine.rounds ++ his.rounds in
    omega (arith, greatest-append w mine.rounds his.rounds, greatest-append w all mine.rounds, least, most)

pub still_harvested : (words round : ℕ) (v w : View) → AreHarvested words round v.harvests → AreSeen words round v
    → AreHarvested words round (both v w).harvests × AreSeen words round (both v w)
still_harvested words round v w all seen =
    (all, λ k h. omega (arith, seen k h, greatest-append k w.rounds v.rounds))

-- ---- the end

pub elem_index : (l : List ℕ) (i n : ℕ) → get_elem? l i ≡ some n → slice_index l i ≡ n
elem_index [] i n e = absurd (some-ne-none n (sym e))
elem_index (x ∷ xs) zero n e = some-injective x n e
elem_index (x ∷ xs) (suc i) n e = elem_index xs i n e

-- of the words that are left these pages were read
module _ (count id : ℕ) (first : id ≡ 0) (v : View) (words : List ℕ) (slots : List (Unit {0}))
    (end : Final (Seen (KeepsRule count) id v) words slots) (pages : List ℕ)
    (reads : (k : ℕ) → k < length pages → slice_index pages k ≡ set_pages (slice_index words k)) where
  read : (k : ℕ) → k < length pages → slice_index pages k ≡ set_pages (slice_index end.0.words k)
  read k h = reads k h ∙ ap (λ l. set_pages (slice_index l k)) (sym end.2)

  at_first : get_elem? end.0.views 0 ≡ some v
  at_first = ap (get_elem? end.0.views) (sym first) ∙ end.1.1

  pub closes : IsLeft v pages
  closes w r p inside noted =
      let kept = end.1.0.0 in
      let own = kept.true_of 0 v at_first in
      ⊎_elim
      (λ (h : (r ≡ round_of (slice_index end.0.words w)) × (bit_at (set_pages (slice_index end.0.words w)) p ≡ 1)).
      inr (
        h.0 ∙ sym (rounds_told count end.0.words end.0.views kept v at_first w),
        ap (λ n. bit_at n p) (read w inside) ∙ h.1,
      ))
      (λ h. inl (subst (IsNoted w r p) (sym (own_harvests count end.0.words end.0.views kept v at_first)) h))
      (⊎_elim (λ h. own.marks w r p h) (λ h. own.sightings w r p h) noted)

  pub closes_below : AreWordsBelow count pages
  closes_below = all_below count pages (λ w h. subst (IsWordBelow count w) (sym (read w h)) (end.1.0.0.below w))

  pub closes_marked : HasAllMarkers v → WereMarked v pages
  closes_marked all w r p h =
      let kept = end.1.0.0 in
      marked_by_first end.0.views v at_first end.1.0.1 all w r p
      (kept.marked w r p
      (⊎_elim
      (λ (n : IsNoted w r p v.harvests).
      inr (subst (IsNoted w r p) (own_harvests count end.0.words end.0.views kept v at_first) n))
      (λ (n : (r ≡ length (rounds_of w v.harvests)) × (bit_at (slice_index pages w) p ≡ 1)).
      dite (dec_lt w (length pages))
      (λ (inside : w < length pages).
      inl (
        n.0 ∙ rounds_told count end.0.words end.0.views kept v at_first w,
        sym (ap (λ k. bit_at k p) (read w inside)) ∙ n.1,
      ))
      (λ out.
      let none_set = ap (λ k. bit_at k p) (get_or_past pages w 0 (omega arith)) ∙ bit_at-zero p in
      absurd (omega (arith, n.1, none_set))))
      h))

  pub closes_last : AreLastPages count v pages
  closes_last = (end.0, end.1.0, at_first, read)
