-- What holds after each store of a back end, and so after every history.
use Rattle.std.proofs.Common.{◌≡◌, ℕ, zero, suc, ◌+◌, ◌%◌, ◌^◌, ◌<◌, ◌≤◌, true, false, not, ◌&&◌, List, [], ◌∷◌, ◌++◌, length, Option, Some, None, refl, sym, ap, subst, ◌∙◌, ◌⊎◌, inl, inr, arith, length-append, length-set}
use Rattle.std.proofs.lemmas.List.{get_or_past}
use Rattle.std.proofs.lemmas.Bool.{cases_Bool, cases_lt, cases_eq, eq-eqb, ne_eqb, eqb-true, or_cases, or_right, or_from, le-ltb, and_left, and_right, and_parts, both_ways, lt-leb, ltb-true, not-true}
use Rattle.std.specs.Prelude.{drop, map, take, nat_lt, nat_le, ◌==◌}
use Rattle.std.specs.List.{list_any}
use Rattle.vhost_inflight.specs.Split.{SplitRegion, after_pop, after_return, changed, counter_of, entry_of, is_in_flight, next_count, pop_stores, put}
use Rattle.vhost_inflight.specs.SplitStart.{Flies, Rises, batch, cleared, difference, entries_fault, greatest, header_fault, is_among, returned, settled, start_stores, started}
use Rattle.vhost_inflight.specs.SplitCrash.{Call, Cut, Deed, Effect, Entry, Event, GoesOn, IsFresh, Pop, Region, Return, Start, UsedIndex, Whole, World, all_done, at_first, cut, done, effect, happens, in_view, next_used, return_deeds, run, stored_too, whole, without}
use Rattle.vhost_inflight.specs.declared.split.SplitInFlight.{SplitInFlight}
use Rattle.vhost_inflight.specs.declared.split.SplitStore.{SplitStore}
use Rattle.vhost_inflight.specs.declared.split.SplitStore.TheVariants.{Counter, InFlight, Next, LastBatchHead, UsedIdx, DescNum, Version}
use Rattle.vhost_inflight.specs.declared.split_region.SplitEntry.{SplitEntry}
use Rattle.vhost_inflight.proofs.EntryLemmas.{any-changed, among-append, among-without, any_none, drop_none, gone-without, kept_field, length-without, most-above, most-below, other_entry, rises-append, rises-same, rises_once, rises-without, this_entry}

-- what never changes: the region's descriptors, the ring's, and the index from which the ring began
record Given : Type 0 where
  pub descriptors : ℕ
  pub size : ℕ
  pub began : ℕ
  pub fits : size ≤ descriptors
  pub small : descriptors < 2 ^ 16

-- what holds after each store, of the heads that are popped and not returned
record Base (g : Given) (view : Option (List ℕ)) (used : ℕ) (es : List SplitEntry) (popped : ℕ)
    (heads : List ℕ) : Type 0 where
  pub seen : view ≡ Some heads
  pub ring : used < 2 ^ 16
  pub len : length es ≡ g.descriptors
  pub marks : list_any (λ e. nat_lt 1 e.in_flight) es ≡ false
  pub below : (h : ℕ) → is_among h heads ≡ true → h < g.size
  pub counts : (h : ℕ) → is_among h heads ≡ true → counter_of es h ≤ popped
  pub order : Rises es heads
  pub next : (used + length heads) % 2 ^ 16 ≡ (g.began + popped) % 2 ^ 16

-- nothing was popped yet
record Fresh (g : Given) (w : World) (heads : List ℕ) : Type 0 where
  pub base : Base g w.view w.used w.region.entries w.popped heads
  pub version : w.region.version ≡ 0
  pub none : heads ≡ []
  pub each : (h : ℕ) → is_in_flight w.region.entries h ≡ false

-- the region has the ring's used index
record Level (g : Given) (w : World) (heads : List ℕ) : Type 0 where
  pub base : Base g w.view w.used w.region.entries w.popped heads
  pub version : w.region.version ≡ 1
  pub desc_num : w.region.desc_num ≡ g.descriptors
  pub index : w.region.used_idx ≡ w.used
  pub each : (h : ℕ) → is_among h heads ≡ is_in_flight w.region.entries h

-- the ring is one head ahead of the region
record Ahead (g : Given) (w : World) (heads : List ℕ) : Type 0 where
  pub base : Base g w.view w.used w.region.entries w.popped heads
  pub version : w.region.version ≡ 1
  pub desc_num : w.region.desc_num ≡ g.descriptors
  pub range : w.region.used_idx < 2 ^ 16
  pub index : w.used ≡ (w.region.used_idx + 1) % 2 ^ 16
  pub head : w.region.last_batch_head < g.size
  pub gone : is_among w.region.last_batch_head heads ≡ false
  pub each : (h : ℕ) → (h ≡ w.region.last_batch_head → ⊥) → is_among h heads ≡ is_in_flight w.region.entries h

-- ---- one store at a time

-- a change that leaves marks and counts alone
base-changed : (g : Given) (view : Option (List ℕ)) (used : ℕ) (es : List SplitEntry) (popped : ℕ) (heads : List ℕ)
    (h : ℕ) (f : SplitEntry → SplitEntry) → ((e : SplitEntry) → (f e).in_flight ≡ e.in_flight)
    → ((k : ℕ) → is_among k heads ≡ true → counter_of (changed es h f) k ≡ counter_of es k)
    → Base g view used es popped heads → Base g view used (changed es h f) popped heads
base-changed g view used es popped heads h f marks counts b = record {
  seen = b.seen;
  ring = b.ring;
  len = length-set es h (f (entry_of es h)) ∙ b.len;
  marks = any-changed (λ e. nat_lt 1 e.in_flight) f (λ e none. rw (marks e) none) es h b.marks;
  below = b.below;
  counts = λ k a. rw (counts k a) (b.counts k a);
  order = rises-same es (changed es h f) heads counts b.order;
  next = b.next;
}

flight-kept : (f : SplitEntry → SplitEntry) → ((e : SplitEntry) → (f e).in_flight ≡ e.in_flight)
    → (es : List SplitEntry) (h k : ℕ) → is_in_flight (changed es h f) k ≡ is_in_flight es k
flight-kept f marks es h k = kept_field (λ e. e.in_flight == 1) f (λ e. ap (λ (n : ℕ). n == 1) (marks e)) es h k

level-changed : (g : Given) (w : World) (heads : List ℕ) (h : ℕ) (f : SplitEntry → SplitEntry)
    → ((e : SplitEntry) → (f e).in_flight ≡ e.in_flight)
    → ((k : ℕ) → is_among k heads ≡ true → counter_of (changed w.region.entries h f) k ≡ counter_of w.region.entries k)
    → Level g w heads
    → Level g (record w { region = record w.region { entries = changed w.region.entries h f } }) heads
level-changed g w heads h f marks counts s = record {
  base = base-changed g w.view w.used w.region.entries w.popped heads h f marks counts s.base;
  version = s.version;
  desc_num = s.desc_num;
  index = s.index;
  each = λ k. s.each k ∙ sym (flight-kept f marks w.region.entries h k);
}

-- a pop's count
level-counter : (g : Given) (w : World) (heads : List ℕ) (h c : ℕ) → is_among h heads ≡ false → Level g w heads
    → Level g (done w (Region (Counter h c))) heads
level-counter g w heads h c out s =
    level-changed g w heads h (λ e. record e { counter = c }) (λ e. refl)
    (λ k a. let other : k ≡ h → ⊥ = λ e. both_ways (is_among h heads) out (rw e at a) in
    ap (λ (e : SplitEntry). e.counter) (other_entry (λ e. record e { counter = c }) w.region.entries h k other))
    s

-- a return's link
level-next : (g : Given) (w : World) (heads : List ℕ) (h x : ℕ) → Level g w heads
    → Level g (done w (Region (Next h x))) heads
level-next g w heads h x s =
    level-changed g w heads h (λ e. record e { next = x }) (λ e. refl)
    (λ k a. kept_field (λ e. e.counter) (λ e. record e { next = x }) (λ e. refl) w.region.entries h k)
    s

level-head : (g : Given) (w : World) (heads : List ℕ) (h : ℕ) → Level g w heads
    → Level g (done w (Region (LastBatchHead h))) heads
level-head g w heads h s = record {
  base = s.base;
  version = s.version;
  desc_num = s.desc_num;
  index = s.index;
  each = s.each;
}

level-entry : (g : Given) (w : World) (heads : List ℕ) (h : ℕ) → Level g w heads
    → Level g (done w (Entry h)) heads
level-entry g w heads h s = record {
  base = s.base;
  version = s.version;
  desc_num = s.desc_num;
  index = s.index;
  each = s.each;
}

-- the mark of a pop
level-mark : (g : Given) (w : World) (heads : List ℕ) (h : ℕ) → is_among h heads ≡ false → h < g.size
    → ((k : ℕ) → is_among k heads ≡ true → counter_of w.region.entries k < counter_of w.region.entries h)
    → counter_of w.region.entries h ≤ w.popped + 1 → Level g w heads
    → Level g (done w (Region (InFlight h true))) (heads ++ h ∷ [])
level-mark g w heads h out small above bound s =
    let f : SplitEntry → SplitEntry = λ e. record e { in_flight = 1 } in
    let es : List SplitEntry = w.region.entries in
    let count : (k : ℕ) → counter_of (changed es h f) k ≡ counter_of es k =
    λ k. kept_field (λ e. e.counter) f (λ e. refl) es h k in
    let there : h < length es = rw s.base.len (let fits = g.fits in omega arith) in
    record {
      base = record {
        seen = rw s.base.seen (rw out refl);
        ring = s.base.ring;
        len = length-set es h (f (entry_of es h)) ∙ s.base.len;
        marks = any-changed (λ e. nat_lt 1 e.in_flight) f (λ e none. refl) es h s.base.marks;
        below = λ k a. elim (or_cases (is_among k heads) (h == k) (sym (among-append k h heads) ∙ a)) [
          | inl old ↦ s.base.below k old
          | inr new ↦ rw (sym (eqb-true h k new)) small
        ];
        counts = λ k a. rw (count k) (elim (or_cases (is_among k heads) (h == k) (sym (among-append k h heads) ∙ a)) [
          | inl old ↦ let c = s.base.counts k old in omega arith
          | inr new ↦ rw (sym (eqb-true h k new)) bound
        ]);
        order = rises-append (changed es h f) heads h
            (λ k a. rw (count k, count h) (let up = above k a in let l = s.base.below k a in
            let fits = g.fits in let few = g.small in omega arith))
            (rises-same es (changed es h f) heads (λ k a. count k) s.base.order);
        next = rw (length-append heads (h ∷ [])) (let n = s.base.next in omega arith);
      };
      version = s.version;
      desc_num = s.desc_num;
      index = s.index;
      each = λ k. among-append k h heads ∙ elim (cases_eq k h) [
        | inl is ↦
            let on : is_in_flight (changed es h f) h ≡ true = rw (this_entry f es h there) refl in
            rw is (or_right (is_among h heads) (h == h) (eq-eqb h h refl) ∙ sym on)
        | inr isnt ↦
            let no : (h == k) ≡ false = ne_eqb h k (λ e. isnt (sym e)) in
            let same : is_in_flight (changed es h f) k ≡ is_in_flight es k =
            ap (λ (e : SplitEntry). e.in_flight == 1) (other_entry f es h k isnt) in
            rw (no, same) (elim (cases_Bool (is_among k heads)) [
              | inl y ↦ rw y (sym y ∙ s.each k)
              | inr n ↦ rw n (sym n ∙ s.each k)
            ])
      ];
    }

-- the ring's used index
ahead-used : (g : Given) (w : World) (heads : List ℕ) → w.entry ≡ w.region.last_batch_head
    → is_among w.entry heads ≡ true → Level g w heads
    → Ahead g (done w (UsedIndex (next_used w.used))) (without w.entry heads)
ahead-used g w heads entry out s = record {
  base = record {
    seen = rw s.base.seen (rw out refl);
    ring = omega arith;
    len = s.base.len;
    marks = s.base.marks;
    below = λ k a. elim (cases_eq k w.entry) [
      | inl is ↦ absurd (both_ways (is_among w.entry (without w.entry heads)) (gone-without w.entry heads) (rw is at a))
      | inr isnt ↦ s.base.below k (sym (among-without w.entry k heads isnt) ∙ a)
    ];
    counts = λ k a. elim (cases_eq k w.entry) [
      | inl is ↦ absurd (both_ways (is_among w.entry (without w.entry heads)) (gone-without w.entry heads) (rw is at a))
      | inr isnt ↦ s.base.counts k (sym (among-without w.entry k heads isnt) ∙ a)
    ];
    order = rises-without w.region.entries w.entry heads s.base.order;
    next =
        let shorter = length-without w.region.entries w.entry heads s.base.order out in
        let n = s.base.next in omega arith;
  };
  version = s.version;
  desc_num = s.desc_num;
  range = rw s.index s.base.ring;
  index = rw s.index refl;
  head = rw (sym entry) (s.base.below w.entry out);
  gone = rw (sym entry) (gone-without w.entry heads);
  each = λ k other. among-without w.entry k heads (λ e. other (e ∙ entry)) ∙ s.each k;
}

-- the mark of what was returned
ahead-mark : (g : Given) (w : World) (heads : List ℕ) → Ahead g w heads
    → Ahead g (done w (Region (InFlight w.region.last_batch_head false))) heads
    × (is_in_flight (changed w.region.entries w.region.last_batch_head (λ e. record e { in_flight = 0 }))
    w.region.last_batch_head ≡ false)
ahead-mark g w heads s =
    let f : SplitEntry → SplitEntry = λ e. record e { in_flight = 0 } in
    let es : List SplitEntry = w.region.entries in
    let h : ℕ = w.region.last_batch_head in
    let count : (k : ℕ) → counter_of (changed es h f) k ≡ counter_of es k =
    λ k. kept_field (λ e. e.counter) f (λ e. refl) es h k in
    let there : h < length es = rw s.base.len (let fits = g.fits in let l = s.head in omega arith) in (
      record {
        base = record {
          seen = s.base.seen;
          ring = s.base.ring;
          len = length-set es h (f (entry_of es h)) ∙ s.base.len;
          marks = any-changed (λ e. nat_lt 1 e.in_flight) f (λ e none. refl) es h s.base.marks;
          below = s.base.below;
          counts = λ k a. rw (count k) (s.base.counts k a);
          order = rises-same es (changed es h f) heads (λ k a. count k) s.base.order;
          next = s.base.next;
        };
        version = s.version;
        desc_num = s.desc_num;
        range = s.range;
        index = s.index;
        head = s.head;
        gone = s.gone;
        each = λ k other. s.each k other
            ∙ sym (ap (λ (e : SplitEntry). e.in_flight == 1) (other_entry f es h k other));
      },
      rw (this_entry f es h there) refl,
    )

-- the region's used index
level-index : (g : Given) (w : World) (heads : List ℕ)
    → is_in_flight w.region.entries w.region.last_batch_head ≡ false → Ahead g w heads
    → Level g (done w (Region (UsedIdx w.used))) heads
level-index g w heads off s = record {
  base = s.base;
  version = s.version;
  desc_num = s.desc_num;
  index = refl;
  each = λ k. elim (cases_eq k w.region.last_batch_head) [
    | inl is ↦ rw is (s.gone ∙ sym off)
    | inr isnt ↦ s.each k isnt
  ];
}

fresh-desc_num : (g : Given) (w : World) (heads : List ℕ) → Fresh g w heads
    → Fresh g (done w (Region (DescNum g.descriptors))) heads
fresh-desc_num g w heads s = record {
  base = s.base;
  version = s.version;
  none = s.none;
  each = s.each;
}

fresh-index : (g : Given) (w : World) (heads : List ℕ) → Fresh g w heads
    → Fresh g (done w (Region (UsedIdx w.used))) heads
fresh-index g w heads s = record {
  base = s.base;
  version = s.version;
  none = s.none;
  each = s.each;
}

level-version : (g : Given) (w : World) (heads : List ℕ) → w.region.desc_num ≡ g.descriptors
    → w.region.used_idx ≡ w.used → Fresh g w heads → Level g (done w (Region (Version 1))) heads
level-version g w heads desc_num index s = record {
  base = s.base;
  version = refl;
  desc_num = desc_num;
  index = index;
  each = λ k. rw s.none (sym (s.each k));
}

-- ---- what a start finds

settled-fresh : (g : Given) (w : World) (heads : List ℕ) → Fresh g w heads
    → settled w.region w.used ≡ w.region.entries
settled-fresh g w heads s = rw s.version refl

level-difference : (g : Given) (w : World) (heads : List ℕ) → Level g w heads
    → difference w.used w.region.used_idx ≡ 0
level-difference g w heads s = let same = s.index in let small = s.base.ring in omega arith

settled-level : (g : Given) (w : World) (heads : List ℕ) → Level g w heads
    → settled w.region w.used ≡ w.region.entries
settled-level g w heads s = rw (s.version, level-difference g w heads s) refl

ahead-difference : (g : Given) (w : World) (heads : List ℕ) → Ahead g w heads
    → difference w.used w.region.used_idx ≡ 1
ahead-difference g w heads s = let one = s.index in let small = s.range in omega arith

ahead-returned : (g : Given) (w : World) (heads : List ℕ) → Ahead g w heads
    → returned w.region w.used ≡ w.region.last_batch_head ∷ []
ahead-returned g w heads s = rw (s.version, ahead-difference g w heads s) refl

settled-ahead : (g : Given) (w : World) (heads : List ℕ) → Ahead g w heads
    → settled w.region w.used
    ≡ changed w.region.entries w.region.last_batch_head (λ e. record e { in_flight = 0 })
settled-ahead g w heads s = ap (λ (hs : List ℕ). cleared w.region.entries hs) (ahead-returned g w heads s)

-- entries in which exactly these heads are in flight
record Holds (g : Given) (popped : ℕ) (es : List SplitEntry) (heads : List ℕ) : Type 0 where
  pub each : (h : ℕ) → is_among h heads ≡ is_in_flight es h
  pub order : Rises es heads
  pub below : (h : ℕ) → is_among h heads ≡ true → h < g.size
  pub counts : (h : ℕ) → is_among h heads ≡ true → counter_of es h ≤ popped

fresh-holds : (g : Given) (w : World) (heads : List ℕ) → Fresh g w heads
    → Holds g w.popped (settled w.region w.used) heads
fresh-holds g w heads s = rw (settled-fresh g w heads s) (record {
  each = λ h. rw s.none (sym (s.each h));
  order = s.base.order;
  below = s.base.below;
  counts = s.base.counts;
})

level-holds : (g : Given) (w : World) (heads : List ℕ) → Level g w heads
    → Holds g w.popped (settled w.region w.used) heads
level-holds g w heads s = rw (settled-level g w heads s) (record {
  each = s.each;
  order = s.base.order;
  below = s.base.below;
  counts = s.base.counts;
})

ahead-holds : (g : Given) (w : World) (heads : List ℕ) → Ahead g w heads
    → Holds g w.popped (settled w.region w.used) heads
ahead-holds g w heads s =
    let m = ahead-mark g w heads s in
    rw (settled-ahead g w heads s) (record {
      each = λ k. elim (cases_eq k w.region.last_batch_head) [
        | inl is ↦ rw is (s.gone ∙ sym m.1)
        | inr isnt ↦ m.0.each k isnt
      ];
      order = m.0.base.order;
      below = s.base.below;
      counts = m.0.base.counts;
    })

-- ---- what holds whenever a back end is cut off, and while it runs

Sound : Given → World → Type 0
Sound g w = (heads : List ℕ) × (Fresh g w heads ⊎ (Level g w heads ⊎ Ahead g w heads))

record Runs (g : Given) (w : World) (kept : SplitInFlight) : Type 0 where
  pub heads : List ℕ
  pub level : Level g w heads
  pub above : (h : ℕ) → is_among h heads ≡ true → counter_of w.region.entries h ≤ kept.count
  pub count : kept.count ≤ w.popped

-- after each of these stores, and before the first
Each : (World → Type 0) → World → List Deed → Type 0
Each P w [] = P w
Each P w (d ∷ ds) = P w × Each P (done w d) ds

each_cut : (P : World → Type 0) (ds : List Deed) (w : World) (n : ℕ) → Each P w ds → P (all_done w (take n ds))
unfolding Each
each_cut P [] w zero e = e
each_cut P [] w (suc n) e = e
each_cut P (d ∷ ds) w zero (here, rest) = here
each_cut P (d ∷ ds) w (suc n) (here, rest) = each_cut P ds (done w d) n rest

from_fresh : (g : Given) (w : World) (heads : List ℕ) → Fresh g w heads → Sound g w
unfolding Sound
from_fresh g w heads s = (heads, inl s)

from_level : (g : Given) (w : World) (heads : List ℕ) → Level g w heads → Sound g w
unfolding Sound
from_level g w heads s = (heads, inr (inl s))

from_ahead : (g : Given) (w : World) (heads : List ℕ) → Ahead g w heads → Sound g w
unfolding Sound
from_ahead g w heads s = (heads, inr (inr s))

-- ---- a pop

pop_runs : (g : Given) (w : World) (heads : List ℕ) (kept : SplitInFlight) (h : ℕ) → Level g w heads
    → ((k : ℕ) → is_among k heads ≡ true → counter_of w.region.entries k ≤ kept.count) → kept.count ≤ w.popped
    → w.popped < 2 ^ 63 → h < g.size → is_among h heads ≡ false
    → Each (Sound g) w (map Region (pop_stores kept h))
    × Runs g (all_done w (map Region (pop_stores kept h))) (after_pop kept)
unfolding Each
pop_runs g w heads kept h s above count few small out =
    let c : ℕ = next_count kept in
    let is_next : c ≡ kept.count + 1 = omega arith in
    let f : SplitEntry → SplitEntry = λ e. record e { counter = c } in
    let m : SplitEntry → SplitEntry = λ e. record e { in_flight = 1 } in
    let es : List SplitEntry = w.region.entries in
    let fs : List SplitEntry = changed es h f in
    let v : World = done w (Region (Counter h c)) in
    let at_v : Level g v heads = level-counter g w heads h c out s in
    let there : h < length es = rw s.base.len (let fits = g.fits in omega arith) in
    let new : counter_of fs h ≡ c = ap (λ (e : SplitEntry). e.counter) (this_entry f es h there) in
    let old : (k : ℕ) → is_among k heads ≡ true → counter_of fs k ≡ counter_of es k =
    λ k a. let other : k ≡ h → ⊥ = λ e. both_ways (is_among h heads) out (rw e at a) in
    ap (λ (e : SplitEntry). e.counter) (other_entry f es h k other) in
    let rises : (k : ℕ) → is_among k heads ≡ true → counter_of fs k < counter_of fs h =
    λ k a. rw (old k a, new) (let l = above k a in omega arith) in
    let bound : counter_of fs h ≤ w.popped + 1 = rw new (omega arith) in
    let at_end : Level g (done v (Region (InFlight h true))) (heads ++ h ∷ []) =
    level-mark g v heads h out small rises bound at_v in (
      (from_level g w heads s, (from_level g v heads at_v, from_level g (done v (Region (InFlight h true))) (heads ++ h ∷ []) at_end)),
      record {
        heads = heads ++ h ∷ [];
        level = at_end;
        above = λ k a. rw (kept_field (λ e. e.counter) m (λ e. refl) fs h k)
            (elim (or_cases (is_among k heads) (h == k) (sym (among-append k h heads) ∙ a)) [
              | inl before ↦ rw (old k before) (let l = above k before in omega arith)
              | inr now ↦ rw (sym (eqb-true h k now)) (rw new (omega arith))
            ]);
        count = omega arith;
      },
    )

-- ---- a return

return_runs : (g : Given) (w : World) (heads : List ℕ) (kept : SplitInFlight) (h : ℕ) → Level g w heads
    → ((k : ℕ) → is_among k heads ≡ true → counter_of w.region.entries k ≤ kept.count) → kept.count ≤ w.popped
    → is_among h heads ≡ true
    → Each (Sound g) w (return_deeds kept h w.used)
    × Runs g (all_done w (return_deeds kept h w.used)) (after_return kept h)
unfolding Each
return_runs g w heads kept h s above count out =
    let f : SplitEntry → SplitEntry = λ e. record e { next = kept.last_batch_head } in
    let m : SplitEntry → SplitEntry = λ e. record e { in_flight = 0 } in
    let es : List SplitEntry = w.region.entries in
    let fs : List SplitEntry = changed es h f in
    let left : List ℕ = without h heads in
    let v1 : World = done w (Region (Next h kept.last_batch_head)) in
    let s1 : Level g v1 heads = level-next g w heads h kept.last_batch_head s in
    let v2 : World = done v1 (Region (LastBatchHead h)) in
    let s2 : Level g v2 heads = level-head g v1 heads h s1 in
    let v3 : World = done v2 (Entry h) in
    let s3 : Level g v3 heads = level-entry g v2 heads h s2 in
    let v4 : World = done v3 (UsedIndex (next_used w.used)) in
    let s4 : Ahead g v4 left = ahead-used g v3 heads refl out s3 in
    let v5 : World = done v4 (Region (InFlight h false)) in
    let s5 = ahead-mark g v4 left s4 in
    let v6 : World = done v5 (Region (UsedIdx (next_used w.used))) in
    let s6 : Level g v6 left = level-index g v5 left s5.1 s5.0 in (
      (
        from_level g w heads s,
        (
          from_level g v1 heads s1,
          (
            from_level g v2 heads s2,
            (
              from_level g v3 heads s3,
              (from_ahead g v4 left s4, (from_ahead g v5 left s5.0, from_level g v6 left s6)),
            ),
          ),
        ),
      ),
      record {
        heads = left;
        level = s6;
        above = λ k a. rw (kept_field (λ e. e.counter) m (λ e. refl) fs h k)
            (rw (kept_field (λ e. e.counter) f (λ e. refl) es h k)
            (elim (cases_eq k h) [
              | inl is ↦ absurd (both_ways (is_among h left) (gone-without h heads) (rw is at a))
              | inr isnt ↦ above k (sym (among-without h k heads isnt) ∙ a)
            ]));
        count = count;
      },
    )

-- ---- a start

-- the greatest count is one of a head in flight
greatest-bounds : (g : Given) (popped : ℕ) (es : List SplitEntry) (heads : List ℕ) → Holds g popped es heads
    → ((h : ℕ) → is_among h heads ≡ true → counter_of es h ≤ greatest es) × (greatest es ≤ popped)
greatest-bounds g popped es heads s = (
  (λ h a. most-above 0 es h (sym (s.each h) ∙ a)),
  most-below 0 popped es (omega arith) (λ h is. s.counts h (s.each h ∙ is)),
)

start_from_fresh : (g : Given) (w : World) (heads : List ℕ) → Fresh g w heads
    → Each (Sound g) w (map Region (start_stores g.descriptors w.region w.used))
    × Runs g (all_done w (map Region (start_stores g.descriptors w.region w.used))) (started w.region w.used)
unfolding Each
start_from_fresh g w heads s =
    let holds = fresh-holds g w heads s in
    let bounds = greatest-bounds g w.popped (settled w.region w.used) heads holds in
    let v1 : World = done w (Region (DescNum g.descriptors)) in
    let s1 : Fresh g v1 heads = fresh-desc_num g w heads s in
    let v2 : World = done v1 (Region (UsedIdx w.used)) in
    let s2 : Fresh g v2 heads = fresh-index g v1 heads s1 in
    let v3 : World = done v2 (Region (Version 1)) in
    let s3 : Level g v3 heads = level-version g v2 heads refl refl s2 in
    let stores : start_stores g.descriptors w.region w.used
    ≡ DescNum g.descriptors ∷ UsedIdx w.used ∷ Version 1 ∷ [] = rw s.version refl in
    let P : List SplitStore → Type 0 = λ stores. Each (Sound g) w (map Region stores)
    × Runs g (all_done w (map Region stores)) (started w.region w.used) in
    subst P (sym stores) (
      (from_fresh g w heads s, (from_fresh g v1 heads s1, (from_fresh g v2 heads s2, from_level g v3 heads s3))),
      record {
        heads = heads;
        level = s3;
        above = λ h a. absurd (both_ways (is_among h []) refl (rw s.none at a));
        count = bounds.1;
      },
    )

start_from_level : (g : Given) (w : World) (heads : List ℕ) → Level g w heads
    → Each (Sound g) w (map Region (start_stores g.descriptors w.region w.used))
    × Runs g (all_done w (map Region (start_stores g.descriptors w.region w.used))) (started w.region w.used)
unfolding Each
start_from_level g w heads s =
    let holds = level-holds g w heads s in
    let bounds = greatest-bounds g w.popped (settled w.region w.used) heads holds in
    let stores : start_stores g.descriptors w.region w.used ≡ [] =
    rw s.version (rw (eq-eqb w.region.used_idx w.used s.index) refl) in
    let P : List SplitStore → Type 0 = λ stores. Each (Sound g) w (map Region stores)
    × Runs g (all_done w (map Region stores)) (started w.region w.used) in
    subst P (sym stores) (
      from_level g w heads s,
      record {
        heads = heads;
        level = s;
        above = λ h a. subst (λ (es : List SplitEntry). counter_of es h ≤ greatest (settled w.region w.used))
            (settled-level g w heads s) (bounds.0 h a);
        count = bounds.1;
      },
    )

start_from_ahead : (g : Given) (w : World) (heads : List ℕ) → Ahead g w heads
    → Each (Sound g) w (map Region (start_stores g.descriptors w.region w.used))
    × Runs g (all_done w (map Region (start_stores g.descriptors w.region w.used))) (started w.region w.used)
unfolding Each
start_from_ahead g w heads s =
    let holds = ahead-holds g w heads s in
    let bounds = greatest-bounds g w.popped (settled w.region w.used) heads holds in
    let h : ℕ = w.region.last_batch_head in
    let v1 : World = done w (Region (InFlight h false)) in
    let s1 = ahead-mark g w heads s in
    let v2 : World = done v1 (Region (UsedIdx w.used)) in
    let s2 : Level g v2 heads = level-index g v1 heads s1.1 s1.0 in
    let apart : w.region.used_idx ≡ w.used → ⊥ =
    λ same. let one = ahead-difference g w heads s in let small = s.range in omega arith in
    let stores : start_stores g.descriptors w.region w.used ≡ InFlight h false ∷ UsedIdx w.used ∷ [] =
    rw s.version (rw (ne_eqb w.region.used_idx w.used apart) (rw (ahead-difference g w heads s) refl)) in
    let P : List SplitStore → Type 0 = λ stores. Each (Sound g) w (map Region stores)
    × Runs g (all_done w (map Region stores)) (started w.region w.used) in
    subst P (sym stores) (
      (from_ahead g w heads s, (from_ahead g v1 heads s1.0, from_level g v2 heads s2)),
      record {
        heads = heads;
        level = s2;
        above = λ k a. subst (λ (es : List SplitEntry). counter_of es k ≤ greatest (settled w.region w.used))
            (settled-ahead g w heads s) (bounds.0 k a);
        count = bounds.1;
      },
    )

-- ---- what the guest sees

seen_in : (h : ℕ) (view : Option (List ℕ)) (heads : List ℕ) → view ≡ Some heads → in_view h view ≡ is_among h heads
seen_in h view heads e = rw e refl

-- ---- whatever becomes of the back end

level-kept : (g : Given) (w : World) (heads : List ℕ) (kept : Option SplitInFlight) → Level g w heads
    → Level g (record w { kept = kept }) heads
level-kept g w heads kept s = record {
  base = s.base;
  version = s.version;
  desc_num = s.desc_num;
  index = s.index;
  each = s.each;
}

sound-kept : (g : Given) (w : World) (kept : Option SplitInFlight) → Sound g w → Sound g (record w { kept = kept })
unfolding Sound
sound-kept g w kept (heads, s) = (
  heads,
  elim s [
    | inl s ↦ inl (record { base = s.base; version = s.version; none = s.none; each = s.each })
    | inr s ↦ inr (elim s [
      | inl s ↦ inl (level-kept g w heads kept s)
      | inr s ↦ inr (record {
        base = s.base;
        version = s.version;
        desc_num = s.desc_num;
        range = s.range;
        index = s.index;
        head = s.head;
        gone = s.gone;
        each = s.each;
      })
    ])
  ],
)

runs-kept : (g : Given) (w : World) (new : Option SplitInFlight) (kept : SplitInFlight) → Runs g w kept
    → Runs g (record w { kept = new }) kept
runs-kept g w new kept s = record {
  heads = s.heads;
  level = level-kept g w s.heads new s.level;
  above = s.above;
  count = s.count;
}

-- by whether the back end runs
Stands : Given → World → Option SplitInFlight → Type 0
Stands g w None = Sound g w
Stands g w (Some kept) = Runs g w kept

-- a call that is made keeps its promise at each store, and at its end
Keeps : Given → World → Option Effect → Type 0
Keeps g w None = Unit {0}
Keeps g w (Some e) = Each (Sound g) w e.deeds × Runs g (all_done w e.deeds) e.kept

start_keeps : (g : Given) (w : World) → Sound g w
    → Keeps g w (effect g.descriptors g.size w None Start)
unfolding Keeps Sound
start_keeps g w (heads, s) = elim s [
  | inl s ↦ start_from_fresh g w heads s
  | inr s ↦ elim s [ inl s ↦ start_from_level g w heads s | inr s ↦ start_from_ahead g w heads s ]
]

pop_keeps : (g : Given) (w : World) (kept : SplitInFlight) (h : ℕ) → w.popped < 2 ^ 63 → Runs g w kept
    → Keeps g w (effect g.descriptors g.size w (Some kept) (Pop h))
unfolding Keeps
pop_keeps g w kept h few s = elim (cases_Bool (nat_lt h g.size && not (in_view h w.view))) [
  | inl may ↦
      let parts = and_parts (nat_lt h g.size) (not (in_view h w.view)) may in
      let out : is_among h s.heads ≡ false =
      sym (seen_in h w.view s.heads s.level.base.seen) ∙ not-true (in_view h w.view) parts.1 in
      rw may (pop_runs g w s.heads kept h s.level s.above s.count few (ltb-true h g.size parts.0) out)
  | inr isnt ↦ rw isnt tt
]

return_keeps : (g : Given) (w : World) (kept : SplitInFlight) (h : ℕ) → Runs g w kept
    → Keeps g w (effect g.descriptors g.size w (Some kept) (Return h))
unfolding Keeps
return_keeps g w kept h s = elim (cases_Bool (in_view h w.view)) [
  | inl may ↦
      let out : is_among h s.heads ≡ true = sym (seen_in h w.view s.heads s.level.base.seen) ∙ may in
      rw may (return_runs g w s.heads kept h s.level s.above s.count out)
  | inr isnt ↦ rw isnt tt
]

call_keeps : (g : Given) (w : World) (kept : Option SplitInFlight) (c : Call) → w.popped < 2 ^ 63 → Stands g w kept
    → Keeps g w (effect g.descriptors g.size w kept c)
unfolding Keeps Stands
call_keeps g w None (Pop h) few s = tt
call_keeps g w None (Return h) few s = tt
call_keeps g w None Start few s = start_keeps g w s
call_keeps g w (Some kept) (Pop h) few s = pop_keeps g w kept h few s
call_keeps g w (Some kept) (Return h) few s = return_keeps g w kept h s
call_keeps g w (Some kept) Start few s = tt

whole_stands : (g : Given) (w : World) (e : Option Effect) → Stands g w w.kept → Keeps g w e
    → Stands g (whole w e) (whole w e).kept
unfolding Keeps Stands
whole_stands g w None s k = s
whole_stands g w (Some e) s k = runs-kept g (all_done w e.deeds) (Some e.kept) e.kept k.1

cut_stands : (g : Given) (w : World) (n : ℕ) (e : Option Effect) → Stands g w w.kept → Keeps g w e
    → Stands g (cut w n e) (cut w n e).kept
unfolding Keeps Stands
cut_stands g w n None s k = s
cut_stands g w n (Some e) s k =
    sound-kept g (all_done w (take n e.deeds)) None (each_cut (Sound g) e.deeds w n k.0)

event_stands : (g : Given) (w : World) (e : Event) → w.popped < 2 ^ 63 → Stands g w w.kept
    → Stands g (happens g.descriptors g.size w e) (happens g.descriptors g.size w e).kept
event_stands g w (Whole c) few s =
    whole_stands g w (effect g.descriptors g.size w w.kept c) s (call_keeps g w w.kept c few s)
event_stands g w (Cut c n) few s =
    cut_stands g w n (effect g.descriptors g.size w w.kept c) s (call_keeps g w w.kept c few s)

-- ---- the number of pops grows

popped-stored : (s : SplitStore) (w : World) → w.popped ≤ (stored_too s w).popped
popped-stored (Counter h c) w = omega arith
popped-stored (InFlight h true) w = omega arith
popped-stored (InFlight h false) w = omega arith
popped-stored (Next h x) w = omega arith
popped-stored (LastBatchHead h) w = omega arith
popped-stored (UsedIdx u) w = omega arith
popped-stored (DescNum n) w = omega arith
popped-stored (Version v) w = omega arith

popped-done : (w : World) (d : Deed) → w.popped ≤ (done w d).popped
popped-done w (Region s) = popped-stored s (record w { region = put w.region s })
popped-done w (Entry h) = omega arith
popped-done w (UsedIndex u) = omega arith

popped-all_done : (ds : List Deed) (w : World) → w.popped ≤ (all_done w ds).popped
popped-all_done [] w = omega arith
popped-all_done (d ∷ ds) w =
    let first = popped-done w d in let rest = popped-all_done ds (done w d) in omega arith

popped-whole : (w : World) (e : Option Effect) → w.popped ≤ (whole w e).popped
popped-whole w None = omega arith
popped-whole w (Some e) = popped-all_done e.deeds w

popped-cut : (w : World) (n : ℕ) (e : Option Effect) → w.popped ≤ (cut w n e).popped
popped-cut w n None = omega arith
popped-cut w n (Some e) = popped-all_done (take n e.deeds) w

popped-happens : (descriptors size : ℕ) (w : World) (e : Event)
    → w.popped ≤ (happens descriptors size w e).popped
popped-happens descriptors size w (Whole c) = popped-whole w (effect descriptors size w w.kept c)
popped-happens descriptors size w (Cut c n) = popped-cut w n (effect descriptors size w w.kept c)

popped-run : (descriptors size : ℕ) (w : World) (es : List Event) → w.popped ≤ (run descriptors size w es).popped
popped-run descriptors size w [] = omega arith
popped-run descriptors size w (e ∷ es) =
    let first = popped-happens descriptors size w e in
    let rest = popped-run descriptors size (happens descriptors size w e) es in omega arith

run_stands : (g : Given) (es : List Event) (w : World) → (run g.descriptors g.size w es).popped < 2 ^ 63
    → Stands g w w.kept → Stands g (run g.descriptors g.size w es) (run g.descriptors g.size w es).kept
run_stands g [] w few s = s
run_stands g (e ∷ es) w few s =
    let first = popped-happens g.descriptors g.size w e in
    let rest = popped-run g.descriptors g.size (happens g.descriptors g.size w e) es in
    run_stands g es (happens g.descriptors g.size w e) few (event_stands g w e (omega arith) s)

-- ---- a start goes through

no_header_fault : (g : Given) (r : SplitRegion) (used : ℕ) → r.version ≡ 1 → r.desc_num ≡ g.descriptors
    → nat_lt g.size (difference used r.used_idx) ≡ false
    → list_any (λ head. nat_le g.size head) (returned r used) ≡ false
    → header_fault g.descriptors g.size r used ≡ None
no_header_fault g r used version desc_num few below =
    let tests : list_any (λ head. nat_le g.size head) (batch r.entries (difference used r.used_idx) r.last_batch_head)
    ≡ false = rw version at below in
    rw version (rw (desc_num, eq-eqb g.descriptors g.descriptors refl) (rw few (rw tests refl)))

no_entries_fault : (g : Given) (popped : ℕ) (es fs : List SplitEntry) (heads : List ℕ) → popped < 2 ^ 63
    → list_any (λ e. nat_lt 1 e.in_flight) es ≡ false → Holds g popped fs heads → entries_fault g.size es fs ≡ None
no_entries_fault g popped es fs heads few marks s =
    let inside : list_any (λ e. e.in_flight == 1) (drop g.size fs) ≡ false =
    drop_none (λ e. e.in_flight == 1) g.size fs (λ h l. elim (cases_Bool (is_in_flight fs h)) [
      | inl on ↦ absurd (let b = s.below h (s.each h ∙ on) in omega arith)
      | inr off ↦ off
    ]) in
    let counts : list_any (λ e. (e.in_flight == 1) && nat_le (2 ^ 63) e.counter) fs ≡ false =
    any_none (λ e. (e.in_flight == 1) && nat_le (2 ^ 63) e.counter) fs
    (λ h. elim (cases_Bool (is_in_flight fs h)) [
      | inl on ↦
          and_right (is_in_flight fs h) (nat_le (2 ^ 63) (counter_of fs h))
          (lt-leb (2 ^ 63) (counter_of fs h) (let c = s.counts h (s.each h ∙ on) in omega arith))
      | inr off ↦ and_left (is_in_flight fs h) (nat_le (2 ^ 63) (counter_of fs h)) off
    ]) in
    rw (marks, inside, counts) refl

goes_on : (g : Given) (w : World) (heads : List ℕ) → w.popped < 2 ^ 63
    → Base g w.view w.used w.region.entries w.popped heads
    → header_fault g.descriptors g.size w.region w.used ≡ None → Holds g w.popped (settled w.region w.used) heads
    → GoesOn g.descriptors g.size g.began w
goes_on g w heads few b header s = record {
  heads = heads;
  seen = b.seen;
  again = record { each = s.each; order = s.order };
  accepted = rw header (no_entries_fault g w.popped w.region.entries (settled w.region w.used) heads few b.marks s);
  next = b.next;
}

fresh_goes_on : (g : Given) (w : World) (heads : List ℕ) → w.popped < 2 ^ 63 → Fresh g w heads
    → GoesOn g.descriptors g.size g.began w
fresh_goes_on g w heads few s = goes_on g w heads few s.base (rw s.version refl) (fresh-holds g w heads s)

level_goes_on : (g : Given) (w : World) (heads : List ℕ) → w.popped < 2 ^ 63 → Level g w heads
    → GoesOn g.descriptors g.size g.began w
level_goes_on g w heads few s =
    let none : returned w.region w.used ≡ [] = rw (s.version, level-difference g w heads s) refl in
    goes_on g w heads few s.base
    (no_header_fault g w.region w.used s.version s.desc_num
    (rw (level-difference g w heads s) (le-ltb g.size 0 (omega arith)))
    (ap (λ (hs : List ℕ). list_any (λ head. nat_le g.size head) hs) none))
    (level-holds g w heads s)

ahead_goes_on : (g : Given) (w : World) (heads : List ℕ) → w.popped < 2 ^ 63 → Ahead g w heads
    → GoesOn g.descriptors g.size g.began w
ahead_goes_on g w heads few s =
    let below = s.head in
    let lone : list_any (λ head. nat_le g.size head) (w.region.last_batch_head ∷ []) ≡ false =
    or_from (nat_le g.size w.region.last_batch_head) false (lt-leb g.size w.region.last_batch_head below) refl in
    goes_on g w heads few s.base
    (no_header_fault g w.region w.used s.version s.desc_num
    (rw (ahead-difference g w heads s) (le-ltb g.size 1 (omega arith)))
    (ap (λ (hs : List ℕ). list_any (λ head. nat_le g.size head) hs) (ahead-returned g w heads s) ∙ lone))
    (ahead-holds g w heads s)

sound_goes_on : (g : Given) (w : World) → w.popped < 2 ^ 63 → Sound g w → GoesOn g.descriptors g.size g.began w
unfolding Sound
sound_goes_on g w few (heads, s) = elim s [
  | inl s ↦ fresh_goes_on g w heads few s
  | inr s ↦ elim s [ inl s ↦ level_goes_on g w heads few s | inr s ↦ ahead_goes_on g w heads few s ]
]

stands_goes_on : (g : Given) (w : World) (kept : Option SplitInFlight) → w.popped < 2 ^ 63 → Stands g w kept
    → GoesOn g.descriptors g.size g.began w
unfolding Stands
stands_goes_on g w None few s = sound_goes_on g w few s
stands_goes_on g w (Some kept) few s = level_goes_on g w s.heads few s.level

-- ---- how it begins

first_stands : (g : Given) (r : SplitRegion) → g.began < 2 ^ 16 → IsFresh g.descriptors r
    → Stands g (at_first r g.began) None
unfolding Stands
first_stands g r small fresh =
    let off : (h : ℕ) → (entry_of r.entries h).in_flight ≡ 0 = λ h. elim (cases_lt h (length r.entries)) [
      | inl l ↦ fresh.marks h (record { in_flight = 0; next = 0; counter = 0 }) l
      | inr l ↦
          ap (λ (e : SplitEntry). e.in_flight)
          (get_or_past r.entries h (record { in_flight = 0; next = 0; counter = 0 }) l)
    ] in
    from_fresh g (at_first r g.began) [] (record {
      base = record {
        seen = refl;
        ring = small;
        len = fresh.entries;
        marks = any_none (λ e. nat_lt 1 e.in_flight) r.entries (λ h. rw (off h) refl);
        below = λ h a. absurd (both_ways (is_among h []) refl a);
        counts = λ h a. absurd (both_ways (is_among h []) refl a);
        order = tt;
        next = refl;
      };
      version = fresh.version;
      none = refl;
      each = λ h. ap (λ (n : ℕ). n == 1) (off h);
    })

pub history_goes_on : (descriptors size used : ℕ) (r : SplitRegion) (events : List Event) → IsFresh descriptors r
    → size ≤ descriptors → descriptors < 2 ^ 16 → used < 2 ^ 16
    → (run descriptors size (at_first r used) events).popped < 2 ^ 63
    → GoesOn descriptors size used (run descriptors size (at_first r used) events)
unfolding Stands
history_goes_on descriptors size used r events fresh fits small ring few =
    let g : Given =
    record { descriptors = descriptors; size = size; began = used; fits = fits; small = small } in
    let w : World = run descriptors size (at_first r used) events in
    stands_goes_on g w w.kept few
    (run_stands g events (at_first r used) few (first_stands g r ring fresh))

pub flies_once : (r : SplitRegion) (used : ℕ) (xs ys : List ℕ) → Flies r used xs → Flies r used ys → xs ≡ ys
flies_once r used xs ys a b =
    rises_once (settled r used) xs ys (λ h. a.each h ∙ sym (b.each h)) a.order b.order
