-- What holds of a packed queue after every history.
use Rattle.std.proofs.Common.{ℕ, ◌+◌, ◌^◌, ◌<◌, ◌≤◌, Bool, not, ◌&&◌, List, [], ◌∷◌, length, Option, Some, None, refl, sym, subst, inl, inr, arith}
use Rattle.std.proofs.lemmas.Bool.{and_parts, cases_Bool, leb-true, ltb-true, not-true}
use Rattle.std.specs.Prelude.{nat_le, nat_lt, take, ◌==◌, if◌then◌else◌}
use Rattle.vhost_inflight.specs.Packed.{PackedKept, PackedRegion, is_in_flight}
use Rattle.vhost_inflight.specs.PackedCrash.{Call, Cut, Deed, Effect, Event, Flags, GoesOn, Id, IsFresh, Pop, Pops, Publish, Refused, Region, Return, Start, Whole, World, all_done, at_first, cut, done, effect, happens, id_of, in_view, is_next, position, publish, return_effect, run, whole}
use Rattle.vhost_inflight.specs.PackedStart.{available_flags, is_same}
use Rattle.vhost_inflight.specs.declared.packed_region.PackedCopy.{PackedCopy}
use Rattle.vhost_inflight.proofs.PackedChainLemmas.{Chain}
use Rattle.vhost_inflight.proofs.PackedCoreLemmas.{Given}
use Rattle.vhost_inflight.proofs.PackedGuestLemmas.{gone_publishes, guest_publishes}
use Rattle.vhost_inflight.proofs.PackedPopLemmas.{Runs, pop_runs}
use Rattle.vhost_inflight.proofs.PackedReturnLemmas.{return_runs}
use Rattle.vhost_inflight.proofs.PackedBeginLemmas.{level_goes_on, sound_goes_on}
use Rattle.vhost_inflight.proofs.PackedRestartLemmas.{start_runs}
use Rattle.vhost_inflight.proofs.PackedStoreLemmas.{Ahead, Each, Fresh, IsAhead, IsLevel, Level, Sound, each_cut}
use Rattle.vhost_inflight.proofs.PackedStoreLemmas.{IsFresh as from_fresh}

-- ---- the driver goes on

abbrev published : ℕ → World → World
published size w = record w {
  flags = λ s. if s == (position size w.published).slot then available_flags (position size w.published).wrap else w.flags s;
  published = w.published + 1;
}

fresh_published : (g : Given) (w : World) → w.published < w.used + g.size → Fresh g w → Fresh g (published g.size w)
fresh_published g w l s = record {
  version = s.version;
  len = s.len;
  bits = s.bits;
  guest = guest_publishes g w.view w.published w.popped w.used w.flags [] l s.guest;
  began = s.began;
}

level_published : (g : Given) (w : World) (free : List ℕ) (cs : List Chain) → w.published < w.used + g.size
    → Level g w free cs → Level g (published g.size w) free cs
level_published g w free cs l s = record {
  core = s.core;
  guest = guest_publishes g w.view w.published w.popped w.used w.flags cs l s.guest;
  version = s.version;
  desc_num = s.desc_num;
  old = s.old;
  inside = s.inside;
  same = s.same;
}

ahead_published : (g : Given) (w : World) (free : List ℕ) (cs : List Chain) → w.published < w.used + g.size
    → Ahead g w free cs → Ahead g (published g.size w) free cs
ahead_published g w free cs l s = record {
  core = s.core;
  guest = guest_publishes g w.view w.published w.popped w.used w.flags cs l s.guest;
  version = s.version;
  desc_num = s.desc_num;
  new = s.new;
  before = s.before;
  old = s.old;
  behind = s.behind;
  near = s.near;
  gone = gone_publishes g w.published w.used s.before w.flags
      (let a = s.guest.sum in let b = s.guest.behind in omega arith) l s.behind s.near s.gone;
}

sound_published : (g : Given) (w : World) → w.published < w.used + g.size → Sound g w → Sound g (published g.size w)
sound_published g w l (from_fresh s) = from_fresh (fresh_published g w l s)
sound_published g w l (IsLevel free cs s) = IsLevel free cs (level_published g w free cs l s)
sound_published g w l (IsAhead free cs s) = IsAhead free cs (ahead_published g w free cs l s)

runs_published : (g : Given) (w : World) (k : PackedKept) → w.published < w.used + g.size → Runs g w k
    → Runs g (published g.size w) k
runs_published g w k l s = record {
  free = s.free;
  cs = s.cs;
  level = level_published g w s.free s.cs l s.level;
  same = s.same;
  off = s.off;
  entries = s.entries;
  head = s.head;
  used = s.used;
  size = s.size;
  above = s.above;
  count = s.count;
}

-- ---- whatever becomes of the back end

level_kept : (g : Given) (w : World) (free : List ℕ) (cs : List Chain) (kept : Option PackedKept) → Level g w free cs
    → Level g (record w { kept = kept }) free cs
level_kept g w free cs kept s = record {
  core = s.core;
  guest = s.guest;
  version = s.version;
  desc_num = s.desc_num;
  old = s.old;
  inside = s.inside;
  same = s.same;
}

sound_kept : (g : Given) (w : World) (kept : Option PackedKept) → Sound g w → Sound g (record w { kept = kept })
sound_kept g w kept (from_fresh s) =
    from_fresh (record { version = s.version; len = s.len; bits = s.bits; guest = s.guest; began = s.began })
sound_kept g w kept (IsLevel free cs s) = IsLevel free cs (level_kept g w free cs kept s)
sound_kept g w kept (IsAhead free cs s) = IsAhead free cs (record {
  core = s.core;
  guest = s.guest;
  version = s.version;
  desc_num = s.desc_num;
  new = s.new;
  before = s.before;
  old = s.old;
  behind = s.behind;
  near = s.near;
  gone = s.gone;
})

runs_kept : (g : Given) (w : World) (new : Option PackedKept) (k : PackedKept) → Runs g w k
    → Runs g (record w { kept = new }) k
runs_kept g w new k s = record {
  free = s.free;
  cs = s.cs;
  level = level_kept g w s.free s.cs new s.level;
  same = s.same;
  off = s.off;
  entries = s.entries;
  head = s.head;
  used = s.used;
  size = s.size;
  above = s.above;
  count = s.count;
}

-- by whether the back end runs
abbrev Stands : Given → World → Option PackedKept → Type 0
Stands g w None = Sound g w
Stands g w (Some k) = Runs g w k

-- a call that is made keeps its promise at each store, and at its end
abbrev Keeps : Given → World → Option Effect → Type 0
Keeps g w None = Unit {0}
Keeps g w (Some e) = Each g w e.deeds × Runs g (all_done g.size w e.deeds) e.kept

pop_keeps : (g : Given) (w : World) (k : PackedKept) (ds : List PackedCopy) → w.popped < 2 ^ 63 → Runs g w k
    → Keeps g w (effect g.descriptors g.size g.began w (Some k) (Pop ds))
pop_keeps g w k ds few s = elim (cases_Bool (is_next w ds)) [
  | inl may ↦
      let some = and_parts (nat_lt 0 (length ds)) (nat_le (w.popped + length ds) w.published && not (in_view (id_of ds) w.view)) may in
      let more = and_parts (nat_le (w.popped + length ds) w.published) (not (in_view (id_of ds) w.view)) some.1 in
      rw may (pop_runs g w k ds few (ltb-true 0 (length ds) some.0)
      (leb-true (w.popped + length ds) w.published more.0) (not-true (in_view (id_of ds) w.view) more.1) s)
  | inr isnt ↦ rw isnt tt
]

return_keeps : (g : Given) (w : World) (k : PackedKept) (head : ℕ) → Runs g w k
    → Keeps g w (effect g.descriptors g.size g.began w (Some k) (Return head))
return_keeps g w k head s = let P : Bool → Type 0 = λ b. Keeps g w (if b then Some (return_effect k head) else None) in
    elim (cases_Bool (is_in_flight k.entries head)) [
      | inl may ↦ subst P (sym may) (return_runs g w k head may s)
      | inr isnt ↦ subst P (sym isnt) tt
    ]

call_keeps : (g : Given) (w : World) (kept : Option PackedKept) (c : Call) → w.popped < 2 ^ 63 → Stands g w kept
    → Keeps g w (effect g.descriptors g.size g.began w kept c)
call_keeps g w None (Pop ds) few s = tt
call_keeps g w None (Return head) few s = tt
call_keeps g w None Start few s = start_runs g w s
call_keeps g w (Some k) (Pop ds) few s = pop_keeps g w k ds few s
call_keeps g w (Some k) (Return head) few s = return_keeps g w k head s
call_keeps g w (Some k) Start few s = tt

whole_stands : (g : Given) (w : World) (e : Option Effect) → Stands g w w.kept → Keeps g w e
    → Stands g (whole g.size w e) (whole g.size w e).kept
whole_stands g w None s k = s
whole_stands g w (Some e) s k = runs_kept g (all_done g.size w e.deeds) (Some e.kept) e.kept k.1

cut_stands : (g : Given) (w : World) (n : ℕ) (e : Option Effect) → Stands g w w.kept → Keeps g w e
    → Stands g (cut g.size w n e) (cut g.size w n e).kept
cut_stands g w n None s k = s
cut_stands g w n (Some e) s k =
    sound_kept g (all_done g.size w (take n e.deeds)) None (each_cut g e.deeds w n k.0)

publish_kept : (g : Given) (w : World) (kept : Option PackedKept) → w.published < w.used + g.size → Stands g w kept
    → Stands g (published g.size w) kept
publish_kept g w None l s = sound_published g w l s
publish_kept g w (Some k) l s = runs_published g w k l s

publish_stands : (g : Given) (w : World) → Stands g w w.kept → Stands g (publish g.size w) (publish g.size w).kept
publish_stands g w s = elim (cases_Bool (nat_lt w.published (w.used + g.size))) [
  | inl may ↦ rw may (publish_kept g w w.kept (ltb-true w.published (w.used + g.size) may) s)
  | inr isnt ↦ rw isnt s
]

event_stands : (g : Given) (w : World) (e : Event) → w.popped < 2 ^ 63 → Stands g w w.kept
    → Stands g (happens g.descriptors g.size g.began w e) (happens g.descriptors g.size g.began w e).kept
event_stands g w Publish few s = publish_stands g w s
event_stands g w (Whole c) few s =
    whole_stands g w (effect g.descriptors g.size g.began w w.kept c) s (call_keeps g w w.kept c few s)
event_stands g w (Cut c n) few s =
    cut_stands g w n (effect g.descriptors g.size g.began w w.kept c) s (call_keeps g w w.kept c few s)

-- ---- the number of slots that were popped grows

popped-done : (size : ℕ) (w : World) (d : Deed) → w.popped ≤ (done size w d).popped
popped-done size w (Region s) = omega arith
popped-done size w (Pops ds s) = omega arith
popped-done size w (Id id) = omega arith
popped-done size w (Flags p) = elim (cases_Bool (is_same p (position size w.used))) [
  | inl is ↦ rw is (omega arith)
  | inr isnt ↦ rw isnt (omega arith)
]
popped-done size w Refused = omega arith

popped-all_done : (size : ℕ) (ds : List Deed) (w : World) → w.popped ≤ (all_done size w ds).popped
popped-all_done size [] w = omega arith
popped-all_done size (d ∷ ds) w =
    let first = popped-done size w d in let rest = popped-all_done size ds (done size w d) in omega arith

popped-whole : (size : ℕ) (w : World) (e : Option Effect) → w.popped ≤ (whole size w e).popped
popped-whole size w None = omega arith
popped-whole size w (Some e) = popped-all_done size e.deeds w

popped-cut : (size : ℕ) (w : World) (n : ℕ) (e : Option Effect) → w.popped ≤ (cut size w n e).popped
popped-cut size w n None = omega arith
popped-cut size w n (Some e) = popped-all_done size (take n e.deeds) w

popped-publish : (size : ℕ) (w : World) → w.popped ≤ (publish size w).popped
popped-publish size w = elim (cases_Bool (nat_lt w.published (w.used + size))) [
  | inl may ↦ rw may (omega arith)
  | inr isnt ↦ rw isnt (omega arith)
]

popped-happens : (descriptors size began : ℕ) (w : World) (e : Event)
    → w.popped ≤ (happens descriptors size began w e).popped
popped-happens descriptors size began w Publish = popped-publish size w
popped-happens descriptors size began w (Whole c) = popped-whole size w (effect descriptors size began w w.kept c)
popped-happens descriptors size began w (Cut c n) = popped-cut size w n (effect descriptors size began w w.kept c)

popped-run : (descriptors size began : ℕ) (w : World) (es : List Event)
    → w.popped ≤ (run descriptors size began w es).popped
popped-run descriptors size began w [] = omega arith
popped-run descriptors size began w (e ∷ es) =
    let first = popped-happens descriptors size began w e in
    let rest = popped-run descriptors size began (happens descriptors size began w e) es in omega arith

run_stands : (g : Given) (es : List Event) (w : World)
    → (run g.descriptors g.size g.began w es).popped < 2 ^ 63 → Stands g w w.kept
    → Stands g (run g.descriptors g.size g.began w es) (run g.descriptors g.size g.began w es).kept
run_stands g [] w few s = s
run_stands g (e ∷ es) w few s =
    let first = popped-happens g.descriptors g.size g.began w e in
    let rest = popped-run g.descriptors g.size g.began (happens g.descriptors g.size g.began w e) es in
    run_stands g es (happens g.descriptors g.size g.began w e) few (event_stands g w e (omega arith) s)

stands_goes_on : (g : Given) (w : World) (kept : Option PackedKept) → w.popped < 2 ^ 63 → Stands g w kept
    → GoesOn g.descriptors g.size g.began w
stands_goes_on g w None few s = sound_goes_on g w few s
stands_goes_on g w (Some k) few s = level_goes_on g w s.free s.cs few s.level

-- ---- how it begins

first_stands : (g : Given) (r : PackedRegion) (flags : ℕ → ℕ) → IsFresh g.descriptors r
    → Stands g (at_first r flags g.began) None
first_stands g r flags fresh = from_fresh (record {
  version = fresh.version;
  len = fresh.entries;
  bits = fresh.marks;
  guest = record {
    seen = refl;
    apart = tt;
    sum = omega arith;
    behind = omega arith;
    within = omega arith;
    available = λ q from to. absurd (omega arith);
  };
  began = refl;
})

pub history_goes_on : (descriptors size began : ℕ) (r : PackedRegion) (flags : ℕ → ℕ) (events : List Event)
    → IsFresh descriptors r → 0 < size → size ≤ descriptors → descriptors < 2 ^ 16
    → (run descriptors size began (at_first r flags began) events).popped < 2 ^ 63
    → GoesOn descriptors size began (run descriptors size began (at_first r flags began) events)
history_goes_on descriptors size began r flags events fresh some fits small few =
    let g : Given = record {
      descriptors = descriptors;
      size = size;
      began = began;
      some = some;
      fits = fits;
      small = small;
    } in
    let w : World = run descriptors size began (at_first r flags began) events in
    stands_goes_on g w w.kept few (run_stands g events (at_first r flags began) few (first_stands g r flags fresh))
