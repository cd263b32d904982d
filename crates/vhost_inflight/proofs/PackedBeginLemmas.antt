-- A start of a packed queue, store by store, and where it goes on.
use Rattle.std.proofs.Common.{◌≡◌, ℕ, zero, suc, ◌+◌, ◌-◌, ◌^◌, ◌<◌, ◌≤◌, Bool, true, false, not, ◌&&◌, List, [], ◌∷◌, length, Option, Some, None, refl, sym, ap, subst, ◌∙◌, inl, inr, arith, length-set}
use Rattle.std.proofs.lemmas.List.{get_or_past}
use Rattle.std.proofs.lemmas.List.FromFn.{length-range_with_len}
use Rattle.std.proofs.lemmas.Bool.{cases_lt, cases_eq, eq-eqb, lt-leb, both_ways}
use Rattle.std.specs.Prelude.{map, nat_lt, ◌==◌}
use Rattle.std.specs.List.{list_any, range_with_len}
use Rattle.vhost_inflight.specs.Packed.{changed, entry_of, moved, no_entry}
use Rattle.vhost_inflight.specs.PackedCrash.{GoesOn, World, looked_at, position}
use Rattle.vhost_inflight.specs.PackedStart.{IsInFlight, chain_of, chains_fault, cleared, commits, entries_fault, free, free_fault, free_of, free_seen, header_fault, is_among, is_available, is_same, linked, or_else, or_none, place_of, settled, slots_of, taken_entries, taken_header, taken_place}
use Rattle.vhost_inflight.specs.declared.packed_region.PackedCopy.{PackedCopy}
use Rattle.vhost_inflight.specs.declared.packed_region.PackedEntry.{PackedEntry}
use Rattle.vhost_inflight.specs.declared.packed_region.PackedHeader.{PackedHeader}
use Rattle.vhost_inflight.specs.declared.packed_region.PackedPosition.{PackedPosition}
use Rattle.vhost_inflight.specs.declared.packed_error.PackedStartError.{PackedStartError}
use Rattle.vhost_inflight.specs.declared.packed_start.Place.{Place}
use Rattle.vhost_inflight.proofs.PackedEntryLemmas.{any-changed, other_entry, this_entry}
use Rattle.vhost_inflight.proofs.PackedChainLemmas.{Chain, Links, copies-heads, free_list-links, heads, slots, slots_of-heads, uses, uses_here, uses_more, uses_other}
use Rattle.vhost_inflight.proofs.PackedCoreLemmas.{Core, Given, core_cleared, in_flight, no_chains_fault, no_entries_fault}
use Rattle.vhost_inflight.proofs.PackedGuestLemmas.{Guest}
use Rattle.vhost_inflight.proofs.PackedRingLemmas.{available_here, position-moved, position_slot, same_apart, same_here}
use Rattle.vhost_inflight.proofs.PackedStartLemmas.{length-linked}
use Rattle.vhost_inflight.proofs.PackedStoreLemmas.{Ahead, Fresh, IsAhead, IsFresh, IsLevel, Level, Sound}

-- ---- a fresh region

range_below : (e a n : ℕ) → e < a → uses e (range_with_len a n) ≡ 0
range_below e a zero l = refl
range_below e a (suc n) l =
    uses_other e a (range_with_len (a + 1) n) (λ is. absurd (omega arith)) ∙ range_below e (a + 1) n (omega arith)

range_once : (e a n : ℕ) → uses e (range_with_len a n) ≤ 1
range_once e a zero = omega arith
range_once e a (suc n) = elim (cases_eq e a) [
  | inl is ↦
      let one : uses a (a ∷ range_with_len (a + 1) n) ≡ 1 + uses a (range_with_len (a + 1) n) =
      uses_here a (range_with_len (a + 1) n) in
      let none : uses a (range_with_len (a + 1) n) ≡ 0 = range_below a (a + 1) n (omega arith) in
      subst (λ (z : ℕ). uses z (a ∷ range_with_len (a + 1) n) ≤ 1) (sym is) (omega arith)
  | inr isnt ↦
      let same = uses_other e a (range_with_len (a + 1) n) isnt in
      let rest = range_once e (a + 1) n in omega arith
]

range_in : (e a n : ℕ) → 0 < uses e (range_with_len a n) → e < a + n
range_in e a zero u = absurd (omega arith)
range_in e a (suc n) u = elim (cases_eq e a) [
  | inl is ↦ omega arith
  | inr isnt ↦
      let same = uses_other e a (range_with_len (a + 1) n) isnt in
      let rest = range_in e (a + 1) n (omega arith) in omega arith
]

range_has : (e a n : ℕ) → a ≤ e → e < a + n → 0 < uses e (range_with_len a n)
range_has e a zero from to = absurd (omega arith)
range_has e a (suc n) from to = elim (cases_eq e a) [
  | inl is ↦
      let one : uses a (a ∷ range_with_len (a + 1) n) ≡ 1 + uses a (range_with_len (a + 1) n) =
      uses_here a (range_with_len (a + 1) n) in
      subst (λ (z : ℕ). 0 < uses z (a ∷ range_with_len (a + 1) n)) (sym is) (omega arith)
  | inr isnt ↦ uses_more e a (range_with_len (a + 1) n) (range_has e (a + 1) n (omega arith) (omega arith))
]

links_range : (es : List PackedEntry) (a n end : ℕ)
    → ((e : ℕ) → a ≤ e → e < a + n → (entry_of es e).next ≡ e + 1) → a + n ≡ end
    → Links es a (range_with_len a n) end
links_range es a zero end next is = omega arith
links_range es a (suc n) end next is = (
  refl,
  subst (λ (z : ℕ). Links es z (range_with_len (a + 1) n) end) (sym (next a (omega arith) (omega arith)))
      (links_range es (a + 1) n end (λ e from to. next e (omega arith) (omega arith)) (omega arith)),
)

linked_bits : (es : List PackedEntry) (i n : ℕ) → list_any (λ e. nat_lt 1 e.in_flight) es ≡ false
    → list_any (λ e. nat_lt 1 e.in_flight) (linked es i n) ≡ false
linked_bits es i zero none = none
linked_bits es i (suc n) none =
    linked_bits (changed es i (λ e. record e { next = i + 1 })) (i + 1) n
    (any-changed (λ e. nat_lt 1 e.in_flight) (λ e. record e { next = i + 1 }) (λ e off. off) es i none)

linked_before : (es : List PackedEntry) (i n e : ℕ) → e < i → entry_of (linked es i n) e ≡ entry_of es e
linked_before es i zero e l = refl
linked_before es i (suc n) e l =
    linked_before (changed es i (λ e. record e { next = i + 1 })) (i + 1) n e (omega arith)
    ∙ other_entry (λ e. record e { next = i + 1 }) es i e (λ is. absurd (omega arith))

linked_next : (es : List PackedEntry) (i n e : ℕ) → i ≤ e → e < i + n → e < length es
    → (entry_of (linked es i n) e).next ≡ e + 1
linked_next es i zero e from to l = absurd (omega arith)
linked_next es i (suc n) e from to l =
    let f : PackedEntry → PackedEntry = λ e. record e { next = i + 1 } in
    elim (cases_eq e i) [
      | inl is ↦
          ap (λ (y : PackedEntry). y.next) (linked_before (changed es i f) (i + 1) n e (omega arith))
          ∙ (ap (λ (z : ℕ). (entry_of (changed es i f) z).next) is
          ∙ (ap (λ (y : PackedEntry). y.next) (this_entry f es i (omega arith)) ∙ ap (λ (z : ℕ). z + 1) (sym is)))
      | inr isnt ↦
          linked_next (changed es i f) (i + 1) n e (omega arith) (omega arith)
          (rw (length-set es i (f (entry_of es i))) l)
    ]

pub core_fresh : (g : Given) (es : List PackedEntry) (popped : ℕ) → length es ≡ g.descriptors
    → list_any (λ e. nat_lt 1 e.in_flight) es ≡ false
    → Core g (linked es 0 g.descriptors) 0 popped (range_with_len 0 g.descriptors) []
core_fresh g es popped len bits =
    let d : ℕ = g.descriptors in
    let fs : List PackedEntry = linked es 0 d in
    let all : length fs ≡ d = length-linked es 0 d ∙ len in
    record {
      len = all;
      links = links_range fs 0 d d (λ e from to. linked_next es 0 d e from to (omega arith)) (omega arith);
      once = λ e. let o = range_once e 0 d in omega arith;
      inside = λ e u. let i = range_in e 0 d (omega arith) in omega arith;
      room = let l = length-range_with_len 0 d in omega arith;
      chains = tt;
      marks = λ e none. elim (cases_lt e d) [
        | inl l ↦ absurd (let u = range_has e 0 d (omega arith) (omega arith) in omega arith)
        | inr past ↦ ap (λ (y : PackedEntry). y.in_flight == 1) (get_or_past fs e no_entry (omega arith))
      ];
      bits = linked_bits es 0 d bits;
      order = tt;
      counts = λ e a. absurd (both_ways (is_among e []) refl a);
    }

-- ---- what a start finds

abbrev pub base_of : Given → PackedPosition
base_of g = position g.size g.began

pub record Settles (g : Given) (w : World) (free : List ℕ) (cs : List Chain) : Type 0 where
  pub free_is : free_of w.region (base_of g) (looked_at w) ≡ Some free
  pub core : Core g (taken_entries w.region) (taken_place w.region (base_of g) (looked_at w)).free_head w.popped free cs
  pub used : (taken_place w.region (base_of g) (looked_at w)).used ≡ position g.size w.used
  pub header : header_fault g.descriptors g.size w.region.header (base_of g) ≡ None
  pub guest : Guest g w.view w.published w.popped w.used w.flags cs

and_no : (a b : Bool) → b ≡ true → (a && not b) ≡ false
and_no true b on = rw on refl
and_no false b on = refl

place_old : (h : PackedHeader) (flags : ℕ) → commits h flags ≡ false
    → place_of h flags ≡ record { free_head = h.old_free_head; used = h.old_used }
place_old h flags stays = rw stays refl

place_new : (h : PackedHeader) (flags : ℕ) → commits h flags ≡ true
    → place_of h flags ≡ record { free_head = h.free_head; used = h.used }
place_new h flags goes = rw goes refl

header_ok : (g : Given) (h : PackedHeader) (base : PackedPosition) → h.version ≡ 1 → h.desc_num ≡ g.descriptors
    → h.used.slot < g.size → h.old_used.slot < g.size → header_fault g.descriptors g.size h base ≡ None
header_ok g h base version desc_num used old =
    rw version (rw (desc_num, eq-eqb g.descriptors g.descriptors refl)
    (rw (lt-leb g.size h.used.slot used, lt-leb g.size h.old_used.slot old) refl))

header_fresh : (g : Given) (h : PackedHeader) (base : PackedPosition) → h.version ≡ 0 → base.slot < g.size
    → header_fault g.descriptors g.size h base ≡ None
header_fresh g h base version inside =
    rw version (rw (lt-leb g.size base.slot inside) refl)

-- the old state
pub level_place : (g : Given) (w : World) (free : List ℕ) (cs : List Chain) → Level g w free cs
    → taken_place w.region (base_of g) (looked_at w)
    ≡ record { free_head = w.region.header.old_free_head; used = w.region.header.old_used }
level_place g w free cs s =
    let h : PackedHeader = w.region.header in
    let taken : taken_header h (base_of g) ≡ h = rw s.version refl in
    let stays : commits h (looked_at w) ≡ false = elim s.same [
      | inl same ↦ rw same refl
      | inr some ↦
          let l : w.used < w.published = let a = s.guest.sum in let b = s.guest.behind in omega arith in
          let there : is_available (w.flags (position g.size w.used).slot) (position g.size w.used).wrap ≡ true =
          rw (s.guest.available w.used (omega arith) l) (available_here (position g.size w.used).wrap) in
          let here : is_available (w.flags h.old_used.slot) h.old_used.wrap ≡ true =
          subst (λ (p : PackedPosition). is_available (w.flags p.slot) p.wrap ≡ true) (sym s.old) there in
          and_no (not (is_same h.used h.old_used)) (is_available (w.flags h.old_used.slot) h.old_used.wrap) here
    ] in
    ap (λ (x : PackedHeader). place_of x (looked_at w)) taken ∙ place_old h (looked_at w) stays

-- the new state
pub ahead_place : (g : Given) (w : World) (free : List ℕ) (cs : List Chain) → Ahead g w free cs
    → taken_place w.region (base_of g) (looked_at w)
    ≡ record { free_head = w.region.header.free_head; used = w.region.header.used }
ahead_place g w free cs s =
    let h : PackedHeader = w.region.header in
    let taken : taken_header h (base_of g) ≡ h = rw s.version refl in
    let e : s.before + (w.used - s.before) ≡ w.used = let l = s.behind in omega arith in
    let apart : is_same (position g.size w.used) (position g.size s.before) ≡ false =
    subst (λ (n : ℕ). is_same (position g.size n) (position g.size s.before) ≡ false) e
    (same_apart g.size s.before (w.used - s.before) (let l = s.behind in omega arith) (let l = s.near in omega arith)) in
    let differs : is_same h.used h.old_used ≡ false =
    subst (λ (p : PackedPosition). is_same p h.old_used ≡ false) (sym s.new)
    (subst (λ (p : PackedPosition). is_same (position g.size w.used) p ≡ false) (sym s.old) apart) in
    let gone : is_available (w.flags h.old_used.slot) h.old_used.wrap ≡ false =
    subst (λ (p : PackedPosition). is_available (w.flags p.slot) p.wrap ≡ false) (sym s.old) s.gone in
    let goes : commits h (looked_at w) ≡ true = rw (differs, gone) refl in
    ap (λ (x : PackedHeader). place_of x (looked_at w)) taken ∙ place_new h (looked_at w) goes

-- a start of what some entries and a place say
settles_at : (g : Given) (w : World) (free : List ℕ) (cs : List Chain) (es : List PackedEntry) (p : Place)
    → taken_entries w.region ≡ es → length w.region.entries ≡ g.descriptors
    → taken_place w.region (base_of g) (looked_at w) ≡ p → p.used ≡ position g.size w.used
    → header_fault g.descriptors g.size w.region.header (base_of g) ≡ None
    → Core g es p.free_head w.popped free cs → Guest g w.view w.published w.popped w.used w.flags cs
    → Settles g w free cs
settles_at g w free cs es p entries len place used header core guest =
    let core2 : Core g (taken_entries w.region) (taken_place w.region (base_of g) (looked_at w)).free_head w.popped free cs =
    subst (λ (zs : List PackedEntry). Core g zs (taken_place w.region (base_of g) (looked_at w)).free_head w.popped free cs)
    (sym entries)
    (subst (λ (q : Place). Core g es q.free_head w.popped free cs) (sym place) core) in
    record {
      free_is = free_list-links (taken_entries w.region) free (length w.region.entries)
          (taken_place w.region (base_of g) (looked_at w)).free_head (rw core2.len core2.links)
          (let r = core2.room in omega arith)
          (λ e u. let i = core2.inside e (omega arith) in let l = core2.len in omega arith);
      core = core2;
      used = ap (λ (q : Place). q.used) place ∙ used;
      header = header;
      guest = guest;
    }

pub level_settles : (g : Given) (w : World) (free : List ℕ) (cs : List Chain) → Level g w free cs → Settles g w free cs
level_settles g w free cs s =
    settles_at g w free cs w.region.entries
    (record { free_head = w.region.header.old_free_head; used = w.region.header.old_used })
    (rw s.version refl) s.core.len (level_place g w free cs s) s.old
    (header_ok g w.region.header (base_of g) s.version s.desc_num s.inside
    (rw s.old (position_slot g.size w.used g.some)))
    s.core s.guest

pub ahead_settles : (g : Given) (w : World) (free : List ℕ) (cs : List Chain) → Ahead g w free cs → Settles g w free cs
ahead_settles g w free cs s =
    settles_at g w free cs w.region.entries
    (record { free_head = w.region.header.free_head; used = w.region.header.used })
    (rw s.version refl) s.core.len (ahead_place g w free cs s) s.new
    (header_ok g w.region.header (base_of g) s.version s.desc_num
    (rw s.new (position_slot g.size w.used g.some)) (rw s.old (position_slot g.size s.before g.some)))
    s.core s.guest

pub fresh_place : (g : Given) (w : World) → Fresh g w
    → taken_place w.region (base_of g) (looked_at w) ≡ record { free_head = 0; used = base_of g }
fresh_place g w s = rw s.version (rw (same_here (base_of g)) refl)

pub fresh_settles : (g : Given) (w : World) → Fresh g w → Settles g w (range_with_len 0 g.descriptors) []
fresh_settles g w s =
    settles_at g w (range_with_len 0 g.descriptors) [] (linked w.region.entries 0 g.descriptors)
    (record { free_head = 0; used = base_of g })
    (rw s.version (ap (λ (n : ℕ). linked w.region.entries 0 n) s.len)) s.len (fresh_place g w s)
    (ap (λ (n : ℕ). position g.size n) (sym s.began))
    (header_fresh g w.region.header (base_of g) s.version (position_slot g.size g.began g.some))
    (core_fresh g w.region.entries w.popped s.len s.bits) s.guest

-- ---- where it goes on

pub settled_is : (g : Given) (w : World) (free : List ℕ) (cs : List Chain) → Settles g w free cs
    → settled w.region (base_of g) (looked_at w) ≡ cleared (taken_entries w.region) free
settled_is g w free cs s = ap (λ (o : Option (List ℕ)). cleared (taken_entries w.region) (or_none o)) s.free_is

pub free_is : (g : Given) (w : World) (xs : List ℕ) (cs : List Chain) → Settles g w xs cs
    → free w.region (base_of g) (looked_at w) ≡ xs
free_is g w xs cs s = ap (λ (o : Option (List ℕ)). or_none o) s.free_is

none_left : (a b c : Option PackedStartError) (o : Option (List ℕ)) (xs : List ℕ) → a ≡ None → o ≡ Some xs → b ≡ None
    → c ≡ None → or_else (or_else a (or_else (free_fault o) b)) c ≡ None
none_left a b c o xs first second third last = rw (first, second, third, last) refl

pub goes_on : (g : Given) (w : World) (free : List ℕ) (cs : List Chain) → w.popped < 2 ^ 63 → Settles g w free cs
    → GoesOn g.descriptors g.size g.began w
goes_on g w xs cs few s =
    let es : List PackedEntry = taken_entries w.region in
    let h : ℕ = (taken_place w.region (base_of g) (looked_at w)).free_head in
    let is : settled w.region (base_of g) (looked_at w) ≡ cleared es xs = settled_is g w xs cs s in
    let t = core_cleared g es h w.popped xs cs xs (λ e u. u) s.core in
    let room : slots cs ≤ g.size =
    let a = s.guest.sum in let b = s.guest.behind in let c = s.guest.within in omega arith in
    record {
      heads = heads cs;
      again = subst (λ (zs : List PackedEntry). IsInFlight zs (heads cs)) (sym is) (in_flight g es h w.popped xs cs s.core);
      accepted = none_left (header_fault g.descriptors g.size w.region.header (base_of g)) _
          (chains_fault (settled w.region (base_of g) (looked_at w))
          (free_seen g.descriptors (free w.region (base_of g) (looked_at w))) g.size (heads cs))
          (free_of w.region (base_of g) (looked_at w)) xs s.header s.free_is
          (ap (λ (zs : List PackedEntry). entries_fault es zs) is ∙ no_entries_fault g es h w.popped xs cs few s.core)
          (ap (λ (zs : List PackedEntry). chains_fault zs (free_seen g.descriptors (free w.region (base_of g) (looked_at w)))
          g.size (heads cs)) is
          ∙ (ap (λ (zs : List ℕ). chains_fault (cleared es xs) (free_seen g.descriptors zs) g.size (heads cs))
          (free_is g w xs cs s)
          ∙ no_chains_fault g es h w.popped g.size xs cs room s.core));
      seen = s.guest.seen ∙ ap (λ (zs : List (List PackedCopy)). Some zs)
          (sym (ap (λ (zs : List PackedEntry). map (chain_of zs) (heads cs)) is
          ∙ copies-heads (cleared es xs) cs t.chains));
      next =
          let n : slots_of (settled w.region (base_of g) (looked_at w)) (heads cs) ≡ slots cs =
          ap (λ (zs : List PackedEntry). slots_of zs (heads cs)) is ∙ slots_of-heads (cleared es xs) cs t.chains in
          let sum = s.guest.sum in
          ap (λ (p : PackedPosition). moved g.size p (slots_of (settled w.region (base_of g) (looked_at w)) (heads cs))) s.used
          ∙ (ap (λ (m : ℕ). moved g.size (position g.size w.used) m) n
          ∙ (position-moved g.size w.used (slots cs) g.some room ∙ ap (λ (m : ℕ). position g.size m) sum));
    }

pub level_goes_on : (g : Given) (w : World) (free : List ℕ) (cs : List Chain) → w.popped < 2 ^ 63 → Level g w free cs
    → GoesOn g.descriptors g.size g.began w
level_goes_on g w free cs few s = goes_on g w free cs few (level_settles g w free cs s)

pub sound_goes_on : (g : Given) (w : World) → w.popped < 2 ^ 63 → Sound g w → GoesOn g.descriptors g.size g.began w
sound_goes_on g w few (IsFresh s) = goes_on g w (range_with_len 0 g.descriptors) [] few (fresh_settles g w s)
sound_goes_on g w few (IsLevel free cs s) = level_goes_on g w free cs few s
sound_goes_on g w few (IsAhead free cs s) = goes_on g w free cs few (ahead_settles g w free cs s)
