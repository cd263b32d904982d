-- Heads that a start serves again, and starts that are cut off.
use Rattle.std.proofs.Common.{◌≡◌, ℕ, zero, suc, ◌^◌, ◌<◌, ◌≤◌, ◌⊎◌, Bool, true, false, List, [], ◌∷◌, ◌++◌, length, get_or, take, drop, None, refl, sym, ap, subst, ◌∙◌, inl, inr, arith}
use Rattle.std.proofs.lemmas.Bool.{both_ways, cases_Bool, cases_lt, eq-eqb, or_left, or_parts, or_right}
use Rattle.std.specs.Prelude.{◌==◌, All, map, nat_lt}
use Rattle.std.specs.List.{list_any}
use Rattle.vhost_inflight.specs.Split.{SplitRegion, changed, entry_of, is_in_flight, put}
use Rattle.vhost_inflight.specs.SplitStart.{Flies, IsInFlight, batch, cleared, difference, entries_fault, fault, header_fault, is_among, returned, settled, settled_fault, start_stores}
use Rattle.vhost_inflight.specs.SplitAgain.{Remains, all_put}
use Rattle.vhost_inflight.specs.declared.split.SplitStore.{SplitStore}
use Rattle.vhost_inflight.specs.declared.split.SplitStore.TheVariants.{InFlight, UsedIdx, DescNum, Version}
use Rattle.vhost_inflight.specs.declared.split_region.SplitEntry.{SplitEntry}
use Rattle.vhost_inflight.specs.declared.split_start.StartError.TheVariants as refused
use Rattle.vhost_inflight.proofs.EntryLemmas.{kept_field}
use Rattle.vhost_inflight.proofs.AgainLemmas.{any-cleared, first_none, second_none, start_settles, unless_none}

-- ---- heads of the ring

none_there : (p : SplitEntry → Bool) → p (record { in_flight = 0; next = 0; counter = 0 }) ≡ false
    → (es : List SplitEntry) (h : ℕ) → list_any p es ≡ false → p (entry_of es h) ≡ false
none_there p off [] h none = off
none_there p off (e ∷ es) zero none = (or_parts (p e) (list_any p es) none).0
none_there p off (e ∷ es) (suc h) none = none_there p off es h (or_parts (p e) (list_any p es) none).1

none_behind : (p : SplitEntry → Bool) → p (record { in_flight = 0; next = 0; counter = 0 }) ≡ false
    → (n : ℕ) (es : List SplitEntry) (h : ℕ) → list_any p (drop n es) ≡ false → n ≤ h → p (entry_of es h) ≡ false
none_behind p off zero es h none l = none_there p off es h none
none_behind p off (suc n) [] h none l = off
none_behind p off (suc n) (e ∷ es) zero none l = absurd (omega arith)
none_behind p off (suc n) (e ∷ es) (suc h) none l = none_behind p off n es h none (omega arith)

among-get_or : (xs : List ℕ) (i d : ℕ) → i < length xs → is_among (get_or xs i d) xs ≡ true
among-get_or [] i d l = absurd (omega arith)
among-get_or (x ∷ xs) zero d l = or_left (x == x) (is_among x xs) (eq-eqb x x refl)
among-get_or (x ∷ xs) (suc i) d l =
    or_right (x == get_or xs i d) (is_among (get_or xs i d) xs) (among-get_or xs i d (omega arith))

pub each_in_ring : (descriptors size used : ℕ) (r : SplitRegion) (heads : List ℕ)
    → fault descriptors size r used ≡ None → Flies r used heads → All (λ head. head < size) heads
each_in_ring descriptors size used r heads none flies i d l =
    let h : ℕ = get_or heads i d in
    let on : is_in_flight (settled r used) h ≡ true = sym (flies.each h) ∙ among-get_or heads i d l in
    let rest : entries_fault size r.entries (settled r used) ≡ None =
    second_none (header_fault descriptors size r used) (entries_fault size r.entries (settled r used)) none in
    let later : settled_fault size (settled r used) ≡ None =
    (unless_none (list_any (λ e. nat_lt 1 e.in_flight) r.entries) refused.Mark (settled_fault size (settled r used)) rest).1 in
    let behind = (unless_none (list_any (λ e. e.in_flight == 1) (drop size (settled r used))) refused.Head _ later).0 in
    elim (cases_lt h size) [
      | inl below ↦ below
      | inr past ↦
          absurd (both_ways (is_in_flight (settled r used) h)
          (none_behind (λ e. e.in_flight == 1) refl size (settled r used) h behind past) on)
    ]

-- ---- marks that are cleared more than once

off : SplitEntry → SplitEntry
off e = record e { in_flight = 0 }

twice-off : (es : List SplitEntry) (h : ℕ) → changed (changed es h off) h off ≡ changed es h off
unfolding off
twice-off [] h = refl
twice-off (e ∷ es) zero = refl
twice-off (e ∷ es) (suc h) = ap (λ (fs : List SplitEntry). e ∷ fs) (twice-off es h)

swap-off : (es : List SplitEntry) (a b : ℕ) → changed (changed es a off) b off ≡ changed (changed es b off) a off
unfolding off
swap-off [] a b = refl
swap-off (e ∷ es) zero zero = refl
swap-off (e ∷ es) zero (suc b) = refl
swap-off (e ∷ es) (suc a) zero = refl
swap-off (e ∷ es) (suc a) (suc b) = ap (λ (fs : List SplitEntry). e ∷ fs) (swap-off es a b)

changed-cleared : (hs : List ℕ) (es : List SplitEntry) (h : ℕ)
    → changed (cleared es hs) h off ≡ cleared (changed es h off) hs
unfolding off
changed-cleared [] es h = refl
changed-cleared (x ∷ hs) es h =
    changed-cleared hs (changed es x off) h
    ∙ ap (λ (fs : List SplitEntry). cleared fs hs) (swap-off es x h)

cleared_again : (hs : List ℕ) (n : ℕ) (es : List SplitEntry)
    → cleared (cleared es (take n hs)) hs ≡ cleared es hs
unfolding off
cleared_again hs zero es = refl
cleared_again [] (suc n) es = refl
cleared_again (h ∷ hs) (suc n) es =
    ap (λ (fs : List SplitEntry). cleared fs hs)
    (changed-cleared (take n hs) (changed es h off) h
    ∙ ap (λ (fs : List SplitEntry). cleared fs (take n hs)) (twice-off es h))
    ∙ cleared_again hs n (changed es h off)

next-cleared : (hs : List ℕ) (es : List SplitEntry) (k : ℕ)
    → (entry_of (cleared es hs) k).next ≡ (entry_of es k).next
next-cleared [] es k = refl
next-cleared (h ∷ hs) es k =
    next-cleared hs (changed es h (λ e. record e { in_flight = 0 })) k
    ∙ kept_field (λ e. e.next) (λ e. record e { in_flight = 0 }) (λ e. refl) es h k

batch-same : (es fs : List SplitEntry) → ((k : ℕ) → (entry_of fs k).next ≡ (entry_of es k).next)
    → (n h : ℕ) → batch fs n h ≡ batch es n h
batch-same es fs same zero h = refl
batch-same es fs same (suc n) h =
    ap (λ (hs : List ℕ). h ∷ hs) (ap (batch fs n) (same h) ∙ batch-same es fs same n (entry_of es h).next)

-- ---- a start that is cut off

same_remains : (descriptors size used : ℕ) (r new : SplitRegion) → fault descriptors size r used ≡ None
    → header_fault descriptors size new used ≡ None → settled new used ≡ settled r used
    → list_any (λ e. nat_lt 1 e.in_flight) new.entries ≡ false → Remains descriptors size used r new
same_remains descriptors size used r new none header same marks =
    let rest : entries_fault size r.entries (settled r used) ≡ None =
    second_none (header_fault descriptors size r used) (entries_fault size r.entries (settled r used)) none in
    let parts = unless_none (list_any (λ e. nat_lt 1 e.in_flight) r.entries) refused.Mark
    (settled_fault size (settled r used)) rest in
    let later : settled_fault size (settled new used) ≡ None =
    subst (λ (es : List SplitEntry). settled_fault size es ≡ None) (sym same) parts.1 in
    record {
      again = λ heads. (
        (λ f. subst (λ (es : List SplitEntry). IsInFlight es heads) (sym same) f),
        (λ f. subst (λ (es : List SplitEntry). IsInFlight es heads) same f),
      );
      accepted = rw header (rw marks later);
    }

marks_of : (descriptors size used : ℕ) (r : SplitRegion) → fault descriptors size r used ≡ None
    → list_any (λ e. nat_lt 1 e.in_flight) r.entries ≡ false
marks_of descriptors size used r none =
    (unless_none (list_any (λ e. nat_lt 1 e.in_flight) r.entries) refused.Mark (settled_fault size (settled r used))
    (second_none (header_fault descriptors size r used) (entries_fault size r.entries (settled r used)) none)).0

itself_remains : (descriptors size used : ℕ) (r : SplitRegion) → fault descriptors size r used ≡ None
    → Remains descriptors size used r r
itself_remains descriptors size used r none = record { again = λ heads. ((λ f. f), (λ f. f)); accepted = none }

fresh_remains : (descriptors size used : ℕ) (r new : SplitRegion) → fault descriptors size r used ≡ None
    → (r.version == 0) ≡ true → (new.version == 0) ≡ true → new.entries ≡ r.entries
    → Remains descriptors size used r new
fresh_remains descriptors size used r new none old fresh entries =
    same_remains descriptors size used r new none (rw fresh refl) (rw (fresh, old) entries)
    (rw entries (marks_of descriptors size used r none))

whole_remains : (descriptors size used : ℕ) (r : SplitRegion) → used < 2 ^ 16
    → fault descriptors size r used ≡ None
    → Remains descriptors size used r (all_put r (start_stores descriptors r used))
whole_remains descriptors size used r small none =
    let s = start_settles descriptors size used r small none in
    record { again = s.again; accepted = s.accepted }

fresh_cut : (descriptors size used : ℕ) (r : SplitRegion) (n : ℕ) → used < 2 ^ 16
    → fault descriptors size r used ≡ None → (r.version == 0) ≡ true
    → start_stores descriptors r used ≡ DescNum descriptors ∷ UsedIdx used ∷ Version 1 ∷ []
    → Remains descriptors size used r (all_put r (take n (DescNum descriptors ∷ UsedIdx used ∷ Version 1 ∷ [])))
fresh_cut descriptors size used r zero small none fresh stores = itself_remains descriptors size used r none
fresh_cut descriptors size used r (suc zero) small none fresh stores =
    fresh_remains descriptors size used r (record r { desc_num = descriptors }) none fresh fresh refl
fresh_cut descriptors size used r (suc (suc zero)) small none fresh stores =
    fresh_remains descriptors size used r (record r { desc_num = descriptors; used_idx = used }) none fresh fresh refl
fresh_cut descriptors size used r (suc (suc (suc n))) small none fresh stores =
    let rest : take n (let none : List SplitStore = [] in none) ≡ [] = take_nothing n in
    rw rest (subst (λ (ss : List SplitStore). Remains descriptors size used r (all_put r ss)) stores
    (whole_remains descriptors size used r small none))
  where
    take_nothing : (n : ℕ) → take n (let none : List SplitStore = [] in none) ≡ []
    take_nothing zero = refl
    take_nothing (suc n) = refl

-- some marks are cleared, or all stores are made
cut_put : (used : ℕ) (hs : List ℕ) (r : SplitRegion) (n : ℕ)
    → (all_put r (take n (map (λ h. InFlight h false) hs ++ UsedIdx used ∷ []))
    ≡ record r { entries = cleared r.entries (take n hs) })
    ⊎ (take n (map (λ h. InFlight h false) hs ++ UsedIdx used ∷ [])
    ≡ map (λ h. InFlight h false) hs ++ UsedIdx used ∷ [])
cut_put used hs r zero = inl refl
cut_put used [] r (suc zero) = inr refl
cut_put used [] r (suc (suc n)) = inr refl
cut_put used (h ∷ hs) r (suc n) = elim (cut_put used hs (put r (InFlight h false)) n) [
  | inl some ↦ inl some
  | inr all ↦ inr (ap (λ (ss : List SplitStore). InFlight h false ∷ ss) all)
]

some_cleared : (descriptors size used : ℕ) (r : SplitRegion) (hs : List ℕ) (n : ℕ)
    → fault descriptors size r used ≡ None → (r.version == 0) ≡ false → returned r used ≡ hs
    → Remains descriptors size used r (record r { entries = cleared r.entries (take n hs) })
some_cleared descriptors size used r hs n none written are =
    let fs : List SplitEntry = cleared r.entries (take n hs) in
    let new : SplitRegion = record r { entries = fs } in
    let before : batch r.entries (difference used r.used_idx) r.last_batch_head ≡ hs = rw written at are in
    let there : batch fs (difference used r.used_idx) r.last_batch_head
    ≡ batch r.entries (difference used r.used_idx) r.last_batch_head =
    batch-same r.entries fs (next-cleared (take n hs) r.entries) (difference used r.used_idx) r.last_batch_head in
    let same_heads : returned new used ≡ hs = rw written (there ∙ before) in
    let header : header_fault descriptors size new used ≡ header_fault descriptors size r used =
    rw (written, there) refl in
    let first : header_fault descriptors size r used ≡ None =
    first_none (header_fault descriptors size r used) (entries_fault size r.entries (settled r used)) none in
    same_remains descriptors size used r new none (header ∙ first)
    (ap (λ (heads : List ℕ). cleared fs heads) same_heads
    ∙ (cleared_again hs n r.entries ∙ ap (λ (heads : List ℕ). cleared r.entries heads) (sym are)))
    (any-cleared (λ e. nat_lt 1 e.in_flight) (λ e. refl) (take n hs) r.entries (marks_of descriptors size used r none))

nothing_put : (r : SplitRegion) (n : ℕ) → all_put r (take n (let none : List SplitStore = [] in none)) ≡ r
nothing_put r zero = refl
nothing_put r (suc n) = refl

pub cut_remains : (descriptors size used : ℕ) (r : SplitRegion) (n : ℕ) → used < 2 ^ 16
    → fault descriptors size r used ≡ None
    → Remains descriptors size used r (all_put r (take n (start_stores descriptors r used)))
cut_remains descriptors size used r n small none =
    let P : List SplitStore → Type 0 = λ ss. Remains descriptors size used r (all_put r (take n ss)) in
    elim (cases_Bool (r.version == 0)) [
      | inl fresh ↦
          let stores : start_stores descriptors r used ≡ DescNum descriptors ∷ UsedIdx used ∷ Version 1 ∷ [] =
          rw fresh refl in
          subst P (sym stores) (fresh_cut descriptors size used r n small none fresh stores)
      | inr written ↦ elim (cases_Bool (r.used_idx == used)) [
        | inl even ↦
            let stores : start_stores descriptors r used ≡ [] = rw (written, even) refl in
            subst P (sym stores)
            (subst (Remains descriptors size used r) (sym (nothing_put r n))
            (itself_remains descriptors size used r none))
        | inr behind ↦
            let stores : start_stores descriptors r used
            ≡ map (λ h. InFlight h false) (returned r used) ++ UsedIdx used ∷ [] = rw (written, behind) refl in
            subst P (sym stores) (elim (cut_put used (returned r used) r n) [
              | inl some ↦
                  subst (Remains descriptors size used r) (sym some) (some_cleared descriptors size used r (returned r used) n none written refl)
              | inr all ↦
                  rw all (subst (λ (ss : List SplitStore). Remains descriptors size used r (all_put r ss)) stores
                  (whole_remains descriptors size used r small none))
            ])
      ]
    ]
