-- A return to a packed queue, store by store.
use Rattle.std.proofs.Common.{◌≡◌, ℕ, suc, ◌+◌, ◌<◌, ◌≤◌, true, false, List, [], ◌∷◌, ◌++◌, length, Option, Some, refl, sym, ap, subst, ◌∙◌, inl, inr, arith, length-set}
use Rattle.std.proofs.lemmas.Bool.{cases_lt, cases_eq, lt-ltb, both_ways}
use Rattle.std.specs.Prelude.{◌==◌, if◌then◌else◌}
use Rattle.vhost_inflight.specs.Packed.{PackedKept, changed, counter_of, entry_of, is_in_flight, moved, used_after}
use Rattle.vhost_inflight.specs.PackedCrash.{Deed, Flags, Id, Region, World, all_done, done, has_id, id_of, position, return_effect, returned_too, slots_in, used_flags, with_flags}
use Rattle.vhost_inflight.specs.PackedStart.{chain_of, is_among, is_available, is_same, last_of, num_of}
use Rattle.vhost_inflight.specs.declared.packed.PackedStore.TheVariants.{InFlight, Next, FreeHead, OldFreeHead, Used}
use Rattle.vhost_inflight.specs.declared.packed_region.PackedCopy.{PackedCopy}
use Rattle.vhost_inflight.specs.declared.packed_region.PackedEntry.{PackedEntry}
use Rattle.vhost_inflight.specs.declared.packed_region.PackedPosition.{PackedPosition}
use Rattle.vhost_inflight.proofs.PackedEntryLemmas.{kept_field, other_entry, this_entry}
use Rattle.vhost_inflight.proofs.PackedChainLemmas.{Chain, IsChain, chain_of-chain, chains-parts, copies, copies-append, find_chain, heads, length-copied, slots, uses, uses-append, uses_here, uses_last}
use Rattle.vhost_inflight.proofs.PackedCoreLemmas.{Core, Given, core_linked, core_returned, heads-left_out, heads-put_in, no_head, split_of}
use Rattle.vhost_inflight.proofs.PackedGuestLemmas.{Apart, Guest, found, guest_returned, has_id_here, marked_here}
use Rattle.vhost_inflight.proofs.PackedRingLemmas.{position-moved, position_slot, same_here, used_here}
use Rattle.vhost_inflight.proofs.PackedPopLemmas.{Runs}
use Rattle.vhost_inflight.proofs.PackedStoreLemmas.{Ahead, Each, IsAhead, IsLevel, Level, ahead_free, ahead_old_free_head, level_caught_up, level_entries, level_free_head, level_id, level_turned}

-- what a return stores, by its parts
abbrev stores_before : ℕ → ℕ → ℕ → PackedPosition → PackedPosition → ℕ → List Deed
stores_before last free head new old id =
    Region (Next last free) ∷ Region (FreeHead head) ∷ Region (Used new old) ∷ Id id ∷ []

abbrev stores_after : ℕ → PackedPosition → List Deed
stores_after head new = Region (InFlight head false) ∷ Region (OldFreeHead head) ∷ Region (Used new new) ∷ []

abbrev all_stores : ℕ → ℕ → ℕ → PackedPosition → PackedPosition → ℕ → List Deed
all_stores last free head new old id = Region (Next last free) ∷ Region (FreeHead head) ∷ Region (Used new old) ∷ Id id
    ∷ Flags old ∷ Region (InFlight head false) ∷ Region (OldFreeHead head) ∷ Region (Used new new) ∷ []

-- the entries then
abbrev returned : List PackedEntry → ℕ → ℕ → ℕ → List PackedEntry
returned es last free head =
    changed (changed es last (λ e. record e { next = free })) head (λ e. record e { in_flight = 0 })

-- the world once the guest sees the chain as returned
abbrev seen_by_guest : World → PackedPosition → ℕ → List (List PackedCopy) → World
seen_by_guest w p used chains = record (with_flags w p.slot (used_flags p.wrap)) { used = used; view = Some chains }

flags_done : (size : ℕ) (w : World) (p : PackedPosition) (used n : ℕ) (chains : List (List PackedCopy))
    → p ≡ position size w.used → slots_in w.id w.view ≡ n → returned_too w.id w.view ≡ Some chains
    → done size w (Flags p) ≡ seen_by_guest w p (w.used + n) chains
flags_done size w p used n chains here slots view =
    rw (sym here) (rw (same_here p)
    (ap (λ (m : ℕ). record (with_flags w p.slot (used_flags p.wrap)) {
      used = w.used + m;
      view = returned_too w.id w.view;
    }) slots
    ∙ ap (λ (v : Option (List (List PackedCopy))). record (with_flags w p.slot (used_flags p.wrap)) {
      used = w.used + n;
      view = v;
    }) view))

record Returned (g : Given) (w : World) (es : List PackedEntry) (free : List ℕ) (cs : List Chain) (head n popped : ℕ)
    : Type 0 where
  pub level : Level g w free cs
  pub entries : w.region.entries ≡ es
  pub head_is : w.region.header.old_free_head ≡ head
  pub new : w.region.header.used ≡ position g.size n
  pub old : w.region.header.old_used ≡ position g.size n
  pub used : w.used ≡ n
  pub still : w.popped ≡ popped

return_stores : (g : Given) (w : World) (free : List ℕ) (before : List Chain) (c : Chain) (after : List Chain)
    (head : ℕ) (p q : PackedPosition) (id : ℕ) → Level g w free (before ++ c ∷ after)
    → w.region.header.old_free_head ≡ head → p ≡ position g.size w.used
    → q ≡ position g.size (w.used + suc (length c.rest)) → id ≡ id_of c.copies
    → Each g w (all_stores (last_of c.head c.rest) head c.head q p id)
    × Returned g (all_done g.size w (all_stores (last_of c.head c.rest) head c.head q p id))
    (returned w.region.entries (last_of c.head c.rest) head c.head) ((c.head ∷ c.rest) ++ free) (before ++ after)
    c.head (w.used + suc (length c.rest)) w.popped
return_stores g w free before c after head p q id s0 at_head at_p at_q at_id =
    let cs : List Chain = before ++ c ∷ after in
    let left : List Chain = before ++ after in
    let es : List PackedEntry = w.region.entries in
    let n : ℕ = suc (length c.rest) in
    let last : ℕ = last_of c.head c.rest in
    let f : PackedEntry → PackedEntry = λ e. record e { next = head } in
    let freed : List ℕ = (c.head ∷ c.rest) ++ free in
    let split = split_of g es head w.popped free before c after in
    let is : IsChain es c = (chains-parts es before (c ∷ after) s0.core.chains).1.0 in
    let at_last : 0 < uses last (c.head ∷ c.rest) = uses_last c.head c.rest in
    let last_in : last < length es =
    let u = split.uses last in let i = s0.core.inside last (omega arith) in let l = s0.core.len in omega arith in
    let some : 0 < slots cs = let v = split.slots in omega arith in
    let few : n ≤ g.size =
    let v = split.slots in let a = s0.guest.sum in let b = s0.guest.behind in let d = s0.guest.within in omega arith in
    let v1 : World = done g.size w (Region (Next last head)) in
    let core1 : Core g (changed es last f) w.region.header.old_free_head w.popped free cs =
    core_linked g es w.region.header.old_free_head w.popped free before c after head s0.core in
    let s1 : Level g v1 free cs = level_entries g w free cs (changed es last f) core1 s0 in
    let v2 : World = done g.size v1 (Region (FreeHead c.head)) in
    let s2 : Level g v2 free cs = level_free_head g v1 free cs c.head s1 in
    let v3 : World = done g.size v2 (Region (Used q p)) in
    let s3 : Level g v3 free cs =
    level_turned g v2 free cs q p at_p
    (rw at_q (position_slot g.size (w.used + n) g.some)) some s2 in
    let v4 : World = done g.size v3 (Id id) in
    let s4 : Level g v4 free cs = level_id g v3 free cs id s3 in
    let names : copies cs ≡ copies before ++ c.copies ∷ copies after = copies-append before (c ∷ after) in
    let less : copies left ≡ copies before ++ copies after = copies-append before after in
    let apart : Apart (copies before ++ c.copies ∷ copies after) =
    subst (λ (xs : List (List PackedCopy)). Apart xs) names s0.guest.apart in
    let find = found (copies before) c.copies (copies after) apart in
    let view : w.view ≡ Some (copies before ++ c.copies ∷ copies after) =
    s0.guest.seen ∙ ap (λ (xs : List (List PackedCopy)). Some xs) names in
    let here : has_id (id_of c.copies) (copies before ++ c.copies ∷ copies after) ≡ true =
    has_id_here (copies before) c.copies (copies after) in
    let gone_view : returned_too id w.view ≡ Some (copies left) =
    ap (λ (i : ℕ). returned_too i w.view) at_id
    ∙ (ap (λ (v : Option (List (List PackedCopy))). returned_too (id_of c.copies) v) view
    ∙ (rw here (ap (λ (xs : List (List PackedCopy)). Some xs) (find.left ∙ sym less)))) in
    let its_slots : slots_in id w.view ≡ n =
    ap (λ (i : ℕ). slots_in i w.view) at_id
    ∙ (ap (λ (v : Option (List (List PackedCopy))). slots_in (id_of c.copies) v) view
    ∙ (find.slots ∙ length-copied es c is)) in
    let v5 : World = seen_by_guest v4 p (w.used + n) (copies left) in
    let turn : done g.size v4 (Flags p) ≡ v5 =
    flags_done g.size v4 p w.used n (copies left) at_p its_slots gone_view in
    let guest4 : Guest g (Some (copies cs)) w.published w.popped w.used w.flags cs =
    subst (λ (v : Option (List (List PackedCopy))). Guest g v w.published w.popped w.used w.flags cs)
    s0.guest.seen s0.guest in
    let guest5 : Guest g (Some (copies left)) w.published w.popped (w.used + n)
    (λ s. if s == (position g.size w.used).slot then used_flags p.wrap else w.flags s) left =
    guest_returned g w.published w.popped w.used n w.flags cs left (used_flags p.wrap) (omega arith) split.slots
    (rw less find.apart) guest4 in
    let next : (entry_of (changed es last f) last).next ≡ w.region.header.old_free_head =
    ap (λ (x : PackedEntry). x.next) (this_entry f es last last_in) ∙ sym at_head in
    let s5 : Ahead g v5 freed left = record {
      core = core_returned g (changed es last f) w.region.header.old_free_head w.popped free before c after next core1;
      guest = subst (λ (r : PackedPosition). Guest g (Some (copies left)) w.published w.popped (w.used + n)
          (λ s. if s == r.slot then used_flags p.wrap else w.flags s) left) (sym at_p) guest5;
      version = s0.version;
      desc_num = s0.desc_num;
      new = at_q;
      before = w.used;
      old = at_p;
      behind = omega arith;
      near = omega arith;
      gone = subst (λ (r : PackedPosition).
          is_available (if r.slot == p.slot then used_flags p.wrap else w.flags r.slot) r.wrap ≡ false) at_p
          (rw (marked_here w.flags p.slot (used_flags p.wrap)) (used_here p.wrap));
    } in
    let m : PackedEntry → PackedEntry = λ e. record e { in_flight = 0 } in
    let at_first : 0 < uses c.head freed =
    let a = uses-append c.head (c.head ∷ c.rest) free in let b = uses_here c.head c.rest in omega arith in
    let v6 : World = done g.size v5 (Region (InFlight c.head false)) in
    let s6 : Ahead g v6 freed left =
    ahead_free g v5 freed left c.head m (λ e. refl) (λ e none. refl) at_first s5 in
    let v7 : World = done g.size v6 (Region (OldFreeHead c.head)) in
    let s7 : Ahead g v7 freed left = ahead_old_free_head g v6 freed left c.head s6 in
    let v8 : World = done g.size v7 (Region (Used q q)) in
    let s8 : Level g v8 freed left = level_caught_up g v7 freed left q refl at_q s7 in
    let after_flags : Each g v5 (stores_after c.head q) =
    (IsAhead freed left s5, (IsAhead freed left s6, (IsAhead freed left s7, IsLevel freed left s8))) in
    let end : Returned g v8 (returned es last head c.head) freed left c.head (w.used + n) w.popped = record {
      level = s8;
      entries = refl;
      head_is = refl;
      new = at_q;
      old = at_q;
      used = refl;
      still = refl;
    } in (
      (
        IsLevel free cs s0,
        (
          IsLevel free cs s1,
          (
            IsLevel free cs s2,
            (
              IsLevel free cs s3,
              (
                IsLevel free cs s4,
                subst (λ (v : World). Each g v (stores_after c.head q)) (sym turn) after_flags,
              ),
            ),
          ),
        ),
      ),
      subst (λ (v : World). Returned g (all_done g.size v (stores_after c.head q)) (returned es last head c.head) freed left
          c.head (w.used + n) w.popped) (sym turn) end,
    )

-- ---- the whole

return_one : (g : Given) (w : World) (k : PackedKept) (free : List ℕ) (before : List Chain) (c : Chain)
    (after : List Chain) → Level g w free (before ++ c ∷ after)
    → ((e : ℕ) → 0 < uses e free → is_in_flight w.region.entries e ≡ false)
    → k.entries ≡ w.region.entries → k.free_head ≡ w.region.header.old_free_head
    → k.used ≡ position g.size w.used → k.size ≡ g.size
    → ((e : ℕ) → is_among e (heads (before ++ c ∷ after)) ≡ true → counter_of w.region.entries e ≤ k.count)
    → k.count ≤ w.popped → is_in_flight k.entries c.head ≡ true
    → Each g w (return_effect k c.head).deeds
    × Runs g (all_done g.size w (return_effect k c.head).deeds) (return_effect k c.head).kept
return_one g w k free before c after s off entries at_head used size above count on =
    let cs : List Chain = before ++ c ∷ after in
    let left : List Chain = before ++ after in
    let es : List PackedEntry = w.region.entries in
    let n : ℕ = suc (length c.rest) in
    let last : ℕ = last_of c.head c.rest in
    let freed : List ℕ = (c.head ∷ c.rest) ++ free in
    let split = split_of g es k.free_head w.popped free before c after in
    let is : IsChain es c = (chains-parts es before (c ∷ after) s.core.chains).1.0 in
    let few : n ≤ g.size =
    let v = split.slots in let a = s.guest.sum in let b = s.guest.behind in let d = s.guest.within in omega arith in
    let len : length k.entries ≡ g.descriptors = ap length entries ∙ s.core.len in
    let first : 0 < uses c.head (c.head ∷ c.rest) = let one = uses_here c.head c.rest in omega arith in
    let head_in : c.head < length k.entries =
    let u = split.uses c.head in let i = s.core.inside c.head (omega arith) in omega arith in
    let at_last : (entry_of k.entries c.head).last ≡ last =
    ap (λ (zs : List PackedEntry). (entry_of zs c.head).last) entries ∙ is.last in
    let last_used : 0 < uses last (c.head ∷ c.rest) = uses_last c.head c.rest in
    let last_in : (entry_of k.entries c.head).last < length k.entries =
    let u = split.uses last in let i = s.core.inside last (omega arith) in omega arith in
    let number : num_of k.entries c.head ≡ n = ap (λ (zs : List PackedEntry). num_of zs c.head) entries ∙ is.num in
    let new : used_after k c.head ≡ position g.size (w.used + n) =
    ap (λ (z : ℕ). moved z k.used (num_of k.entries c.head)) size
    ∙ (ap (λ (p : PackedPosition). moved g.size p (num_of k.entries c.head)) used
    ∙ (ap (λ (z : ℕ). moved g.size (position g.size w.used) z) number
    ∙ position-moved g.size w.used n g.some few)) in
    let id : id_of (chain_of k.entries c.head) ≡ id_of c.copies =
    ap (λ (ds : List PackedCopy). id_of ds)
    (ap (λ (zs : List PackedEntry). chain_of zs c.head) entries ∙ chain_of-chain es c is) in
    let does = return_stores g w free before c after k.free_head k.used (used_after k c.head)
    (id_of (chain_of k.entries c.head)) s (sym at_head) used new id in
    let ds : List Deed = all_stores last k.free_head c.head (used_after k c.head) k.used (id_of (chain_of k.entries c.head)) in
    let end = does.1 in
    let v : World = all_done g.size w ds in
    let same_entries : returned k.entries (entry_of k.entries c.head).last k.free_head c.head
    ≡ v.region.entries =
    ap (λ (z : ℕ). returned k.entries z k.free_head c.head) at_last
    ∙ (ap (λ (zs : List PackedEntry). returned zs last k.free_head c.head) entries ∙ sym end.entries) in
    let f : PackedEntry → PackedEntry = λ e. record e { next = k.free_head } in
    let m : PackedEntry → PackedEntry = λ e. record e { in_flight = 0 } in
    let es1 : List PackedEntry = changed es last f in
    let counter : (e : ℕ) → counter_of v.region.entries e ≡ counter_of es e =
    λ e. ap (λ (zs : List PackedEntry). counter_of zs e) end.entries
    ∙ (kept_field (λ y. y.counter) m (λ y. refl) es1 c.head e ∙ kept_field (λ y. y.counter) f (λ y. refl) es last e) in
    let runs : Runs g v (record k {
      entries = returned k.entries (entry_of k.entries c.head).last k.free_head c.head;
      free_head = c.head;
      used = used_after k c.head;
    }) = record {
      free = freed;
      cs = left;
      level = end.level;
      same = ap (λ (p : PackedPosition). is_same p v.region.header.old_used) end.new
          ∙ (ap (λ (p : PackedPosition). is_same (position g.size (w.used + n)) p) end.old
          ∙ same_here (position g.size (w.used + n)));
      off = λ e u. ap (λ (zs : List PackedEntry). is_in_flight zs e) end.entries ∙ elim (cases_eq e c.head) [
        | inl here ↦
            ap (λ (z : ℕ). is_in_flight (changed es1 c.head m) z) here
            ∙ ap (λ (y : PackedEntry). y.in_flight == 1) (this_entry m es1 c.head
            (rw (length-set es last (f (entry_of es last))) (let l = s.core.len in omega arith)))
        | inr isnt ↦
            ap (λ (y : PackedEntry). y.in_flight == 1) (other_entry m es1 c.head e isnt)
            ∙ (kept_field (λ y. y.in_flight == 1) f (λ y. refl) es last e ∙ elim (cases_lt 0 (uses e free)) [
              | inl was ↦ off e was
              | inr wasnt ↦
                  s.core.marks e (omega arith)
                  ∙ (heads-left_out e before c after isnt
                  ∙ no_head e left (let o = end.level.core.once e in omega arith))
            ])
      ];
      entries = same_entries;
      head = sym end.head_is;
      used = new ∙ ap (λ (z : ℕ). position g.size z) (sym end.used);
      size = size;
      above = λ e a. rw (counter e) (above e (heads-put_in e before c after a));
      count = rw end.still count;
    } in
    let P : ℕ → Type 0 = λ z. Each g w (all_stores z k.free_head c.head (used_after k c.head) k.used
    (id_of (chain_of k.entries c.head))) × Runs g (all_done g.size w (all_stores z k.free_head c.head
    (used_after k c.head) k.used (id_of (chain_of k.entries c.head)))) (record k {
      entries = returned k.entries (entry_of k.entries c.head).last k.free_head c.head;
      free_head = c.head;
      used = used_after k c.head;
    }) in
    rw (lt-ltb c.head (length k.entries) head_in, on, lt-ltb (entry_of k.entries c.head).last (length k.entries) last_in)
    (subst P (sym at_last) (does.0, runs))

pub return_runs : (g : Given) (w : World) (k : PackedKept) (head : ℕ) → is_in_flight k.entries head ≡ true → Runs g w k
    → Each g w (return_effect k head).deeds
    × Runs g (all_done g.size w (return_effect k head).deeds) (return_effect k head).kept
return_runs g w k head on s =
    let marked : is_in_flight w.region.entries head ≡ true =
    ap (λ (zs : List PackedEntry). is_in_flight zs head) (sym s.entries) ∙ on in
    let unused : uses head s.free ≡ 0 = elim (cases_lt 0 (uses head s.free)) [
      | inl some ↦ absurd (both_ways (is_in_flight w.region.entries head) (s.off head some) marked)
      | inr none ↦ omega arith
    ] in
    let among : is_among head (heads s.cs) ≡ true = sym (s.level.core.marks head unused) ∙ marked in
    let found = find_chain head s.cs among in
    let cs : List Chain = found.before ++ found.chain ∷ found.after in
    let P : ℕ → Type 0 = λ z. Each g w (return_effect k z).deeds
    × Runs g (all_done g.size w (return_effect k z).deeds) (return_effect k z).kept in
    subst P found.head
    (return_one g w k s.free found.before found.chain found.after
    (subst (λ (zs : List Chain). Level g w s.free zs) found.whole s.level) s.off s.entries s.head s.used s.size
    (subst (λ (zs : List Chain). (e : ℕ) → is_among e (heads zs) ≡ true → counter_of w.region.entries e ≤ k.count)
    found.whole s.above)
    s.count (ap (λ (z : ℕ). is_in_flight k.entries z) found.head ∙ on))
