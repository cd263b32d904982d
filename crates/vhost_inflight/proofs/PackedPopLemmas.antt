-- A pop from a packed queue, store by store.
use Rattle.std.proofs.Common.{◌≡◌, ℕ, zero, suc, ◌+◌, ◌^◌, ◌<◌, ◌≤◌, true, false, List, [], ◌∷◌, ◌++◌, length, Option, Some, refl, sym, ap, subst, ◌∙◌, inl, inr, arith, length-append, length-set}
use Rattle.std.proofs.lemmas.List.{append-nil, append_assoc}
use Rattle.std.proofs.lemmas.Bool.{eqb-true, lt-ltb, or_cases}
use Rattle.std.specs.Prelude.{map, nat_lt, ◌==◌}
use Rattle.vhost_inflight.specs.Packed.{PackedKept, add_stores, after_end_pop, begin_pop_stores, changed, copy_of, counter_of, entry_of, is_in_flight, next_count, next_num}
use Rattle.vhost_inflight.specs.PackedCrash.{Pops, Region, World, add_deeds, after_adds, all_done, done, end_deeds, has_id, id_of, in_view, pop_effect, position}
use Rattle.vhost_inflight.specs.PackedStart.{copies_of, is_among, is_same, last_of, num_of}
use Rattle.vhost_inflight.specs.declared.packed.PackedStore.TheVariants.{Num, Counter, InFlight, Last, Buffer, Addr, FreeHead, OldFreeHead}
use Rattle.vhost_inflight.specs.declared.packed_region.PackedCopy.{PackedCopy}
use Rattle.vhost_inflight.specs.declared.packed_region.PackedEntry.{PackedEntry}
use Rattle.vhost_inflight.proofs.PackedEntryLemmas.{among-append, kept_field, other_entry, this_entry}
use Rattle.vhost_inflight.proofs.PackedChainLemmas.{Chain, Links, Path, copies, copies-append, copies-same, heads, heads-append, heads_used, last_of-push, links-path, links-push, links-same, slots-append, uses, uses-append, uses_here}
use Rattle.vhost_inflight.proofs.PackedCoreLemmas.{Core, Given, core_popped}
use Rattle.vhost_inflight.proofs.PackedGuestLemmas.{Guest, apart_push}
use Rattle.vhost_inflight.proofs.PackedStoreLemmas.{Each, IsLevel, Level, all_done-append, each-append, level_free, level_free_head}

pub changed-twice : (f h : PackedEntry → PackedEntry) (es : List PackedEntry) (i : ℕ) → i < length es
    → changed (changed es i f) i h ≡ changed es i (λ e. h (f e))
changed-twice f h [] i l = absurd (omega arith)
changed-twice f h (e ∷ es) zero l = refl
changed-twice f h (e ∷ es) (suc i) l = ap (λ (xs : List PackedEntry). e ∷ xs) (changed-twice f h es i (omega arith))

-- a back end runs, and is in no call
pub record Runs (g : Given) (w : World) (k : PackedKept) : Type 0 where
  pub free : List ℕ
  pub cs : List Chain
  pub level : Level g w free cs
  pub same : is_same w.region.header.used w.region.header.old_used ≡ true
  pub off : (e : ℕ) → 0 < uses e free → is_in_flight w.region.entries e ≡ false
  pub entries : k.entries ≡ w.region.entries
  pub head : k.free_head ≡ w.region.header.old_free_head
  pub used : k.used ≡ position g.size w.used
  pub size : k.size ≡ g.size
  pub above : (e : ℕ) → is_among e (heads cs) ≡ true → counter_of w.region.entries e ≤ k.count
  pub count : k.count ≤ w.popped

-- ---- what the back end keeps meanwhile: the chain has these entries and descriptors so far, and these are left

pub record Adding (g : Given) (k : PackedKept) (count : ℕ) (free : List ℕ) (cs : List Chain) (ds : List PackedCopy)
    (xs rest : List ℕ) : Type 0 where
  pub whole : free ≡ xs ++ rest
  pub first : Links k.entries k.free_head xs k.next_free
  pub later : Links k.entries k.next_free rest g.descriptors
  pub num : num_of k.entries k.free_head ≡ length xs
  pub last : 0 < length xs → (entry_of k.entries k.free_head).last ≡ last_of k.free_head xs
  pub copied : copies_of k.entries xs ≡ ds
  pub off : (e : ℕ) → 0 < uses e free → is_in_flight k.entries e ≡ false
  pub counter : counter_of k.entries k.free_head ≡ count
  pub above : (e : ℕ) → is_among e (heads cs) ≡ true → counter_of k.entries e < count
  pub at_head : 0 < uses k.free_head free
  pub inside : (e : ℕ) → 0 < uses e free → e < length k.entries
  pub once : (e : ℕ) → uses e free ≤ 1
  pub apart : (e : ℕ) → is_among e (heads cs) ≡ true → uses e free ≡ 0
  pub few : length free < 2 ^ 16
  pub kept : k.count ≡ count

-- what `after_begin_pop` and `after_add` are where an entry is free
abbrev begun : PackedKept → PackedKept
begun k = record k {
  entries = changed k.entries k.free_head (λ e. record e { num = 0; counter = next_count k });
  next_free = k.free_head;
  count = next_count k;
}

abbrev added : PackedKept → PackedCopy → PackedKept
added k d = record k {
  entries = changed (changed k.entries k.free_head (λ e. record e { num = next_num k; last = k.next_free })) k.next_free
      (λ e. record e { id = d.id; flags = d.flags; len = d.len; addr = d.addr });
  next_free = (entry_of k.entries k.next_free).next;
}

adding_begun : (g : Given) (k : PackedKept) (free : List ℕ) (cs : List Chain)
    → Links k.entries k.free_head free g.descriptors → ((e : ℕ) → 0 < uses e free → is_in_flight k.entries e ≡ false)
    → ((e : ℕ) → is_among e (heads cs) ≡ true → counter_of k.entries e < next_count k) → 0 < uses k.free_head free
    → ((e : ℕ) → 0 < uses e free → e < length k.entries) → ((e : ℕ) → uses e free ≤ 1)
    → ((e : ℕ) → is_among e (heads cs) ≡ true → uses e free ≡ 0) → length free < 2 ^ 16
    → Adding g (begun k) (next_count k) free cs [] [] free
adding_begun g k free cs links off above at_head inside once apart few =
    let f : PackedEntry → PackedEntry = λ e. record e { num = 0; counter = next_count k } in
    let es : List PackedEntry = k.entries in
    let h : ℕ = k.free_head in
    let l : h < length es = inside h at_head in
    record {
      whole = refl;
      first = refl;
      later = links-same es (changed es h f) h free g.descriptors
          (λ e u. kept_field (λ x. x.next) f (λ x. refl) es h e) links;
      num = ap (λ (x : PackedEntry). x.num) (this_entry f es h l);
      last = λ some. absurd (omega arith);
      copied = refl;
      off = λ e u. kept_field (λ x. x.in_flight == 1) f (λ x. refl) es h e ∙ off e u;
      counter = ap (λ (x : PackedEntry). x.counter) (this_entry f es h l);
      above = λ e a.
          let ne : e ≡ h → ⊥ = λ is. let none : uses h free ≡ 0 = rw is at (apart e a) in absurd (omega arith) in
          rw (ap (λ (x : PackedEntry). x.counter) (other_entry f es h e ne)) (above e a);
      at_head = at_head;
      inside = λ e u. rw (length-set es h (f (entry_of es h))) (inside e u);
      once = once;
      apart = apart;
      few = few;
      kept = refl;
    }

copies-push : (es : List PackedEntry) (xs : List ℕ) (x : ℕ)
    → copies_of es (xs ++ x ∷ []) ≡ copies_of es xs ++ copy_of (entry_of es x) ∷ []
copies-push es [] x = refl
copies-push es (y ∷ ys) x =
    ap (λ (ds : List PackedCopy). copy_of (entry_of es y) ∷ ds) (copies-push es ys x)

adding_added : (g : Given) (k : PackedKept) (count : ℕ) (free : List ℕ) (cs : List Chain) (ds : List PackedCopy)
    (d : PackedCopy) (xs : List ℕ) (x : ℕ) (rest : List ℕ) → Adding g k count free cs ds xs (x ∷ rest)
    → Adding g (added k d) count free cs (ds ++ d ∷ []) (xs ++ x ∷ []) rest
adding_added g k count free cs ds d xs x rest s =
    let es : List PackedEntry = k.entries in
    let h : ℕ = k.free_head in
    let nf : ℕ = k.next_free in
    let f : PackedEntry → PackedEntry = λ e. record e { num = next_num k; last = nf } in
    let b : PackedEntry → PackedEntry =
    λ e. record e { id = d.id; flags = d.flags; len = d.len; addr = d.addr } in
    let es1 : List PackedEntry = changed es h f in
    let es2 : List PackedEntry = changed es1 nf b in
    let here : nf ≡ x = s.later.0 in
    let parts : (e : ℕ) → uses e free ≡ uses e xs + uses e (x ∷ rest) =
    λ e. ap (λ (ys : List ℕ). uses e ys) s.whole ∙ uses-append e xs (x ∷ rest) in
    let one : uses x (x ∷ rest) ≡ 1 + uses x rest = uses_here x rest in
    let is_free : 0 < uses nf free = rw here (let p = parts x in omega arith) in
    let l : h < length es = s.inside h s.at_head in
    let l1 : nf < length es1 = rw (length-set es h (f (entry_of es h))) (s.inside nf is_free) in
    let next : (e : ℕ) → (entry_of es2 e).next ≡ (entry_of es e).next =
    λ e. kept_field (λ y. y.next) b (λ y. refl) es1 nf e ∙ kept_field (λ y. y.next) f (λ y. refl) es h e in
    let new_last : (entry_of es2 h).last ≡ nf =
    kept_field (λ y. y.last) b (λ y. refl) es1 nf h ∙ ap (λ (y : PackedEntry). y.last) (this_entry f es h l) in
    let new_num : num_of es2 h ≡ next_num k =
    kept_field (λ y. y.num) b (λ y. refl) es1 nf h ∙ ap (λ (y : PackedEntry). y.num) (this_entry f es h l) in
    let size : length free ≡ length xs + length (x ∷ rest) =
    ap length s.whole ∙ length-append xs (x ∷ rest) in
    let counter : (e : ℕ) → counter_of es2 e ≡ counter_of es e =
    λ e. kept_field (λ y. y.counter) b (λ y. refl) es1 nf e ∙ kept_field (λ y. y.counter) f (λ y. refl) es h e in
    let old_copies : copies_of es2 xs ≡ copies_of es xs =
    copies-same es es2 xs (λ e u.
    let ne : e ≡ nf → ⊥ = λ is.
    let v : 0 < uses x xs = rw (is ∙ here) at u in let p = parts x in let o = s.once x in absurd (omega arith) in
    ap (λ (y : PackedEntry). copy_of y) (other_entry b es1 nf e ne)
    ∙ kept_field (λ y. copy_of y) f (λ y. refl) es h e) in
    let new_copy : copy_of (entry_of es2 x) ≡ d =
    ap (λ (e : ℕ). copy_of (entry_of es2 e)) (sym here)
    ∙ ap (λ (y : PackedEntry). copy_of y) (this_entry b es1 nf l1) in
    record {
      whole = s.whole ∙ sym (append_assoc xs (x ∷ []) rest);
      first = links-push es2 h xs x (entry_of es nf).next
          (links-same es es2 h xs x (λ e u. next e) (subst (λ (m : ℕ). Links es h xs m) here s.first))
          (next x ∙ ap (λ (e : ℕ). (entry_of es e).next) (sym here));
      later = links-same es es2 (entry_of es nf).next rest g.descriptors (λ e u. next e)
          (subst (λ (m : ℕ). Links es (entry_of es m).next rest g.descriptors) (sym here) s.later.1);
      num = new_num ∙ (let n = s.num in let m = length-append xs (x ∷ []) in let few = s.few in omega arith);
      last = λ some. new_last ∙ (here ∙ sym (last_of-push h x xs));
      copied = copies-push es2 xs x ∙ (let a = old_copies ∙ s.copied in let b = new_copy in cc);
      off = λ e u. kept_field (λ y. y.in_flight == 1) b (λ y. refl) es1 nf e
          ∙ (kept_field (λ y. y.in_flight == 1) f (λ y. refl) es h e ∙ s.off e u);
      counter = counter h ∙ s.counter;
      above = λ e a. rw (counter e) (s.above e a);
      at_head = s.at_head;
      inside = λ e u. rw (length-set es1 nf (b (entry_of es1 nf)), length-set es h (f (entry_of es h))) (s.inside e u);
      once = s.once;
      apart = s.apart;
      few = s.few;
      kept = s.kept;
    }

-- ---- what the region says meanwhile

record Popping (g : Given) (w : World) (k : PackedKept) (free : List ℕ) (cs : List Chain) (popped n : ℕ) : Type 0 where
  pub level : Level g w free cs
  pub same : is_same w.region.header.used w.region.header.old_used ≡ true
  pub entries : w.region.entries ≡ k.entries
  pub old : w.region.header.old_free_head ≡ k.free_head
  pub used : k.used ≡ position g.size w.used
  pub size : k.size ≡ g.size
  pub popped_so_far : w.popped ≡ popped
  pub room : popped + n ≤ w.published

popping_begun : (g : Given) (w : World) (k : PackedKept) (free : List ℕ) (cs : List Chain) (popped n : ℕ)
    → 0 < uses k.free_head free → k.free_head < length k.entries → Popping g w k free cs popped n
    → Each g w (map Region (begin_pop_stores k))
    × Popping g (all_done g.size w (map Region (begin_pop_stores k))) (begun k) free cs popped n
popping_begun g w k free cs popped n at_head l s =
    let h : ℕ = k.free_head in
    let c : ℕ = next_count k in
    let f1 : PackedEntry → PackedEntry = λ e. record e { num = 0 } in
    let f2 : PackedEntry → PackedEntry = λ e. record e { counter = c } in
    let v1 : World = done g.size w (Region (Num h 0)) in
    let s1 : Level g v1 free cs = level_free g w free cs h f1 (λ e. refl) (λ e none. none) at_head s.level in
    let v2 : World = done g.size v1 (Region (Counter h c)) in
    let s2 : Level g v2 free cs = level_free g v1 free cs h f2 (λ e. refl) (λ e none. none) at_head s1 in (
      (IsLevel free cs s.level, (IsLevel free cs s1, IsLevel free cs s2)),
      record {
        level = s2;
        same = s.same;
        entries = ap (λ (es : List PackedEntry). changed (changed es h f1) h f2) s.entries
            ∙ changed-twice f1 f2 k.entries h l;
        old = s.old;
        used = s.used;
        size = s.size;
        popped_so_far = s.popped_so_far;
        room = s.room;
      },
    )

popping_added : (g : Given) (w : World) (k : PackedKept) (free : List ℕ) (cs : List Chain) (popped n : ℕ)
    (d : PackedCopy) → 0 < uses k.free_head free → k.free_head < length k.entries → 0 < uses k.next_free free
    → k.next_free < length k.entries → Popping g w k free cs popped n
    → Each g w (map Region (add_stores k d))
    × Popping g (all_done g.size w (map Region (add_stores k d))) (added k d) free cs popped n
popping_added g w k free cs popped n d at_head l at_next m s =
    let h : ℕ = k.free_head in
    let nf : ℕ = k.next_free in
    let f1 : PackedEntry → PackedEntry = λ e. record e { num = next_num k } in
    let f2 : PackedEntry → PackedEntry = λ e. record e { last = nf } in
    let f : PackedEntry → PackedEntry = λ e. record e { num = next_num k; last = nf } in
    let b1 : PackedEntry → PackedEntry = λ e. record e { id = d.id; flags = d.flags; len = d.len } in
    let b2 : PackedEntry → PackedEntry = λ e. record e { addr = d.addr } in
    let b : PackedEntry → PackedEntry =
    λ e. record e { id = d.id; flags = d.flags; len = d.len; addr = d.addr } in
    let v1 : World = done g.size w (Region (Num h (next_num k))) in
    let s1 : Level g v1 free cs = level_free g w free cs h f1 (λ e. refl) (λ e none. none) at_head s.level in
    let v2 : World = done g.size v1 (Region (Last h nf)) in
    let s2 : Level g v2 free cs = level_free g v1 free cs h f2 (λ e. refl) (λ e none. none) at_head s1 in
    let v3 : World = done g.size v2 (Region (Buffer nf d.id d.flags d.len)) in
    let s3 : Level g v3 free cs = level_free g v2 free cs nf b1 (λ e. refl) (λ e none. none) at_next s2 in
    let v4 : World = done g.size v3 (Region (Addr nf d.addr)) in
    let s4 : Level g v4 free cs = level_free g v3 free cs nf b2 (λ e. refl) (λ e none. none) at_next s3 in
    let next : ℕ = (entry_of k.entries nf).next in
    let v5 : World = done g.size v4 (Region (FreeHead next)) in
    let s5 : Level g v5 free cs = level_free_head g v4 free cs next s4 in
    let es : List PackedEntry = k.entries in
    let one : changed (changed es h f1) h f2 ≡ changed es h f = changed-twice f1 f2 es h l in
    let there : nf < length (changed es h f) = rw (length-set es h (f (entry_of es h))) m in
    let two : changed (changed (changed es h f) nf b1) nf b2 ≡ changed (changed es h f) nf b =
    changed-twice b1 b2 (changed es h f) nf there in
    let same_entries : v5.region.entries ≡ changed (changed es h f) nf b =
    ap (λ (xs : List PackedEntry). changed (changed (changed (changed xs h f1) h f2) nf b1) nf b2) s.entries
    ∙ (ap (λ (xs : List PackedEntry). changed (changed xs nf b1) nf b2) one ∙ two) in (
      (
        IsLevel free cs s.level,
        (IsLevel free cs s1, (IsLevel free cs s2, (IsLevel free cs s3, (IsLevel free cs s4, IsLevel free cs s5)))),
      ),
      record {
        level = s5;
        same = s.same;
        entries = same_entries;
        old = s.old;
        used = s.used;
        size = s.size;
        popped_so_far = s.popped_so_far;
        room = s.room;
      },
    )

-- ---- all its descriptors

record Added (g : Given) (w : World) (k : PackedKept) (count : ℕ) (free : List ℕ) (cs : List Chain) (popped n : ℕ)
    (ds : List PackedCopy) : Type 0 where
  pub xs : List ℕ
  pub rest : List ℕ
  pub adding : Adding g k count free cs ds xs rest
  pub popping : Popping g w k free cs popped n

adds_run : (g : Given) (more : List PackedCopy) (w : World) (k : PackedKept) (count : ℕ) (free : List ℕ)
    (cs : List Chain) (popped n : ℕ) (ds : List PackedCopy) (xs rest : List ℕ) → length more ≤ length rest
    → Adding g k count free cs ds xs rest → Popping g w k free cs popped n
    → Each g w (add_deeds k more)
    × Added g (all_done g.size w (add_deeds k more)) (after_adds k more) count free cs popped n (ds ++ more)
adds_run g [] w k count free cs popped n ds xs rest few a s = (
  IsLevel free cs s.level,
  record {
    xs = xs;
    rest = rest;
    adding = subst (λ (es : List PackedCopy). Adding g k count free cs es xs rest) (sym (append-nil ds)) a;
    popping = s;
  },
)
adds_run g (d ∷ more) w k count free cs popped n ds xs [] few a s = absurd (omega arith)
adds_run g (d ∷ more) w k count free cs popped n ds xs (x ∷ rest) few a s =
    let at_head : k.free_head < length k.entries = a.inside k.free_head a.at_head in
    let here : k.next_free ≡ x = a.later.0 in
    let one : uses x (x ∷ rest) ≡ 1 + uses x rest = uses_here x rest in
    let is_free : 0 < uses k.next_free free =
    rw here (let p : uses x free ≡ uses x xs + uses x (x ∷ rest) =
    ap (λ (ys : List ℕ). uses x ys) a.whole ∙ uses-append x xs (x ∷ rest) in omega arith) in
    let at_next : k.next_free < length k.entries = a.inside k.next_free is_free in
    let first = popping_added g w k free cs popped n d a.at_head at_head is_free at_next s in
    let then_ = adds_run g more (all_done g.size w (map Region (add_stores k d))) (added k d) count free cs popped n
    (ds ++ d ∷ []) (xs ++ x ∷ []) rest (omega arith) (adding_added g k count free cs ds d xs x rest a) first.1 in
    rw (lt-ltb k.free_head (length k.entries) at_head, lt-ltb k.next_free (length k.entries) at_next) (
      each-append g (map Region (add_stores k d)) (add_deeds (added k d) more) w first.0 then_.0,
      subst (λ (es : List PackedCopy).
          Added g (all_done g.size (all_done g.size w (map Region (add_stores k d))) (add_deeds (added k d) more))
          (after_adds (added k d) more) count free cs popped n es) (append_assoc ds (d ∷ []) more) then_.1,
    )

-- ---- its end

end_runs : (g : Given) (w : World) (k : PackedKept) (count : ℕ) (free : List ℕ) (cs : List Chain) (popped : ℕ)
    (ds : List PackedCopy) (xs rest : List ℕ) → 0 < length ds → has_id (id_of ds) (copies cs) ≡ false
    → count ≤ popped + 1 → Adding g k count free cs ds xs rest → Popping g w k free cs popped (length ds)
    → Each g w (end_deeds k ds) × Runs g (all_done g.size w (end_deeds k ds)) (after_end_pop k)
end_runs g w k count free cs popped ds [] rest some out bound a s =
    absurd (let e : length ds ≡ 0 = ap length (sym a.copied) in omega arith)
end_runs g w k count free cs popped ds (x ∷ ys) rest some out bound a s =
    let h : ℕ = k.free_head in
    let nf : ℕ = k.next_free in
    let is_first : h ≡ x = a.first.0 in
    let m : PackedEntry → PackedEntry = λ e. record e { in_flight = 1 } in
    let es : List PackedEntry = w.region.entries in
    let fs : List PackedEntry = changed es h m in
    let c : Chain = record { head = h; rest = ys; copies = ds } in
    let all : List Chain = cs ++ c ∷ [] in
    let at_head : h < length k.entries = a.inside h a.at_head in
    let at_mark : h < length es = rw s.entries at_head in
    let whole : free ≡ (h ∷ ys) ++ rest =
    a.whole ∙ ap (λ (z : ℕ). (z ∷ ys) ++ rest) (sym is_first) in
    let free_of : (e : ℕ) → uses e free ≡ uses e (h ∷ ys) + uses e rest =
    λ e. ap (λ (zs : List ℕ). uses e zs) whole ∙ uses-append e (h ∷ ys) rest in
    let v1 : World = done g.size w (Region (InFlight h true)) in
    let s1 : Level g v1 free cs = level_free g w free cs h m (λ e. refl) (λ e none. refl) a.at_head s.level in
    let v2 : World = done g.size v1 (Pops ds (OldFreeHead nf)) in
    let next : (e : ℕ) → (entry_of fs e).next ≡ (entry_of k.entries e).next =
    λ e. kept_field (λ y. y.next) m (λ y. refl) es h e
    ∙ ap (λ (zs : List PackedEntry). (entry_of zs e).next) s.entries in
    let counter : (e : ℕ) → counter_of fs e ≡ counter_of k.entries e =
    λ e. kept_field (λ y. y.counter) m (λ y. refl) es h e
    ∙ ap (λ (zs : List PackedEntry). counter_of zs e) s.entries in
    let path : Path fs h ys =
    subst (λ (z : ℕ). Path fs z ys) (sym is_first)
    (links-path fs h x ys nf (links-same k.entries fs h (x ∷ ys) nf (λ e u. next e) a.first)) in
    let links : Links fs nf rest g.descriptors =
    links-same k.entries fs nf rest g.descriptors (λ e u. next e) a.later in
    let num : num_of fs h ≡ suc (length ys) =
    kept_field (λ y. y.num) m (λ y. refl) es h h
    ∙ (ap (λ (zs : List PackedEntry). num_of zs h) s.entries ∙ a.num) in
    let last : (entry_of fs h).last ≡ last_of h ys =
    kept_field (λ y. y.last) m (λ y. refl) es h h
    ∙ (ap (λ (zs : List PackedEntry). (entry_of zs h).last) s.entries
    ∙ (a.last (omega arith) ∙ ap (λ (z : ℕ). last_of z ys) (sym is_first))) in
    let copied : copies_of fs (h ∷ ys) ≡ ds =
    copies-same k.entries fs (h ∷ ys)
    (λ e u. kept_field (λ y. copy_of y) m (λ y. refl) es h e
    ∙ ap (λ (zs : List PackedEntry). copy_of (entry_of zs e)) s.entries)
    ∙ (ap (λ (z : ℕ). copies_of k.entries (z ∷ ys)) is_first ∙ a.copied) in
    let off : (e : ℕ) → 0 < uses e free → (e ≡ h → ⊥) → is_in_flight fs e ≡ false =
    λ e u ne. ap (λ (y : PackedEntry). y.in_flight == 1) (other_entry m es h e ne)
    ∙ (ap (λ (zs : List PackedEntry). is_in_flight zs e) s.entries ∙ a.off e u) in
    let on : is_in_flight fs h ≡ true = ap (λ (y : PackedEntry). y.in_flight == 1) (this_entry m es h at_mark) in
    let at_count : counter_of fs h ≡ count = counter h ∙ a.counter in
    let above : (e : ℕ) → is_among e (heads cs) ≡ true → counter_of fs e < counter_of fs h =
    λ e u. rw (counter e, at_count) (a.above e u) in
    let old : w.region.header.old_free_head ≡ h = s.old in
    let so_far : w.popped ≡ popped = s.popped_so_far in
    let core : Core g fs h w.popped ((h ∷ ys) ++ rest) cs =
    subst (λ (z : ℕ). Core g fs z w.popped ((h ∷ ys) ++ rest) cs) old
    (subst (λ (zs : List ℕ). Core g fs w.region.header.old_free_head w.popped zs cs) whole s1.core) in
    let done_core : Core g fs nf (w.popped + length ds) rest all =
    core_popped g fs h w.popped nf ys rest ds cs core links num path last copied
    (λ e u ne. off e (let p = free_of e in let q = uses-append e (h ∷ ys) rest in omega arith) ne) on above
    (rw at_count (omega arith)) in
    let len : length ds ≡ suc (length ys) = sym (ap length copied) ∙ copies_length fs (h ∷ ys) in
    let names : copies all ≡ copies cs ++ ds ∷ [] = copies-append cs (c ∷ []) in
    let guest : Guest g v2.view w.published (w.popped + length ds) w.used w.flags all = record {
      seen = rw s.level.guest.seen (rw out (ap (λ (zs : List (List PackedCopy)). Some zs) (sym names)));
      apart = rw names (apart_push ds (copies cs) s.level.guest.apart out);
      sum = let e = s.level.guest.sum in let l = slots-append cs (c ∷ []) in omega arith;
      behind = let r = s.room in omega arith;
      within = s.level.guest.within;
      available = s.level.guest.available;
    } in
    let s2 : Level g v2 rest all = record {
      core = done_core;
      guest = guest;
      version = s.level.version;
      desc_num = s.level.desc_num;
      old = s.level.old;
      inside = s.level.inside;
      same = inl s.same;
    } in
    let can : nat_lt k.free_head (length k.entries) ≡ true = lt-ltb k.free_head (length k.entries) at_head in
    rw can (
      (IsLevel free cs s.level, (IsLevel free cs s1, IsLevel rest all s2)),
      record {
        free = rest;
        cs = all;
        level = s2;
        same = s.same;
        off = λ e u. off e (let p = free_of e in omega arith)
            (λ is. let v : 0 < uses h rest = rw is at u in let p = free_of h in let o = a.once h in
            let one = uses_here h ys in absurd (omega arith));
        entries = ap (λ (zs : List PackedEntry). changed zs h m) (sym s.entries);
        head = refl;
        used = s.used;
        size = s.size;
        above = λ e u. rw (counter e) (elim (or_cases (is_among e (heads cs)) (h == e)
            (sym (among-append e h (heads cs)) ∙ (ap (λ (zs : List ℕ). is_among e zs) (sym (heads-append cs (c ∷ []))) ∙ u))) [
              | inl before ↦ let l = a.above e before in let kept = a.kept in omega arith
              | inr now ↦ rw (sym (eqb-true h e now)) (let at = a.counter in let kept = a.kept in omega arith)
            ]);
        count = let kept = a.kept in omega arith;
      },
    )
  where
    copies_length : (es : List PackedEntry) (xs : List ℕ) → length (copies_of es xs) ≡ length xs
    copies_length es [] = refl
    copies_length es (x ∷ xs) = ap (λ (n : ℕ). suc n) (copies_length es xs)

-- ---- the whole

pub pop_runs : (g : Given) (w : World) (k : PackedKept) (ds : List PackedCopy) → w.popped < 2 ^ 63
    → 0 < length ds → w.popped + length ds ≤ w.published → in_view (id_of ds) w.view ≡ false → Runs g w k
    → Each g w (pop_effect k ds).deeds
    × Runs g (all_done g.size w (pop_effect k ds).deeds) (pop_effect k ds).kept
pop_runs g w k ds small some room out s =
    let core = s.level.core in
    let es : List PackedEntry = w.region.entries in
    let h : ℕ = k.free_head in
    let new_id : has_id (id_of ds) (copies s.cs) ≡ false =
    ap (λ (v : Option (List (List PackedCopy))). in_view (id_of ds) v) (sym s.level.guest.seen) ∙ out in
    let enough : length ds ≤ length s.free =
    let a = core.room in let b = s.level.guest.sum in let c = s.level.guest.within in let f = g.fits in omega arith in
    let links : Links k.entries h s.free g.descriptors =
    subst (λ (z : ℕ). Links k.entries z s.free g.descriptors) (sym s.head)
    (subst (λ (zs : List PackedEntry). Links zs w.region.header.old_free_head s.free g.descriptors) (sym s.entries) core.links) in
    let at_head : 0 < uses h s.free = first_used k.entries h s.free g.descriptors (omega arith) links in
    let inside : (e : ℕ) → 0 < uses e s.free → e < length k.entries =
    λ e u. rw s.entries (let i = core.inside e (omega arith) in let l = core.len in omega arith) in
    let l : h < length k.entries = inside h at_head in
    let counter : (e : ℕ) → counter_of k.entries e ≡ counter_of es e =
    λ e. ap (λ (zs : List PackedEntry). counter_of zs e) s.entries in
    let grows : next_count k ≡ k.count + 1 = let c = s.count in omega arith in
    let few : length s.free < 2 ^ 16 = let r = core.room in let n = g.small in omega arith in
    let adding : Adding g (begun k) (next_count k) s.free s.cs [] [] s.free =
    adding_begun g k s.free s.cs links
    (λ e u. ap (λ (zs : List PackedEntry). is_in_flight zs e) s.entries ∙ s.off e u)
    (λ e a. rw (counter e) (let up = s.above e a in omega arith)) at_head inside
    (λ e. let o = core.once e in omega arith)
    (λ e a. let u = heads_used e s.cs a in let o = core.once e in omega arith) few in
    let popping : Popping g w k s.free s.cs w.popped (length ds) = record {
      level = s.level;
      same = s.same;
      entries = sym s.entries;
      old = sym s.head;
      used = s.used;
      size = s.size;
      popped_so_far = refl;
      room = room;
    } in
    let first = popping_begun g w k s.free s.cs w.popped (length ds) at_head l popping in
    let v1 : World = all_done g.size w (map Region (begin_pop_stores k)) in
    let then_ = adds_run g ds v1 (begun k) (next_count k) s.free s.cs w.popped (length ds) [] [] s.free enough adding first.1 in
    let v2 : World = all_done g.size v1 (add_deeds (begun k) ds) in
    let k2 : PackedKept = after_adds (begun k) ds in
    let end = end_runs g v2 k2 (next_count k) s.free s.cs w.popped ds then_.1.xs then_.1.rest some new_id
    (let c = s.count in omega arith) then_.1.adding then_.1.popping in
    let can : nat_lt k.free_head (length k.entries) ≡ true = lt-ltb k.free_head (length k.entries) l in
    rw can (
      each-append g (map Region (begin_pop_stores k)) (add_deeds (begun k) ds ++ end_deeds k2 ds) w first.0
          (each-append g (add_deeds (begun k) ds) (end_deeds k2 ds) v1 then_.0 end.0),
      subst (λ (v : World). Runs g v (after_end_pop k2))
          (sym (all_done-append g.size (add_deeds (begun k) ds) (end_deeds k2 ds) v1)) end.1,
    )
  where
    first_used : (es : List PackedEntry) (h : ℕ) (xs : List ℕ) (end : ℕ) → 0 < length xs → Links es h xs end
        → 0 < uses h xs
    first_used es h [] end some l = absurd (omega arith)
    first_used es h (x ∷ xs) end some (first, rest) = rw first (let one = uses_here x xs in omega arith)
