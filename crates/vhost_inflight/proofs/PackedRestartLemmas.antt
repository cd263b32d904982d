-- The stores of a start of a packed queue.
use Rattle.std.proofs.Common.{◌≡◌, ℕ, zero, suc, ◌+◌, ◌<◌, ◌≤◌, false, List, [], ◌∷◌, ◌++◌, length, refl, sym, ap, subst, ◌∙◌, inl, arith, length-set}
use Rattle.std.proofs.lemmas.List.{append-nil}
use Rattle.std.specs.Prelude.{map, nat_lt}
use Rattle.std.specs.List.{list_any, range_with_len}
use Rattle.vhost_inflight.specs.Packed.{PackedRegion, changed, counter_of, entry_of, is_in_flight, put}
use Rattle.vhost_inflight.specs.PackedCrash.{Deed, Region, World, all_done, done, looked_at, position, start_effect}
use Rattle.vhost_inflight.specs.PackedStart.{cleared, free, greatest, is_same, link_stores, linked, settle_stores, settled, start_stores, started, taken_entries, taken_place}
use Rattle.vhost_inflight.specs.declared.packed.PackedStore.{PackedStore}
use Rattle.vhost_inflight.specs.declared.packed.PackedStore.TheVariants.{InFlight, FreeHead, OldFreeHead, Used, DescNum, Version}
use Rattle.vhost_inflight.specs.declared.packed_region.PackedEntry.{PackedEntry}
use Rattle.vhost_inflight.specs.declared.packed_region.PackedHeader.{PackedHeader}
use Rattle.vhost_inflight.specs.declared.packed_region.PackedPosition.{PackedPosition}
use Rattle.vhost_inflight.specs.declared.packed_start.Place.{Place}
use Rattle.vhost_inflight.proofs.PackedEntryLemmas.{any-changed}
use Rattle.vhost_inflight.proofs.PackedChainLemmas.{Chain, uses, uses_here, uses_more}
use Rattle.vhost_inflight.proofs.PackedCoreLemmas.{Core, Given, cleared_off, core_cleared, greatest_bounds}
use Rattle.vhost_inflight.proofs.PackedRingLemmas.{position_slot, same_here}
use Rattle.vhost_inflight.proofs.PackedPopLemmas.{Runs}
use Rattle.vhost_inflight.proofs.PackedBeginLemmas.{Settles, ahead_place, ahead_settles, base_of, core_fresh, free_is, fresh_place, fresh_settles, level_place, level_settles, settled_is}
use Rattle.vhost_inflight.proofs.PackedStoreLemmas.{Ahead, Each, Fresh, IsAhead, IsFresh, IsLevel, Level, Sound, ahead_free_head, ahead_old_free_head, all_done-append, each-append, level_caught_up, level_free, level_free_head, level_old_free_head, level_settled}

-- ---- what the region says after several stores

abbrev puts : PackedRegion → List PackedStore → PackedRegion
puts r [] = r
puts r (s ∷ ss) = puts (put r s) ss

region_only : (size : ℕ) (ss : List PackedStore) (w : World)
    → all_done size w (map Region ss) ≡ record w { region = puts w.region ss }
region_only size [] w = refl
region_only size (s ∷ ss) w = region_only size ss (record w { region = put w.region s })

puts-append : (xs ys : List PackedStore) (r : PackedRegion) → puts r (xs ++ ys) ≡ puts (puts r xs) ys
puts-append [] ys r = refl
puts-append (x ∷ xs) ys r = puts-append xs ys (put r x)

puts_cleared : (xs : List ℕ) (r : PackedRegion)
    → puts r (map (λ index. InFlight index false) xs) ≡ record r { entries = cleared r.entries xs }
puts_cleared [] r = refl
puts_cleared (x ∷ xs) r =
    puts_cleared xs (record r { entries = changed r.entries x (λ e. record e { in_flight = 0 }) })

puts_linked : (i n : ℕ) (r : PackedRegion) → puts r (link_stores i n) ≡ record r { entries = linked r.entries i n }
puts_linked i zero r = refl
puts_linked i (suc n) r =
    puts_linked (i + 1) n (record r { entries = changed r.entries i (λ e. record e { next = i + 1 }) })

map-append : (xs ys : List PackedStore) → map Region (xs ++ ys) ≡ map Region xs ++ map Region ys
map-append [] ys = refl
map-append (x ∷ xs) ys = ap (λ (zs : List Deed). Region x ∷ zs) (map-append xs ys)

-- ---- the marks of what is free

clears_run : (g : Given) (xs : List ℕ) (w : World) (free : List ℕ) (cs : List Chain)
    → ((e : ℕ) → 0 < uses e xs → 0 < uses e free) → Level g w free cs
    → Each g w (map Region (map (λ index. InFlight index false) xs))
    × Level g (all_done g.size w (map Region (map (λ index. InFlight index false) xs))) free cs
clears_run g [] w free cs all s = (IsLevel free cs s, s)
clears_run g (x ∷ xs) w free cs all s =
    let v : World = done g.size w (Region (InFlight x false)) in
    let t : Level g v free cs =
    level_free g w free cs x (λ e. record e { in_flight = 0 }) (λ e. refl) (λ e none. refl)
    (all x (let one = uses_here x xs in omega arith)) s in
    let rest = clears_run g xs v free cs (λ e u. all e (uses_more e x xs u)) t in
    ((IsLevel free cs s, rest.0), rest.1)

-- ---- how a start ends

ends : (g : Given) (w v : World) (xs : List ℕ) (cs : List Chain) → Settles g w xs cs → Level g v xs cs
    → v.region.entries ≡ cleared (taken_entries w.region) xs
    → v.region.header.used ≡ v.region.header.old_used
    → v.region.header.old_used ≡ (taken_place w.region (base_of g) (looked_at w)).used
    → v.region.header.old_free_head ≡ (taken_place w.region (base_of g) (looked_at w)).free_head
    → v.used ≡ w.used → v.popped ≡ w.popped
    → Runs g v (started g.size w.region (base_of g) (looked_at w))
ends g w v xs cs s level entries same old head used popped =
    let es : List PackedEntry = taken_entries w.region in
    let h : ℕ = (taken_place w.region (base_of g) (looked_at w)).free_head in
    let is : settled w.region (base_of g) (looked_at w) ≡ cleared es xs = settled_is g w xs cs s in
    let bounds = greatest_bounds g es h w.popped xs cs s.core in
    let most : greatest (settled w.region (base_of g) (looked_at w)) ≡ greatest (cleared es xs) =
    ap (λ (zs : List PackedEntry). greatest zs) is in
    record {
      free = xs;
      cs = cs;
      level = level;
      same = ap (λ (p : PackedPosition). is_same p v.region.header.old_used) same ∙ same_here v.region.header.old_used;
      off = λ e u. ap (λ (zs : List PackedEntry). is_in_flight zs e) entries ∙ cleared_off es xs e u;
      entries = is ∙ sym entries;
      head = sym head;
      used = s.used ∙ ap (λ (n : ℕ). position g.size n) (sym used);
      size = refl;
      above = λ e a. subst (λ (m : ℕ). counter_of v.region.entries e ≤ m) (sym most)
          (subst (λ (zs : List PackedEntry). counter_of zs e ≤ greatest (cleared es xs)) (sym entries) (bounds.0 e a));
      count = subst (λ (m : ℕ). m ≤ v.popped) (sym most) (rw popped bounds.1);
    }

-- of a region that was written
stores_written : (descriptors version : ℕ) (p q : Place) (xs ys : List ℕ) → version ≡ 1 → p ≡ q → xs ≡ ys
    → start_stores descriptors version p xs ≡ settle_stores q ys
stores_written descriptors version p q xs ys written place list =
    ap (λ (v : ℕ). start_stores descriptors v p xs) written
    ∙ (append-nil (settle_stores p xs)
    ∙ (ap (λ (r : Place). settle_stores r xs) place ∙ ap (λ (zs : List ℕ). settle_stores q zs) list))

abbrev Starts : Given → World → List PackedStore → Type 0
Starts g w stores = Each g w (map Region stores)
    × Runs g (all_done g.size w (map Region stores)) (started g.size w.region (base_of g) (looked_at w))

level_starts : (g : Given) (w : World) (xs : List ℕ) (cs : List Chain) → Level g w xs cs
    → Starts g w (start_stores g.descriptors w.region.header.version (taken_place w.region (base_of g) (looked_at w))
    (free w.region (base_of g) (looked_at w)))
level_starts g w xs cs s =
    let settles = level_settles g w xs cs s in
    let place = level_place g w xs cs s in
    let h : ℕ = w.region.header.old_free_head in
    let p : PackedPosition = w.region.header.old_used in
    let q : Place = record { free_head = h; used = p } in
    let v1 : World = done g.size w (Region (OldFreeHead h)) in
    let s1 : Level g v1 xs cs = level_old_free_head g w xs cs h refl s in
    let v2 : World = done g.size v1 (Region (FreeHead h)) in
    let s2 : Level g v2 xs cs = level_free_head g v1 xs cs h s1 in
    let v3 : World = done g.size v2 (Region (Used p p)) in
    let s3 : Level g v3 xs cs = level_settled g v2 xs cs p s.old s2 in
    let clears = clears_run g xs v3 xs cs (λ e u. u) s3 in
    let clear : List PackedStore = map (λ index. InFlight index false) xs in
    let end : all_done g.size v3 (map Region clear)
    ≡ record v3 { region = record v3.region { entries = cleared w.region.entries xs } } =
    region_only g.size clear v3
    ∙ ap (λ (r : PackedRegion). record v3 { region = r }) (puts_cleared xs v3.region) in
    let taken : taken_entries w.region ≡ w.region.entries = rw s.version refl in
    let v : World = record v3 { region = record v3.region { entries = cleared w.region.entries xs } } in
    let runs : Runs g v (started g.size w.region (base_of g) (looked_at w)) =
    ends g w v xs cs settles (subst (λ (u : World). Level g u xs cs) end clears.1)
    (ap (λ (zs : List PackedEntry). cleared zs xs) (sym taken)) refl
    (ap (λ (r : Place). r.used) (sym place)) (ap (λ (r : Place). r.free_head) (sym place)) refl refl in
    subst (λ (stores : List PackedStore). Starts g w stores)
    (sym (stores_written g.descriptors w.region.header.version (taken_place w.region (base_of g) (looked_at w)) q
    (free w.region (base_of g) (looked_at w)) xs s.version place (free_is g w xs cs settles))) (
      (IsLevel xs cs s, (IsLevel xs cs s1, (IsLevel xs cs s2, clears.0))),
      subst (λ (u : World). Runs g u (started g.size w.region (base_of g) (looked_at w))) (sym end) runs,
    )

ahead_starts : (g : Given) (w : World) (xs : List ℕ) (cs : List Chain) → Ahead g w xs cs
    → Starts g w (start_stores g.descriptors w.region.header.version (taken_place w.region (base_of g) (looked_at w))
    (free w.region (base_of g) (looked_at w)))
ahead_starts g w xs cs s =
    let settles = ahead_settles g w xs cs s in
    let place = ahead_place g w xs cs s in
    let h : ℕ = w.region.header.free_head in
    let p : PackedPosition = w.region.header.used in
    let q : Place = record { free_head = h; used = p } in
    let v1 : World = done g.size w (Region (OldFreeHead h)) in
    let s1 : Ahead g v1 xs cs = ahead_old_free_head g w xs cs h s in
    let v2 : World = done g.size v1 (Region (FreeHead h)) in
    let s2 : Ahead g v2 xs cs = ahead_free_head g v1 xs cs h refl s1 in
    let v3 : World = done g.size v2 (Region (Used p p)) in
    let s3 : Level g v3 xs cs = level_caught_up g v2 xs cs p refl s.new s2 in
    let clears = clears_run g xs v3 xs cs (λ e u. u) s3 in
    let clear : List PackedStore = map (λ index. InFlight index false) xs in
    let end : all_done g.size v3 (map Region clear)
    ≡ record v3 { region = record v3.region { entries = cleared w.region.entries xs } } =
    region_only g.size clear v3
    ∙ ap (λ (r : PackedRegion). record v3 { region = r }) (puts_cleared xs v3.region) in
    let taken : taken_entries w.region ≡ w.region.entries = rw s.version refl in
    let v : World = record v3 { region = record v3.region { entries = cleared w.region.entries xs } } in
    let runs : Runs g v (started g.size w.region (base_of g) (looked_at w)) =
    ends g w v xs cs settles (subst (λ (u : World). Level g u xs cs) end clears.1)
    (ap (λ (zs : List PackedEntry). cleared zs xs) (sym taken)) refl
    (ap (λ (r : Place). r.used) (sym place)) (ap (λ (r : Place). r.free_head) (sym place)) refl refl in
    subst (λ (stores : List PackedStore). Starts g w stores)
    (sym (stores_written g.descriptors w.region.header.version (taken_place w.region (base_of g) (looked_at w)) q
    (free w.region (base_of g) (looked_at w)) xs s.version place (free_is g w xs cs settles))) (
      (IsAhead xs cs s, (IsAhead xs cs s1, (IsAhead xs cs s2, clears.0))),
      subst (λ (u : World). Runs g u (started g.size w.region (base_of g) (looked_at w))) (sym end) runs,
    )

-- ---- of a fresh region

-- a store that leaves a fresh region fresh
record Plain (s : PackedStore) : Type 0 where
  pub version : (r : PackedRegion) → (put r s).header.version ≡ r.header.version
  pub len : (r : PackedRegion) → length (put r s).entries ≡ length r.entries
  pub bits : (r : PackedRegion) → list_any (λ e. nat_lt 1 e.in_flight) r.entries ≡ false
      → list_any (λ e. nat_lt 1 e.in_flight) (put r s).entries ≡ false

abbrev AllPlain : List PackedStore → Type 0
AllPlain [] = Unit {0}
AllPlain (s ∷ ss) = Plain s × AllPlain ss

plain-append : (xs ys : List PackedStore) → AllPlain xs → AllPlain ys → AllPlain (xs ++ ys)
plain-append [] ys a b = b
plain-append (x ∷ xs) ys (first, rest) b = (first, plain-append xs ys rest b)

plain_header : (s : PackedStore) → ((r : PackedRegion) → (put r s).header.version ≡ r.header.version)
    → ((r : PackedRegion) → (put r s).entries ≡ r.entries) → Plain s
plain_header s version same = record {
  version = version;
  len = λ r. ap length (same r);
  bits = λ r none. ap (λ (es : List PackedEntry). list_any (λ e. nat_lt 1 e.in_flight) es) (same r) ∙ none;
}

plain_links : (i n : ℕ) → AllPlain (link_stores i n)
plain_links i zero = tt
plain_links i (suc n) = (
  record {
    version = λ r. refl;
    len = λ r. length-set r.entries i (record (entry_of r.entries i) { next = i + 1 });
    bits = λ r none. any-changed (λ e. nat_lt 1 e.in_flight) (λ e. record e { next = i + 1 }) (λ e off. off) r.entries i none;
  },
  plain_links (i + 1) n,
)

plain_clears : (xs : List ℕ) → AllPlain (map (λ index. InFlight index false) xs)
plain_clears [] = tt
plain_clears (x ∷ xs) = (
  record {
    version = λ r. refl;
    len = λ r. length-set r.entries x (record (entry_of r.entries x) { in_flight = 0 });
    bits = λ r none. any-changed (λ e. nat_lt 1 e.in_flight) (λ e. record e { in_flight = 0 }) (λ e off. refl) r.entries x none;
  },
  plain_clears xs,
)

plain_settles : (p : Place) (xs : List ℕ) → AllPlain (settle_stores p xs)
plain_settles p xs = (
  plain_header (OldFreeHead p.free_head) (λ r. refl) (λ r. refl),
  (
    plain_header (FreeHead p.free_head) (λ r. refl) (λ r. refl),
    (plain_header (Used p.used p.used) (λ r. refl) (λ r. refl), plain_clears xs),
  ),
)

fresh_each : (g : Given) (ss : List PackedStore) (w : World) → AllPlain ss → Fresh g w
    → Each g w (map Region ss) × Fresh g (all_done g.size w (map Region ss))
fresh_each g [] w plain s = (IsFresh s, s)
fresh_each g (x ∷ xs) w (first, rest) s =
    let v : World = done g.size w (Region x) in
    let t : Fresh g v = record {
      version = first.version w.region ∙ s.version;
      len = first.len w.region ∙ s.len;
      bits = first.bits w.region s.bits;
      guest = s.guest;
      began = s.began;
    } in
    let then_ = fresh_each g xs v rest t in
    ((IsFresh s, then_.0), then_.1)

stores_fresh : (descriptors version : ℕ) (p q : Place) (xs ys : List ℕ) → version ≡ 0 → p ≡ q → xs ≡ ys
    → start_stores descriptors version p xs
    ≡ (DescNum descriptors ∷ link_stores 0 descriptors) ++ (settle_stores q ys ++ Version 1 ∷ [])
stores_fresh descriptors version p q xs ys fresh place list =
    ap (λ (v : ℕ). start_stores descriptors v p xs) fresh
    ∙ (ap (λ (r : Place). (DescNum descriptors ∷ link_stores 0 descriptors) ++ (settle_stores r xs ++ Version 1 ∷ [])) place
    ∙ ap (λ (zs : List ℕ). (DescNum descriptors ∷ link_stores 0 descriptors) ++ (settle_stores q zs ++ Version 1 ∷ [])) list)

fresh_starts : (g : Given) (w : World) → Fresh g w
    → Starts g w (start_stores g.descriptors w.region.header.version (taken_place w.region (base_of g) (looked_at w))
    (free w.region (base_of g) (looked_at w)))
fresh_starts g w s =
    let d : ℕ = g.descriptors in
    let xs : List ℕ = range_with_len 0 d in
    let settles = fresh_settles g w s in
    let place = fresh_place g w s in
    let p : PackedPosition = base_of g in
    let q : Place = record { free_head = 0; used = p } in
    let links : List PackedStore = DescNum d ∷ link_stores 0 d in
    let settle : List PackedStore = settle_stores q xs in
    let one = fresh_each g links w (plain_header (DescNum d) (λ r. refl) (λ r. refl), plain_links 0 d) s in
    let v1 : World = all_done g.size w (map Region links) in
    let two = fresh_each g settle v1 (plain_settles q xs) one.1 in
    let v2 : World = all_done g.size v1 (map Region settle) in
    let v3 : World = done g.size v2 (Region (Version 1)) in
    let r1 : PackedRegion = record w.region {
      header = record w.region.header { desc_num = d };
      entries = linked w.region.entries 0 d;
    } in
    let at_one : v1 ≡ record w { region = r1 } =
    region_only g.size links w
    ∙ ap (λ (r : PackedRegion). record w { region = r })
    (puts_linked 0 d (record w.region { header = record w.region.header { desc_num = d } })) in
    let h2 : PackedHeader = record w.region.header {
      desc_num = d;
      old_free_head = 0;
      free_head = 0;
      used = p;
      old_used = p;
    } in
    let r2 : PackedRegion = record { header = h2; entries = cleared (linked w.region.entries 0 d) xs } in
    let at_two : v2 ≡ record w { region = r2 } =
    ap (λ (u : World). all_done g.size u (map Region settle)) at_one
    ∙ (region_only g.size settle (record w { region = r1 })
    ∙ ap (λ (r : PackedRegion). record w { region = r })
    (puts_cleared xs (record { header = h2; entries = linked w.region.entries 0 d }))) in
    let r3 : PackedRegion = record r2 { header = record h2 { version = 1 } } in
    let v : World = record w { region = r3 } in
    let at_end : v3 ≡ v = ap (λ (u : World). done g.size u (Region (Version 1))) at_two in
    let core : Core g (cleared (linked w.region.entries 0 d) xs) 0 w.popped xs [] =
    core_cleared g (linked w.region.entries 0 d) 0 w.popped xs [] xs (λ e u. u)
    (core_fresh g w.region.entries w.popped s.len s.bits) in
    let base : p ≡ position g.size w.used = ap (λ (n : ℕ). position g.size n) (sym s.began) in
    let level : Level g v xs [] = record {
      core = core;
      guest = s.guest;
      version = refl;
      desc_num = refl;
      old = base;
      inside = position_slot g.size g.began g.some;
      same = inl (same_here p);
    } in
    let taken : taken_entries w.region ≡ linked w.region.entries 0 d =
    rw s.version (ap (λ (n : ℕ). linked w.region.entries 0 n) s.len) in
    let runs : Runs g v (started g.size w.region (base_of g) (looked_at w)) =
    ends g w v xs [] settles level (ap (λ (zs : List PackedEntry). cleared zs xs) (sym taken)) refl
    (ap (λ (r : Place). r.used) (sym place)) (ap (λ (r : Place). r.free_head) (sym place)) refl refl in
    let sound3 : Sound g v3 = subst (λ (u : World). Sound g u) (sym at_end) (IsLevel xs [] level) in
    let last : Each g v2 (map Region (Version 1 ∷ [])) = (IsFresh two.1, sound3) in
    let whole : List PackedStore = links ++ (settle ++ Version 1 ∷ []) in
    let deeds : map Region whole ≡ map Region links ++ (map Region settle ++ map Region (Version 1 ∷ [])) =
    map-append links (settle ++ Version 1 ∷ [])
    ∙ ap (λ (zs : List Deed). map Region links ++ zs) (map-append settle (Version 1 ∷ [])) in
    let each : Each g w (map Region whole) =
    subst (λ (zs : List Deed). Each g w zs) (sym deeds)
    (each-append g (map Region links) (map Region settle ++ map Region (Version 1 ∷ [])) w one.0
    (each-append g (map Region settle) (map Region (Version 1 ∷ [])) v1 two.0 last)) in
    let end : all_done g.size w (map Region whole) ≡ v3 =
    ap (λ (zs : List Deed). all_done g.size w zs) deeds
    ∙ (all_done-append g.size (map Region links) (map Region settle ++ map Region (Version 1 ∷ [])) w
    ∙ all_done-append g.size (map Region settle) (map Region (Version 1 ∷ [])) v1) in
    subst (λ (stores : List PackedStore). Starts g w stores)
    (sym (stores_fresh d w.region.header.version (taken_place w.region (base_of g) (looked_at w)) q
    (free w.region (base_of g) (looked_at w)) xs s.version place (free_is g w xs [] settles)))
    (each, subst (λ (u : World). Runs g u (started g.size w.region (base_of g) (looked_at w))) (sym (end ∙ at_end)) runs)

pub start_runs : (g : Given) (w : World) → Sound g w
    → Each g w (start_effect g.descriptors g.size g.began w).deeds
    × Runs g (all_done g.size w (start_effect g.descriptors g.size g.began w).deeds)
    (start_effect g.descriptors g.size g.began w).kept
start_runs g w (IsFresh s) = fresh_starts g w s
start_runs g w (IsLevel free cs s) = level_starts g w free cs s
start_runs g w (IsAhead free cs s) = ahead_starts g w free cs s
