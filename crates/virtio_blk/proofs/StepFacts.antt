-- The header and the status of a request: what the accesses to them meet.
use Rattle.std.proofs.Common.{◌≡◌, ◌≢◌, ◌==◌, ◌∙◌, ◌⊎◌, inl, inr, ℕ, zero, suc, ◌+◌, ◌-◌, ◌<◌, ◌≤◌, ◌^◌, Bool, true, false, not, ◌&&◌, ◌||◌, if◌then◌else◌, List, [], ◌∷◌, ◌++◌, length, take, drop, min, Option, Some, None, option_map, Result, Ok, Err, MatchBool, MatchOption, MatchResult, is_none, is_ok, nat_lt, refl, sym, ap, subst, arith, add-one, append-nil, length-append, length-drop, length-take, take_all, take-add}
use Rattle.std.specs.Result.{result_unwrap_or}
use Rattle.std.proofs.lemmas.Bool.{eq-eqb, eqb-false, eqb-true, le-ltb, lt-ltb, ltb-false, ne_eqb}
use Rattle.std.proofs.lemmas.List.{drop-drop, drop-take, drop_all, drop_at, length-map, length-take-le, map-append, take_at}
use borrow.Rule.Slice.PartMut.{put_mid}
use Rattle.vm_memory_base.specs.Table.{Says, Table, each, grants, is_allowed, overruns}
use Rattle.vm_memory_base.specs.declared.iotlb.Permissions.{Permissions}
use Rattle.vm_memory_base.specs.declared.iotlb.Permissions.TheVariants as permissions
use Rattle.vm_memory_guest.specs.Access.{AccessFault, Meets, NoHostBytes, NoRegion, Reached, Reaches, Refused, Stops, allowed, meets, onto, or_fault, refusal}
use Rattle.vm_memory_guest.specs.Dirt.{path_cells}
use Rattle.vm_memory_guest.specs.Error.{error_of}
use Rattle.vm_memory_guest.specs.Host.{Host, byte_at, bytes_at, shape_of}
use Rattle.vm_memory_guest.specs.Memory.{Direct, Memory, Route, IsOn, Through, route}
use Rattle.vm_memory_guest.specs.Region.{Region}
use Rattle.vm_memory_guest.specs.Transfer.{ended}
use Rattle.vm_memory_guest.specs.declared.region.error.GuestMemoryError.{GuestMemoryError}
use Rattle.vm_memory_guest.specs.declared.region.error.GuestMemoryError.TheVariants as errors
use Rattle.vm_memory_device.specs.Chain.{Entry, Extends, Extent, ReadsText, WritesText, access_len, entries_from, meets_entry, text, text_fault, text_path}
use Rattle.vm_memory_device.specs.declared.chain.Segment.{Segment}
use Rattle.virtio_blk.specs.Disk.{joined}
use Rattle.virtio_blk.specs.Looks.{BeginsBy, Finds, FindsAll, FinishesBy, FoundBy, PutBy, by_access, failed}
use Rattle.virtio_blk.specs.Request.{request_of}
use Rattle.virtio_blk.specs.Steps.{Begins, Finishes, Told, answer_of, gapless, header_fault, status_fault}
use Rattle.virtio_blk.specs.Texts.{WritesAt, reached, text_bytes}
use Rattle.virtio_blk.specs.declared.request.Request.{Request}
use Rattle.virtio_blk.specs.declared.request.Request.TheVariants as requests
use Rattle.virtio_blk.specs.declared.request.DeviceLimits.{DeviceLimits}
use Rattle.virtio_blk.proofs.TextFacts.{Cause, EndsAt, Fronts, answered_count, extends-front, front_of, path_ends, stays_none, wrote_front}

-- ---- addresses that follow one another

-- a segment ends with an entry, or the next entry has the next address
abbrev Follows : Entry → List Entry → Type 0
Follows e [] = Unit {0}
Follows e (f ∷ es) = (e.ends ≡ true) ⊎ (f.address ≡ e.address + 1)

abbrev pub Goes : List Entry → Type 0
Goes [] = Unit {0}
Goes (e ∷ es) = Follows e es × Goes es

follows-take : (n : ℕ) (e : Entry) (es : List Entry) → Follows e es → Follows e (take n es)
follows-take zero e es h = tt
follows-take (suc n) e [] h = tt
follows-take (suc n) e (f ∷ es) h = h

pub goes-take : (n : ℕ) (es : List Entry) → Goes es → Goes (take n es)
goes-take zero es h = tt
goes-take (suc n) [] h = tt
goes-take (suc n) (e ∷ es) h = (follows-take n e es h.0, goes-take n es h.1)

follows-end : (a : ℕ) (es : List Entry) → Follows (record { address = a; ends = true }) es
follows-end a [] = tt
follows-end a (f ∷ es) = inl refl

follows-next : (a n : ℕ) (es : List Entry)
    → Follows (record { address = a; ends = false }) (entries_from (a + 1) (suc n) ++ es)
unfolding entries_from
follows-next a zero es = inr refl
follows-next a (suc n) es = inr refl

goes-entries : (a n : ℕ) (es : List Entry) → Goes es → Goes (entries_from a n ++ es)
unfolding entries_from
goes-entries a zero es h = h
goes-entries a (suc zero) es h = (follows-end a es, h)
goes-entries a (suc (suc n)) es h = (follows-next a n es, goes-entries (a + 1) (suc n) es h)

-- so it is in the text of a chain
pub goes-text : (ss : List Segment) → Goes (text ss)
goes-text [] = tt
goes-text (s ∷ ss) = goes-entries s.addr.0 s.len (text ss) (goes-text ss)

-- ---- accesses that are allowed

and-parts : (b c : Bool) → (b && c) ≡ true → (b ≡ true) × (c ≡ true)
and-parts true true h = (refl, refl)
and-parts true false h = absurd (cc)
and-parts false c h = absurd (cc)

or-right : (b c : Bool) → (b ≡ true → ⊥) → (b || c) ≡ true → c ≡ true
or-right true c n h = absurd (n refl)
or-right false c n h = h

to-right : (b c d : Bool) → c ≡ true → d ≡ true → (b || (c && d)) ≡ true
to-right true c d p q = refl
to-right false true true p q = refl
to-right false true false p q = absurd (cc)
to-right false false d p q = absurd (cc)

each-next : (f : Says) (a n : ℕ) (access : Permissions) → each (grants access) f a (suc n) ≡ true
    → each (grants access) f (a + 1) n ≡ true
unfolding each
each-next f a n access h = (and-parts (grants access (f a)) (each (grants access) f (a + 1) n) h).1

table_allows-next : (f : Says) (a n : ℕ) (access : Permissions) → is_allowed f a (suc n) access ≡ true
    → is_allowed f (a + 1) n access ≡ true
table_allows-next f a n access h =
    let some : (suc n == 0) ≡ true → ⊥ = λ e. let none = eqb-true (suc n) 0 e in absurd (omega (arith, none)) in
    let both = and-parts (not (overruns a (suc n))) (each (grants access) f a (suc n))
    (or-right (suc n == 0) (not (overruns a (suc n)) && each (grants access) f a (suc n)) some h) in
    let same : a + suc n ≡ a + 1 + n = omega arith in
    to-right (n == 0) (not (overruns (a + 1) n)) (each (grants access) f (a + 1) n)
    (ap (λ k. not (nat_lt (2 ^ 64 - 1) k)) (sym same) ∙ both.0) (each-next f a n access both.1)

-- an access that is allowed is allowed from its second byte on
allowed-next : (r : Route) (a n : ℕ) (access : Permissions) → allowed r a (n + 1) access ≡ true
    → allowed r (a + 1) n access ≡ true
allowed-next Direct a n access h = refl
allowed-next (Through f space) a n access h =
    table_allows-next f a n access (subst (λ k. is_allowed f a k access ≡ true) (add-one n) h)

-- ---- calls over what is left of a text

module _ (regions : List Region) (r : Route) (access : Permissions) where
  abbrev P : Bool → List Entry → List Reached
  P b es = text_path regions r access b es

  abbrev T : Bool → List Entry → Option AccessFault
  T b es = text_fault regions r access b es

  -- an access that would begin here is allowed
  abbrev Allowed : List Entry → Type 0
  Allowed [] = Unit {0}
  Allowed (e ∷ es) = allowed r e.address (access_len (e ∷ es)) access ≡ true

  same_meets : (b : Bool) (e : Entry) (es : List Entry) → (b ≡ true) ⊎ Allowed (e ∷ es)
      → meets_entry regions r access true e es ≡ meets_entry regions r access b e es
  same_meets true e es h = refl
  same_meets false e es (inl h) = absurd (cc)
  same_meets false e es (inr h) =
      ap (λ c. if not c then Stops (refusal r e.address (access_len (e ∷ es))) else meets regions r e.address 0) h

  -- the access of an entry that is reached is allowed
  reached-allowed : (b c : Bool) (f : AccessFault) (x : Meets) (y : Reached) → (b ≡ true) ⊎ (c ≡ true)
      → (if b && not c then Stops f else x) ≡ Reaches y → c ≡ true
  reached-allowed b true f x y h is = refl
  reached-allowed true false f x y h is = absurd (cc)
  reached-allowed false false f x y (inl h) is = absurd (cc)
  reached-allowed false false f x y (inr h) is = h

  next-allowed : (ends : Bool) (a b n : ℕ) → (ends ≡ true) ⊎ (b ≡ a + 1)
      → allowed r a (if ends then 1 else n + 1) access ≡ true → (ends ≡ true) ⊎ (allowed r b n access ≡ true)
  next-allowed true a b n h k = inl refl
  next-allowed false a b n (inl h) k = absurd (cc)
  next-allowed false a b n (inr h) k =
      inr (subst (λ j. allowed r j n access ≡ true) (sym h) (allowed-next r a n access k))

  allowed_after : (b : Bool) (e : Entry) (es : List Entry) (y : Reached) → Follows e es
      → (b ≡ true) ⊎ Allowed (e ∷ es) → meets_entry regions r access b e es ≡ Reaches y
      → (e.ends ≡ true) ⊎ Allowed es
  unfolding access_len
  allowed_after b e [] y g h is = inr tt
  allowed_after b e (f ∷ es) y g h is =
      next-allowed e.ends e.address f.address (access_len (f ∷ es)) g
      (reached-allowed b (allowed r e.address (access_len (e ∷ f ∷ es)) access)
      (refusal r e.address (access_len (e ∷ f ∷ es))) (meets regions r e.address 0) y h is)

  -- a call that begins after bytes that are reached meets what a call from the first one on meets
  pub call-later : (k : ℕ) (b : Bool) (es : List Entry) → Goes es → (b ≡ true) ⊎ Allowed es → k ≤ length (P b es)
      → (P true (drop k es) ≡ drop k (P b es)) × (T true (drop k es) ≡ T b es)
  unfolding text_path text_fault
  call-later zero b [] g h w = (refl, refl)
  call-later zero b (e ∷ es) g h w = (
    ap (λ x. onto x (P e.ends es)) (same_meets b e es h),
    ap (λ x. or_fault x (T e.ends es)) (same_meets b e es h),
  )
  call-later (suc k) b [] g h w = absurd (omega arith)
  call-later (suc k) b (e ∷ es) g h w =
      go (meets_entry regions r access b e es) refl w (λ a n. call-later k e.ends es g.1 a n)
    where
      go : (x : Meets) → meets_entry regions r access b e es ≡ x → suc k ≤ length (onto x (P e.ends es))
          → ((e.ends ≡ true) ⊎ Allowed es → k ≤ length (P e.ends es)
          → (P true (drop k es) ≡ drop k (P e.ends es)) × (T true (drop k es) ≡ T e.ends es))
          → (P true (drop k es) ≡ drop (suc k) (onto x (P e.ends es))) × (T true (drop k es) ≡ or_fault x (T e.ends es))
      go (Reaches y) is w more = more (allowed_after b e es y g.0 h is) (omega arith)
      go (Stops f) is w more = absurd (omega arith)

-- ---- errors

-- why a call over a text that this stops returned an error
abbrev pub WhyNot : Memory → Option AccessFault → GuestMemoryError → Type 0
WhyNot m fault e = ((e ≡ errors.Memory) × IsOn m) ⊎ ((f : AccessFault) × (fault ≡ Some f) × (e ≡ error_of f))

module _ {T : Type 0} (m : Memory) (done without : T) where
  -- what a step returns then
  pub told_failed : (fault : Option AccessFault) (e : GuestMemoryError) → WhyNot m fault e
      → Told m fault done without (failed e without)
  told_failed fault e (inl (is, on)) =
      subst (λ (d : GuestMemoryError). Told m fault done without (failed d without)) (sym is) (inr (refl, on))
  told_failed fault e (inr (f, stops, is)) =
      subst (λ (o : Option AccessFault). Told m o done without (failed e without)) (sym stops)
      (subst (λ (d : GuestMemoryError). Told m (Some f) done without (failed d without)) (sym is) (stopped f))
    where
      stopped : (f : AccessFault) → Told m (Some f) done without (failed (error_of f) without)
      stopped (NoRegion a) = inl refl
      stopped NoHostBytes = inl refl
      stopped (Refused iova len reason) = inl refl

  -- it did not do what nothing stops
  pub failed_stays : (Done Stays : Type 0) (fault : Option AccessFault) (e : GuestMemoryError) → WhyNot m fault e → Stays
      → MatchBool (is_ok (failed e without) && is_none fault) Done Stays
  failed_stays Done Stays fault e (inl (is, on)) stays =
      subst (λ (d : GuestMemoryError). MatchBool (is_ok (failed d without) && is_none fault) Done Stays) (sym is) stays
  failed_stays Done Stays fault e (inr (f, stops, is)) stays =
      subst (λ (o : Option AccessFault). MatchBool (is_ok (failed e without) && is_none o) Done Stays) (sym stops)
      (go (is_ok (failed e without)))
    where
      go : (b : Bool) → MatchBool (b && false) Done Stays
      go true = stays
      go false = stays

-- what a call answered that moves something, and ended there or for an error
ended_some : (count k n : ℕ) (Why : GuestMemoryError → Type 0) (o : Option GuestMemoryError) → 0 < n
    → MatchOption o (k ≡ n) Why → Ok count ≡ ended k o → 0 < k
ended_some count k n Why None some h is = omega (arith, h, some)
ended_some count k n Why (Some e) some h is = go (k == 0) refl is
  where
    go : (b : Bool) → (k == 0) ≡ b → Ok count ≡ (if b then Err e else Ok k) → 0 < k
    go true z is = absurd (cc)
    go false z is = let more = eqb-false k 0 z in omega (arith, more)

ended_error : (e : GuestMemoryError) (k : ℕ) (o : Option GuestMemoryError) → Err e ≡ ended k o → o ≡ Some e
ended_error e k None is = absurd (cc)
ended_error e k (Some f) is = go (k == 0) is
  where
    go : (b : Bool) → Err e ≡ (if b then Err f else Ok k) → Some f ≡ Some e
    go true is = cc
    go false is = absurd (cc)

-- what a call over a text reached, and its error
record Reaching (m : Memory) (fault : Option AccessFault) (whole : List Reached) (x : Extent) : Type 0 where
  within : length x.path ≤ length whole
  front : x.path ≡ take (length x.path) whole
  why : (x.error ≡ option_map error_of fault) ⊎ ((x.error ≡ Some errors.Memory) × IsOn m)

reaching : (m : Memory) (tables : List Table) (access : Permissions) (es : List Entry) (x : Extent)
    → Extends m tables access es x
    → Reaching m (text_fault m.regions (route m tables) access true es)
    (text_path m.regions (route m tables) access true es) x
reaching m tables access es x (inl e) =
    let p = text_path m.regions (route m tables) access true es in
    subst (λ (y : Extent). Reaching m (text_fault m.regions (route m tables) access true es) p y) (sym e) (record {
      within = omega arith;
      front = sym (take_all (length p) p (omega arith));
      why = inl refl;
    })
reaching m tables access es x (inr (k, wants, e)) =
    let p = text_path m.regions (route m tables) access true es in
    let count : length (take k p) ≡ k = length-take-le k p wants.reached in
    subst (λ (y : Extent). Reaching m (text_fault m.regions (route m tables) access true es) p y) (sym e) (record {
      within = omega (arith, count, wants.reached);
      front = ap (λ j. take j p) (sym count);
      why = inr (refl, wants.on);
    })

why_not : (m : Memory) (fault : Option AccessFault) (e : GuestMemoryError) (o : Option GuestMemoryError)
    → o ≡ Some e → (o ≡ option_map error_of fault) ⊎ ((o ≡ Some errors.Memory) × IsOn m) → WhyNot m fault e
why_not m None e o is (inl h) = absurd (cc)
why_not m (Some f) e o is (inl h) = inr (f, refl, cc)
why_not m fault e o is (inr (h, on)) = inl (cc, on)

-- ---- the header

module _ {B : Type 0} (m : Memory) (host : Host B) (es : List Entry) where
  -- what a call over the header reaches
  abbrev header_path : List Reached
  header_path = text_path m.regions (route m host.tables) permissions.Read true (take 16 es)

  abbrev bytes_of : List Reached → List ℕ
  bytes_of xs = bytes_at host.blocks (path_cells xs)

  bytes_of-append : (xs ys : List Reached) → bytes_of (xs ++ ys) ≡ bytes_of xs ++ bytes_of ys
  bytes_of-append xs ys =
      ap (bytes_at host.blocks) (map-append (λ (x : Reached). x.cell) xs ys)
      ∙ map-append (byte_at host.blocks) (path_cells xs) (path_cells ys)

  length-bytes_of : (xs : List Reached) → length (bytes_of xs) ≡ length xs
  length-bytes_of xs =
      length-map (path_cells xs) (byte_at host.blocks) ∙ length-map xs (λ (x : Reached). x.cell)

  -- so many of its bytes came
  pub record HeaderSoFar (filled : ℕ) (header : List ℕ) (left : List Entry) : Type 0 where
    pub within : filled ≤ length header_path
    pub size : length header ≡ 16
    pub front : take filled header ≡ bytes_of (take filled header_path)
    pub place : left ≡ drop filled es

  most_path : length header_path ≤ 16
  most_path =
      let a = path_ends m host.tables permissions.Read true (take 16 es) in
      go (text_fault m.regions (route m host.tables) permissions.Read true (take 16 es)) a
    where
      go : (o : Option AccessFault)
          → EndsAt m host.tables o (length header_path) (length (take 16 es)) → length header_path ≤ 16
      go None h = omega (arith, h, length-take 16 es)
      go (Some f) h = omega (arith, h, length-take 16 es)

  -- what a call reaches that reads what is left of it
  header_reaching : (filled n : ℕ) (left : List Entry) (x : Extent) → Goes es → left ≡ drop filled es
      → filled + n ≡ 16 → filled ≤ length header_path → Extends m host.tables permissions.Read (take n left) x
      → Reaching m (header_fault m host.tables es) (drop filled header_path) x
  header_reaching filled n left x goes place all within extends =
      let rest : take n left ≡ drop filled (take 16 es) =
      ap (take n) place ∙ sym (drop-take filled n es) ∙ ap (λ k. drop filled (take k es)) all in
      let later = call-later m.regions (route m host.tables) permissions.Read filled true (take 16 es)
      (goes-take 16 es goes) (inl refl) within in
      let r = reaching m host.tables permissions.Read (drop filled (take 16 es)) x
      (subst (λ (ls : List Entry). Extends m host.tables permissions.Read ls x) rest extends) in
      subst (λ (o : Option AccessFault). Reaching m o (drop filled header_path) x) later.1
      (subst (λ (p : List Reached). Reaching m
      (text_fault m.regions (route m host.tables) permissions.Read true (drop filled (take 16 es))) p x) later.0 r)

  -- more of it came
  header_more : (filled count : ℕ) (header buffer got : List ℕ) (left after : List Entry) (path : List Reached)
      → HeaderSoFar filled header left → filled + length buffer ≡ 16 → length path ≡ count
      → length path ≤ length (drop filled header_path) → path ≡ take (length path) (drop filled header_path)
      → got ≡ bytes_of path ++ drop (length (path_cells path)) buffer → after ≡ drop (length path) left
      → HeaderSoFar (filled + count) (take filled header ++ got) after
  header_more filled count header buffer got left after path h all count_is within front is place =
      let size : length (take filled header) ≡ filled =
      length-take-le filled header (omega (arith, h.size, all)) in
      let bytes : length (bytes_of path) ≡ count = length-bytes_of path ∙ count_is in
      let cells : length (path_cells path) ≡ count = length-map path (λ (x : Reached). x.cell) ∙ count_is in
      let most : filled + count ≤ length header_path =
      omega (arith, within, count_is, length-drop filled header_path, h.within) in
      let short : count ≤ length buffer = omega (arith, most, most_path, all) in
      let whole : length got ≡ length buffer =
      ap length is ∙ length-append (bytes_of path) (drop (length (path_cells path)) buffer)
      ∙ (let e : length (bytes_of path) + length (drop (length (path_cells path)) buffer) ≡ length buffer =
      omega (arith, bytes, cells, short, length-drop (length (path_cells path)) buffer) in e) in
      let got_front : take count got ≡ bytes_of path =
      ap (take count) is ∙ take_at (bytes_of path) (drop (length (path_cells path)) buffer) count bytes in
      record {
        within = most;
        size = omega (arith, length-append (take filled header) got, size, whole, all);
        front = take-add filled count (take filled header ++ got)
            ∙ ap (λ (xs : List ℕ). xs ++ take count (drop filled (take filled header ++ got)))
            (take_at (take filled header) got filled size ∙ h.front)
            ∙ ap (λ (xs : List ℕ). bytes_of (take filled header_path) ++ take count xs)
            (drop_at (take filled header) got filled size)
            ∙ ap (λ (xs : List ℕ). bytes_of (take filled header_path) ++ xs)
            (got_front ∙ ap bytes_of (front ∙ ap (λ k. take k (drop filled header_path)) count_is))
            ∙ sym (bytes_of-append (take filled header_path) (take count (drop filled header_path)))
            ∙ ap bytes_of (sym (take-add filled count header_path));
        place = place ∙ ap (λ k. drop k left) count_is ∙ ap (drop count) h.place ∙ drop-drop count filled es;
      }

  abbrev buffer_of : ℕ → List ℕ → List ℕ
  buffer_of filled header = take (16 - filled) (drop filled header)

  -- a call came to more of it, or says why not
  pub header_read : (filled : ℕ) (header : List ℕ) (left after : List Entry) (got : List ℕ)
      (answer : Result ℕ GuestMemoryError) → Goes es → 16 ≤ length es → HeaderSoFar filled header left → filled < 16
      → ReadsText m host left (take (16 - filled) (drop filled header)) answer after got
      → MatchResult answer
      (λ count. (0 < count) × HeaderSoFar (filled + count) (put_mid filled (16 - filled) header got) after)
      (WhyNot m (header_fault m host.tables es))
  header_read filled header left after got answer goes enough h short (x, moves, is) =
      go answer moves.answered
      (extends-front m host.tables permissions.Read left (length (buffer_of filled header)) x fits moves.reached)
      (header_reaching filled (length (buffer_of filled header)) left x goes h.place all h.within moves.reached)
    where
      all : filled + length (buffer_of filled header) ≡ 16
      all = omega (arith, length-take (16 - filled) (drop filled header), length-drop filled header, h.size, short)

      fits : length (buffer_of filled header) ≤ length left
      fits = omega (arith, ap length h.place, length-drop filled es, enough, all)

      part : put_mid filled (16 - filled) header got ≡ take filled header ++ got
      part =
          ap (λ (xs : List ℕ). take filled header ++ (got ++ xs))
          (drop_all (16 - filled) (drop filled header) (omega (arith, length-drop filled header, h.size)))
          ∙ ap (λ (xs : List ℕ). take filled header ++ xs) (append-nil got)

      go : (r : Result ℕ GuestMemoryError) → r ≡ ended (length x.path) x.error
          → Fronts m host.tables permissions.Read left (length (buffer_of filled header)) x
          → Reaching m (header_fault m host.tables es) (drop filled header_path) x
          → MatchResult r
          (λ count. (0 < count) × HeaderSoFar (filled + count) (put_mid filled (16 - filled) header got) after)
          (WhyNot m (header_fault m host.tables es))
      go (Ok count) told f r =
          let count_is = answered_count m host.tables permissions.Read left (length (buffer_of filled header)) count x f told in
          let some = ended_some count (length x.path) (length (buffer_of filled header)) _ x.error (omega (arith, short, all)) f.ends told in (
            omega (arith, some, count_is),
            subst (λ (xs : List ℕ). HeaderSoFar (filled + count) xs after) (sym part)
                (header_more filled count header (buffer_of filled header) got left after x.path h all count_is r.within r.front is
                moves.place),
          )
      go (Err e) told f r =
          why_not m (header_fault m host.tables es) e x.error (ended_error e (length x.path) x.error told) r.why

  -- all of it came
  pub header_all : (filled : ℕ) (header : List ℕ) (left : List Entry) → 16 ≤ length es
      → HeaderSoFar filled header left → 16 ≤ filled
      → Told m (header_fault m host.tables es) (Some (text_bytes m host es 16)) None (Ok (Some header))
  header_all filled header left enough h done =
      let all : length header_path ≡ 16 = omega (arith, h.within, most_path, done) in
      let filled_is : filled ≡ 16 = omega (arith, h.within, most_path, done) in
      let cut : header_path ≡ take 16 (reached m host.tables es) =
      front_of m host.tables permissions.Read es 16 enough
      ∙ ap (λ k. take k (reached m host.tables es)) all in
      let header_is : header ≡ text_bytes m host es 16 =
      sym (take_all filled header (omega (arith, h.size, filled_is))) ∙ h.front
      ∙ ap bytes_of (take_all filled header_path (omega (arith, all, filled_is)) ∙ cut) in
      inl (ap (λ (bs : List ℕ). Ok (Some bs)) header_is
      ∙ sym (ap (λ (o : Option AccessFault). answer_of o (Some (text_bytes m host es 16)) None) (none all)))
    where
      none : length header_path ≡ 16 → header_fault m host.tables es ≡ None
      none all = go (header_fault m host.tables es)
          (path_ends m host.tables permissions.Read true (take 16 es))
        where
          go : (o : Option AccessFault)
              → EndsAt m host.tables o (length header_path) (length (take 16 es)) → o ≡ None
          go None ends = refl
          go (Some f) ends = absurd (omega (arith, all, ends, length-take 16 es))

  -- ---- the header by looks

  module _ {S : Type 0} (look : S → List Entry → ℕ → Result (List ℕ) GuestMemoryError → S → Type 0) (s : S)
      (still : (ls : List Entry) (n : ℕ) (found : Result (List ℕ) GuestMemoryError) (after : S)
      → look s ls n found after → FoundBy m host ls n found × (after ≡ s)) (goes : Goes es) (enough : 16 ≤ length es)
    where
      -- what was found of it lies there
      record Came (bytes : List ℕ) : Type 0 where
        within : length bytes ≤ length header_path
        front : bytes ≡ bytes_of (take (length bytes) header_path)

      -- it is the front of a buffer, with whatever lies after it
      so_far : (bytes buffer : List ℕ) → Came bytes → length buffer ≡ 16 - length bytes
          → HeaderSoFar (length bytes) (bytes ++ buffer) (drop (length bytes) es)
      so_far bytes buffer h size = record {
        within = h.within;
        size = omega (arith, length-append bytes buffer, size, h.within, most_path);
        front = take_at bytes buffer (length bytes) refl ∙ h.front;
        place = refl;
      }

      rest_is : (bytes buffer : List ℕ) → length buffer ≡ 16 - length bytes
          → take (16 - length bytes) (drop (length bytes) (bytes ++ buffer)) ≡ buffer
      rest_is bytes buffer size = ap (take (16 - length bytes)) (drop_at bytes buffer (length bytes) refl)
          ∙ take_all (16 - length bytes) buffer (omega (arith, size))

      came_more : (bytes p : List ℕ) → Came bytes → length bytes < 16
          → FoundBy m host (drop (length bytes) es) (16 - length bytes) (Ok p) → Came (bytes ++ p)
      came_more bytes p h short (buffer, Err e, left, got, size, reads, is) = absurd (cc)
      came_more bytes p h short (buffer, Ok count, left, got, size, reads, is) =
          let k = length bytes in
          let header = bytes ++ buffer in
          let (some, next) = header_read k header (drop k es) left got (Ok count) goes enough (so_far bytes buffer h size)
          short (subst (λ (b : List ℕ). ReadsText m host (drop k es) b (Ok count) left got) (sym (rest_is bytes buffer size))
          reads) in
          let part : put_mid k (16 - k) header got ≡ bytes ++ got =
          ap (λ (xs : List ℕ). take k header ++ (got ++ xs))
          (drop_all (16 - k) (drop k header) (omega (arith, length-drop k header, length-append bytes buffer, size)))
          ∙ ap (λ (xs : List ℕ). take k header ++ xs) (append-nil got)
          ∙ ap (λ (xs : List ℕ). xs ++ got) (take_at bytes buffer k refl) in
          let whole : length (bytes ++ got) ≡ 16 = ap length (sym part) ∙ next.size in
          let few : count ≤ length got =
          omega (arith, whole, length-append bytes got, next.within, most_path, short) in
          let p_is : p ≡ take count got = cc in
          let count_is : length p ≡ count = ap length p_is ∙ length-take-le count got few in
          let all : length (bytes ++ p) ≡ k + count = omega (arith, length-append bytes p, count_is) in
          record {
            within = omega (arith, all, next.within);
            front = ap (λ (xs : List ℕ). bytes ++ xs) p_is
                ∙ sym (take-add k count (bytes ++ got)
                ∙ ap (λ (xs : List ℕ). xs ++ take count (drop k (bytes ++ got))) (take_at bytes got k refl)
                ∙ ap (λ (xs : List ℕ). bytes ++ take count xs) (drop_at bytes got k refl))
                ∙ sym (ap (take (k + count)) part) ∙ next.front ∙ ap (λ j. bytes_of (take j header_path)) (sym all);
          }

      found_part : (ps : List (List ℕ)) (now : S) → Finds look es 16 ps s now → (now ≡ s) × Came (joined ps)
      found_part [] now same = (same, record { within = omega arith; front = refl })
      found_part (p ∷ ps) now (short, (mid, found, looked)) =
          let (same, h) = found_part ps mid found in
          let k = length (joined ps) in
          let (by, stays) = still (drop k es) (16 - k) (Ok p) now
          (subst (λ t. look t (drop k es) (16 - k) (Ok p) now) same looked) in
          (stays, came_more (joined ps) p h short by)

      -- all of it was found, or this is why not
      pub header_found : (found : Result (List ℕ) GuestMemoryError) (now : S) → FindsAll look es 16 s found now
          → MatchResult found
          (λ bytes. Told m (header_fault m host.tables es) (Some (text_bytes m host es 16)) None (Ok (Some bytes)))
          (WhyNot m (header_fault m host.tables es))
      header_found (Ok bytes) now (ps, found, is, all) =
          let h = subst Came (sym is) (found_part ps now found).1 in
          header_all 16 bytes (drop 16 es) enough (record {
            within = omega (arith, h.within, all);
            size = all;
            front = take_all 16 bytes (omega (arith, all)) ∙ h.front ∙ ap (λ j. bytes_of (take j header_path)) all;
            place = refl;
          }) (omega arith)
      header_found (Err e) now (ps, mid, found, (short, looked)) =
          let (same, h) = found_part ps mid found in
          let k = length (joined ps) in
          failed_by (joined ps) h short (still (drop k es) (16 - k) (Err e) now
          (subst (λ t. look t (drop k es) (16 - k) (Err e) now) same looked)).0
        where
          failed_by : (bytes : List ℕ) → Came bytes → length bytes < 16
              → FoundBy m host (drop (length bytes) es) (16 - length bytes) (Err e) → WhyNot m (header_fault m host.tables es) e
          failed_by bytes h short (buffer, Ok count, left, got, size, reads, is) = absurd (cc)
          failed_by bytes h short (buffer, Err d, left, got, size, reads, is) =
              let k = length bytes in
              let same : d ≡ e = cc in
              subst (λ (x : GuestMemoryError). WhyNot m (header_fault m host.tables es) x) same
              (header_read k (bytes ++ buffer) (drop k es) left got (Err d) goes enough (so_far bytes buffer h size) short
              (subst (λ (b : List ℕ). ReadsText m host (drop k es) b (Err d) left got) (sym (rest_is bytes buffer size))
              reads))

-- ---- the status

module _ {B : Type 0} (marks : B → ℕ → ℕ → B → Type 0) (m : Memory) (es : List Entry) (old new : Host B)
    (status : ℕ) where
  abbrev last_of : List Entry
  last_of = drop (length es - 1) es

  -- a call that writes the status wrote it, and nothing stops that, or it says why not, and nothing changed
  pub status_written : (left after : List Entry) (answer : Result ℕ GuestMemoryError) → 0 < length es
      → left ≡ last_of → WritesText marks m left (status ∷ []) old answer after new
      → MatchResult answer
      (λ count. (status_fault m old.tables es ≡ None) × WritesAt marks m last_of (status ∷ []) old new)
      (λ e. WhyNot m (status_fault m old.tables es) e × (new ≡ old))
  status_written left after answer some place wrote =
      subst (λ (ls : List Entry). WritesText marks m ls (status ∷ []) old answer after new
      → MatchResult answer
      (λ count. (status_fault m old.tables es ≡ None) × WritesAt marks m last_of (status ∷ []) old new)
      (λ e. WhyNot m (status_fault m old.tables es) e × (new ≡ old))) (sym place) (at_last answer) wrote
    where
      size : length last_of ≡ 1
      size = omega (arith, length-drop (length es - 1) es, some)

      at_last : (r : Result ℕ GuestMemoryError) → WritesText marks m last_of (status ∷ []) old r after new
          → MatchResult r
          (λ count. (status_fault m old.tables es ≡ None) × WritesAt marks m last_of (status ∷ []) old new)
          (λ e. WhyNot m (status_fault m old.tables es) e × (new ≡ old))
      at_last r (x, moves, are, written) = go r refl
        where
          fits : length (status ∷ []) ≤ length last_of
          fits = omega (arith, size)

          f : Fronts m old.tables permissions.Write last_of 1 x
          f = extends-front m old.tables permissions.Write last_of 1 x (omega (arith, size)) moves.reached

          r_is : Reaching m (status_fault m old.tables es)
              (text_path m.regions (route m old.tables) permissions.Write true last_of) x
          r_is = reaching m old.tables permissions.Write last_of x
              (subst (λ (ls : List Entry). Extends m old.tables permissions.Write ls x)
              (take_all 1 last_of (omega (arith, size))) moves.reached)

          none : (o : Option GuestMemoryError) (fault : Option AccessFault) → length x.path ≡ 1
              → MatchOption o (length x.path ≡ 1) (Cause m old.tables permissions.Write last_of 1 x.path)
              → (o ≡ option_map error_of fault) ⊎ ((o ≡ Some errors.Memory) × IsOn m) → fault ≡ None
          none None None one ends why = refl
          none None (Some g) one ends (inl h) = absurd (cc)
          none None (Some g) one ends (inr h) = let is = h.0 in absurd (cc)
          none (Some e) fault one ends why = absurd (omega (arith, ends.0, one))

          go : (answer : Result ℕ GuestMemoryError) → r ≡ answer → MatchResult answer
              (λ count. (status_fault m old.tables es ≡ None) × WritesAt marks m last_of (status ∷ []) old new)
              (λ e. WhyNot m (status_fault m old.tables es) e × (new ≡ old))
          go (Ok count) is =
              let told : Ok count ≡ ended (length x.path) x.error = sym is ∙ moves.answered in
              let count_is = answered_count m old.tables permissions.Write last_of 1 count x f told in
              let some = ended_some count (length x.path) 1 _ x.error (omega arith) f.ends told in
              let w = wrote_front marks m last_of after (status ∷ []) old new r count fits
              (x, moves, are, written) (sym (ap (λ (a : Result ℕ GuestMemoryError). result_unwrap_or a 0) is)) in
              let one : count ≡ 1 = omega (arith, w.0, some, count_is) in (
                none x.error (status_fault m old.tables es) (count_is ∙ one) f.ends r_is.why,
                subst (λ k. WritesAt marks m last_of (take k (status ∷ [])) old new) one w.1,
              )
          go (Err e) is =
              let told : Err e ≡ ended (length x.path) x.error = sym is ∙ moves.answered in
              let w = wrote_front marks m last_of after (status ∷ []) old new r 0 fits
              (x, moves, are, written) (sym (ap (λ (a : Result ℕ GuestMemoryError). result_unwrap_or a 0) is)) in (
                why_not m (status_fault m old.tables es) e x.error (ended_error e (length x.path) x.error told) r_is.why,
                stays_none marks m last_of old new w.1,
              )

  finishes : (moved : ℕ) (answer : Result ℕ GuestMemoryError) → 0 < length es
      → Told m (status_fault m old.tables es) (gapless es (min moved (length es - 1))) (min moved (length es - 1)) answer
      → MatchBool (is_ok answer && is_none (status_fault m old.tables es))
      (WritesAt marks m last_of (status ∷ []) old new) (new ≡ old) → Finishes marks m es status moved old answer new
  finishes moved answer some told wrote =
      subst (λ b. MatchBool b ((answer ≡ Ok 0) × (new ≡ old))
      (Told m (status_fault m old.tables es) (gapless es (min moved (length es - 1))) (min moved (length es - 1)) answer
      × MatchBool (is_ok answer && is_none (status_fault m old.tables es))
      (WritesAt marks m last_of (status ∷ []) old new) (new ≡ old))) (sym (ne_eqb (length es) 0 none)) (told, wrote)
    where
      none : length es ≢ 0
      none is = absurd (omega (arith, is, some))

  -- the status was written
  pub finished : (moved n : ℕ) → 0 < length es
      → (status_fault m old.tables es ≡ None) × WritesAt marks m last_of (status ∷ []) old new
      → n ≡ gapless es (min moved (length es - 1)) → Finishes marks m es status moved old (Ok n) new
  finished moved n some (none, written) is =
      finishes moved (Ok n) some
      (inl (ap Ok is ∙ sym (ap (λ (o : Option AccessFault). answer_of o (gapless es (min moved (length es - 1)))
      (min moved (length es - 1))) none)))
      (subst (λ (o : Option AccessFault). MatchBool (is_none o) (WritesAt marks m last_of (status ∷ []) old new)
      (new ≡ old)) (sym none) written)

  -- it was not
  pub not_finished : (moved n : ℕ) (e : GuestMemoryError) → 0 < length es
      → WhyNot m (status_fault m old.tables es) e × (new ≡ old) → n ≡ min moved (length es - 1)
      → Finishes marks m es status moved old (failed e n) new
  not_finished moved n e some (why, same) is =
      subst (λ k. Finishes marks m es status moved old (failed e k) new) (sym is)
      (finishes moved (failed e (min moved (length es - 1))) some
      (told_failed m (gapless es (min moved (length es - 1))) (min moved (length es - 1))
      (status_fault m old.tables es) e why)
      (failed_stays m (gapless es (min moved (length es - 1))) (min moved (length es - 1))
      (WritesAt marks m last_of (status ∷ []) old new) (new ≡ old) (status_fault m old.tables es) e why same))

-- the bytes that are written without a gap, if the status comes next or not
pub gapless_next : (es : List Entry) (front n : ℕ) → front + 1 ≡ n → n ≡ length es → n ≡ gapless es front
gapless_next es front n next all =
    next_is (front + 1 == length es) (eq-eqb (front + 1) (length es) (next ∙ all))
  where
    next_is : (b : Bool) → b ≡ true → n ≡ (if b then front + 1 else front)
    next_is true h = sym next
    next_is false h = absurd (cc)

pub gapless_gap : (es : List Entry) (front n : ℕ) → front + 1 ≢ n → n ≡ length es → front ≡ gapless es front
gapless_gap es front n gap all =
    gap_is (front + 1 == length es) (ne_eqb (front + 1) (length es) (λ is. gap (is ∙ sym all)))
  where
    gap_is : (b : Bool) → b ≡ false → front ≡ (if b then front + 1 else front)
    gap_is true h = absurd (cc)
    gap_is false h = refl

-- ---- what is answered

-- a header that came, and what is made of it
told_map : {X Y : Type 0} (m : Memory) (fault : Option AccessFault) (x y : X) (f : X → Y) (without : Y)
    → Told m fault (Some x) None (Ok (Some y)) → Told m fault (f x) without (Ok (f y))
told_map m None x y f without (inl is) = let same : y ≡ x = cc in inl (ap (λ z. Ok (f z)) same)
told_map m (Some (NoRegion a)) x y f without (inl is) = absurd (cc)
told_map m (Some NoHostBytes) x y f without (inl is) = absurd (cc)
told_map m (Some (Refused iova len reason)) x y f without (inl is) = absurd (cc)
told_map m fault x y f without (inr (is, on)) = absurd (cc)

or-false : (b c : Bool) → (b || c) ≡ false → c ≡ false
or-false true c h = absurd (cc)
or-false false c h = h

module _ {S : Type 0} (look : S → List Entry → ℕ → Result (List ℕ) GuestMemoryError → S → Type 0) (limits : DeviceLimits)
    (is_broken : Bool) (given room : List Entry) where
  abbrev request_by : List ℕ → Request
  request_by bytes = request_of limits bytes (length given - 16) (length room - 1)

  abbrev Looked : S → Result Request GuestMemoryError → S → Type 0
  Looked old answer new = (header : Result (List ℕ) GuestMemoryError) × FindsAll look given 16 old header new
      × (answer ≡ by_access header request_by (requests.Refused 1))

  -- a chain with no byte for the status is not looked at, and neither is one that is refused for what it is
  pub begun_unserved : (s : S) → length room ≡ 0 → BeginsBy look limits is_broken given room s (Ok requests.Unserved) s
  unfolding BeginsBy
  begun_unserved s none =
      let refused = (◌≡◌ {A = Result Request GuestMemoryError} (Ok requests.Unserved) (Ok (requests.Refused 1))) × (s ≡ s) in
      let unserved = (◌≡◌ {A = Result Request GuestMemoryError} (Ok requests.Unserved) (Ok requests.Unserved)) × (s ≡ s) in
      subst (λ b. MatchBool b unserved (MatchBool (is_broken || nat_lt (length given) 16) refused (Looked s (Ok requests.Unserved) s)))
      (sym (eq-eqb (length room) 0 none)) (refl, refl)

  pub begun_refused : (s : S) → length room ≢ 0 → (is_broken ≡ true) ⊎ (length given < 16)
      → BeginsBy look limits is_broken given room s (Ok (requests.Refused 1)) s
  unfolding BeginsBy
  begun_refused s some is =
      let unserved = (◌≡◌ {A = Result Request GuestMemoryError} (Ok (requests.Refused 1)) (Ok requests.Unserved)) × (s ≡ s) in
      let refused = (◌≡◌ {A = Result Request GuestMemoryError} (Ok (requests.Refused 1)) (Ok (requests.Refused 1))) × (s ≡ s) in
      subst (λ b. MatchBool b unserved (MatchBool (is_broken || nat_lt (length given) 16) refused
      (Looked s (Ok (requests.Refused 1)) s))) (sym (ne_eqb (length room) 0 some))
      (subst (λ b. MatchBool b refused (Looked s (Ok (requests.Refused 1)) s)) (sym (either is_broken is)) (refl, refl))
    where
      either : (b : Bool) → (b ≡ true) ⊎ (length given < 16) → (b || nat_lt (length given) 16) ≡ true
      either true h = refl
      either false (inl h) = absurd (cc)
      either false (inr h) = lt-ltb (length given) 16 h

  -- a chain that keeps the limits is looked at
  pub begun_by : (old new : S) (answer : Result Request GuestMemoryError) (header : Result (List ℕ) GuestMemoryError)
      → length room ≢ 0 → is_broken ≡ false → 16 ≤ length given → FindsAll look given 16 old header new
      → answer ≡ by_access header request_by (requests.Refused 1)
      → BeginsBy look limits is_broken given room old answer new
  unfolding BeginsBy
  begun_by old new answer header some kept enough found is =
      let refused = (answer ≡ Ok (requests.Refused 1)) × (new ≡ old) in
      subst (λ b. MatchBool b ((answer ≡ Ok requests.Unserved) × (new ≡ old))
      (MatchBool (is_broken || nat_lt (length given) 16) refused (Looked old answer new)))
      (sym (ne_eqb (length room) 0 some))
      (subst (λ b. MatchBool (b || nat_lt (length given) 16) refused (Looked old answer new)) (sym kept)
      (subst (λ b. MatchBool b refused (Looked old answer new)) (sym (le-ltb (length given) 16 enough))
      (header, found, is)))

-- on memory that stands still this is the answer that it holds
module _ {S B : Type 0} (look : S → List Entry → ℕ → Result (List ℕ) GuestMemoryError → S → Type 0) (limits : DeviceLimits)
    (is_broken : Bool) (given room : List Entry) (s new : S) (answer : Result Request GuestMemoryError)
    (begins : BeginsBy look limits is_broken given room s answer new) (m : Memory) (host : Host B)
    (still : (ls : List Entry) (n : ℕ) (found : Result (List ℕ) GuestMemoryError) (after : S)
    → look s ls n found after → FoundBy m host ls n found × (after ≡ s)) (goes : Goes given) where
  pub begins_still : Begins m host limits is_broken given room answer
  unfolding BeginsBy
  begins_still = go (length room == 0) (is_broken || nat_lt (length given) 16) refl begins
    where
      told : 16 ≤ length given → Looked look limits is_broken given room s answer new
          → Told m (header_fault m host.tables given) (request_by look limits is_broken given room (text_bytes m host given 16))
          (requests.Refused 1) answer
      told enough (Ok bytes, found, is) =
          subst (λ (a : Result Request GuestMemoryError). Told m (header_fault m host.tables given)
          (request_by look limits is_broken given room (text_bytes m host given 16)) (requests.Refused 1) a) (sym is)
          (told_map m (header_fault m host.tables given) (text_bytes m host given 16) bytes
          (request_by look limits is_broken given room) (requests.Refused 1)
          (header_found m host given look s still goes enough (Ok bytes) new found))
      told enough (Err e, found, is) =
          subst (λ (a : Result Request GuestMemoryError). Told m (header_fault m host.tables given)
          (request_by look limits is_broken given room (text_bytes m host given 16)) (requests.Refused 1) a) (sym is)
          (told_failed m (request_by look limits is_broken given room (text_bytes m host given 16)) (requests.Refused 1)
          (header_fault m host.tables given) e
          (header_found m host given look s still goes enough (Err e) new found))

      go : (a b : Bool) → (is_broken || nat_lt (length given) 16) ≡ b
          → MatchBool a ((answer ≡ Ok requests.Unserved) × (new ≡ s))
          (MatchBool b ((answer ≡ Ok (requests.Refused 1)) × (new ≡ s))
          (Looked look limits is_broken given room s answer new))
          → MatchBool a (answer ≡ Ok requests.Unserved) (MatchBool b (answer ≡ Ok (requests.Refused 1))
          (Told m (header_fault m host.tables given)
          (request_by look limits is_broken given room (text_bytes m host given 16)) (requests.Refused 1) answer))
      go true b is h = h.0
      go false true is h = h.0
      go false false is h =
          told (ltb-false (length given) 16 (or-false is_broken (nat_lt (length given) 16) is)) h

-- ---- how a status is told

-- a writer that skipped all but the last byte
module _ (es all left : List Entry) (len passed : ℕ) (is : all ≡ es) (size : len ≡ length all) (some : len ≢ 0)
    (count : passed ≡ min (len - 1) (length all)) (place : left ≡ drop passed all) where
  pub last_place : left ≡ drop (length es - 1) es
  last_place =
      let so : passed ≡ length es - 1 = omega (arith, count, size, ap length is) in
      place ∙ ap (drop passed) is ∙ ap (λ k. drop k es) so

  pub last_size : 1 ≤ length left
  last_size = omega (arith, ap length last_place, length-drop (length es - 1) es, some, size, ap length is)

module _ {S : Type 0} (store : S → List Entry → List ℕ → Result ℕ GuestMemoryError → S → Type 0) (es : List Entry)
    (status moved : ℕ) where
  pub finished_none : (s : S) → length es ≡ 0 → FinishesBy store es status moved s (Ok 0) s
  unfolding FinishesBy
  finished_none s none =
      subst (λ b. MatchBool b ((◌≡◌ {A = Result ℕ GuestMemoryError} (Ok 0) (Ok 0)) × (s ≡ s))
      ((r : Result ℕ GuestMemoryError) × store s (drop (length es - 1) es) (status ∷ []) r s
      × (◌≡◌ {A = Result ℕ GuestMemoryError} (Ok 0) (by_access r (λ count. gapless es (min moved (length es - 1))) (min moved (length es - 1))))))
      (sym (eq-eqb (length es) 0 none)) (refl, refl)

  pub finished_by : (old new : S) (answer stored : Result ℕ GuestMemoryError) → length es ≢ 0
      → store old (drop (length es - 1) es) (status ∷ []) stored new
      → answer ≡ by_access stored (λ count. gapless es (min moved (length es - 1))) (min moved (length es - 1))
      → FinishesBy store es status moved old answer new
  unfolding FinishesBy
  finished_by old new answer stored some put is =
      subst (λ b. MatchBool b ((answer ≡ Ok 0) × (new ≡ old))
      ((r : Result ℕ GuestMemoryError) × store old (drop (length es - 1) es) (status ∷ []) r new
      × (answer ≡ by_access r (λ count. gapless es (min moved (length es - 1))) (min moved (length es - 1)))))
      (sym (ne_eqb (length es) 0 some)) (stored, put, is)

module _ {S : Type 0} (store : S → List Entry → List ℕ → Result ℕ GuestMemoryError → S → Type 0) (es : List Entry)
    (status moved : ℕ) (old new : S) (answer : Result ℕ GuestMemoryError)
    (finishes : FinishesBy store es status moved old answer new) where
  -- what a store keeps is kept
  pub keeps_name : {N : Type 0} (name : S → N)
      → ((ls : List Entry) (bytes : List ℕ) (stored : Result ℕ GuestMemoryError) → store old ls bytes stored new
      → name new ≡ name old) → name new ≡ name old
  unfolding FinishesBy
  keeps_name {N} name kept = go (length es == 0) finishes
    where
      go : (b : Bool) → MatchBool b ((answer ≡ Ok 0) × (new ≡ old))
          ((stored : Result ℕ GuestMemoryError) × store old (drop (length es - 1) es) (status ∷ []) stored new
          × (answer ≡ by_access stored (λ count. gapless es (min moved (length es - 1))) (min moved (length es - 1))))
          → name new ≡ name old
      go true (told, same) = ap name same
      go false (stored, put, is) = kept (drop (length es - 1) es) (status ∷ []) stored put

  -- in memory that only this writes the status is told
  pub finishes_still : {B : Type 0} (at : S → Host B) (marks : B → ℕ → ℕ → B → Type 0) (m : Memory)
      → ((ls : List Entry) (bytes : List ℕ) (stored : Result ℕ GuestMemoryError)
      → store old ls bytes stored new → PutBy marks m ls bytes (at old) stored (at new))
      → Finishes marks m es status moved (at old) answer (at new) × (shape_of (at new) ≡ shape_of (at old))
  unfolding FinishesBy
  finishes_still {B} at marks m still = go (length es == 0) refl finishes
    where
      go : (b : Bool) → (length es == 0) ≡ b → MatchBool b ((answer ≡ Ok 0) × (new ≡ old))
          ((stored : Result ℕ GuestMemoryError) × store old (drop (length es - 1) es) (status ∷ []) stored new
          × (answer ≡ by_access stored (λ count. gapless es (min moved (length es - 1))) (min moved (length es - 1))))
          → Finishes marks m es status moved (at old) answer (at new) × (shape_of (at new) ≡ shape_of (at old))
      go true none (is, same) = (
        subst (λ b. MatchBool b ((answer ≡ Ok 0) × (at new ≡ at old))
            (Told m (status_fault m (at old).tables es) (gapless es (min moved (length es - 1)))
            (min moved (length es - 1)) answer
            × MatchBool (is_ok answer && is_none (status_fault m (at old).tables es))
            (WritesAt marks m (drop (length es - 1) es) (status ∷ []) (at old) (at new)) (at new ≡ at old))) (sym none)
            (is, ap at same),
        ap (λ s. shape_of (at s)) same,
      )
      go false none (Ok count, put, is) =
          let some : 0 < length es = let not = eqb-false (length es) 0 none in omega (arith, not) in
          let ((left, wrote), shape) = still (drop (length es - 1) es) (status ∷ []) (Ok count) put in (
            subst (λ (a : Result ℕ GuestMemoryError). Finishes marks m es status moved (at old) a (at new)) (sym is)
                (finished marks m es (at old) (at new) status moved (gapless es (min moved (length es - 1))) some
                (status_written marks m es (at old) (at new) status (drop (length es - 1) es) left (Ok count) some refl
                wrote) refl),
            shape,
          )
      go false none (Err e, put, is) =
          let some : 0 < length es = let not = eqb-false (length es) 0 none in omega (arith, not) in
          let ((left, wrote), shape) = still (drop (length es - 1) es) (status ∷ []) (Err e) put in (
            subst (λ (a : Result ℕ GuestMemoryError). Finishes marks m es status moved (at old) a (at new)) (sym is)
                (not_finished marks m es (at old) (at new) status moved (min moved (length es - 1)) e some
                (status_written marks m es (at old) (at new) status (drop (length es - 1) es) left (Err e) some refl
                wrote) refl),
            shape,
          )

-- what a reference that a call kept holds then is what its caller finds
module _ {X N : Type 0} {was is : N} {x : X} (left : X) (same : is ≡ was) where
  pub left_after : (P : X → Type 0) → (was ≡ is → x ≡ left) → P left → P x
  left_after P follows h = subst P (sym (follows (sym same))) h
