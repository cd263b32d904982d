-- Texts: what calls over them reach, address by address.
use Rattle.std.proofs.Common.{◌≡◌, ◌==◌, ◌∙◌, inl, inr, ℕ, zero, suc, ◌+◌, ◌-◌, ◌<◌, ◌≤◌, Bool, true, false, not, ◌&&◌, if◌then◌else◌, List, [], ◌∷◌, ◌++◌, length, take, drop, sum_by, Option, Some, None, option_map, Result, Ok, Err, IfOk, MatchBool, MatchOption, nat_lt, ◌^◌, refl, sym, ap, subst, arith, length-append, length-drop, length-take, append-nil, take_all}
use Rattle.std.proofs.lemmas.List.{drop-drop, drop_all, drop_at, length-map, length-take-le, map-append, take-take, take_at}
use borrow.Rule.Slice.PartMut.{put_mid}
use Rattle.std.proofs.lemmas.List.Sums.{sum_by-append, sum_by-cons}
use Rattle.std.proofs.Math.Seq.{take-add}
use Rattle.vm_memory_base.specs.Table.{Table}
use Rattle.std.proofs.lemmas.Bool.{eqb-false, eqb-true}
use Rattle.vm_memory_base.specs.declared.iotlb.Permissions.{Permissions}
use Rattle.vm_memory_base.specs.declared.iotlb.Permissions.TheVariants.{Read, Write}
use Rattle.vm_memory_guest.specs.Access.{AccessFault, Meets, NoHostBytes, NoRegion, Reached, Reaches, Refused, Stops, allowed, meets, onto, or_fault, refusal}
use Rattle.std.specs.Result.{result_unwrap_or}
use Rattle.std.specs.List.{flat_map}
use Rattle.std.proofs.lemmas.List.Concat.{flat_map-append}
use Rattle.std.proofs.lemmas.List.Elements.{All-append, All-nil}
use Rattle.vm_memory_guest.specs.Dirt.{path_cells, path_marks, window_marks}
use Rattle.vm_memory_guest.specs.Error.{error_of}
use Rattle.vm_memory_guest.specs.Host.{Cell, Host, byte_at, bytes_at, shape_of, written}
use Rattle.vm_memory_guest.specs.Memory.{Memory, route}
use Rattle.vm_memory_guest.specs.Transfer.{ended}
use Rattle.vm_memory_guest.specs.Window.{Marks, MarksAll, Window, Writes, cells, cells_of, span}
use Rattle.vm_memory_guest.proofs.MarkLaws.{Writes-append, Writes-take, tables-Writes}
use Rattle.vm_memory_guest.proofs.WrittenLaws.{length-cells, span-cons}
use Rattle.vm_memory_guest.specs.declared.region.error.GuestMemoryError.{GuestMemoryError}
use Rattle.vm_memory_device.specs.Chain.{AreWindowsOf, Entry, Extends, Extent, MayWantAt, ReadsText, WritesText, access_len, meets_entry, text_fault, text_path, text_windows}
use Rattle.virtio_blk.specs.Inside.{is_memory}
use Rattle.virtio_blk.specs.Texts as texts
use Rattle.virtio_blk.specs.Texts.{Accessed, AreAllowed, StopsAt, StopsWithin, WritesAt, reached, text_bytes}

module _ (m : Memory) (tables : List Table) where
  -- ---- the bytes that the addresses of a text lead to

  pub length-reached : (es : List Entry) → length (reached m tables es) ≤ length es
  unfolding reached
  length-reached [] = omega arith
  length-reached (e ∷ es) = go (meets m.regions (route m tables) e.address 0) (length-reached es)
    where
      go : (x : Meets) → length (reached m tables es) ≤ length es
          → length (onto x (reached m tables es)) ≤ suc (length es)
      go (Reaches r) h = omega arith
      go (Stops f) h = omega arith

  pub reached-drop : (n : ℕ) (es : List Entry) → n ≤ length (reached m tables es)
      → reached m tables (drop n es) ≡ drop n (reached m tables es)
  unfolding reached
  reached-drop zero es h = refl
  reached-drop (suc n) [] h = refl
  reached-drop (suc n) (e ∷ es) h = go (meets m.regions (route m tables) e.address 0) h (reached-drop n es)
    where
      go : (x : Meets) → suc n ≤ length (onto x (reached m tables es))
          → (n ≤ length (reached m tables es) → reached m tables (drop n es) ≡ drop n (reached m tables es))
          → reached m tables (drop n es) ≡ drop (suc n) (onto x (reached m tables es))
      go (Reaches r) h rest = rest (omega arith)
      go (Stops f) h rest = absurd (omega arith)

  pub reached-take : (n : ℕ) (es : List Entry) → reached m tables (take n es) ≡ take n (reached m tables es)
  unfolding reached
  reached-take zero es = refl
  reached-take (suc n) [] = refl
  reached-take (suc n) (e ∷ es) = go (meets m.regions (route m tables) e.address 0) (reached-take n es)
    where
      go : (x : Meets) → reached m tables (take n es) ≡ take n (reached m tables es)
          → onto x (reached m tables (take n es)) ≡ take (suc n) (onto x (reached m tables es))
      go (Reaches r) h = ap (λ rs. r ∷ rs) h
      go (Stops f) h = refl

  -- ---- what a call reaches of them

  -- a path is the front of what is reached
  path_is_front : (access : Permissions) (b : Bool) (es : List Entry)
      → let p = text_path m.regions (route m tables) access b es in p ≡ take (length p) (reached m tables es)
  unfolding text_path reached
  path_is_front access b [] = refl
  path_is_front access b (e ∷ es) =
      let n = access_len (e ∷ es) in
      go (b && not (allowed (route m tables) e.address n access)) (refusal (route m tables) e.address n)
      (meets m.regions (route m tables) e.address 0) (path_is_front access e.ends es)
    where
      go : (c : Bool) (f : AccessFault) (x : Meets)
          → (let q = text_path m.regions (route m tables) access e.ends es in q ≡ take (length q) (reached m tables es))
          → let p = onto (if c then Stops f else x) (text_path m.regions (route m tables) access e.ends es) in
          p ≡ take (length p) (onto x (reached m tables es))
      go true f x h = refl
      go false f (Reaches r) h = ap (λ rs. r ∷ rs) h
      go false f (Stops g) h = refl

  -- a text of n addresses ended after k of them
  abbrev pub EndsAt : Option AccessFault → ℕ → ℕ → Type 0
  EndsAt fault k n = MatchOption fault (k ≡ n) (λ f. k < n)

  one_more : (fault : Option AccessFault) (k n : ℕ) → EndsAt fault k n → EndsAt fault (suc k) (suc n)
  one_more None k n h = ap suc h
  one_more (Some f) k n h = omega arith

  pub path_ends : (access : Permissions) (b : Bool) (es : List Entry)
      → EndsAt (text_fault m.regions (route m tables) access b es)
      (length (text_path m.regions (route m tables) access b es)) (length es)
  unfolding text_path text_fault
  path_ends access b [] = refl
  path_ends access b (e ∷ es) =
      go (meets_entry m.regions (route m tables) access b e es) (path_ends access e.ends es)
    where
      go : (x : Meets) → EndsAt (text_fault m.regions (route m tables) access e.ends es)
          (length (text_path m.regions (route m tables) access e.ends es)) (length es)
          → EndsAt (or_fault x (text_fault m.regions (route m tables) access e.ends es))
          (length (onto x (text_path m.regions (route m tables) access e.ends es))) (suc (length es))
      go (Reaches r) h = one_more (text_fault m.regions (route m tables) access e.ends es)
          (length (text_path m.regions (route m tables) access e.ends es)) (length es) h
      go (Stops f) h = omega arith

  -- ---- calls

  -- a call over the first n entries of a text that ended for an error reached fewer. Where it reached none, this is why
  abbrev pub Cause : Permissions → List Entry → ℕ → List Reached → GuestMemoryError → Type 0
  Cause access es n path e = (length path < n) × (length path ≡ 0 → texts.Stops m tables access es n (is_memory e))

  -- what a call over the first n entries of a text reached is the front of the text. It ended there, or stopped
  pub record Fronts (access : Permissions) (es : List Entry) (n : ℕ) (x : Extent) : Type 0 where
    pub within : length x.path ≤ length (reached m tables es)
    pub front : x.path ≡ take (length x.path) (reached m tables es)
    pub allowed : length x.path ≤ length (text_path m.regions (route m tables) access true (take n es))
    pub ends : MatchOption x.error (length x.path ≡ n) (Cause access es n x.path)

  pub front_within : (xs ys : List Reached) → xs ≡ take (length xs) ys → length xs ≤ length ys
  front_within xs ys h = omega (arith, ap length h, length-take (length xs) ys)

  -- a fault is no want of memory
  own_fault : (f : AccessFault) → is_memory (error_of f) ≡ false
  own_fault (NoRegion a) = refl
  own_fault NoHostBytes = refl
  own_fault (Refused iova len reason) = refl

  nothing : (xs : List Reached) → length xs ≡ 0 → xs ≡ []
  nothing [] h = refl
  nothing (x ∷ xs) h = absurd (omega (arith, h))

  -- a call stops at a fault that it meets first
  pub stops_there : (access : Permissions) (es : List Entry) (n : ℕ) (f : AccessFault)
      → let p = text_path m.regions (route m tables) access true (take n es) in
      length p < length (take n es) → length p ≡ 0 → texts.Stops m tables access es n false
  stops_there access es n f short none = record {
    some = omega (arith, short);
    why = nothing (text_path m.regions (route m tables) access true (take n es)) none;
  }

  ends_told : (access : Permissions) (es : List Entry) (n : ℕ) → n ≤ length es → (fault : Option AccessFault)
      → let p = text_path m.regions (route m tables) access true (take n es) in
      EndsAt fault (length p) (length (take n es))
      → MatchOption (option_map error_of fault) (length p ≡ n) (Cause access es n p)
  ends_told access es n fits None h = h ∙ length-take-le n es fits
  ends_told access es n fits (Some f) short = (
    omega (arith, short, length-take-le n es fits),
    λ none. subst (λ b. texts.Stops m tables access es n b) (sym (own_fault f))
        (stops_there access es n f short none),
  )

  -- what is reached of the first n entries
  pub front_of : (access : Permissions) (es : List Entry) (n : ℕ) → n ≤ length es
      → let p = text_path m.regions (route m tables) access true (take n es) in
      p ≡ take (length p) (reached m tables es)
  front_of access es n fits =
      let p = text_path m.regions (route m tables) access true (take n es) in
      let q = path_is_front access true (take n es) in
      let a = front_within p (reached m tables (take n es)) q in
      let b = length-reached (take n es) in
      let short : length p ≤ n = omega (arith, a, b, length-take-le n es fits) in
      q ∙ ap (take (length p)) (reached-take n es) ∙ take-take (length p) n (reached m tables es) short

  pub extends-front : (access : Permissions) (es : List Entry) (n : ℕ) (x : Extent) → n ≤ length es
      → Extends m tables access (take n es) x → Fronts access es n x
  extends-front access es n x fits (inl e) =
      let p = text_path m.regions (route m tables) access true (take n es) in
      let front = front_of access es n fits in
      subst (λ (y : Extent). Fronts access es n y) (sym e) (record {
        within = front_within p (reached m tables es) front;
        front = front;
        allowed = omega arith;
        ends = ends_told access es n fits (text_fault m.regions (route m tables) access true (take n es))
            (path_ends access true (take n es));
      })
  extends-front access es n x fits (inr (k, wants, e)) =
      let p = text_path m.regions (route m tables) access true (take n es) in
      let count : length (take k p) ≡ k = length-take-le k p wants.reached in
      let short : k < n = omega (arith, wants.more, length-take-le n es fits) in
      let front : take k p ≡ take (length (take k p)) (reached m tables es) =
      ap (take k) (front_of access es n fits) ∙ take-take k (length p) (reached m tables es) wants.reached
      ∙ ap (λ j. take j (reached m tables es)) (sym count) in
      subst (λ (y : Extent). Fronts access es n y) (sym e) (record {
        within = front_within (take k p) (reached m tables es) front;
        front = front;
        allowed = omega (arith, count, wants.reached);
        ends = (
          omega (arith, short, count),
          λ none. record {
            some = omega (arith, wants.more);
            why = subst (λ j. MayWantAt m tables access (take n es) j) (sym count ∙ none) wants;
          },
        );
      })

  -- what a call answered that reached this
  pub answered_all : (access : Permissions) (es : List Entry) (n : ℕ) (x : Extent) → Fronts access es n x
      → Ok n ≡ ended (length x.path) x.error
      → length x.path ≡ n
  answered_all access es n x f h = go x.error f.ends h
    where
      go : (o : Option GuestMemoryError) → MatchOption o (length x.path ≡ n)
          (Cause access es n x.path) → Ok n ≡ ended (length x.path) o
          → length x.path ≡ n
      go None ends h = ends
      go (Some e) ends h = told (length x.path == 0) h
        where
          told : (b : Bool) → Ok n ≡ (if b then Err e else Ok (length x.path)) → length x.path ≡ n
          told true h = absurd (cc)
          told false h = cc

  pub answered_count : (access : Permissions) (es : List Entry) (n k : ℕ) (x : Extent) → Fronts access es n x
      → Ok k ≡ ended (length x.path) x.error
      → length x.path ≡ k
  answered_count access es n k x f h = go x.error h
    where
      go : (o : Option GuestMemoryError) → Ok k ≡ ended (length x.path) o → length x.path ≡ k
      go None h = cc
      go (Some e) h = told (length x.path == 0) h
        where
          told : (b : Bool) → Ok k ≡ (if b then Err e else Ok (length x.path)) → length x.path ≡ k
          told true h = absurd (cc)
          told false h = cc

  pub answered_none : (access : Permissions) (es : List Entry) (n : ℕ) (x : Extent) (e : GuestMemoryError)
      → Fronts access es n x
      → Err e ≡ ended (length x.path) x.error
      → (length x.path ≡ 0) × (0 < n) × texts.Stops m tables access es n (is_memory e)
  answered_none access es n x e f h = go x.error f.ends h
    where
      go : (o : Option GuestMemoryError) → MatchOption o (length x.path ≡ n) (Cause access es n x.path)
          → Err e ≡ ended (length x.path) o
          → (length x.path ≡ 0) × (0 < n) × texts.Stops m tables access es n (is_memory e)
      go None ends h = absurd (cc)
      go (Some f) ends h = told (length x.path == 0) refl h
        where
          told : (b : Bool) → (length x.path == 0) ≡ b → Err e ≡ (if b then Err f else Ok (length x.path))
              → (length x.path ≡ 0) × (0 < n) × texts.Stops m tables access es n (is_memory e)
          told true is h =
              let none : length x.path ≡ 0 = eqb-true (length x.path) 0 is in
              let same : f ≡ e = cc in (
                none,
                omega (arith, ends.0),
                subst (λ (d : GuestMemoryError). texts.Stops m tables access es n (is_memory d)) same (ends.1 none),
              )
          told false is h = absurd (cc)

  -- a call that answers a number moved something
  pub answered_some : (access : Permissions) (es : List Entry) (n k : ℕ) (x : Extent) → Fronts access es n x
      → Ok k ≡ ended (length x.path) x.error → 0 < n → 0 < length x.path
  answered_some access es n k x f h some = go x.error f.ends h
    where
      go : (o : Option GuestMemoryError) → MatchOption o (length x.path ≡ n) (Cause access es n x.path)
          → Ok k ≡ ended (length x.path) o → 0 < length x.path
      go None ends h = omega (arith, ends, some)
      go (Some e) ends h = told (length x.path == 0) refl h
        where
          told : (b : Bool) → (length x.path == 0) ≡ b → Ok k ≡ (if b then Err e else Ok (length x.path))
              → 0 < length x.path
          told true is h = absurd (cc)
          told false is h = let more = eqb-false (length x.path) 0 is in omega (arith, more)

  -- a call reaches no more than it was to
  path_most : (access : Permissions) (ls : List Entry) (k : ℕ)
      → length (text_path m.regions (route m tables) access true (take k ls)) ≤ k
  path_most access ls k = go (text_fault m.regions (route m tables) access true (take k ls))
      (path_ends access true (take k ls))
    where
      go : (o : Option AccessFault)
          → EndsAt o (length (text_path m.regions (route m tables) access true (take k ls))) (length (take k ls))
          → length (text_path m.regions (route m tables) access true (take k ls)) ≤ k
      go None h = omega (arith, h, length-take k ls)
      go (Some f) h = omega (arith, h, length-take k ls)

-- ---- allowed accesses

module _ (m : Memory) (tables : List Table) (access : Permissions) where
  pub accessed_none : (es : List Entry) → Accessed m tables access es 0
  accessed_none es = record { calls = []; count = refl; allowed = tt }

  -- one call
  pub accessed_one : (es : List Entry) (most n : ℕ)
      → n ≤ length (text_path m.regions (route m tables) access true (take most es)) → Accessed m tables access es n
  accessed_one es most n h = record { calls = (most, n) ∷ []; count = omega arith; allowed = (h, tt) }

  allowed-append : (cs ds : List (ℕ × ℕ)) (es : List Entry) → AreAllowed m tables access cs es
      → AreAllowed m tables access ds (drop (sum_by (λ (c : ℕ × ℕ). c.1) cs) es)
      → AreAllowed m tables access (cs ++ ds) es
  allowed-append [] ds es h k = k
  allowed-append (c ∷ cs) ds es h k = (
    h.0,
    allowed-append cs ds (drop c.1 es) h.1
        (subst (λ (ls : List Entry). AreAllowed m tables access ds ls)
        (ap (λ n. drop n es) (sum_by-cons (λ (c : ℕ × ℕ). c.1) c cs)
        ∙ sym (drop-drop (sum_by (λ (c : ℕ × ℕ). c.1) cs) c.1 es)) k),
  )

  -- calls after others
  pub accessed-append : (es : List Entry) (n k : ℕ) → Accessed m tables access es n
      → Accessed m tables access (drop n es) k → Accessed m tables access es (n + k)
  accessed-append es n k front behind = record {
    calls = front.calls ++ behind.calls;
    count = omega (arith, sum_by-append (λ (c : ℕ × ℕ). c.1) front.calls behind.calls, front.count, behind.count);
    allowed = allowed-append front.calls behind.calls es front.allowed
        (subst (λ j. AreAllowed m tables access behind.calls (drop j es)) (sym front.count) behind.allowed);
  }

-- ---- reads

module _ {B : Type 0} (m : Memory) (host : Host B) (es : List Entry) where
  pub length-text_bytes : (n : ℕ) → n ≤ length (reached m host.tables es) → length (text_bytes m host es n) ≡ n
  length-text_bytes n h =
      length-map (path_cells (take n (reached m host.tables es))) (byte_at host.blocks)
      ∙ length-map (take n (reached m host.tables es)) (λ (x : Reached). x.cell)
      ∙ length-take-le n (reached m host.tables es) h

  pub text_bytes-add : (n k : ℕ) → n ≤ length (reached m host.tables es)
      → text_bytes m host es (n + k) ≡ text_bytes m host es n ++ text_bytes m host (drop n es) k
  text_bytes-add n k h =
      let r = reached m host.tables es in
      ap (λ (xs : List Reached). bytes_at host.blocks (path_cells xs)) (take-add n k r)
      ∙ ap (bytes_at host.blocks) (map-append (λ (x : Reached). x.cell) (take n r) (take k (drop n r)))
      ∙ map-append (byte_at host.blocks) (path_cells (take n r)) (path_cells (take k (drop n r)))
      ∙ ap (λ (xs : List Reached). text_bytes m host es n ++ bytes_at host.blocks (path_cells (take k xs)))
      (sym (reached-drop m host.tables n es h))

  -- so many of the first n bytes came to the front of a buffer
  pub record ReadSoFar (n filled : ℕ) (buffer : List ℕ) (left : List Entry) : Type 0 where
    pub most : filled ≤ n
    pub size : length buffer ≡ n
    pub within : filled ≤ length (reached m host.tables es)
    pub access : Accessed m host.tables Read es filled
    pub front : take filled buffer ≡ text_bytes m host es filled
    pub place : left ≡ drop filled es

  pub read_none : (buffer : List ℕ) → ReadSoFar (length buffer) 0 buffer es
  read_none buffer = record {
    most = omega arith;
    size = refl;
    within = omega arith;
    access = accessed_none m host.tables Read es;
    front = refl;
    place = refl;
  }

  abbrev pub rest_of : ℕ → List ℕ → List ℕ
  rest_of filled buffer = take (length buffer - filled) (drop filled buffer)

  -- what a call reads that goes on
  module _ (n filled : ℕ) (buffer got : List ℕ) (left after : List Entry) (fits : n ≤ length es)
      (h : ReadSoFar n filled buffer left) (short : filled < n) where
    rest_size : length (rest_of filled buffer) ≡ n - filled
    rest_size =
        omega (arith, length-take (length buffer - filled) (drop filled buffer), length-drop filled buffer, h.size)

    rest_fits : length (rest_of filled buffer) ≤ length left
    rest_fits = omega (arith, rest_size, ap length h.place, length-drop filled es, fits)

    part : put_mid filled (length buffer - filled) buffer got ≡ take filled buffer ++ got
    part =
        ap (λ (xs : List ℕ). take filled buffer ++ (got ++ xs))
        (drop_all (length buffer - filled) (drop filled buffer) (omega (arith, length-drop filled buffer)))
        ∙ ap (λ (xs : List ℕ). take filled buffer ++ xs) (append-nil got)

    pub read_more : (count : ℕ) → ReadsText m host left (rest_of filled buffer) (Ok count) after got
        → (0 < count) × ReadSoFar n (filled + count) (put_mid filled (length buffer - filled) buffer got) after
    read_more count (x, moves, is) =
        let k = length (rest_of filled buffer) in
        let f = extends-front m host.tables Read left k x rest_fits moves.reached in
        let count_is = answered_count m host.tables Read left k count x f moves.answered in
        let some = answered_some m host.tables Read left k count x f moves.answered (omega (arith, rest_size, short)) in
        let r = reached m host.tables es in
        let behind : reached m host.tables left ≡ drop filled r =
        ap (reached m host.tables) h.place ∙ reached-drop m host.tables filled es h.within in
        let all : length (text_path m.regions (route m host.tables) Read true (take k left)) ≤ k =
        path_most m host.tables Read left k in
        let few : count ≤ k = omega (arith, count_is, f.allowed, all) in
        let cells : length (path_cells x.path) ≡ count = length-map x.path (λ (y : Reached). y.cell) ∙ count_is in
        let came : bytes_at host.blocks (path_cells x.path) ≡ text_bytes m host left count =
        ap (λ (xs : List Reached). bytes_at host.blocks (path_cells xs))
        (f.front ∙ ap (λ j. take j (reached m host.tables left)) count_is) in
        let got_is : got ≡ text_bytes m host left count ++ drop count (rest_of filled buffer) =
        is ∙ ap (λ j. bytes_at host.blocks (path_cells x.path) ++ drop j (rest_of filled buffer)) cells
        ∙ ap (λ (xs : List ℕ). xs ++ drop count (rest_of filled buffer)) came in
        let came_size : length (text_bytes m host left count) ≡ count =
        ap length (sym came) ∙ length-map (path_cells x.path) (byte_at host.blocks) ∙ cells in
        let size : length (take filled buffer) ≡ filled =
        length-take-le filled buffer (omega (arith, h.size, short)) in (
          omega (arith, some, count_is),
          subst (λ (xs : List ℕ). ReadSoFar n (filled + count) xs after) (sym part) (record {
            most = omega (arith, few, rest_size);
            size = ap (λ (xs : List ℕ). length (take filled buffer ++ xs)) got_is
                ∙ length-append (take filled buffer) (text_bytes m host left count ++ drop count (rest_of filled buffer))
                ∙ (let e : length (take filled buffer)
                + length (text_bytes m host left count ++ drop count (rest_of filled buffer)) ≡ n = omega (
                  arith,
                  size,
                  length-append (text_bytes m host left count) (drop count (rest_of filled buffer)),
                  came_size,
                  length-drop count (rest_of filled buffer),
                  rest_size,
                  few,
                  short,
                ) in e);
            within = omega (arith, f.within, count_is, ap length behind, length-drop filled r, h.within);
            access = accessed-append m host.tables Read es filled count h.access
                (subst (λ (ls : List Entry). Accessed m host.tables Read ls count) h.place
                (accessed_one m host.tables Read left k count (omega (arith, f.allowed, count_is))));
            front = take-add filled count (take filled buffer ++ got)
                ∙ ap (λ (xs : List ℕ). xs ++ take count (drop filled (take filled buffer ++ got)))
                (take_at (take filled buffer) got filled size ∙ h.front)
                ∙ ap (λ (xs : List ℕ). text_bytes m host es filled ++ take count xs)
                (drop_at (take filled buffer) got filled size)
                ∙ ap (λ (xs : List ℕ). text_bytes m host es filled ++ xs)
                (ap (take count) got_is
                ∙ take_at (text_bytes m host left count) (drop count (rest_of filled buffer)) count came_size
                ∙ ap (λ (ls : List Entry). text_bytes m host ls count) h.place)
                ∙ sym (text_bytes-add filled count h.within);
            place = moves.place ∙ ap (λ j. drop j left) count_is ∙ ap (drop count) h.place
                ∙ drop-drop count filled es;
          }),
        )

    pub read_stop : (e : GuestMemoryError) → ReadsText m host left (rest_of filled buffer) (Err e) after got
        → StopsWithin m host.tables Read es n (is_memory e)
    read_stop e (x, moves, is) =
        let k = length (rest_of filled buffer) in
        let f = extends-front m host.tables Read left k x rest_fits moves.reached in
        let none = answered_none m host.tables Read left k x e f moves.answered in (
          filled,
          (
            short,
            subst (λ j. texts.Stops m host.tables Read (drop filled es) j (is_memory e)) rest_size
                (subst (λ (ls : List Entry). texts.Stops m host.tables Read ls k (is_memory e)) h.place none.2),
          ),
        )

  -- all came
  pub read_full : (n filled : ℕ) (buffer : List ℕ) (left : List Entry) → ReadSoFar n filled buffer left → n ≤ filled
      → (n ≤ length (reached m host.tables es)) × Accessed m host.tables Read es n
      × (buffer ≡ text_bytes m host es n) × (left ≡ drop n es)
  read_full n filled buffer left h done =
      let all : filled ≡ n = omega (arith, h.most, done) in (
        omega (arith, h.within, all),
        subst (λ k. Accessed m host.tables Read es k) all h.access,
        sym (take_all filled buffer (omega (arith, h.size, all))) ∙ h.front ∙ ap (text_bytes m host es) all,
        h.place ∙ ap (λ k. drop k es) all,
      )

-- a call for as many bytes as there are, and more than none, moves some and advances by them
pub read_some : {B : Type 0} (m : Memory) (host : Host B) (es left : List Entry) (buffer filled : List ℕ)
    (answer : Result ℕ GuestMemoryError) → 0 < length buffer → length buffer ≤ length es
    → ReadsText m host es buffer answer left filled
    → IfOk answer (λ n. (0 < n) × (n ≤ length buffer) × (left ≡ drop n es))
read_some m host es left buffer filled (Err e) some enough reads = tt
read_some m host es left buffer filled (Ok count) some enough (x, moves, is) =
    let n = length buffer in
    let f = extends-front m host.tables Read es n x enough moves.reached in
    let count_is = answered_count m host.tables Read es n count x f moves.answered in
    let more = answered_some m host.tables Read es n count x f moves.answered some in
    let most = path_most m host.tables Read es n in (
      omega (arith, count_is, more),
      omega (arith, count_is, f.allowed, most),
      moves.place ∙ ap (λ k. drop k es) count_is,
    )

-- ---- writes

module _ {B : Type 0} (marks : B → ℕ → ℕ → B → Type 0) (m : Memory) where
  span-windows_of : (xs : List Reached) (ws : List Window) → AreWindowsOf xs ws → span ws ≡ length xs
  span-windows_of xs ws are =
      sym (length-cells ws) ∙ ap length are.cells ∙ length-map xs (λ (x : Reached). x.cell)

  windows_of-append : (xs ys : List Reached) (ws vs : List Window) → AreWindowsOf xs ws → AreWindowsOf ys vs
      → AreWindowsOf (xs ++ ys) (ws ++ vs)
  windows_of-append xs ys ws vs front behind = record {
    cells = flat_map-append cells_of ws vs ∙ ap (λ cs. cs ++ cells vs) front.cells
        ∙ ap (λ cs. path_cells xs ++ cs) behind.cells ∙ sym (map-append (λ (x : Reached). x.cell) xs ys);
    marks = flat_map-append window_marks ws vs ∙ ap (λ ms. ms ++ flat_map window_marks vs) front.marks
        ∙ ap (λ ms. path_marks xs ++ ms) behind.marks ∙ sym (map-append (λ (x : Reached). (x.bitmap, x.mark)) xs ys);
    fit = All-append (λ (w : Window). w.bitmap.base + w.size ≤ 2 ^ 64) ws vs front.fit behind.fit;
  }

  -- a call wrote the front of its buffer
  pub wrote_front : (es left : List Entry) (buffer : List ℕ) (old new : Host B) (answer : Result ℕ GuestMemoryError)
      (k : ℕ) → length buffer ≤ length es → WritesText marks m es buffer old answer left new
      → k ≡ result_unwrap_or answer 0
      → (k ≤ length buffer) × WritesAt marks m es (take k buffer) old new × (left ≡ drop k es)
  wrote_front es left buffer old new answer k fits (x, moves, are, wrote) told =
      let n = length buffer in
      let f = extends-front m old.tables Write es n x fits moves.reached in
      let count : length x.path ≡ k = counted answer told moves.answered f in
      let ws = text_windows es x.path in
      let most : k ≤ n = omega (arith, count, at_most x.error f.ends) in
      let size : length (take k buffer) ≡ k = length-take-le k buffer most in
      let front : x.path ≡ take (length (take k buffer)) (reached m old.tables es) =
      f.front ∙ ap (λ j. take j (reached m old.tables es)) (count ∙ sym size) in (
        most,
        record {
          windows = ws;
          within = omega (arith, size, count, f.within);
          access = subst (λ j. Accessed m old.tables Write es j) (sym size)
              (accessed_one m old.tables Write es n k (omega (arith, f.allowed, count)));
          placed = subst (λ (xs : List Reached). AreWindowsOf xs ws) front are;
          written = subst (λ j. Writes marks ws (take j buffer) old new) (span-windows_of x.path ws are ∙ count)
              (Writes-take marks ws buffer old new wrote);
        },
        moves.place ∙ ap (λ j. drop j es) count,
      )
    where
      at_most : (o : Option GuestMemoryError)
          → MatchOption o (length x.path ≡ length buffer) (Cause m old.tables Write es (length buffer) x.path)
          → length x.path ≤ length buffer
      at_most None ends = omega (arith, ends)
      at_most (Some e) ends = omega (arith, ends.0)

      counted : (r : Result ℕ GuestMemoryError) → k ≡ result_unwrap_or r 0 → r ≡ ended (length x.path) x.error
          → Fronts m old.tables Write es (length buffer) x → length x.path ≡ k
      counted (Ok j) told h f = answered_count m old.tables Write es (length buffer) j x f h ∙ sym told
      counted (Err e) told h f = (answered_none m old.tables Write es (length buffer) x e f h).0 ∙ sym told

  -- a write after another one
  pub writes-append : (es : List Entry) (bs cs : List ℕ) (old mid new : Host B) → WritesAt marks m es bs old mid
      → WritesAt marks m (drop (length bs) es) cs mid new → WritesAt marks m es (bs ++ cs) old new
  writes-append es bs cs old mid new front behind =
      let r = reached m old.tables es in
      let n = length bs in
      let k = length cs in
      let same : mid.tables ≡ old.tables = tables-Writes marks front.windows bs old mid front.written in
      let rest : reached m mid.tables (drop n es) ≡ drop n r =
      ap (λ (ts : List Table). reached m ts (drop n es)) same ∙ reached-drop m old.tables n es front.within in
      let both : length (bs ++ cs) ≡ n + k = length-append bs cs in
      let path : take n r ++ take k (reached m mid.tables (drop n es)) ≡ take (length (bs ++ cs)) r =
      ap (λ (xs : List Reached). take n r ++ take k xs) rest ∙ sym (take-add n k r)
      ∙ ap (λ j. take j r) (sym both) in
      let size : length bs ≡ span front.windows =
      sym (span-windows_of (take n r) front.windows front.placed ∙ length-take-le n r front.within) in
      record {
        windows = front.windows ++ behind.windows;
        within = omega (arith, both, front.within, behind.within, ap length rest, length-drop n r);
        access = subst (λ j. Accessed m old.tables Write es j) (sym both)
            (accessed-append m old.tables Write es n k front.access
            (subst (λ (ts : List Table). Accessed m ts Write (drop n es) k) same behind.access));
        placed = subst (λ (xs : List Reached). AreWindowsOf xs (front.windows ++ behind.windows)) path
            (windows_of-append (take n r) (take k (reached m mid.tables (drop n es))) front.windows behind.windows
            front.placed behind.placed);
        written = Writes-append marks front.windows behind.windows bs cs old mid new size front.written behind.written;
      }

  -- a write of nothing
  pub writes_none : (es : List Entry) (host : Host B) → WritesAt marks m es [] host host
  writes_none es host = record {
    windows = [];
    within = omega arith;
    access = accessed_none m host.tables Write es;
    placed = record { cells = refl; marks = refl; fit = All-nil (λ (w : Window). w.bitmap.base + w.size ≤ 2 ^ 64) };
    written = refl;
  }

  marks_none : (ws : List Window) (old new : Host B) → span ws ≡ 0 → MarksAll marks ws old new → new ≡ old
  marks_none [] old new none h = h
  marks_none (w ∷ ws) old new none (mid, marked, more) =
      let size = span-cons w ws in
      let empty : w.size ≡ 0 = omega (arith, size, none) in
      let here : mid ≡ old =
      subst (λ n. MatchBool (nat_lt 0 n) (Marks marks w.bitmap.id w.bitmap.base n old mid) (mid ≡ old)) empty marked in
      marks_none ws mid new (omega (arith, size, none)) more ∙ here

  pub stays_none : (es : List Entry) (old new : Host B) → WritesAt marks m es [] old new → new ≡ old
  stays_none es old new h =
      let none : span h.windows ≡ 0 = span-windows_of [] h.windows h.placed in
      marks_none h.windows (record old { blocks = written (cells h.windows) [] old.blocks }) new none h.written
      ∙ ap (λ (bs : List (List ℕ)). record old { blocks = bs }) (written_none (cells h.windows) old.blocks)
    where
      written_none : (cs : List Cell) (blocks : List (List ℕ)) → written cs [] blocks ≡ blocks
      written_none [] blocks = refl
      written_none (c ∷ cs) blocks = refl

  -- ---- a write that goes on

  -- so many bytes of a buffer were written
  pub record WroteSoFar (es : List Entry) (buffer : List ℕ) (old : Host B) (done : ℕ) (now : Host B)
      (left : List Entry) : Type 0 where
    pub most : done ≤ length buffer
    pub written : WritesAt marks m es (take done buffer) old now
    pub tables : now.tables ≡ old.tables
    pub shape : shape_of now ≡ shape_of old
    pub place : left ≡ drop done es

  pub wrote_none : (es : List Entry) (buffer : List ℕ) (old : Host B) → WroteSoFar es buffer old 0 old es
  wrote_none es buffer old = record {
    most = omega arith;
    written = writes_none es old;
    tables = refl;
    shape = refl;
    place = refl;
  }

  module _ (es : List Entry) (buffer : List ℕ) (old : Host B) (done : ℕ) (now : Host B) (left : List Entry)
      (after : List Entry) (next : Host B) (fits : length buffer ≤ length es)
      (h : WroteSoFar es buffer old done now left) (short : done < length buffer) where
    left_size : length (drop done buffer) ≡ length buffer - done
    left_size = length-drop done buffer

    -- what a call is given is all that is left
    cut : take (length buffer - done) (drop done buffer) ≡ drop done buffer
    cut = take_all (length buffer - done) (drop done buffer) (omega (arith, left_size))

    left_fits : length (drop done buffer) ≤ length left
    left_fits = omega (arith, left_size, ap length h.place, length-drop done es, fits)

    pub wrote_more : (count : ℕ)
        → WritesText marks m left (take (length buffer - done) (drop done buffer)) now (Ok count) after next
        → shape_of next ≡ shape_of now → (0 < count) × WroteSoFar es buffer old (done + count) next after
    wrote_more count written shape =
        let (x, moves, are, wrote) =
        subst (λ (bs : List ℕ). WritesText marks m left bs now (Ok count) after next) cut written in
        let n = length (drop done buffer) in
        let f = extends-front m now.tables Write left n x left_fits moves.reached in
        let count_is = answered_count m now.tables Write left n count x f moves.answered in
        let some = answered_some m now.tables Write left n count x f moves.answered (omega (arith, left_size, short)) in
        let w = wrote_front left after (drop done buffer) now next (Ok count) count left_fits
        (x, moves, are, wrote) refl in
        let size : length (take done buffer) ≡ done = length-take-le done buffer h.most in
        let both : take done buffer ++ take count (drop done buffer) ≡ take (done + count) buffer =
        sym (take-add done count buffer) in (
          omega (arith, some, count_is),
          record {
            most = omega (arith, w.0, left_size, h.most);
            written = subst (λ (bs : List ℕ). WritesAt marks m es bs old next) both
                (writes-append es (take done buffer) (take count (drop done buffer)) old now next h.written
                (subst (λ (ls : List Entry). WritesAt marks m ls (take count (drop done buffer)) now next)
                (h.place ∙ ap (λ k. drop k es) (sym size)) w.1));
            tables = tables-Writes marks w.1.windows (take count (drop done buffer)) now next w.1.written ∙ h.tables;
            shape = shape ∙ h.shape;
            place = w.2 ∙ ap (drop count) h.place ∙ drop-drop count done es;
          },
        )

    -- it stopped, and nothing more changed
    pub wrote_stop : (e : GuestMemoryError)
        → WritesText marks m left (take (length buffer - done) (drop done buffer)) now (Err e) after next
        → shape_of next ≡ shape_of now
        → StopsAt m old.tables Write es (length buffer) (is_memory e) done × WroteSoFar es buffer old done next after
    wrote_stop e written shape =
        let (x, moves, are, wrote) =
        subst (λ (bs : List ℕ). WritesText marks m left bs now (Err e) after next) cut written in
        let n = length (drop done buffer) in
        let f = extends-front m now.tables Write left n x left_fits moves.reached in
        let none = answered_none m now.tables Write left n x e f moves.answered in
        let w = wrote_front left after (drop done buffer) now next (Err e) 0 left_fits (x, moves, are, wrote) refl in
        let same : next ≡ now = stays_none left now next w.1 in (
          (
            short,
            subst (λ j. texts.Stops m old.tables Write (drop done es) j (is_memory e)) left_size
                (subst (λ (ls : List Entry). texts.Stops m old.tables Write ls n (is_memory e)) h.place
                (subst (λ (ts : List Table). texts.Stops m ts Write left n (is_memory e)) h.tables none.2)),
          ),
          record {
            most = h.most;
            written = subst (λ (g : Host B). WritesAt marks m es (take done buffer) old g) (sym same) h.written;
            tables = ap (λ (g : Host B). g.tables) same ∙ h.tables;
            shape = shape ∙ h.shape;
            place = w.2 ∙ h.place;
          },
        )
