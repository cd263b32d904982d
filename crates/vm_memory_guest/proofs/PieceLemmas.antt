-- The pieces of a look-up, walked one after the other, are the translated access.
use Rattle.std.specs.List.{AllByRecursion}
use Rattle.std.proofs.Common.{◌≡◌, ℕ, zero, suc, ◌+◌, ◌-◌, ◌^◌, ◌<◌, ◌≤◌, ◌&&◌, ◌==◌, Bool, true, false, not, cond, List, [], ◌∷◌, ◌++◌, map, length, Option, Some, None, MatchOption, refl, sym, ap, ap₂, subst, ◌∙◌, inl, inr, add-zero, zero-add, add_assoc, arith}
use Rattle.std.proofs.lemmas.Bool.{cond-true, cond-false, cases_Bool, and_from, and_parts, true≢false, eq-eqb, false_from_ne_true}
use Rattle.std.proofs.lemmas.List.{map-append}
use Rattle.std.proofs.lemmas.List.Sums.{sum_by-cons}
use Rattle.vm_memory_base.specs.Address.{step}
use Rattle.vm_memory_base.specs.Runs.{AddressRun, TestsEquality, runs, with_address, with_value}
use Rattle.vm_memory_base.specs.Table.{Mapping, Range, Says, same_mapping, target, piece_of, pieces, grants, is_allowed}
use Rattle.vm_memory_base.specs.Lookup.{mapped_ranges}
use Rattle.vm_memory_base.specs.declared.bitmap.BitmapId.TheVariants.{Space}
use Rattle.vm_memory_base.specs.declared.iotlb.Permissions.{Permissions}
use Rattle.vm_memory_base.specs.declared.iotlb.Permissions.TheVariants.{No}
use Rattle.vm_memory_base.proofs.LookupLemmas.{no_pieces}
use Rattle.vm_memory_guest.specs.Access.{Access, AccessFault, Reached, Meets, Reaches, Stops, meets_at, meets, onto, or_fault, path, first_fault, same_mappings, is_cut, Stretch, lengthened, stretches, window_of, windows, refusal, access_of}
use Rattle.vm_memory_guest.specs.Answer.{Reach}
use Rattle.vm_memory_guest.specs.Memory.{Route, Direct, Through, said_on, translated}
use Rattle.vm_memory_guest.specs.Pieces.{unless_stopped, followed_by, walk_of_pieces, marking_from, marking}
use Rattle.vm_memory_guest.specs.Region.{Region, Lies, Backed, Unbacked, Unmapped, cell, same_region}
use Rattle.vm_memory_guest.specs.Walk.{IsSplit, reach_of, walk_of}
use Rattle.vm_memory_guest.specs.Window.{Window, span}
use Rattle.vm_memory_guest.proofs.AccessLaws.{AllowedWhereGranted}
use Rattle.vm_memory_guest.proofs.PathWalk.{stretch, onward, walked, walk_agree, lengthened-first, stretches-cut, IsCutFrom}
use Rattle.vm_memory_guest.proofs.PathLaws.{length-path, path-all, path-ends, span-windows, meets-arrives}

-- a translation that leads to two pieces is one of some addresses
pub split-some : (route : Route) (a n : ℕ) → IsSplit route a n → 0 < n
unfolding IsSplit
split-some route a zero more =
    let none = no_pieces (said_on route) a No 0 refl in
    let few : 1 < 0 = subst (λ (ps : List Range). 1 < length ps) none.1 more in
    absurd (omega (arith, few))
split-some route a (suc n) more = omega arith

shifted : (i d : ℕ) → i + suc d ≡ i + 1 + d
shifted i d = omega arith

-- a byte of a physical walk, as a translated access reaches it
abbrev led : Option Mapping → ℕ → ℕ → Reached → Reached
led mapping space x y = record { cell = y.cell; region = y.region; mapping = mapping; bitmap = Space space; mark = x }

led_from : Option Mapping → ℕ → ℕ → List Reached → List Reached
led_from mapping space x [] = []
led_from mapping space x (y ∷ ys) = led mapping space x y ∷ led_from mapping space (x + 1) ys

abbrev led_walk : Option Mapping → ℕ → ℕ → Access → Access
led_walk mapping space x w = record { path = led_from mapping space x w.path; fault = w.fault }

led_meets : Option Mapping → ℕ → ℕ → Meets → Meets
led_meets mapping space x (Reaches y) = Reaches (led mapping space x y)
led_meets mapping space x (Stops fault) = Stops fault

at_led : (f : Says) (space x q : ℕ) (m : Mapping) (p : ℕ) (l : Lies)
    → meets_at (Through f space) x (Some m) p l ≡ led_meets (Some m) space x (meets_at Direct q None p l)
unfolding led_meets
at_led f space x q m p (Backed r c) = refl
at_led f space x q m p Unbacked = refl
at_led f space x q m p Unmapped = refl

meets-led : (regions : List Region) (f : Says) (space a i : ℕ) (m : Mapping) (b d : ℕ) → f (a + i) ≡ Some m
    → target (a + i) m ≡ step b d
    → meets regions (Through f space) a i ≡ led_meets (Some m) space (a + i) (meets regions Direct b d)
meets-led regions f space a i m b d said to =
    ap (λ (o : Option Mapping). meets_at (Through f space) (a + i) o (translated (a + i) o)
    (cell regions (translated (a + i) o))) said
    ∙ (at_led f space (a + i) (b + d) m (target (a + i) m) (cell regions (target (a + i) m))
    ∙ ap (λ (p : ℕ). led_meets (Some m) space (a + i) (meets_at Direct (b + d) None p (cell regions p))) to)

-- a walk that meets what another meets, led through a mapping
module _ (m k : ℕ → Meets) (mapping : Option Mapping) (space : ℕ) where
  Leads : (x i j n : ℕ) → Type 0
  Leads x i j n = (d : ℕ) → d < n → m (i + d) ≡ led_meets mapping space (x + d) (k (j + d))

  leads-first : (x i j n : ℕ) → Leads x i j (suc n) → m i ≡ led_meets mapping space x (k j)
  unfolding Leads
  leads-first x i j n h = ap m (sym (add-zero i))
      ∙ (h 0 (omega arith) ∙ ap₂ (λ (y t : ℕ). led_meets mapping space y (k t)) (add-zero x) (add-zero j))

  leads-rest : (x i j n : ℕ) → Leads x i j (suc n) → Leads (x + 1) (i + 1) (j + 1) n
  unfolding Leads
  leads-rest x i j n h d p = ap m (sym (shifted i d))
      ∙ (h (suc d) (omega arith) ∙ ap₂ (λ (y t : ℕ). led_meets mapping space y (k t)) (shifted x d) (shifted j d))

  walk-led : (x i j n : ℕ) → Leads x i j n → walked m i n ≡ led_walk mapping space x (walked k j n)
  unfolding path first_fault led_from led_meets
  walk-led x i j zero h = refl
  walk-led x i j (suc n) h =
      ap₂ onward (leads-first x i j n h) (walk-led (x + 1) (i + 1) (j + 1) n (leads-rest x i j n h)) ∙ go (k j)
    where
      go : (o : Meets) → onward (led_meets mapping space x o) (led_walk mapping space (x + 1) (walked k (j + 1) n))
          ≡ led_walk mapping space x (onward o (walked k (j + 1) n))
      go (Reaches y) = refl
      go (Stops fault) = refl

-- a walk on from one that nothing stops, and one that something stops
module _ (m : ℕ → Meets) where
  size : (k n : ℕ) → suc k + n ≡ suc (k + n)
  size k n = omega arith

  abbrev joined_at : List Reached → ℕ → ℕ → Access
  joined_at xs i n = record { path = xs ++ path m i n; fault = first_fault m i n }

  walk-on : (i k n : ℕ) → first_fault m i k ≡ None → walked m i (k + n) ≡ joined_at (path m i k) (i + k) n
  unfolding path first_fault
  walk-on i zero n h = ap₂ (λ (j t : ℕ). walked m j t) (sym (add-zero i)) (zero-add n)
  walk-on i (suc k) n h = ap (walked m i) (size k n) ∙ go (walk-on (i + 1) k n) (m i) h
    where
      go : (first_fault m (i + 1) k ≡ None → walked m (i + 1) (k + n) ≡ joined_at (path m (i + 1) k) (i + 1 + k) n)
          → (o : Meets) → or_fault o (first_fault m (i + 1) k) ≡ None
          → onward o (walked m (i + 1) (k + n)) ≡ joined_at (onto o (path m (i + 1) k)) (i + suc k) n
      go ih (Reaches x) none =
          ap (onward (Reaches x)) (ih none)
          ∙ ap (λ (j : ℕ). joined_at (x ∷ path m (i + 1) k) j n) (sym (shifted i k))
      go ih (Stops fault) none = absurd (cc)

  walk-stopped : (i k n : ℕ) (fault : AccessFault) → first_fault m i k ≡ Some fault
      → walked m i (k + n) ≡ walked m i k
  unfolding path first_fault
  walk-stopped i zero n fault h = absurd (cc)
  walk-stopped i (suc k) n fault h = ap (walked m i) (size k n) ∙ go (walk-stopped (i + 1) k n fault) (m i) h
    where
      go : (first_fault m (i + 1) k ≡ Some fault → walked m (i + 1) (k + n) ≡ walked m (i + 1) k) → (o : Meets)
          → or_fault o (first_fault m (i + 1) k) ≡ Some fault
          → onward o (walked m (i + 1) (k + n)) ≡ onward o (walked m (i + 1) k)
      go ih (Reaches x) some = ap (onward (Reaches x)) (ih some)
      go ih (Stops other) some = refl

-- paths with a cut between them
stretches-append : (xs ys : List Reached) → AllByRecursion (λ x. IsCutFrom x ys) xs
    → stretches (xs ++ ys) ≡ stretches xs ++ stretches ys
unfolding stretches
stretches-append [] ys c = refl
stretches-append (x ∷ []) ys c = stretches-cut x ys c.0
stretches-append (x ∷ y ∷ zs) ys c =
    let f = lengthened-first y (stretches zs) in
    let rest = stretches-append (y ∷ zs) ys c.1 in
    ap (lengthened x) rest ∙
    (ap (λ (ss : List Stretch). lengthened x (ss ++ stretches ys)) f.2
    ∙ (go (is_cut x y) f.0 f.1 ∙ ap (λ (ss : List Stretch). lengthened x ss ++ stretches ys) (sym f.2)))
  where
    go : (b : Bool) (len : ℕ) (rest : List Stretch)
        → cond b (stretch x 1 ∷ stretch y len ∷ rest ++ stretches ys) (stretch x (len + 1) ∷ rest ++ stretches ys)
        ≡ cond b (stretch x 1 ∷ stretch y len ∷ rest) (stretch x (len + 1) ∷ rest) ++ stretches ys
    go true len rest = refl
    go false len rest = refl

-- the stretches of a walk that is led through a mapping
led_stretches : Option Mapping → ℕ → ℕ → List Stretch → List Stretch
led_stretches mapping space x [] = []
led_stretches mapping space x (s ∷ ss) =
    stretch (led mapping space x s.first) s.len ∷ led_stretches mapping space (x + s.len) ss

IsBare : Reached → Type 0
IsBare y = y.mapping ≡ None

lengthened-bare : (y : Reached) (ss : List Stretch) → IsBare y → AllByRecursion (λ s. IsBare s.first) ss
    → AllByRecursion (λ s. IsBare s.first) (lengthened y ss)
lengthened-bare y [] h each = (h, tt)
lengthened-bare y (s ∷ ss) h each = go (is_cut y s.first)
  where
    go : (b : Bool) → AllByRecursion (λ s. IsBare s.first) (cond b (stretch y 1 ∷ s ∷ ss) (stretch y (s.len + 1) ∷ ss))
    go true = (h, each)
    go false = (h, each.1)

stretches-bare : (ys : List Reached) → AllByRecursion IsBare ys → AllByRecursion (λ s. IsBare s.first) (stretches ys)
unfolding stretches
stretches-bare [] each = tt
stretches-bare (y ∷ ys) each = lengthened-bare y (stretches ys) each.0 (stretches-bare ys each.1)

module _ (mapping : Option Mapping) (same : same_mappings mapping mapping ≡ true) (space : ℕ) where
  cut-led : (x y : ℕ) (s t : Reached) → IsBare s → IsBare t
      → is_cut (led mapping space x s) (led mapping space y t) ≡ is_cut s t
  unfolding IsBare
  cut-led x y s t none bare =
      ap (λ (b : Bool). not (same_region s.region t.region && b)) same
      ∙ sym (ap₂ (λ (o p : Option Mapping). not (same_region s.region t.region && same_mappings o p)) none bare)

  lengthened-led : (x : ℕ) (y : Reached) (ss : List Stretch) → IsBare y → AllByRecursion (λ s. IsBare s.first) ss
      → lengthened (led mapping space x y) (led_stretches mapping space (x + 1) ss)
      ≡ led_stretches mapping space x (lengthened y ss)
  unfolding led_stretches
  lengthened-led x y [] h each = refl
  lengthened-led x y (s ∷ ss) h each =
      ap (λ (b : Bool). cond b
      (stretch (led mapping space x y) 1 ∷ stretch (led mapping space (x + 1) s.first) s.len
      ∷ led_stretches mapping space (x + 1 + s.len) ss)
      (stretch (led mapping space x y) (s.len + 1) ∷ led_stretches mapping space (x + 1 + s.len) ss))
      (cut-led x (x + 1) y s.first h each.0)
      ∙ go (is_cut y s.first)
    where
      go : (b : Bool) → cond b
          (stretch (led mapping space x y) 1 ∷ stretch (led mapping space (x + 1) s.first) s.len
          ∷ led_stretches mapping space (x + 1 + s.len) ss)
          (stretch (led mapping space x y) (s.len + 1) ∷ led_stretches mapping space (x + 1 + s.len) ss)
          ≡ led_stretches mapping space x (cond b (stretch y 1 ∷ s ∷ ss) (stretch y (s.len + 1) ∷ ss))
      go true = refl
      go false = ap (λ (j : ℕ). stretch (led mapping space x y) (s.len + 1) ∷ led_stretches mapping space j ss)
          (let e : x + 1 + s.len ≡ x + (s.len + 1) = omega arith in e)

  stretches-led : (x : ℕ) (ys : List Reached) → AllByRecursion IsBare ys
      → stretches (led_from mapping space x ys) ≡ led_stretches mapping space x (stretches ys)
  unfolding stretches led_from led_stretches
  stretches-led x [] each = refl
  stretches-led x (y ∷ ys) each = ap (lengthened (led mapping space x y)) (stretches-led (x + 1) ys each.1)
      ∙ lengthened-led x y (stretches ys) each.0 (stretches-bare ys each.1)

-- windows that mark a space, without an end of the addresses
marking_on : ℕ → ℕ → List Window → List Window
marking_on space x [] = []
marking_on space x (w ∷ ws) =
    record w { bitmap = record { id = Space space; base = x } } ∷ marking_on space (x + w.size) ws

windows-led : (mapping : Option Mapping) (space x : ℕ) (ss : List Stretch)
    → map window_of (led_stretches mapping space x ss) ≡ marking_on space x (map window_of ss)
unfolding led_stretches marking_on
windows-led mapping space x [] = refl
windows-led mapping space x (s ∷ ss) =
    ap (λ (ws : List Window). window_of (stretch (led mapping space x s.first) s.len) ∷ ws)
    (windows-led mapping space (x + s.len) ss)

marking-on : (space x : ℕ) (ws : List Window) → x + span ws < 2 ^ 64 → marking_from space x ws ≡ marking_on space x ws
unfolding marking_on
marking-on space x [] h = refl
marking-on space x (w ∷ ws) h =
    let parts : span (w ∷ ws) ≡ w.size + span ws = sum_by-cons (λ (v : Window). v.size) w ws in
    let at : step x w.size ≡ x + w.size = omega arith in
    ap (λ (vs : List Window). record w { bitmap = record { id = Space space; base = x } } ∷ vs)
    (ap (λ (y : ℕ). marking_from space y ws) at ∙ marking-on space (x + w.size) ws (omega arith))

marking_on-append : (space x : ℕ) (ws vs : List Window)
    → marking_on space x (ws ++ vs) ≡ marking_on space x ws ++ marking_on space (x + span ws) vs
unfolding marking_on
marking_on-append space x [] vs = ap (λ (y : ℕ). marking_on space y vs) (sym (add-zero x))
marking_on-append space x (w ∷ ws) vs =
    let parts : span (w ∷ ws) ≡ w.size + span ws = sum_by-cons (λ (v : Window). v.size) w ws in
    let at : x + w.size + span ws ≡ x + span (w ∷ ws) = omega arith in
    ap (λ (us : List Window). record w { bitmap = record { id = Space space; base = x } } ∷ us)
    (marking_on-append space (x + w.size) ws vs
    ∙ ap (λ (y : ℕ). marking_on space (x + w.size) ws ++ marking_on space y vs) at)

-- runs of mappings that follow one another from an address on, each of which differs from the one before it
Differs : AddressRun Mapping → List (AddressRun Mapping) → Type 0
Differs r [] = Unit {0}
Differs r (s ∷ ss) = same_mapping r.value s.value ≡ false

abbrev AreMapped : Says → ℕ → ℕ → Mapping → Type 0
AreMapped f a n m = (d : ℕ) → d < n → f (a + d) ≡ Some m

IsChain : Says → ℕ → ℕ → List (AddressRun Mapping) → Type 0
IsChain f a n [] = n ≡ 0
IsChain f a n (r ∷ rs) = (r.start ≡ a) × (0 < r.len) × (r.len ≤ n) × AreMapped f a r.len r.value × Differs r rs
    × IsChain f (a + r.len) (n - r.len) rs

module _ (same : TestsEquality same_mapping) (f : Says) where
  mapped-more : (a n : ℕ) (m : Mapping) → f a ≡ Some m → AreMapped f (a + 1) n m → AreMapped f a (suc n) m
  mapped-more a n m here rest zero h = ap f (add-zero a) ∙ here
  mapped-more a n m here rest (suc d) h = ap f (shifted a d) ∙ rest d (omega arith)

  mapped-one : (a : ℕ) (m : Mapping) → f a ≡ Some m → AreMapped f a 1 m
  mapped-one a m here zero h = ap f (add-zero a) ∙ here
  mapped-one a m here (suc d) h = absurd (omega arith)

  chain-front : (a n : ℕ) (m : Mapping) (rs : List (AddressRun Mapping)) → f a ≡ Some m → IsChain f (a + 1) n rs
      → IsChain f a (suc n) (with_address same_mapping a m rs)
  unfolding IsChain Differs
  chain-front a n m [] here chain = (refl, omega arith, omega arith, mapped-one a m here, tt, omega arith)
  chain-front a n m (r ∷ rs) here chain =
      let start = eq-eqb r.start (a + 1) chain.0 in
      elim (cases_Bool (same_mapping m r.value)) [
        | inl t ↦ (
            let is : m ≡ r.value = same.0 m r.value t in
            subst (IsChain f a (suc n))
            (sym (cond-true (r.start == a + 1 && same_mapping m r.value)
            (record { start = a; len = r.len + 1; value = m } ∷ rs)
            (record { start = a; len = 1; value = m } ∷ r ∷ rs) (and_from _ _ start t)))
            (joined is))
        | inr t ↦
            subst (IsChain f a (suc n))
            (sym (cond-false (r.start == a + 1 && same_mapping m r.value)
            (record { start = a; len = r.len + 1; value = m } ∷ rs)
            (record { start = a; len = 1; value = m } ∷ r ∷ rs)
            (false_from_ne_true _ (λ b. true≢false (sym (and_parts _ _ b).1 ∙ t))))) (
              refl,
              omega arith,
              omega arith,
              mapped-one a m here,
              t,
              subst (λ (k : ℕ). IsChain f (a + 1) k (r ∷ rs)) size chain,
            )
      ]
    where
      size : n ≡ suc n - 1
      size = omega arith

      differs : (ss : List (AddressRun Mapping)) → m ≡ r.value → Differs r ss
          → Differs (record { start = a; len = r.len + 1; value = m }) ss
      differs [] is d = tt
      differs (s ∷ ss) is d = ap (λ (k : Mapping). same_mapping k s.value) is ∙ d

      joined : m ≡ r.value → IsChain f a (suc n) (record { start = a; len = r.len + 1; value = m } ∷ rs)
      joined is =
          let more : AreMapped f a (suc r.len) m =
          mapped-more a r.len m here (subst (AreMapped f (a + 1) r.len) (sym is) chain.3) in
          let long : suc r.len ≡ r.len + 1 = omega arith in
          let at : a + 1 + r.len ≡ a + (r.len + 1) = omega arith in
          let left : n - r.len ≡ suc n - (r.len + 1) = omega arith in (
            refl,
            omega arith,
            omega (arith, chain.2),
            subst (λ (k : ℕ). AreMapped f a k m) long more,
            differs rs is chain.4,
            subst (λ (k : ℕ). IsChain f (a + (r.len + 1)) k rs) left
                (subst (λ (b : ℕ). IsChain f b (n - r.len) rs) at chain.5),
          )

  abbrev EachMapped : ℕ → ℕ → Type 0
  EachMapped a n = (x : ℕ) → a ≤ x → x < a + n → (m : Mapping) × (f x ≡ Some m)

  -- the runs of addresses that are mapped
  chain-runs : (a n : ℕ) → EachMapped a n → IsChain f a n (runs same_mapping f a n)
  unfolding runs IsChain
  chain-runs a zero each = refl
  chain-runs a (suc n) each =
      let here = each a (omega arith) (omega arith) in
      let rest = chain-runs (a + 1) n (λ x low high. each x (omega arith) (omega arith)) in
      subst (λ (o : Option Mapping). IsChain f a (suc n) (with_value same_mapping a o (runs same_mapping f (a + 1) n)))
      (sym here.1) (chain-front a n here.0 (runs same_mapping f (a + 1) n) here.1 rest)

bare-path : (regions : List Region) (b i n : ℕ) → AllByRecursion IsBare (path (meets regions Direct b) i n)
unfolding IsBare
bare-path regions b i n =
    path-all IsBare (meets regions Direct b) i n (λ j low high x e. (meets-arrives regions Direct b j x e).mapping)

-- the walks over the pieces of runs
abbrev walk_of_runs : List Region → List (AddressRun Mapping) → Reach AccessFault
walk_of_runs regions rs = walk_of_pieces regions (mapped_ranges (map piece_of rs))

abbrev marking_all : ℕ → ℕ → Reach AccessFault → Reach AccessFault
marking_all space x walk = record { windows = marking_on space x walk.windows; fault = walk.fault }

-- an access that is translated, without its leave
abbrev through : List Region → Says → ℕ → ℕ → ℕ → Reach AccessFault
through regions f space a n = reach_of (walked (meets regions (Through f space) a) 0 n)

module _ (regions : List Region) (f : Says) (space : ℕ) where
  -- an access goes on as one from the address that it came to
  moved : (a j i : ℕ) → meets regions (Through f space) a (j + i) ≡ meets regions (Through f space) (a + j) i
  moved a j i = ap (λ (x : ℕ). meets_at (Through f space) x (f x) (translated x (f x))
      (cell regions (translated x (f x)))) (sym (add_assoc a j i))

  walk-moved : (a j n : ℕ)
      → walked (meets regions (Through f space) a) (0 + j) n ≡ walked (meets regions (Through f space) (a + j)) 0 n
  walk-moved a j n = walk_agree (meets regions (Through f space) a) (meets regions (Through f space) (a + j))
      (0 + j) 0 n (λ d h. ap (meets regions (Through f space) a) (ap (λ (i : ℕ). i + d) (zero-add j))
      ∙ (moved a j d ∙ ap (meets regions (Through f space) (a + j)) (sym (zero-add d))))

  -- the addresses of one run
  leads-run : (a k : ℕ) (m : Mapping) → AreMapped f a k m
      → Leads (meets regions (Through f space) a) (meets regions Direct (target a m)) (Some m) space a 0 0 k
  unfolding Leads
  leads-run a k m said d h =
      let at : target (a + (0 + d)) m ≡ step (target a m) (0 + d) = omega arith in
      meets-led regions f space a (0 + d) m (target a m) (0 + d) (ap (λ (i : ℕ). f (a + i)) (zero-add d) ∙ said d h) at
      ∙ ap (λ (y : ℕ). led_meets (Some m) space y (meets regions Direct (target a m) (0 + d)))
      (ap (λ (i : ℕ). a + i) (zero-add d))

  walk-run : (a k : ℕ) (m : Mapping) → AreMapped f a k m → walked (meets regions (Through f space) a) 0 k
      ≡ led_walk (Some m) space a (walked (meets regions Direct (target a m)) 0 k)
  walk-run a k m said = walk-led (meets regions (Through f space) a) (meets regions Direct (target a m))
      (Some m) space a 0 0 k (leads-run a k m said)

  module _ (same : TestsEquality same_mapping) where
    windows-run : (a k : ℕ) (m : Mapping) → AreMapped f a k m
        → windows (path (meets regions (Through f space) a) 0 k)
        ≡ marking_on space a (walk_of regions (target a m) k).windows
    windows-run a k m said =
        ap (λ (w : Access). windows w.path) (walk-run a k m said)
        ∙ (ap (map window_of) (stretches-led (Some m) (same.1 m) space a (path (meets regions Direct (target a m)) 0 k)
        (bare-path regions (target a m) 0 k))
        ∙ windows-led (Some m) space a (stretches (path (meets regions Direct (target a m)) 0 k)))

    -- after a run there is a cut, or the access ends
    cut-behind : (a n : ℕ) (r : AddressRun Mapping) (rs : List (AddressRun Mapping)) → Differs r rs → IsChain f a n rs
        → (x : ℕ) (y : Reached)
        → IsCutFrom (led (Some r.value) space x y) (path (meets regions (Through f space) a) 0 n)
    unfolding IsChain Differs path
    cut-behind a n r [] d chain x y =
        subst (λ (k : ℕ). IsCutFrom (led (Some r.value) space x y) (path (meets regions (Through f space) a) 0 k))
        (sym chain) tt
    cut-behind a zero r (s ∷ ss) d chain x y = tt
    cut-behind a (suc n) r (s ∷ ss) d chain x y = go (meets regions (Through f space) a 0) refl
      where
        said : f (a + 0) ≡ Some s.value
        said = chain.3 0 chain.1

        go : (o : Meets) → meets regions (Through f space) a 0 ≡ o
            → IsCutFrom (led (Some r.value) space x y) (onto o (path (meets regions (Through f space) a) (0 + 1) n))
        go (Stops fault) e = tt
        go (Reaches z) e =
            let mapping : z.mapping ≡ Some s.value = (meets-arrives regions (Through f space) a 0 z e).mapping ∙ said in
            ap (λ (o : Option Mapping). not (same_region y.region z.region && same_mappings (Some r.value) o)) mapping
            ∙ (ap (λ (b : Bool). not (same_region y.region z.region && b)) d ∙ never (same_region y.region z.region))
          where
            never : (b : Bool) → not (b && false) ≡ true
            never true = refl
            never false = refl

    led-all : (a : ℕ) (m : Mapping) (zs : List Reached)
        → ((x : ℕ) (y : Reached) → IsCutFrom (led (Some m) space x y) zs) → (x : ℕ) (ys : List Reached)
        → AllByRecursion (λ t. IsCutFrom t zs) (led_from (Some m) space x ys)
    unfolding led_from
    led-all a m zs cut x [] = tt
    led-all a m zs cut x (y ∷ ys) = (cut x y, led-all a m zs cut (x + 1) ys)

    abbrev reach : List Window → Option AccessFault → Reach AccessFault
    reach ws o = record { windows = ws; fault = o }

    nothing : (a : ℕ) → through regions f space a 0 ≡ marking_all space a (walk_of_runs regions [])
    unfolding path first_fault stretches marking_on
    nothing a = refl

    -- the bytes of one run, and then those after it
    module _ (a k n : ℕ) (m : Mapping) (said : AreMapped f a k m) (rest : Reach AccessFault)
        (behind : through regions f space (a + k) n ≡ marking_all space (a + k) rest)
        (cut : (x : ℕ) (y : Reached)
        → IsCutFrom (led (Some m) space x y) (path (meets regions (Through f space) (a + k)) 0 n)) where
      walk : List Window
      walk = windows (path (meets regions Direct (target a m)) 0 k)

      -- where nothing stops the run, its windows have its bytes
      walk-span : first_fault (meets regions Direct (target a m)) 0 k ≡ None → span walk ≡ k
      unfolding walk
      walk-span none =
          let xs = path (meets regions Direct (target a m)) 0 k in
          span-windows xs ∙ subst
          (λ (o : Option AccessFault). MatchOption o (length xs ≡ k)
          (λ fault. (length xs < k) × (meets regions Direct (target a m) (0 + length xs) ≡ Stops fault))) none
          (path-ends (meets regions Direct (target a m)) 0 k)

      windows-both : first_fault (meets regions Direct (target a m)) 0 k ≡ None
          → windows (path (meets regions (Through f space) a) 0 (k + n)) ≡ marking_on space a (walk ++ rest.windows)
      unfolding walk
      windows-both none =
          let T = meets regions (Through f space) a in
          let ys = path (meets regions Direct (target a m)) 0 k in
          let zs = path (meets regions (Through f space) (a + k)) 0 n in
          let run = walk-run a k m said in
          let whole : path T 0 (k + n) ≡ led_from (Some m) space a ys ++ zs =
          ap (λ (w : Access). w.path) (walk-on T 0 k n (ap (λ (w : Access). w.fault) run ∙ none))
          ∙ ap₂ (λ (w v : Access). w.path ++ v.path) run (walk-moved a k n) in
          let parts : stretches (led_from (Some m) space a ys ++ zs) ≡ stretches (led_from (Some m) space a ys)
          ++ stretches zs = stretches-append (led_from (Some m) space a ys) zs (led-all a m zs cut a ys) in
          let first : windows (led_from (Some m) space a ys) ≡ marking_on space a walk =
          ap (λ (w : Access). windows w.path) (sym run) ∙ windows-run a k m said in
          let second : windows zs ≡ marking_on space (a + k) rest.windows =
          ap (λ (w : Reach AccessFault). w.windows) behind in
          ap windows whole
          ∙ (ap (map window_of) parts
          ∙ (map-append window_of (stretches (led_from (Some m) space a ys)) (stretches zs)
          ∙ (ap₂ (λ (ws vs : List Window). ws ++ vs) first second
          ∙ (ap (λ (x : ℕ). marking_on space a walk ++ marking_on space (a + x) rest.windows) (sym (walk-span none))
          ∙ sym (marking_on-append space a walk rest.windows)))))

      run-access : (o : Option AccessFault) → first_fault (meets regions Direct (target a m)) 0 k ≡ o
          → through regions f space a (k + n) ≡ marking_all space a (unless_stopped walk o rest)
      unfolding walk
      run-access None none =
          let T = meets regions (Through f space) a in
          let run = ap (λ (w : Access). w.fault) (walk-run a k m said) in
          let fault : first_fault T 0 (k + n) ≡ rest.fault =
          ap (λ (w : Access). w.fault) (walk-on T 0 k n (run ∙ none))
          ∙ (ap (λ (w : Access). w.fault) (walk-moved a k n) ∙ ap (λ (w : Reach AccessFault). w.fault) behind) in
          ap₂ reach (windows-both none) fault
      run-access (Some fault) some =
          let T = meets regions (Through f space) a in
          let stopped : first_fault T 0 k ≡ Some fault = ap (λ (w : Access). w.fault) (walk-run a k m said) ∙ some in
          ap reach_of (walk-stopped T 0 k n fault stopped) ∙ ap₂ reach (windows-run a k m said) stopped

    -- the walks over the pieces of a chain are the access
    chain-access : (a n : ℕ) (rs : List (AddressRun Mapping)) → IsChain f a n rs
        → through regions f space a n ≡ marking_all space a (walk_of_runs regions rs)
    unfolding IsChain walk
    chain-access a n [] chain =
        subst (λ (k : ℕ). through regions f space a k ≡ marking_all space a (walk_of_runs regions [])) (sym chain)
        (nothing a)
    chain-access a n (r ∷ rs) chain =
        let k = r.len in
        let rest = walk_of_runs regions rs in
        let size : n ≡ k + (n - k) = omega (arith, chain.2) in
        let cut = cut-behind (a + k) (n - k) r rs chain.4 chain.5 in
        let here = run-access a k (n - k) r.value chain.3 rest (chain-access (a + k) (n - k) rs chain.5) cut
        (first_fault (meets regions Direct (target a r.value)) 0 k) refl in
        ap (through regions f space a) size
        ∙ (here
        ∙ ap (λ (b : ℕ). marking_all space a (followed_by (walk_of regions (target b r.value) k) rest)) (sym chain.0))

granted-mapped : (access : Permissions) (o : Option Mapping) → grants access o ≡ true → (m : Mapping) × (o ≡ Some m)
granted-mapped access None h = absurd (true≢false (sym h))
granted-mapped access (Some m) h = (m, refl)

length-spans : (regions : List Region) (f : Says) (space a n : ℕ) → span (through regions f space a n).windows ≤ n
length-spans regions f space a n =
    let whole = span-windows (path (meets regions (Through f space) a) 0 n) in
    let most = length-path (meets regions (Through f space) a) 0 n in
    omega arith

module _ (same : TestsEquality same_mapping) (allowed_where : AllowedWhereGranted) where
  -- a walk whose windows mark a space below its end
  marked_on-spans : (space x : ℕ) (ws : List Window) → span (marking_on space x ws) ≡ span ws
  unfolding marking_on
  marked_on-spans space x [] = refl
  marked_on-spans space x (w ∷ ws) =
      let old : span (w ∷ ws) ≡ w.size + span ws = sum_by-cons (λ (v : Window). v.size) w ws in
      let new : span (marking_on space x (w ∷ ws)) ≡ w.size + span (marking_on space (x + w.size) ws) =
      sum_by-cons (λ (v : Window). v.size) (record w { bitmap = record { id = Space space; base = x } })
      (marking_on space (x + w.size) ws) in
      let rest = marked_on-spans space (x + w.size) ws in
      omega arith

  no_bytes : (regions : List Region) (f : Says) (space a : ℕ)
      → through regions f space a 0 ≡ marking space a (walk_of_pieces regions (mapped_ranges (pieces f a 0)))
  unfolding runs path first_fault stretches
  no_bytes regions f space a = refl

  pieces-through : (regions : List Region) (f : Says) (space a n : ℕ) (access : Permissions)
      → is_allowed f a n access ≡ true
      → through regions f space a n ≡ marking space a (walk_of_pieces regions (mapped_ranges (pieces f a n)))
  pieces-through regions f space a n access ok = elim ((allowed_where f a n access).0 ok) [
    | inl none ↦
        subst (λ (k : ℕ). through regions f space a k
        ≡ marking space a (walk_of_pieces regions (mapped_ranges (pieces f a k)))) (sym none)
        (no_bytes regions f space a)
    | inr some ↦ (
        let chain = chain-runs same f a n (λ x low high. granted-mapped access (f x) (some.1 x low high)) in
        let is = chain-access regions f space same a n (runs same_mapping f a n) chain in
        let ws = (walk_of_runs regions (runs same_mapping f a n)).windows in
        let whole : span (through regions f space a n).windows ≡ span ws =
        ap (λ (w : Reach AccessFault). span w.windows) is ∙ marked_on-spans space a ws in
        let most = length-spans regions f space a n in
        let below : a + span ws < 2 ^ 64 = omega (arith, some.0) in
        is ∙ ap (λ (vs : List Window). reach regions f space same vs
        (walk_of_runs regions (runs same_mapping f a n)).fault) (sym (marking-on space a ws below)))
  ]

  pub pieces-access : (regions : List Region) (f : Says) (space a n : ℕ) (access : Permissions)
      → is_allowed f a n access ≡ true
      → marking space a (walk_of_pieces regions (mapped_ranges (pieces f a n)))
      ≡ reach_of (access_of regions (Through f space) a n access)
  pieces-access regions f space a n access ok =
      sym (pieces-through regions f space a n access ok)
      ∙ sym (ap reach_of (cond-true (is_allowed f a n access)
      (walked (meets regions (Through f space) a) 0 n)
      (record { path = []; fault = Some (refusal (Through f space) a n) }) ok))
