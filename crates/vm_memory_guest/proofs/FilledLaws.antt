-- Windows that a source filled whole: what their transfer answered, and that each of their bytes is dirty.
use Rattle.std.proofs.Common.{◌≡◌, ◌≢◌, ℕ, zero, suc, ◌+◌, ◌-◌, ◌%◌, ◌^◌, ◌<◌, ◌≤◌, ◌==◌, Bool, true, false, MatchBool, List, [], ◌∷◌, Option, Some, Result, Ok, Err, IfOk, IfErr, ◌⊎◌, if◌then◌else◌, inl, inr, refl, sym, ap, subst, ◌∙◌, None, arith}
use Rattle.std.proofs.Math.Nat.{mod-eq_of_lt}
use Rattle.std.proofs.lemmas.Bool.{cases_lt}
use Rattle.std.proofs.lemmas.Bool.Decides.{nat_tests}
use Rattle.vm_memory_base.specs.Pages.{PageSet, is_dirty_at, in_view, marked}
use Rattle.vm_memory_base.specs.Transfer.{Answer, Next, Sink, Stop, Whole, Dry, Failed, counted_as, sent_as, Again, AgainUpto, Last, Done, Retry, RestOf, AllMoved, NoneMoved, TurnFailed, SomeMoved}
use Rattle.std.specs.declared.io.ErrorKind.TheVariants.{WriteZero}
use Rattle.vm_memory_base.specs.declared.io.VolatileMemoryError.{VolatileMemoryError}
use Rattle.vm_memory_base.specs.declared.io.VolatileMemoryError.TheVariants.{IOError}
use Rattle.vm_memory_guest.specs.Copy.{front}
use Rattle.vm_memory_guest.specs.Dirt.{marks_pages, pages_at, with_pages}
use Rattle.vm_memory_guest.specs.Host.{Host, written}
use Rattle.vm_memory_guest.specs.Lent.{AllWhole, AreDirty, IsDirty}
use Rattle.vm_memory_guest.specs.Transfer.{Fills, InOrder, LendsWindow, Takes, UntilWhole, ended, filling, marked_of}
use Rattle.vm_memory_guest.specs.Typed.{answered}
use Rattle.vm_memory_guest.specs.Window.{Window, cells_of, part, span}
use Rattle.vm_memory_guest.specs.lemmas.Orders.{Then}
use Rattle.vm_memory_guest.proofs.DirtLaws.{EmptyMark, with_pages-MarksWindow}
use Rattle.vm_memory_guest.proofs.EffectLaws.{DirtyPagesStay, ShapeStays, Kept-marks_pages, is_dirty_at-marks_stays, pages_at-marks, pages_at-with_blocks}
use Rattle.vm_memory_guest.proofs.LentLaws.{Dirtier, MarkedBytesAreDirty, dirty_after, stays_dirty}
use Rattle.vm_memory_guest.proofs.WrittenLaws.{span-cons}

-- ---- a transfer that answers as many bytes as its windows have

module _ {X E : Type 0} (failure : VolatileMemoryError → E) (fault : Option E)
    (Moves : Window → X → Answer → X → Type 0)
    (within : (w : Window) (x z : X) (a : Answer) → Moves w x a z → IfOk a (λ count. count ≤ w.size)) where
  ended_at : (total n : ℕ) (o : Option E) → ◌≡◌ {A = Result ℕ E} (Ok n) (ended total o) → n ≡ total
  ended_at total n None is = cc
  ended_at total n (Some e) is = grind (arith, nat_tests)

  pub whole_if_all : (ws : List Window) (total n : ℕ) (old new : X)
      → InOrder failure fault Moves ws total old (Ok n) new → total + span ws ≤ n
      → (n ≡ total + span ws) × AllWhole Moves ws old new
  unfolding InOrder AllWhole
  whole_if_all [] total n old new h enough = let e = ended_at total n fault h.0 in (omega arith, h.1)
  whole_if_all (w ∷ ws) total n old new h enough =
      go (λ now rest some. whole_if_all ws now n h.1 new rest some) h.0 h.2 h.3
    where
      Others : Type 0
      Others = (now : ℕ) → InOrder failure fault Moves ws now h.1 (Ok n) new → now + span ws ≤ n
          → (n ≡ now + span ws) × AllWhole Moves ws h.1 new

      size : span (w ∷ ws) ≡ w.size + span ws
      size = span-cons w ws

      next : Others → (count : ℕ) → Moves w old (Ok count) h.1 → (b : Bool) → (count == w.size) ≡ b
          → MatchBool b (InOrder failure fault Moves ws (total + count) h.1 (Ok n) new)
          ((◌≡◌ {A = Result ℕ E} (Ok n) (Ok (total + count))) × (new ≡ h.1))
          → (n ≡ total + span (w ∷ ws)) × ((mid : X) × Moves w old (Ok w.size) mid × AllWhole Moves ws mid new)
      next others count m true is rest =
          let all : count ≡ w.size = grind (arith, nat_tests) in
          let e = size in
          let more = others (total + count) rest (omega arith) in
          let told : n ≡ total + count + span ws = more.0 in
          (omega arith, (h.1, subst (λ (k : ℕ). Moves w old (Ok k) h.1) all m, more.1))
      next others count m false is ended =
          let part : count ≢ w.size = grind (arith, nat_tests) in
          let most : count ≤ w.size = within w old h.1 (Ok count) m in
          let e = size in
          let so : n ≡ total + count = let e : ◌≡◌ {A = Result ℕ E} (Ok n) (Ok (total + count)) = ended.0 in cc in
          absurd (omega arith)

      go : Others → (moved : Answer) → Moves w old moved h.1
          → Then failure fault Moves w ws total h.1 (Ok n) new moved
          → (n ≡ total + span (w ∷ ws)) × ((mid : X) × Moves w old (Ok w.size) mid × AllWhole Moves ws mid new)
      go others (Ok count) m t = next others count m (count == w.size) refl t
      go others (Err e) m t = absurd (cc)

-- ---- a transfer that fails

module _ (test : VolatileMemoryError → Bool) where
  -- an answer is no error, or one that passes
  abbrev Told : Answer → Type 0
  Told a = IfErr a (λ e. test e ≡ true)

  module _ {X : Type 0} where
    again_told : {Try : X → Answer → X → Type 0} → ((x z : X) (a : Answer) → Try x a z → Told a)
        → {more : ℕ} {x z : X} {answer : Answer} → AgainUpto Try more x answer z → Told answer
    again_told each (Last t) = each _ _ _ t
    again_told each (Done t is) = each _ _ _ t
    again_told each (Retry t is rest) = again_told each rest

    rest_told : {Turn : ℕ → X → Answer → X → Type 0} {n : ℕ}
        → ((done : ℕ) (x z : X) (a : Answer) → Turn done x a z → Told a)
        → {done total : ℕ} {x z : X} {stop : Stop} → RestOf Turn n done x total stop z → Told (counted_as total stop)
    rest_told each (AllMoved full) = tt
    rest_told each (NoneMoved some t) = tt
    rest_told each (TurnFailed some t) = each _ _ _ _ t
    rest_told each (SomeMoved some t moved rest) = rest_told each rest

  module _ {S B : Type 0} (source : S → Option (List Next)) (reads : S → List ℕ → Answer → List ℕ → S → Type 0)
      (marks : B → ℕ → ℕ → B → Type 0)
      (each : (s t : S) (old new : List ℕ) (a : Answer) → reads s old a new t → Told a) where
    tries_told : (w : Window) (x z : S × Host B) (a : Answer) → Again (LendsWindow source reads marks w) x a z → Told a
    tries_told w x z a = again_told (λ x z a t. each x.0 z.0 _ t.bytes a t.read)

    -- how a window is filled fails as the reads do
    pub fills_told : (known : S → Option ℕ) (until_full : Bool) (w : Window) (x z : S × Host B) (a : Answer)
        → Fills source reads known marks (filling until_full) w x a z → Told a
    fills_told known false w x z a l = tries_told w x z a l
    fills_told known true w x z a l = subst Told (sym l.told)
        (rest_told (λ done x z a. tries_told (part w done (w.size - done)) x z a) l.tried)

  module _ {S : Type 0} (sink : S → Option Sink) (taken : S → Option (List ℕ)) (wants : S → Type 0)
      (writes : S → List ℕ → Answer → S → Type 0) (blocks : List (List ℕ)) (zero_told : Told (Err (IOError WriteZero)))
      (each : (s t : S) (bytes : List ℕ) (a : Answer) → writes s bytes a t → Told a) where
    sent_told : (size count : ℕ) (stop : Stop) → Told (counted_as count stop)
        → Told (answered (λ all. size) (sent_as stop))
    sent_told size count Whole h = tt
    sent_told size count Dry h = zero_told
    sent_told size count (Failed e) h = h

    -- and how one is sent as the writes do
    pub sends_told : (w : Window) (x z : S) (a : Answer) → Takes sink taken wants writes blocks UntilWhole w x a z
        → Told a
    sends_told w x z a l =
        let turns = rest_told (λ done x z a t. again_told (λ x z a u. each x z _ a u.3) t) l.written_by.1 in
        subst Told (sym (l.told ∙ ap (answered (λ all. w.size)) l.written_by.2))
        (sent_told w.size l.count l.written_by.0 turns)

  module _ {X E : Type 0} (failure : VolatileMemoryError → E) (fault : Option E)
      (Moves : Window → X → Answer → X → Type 0)
      (each : (w : Window) (x z : X) (a : Answer) → Moves w x a z → Told a) where
    -- an error that passes, or what ended the walk
    abbrev pub Why : E → Type 0
    Why e = ((v : VolatileMemoryError) × (test v ≡ true) × (e ≡ failure v)) ⊎ (fault ≡ Some e)

    ended_why : (total : ℕ) (o : Option E) (e : E) → fault ≡ o → ◌≡◌ {A = Result ℕ E} (Err e) (ended total o) → Why e
    ended_why total None e is h = absurd (cc)
    ended_why total (Some f) e is h = go (total == 0) h
      where
        go : (b : Bool) → ◌≡◌ {A = Result ℕ E} (Err e) (if b then Err f else Ok total) → Why e
        go true k = inr (is ∙ ap (λ (x : E). Some x) (let same : f ≡ e = cc in same))
        go false k = absurd (cc)

    pub fails_as_moves : (ws : List Window) (total : ℕ) (old new : X) (e : E)
        → InOrder failure fault Moves ws total old (Err e) new → Why e
    unfolding InOrder
    fails_as_moves [] total old new e h = ended_why total fault e refl h.0
    fails_as_moves (w ∷ ws) total old new e h =
        go (λ now rest. fails_as_moves ws now h.1 new e rest) h.0 h.2 h.3
      where
        next : ((now : ℕ) → InOrder failure fault Moves ws now h.1 (Err e) new → Why e) → (count : ℕ) → (b : Bool)
            → MatchBool b (InOrder failure fault Moves ws (total + count) h.1 (Err e) new)
            ((◌≡◌ {A = Result ℕ E} (Err e) (Ok (total + count))) × (new ≡ h.1)) → Why e
        next others count true rest = others (total + count) rest
        next others count false over = absurd (let no = over.0 in cc)

        go : ((now : ℕ) → InOrder failure fault Moves ws now h.1 (Err e) new → Why e) → (moved : Answer)
            → Moves w old moved h.1 → Then failure fault Moves w ws total h.1 (Err e) new moved → Why e
        go others (Ok count) m t = next others count (count == w.size) t
        go others (Err v) m t =
            let is : ◌≡◌ {A = Result ℕ E} (Err e) (Err (failure v)) = t.0 in
            inl (v, each w old h.1 (Err v) m, cc)

-- ---- what tries and turns mark

-- each of the first count bytes of a window is dirty
abbrev DirtyUpto : Window → ℕ → Host PageSet → Type 0
DirtyUpto w count host = (at : ℕ) → at < count → IsDirty w.bitmap.id (w.bitmap.base + at) host

same_pages : (host : Host PageSet) → Dirtier host host
same_pages host = record { bitmaps = refl; spaces = refl; dirty = λ id offset h. h }

both_dirtier : (a b c : Host PageSet) → Dirtier a b → Dirtier b c → Dirtier a c
both_dirtier a b c m n = record {
  bitmaps = n.bitmaps ∙ m.bitmaps;
  spaces = n.spaces ∙ m.spaces;
  dirty = λ id offset h. n.dirty id offset (m.dirty id offset h);
}

upto_stays : (w : Window) (count : ℕ) (old new : Host PageSet) → Dirtier old new → DirtyUpto w count old
    → DirtyUpto w count new
upto_stays w count old new d was at within =
    stays_dirty old new d w.bitmap.id (w.bitmap.base + at) (was at within)

-- bytes of a window, and those of its part after them
joined : (w : Window) (done len count : ℕ) (old new : Host PageSet) → Dirtier old new → DirtyUpto w done old
    → DirtyUpto (part w done len) count new → DirtyUpto w (done + count) new
joined w done len count old new d was now at within = elim (cases_lt at done) [
  | inl before ↦ upto_stays w done old new d was at before
  | inr behind ↦ (λ p has inside fits.
      let k : ℕ = at - done in
      let e : (w.bitmap.base + done) % 2 ^ 64 ≡ w.bitmap.base + done = mod-eq_of_lt (omega arith) in
      let is : in_view w.bitmap.base done + k ≡ w.bitmap.base + at = omega arith in
      subst (λ (o : ℕ). is_dirty_at (Some p) o ≡ true) is
      (now k (omega arith) p has (rw is inside) (rw is fits)))
]

module _ {S B : Type 0} (source : S → Option (List Next)) (reads : S → List ℕ → Answer → List ℕ → S → Type 0)
    (marks : B → ℕ → ℕ → B → Type 0) where
  again_within : (w : Window) {more : ℕ} {x z : S × Host B} {answer : Answer}
      → AgainUpto (LendsWindow source reads marks w) more x answer z → IfOk answer (λ count. count ≤ w.size)
  again_within w (Last t) = t.within
  again_within w (Done t is) = t.within
  again_within w (Retry t is rest) = again_within w rest

  rest_within : (w : Window) {done total : ℕ} {x z : S × Host B} {stop : Stop}
      → RestOf (λ filled. Again (LendsWindow source reads marks (part w filled (w.size - filled)))) w.size done x total
      stop z → done ≤ w.size → total ≤ w.size
  rest_within w (AllMoved full) fits = fits
  rest_within w (NoneMoved some t) fits = fits
  rest_within w (TurnFailed some t) fits = fits
  rest_within w {done = done} (SomeMoved some t moved rest) fits =
      let l = again_within (part w done (w.size - done)) t in rest_within w rest (omega arith)

  counted_within : (size count : ℕ) (stop : Stop) → count ≤ size
      → IfOk (counted_as count stop) (λ n. n ≤ size)
  counted_within size count Whole h = h
  counted_within size count Dry h = h
  counted_within size count (Failed e) h = tt

  -- a window is filled by no more bytes than it has
  pub fills_within : (known : S → Option ℕ) (w : Window) (x z : S × Host B) (a : Answer)
      → Fills source reads known marks UntilWhole w x a z → IfOk a (λ count. count ≤ w.size)
  fills_within known w x z a l =
      subst (λ (b : Answer). IfOk b (λ count. count ≤ w.size)) (sym l.told)
      (counted_within w.size l.count l.stop (rest_within w l.tried (omega arith)))

  module _ (pages : B → PageSet)
      (exact : (old new : B) (offset len : ℕ) → marks old offset len new → pages new ≡ marked offset len (pages old))
      (empty : EmptyMark) (shape_stays : ShapeStays) (stays : DirtyPagesStay) (dirties : MarkedBytesAreDirty) where
    abbrev seen : S × Host B → Host PageSet
    seen x = with_pages pages x.1

    -- what a try leaves: no page becomes clean, and what it told is dirty
    abbrev Leaves : Window → S × Host B → Answer → S × Host B → Type 0
    Leaves w x answer z =
        Dirtier (seen x) (seen z) × ((count : ℕ) → answer ≡ Ok count → DirtyUpto w count (seen z))

    tried_leaves : (w : Window) (x z : S × Host B) (answer : Answer) → LendsWindow source reads marks w x answer z
        → Leaves w x answer z
    tried_leaves w x z answer l =
        let id = w.bitmap.id in
        let base = w.bitmap.base in
        let blocks : List (List ℕ) = written (cells_of w) l.bytes x.1.blocks in
        let mid : Host PageSet = record (seen x) { blocks = blocks } in
        let len : ℕ = marked_of w.size answer in
        let is : seen z ≡ marks_pages id base len mid =
        with_pages-MarksWindow marks pages exact empty (front w len) (record x.1 { blocks = blocks }) z.1 l.marked in
        let kept = Kept-marks_pages shape_stays id base len mid in
        let dirtier : Dirtier (seen x) (marks_pages id base len mid) = record {
          bitmaps = kept.bitmaps;
          spaces = kept.spaces;
          dirty = λ other offset h. is_dirty_at-marks_stays stays id other base len offset mid
              (rw (pages_at-with_blocks other (seen x) blocks) h);
        } in
        let now : marked base len (pages_at id mid) ≡ pages_at id (seen z) =
        sym (pages_at-marks id base len mid) ∙ ap (pages_at id) (sym is) in (
          subst (λ (host : Host PageSet). Dirtier (seen x) host) (sym is) dirtier,
          λ count told at within p has inside fits.
              let same : len ≡ count = ap (marked_of w.size) told in
              dirty_after shape_stays stays dirties (pages_at id mid) base len at p (now ∙ has) (omega arith) inside
              fits,
        )

    again_leaves : (w : Window) {more : ℕ} {x z : S × Host B} {answer : Answer}
        → AgainUpto (LendsWindow source reads marks w) more x answer z → Leaves w x answer z
    again_leaves w {x = x} {z = z} {answer = answer} (Last t) = tried_leaves w x z answer t
    again_leaves w {x = x} {z = z} {answer = answer} (Done t is) = tried_leaves w x z answer t
    again_leaves w {x = x} {z = z} (Retry {y = y} {tried = tried} t is rest) =
        let m = again_leaves w rest in
        (both_dirtier (seen x) (seen y) (seen z) (tried_leaves w x y tried t).0 m.0, m.1)

    rest_leaves : (w : Window) {done total : ℕ} {x z : S × Host B} {stop : Stop}
        → RestOf (λ filled. Again (LendsWindow source reads marks (part w filled (w.size - filled)))) w.size done x
        total stop z → DirtyUpto w done (seen x) → Dirtier (seen x) (seen z) × DirtyUpto w total (seen z)
    rest_leaves w {x = x} (AllMoved full) was = (same_pages (seen x), was)
    rest_leaves w {done = done} {x = x} {z = z} (NoneMoved some t) was =
        let d = (again_leaves (part w done (w.size - done)) t).0 in (d, upto_stays w done (seen x) (seen z) d was)
    rest_leaves w {done = done} {x = x} {z = z} (TurnFailed some t) was =
        let d = (again_leaves (part w done (w.size - done)) t).0 in (d, upto_stays w done (seen x) (seen z) d was)
    rest_leaves w {done = done} {x = x} {z = z} (SomeMoved {count = count} {y = y} some t moved rest) was =
        let m = again_leaves (part w done (w.size - done)) t in
        let more = rest_leaves w rest
        (joined w done (w.size - done) count (seen x) (seen y) m.0 was (m.1 count refl)) in
        (both_dirtier (seen x) (seen y) (seen z) m.0 more.0, more.1)

    all_counted : (size count : ℕ) (stop : Stop) → Ok size ≡ counted_as count stop → count ≡ size
    all_counted size count Whole is = cc
    all_counted size count Dry is = cc
    all_counted size count (Failed e) is = absurd (cc)

    filled_leaves : (known : S → Option ℕ) (w : Window) (x z : S × Host B)
        → Fills source reads known marks UntilWhole w x (Ok w.size) z
        → Dirtier (seen x) (seen z) × DirtyUpto w w.size (seen z)
    filled_leaves known w x z l =
        let m = rest_leaves w l.tried (λ at within. absurd (omega arith)) in
        (m.0, subst (λ (n : ℕ). DirtyUpto w n (seen z)) (all_counted w.size l.count l.stop l.told) m.1)

    pub all_leave : (known : S → Option ℕ) (ws : List Window) (x z : S × Host B)
        → AllWhole (Fills source reads known marks UntilWhole) ws x z
        → Dirtier (seen x) (seen z) × AreDirty ws (seen z)
    unfolding AllWhole
    all_leave known [] x z h = (
      subst (λ (y : S × Host B). Dirtier (seen x) (seen y)) (sym h) (same_pages (seen x)),
      λ w among. absurd (omega (arith, among.1)),
    )
    all_leave known (w ∷ ws) x z h =
        let m = filled_leaves known w x h.0 h.1 in
        let more = all_leave known ws h.0 z h.2 in
        (both_dirtier (seen x) (seen h.0) (seen z) m.0 more.0, each m more)
      where
        each : Dirtier (seen x) (seen h.0) × DirtyUpto w w.size (seen h.0)
            → Dirtier (seen h.0) (seen z) × AreDirty ws (seen z) → AreDirty (w ∷ ws) (seen z)
        each m more v (zero, l, is) =
            subst (λ (u : Window). DirtyUpto u u.size (seen z)) is
            (upto_stays w w.size (seen h.0) (seen z) more.0 m.1)
        each m more v (suc k, l, is) = more.1 v (k, omega arith, is)
