-- What loads of images whose bytes are known leave in memory.
use Rattle.std.proofs.Common.{◌≡◌, ◌∙◌, ℕ, zero, suc, ◌+◌, ◌-◌, ◌^◌, ◌<◌, ◌≤◌, ◌==◌, nat_lt, Bool, true, false, MatchBool, MatchResult, List, [], ◌∷◌, ◌++◌, Contains, append-nil, Option, Some, None, Result, Ok, Err, arith, ap, ap₂, drop, length, length-drop, min, refl, replicate, subst, sym, take}
use Rattle.std.specs.Bool.{⊤}
use Rattle.std.proofs.lemmas.Bool.Decides.{nat_tests}
use Rattle.std.proofs.lemmas.List.{drop-drop, drop_all, length-replicate, length-take, take_all}
use Rattle.vm_memory_base.specs.Transfer.{Answer, Next, Again, AgainUpto, Last, Done, Retry, ReadsAs, RestOf, AllMoved, NoneMoved, TurnFailed, SomeMoved, Stop, giving, is_interrupted, over_front}
use Rattle.vm_memory_base.specs.declared.io.VolatileMemoryError.{VolatileMemoryError}
use Rattle.vm_memory_base.proofs.TransferLemmas.{gives_front}
use Rattle.vm_memory_guest.specs.Copy.{front}
use Rattle.vm_memory_base.specs.Table.{Table}
use Rattle.vm_memory_guest.specs.Host.{Host, Cell, bytes_at, cells_from, written}
use Rattle.vm_memory_guest.specs.Memory.{Memory}
use Rattle.vm_memory_guest.specs.Lent.{AllWhole}
use Rattle.vm_memory_guest.specs.Transfer.{Fills, LendsWindow, UntilWhole, marked_of}
use Rattle.vm_memory_guest.specs.Window.{Window, cells, cells_of, part, span}
use Rattle.vm_memory_guest.proofs.HostLemmas.{length-bytes}
use Rattle.vm_memory_guest.proofs.MarkLaws.{blocks-MarksAll}
use Rattle.vm_memory_guest.proofs.WrittenLaws.{length-cells_from, span-cons, written-append}
use Rattle.linux_loader.specs.Load.{Clears, ClearsRest, FillsFront, FillsFrom, Lends, LoadsAll, LoadsSegment, zeros}
use Rattle.linux_loader.specs.Loaded.{blocks_after, front_windows, rest_windows, windows_at, with_segment}
use Rattle.linux_loader.specs.declared.error.LoaderError.{LoaderError}
use Rattle.linux_loader.specs.declared.error.LoaderError.TheVariants as errors
use Rattle.linux_loader.specs.declared.segment.Segment.{Segment}
use Rattle.linux_loader.proofs.DirtyLemmas.{far, far_outside, received_whole}
use Rattle.linux_loader.proofs.KeepLemmas.{clears_keeps, front_keeps}

module _ {S B : Type 0} (bytes : S → Option (List ℕ)) (source : S → Option (List Next))
    (reads : S → List ℕ → Answer → List ℕ → S → Type 0) (marks : B → ℕ → ℕ → B → Type 0)
    (keep : (s t : S) (old new : List ℕ) (a : Answer) → reads s old a new t → bytes t ≡ bytes s) where
  -- a source that had these bytes left has given so many of them to cells
  record Gave (w : Window) (bs : List ℕ) (x z : S × Host B) : Type 0 where
    blocks : z.1.blocks ≡ written (cells_of w) (take w.size bs) x.1.blocks
    left : source z.0 ≡ Some (giving (drop w.size bs) [])
    kept : bytes z.0 ≡ bytes x.0

  tried_gives : (w : Window) (bs : List ℕ) (x z : S × Host B) (a : Answer) → source x.0 ≡ Some (giving bs [])
      → w.size ≤ length bs → LendsWindow source reads marks w x a z → (a ≡ Ok w.size) × Gave w bs x z
  tried_gives w bs x z a has enough l =
      let buffer = bytes_at x.1.blocks (cells_of w) in
      let size : length buffer ≡ w.size = length-bytes x.1.blocks w in
      let gives = gives_front (length buffer) bs in
      let told = subst (λ (o : Option (List Next)). ReadsAs o buffer a l.bytes (source z.0)) has l.tried in
      let all : min (length buffer) (length bs) ≡ w.size = omega arith in
      let count : length (take (length buffer) bs) ≡ length buffer =
      (let t = length-take (length buffer) bs in omega arith) in
      let given : l.bytes ≡ take w.size bs =
      told.1 ∙ ap (λ (xs : List ℕ). over_front xs buffer) gives.bytes
      ∙ ap (λ (xs : List ℕ). take (length buffer) bs ++ xs)
      (drop_all (length (take (length buffer) bs)) buffer (omega arith))
      ∙ append-nil (take (length buffer) bs) ∙ ap (λ (n : ℕ). take n bs) size in
      let mid : Host B = record x.1 { blocks = written (cells_of w) l.bytes x.1.blocks } in (
        told.0 ∙ gives.answer ∙ ap (λ (n : ℕ). Ok n) all,
        record {
          blocks = blocks-MarksAll marks (front w (marked_of w.size a) ∷ []) mid z.1 (z.1, l.marked, refl)
              ∙ ap (λ (xs : List ℕ). written (cells_of w) xs x.1.blocks) given;
          left = told.2 ∙ ap (λ (ns : List Next). Some ns) gives.left
              ∙ ap (λ (n : ℕ). Some (giving (drop n bs) [])) all;
          kept = keep x.0 z.0 buffer l.bytes a l.read;
        },
      )

  again_gives : (w : Window) (bs : List ℕ) {more : ℕ} {x z : S × Host B} {a : Answer} → source x.0 ≡ Some (giving bs [])
      → w.size ≤ length bs → AgainUpto (LendsWindow source reads marks w) more x a z
      → (a ≡ Ok w.size) × Gave w bs x z
  again_gives w bs {x = x} {z = z} {a = a} has enough (Last t) = tried_gives w bs x z a has enough t
  again_gives w bs {x = x} {z = z} {a = a} has enough (Done t is) = tried_gives w bs x z a has enough t
  again_gives w bs {x = x} has enough (Retry {y = y} {tried = tried} t is rest) =
      let no = ap is_interrupted (tried_gives w bs x y tried has enough t).0 in absurd (cc)

  -- the whole of a window as its part
  as_part : (w : Window) (bs : List ℕ) (x z : S × Host B) → Gave (part w 0 (w.size - 0)) bs x z → Gave w bs x z
  as_part w bs x z g =
      let size : w.size - 0 ≡ w.size = omega arith in
      let place : w.offset + 0 ≡ w.offset = omega arith in
      record {
        blocks = g.blocks ∙ ap₂ (λ (o n : ℕ). written (cells_from w.block.0 o n) (take n bs) x.1.blocks) place size;
        left = g.left ∙ ap (λ (n : ℕ). Some (giving (drop n bs) [])) size;
        kept = g.kept;
      }

  none_left : (w : Window) {done total : ℕ} {x z : S × Host B} {stop : Stop} → w.size ≤ done
      → RestOf (λ filled. Again (LendsWindow source reads marks (part w filled (w.size - filled)))) w.size done x
      total stop z → z ≡ x
  none_left w l (AllMoved full) = refl
  none_left w l (NoneMoved some t) = absurd (omega arith)
  none_left w l (TurnFailed some t) = absurd (omega arith)
  none_left w l (SomeMoved some t moved rest) = absurd (omega arith)

  rest_gives : (w : Window) (bs : List ℕ) {done total : ℕ} {x z : S × Host B} {stop : Stop} → done ≡ 0
      → source x.0 ≡ Some (giving bs []) → w.size ≤ length bs
      → RestOf (λ filled. Again (LendsWindow source reads marks (part w filled (w.size - filled)))) w.size done x
      total stop z → Gave w bs x z
  rest_gives w bs {x = x} start has enough (AllMoved full) =
      let none : w.size ≡ 0 = omega arith in
      record {
        blocks = rw none refl;
        left = has ∙ ap (λ (n : ℕ). Some (giving (drop n bs) [])) (sym none);
        kept = refl;
      }
  rest_gives w bs {done = done} start has enough (NoneMoved some t) =
      let some' : 0 < w.size = omega arith in
      let told = (again_gives (part w done (w.size - done)) bs has (omega arith) t).0 in absurd (no some' start told)
    where
      no : 0 < w.size → done ≡ 0 → ◌≡◌ {A = Answer} (Ok 0) (Ok (w.size - done)) → ⊥
      no some start told = let e : 0 ≡ w.size - done = cc in omega arith
  rest_gives w bs {done = done} start has enough (TurnFailed some t) =
      let told = (again_gives (part w done (w.size - done)) bs has (omega arith) t).0 in absurd (cc)
  rest_gives w bs {done = done} {x = x} {z = z} start has enough (SomeMoved {count = count} {y = y} some t moved rest) =
      let got = again_gives (part w done (w.size - done)) bs has (omega arith) t in
      let same = none_left w (all start got.0) rest in
      subst (λ (q : S × Host B). Gave w bs x q) (sym same)
      (as_part w bs x y (subst (λ (d : ℕ). Gave (part w d (w.size - d)) bs x y) start got.1))
    where
      all : done ≡ 0 → ◌≡◌ {A = Answer} (Ok count) (Ok (w.size - done)) → w.size ≤ done + count
      all start told = let e : count ≡ w.size - done = cc in omega arith

  -- the same of windows, one after the other
  pub record GaveAll (ws : List Window) (bs : List ℕ) (x z : S × Host B) : Type 0 where
    pub blocks : z.1.blocks ≡ written (cells ws) (take (span ws) bs) x.1.blocks
    pub left : source z.0 ≡ Some (giving (drop (span ws) bs) [])
    pub kept : bytes z.0 ≡ bytes x.0

  cut : (n m : ℕ) (bs : List ℕ) → take (n + m) bs ≡ take n bs ++ take m (drop n bs)
  cut zero m bs = let e : 0 + m ≡ m = omega arith in rw e refl
  cut (suc n) m [] = let e : suc n + m ≡ suc (n + m) = omega arith in rw e (nil m)
    where
      nil : (m : ℕ) → ◌≡◌ {A = List ℕ} [] (take m [])
      nil zero = refl
      nil (suc m) = refl
  cut (suc n) m (b ∷ bs) =
      let e : suc n + m ≡ suc (n + m) = omega arith in rw e (ap (λ (xs : List ℕ). b ∷ xs) (cut n m bs))

  pub all_give : (known : S → Option ℕ) (ws : List Window) (bs : List ℕ) (x z : S × Host B)
      → source x.0 ≡ Some (giving bs []) → span ws ≤ length bs
      → AllWhole (Fills source reads known marks UntilWhole) ws x z → GaveAll ws bs x z
  unfolding AllWhole
  all_give known [] bs x z has enough h = record {
    blocks = ap (λ (q : S × Host B). q.1.blocks) h;
    left = ap (λ (q : S × Host B). source q.0) h ∙ has;
    kept = ap (λ (q : S × Host B). bytes q.0) h;
  }
  all_give known (w ∷ ws) bs x z has enough (mid, moved, rest) =
      let size = span-cons w ws in
      let left = length-drop w.size bs in
      let first = rest_gives w bs refl has (omega arith) moved.tried in
      let more = all_give known ws (drop w.size bs) mid z first.left (omega arith) rest in
      let count : length (cells_of w) ≡ length (take w.size bs) =
      (let a = length-cells_from w.block.0 w.offset w.size in let b = length-take w.size bs in omega arith) in
      record {
        blocks = more.blocks
            ∙ ap (λ (bs' : List (List ℕ)). written (cells ws) (take (span ws) (drop w.size bs)) bs') first.blocks
            ∙ sym (written-append (cells_of w) (cells ws) (take w.size bs) (take (span ws) (drop w.size bs))
            x.1.blocks count)
            ∙ ap (λ (xs : List ℕ). written (cells_of w ++ cells ws) xs x.1.blocks)
            (sym (cut w.size (span ws) bs) ∙ ap (λ (n : ℕ). take n bs) (sym size));
        left = more.left ∙ ap (λ (xs : List ℕ). Some (giving xs []))
            (drop-drop (span ws) w.size bs ∙ ap (λ (n : ℕ). drop n bs) (sym size));
        kept = more.kept ∙ first.kept;
      }

  module _ (known : S → Option ℕ) (m : Memory) where
    lent_gives : (a n : ℕ) (bs : List ℕ) (x z : S × Host B) → source x.0 ≡ Some (giving bs []) → n ≤ length bs
        → Lends source reads known marks m a n x (Ok tt) z
        → (z.1.blocks ≡ written (cells (windows_at m x.1 a n)) (take n bs) x.1.blocks) × (bytes z.0 ≡ bytes x.0)
    lent_gives a n bs x z has enough (Err e, got, told) = absurd (cc)
    lent_gives a n bs x z has enough (Ok u, got, told) =
        let whole = received_whole marks m source reads known a n x z got in
        let all : span (windows_at m x.1 a n) ≤ length bs = let e = whole.0 in omega arith in
        let gave = all_give known (windows_at m x.1 a n) bs x z has all whole.1 in
        (gave.blocks ∙ ap (λ (k : ℕ). written (cells (windows_at m x.1 a n)) (take k bs) x.1.blocks) whole.0, gave.kept)

written_none : (cs : List Cell) (bs : List ℕ) (blocks : List (List ℕ)) → bs ≡ [] → written cs bs blocks ≡ blocks
written_none [] bs blocks is = refl
written_none (c ∷ cs) bs blocks is = rw is refl

module _ {B : Type 0} (marks : B → ℕ → ℕ → B → Type 0) (m : Memory) where
  clears_gives : (s : Segment) (old new : Host B) → ClearsRest marks m s old (Ok tt) new
      → new.blocks ≡ written (cells (rest_windows m old s)) (replicate (s.size - s.file_size) 0) old.blocks
  clears_gives s old new h = go (s.size - s.file_size == 0) refl h
    where
      inside : (b : Bool) → MatchBool b (Clears marks m (s.addr.0 + s.file_size) (s.size - s.file_size) old (Ok tt) new)
          ((◌≡◌ {A = Result (Unit {0}) LoaderError} (Ok tt) (Err errors.MemoryOverflow)) × (new ≡ old))
          → new.blocks ≡ written (cells (rest_windows m old s)) (replicate (s.size - s.file_size) 0) old.blocks
      inside false h = absurd (let no = h.0 in cc)
      inside true h =
          let size : length (replicate {A = ℕ} (s.size - s.file_size) 0) ≡ s.size - s.file_size =
          length-replicate (s.size - s.file_size) 0 in
          (lent_gives (λ (k : ℕ). None) zeros (λ s lent answer after t. ⊤) marks (λ s t lent after answer h. refl)
          (λ s. None) m (s.addr.0 + s.file_size) (s.size - s.file_size) (replicate (s.size - s.file_size) 0)
          (s.size - s.file_size, old) (h.0, new) refl (omega arith) h.1).0
          ∙ ap (λ (xs : List ℕ). written (cells (rest_windows m old s)) xs old.blocks)
          (take_all (s.size - s.file_size) (replicate (s.size - s.file_size) 0) (omega arith))

      go : (b : Bool) → (s.size - s.file_size == 0) ≡ b
          → MatchBool b ((◌≡◌ {A = Result (Unit {0}) LoaderError} (Ok tt) (Ok tt)) × (new ≡ old))
          (MatchBool (nat_lt (s.addr.0 + s.file_size) (2 ^ 64))
          (Clears marks m (s.addr.0 + s.file_size) (s.size - s.file_size) old (Ok tt) new)
          ((◌≡◌ {A = Result (Unit {0}) LoaderError} (Ok tt) (Err errors.MemoryOverflow)) × (new ≡ old)))
          → new.blocks ≡ written (cells (rest_windows m old s)) (replicate (s.size - s.file_size) 0) old.blocks
      go false is h = inside (nat_lt (s.addr.0 + s.file_size) (2 ^ 64)) h
      go true is h =
          let none : s.size - s.file_size ≡ 0 = grind (arith, nat_tests) in
          ap (λ (x : Host B). x.blocks) h.1
          ∙ sym (written_none (cells (rest_windows m old s)) (replicate (s.size - s.file_size) 0) old.blocks
          (rw none refl))

  module _ {S : Type 0} (bytes : S → Option (List ℕ)) (source : S → Option (List Next))
      (reads : S → List ℕ → Answer → List ℕ → S → Type 0) (known : S → Option ℕ)
      (keep : (s t : S) (old new : List ℕ) (a : Answer) → reads s old a new t → bytes t ≡ bytes s) (all : List ℕ) where
    front_gives : (s : Segment) (x z : S × Host B) → bytes x.0 ≡ Some all → s.file_size ≤ length all - s.file_offset
        → FillsFront bytes source reads known marks m s x (Ok tt) z
        → (z.1.blocks ≡ written (cells (front_windows m x.1 s)) (take s.file_size (drop s.file_offset all)) x.1.blocks)
        × (bytes z.0 ≡ Some all)
    front_gives s x z has enough h = go (s.file_size == 0) refl h
      where
        from : (f : FillsFrom bytes source reads known marks m s x (Ok tt) z)
            → (z.1.blocks ≡ written (cells (front_windows m x.1 s)) (take s.file_size (drop s.file_offset all))
            x.1.blocks)
            × (bytes z.0 ≡ Some all)
        from f = stood f.0 f.3
          where
            stands_at : (bytes f.1 ≡ Some all) × (f.0 ≡ Ok tt)
                × (source f.1 ≡ Some (giving (drop s.file_offset all) []))
            stands_at = rw has at f.2

            stood : (stands : Result (Unit {0}) VolatileMemoryError) → MatchResult stands
                (λ _. Lends source reads known marks m s.addr.0 s.file_size (f.1, x.1) (Ok tt) z)
                (λ e. (◌≡◌ {A = Result (Unit {0}) LoaderError} (Ok tt) (Err (errors.Image e))) × (z ≡ (f.1, x.1)))
                → (z.1.blocks ≡ written (cells (front_windows m x.1 s)) (take s.file_size (drop s.file_offset all))
                x.1.blocks)
                × (bytes z.0 ≡ Some all)
            stood (Err e) over = absurd (let no = over.0 in cc)
            stood (Ok u) l =
                let left = length-drop s.file_offset all in
                let gave = lent_gives bytes source reads marks keep known m s.addr.0 s.file_size
                (drop s.file_offset all) (f.1, x.1) z stands_at.2 (omega arith) l in
                (gave.0, gave.1 ∙ stands_at.0)

        go : (b : Bool) → (s.file_size == 0) ≡ b
            → MatchBool b ((◌≡◌ {A = Result (Unit {0}) LoaderError} (Ok tt) (Ok tt)) × (z ≡ x))
            (FillsFrom bytes source reads known marks m s x (Ok tt) z)
            → (z.1.blocks ≡ written (cells (front_windows m x.1 s)) (take s.file_size (drop s.file_offset all))
            x.1.blocks)
            × (bytes z.0 ≡ Some all)
        go false is h = from h
        go true is h =
            let none : s.file_size ≡ 0 = grind (arith, nat_tests) in (
              ap (λ (q : S × Host B). q.1.blocks) h.1
                  ∙ sym (written_none (cells (front_windows m x.1 s)) (take s.file_size (drop s.file_offset all))
                  x.1.blocks
                  (rw none refl)),
              ap (λ (q : S × Host B). bytes q.0) h.1 ∙ has,
            )

    segment_gives : (s : Segment) (x z : S × Host B) → bytes x.0 ≡ Some all → s.file_size ≤ length all - s.file_offset
        → LoadsSegment bytes source reads known marks m s x (Ok tt) z
        → (z.1.blocks ≡ with_segment m x.1 all s x.1.blocks) × (bytes z.0 ≡ Some all) × (z.1.tables ≡ x.1.tables)
    segment_gives s x z has enough (Err e, mid, filled, over) = absurd (let no = over.0 in cc)
    segment_gives s x z has enough (Ok u, mid, filled, (cleared, same)) =
        let front = front_gives s x mid has enough filled in
        let rest = clears_gives s mid.1 z.1 cleared in
        let first = front_keeps marks (far (front_windows m x.1 s)) m bytes source reads known s x (Ok u) mid
        (far_outside (front_windows m x.1 s)) filled in
        let second = clears_keeps marks (far (rest_windows m mid.1 s)) m s mid.1 (Ok tt) z.1
        (far_outside (rest_windows m mid.1 s)) cleared in (
          rest
              ∙ ap (λ (tables : List Table). written (cells (rest_windows m (record x.1 { tables = tables }) s))
              (replicate (s.size - s.file_size) 0) mid.1.blocks) first.tables
              ∙ ap (λ (bs : List (List ℕ)). written (cells (rest_windows m x.1 s))
              (replicate (s.size - s.file_size) 0) bs)
              front.0,
          ap bytes same ∙ front.1,
          second.tables ∙ first.tables,
        )

    pub all_given : (ss : List Segment) (x z : S × Host B) (host : Host B) → x.1.tables ≡ host.tables
        → bytes x.0 ≡ Some all → ((s : Segment) → Contains ss s → s.file_size ≤ length all - s.file_offset)
        → LoadsAll bytes source reads known marks m ss x (Ok tt) z
        → z.1.blocks ≡ blocks_after m host all ss x.1.blocks
    unfolding LoadsAll
    all_given [] x z host same has enough h = ap (λ (q : S × Host B). q.1.blocks) h.1
    all_given (s ∷ ss) x z host same has enough (Err e, mid, loads, over) = absurd (let no = over.0 in cc)
    all_given (s ∷ ss) x z host same has enough (Ok u, mid, loads, more) =
        let first = segment_gives s x mid has (enough s (0, omega arith, refl)) loads in
        let here : mid.1.blocks ≡ with_segment m host all s x.1.blocks =
        first.0 ∙ ap (λ (tables : List Table). with_segment m (record host {
          tables =
              tables;
        }) all s x.1.blocks) same in
        all_given ss mid z host (first.2 ∙ same) first.1
        (λ t among. enough t (suc among.0, omega (arith, among.1), among.2)) more
        ∙ ap (λ (bs : List (List ℕ)). blocks_after m host all ss bs) here
