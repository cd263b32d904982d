-- Bytes that a load does not name stay as they were.
use Rattle.std.specs.Bool.{⊤}
use Rattle.std.proofs.Common.{◌≡◌, ◌∙◌, inl, inr, ℕ, zero, suc, ◌+◌, ◌-◌, ◌^◌, ◌<◌, ◌≤◌, ◌==◌, nat_lt, Bool, true, false, MatchBool, MatchResult, List, [], ◌∷◌, Contains, None, Option, Result, Ok, Err, arith, ap, refl, subst, sym}
use Rattle.vm_memory_base.specs.Table.{Table}
use Rattle.vm_memory_base.specs.Transfer.{Answer, Next, Again, AgainUpto, Last, Done, Retry, RestOf, AllMoved, NoneMoved, TurnFailed, SomeMoved, Stop}
use Rattle.vm_memory_base.specs.declared.io.VolatileMemoryError.{VolatileMemoryError}
use Rattle.vm_memory_guest.specs.Copy.{front}
use Rattle.vm_memory_guest.specs.Host.{Host, Cell, byte_at, cells_from, written}
use Rattle.vm_memory_guest.specs.Memory.{Memory}
use Rattle.vm_memory_guest.specs.Transfer.{Fills, InOrder, LendsWindow, UntilWhole, marked_of}
use Rattle.vm_memory_guest.specs.Window.{MarksWindow, Window, cells_of, part}
use Rattle.vm_memory_guest.specs.declared.region.error.GuestMemoryError.{GuestMemoryError}
use Rattle.vm_memory_guest.proofs.MarkLaws.{blocks-MarksAll, tables-MarksAll}
use Rattle.vm_memory_guest.proofs.WrittenLaws.{byte_at-written_other}
use Rattle.linux_loader.specs.Load.{Clears, ClearsRest, FillsFront, FillsFrom, Lends, LoadsAll, LoadsSegment, Receives, zeros}
use Rattle.linux_loader.specs.Loaded.{IsUnnamed, Keeps, Outside, windows_at}
use Rattle.linux_loader.specs.declared.error.LoaderError.{LoaderError}
use Rattle.linux_loader.specs.declared.error.LoaderError.TheVariants as errors
use Rattle.linux_loader.specs.declared.segment.Segment.{Segment}

-- ---- cells

fewer : (b o n m : ℕ) (c : Cell) → n ≤ m → Contains (cells_from b o n) c → Contains (cells_from b o m) c
fewer b o zero m c l (i, within, is) = absurd (omega arith)
fewer b o (suc n) zero c l h = absurd (omega arith)
fewer b o (suc n) (suc m) c l (zero, within, is) = (zero, omega arith, is)
fewer b o (suc n) (suc m) c l (suc i, within, is) =
    let h = fewer b (o + 1) n m c (omega arith) (i, omega arith, is) in (suc h.0, omega (arith, h.1), h.2)

behind : (b o k n m : ℕ) (c : Cell) → k + n ≤ m → Contains (cells_from b (o + k) n) c → Contains (cells_from b o m) c
behind b o zero n m c l h =
    let same : o + 0 ≡ o = omega arith in
    fewer b o n m c (omega arith) (subst (λ (k : ℕ). Contains (cells_from b k n) c) same h)
behind b o (suc k) n zero c l h = absurd (omega arith)
behind b o (suc k) n (suc m) c l h =
    let same : o + suc k ≡ o + 1 + k = omega arith in
    let more = behind b (o + 1) k n m c (omega arith) (subst (λ (i : ℕ). Contains (cells_from b i n) c) same h) in
    (suc more.0, omega (arith, more.1), more.2)

module _ {B : Type 0} (marks : B → ℕ → ℕ → B → Type 0) (c : Cell) where
  keeps_same : (host : Host B) → Keeps c host host
  keeps_same host = record { byte = refl; tables = refl }

  keeps_more : (old mid new : Host B) → Keeps c old mid → Keeps c mid new → Keeps c old new
  keeps_more old mid new a b = record { byte = b.byte ∙ a.byte; tables = b.tables ∙ a.tables }

  keeps_is : (old new : Host B) → new ≡ old → Keeps c old new
  keeps_is old new is = subst (λ (h : Host B). Keeps c old h) (sym is) (keeps_same old)

  marked_keeps : (w : Window) (old new : Host B) → MarksWindow marks w old new → Keeps c old new
  marked_keeps w old new h = record {
    byte = ap (λ (bs : List (List ℕ)). byte_at bs c) (blocks-MarksAll marks (w ∷ []) old new (new, h, refl));
    tables = tables-MarksAll marks (w ∷ []) old new (new, h, refl);
  }

  module _ {S : Type 0} (source : S → Option (List Next)) (reads : S → List ℕ → Answer → List ℕ → S → Type 0) where
    window_keeps : (w : Window) (x z : S × Host B) (a : Answer) → ¬ Contains (cells_of w) c
        → LendsWindow source reads marks w x a z → Keeps c x.1 z.1
    window_keeps w x z a out l =
        let mid : Host B = record x.1 { blocks = written (cells_of w) l.bytes x.1.blocks } in
        keeps_more x.1 mid z.1
        (record { byte = byte_at-written_other (cells_of w) l.bytes x.1.blocks c out; tables = refl })
        (marked_keeps (front w (marked_of w.size a)) mid z.1 l.marked)

    again_keeps : (w : Window) {more : ℕ} {x z : S × Host B} {a : Answer} → ¬ Contains (cells_of w) c
        → AgainUpto (LendsWindow source reads marks w) more x a z → Keeps c x.1 z.1
    again_keeps w {x = x} {z = z} {a = a} out (Last t) = window_keeps w x z a out t
    again_keeps w {x = x} {z = z} {a = a} out (Done t is) = window_keeps w x z a out t
    again_keeps w {x = x} {z = z} out (Retry {y = y} {tried = tried} t is rest) =
        keeps_more x.1 y.1 z.1 (window_keeps w x y tried out t) (again_keeps w out rest)

    part_out : (w : Window) (done : ℕ) → done < w.size → ¬ Contains (cells_of w) c
        → ¬ Contains (cells_of (part w done (w.size - done))) c
    part_out w done l out h = out (behind w.block.0 w.offset done (w.size - done) w.size c (omega arith) h)

    rest_keeps : (w : Window) {done total : ℕ} {x z : S × Host B} {stop : Stop} → ¬ Contains (cells_of w) c
        → RestOf (λ filled. Again (LendsWindow source reads marks (part w filled (w.size - filled)))) w.size done x
        total stop z → Keeps c x.1 z.1
    rest_keeps w {x = x} out (AllMoved full) = keeps_same x.1
    rest_keeps w {done = done} out (NoneMoved some t) =
        again_keeps (part w done (w.size - done)) (part_out w done some out) t
    rest_keeps w {done = done} out (TurnFailed some t) =
        again_keeps (part w done (w.size - done)) (part_out w done some out) t
    rest_keeps w {done = done} {x = x} {z = z} out (SomeMoved {y = y} some t moved rest) =
        keeps_more x.1 y.1 z.1 (again_keeps (part w done (w.size - done)) (part_out w done some out) t)
        (rest_keeps w out rest)

    module _ (known : S → Option ℕ) where
      abbrev Moves : Window → S × Host B → Answer → S × Host B → Type 0
      Moves = Fills source reads known marks UntilWhole

      order_keeps : (failure : VolatileMemoryError → GuestMemoryError) (fault : Option GuestMemoryError)
          (ws : List Window) (total : ℕ) (x : S × Host B) (answer : Result ℕ GuestMemoryError) (z : S × Host B)
          → Outside ws c → InOrder failure fault Moves ws total x answer z → Keeps c x.1 z.1
      unfolding InOrder
      order_keeps failure fault [] total x answer z out h = keeps_is x.1 z.1 (ap (λ (p : S × Host B). p.1) h.1)
      order_keeps failure fault (w ∷ ws) total x answer z out h =
          keeps_more x.1 h.1.1 z.1 (rest_keeps w (out w (0, omega arith, refl)) h.2.tried)
          (go (λ now rest. order_keeps failure fault ws now h.1 answer z
          (λ v among. out v (suc among.0, omega (arith, among.1), among.2)) rest) h.0 h.3)
        where
          Others : Type 0
          Others = (now : ℕ) → InOrder failure fault Moves ws now h.1 answer z → Keeps c h.1.1 z.1

          next : Others → (count : ℕ) (b : Bool) → MatchBool b (InOrder failure fault Moves ws (total + count) h.1
              answer z)
              ((answer ≡ Ok (total + count)) × (z ≡ h.1)) → Keeps c h.1.1 z.1
          next others count true rest = others (total + count) rest
          next others count false over = keeps_is h.1.1 z.1 (ap (λ (p : S × Host B). p.1) over.1)

          go : Others → (moved : Answer) → MatchResult moved (λ count. MatchBool (count == w.size)
              (InOrder failure fault Moves ws (total + count) h.1 answer z)
              ((answer ≡ Ok (total + count)) × (z ≡ h.1))) (λ e. (answer ≡ Err (failure e)) × (z ≡ h.1))
              → Keeps c h.1.1 z.1
          go others (Ok count) rest = next others count (count == w.size) rest
          go others (Err e) over = keeps_is h.1.1 z.1 (ap (λ (p : S × Host B). p.1) over.1)

      module _ (m : Memory) where
        receives_keeps : (a n : ℕ) (x : S × Host B) (r : Result (Unit {0}) GuestMemoryError) (z : S × Host B)
            → Outside (windows_at m x.1 a n) c → Receives source reads known marks m a n x r z → Keeps c x.1 z.1
        receives_keeps a n x r z out (inl (told, wants, same)) =
            keeps_is x.1 z.1 (ap (λ (p : S × Host B). p.1) same)
        receives_keeps a n x r z out (inr (total, told, order)) =
            order_keeps _ _ (windows_at m x.1 a n) 0 x total z out order

        lends_keeps : (a n : ℕ) (x : S × Host B) (r : Result (Unit {0}) LoaderError) (z : S × Host B)
            → Outside (windows_at m x.1 a n) c → Lends source reads known marks m a n x r z → Keeps c x.1 z.1
        lends_keeps a n x r z out h = receives_keeps a n x h.0 z out h.1

module _ {B : Type 0} (marks : B → ℕ → ℕ → B → Type 0) (c : Cell) (m : Memory) where
  pub clears_keeps : (s : Segment) (old : Host B) (r : Result (Unit {0}) LoaderError) (new : Host B)
      → Outside (windows_at m old (s.addr.0 + s.file_size) (s.size - s.file_size)) c → ClearsRest marks m s old r new
      → Keeps c old new
  clears_keeps s old r new out h = go (s.size - s.file_size == 0) h
    where
      inside : (b : Bool) → MatchBool b (Clears marks m (s.addr.0 + s.file_size) (s.size - s.file_size) old r new)
          ((r ≡ Err errors.MemoryOverflow) × (new ≡ old)) → Keeps c old new
      inside true h = lends_keeps marks c zeros (λ s lent answer after t. ⊤) (λ s. None) m (s.addr.0 + s.file_size)
          (s.size - s.file_size) (s.size - s.file_size, old) r (h.0, new) out h.1
      inside false h = keeps_is marks c old new h.1

      go : (b : Bool) → MatchBool b ((r ≡ Ok tt) × (new ≡ old))
          (MatchBool (nat_lt (s.addr.0 + s.file_size) (2 ^ 64))
          (Clears marks m (s.addr.0 + s.file_size) (s.size - s.file_size) old r new)
          ((r ≡ Err errors.MemoryOverflow) × (new ≡ old))) → Keeps c old new
      go true h = keeps_is marks c old new h.1
      go false h = inside (nat_lt (s.addr.0 + s.file_size) (2 ^ 64)) h

  module _ {S : Type 0} (bytes : S → Option (List ℕ)) (source : S → Option (List Next))
      (reads : S → List ℕ → Answer → List ℕ → S → Type 0) (known : S → Option ℕ) where
    pub front_keeps : (s : Segment) (x : S × Host B) (r : Result (Unit {0}) LoaderError) (z : S × Host B)
        → Outside (windows_at m x.1 s.addr.0 s.file_size) c
        → FillsFront bytes source reads known marks m s x r z → Keeps c x.1 z.1
    front_keeps s x r z out h = go (s.file_size == 0) h
      where
        from : (f : FillsFrom bytes source reads known marks m s x r z) → Keeps c x.1 z.1
        from f = stood f.0 f.3
          where
            stood : (stands : Result (Unit {0}) VolatileMemoryError) → MatchResult stands
                (λ _. Lends source reads known marks m s.addr.0 s.file_size (f.1, x.1) r z)
                (λ e. (r ≡ Err (errors.Image e)) × (z ≡ (f.1, x.1))) → Keeps c x.1 z.1
            stood (Ok u) l = lends_keeps marks c source reads known m s.addr.0 s.file_size (f.1, x.1) r z out l
            stood (Err e) over = keeps_is marks c x.1 z.1 (ap (λ (p : S × Host B). p.1) over.1)

        go : (b : Bool) → MatchBool b ((r ≡ Ok tt) × (z ≡ x)) (FillsFrom bytes source reads known marks m s x r z)
            → Keeps c x.1 z.1
        go true h = keeps_is marks c x.1 z.1 (ap (λ (p : S × Host B). p.1) h.1)
        go false h = from h

    segment_keeps : (s : Segment) (x : S × Host B) (r : Result (Unit {0}) LoaderError) (z : S × Host B)
        → IsUnnamed m x.1 c s → LoadsSegment bytes source reads known marks m s x r z → Keeps c x.1 z.1
    segment_keeps s x r z out h = keeps_more marks c x.1 h.1.1 z.1 first (go h.0 h.3)
      where
        first : Keeps c x.1 h.1.1
        first = front_keeps s x h.0 h.1 out.front h.2

        there : Outside (windows_at m h.1.1 (s.addr.0 + s.file_size) (s.size - s.file_size)) c
        there = subst (λ (tables : List Table). Outside
            (windows_at m (record h.1.1 { tables = tables }) (s.addr.0 + s.file_size) (s.size - s.file_size)) c)
            (sym first.tables) out.rest

        go : (filled : Result (Unit {0}) LoaderError)
            → MatchResult filled (λ _. ClearsRest marks m s h.1.1 r z.1 × (z.0 ≡ h.1.0))
            (λ e. (r ≡ Err e) × (z ≡ h.1)) → Keeps c h.1.1 z.1
        go (Ok u) l = clears_keeps s h.1.1 r z.1 there l.0
        go (Err e) over = keeps_is marks c h.1.1 z.1 (ap (λ (p : S × Host B). p.1) over.1)

    unnamed_still : (s : Segment) (old new : Host B) → Keeps c old new → IsUnnamed m old c s → IsUnnamed m new c s
    unnamed_still s old new k out = record {
      front = subst (λ (tables : List Table). Outside (windows_at m (record new {
        tables =
            tables;
      }) s.addr.0 s.file_size) c)
          (sym k.tables) out.front;
      rest = subst (λ (tables : List Table). Outside
          (windows_at m (record new { tables = tables }) (s.addr.0 + s.file_size) (s.size - s.file_size)) c)
          (sym k.tables) out.rest;
    }

    pub all_keeps : (ss : List Segment) (x : S × Host B) (r : Result (Unit {0}) LoaderError) (z : S × Host B)
        → LoadsAll bytes source reads known marks m ss x r z
        → ((s : Segment) → Contains ss s → IsUnnamed m x.1 c s) → Keeps c x.1 z.1
    unfolding LoadsAll
    all_keeps [] x r z h out = keeps_is marks c x.1 z.1 (ap (λ (p : S × Host B). p.1) h.1)
    all_keeps (s ∷ ss) x r z h out = keeps_more marks c x.1 h.1.1 z.1 first
        (go (λ l. all_keeps ss h.1 r z l (λ t among.
        unnamed_still t x.1 h.1.1 first (out t (suc among.0, omega (arith, among.1), among.2)))) h.0 h.3)
      where
        first : Keeps c x.1 h.1.1
        first = segment_keeps s x h.0 h.1 (out s (0, omega arith, refl)) h.2

        go : (LoadsAll bytes source reads known marks m ss h.1 r z → Keeps c h.1.1 z.1)
            → (loaded : Result (Unit {0}) LoaderError) → MatchResult loaded
            (λ _. LoadsAll bytes source reads known marks m ss h.1 r z) (λ e. (r ≡ Err e) × (z ≡ h.1))
            → Keeps c h.1.1 z.1
        go others (Ok u) l = others l
        go others (Err e) over = keeps_is marks c h.1.1 z.1 (ap (λ (p : S × Host B). p.1) over.1)
