-- What is marked for a ring: no page is lost.
use Rattle.std.proofs.Common.{◌≡◌, ◌∙◌, ℕ, zero, suc, ◌+◌, ◌-◌, ◌/◌, ◌%◌, ◌^◌, ◌<◌, ◌≤◌, ◌==◌, ◌||◌, min, nat_le, nat_lt, Bool, true, false, List, [], ◌∷◌, ◌++◌, length, map, Option, Some, None, IsSomeAnd, if◌then◌else◌, refl, ap, sym, subst, inl, inr, arith, rules}
use Rattle.std.proofs.Math.Nat.{mod-eq-sub-mod, mod-eq_of_lt, mod-le, mod-lt}
use Rattle.std.proofs.Math.Pow.{shr_mono}
use Rattle.std.proofs.lemmas.Bool.{cases_Bool, eqb-true, leb-true, ltb-false, ltb-true}
use Rattle.std.specs.List.{fold, slice_get}
use Rattle.vm_memory_base.proofs.RunsLaws.{is_within-in, value_at-runs, within_or_not}
use Rattle.vm_memory_base.proofs.TableLaws.{is_allowed-each, same_mapping_tests_equality, target_steps}
use Rattle.vm_memory_base.specs.Address.{step}
use Rattle.vm_memory_base.specs.Lookup.{mapped_ranges}
use Rattle.vm_memory_base.specs.Permissions.{allow}
use Rattle.vm_memory_base.specs.Runs.{AddressRun, runs, value_at}
use Rattle.vm_memory_base.specs.Table.{Mapping, Range, Says, Table, is_allowed, piece_of, pieces, same_mapping, target}
use Rattle.vm_memory_base.specs.declared.iotlb.Permissions.TheVariants.{Write}
use Rattle.vm_memory_base.specs.declared.iotlb.lookup.MappedRange.{MappedRange}
use Rattle.vm_memory_guest.specs.Host.{Host}
use Rattle.vm_memory_guest.specs.Memory.{Memory, says_of}
use Rattle.vm_memory_guest.specs.declared.host.TlbId.{TlbId}
use Rattle.vhost_iotlb.specs.Leads.{LeadsTo}
use Rattle.vhost_backend.specs.PageList.{IsToMark, Pages, added_if, added_to, capped, hull, marked, pages_from, pages_of, touch}
use Rattle.vhost_backend.specs.Marks.{MarksRing}
use Rattle.vhost_backend.specs.RingMarks.{marked_through, range_marked, ring_marked}
use Rattle.vhost_backend.specs.RingMemory.{Logs, marks_ring}
use Rattle.vhost_backend.specs.declared.page_list.PageRange.{PageRange}
use Rattle.vhost_backend.specs.declared.page_list.TheConstants.{RANGES}
use Rattle.vhost_backend.specs.declared.pieces.Piece.{Piece}
use Rattle.vhost_backend.specs.declared.ring_memory.Logged.{Logged}
use Rattle.vhost_backend.proofs.PageLemmas.{added_is_to_mark, still_to_mark}

-- ---- what was to be marked still is

added_still : (l : Pages) (o : Option PageRange) (page : ℕ) → IsToMark page l → IsToMark page (added_if l o)
added_still l None page is = is
added_still l (Some range) page is = still_to_mark page l range is

pub marked_still : (l : Pages) (base offset n page : ℕ) → IsToMark page l → IsToMark page (marked l base offset n)
marked_still l base offset n page is = added_still l (pages_of l.pages base offset n) page is

range_still : (l : Pages) (r : Range) (page : ℕ) → IsToMark page l → IsToMark page (range_marked l r)
range_still l r page is = let past = r.base + r.len - 2 ^ 64 in
    marked_still (marked l r.base 0 (r.len - past)) 0 0 past page (marked_still l r.base 0 (r.len - past) page is)

ranges_still : (rs : List Range) (l : Pages) (page : ℕ) → IsToMark page l → IsToMark page (fold range_marked l rs)
ranges_still [] l page is = is
ranges_still (r ∷ rs) l page is = ranges_still rs (range_marked l r) page (range_still l r page is)

through_still : (f : Says) (l : Pages) (a n page : ℕ) → IsToMark page l → IsToMark page (marked_through f l a n)
through_still f l a n page is = go (is_allowed f a n Write)
  where
    go : (v : Bool) → IsToMark page (if v then fold range_marked l (pieces f a n) else l)
    go true = ranges_still (pieces f a n) l page is
    go false = is

pub ring_still : (t : Option TlbId) (tables : List Table) (l : Pages) (base offset n page : ℕ) → IsToMark page l
    → IsToMark page (ring_marked t tables l base offset n)
ring_still None tables l base offset n page is = marked_still l base offset n page is
ring_still (Some t) tables l base offset n page is =
    through_still (says_of (slice_get tables t.0)) l (base + offset) n page is

-- ---- ranges as a look-up gives them, and a range that begins after the last address

abbrev pub item_marked : Pages → MappedRange → Pages
item_marked l p = range_marked l (record { base = p.base.0; len = p.length })

pub items_marked : (rs : List Range) (l : Pages) → fold item_marked l (mapped_ranges rs) ≡ fold range_marked l rs
items_marked [] l = refl
items_marked (r ∷ rs) l = items_marked rs (range_marked l r)

pub none_marked : (f : Says) (l : Pages) (a n : ℕ) → 2 ^ 64 ≤ a → marked_through f l a n ≡ l
unfolding runs
none_marked f l a n past = elim (cases_Bool (is_allowed f a n Write)) [
  | inl t ↦
      elim ((is_allowed-each f a n Write).0 t) [
        | inl none ↦ rw t (ap (λ (k : ℕ). fold range_marked l (pieces f a k)) none)
        | inr w ↦ absurd (omega (arith, w.0, past))
      ]
  | inr t ↦ rw t refl
]

-- ---- each page that a ring's addresses lead to is to be marked

added_to_pages : (l : Pages) (range : PageRange) (o : Option PageRange) → (added_to l range o).pages ≡ l.pages
added_to_pages l range None = refl
added_to_pages l range (Some last) = go (touch last range || nat_le RANGES (length l.others))
  where
    go : (v : Bool) → (if v then record l { last = Some (hull last range) }
        else record l { last = Some range; others = l.others ++ last ∷ [] }).pages ≡ l.pages
    go true = refl
    go false = refl

marked_pages : (l : Pages) (base offset n : ℕ) → (marked l base offset n).pages ≡ l.pages
marked_pages l base offset n = go (pages_of l.pages base offset n)
  where
    go : (o : Option PageRange) → (added_if l o).pages ≡ l.pages
    go None = refl
    go (Some range) = added_to_pages l range l.last

range_pages : (l : Pages) (r : Range) → (range_marked l r).pages ≡ l.pages
range_pages l r = let past = r.base + r.len - 2 ^ 64 in
    marked_pages (marked l r.base 0 (r.len - past)) 0 0 past ∙ marked_pages l r.base 0 (r.len - past)

-- the page of an address in a range that is marked, if it has a bit
address_marked : (l : Pages) (base n x : ℕ) → base ≤ x → x < base + n → x < 2 ^ 64 → x / 4096 < l.pages
    → IsToMark (x / 4096) (marked l base 0 n)
address_marked l base n x from to fits has = some (n == 0) refl
  where
    start : ℕ
    start = capped (base + 0)

    range : PageRange
    range = record { first = start / 4096; end = min l.pages (capped (start + (n - 1)) / 4096 + 1) }

    begins : start / 4096 ≤ x / 4096
    begins = let before : start ≤ x = omega arith in shr_mono 12 before

    ends : x / 4096 ≤ capped (start + (n - 1)) / 4096
    ends = let after : x ≤ capped (start + (n - 1)) = omega arith in shr_mono 12 after

    among : (v : Bool) → nat_le l.pages (start / 4096) ≡ v
        → IsToMark (x / 4096) (added_if l (if v then None else Some range))
    among true is = let none = leb-true l.pages (start / 4096) is in absurd (omega (arith, none, begins))
    among false is = added_is_to_mark (x / 4096) l range (begins, omega (arith, ends))

    some : (v : Bool) → (n == 0) ≡ v → IsToMark (x / 4096) (added_if l (if v then None else pages_from l.pages start n))
    some true is = let none : n ≡ 0 = eqb-true n 0 is in absurd (omega (arith, none))
    some false is = among (nat_le l.pages (start / 4096)) refl

-- the page of an address of a range, which goes on at 0 after the last address
step_marked : (l : Pages) (r : Range) (j : ℕ) → r.base < 2 ^ 64 → j < r.len → step r.base j / 4096 < l.pages
    → IsToMark (step r.base j / 4096) (range_marked l r)
step_marked l r j based within has = elim (cases_Bool (nat_lt (r.base + j) (2 ^ 64))) [
  | inl t ↦
      let below : r.base + j < 2 ^ 64 = ltb-true (r.base + j) (2 ^ 64) t in
      let same : step r.base j ≡ r.base + j = mod-eq_of_lt below in
      let here = address_marked l r.base (r.len - past) (step r.base j) (omega (arith, same)) (omega (arith, same))
      (omega (arith, same)) has in
      marked_still (marked l r.base 0 (r.len - past)) 0 0 past (step r.base j / 4096) here
  | inr t ↦
      let above : 2 ^ 64 ≤ r.base + j = ltb-false (r.base + j) (2 ^ 64) t in
      let same : step r.base j ≡ (r.base + j - 2 ^ 64) % 2 ^ 64 = mod-eq-sub-mod above in
      let less : (r.base + j - 2 ^ 64) % 2 ^ 64 ≤ r.base + j - 2 ^ 64 = mod-le (r.base + j - 2 ^ 64) (2 ^ 64) in
      let fits : step r.base j < 2 ^ 64 = mod-lt (r.base + j) (search rules) in
      address_marked (marked l r.base 0 (r.len - past)) 0 past (step r.base j) (omega arith)
      (omega (arith, same, less, above)) fits
      (subst (λ n. step r.base j / 4096 < n) (sym (marked_pages l r.base 0 (r.len - past))) has)
]
  where
    past : ℕ
    past = r.base + r.len - 2 ^ 64

run_marked : (rs : List (AddressRun Mapping)) (l : Pages) (x : ℕ) (m : Mapping) → value_at rs x ≡ Some m
    → target x m / 4096 < l.pages → IsToMark (target x m / 4096) (fold range_marked l (map piece_of rs))
run_marked [] l x m is has = absurd (cc)
run_marked (r ∷ rs) l x m is has = elim (within_or_not r.start r.len x) [
  | inl w ↦
      let value : Some r.value ≡ Some m = rw w.0 at is in
      let mapping : r.value ≡ m = cc in
      let i = x - r.start in
      let at : r.start + i ≡ x = omega (arith, w.1) in
      let leads : step (target r.start r.value) i ≡ target x m =
      sym (target_steps r.start i r.value) ∙ ap (λ (y : ℕ). target y r.value) at
      ∙ ap (λ (n : Mapping). target x n) mapping in
      let based : target r.start r.value < 2 ^ 64 = mod-lt (r.start + r.value.difference) (search rules) in
      let marked_there = step_marked l (piece_of r) i based (omega (arith, w.2))
      (subst (λ y. y / 4096 < l.pages) (sym leads) has) in
      ranges_still (map piece_of rs) (range_marked l (piece_of r)) (target x m / 4096)
      (subst (λ y. IsToMark (y / 4096) (range_marked l (piece_of r))) leads marked_there)
  | inr w ↦ run_marked rs (range_marked l (piece_of r)) x m (rw w.0 at is)
      (subst (λ n. target x m / 4096 < n) (sym (range_pages l (piece_of r))) has)
]

pub byte_marked : (f : Says) (l : Pages) (a n x to : ℕ) → is_allowed f a n Write ≡ true → a ≤ x → x < a + n
    → LeadsTo f x to Write → to / 4096 < l.pages → IsToMark (to / 4096) (marked_through f l a n)
byte_marked f l a n x to allowed from below leads has = rw allowed (go (f x) refl leads)
  where
    go : (o : Option Mapping) → f x ≡ o → IsSomeAnd o (λ m. (target x m ≡ to) × (allow m.permissions Write ≡ true))
        → IsToMark (to / 4096) (fold range_marked l (pieces f a n))
    go None is none = absurd none
    go (Some m) is (there, may) =
        let within = is_within-in a n x from below in
        let value : value_at (runs same_mapping f a n) x ≡ Some m =
        rw (within, is) at (value_at-runs same_mapping same_mapping_tests_equality.0 f a n x) in
        subst (λ y. IsToMark (y / 4096) (fold range_marked l (pieces f a n))) there
        (run_marked (runs same_mapping f a n) l x m value (subst (λ y. y / 4096 < l.pages) (sym there) has))

ring_byte_marked : {B : Type 0} (marks_of : B → ℕ → ℕ → B → Type 0) (ring guest : Memory) (t : TlbId)
    (old new : Logged B) (base offset n x to : ℕ)
    → Logs marks_of ring guest (Some t) old (marks_ring base offset n) tt new
    → is_allowed (says_of (slice_get old.host.tables t.0)) (base + offset) n Write ≡ true → base + offset ≤ x
    → x < base + offset + n → LeadsTo (says_of (slice_get old.host.tables t.0)) x to Write
    → to / 4096 < old.pages.pages → IsToMark (to / 4096) new.pages
ring_byte_marked marks_of ring guest t old new base offset n x to logs allowed from below leads has =
    subst (IsToMark (to / 4096)) (sym logs.1)
    (byte_marked (says_of (slice_get old.host.tables t.0)) old.pages (base + offset) n x to allowed from below leads has)

-- ---- marks of a ring, one after another

ranges_pages : (rs : List Range) (l : Pages) → (fold range_marked l rs).pages ≡ l.pages
ranges_pages [] l = refl
ranges_pages (r ∷ rs) l = ranges_pages rs (range_marked l r) ∙ range_pages l r

through_pages : (f : Says) (l : Pages) (a n : ℕ) → (marked_through f l a n).pages ≡ l.pages
through_pages f l a n = go (is_allowed f a n Write)
  where
    go : (v : Bool) → (if v then fold range_marked l (pieces f a n) else l).pages ≡ l.pages
    go true = ranges_pages (pieces f a n) l
    go false = refl

module _ {B : Type 0} (marks_of : B → ℕ → ℕ → B → Type 0) (ring guest : Memory) (t : TlbId) where
  marks_still : (ms : List Piece) (old new : Logged B) (page : ℕ)
      → MarksRing (Logs marks_of ring guest (Some t)) ms old new → IsToMark page old.pages → IsToMark page new.pages
  marks_still [] old new page is there = subst (λ (l : Logged B). IsToMark page l.pages) (sym is) there
  marks_still (m ∷ ms) old new page (mid, first, rest) there = marks_still ms mid new page rest
      (subst (IsToMark page) (sym first.1)
      (ring_still (Some t) old.host.tables old.pages m.base m.offset m.len page there))

  pub ring_bytes_marked : (ms : List Piece) (i : ℕ) (m : Piece) (old new : Logged B) (x to : ℕ)
      → MarksRing (Logs marks_of ring guest (Some t)) ms old new → slice_get ms i ≡ Some m
      → is_allowed (says_of (slice_get old.host.tables t.0)) (m.base + m.offset) m.len Write ≡ true
      → m.base + m.offset ≤ x → x < m.base + m.offset + m.len
      → LeadsTo (says_of (slice_get old.host.tables t.0)) x to Write → to / 4096 < old.pages.pages
      → IsToMark (to / 4096) new.pages
  ring_bytes_marked [] i m old new x to made at allowed from below leads has = absurd (cc)
  ring_bytes_marked (n ∷ ms) zero m old new x to (mid, first, rest) at allowed from below leads has =
      let same : n ≡ m = cc in
      let step = subst (λ (p : Piece). Logs marks_of ring guest (Some t) old (marks_ring p.base p.offset p.len) tt mid)
      same first in
      marks_still ms mid new (to / 4096) rest
      (ring_byte_marked marks_of ring guest t old mid m.base m.offset m.len x to step allowed from below leads has)
  ring_bytes_marked (n ∷ ms) (suc i) m old new x to (mid, first, rest) at allowed from below leads has =
      let back : old.host ≡ mid.host = sym first.0 in
      let pages : mid.pages.pages ≡ old.pages.pages = ap (λ (l : Pages). l.pages) first.1
      ∙ through_pages (says_of (slice_get old.host.tables t.0)) old.pages (n.base + n.offset) n.len in
      ring_bytes_marked ms i m mid new x to rest at (subst (λ (h : Host B).
      is_allowed (says_of (slice_get h.tables t.0)) (m.base + m.offset) m.len Write ≡ true) back allowed) from below
      (subst (λ (h : Host B). LeadsTo (says_of (slice_get h.tables t.0)) x to Write) back leads)
      (subst (λ k. to / 4096 < k) (sym pages) has)
