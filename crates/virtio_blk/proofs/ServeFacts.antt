-- Data on its way between guest memory and a disk, piece by piece.
use Rattle.std.proofs.Common.{◌≡◌, ◌∙◌, ◌∷◌, Bool, true, false, ◌⊎◌, inl, inr, ℕ, ◌+◌, ◌-◌, ◌*◌, ◌/◌, ◌%◌, ◌<◌, ◌≤◌, min, List, [], ◌++◌, length, take, drop, Option, Some, None, refl, sym, ap, subst, arith, append-nil, length-append, length-drop, take_all, take-add}
use Rattle.std.proofs.lemmas.List.{drop-drop, drop_at, length-take-le, take_at}
use Rattle.std.proofs.lemmas.Bool.{cases_lt}
use Rattle.vm_memory_base.specs.Table.{Table}
use Rattle.vm_memory_base.specs.declared.iotlb.Permissions.{Permissions}
use Rattle.vm_memory_base.specs.declared.iotlb.Permissions.TheVariants.{Read, Write}
use Rattle.vm_memory_guest.specs.Host.{Host, shape_of}
use Rattle.vm_memory_guest.specs.Memory.{Memory}
use Rattle.vm_memory_device.specs.Chain.{Entry}
use Rattle.virtio_blk.specs.Disk.{Call, LieAt, Moves, after_write, joined, reads, writes}
use Rattle.virtio_blk.specs.Served.{AreCut, Loads, SameDisk, Stores, piece, piece_end}
use Rattle.virtio_blk.specs.Texts.{Accessed, Stops, StopsAt, StopsWithin, WritesAt, reached, text_bytes}
use Rattle.virtio_blk.proofs.DiskFacts.{Has, after_write-append, after_write-none, lie-append, lie-none}
use Rattle.virtio_blk.proofs.TextFacts.{accessed-append, accessed_none, length-reached, length-text_bytes, reached-drop, text_bytes-add, writes-append, writes_none}

-- ---- stops

-- a text stops where what is left of it does
pub stops-drop : (m : Memory) (tables : List Table) (access : Permissions) (es : List Entry) (n count all k : ℕ)
    (wanted : Bool) → n + count ≡ all → StopsAt m tables access (drop n es) count wanted k
    → StopsAt m tables access es all wanted (n + k)
stops-drop m tables access es n count all k wanted is (short, stops) =
    let left : count - k ≡ all - (n + k) = omega arith in
    let same : drop k (drop n es) ≡ drop (n + k) es =
    drop-drop k n es in (
      omega arith,
      subst (λ j. Stops m tables access (drop (n + k) es) j wanted) left
          (subst (λ (ls : List Entry). Stops m tables access ls (count - k) wanted) same stops),
    )

-- a disk that tells its bytes tells those of its sectors
pub has_sectors : (all : Option (List ℕ)) (size n : ℕ) → ((bytes : List ℕ) → all ≡ Some bytes → length bytes ≡ size)
    → n ≤ size → Has all n
has_sectors None size n told fits = tt
has_sectors (Some bytes) size n told fits = let e = told bytes refl in omega arith

-- ---- pieces

-- a piece has whole sectors
pub piece_whole : (len moved n : ℕ) → n ≡ min (len - moved) 65536 → len % 512 ≡ 0 → moved % 512 ≡ 0 → n % 512 ≡ 0
piece_whole len moved n is all so_far = go (cases_lt 65536 (len - moved))
  where
    go : (65536 < len - moved) ⊎ (len - moved ≤ 65536) → n % 512 ≡ 0
    go (inr short) = omega arith
    go (inl long) = let e : n ≡ 65536 = omega arith in ap (λ k. k % 512) e

-- it is a whole one, or the last
pub piece_ends : (len moved n : ℕ) → n ≡ min (len - moved) 65536 → moved < len
    → (moved % piece ≡ 0) ⊎ (moved ≡ len) → ((moved + n) % piece ≡ 0) ⊎ (moved + n ≡ len)
piece_ends len moved n is short (inr all) = absurd (omega arith)
piece_ends len moved n is short (inl whole) = go (cases_lt 65536 (len - moved))
  where
    go : (65536 < len - moved) ⊎ (len - moved ≤ 65536) → ((moved + n) % piece ≡ 0) ⊎ (moved + n ≡ len)
    go (inr last) = inr (omega arith)
    go (inl more) = inl (let e : n ≡ 65536 = omega arith in omega (arith, whole, e))

-- the same where one byte is left over
pub piece_ends-before : (len moved n size : ℕ) → n ≡ min (len - moved) 65536 → moved < len → len + 1 ≡ size
    → (moved % piece ≡ 0) ⊎ (moved + 1 ≡ size) → ((moved + n) % piece ≡ 0) ⊎ (moved + n + 1 ≡ size)
piece_ends-before len moved n size is short over pieces =
    told (piece_ends len moved n is short (mine pieces))
  where
    mine : (moved % piece ≡ 0) ⊎ (moved + 1 ≡ size) → (moved % piece ≡ 0) ⊎ (moved ≡ len)
    mine (inl e) = inl e
    mine (inr e) = inr (omega arith)

    told : ((moved + n) % piece ≡ 0) ⊎ (moved + n ≡ len) → ((moved + n) % piece ≡ 0) ⊎ (moved + n + 1 ≡ size)
    told (inl e) = inl e
    told (inr e) = inr (omega arith)

-- ---- from a text to a disk

module _ {B D : Type 0} (bytes : D → Option (List ℕ)) (sectors : D → ℕ) (calls : D → Call → Bool → D → Type 0)
    (m : Memory) (host : Host B) (es : List Entry) (sector : ℕ) (old : D) where
  -- so many bytes came, in whole pieces, or all did
  pub record StoredSoFar (moved : ℕ) (now : D) (left : List Entry) : Type 0 where
    pub within : moved ≤ length (reached m host.tables es)
    pub access : Accessed m host.tables Read es moved
    pub most : moved ≤ length es
    pub whole : moved % 512 ≡ 0
    pub ends : (moved % piece ≡ 0) ⊎ (moved ≡ length es)
    pub pieces : List (List ℕ)
    pub taken : Moves calls writes sector pieces old now
    pub cut : AreCut (length es) pieces
    pub are : joined pieces ≡ text_bytes m host es moved
    pub disk : bytes now ≡ after_write (512 * sector) (text_bytes m host es moved) (bytes old)
    pub size : sectors now ≡ sectors old
    pub place : left ≡ drop moved es

  pub stored_none : StoredSoFar 0 old es
  stored_none = record {
    within = omega arith;
    access = accessed_none m host.tables Read es;
    most = omega arith;
    whole = refl;
    ends = inl refl;
    pieces = [];
    taken = refl;
    cut = tt;
    are = refl;
    disk = sym (after_write-none (512 * sector) (bytes old));
    size = refl;
    place = refl;
  }

  -- a piece more
  pub stored_more : (moved n : ℕ) (now next : D) (left after : List Entry) → StoredSoFar moved now left
      → Has (bytes old) (512 * sector + moved) → n % 512 ≡ 0 → n ≡ min (length es - moved) piece → moved < length es
      → (moved + n) % piece ≡ 0 ⊎ (moved + n ≡ length es) → n ≤ length (reached m host.tables left)
      → Accessed m host.tables Read left n → after ≡ drop n left
      → bytes next ≡ after_write (512 * sector + moved) (text_bytes m host left n) (bytes now)
      → calls now (writes (sector + moved / 512) (text_bytes m host left n)) true next → sectors next ≡ sectors now
      → StoredSoFar (moved + n) next after
  stored_more moved n now next left after h has whole is short ends within access place disk took size =
      let at = 512 * sector in
      let r = reached m host.tables es in
      let rest : length (reached m host.tables left) ≡ length r - moved =
      ap (λ (ls : List Entry). length (reached m host.tables ls)) h.place
      ∙ ap length (reached-drop m host.tables moved es h.within) ∙ length-drop moved r in
      let count : length (text_bytes m host es moved) ≡ moved = length-text_bytes m host es moved h.within in
      record {
        within = omega (arith, within, rest, h.within);
        access = accessed-append m host.tables Read es moved n h.access
            (subst (λ (ls : List Entry). Accessed m host.tables Read ls n) h.place access);
        most = omega (arith, within, rest, h.within, length-reached m host.tables es);
        whole = omega (arith, whole, h.whole);
        ends = ends;
        pieces = text_bytes m host left n ∷ h.pieces;
        taken = (
          now,
          h.taken,
          subst (λ k. calls now (writes (sector + k / 512) (text_bytes m host left n)) true next)
              (sym (ap length h.are ∙ count)) took,
        );
        cut = (
          h.cut,
          omega (arith, short, ap length h.are, count),
          length-text_bytes m host left n within
              ∙ (let e : n ≡ min piece (length es - length (joined h.pieces)) =
              omega (arith, is, ap length h.are, count) in e),
        );
        are = ap (λ bs. bs ++ text_bytes m host left n) h.are
            ∙ ap (λ (ls : List Entry). text_bytes m host es moved ++ text_bytes m host ls n) h.place
            ∙ sym (text_bytes-add m host es moved n h.within);
        disk = disk
            ∙ ap (after_write (at + moved) (text_bytes m host left n)) h.disk
            ∙ ap (λ (ls : List Entry). after_write (at + moved) (text_bytes m host ls n)
            (after_write at (text_bytes m host es moved) (bytes old))) h.place
            ∙ ap (λ k. after_write (at + k) (text_bytes m host (drop moved es) n)
            (after_write at (text_bytes m host es moved) (bytes old))) (sym count)
            ∙ after_write-append at (text_bytes m host es moved) (text_bytes m host (drop moved es) n) (bytes old)
            (subst (λ k. Has (bytes old) (at + k)) (sym count) has)
            ∙ ap (λ bs. after_write at bs (bytes old)) (sym (text_bytes-add m host es moved n h.within));
        size = size ∙ h.size;
        place = place ∙ ap (drop n) h.place ∙ drop-drop n moved es;
      }

  -- all came
  pub stored_all : (len moved : ℕ) (now : D) (left : List Entry) → len ≡ length es → StoredSoFar moved now left
      → len ≤ moved → Stores bytes sectors calls m host es sector len old 0 false now
  stored_all len moved now left all h done = record {
    moved = moved;
    pieces = h.pieces;
    last = now;
    taken = h.taken;
    cut = subst (λ k. AreCut k h.pieces) (sym all) h.cut;
    are = h.are;
    within = h.within;
    access = h.access;
    disk = h.disk;
    size = h.size;
    ended = inl (refl, refl, omega (arith, h.most), refl);
  }

  -- a piece did not
  pub stored_stop : (len moved n : ℕ) (wanted : Bool) (now next : D) (left : List Entry) → len ≡ length es
      → StoredSoFar moved now left
      → moved < len → n ≡ min (len - moved) piece → bytes next ≡ bytes now → sectors next ≡ sectors now
      → ((wanted ≡ false) × calls now (writes (sector + moved / 512) (text_bytes m host left n)) false next)
      ⊎ ((next ≡ now) × StopsWithin m host.tables Read left n wanted)
      → Stores bytes sectors calls m host es sector len old 1 wanted next
  stored_stop len moved n wanted now next left all h short is disk size why = record {
    moved = moved;
    pieces = h.pieces;
    last = now;
    taken = h.taken;
    cut = subst (λ k. AreCut k h.pieces) (sym all) h.cut;
    are = h.are;
    within = h.within;
    access = h.access;
    disk = disk ∙ h.disk;
    size = size ∙ h.size;
    ended = inr (refl, short, whole h.ends, reason why);
  }
    where
      whole : (moved % piece ≡ 0) ⊎ (moved ≡ length es) → moved % piece ≡ 0
      whole (inl e) = e
      whole (inr e) = absurd (omega (arith, e, short, all))

      count : n ≡ min piece (len - moved)
      count = omega (arith, is)

      reason : ((wanted ≡ false) × calls now (writes (sector + moved / 512) (text_bytes m host left n)) false next)
          ⊎ ((next ≡ now) × StopsWithin m host.tables Read left n wanted)
          → ((wanted ≡ false) × calls now
          (writes (sector + moved / 512) (text_bytes m host (drop moved es) (min piece (len - moved)))) false next)
          ⊎ ((next ≡ now) × StopsWithin m host.tables Read (drop moved es) (min piece (len - moved)) wanted)
      reason (inl (none, f)) = inl (
        none,
        subst
            (λ k. calls now (writes (sector + moved / 512) (text_bytes m host (drop moved es) k)) false next) count
            (subst (λ (ls : List Entry). calls now (writes (sector + moved / 512) (text_bytes m host ls n)) false next)
            h.place f),
      )
      reason (inr (same, s)) = inr (
        same,
        subst (λ k. StopsWithin m host.tables Read (drop moved es) k wanted) count
            (subst (λ (ls : List Entry). StopsWithin m host.tables Read ls n wanted) h.place s),
      )

-- all that came is a front of it
pub all_of : (sent : List ℕ) (pieces : List (List ℕ)) → joined pieces ≡ sent
    → sent ≡ take (length sent) (joined pieces)
all_of sent pieces are = sym (take_all (length sent) sent (omega arith)) ∙ ap (take (length sent)) (sym are)

-- a part of the last piece is the end of a front
pub front_of : (sent got : List ℕ) (n : ℕ) (whole : List ℕ) → whole ≡ sent → n ≤ length got
    → sent ++ take n got ≡ take (length (sent ++ take n got)) (whole ++ got)
front_of sent got n whole are fits =
    let size : length (sent ++ take n got) ≡ length sent + n =
    omega (arith, length-append sent (take n got), length-take-le n got fits) in
    sym (take-add (length sent) n (sent ++ got)
    ∙ ap (λ xs. xs ++ take n (drop (length sent) (sent ++ got))) (take_at sent got (length sent) refl)
    ∙ ap (λ xs. sent ++ take n xs) (drop_at sent got (length sent) refl))
    ∙ ap (λ k. take k (sent ++ got)) (sym size)
    ∙ ap (λ xs. take (length (sent ++ take n got)) (xs ++ got)) (sym are)

-- where a piece ends that was begun after whole ones
last_piece : (len moved n size : ℕ) → size ≡ min (len - moved) 65536 → n < size → moved % 65536 ≡ 0
    → moved + size ≡ piece_end len (moved + n)
last_piece len moved n size is short whole =
    let begun : (moved + n) / 65536 * 65536 ≡ moved = omega (arith, is, short, whole) in
    let same : piece_end len (moved + n) ≡ min (moved + 65536) len = ap (λ k. min (k + 65536) len) begun in
    (let e : moved + size ≡ min (moved + 65536) len = omega (arith, is, short) in e) ∙ sym same

whole_before : (len moved n size : ℕ) → len + 1 ≡ size → moved + n < len
    → (moved % piece ≡ 0) ⊎ (moved + 1 ≡ size) → moved % piece ≡ 0
whole_before len moved n size all short (inl e) = e
whole_before len moved n size all short (inr e) = absurd (omega (arith, e, short, all))

-- ---- from a disk to a text

module _ {B D : Type 0} (marks : B → ℕ → ℕ → B → Type 0) (bytes : D → Option (List ℕ)) (sectors : D → ℕ)
    (calls : D → Call → Bool → D → Type 0) (m : Memory) (host : Host B) (es : List Entry) (sector : ℕ) (old : D) where
  -- so many bytes came, in whole pieces, or all did, so that one is left over
  pub record LoadedSoFar (moved : ℕ) (now : D) (after : Host B) (left : List Entry) : Type 0 where
    pub sent : List ℕ
    pub count : length sent ≡ moved
    pub most : moved < length es
    pub whole : moved % 512 ≡ 0
    pub ends : (moved % piece ≡ 0) ⊎ (moved + 1 ≡ length es)
    pub pieces : List (List ℕ)
    pub given : Moves calls reads sector pieces old now
    pub cut : AreCut (length es - 1) pieces
    pub are : joined pieces ≡ sent
    pub lie : LieAt (512 * sector) sent (bytes old)
    pub disk : SameDisk bytes sectors old now
    pub written : WritesAt marks m es sent host after
    pub tables : after.tables ≡ host.tables
    pub shape : shape_of after ≡ shape_of host
    pub place : left ≡ drop moved es

  pub loaded_none : 0 < length es → LoadedSoFar 0 old host es
  loaded_none some = record {
    sent = [];
    count = refl;
    most = some;
    whole = refl;
    ends = inl refl;
    pieces = [];
    given = refl;
    cut = tt;
    are = refl;
    lie = lie-none (512 * sector) (bytes old);
    disk = (refl, refl);
    written = writes_none marks m es host;
    tables = refl;
    shape = refl;
    place = refl;
  }

  -- what comes of a piece of which so many bytes came
  pub record LoadedPiece (moved n : ℕ) (piece_bytes : List ℕ) (now next : D) (after later : Host B)
      (left rest : List Entry) : Type 0 where
    pub lie : LieAt (512 * sector + moved) piece_bytes (bytes now)
    pub count : length piece_bytes ≡ n
    pub written : WritesAt marks m left piece_bytes after later
    pub place : rest ≡ drop n left
    pub disk : SameDisk bytes sectors now next
    pub tables : later.tables ≡ after.tables
    pub shape : shape_of later ≡ shape_of after

  -- all that is loaded, with the part of a piece
  loaded_both : (moved n : ℕ) (bs : List ℕ) (now next : D) (after later : Host B) (left rest : List Entry)
      → (h : LoadedSoFar moved now after left) → (p : LoadedPiece moved n bs now next after later left rest)
      → LieAt (512 * sector) (h.sent ++ bs) (bytes old) × WritesAt marks m es (h.sent ++ bs) host later
      × (length (h.sent ++ bs) ≡ moved + n) × SameDisk bytes sectors old next
      × (later.tables ≡ host.tables) × (shape_of later ≡ shape_of host) × (rest ≡ drop (moved + n) es)
  loaded_both moved n bs now next after later left rest h p = (
    lie-append (512 * sector) h.sent bs (bytes old) h.lie
        (subst (λ (o : Option (List ℕ)). LieAt (512 * sector + length h.sent) bs o) h.disk.0
        (subst (λ k. LieAt (512 * sector + k) bs (bytes now)) (sym h.count) p.lie)),
    writes-append marks m es h.sent bs host after later h.written
        (subst (λ (ls : List Entry). WritesAt marks m ls bs after later)
        (h.place ∙ ap (λ k. drop k es) (sym h.count)) p.written),
    omega (arith, length-append h.sent bs, h.count, p.count),
    (p.disk.0 ∙ h.disk.0, p.disk.1 ∙ h.disk.1),
    p.tables ∙ h.tables,
    p.shape ∙ h.shape,
    p.place ∙ ap (drop n) h.place ∙ drop-drop n moved es,
  )

  pub loaded_more : (moved n : ℕ) (bs : List ℕ) (now next : D) (after later : Host B) (left rest : List Entry)
      → LoadedSoFar moved now after left → LoadedPiece moved n bs now next after later left rest
      → n % 512 ≡ 0 → n ≡ min (length es - 1 - moved) piece → moved < length es - 1 → moved + n < length es
      → ((moved + n) % piece ≡ 0) ⊎ (moved + n + 1 ≡ length es)
      → calls now (reads (sector + moved / 512) bs) true next
      → LoadedSoFar (moved + n) next later rest
  loaded_more moved n bs now next after later left rest h p whole is short most ends gave =
      let both = loaded_both moved n bs now next after later left rest h p in record {
        sent = h.sent ++ bs;
        count = both.2;
        most = most;
        whole = omega (arith, whole, h.whole);
        ends = ends;
        pieces = bs ∷ h.pieces;
        given = (
          now,
          h.given,
          subst (λ k. calls now (reads (sector + k / 512) bs) true next) (sym (ap length h.are ∙ h.count)) gave,
        );
        cut = (
          h.cut,
          omega (arith, short, ap length h.are, h.count),
          p.count ∙ (let e : n ≡ min piece (length es - 1 - length (joined h.pieces)) =
              omega (arith, is, ap length h.are, h.count) in e),
        );
        are = ap (λ xs. xs ++ bs) h.are;
        lie = both.0;
        disk = both.3;
        written = both.1;
        tables = both.4;
        shape = both.5;
        place = both.6;
      }

  -- what is promised of all of it
  abbrev pub Loaded : ℕ → ℕ → ℕ → Bool → D → Host B → Type 0
  Loaded len status moved wanted now after = (sent : List ℕ) × (length sent ≡ moved)
      × Loads bytes sectors calls m host es sector len old status wanted sent now × WritesAt marks m es sent host after

  pub loaded_all : (len moved : ℕ) (now : D) (after : Host B) (left : List Entry) → len + 1 ≡ length es
      → LoadedSoFar moved now after left → len ≤ moved → Loaded len 0 moved false now after
  loaded_all len moved now after left all h done = (
    h.sent,
    h.count,
    record {
      pieces = h.pieces;
      last = now;
      given = h.given;
      cut = subst (λ k. AreCut k h.pieces) (let e : length es - 1 ≡ len = omega arith in e) h.cut;
      front = all_of h.sent h.pieces h.are;
      lie = h.lie;
      disk = h.disk;
      ended = inl (refl, refl, omega (arith, h.count, h.most), refl);
    },
    h.written,
  )

  -- the part of a piece that the disk gave went to the text
  pub loaded_part : (len moved n : ℕ) (wanted : Bool) (got : List ℕ) (now next : D) (after later : Host B)
      (left rest : List Entry) → len + 1 ≡ length es → (h : LoadedSoFar moved now after left) → n < length got
      → length got ≡ min (len - moved) piece
      → LoadedPiece moved n (take n got) now next after later left rest → moved + n < len
      → calls now (reads (sector + moved / 512) got) true next
      → StopsAt m after.tables Write left (length got) wanted n
      → Loaded len 1 (moved + n) wanted next later
  loaded_part len moved n wanted got now next after later left rest all h fits size p short gave s =
      let bs = take n got in
      let both = loaded_both moved n bs now next after later left rest h p in (
        h.sent ++ bs,
        both.2,
        record {
          pieces = got ∷ h.pieces;
          last = next;
          given = (
            now,
            h.given,
            subst (λ k. calls now (reads (sector + k / 512) got) true next) (sym (ap length h.are ∙ h.count)) gave,
          );
          cut = (
            subst (λ k. AreCut k h.pieces) (let e : length es - 1 ≡ len = omega arith in e) h.cut,
            omega (arith, short, ap length h.are, h.count),
            size ∙ (let e : min (len - moved) piece ≡ min piece (len - length (joined h.pieces)) =
                omega (arith, ap length h.are, h.count) in e),
          );
          front = front_of h.sent got n (joined h.pieces) h.are (omega (arith, fits));
          lie = both.0;
          disk = both.3;
          ended = inr (
            refl,
            omega (arith, both.2),
            inr (
              refl,
              length-append (joined h.pieces) got
                  ∙ (let e : length (joined h.pieces) + length got ≡ moved + length got =
                  omega (arith, ap length h.are, h.count) in e)
                  ∙ last ∙ ap (piece_end len) (sym both.2),
              subst (λ k. StopsAt m host.tables Write es (piece_end len k) wanted k) (sym both.2)
                  (stops-drop m host.tables Write es moved (length got) (piece_end len (moved + n)) n wanted last
                  (subst (λ (ts : List Table). StopsAt m ts Write (drop moved es) (length got) wanted n) h.tables
                  (subst (λ (ls : List Entry). StopsAt m after.tables Write ls (length got) wanted n) h.place s))),
            ),
          );
        },
        both.1,
      )
    where
      last : moved + length got ≡ piece_end len (moved + n)
      last = last_piece len moved n (length got) size fits (whole_before len moved n (length es) all short h.ends)

  -- the disk gave nothing
  pub loaded_stop : (len moved : ℕ) (spoilt : List ℕ) (now next : D) (after later : Host B) (left rest : List Entry)
      → len + 1 ≡ length es → (h : LoadedSoFar moved now after left) → length spoilt ≡ min (len - moved) piece
      → LoadedPiece moved 0 [] now next after later left rest → moved < len
      → calls now (reads (sector + moved / 512) spoilt) false next
      → Loaded len 1 moved false next later
  loaded_stop len moved spoilt now next after later left rest all h size p short failed =
      let both = loaded_both moved 0 [] now next after later left rest h p in (
        h.sent,
        h.count,
        record {
          pieces = h.pieces;
          last = now;
          given = h.given;
          cut = subst (λ k. AreCut k h.pieces) (let e : length es - 1 ≡ len = omega arith in e) h.cut;
          front = all_of h.sent h.pieces h.are;
          lie = h.lie;
          disk = both.3;
          ended = inr (
            refl,
            omega (arith, h.count, short),
            inl (
              refl,
              sym (ap length h.are),
              (
                spoilt,
                size ∙ (let e : min (len - moved) piece ≡ min piece (len - length h.sent) = omega (arith, h.count) in e),
                subst (λ k. calls now (reads (sector + k / 512) spoilt) false next) (sym h.count) failed,
              ),
            ),
          );
        },
        subst (λ bs. WritesAt marks m es bs host later) (append-nil h.sent) both.1,
      )

  -- less than a piece came
  pub loaded_ends : (len moved done : ℕ) (wanted : Bool) (got : List ℕ) (now next : D) (after later : Host B)
      (left rest : List Entry) → len + 1 ≡ length es → (h : LoadedSoFar moved now after left) → done < length got
      → length got ≡ min (len - moved) piece
      → LoadedPiece moved done (take done got) now next after later left rest → moved + done < len
      → ((done ≡ 0) × (wanted ≡ false) × calls now (reads (sector + moved / 512) got) false next)
      ⊎ (calls now (reads (sector + moved / 512) got) true next
      × (done < length got → StopsAt m after.tables Write left (length got) wanted done))
      → Loaded len 1 (moved + done) wanted next later
  loaded_ends len moved done wanted got now next after later left rest all h few size p short call = go call
    where
      go : ((done ≡ 0) × (wanted ≡ false) × calls now (reads (sector + moved / 512) got) false next)
          ⊎ (calls now (reads (sector + moved / 512) got) true next
          × (done < length got → StopsAt m after.tables Write left (length got) wanted done))
          → Loaded len 1 (moved + done) wanted next later
      go (inl (none, unwanted, failed)) =
          let same : moved + done ≡ moved = omega (arith, none) in
          subst (λ k. Loaded len 1 k wanted next later) (sym same)
          (subst (λ b. Loaded len 1 moved b next later) (sym unwanted)
          (loaded_stop len moved got now next after later left rest all h size
          (subst (λ k. LoadedPiece moved k (take k got) now next after later left rest) none p)
          (omega (arith, short)) failed))
      go (inr (gave, stops)) =
          loaded_part len moved done wanted got now next after later left rest all h few size p short gave (stops few)

-- a read of which something came was done
pub gave_all : {Failed Why Done Stopped : Type 0} {done : ℕ} → ((done ≡ 0) × Why × Failed) ⊎ (Done × Stopped) → 0 < done
    → Done
gave_all (inl (none, why, failed)) some = absurd (omega (arith, none, some))
gave_all (inr (gave, stops)) some = gave
