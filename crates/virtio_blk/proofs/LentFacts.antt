-- Data that guest memory lends.
use Rattle.std.proofs.Common.{◌≡◌, ◌∙◌, ℕ, ◌+◌, ◌-◌, ◌*◌, ◌<◌, ◌≤◌, ◌⊎◌, Bool, true, false, inl, List, [], ◌∷◌, ◌++◌, length, take, drop, Option, Some, None, MatchOption, MatchResult, Result, Ok, Err, refl, sym, ap, subst, arith, append-nil, length-append, length-drop, slice_index_or, cond, not}
use Rattle.std.proofs.lemmas.List.{drop_all, drop_at, length-take-le}
use Rattle.vm_memory_base.specs.declared.iotlb.Permissions.TheVariants.{Read}
use Rattle.vm_memory_guest.specs.Access.{AccessFault, Reached, access_of}
use Rattle.vm_memory_guest.specs.Answer.{Reach}
use Rattle.vm_memory_guest.specs.Dirt.{path_cells}
use Rattle.vm_memory_guest.specs.Host.{Cell, Host, bytes_at}
use Rattle.vm_memory_guest.specs.Memory.{Memory, route}
use Rattle.vm_memory_guest.specs.Region.{IsRegion}
use Rattle.vm_memory_guest.specs.Walk.{GivesAccess}
use Rattle.vm_memory_guest.specs.Window.{Window, cells, cells_of, span}
use Rattle.std.specs.List.{All}
use Rattle.vm_memory_guest.proofs.AccessLaws.{cells-access}
use Rattle.vm_memory_guest.proofs.PathLaws.{length-access, span-windows}
use Rattle.vm_memory_guest.proofs.WrittenLaws.{length-cells, span-cons}
use Rattle.vm_memory_device.specs.Chain.{Entry, entries_from, readable, text, text_fault, text_path}
use Rattle.vm_memory_device.specs.ChainText.{Runs}
use Rattle.vm_memory_device.specs.declared.chain.Segment.{Segment}
use Rattle.vm_memory_device.proofs.ReachOfText.{goes_by, path-none}
use Rattle.vm_memory_device.proofs.TextLemmas.{drop-entries_from, length-entries_from, runs_front}
use Rattle.vm_memory_base.specs.declared.address.GuestAddress.{GuestAddress}
use Rattle.virtio_blk.specs.Disk.{Call, after_write, writes}
use Rattle.virtio_blk.specs.Inside.{IsLent}
use Rattle.virtio_blk.specs.Texts.{Accessed, StopsWithin, reached, text_bytes}
use Rattle.virtio_blk.specs.declared.text.Stop.{Stop}
use Rattle.virtio_blk.proofs.TextFacts.{accessed_one, front_of, front_within}

no_cells : (xs : List Cell) → length xs ≡ 0 → xs ≡ []
no_cells [] h = refl
no_cells (x ∷ xs) h = absurd (omega (arith, h))

-- the first window of an access has all of its bytes
pub lent_of : {B : Type 0} (m : Memory) (host : Host B) (a n : ℕ) (walk : Reach AccessFault) (w : Window)
    (rest : List Window) (bytes : List ℕ) → All IsRegion m.regions → GivesAccess m host.tables a n Read walk
    → walk.windows ≡ w ∷ rest → w.size ≡ n → bytes ≡ bytes_at host.blocks (cells_of w) → IsLent m host a n bytes
lent_of m host a n walk w rest bytes each gives first all is =
    let p = (access_of m.regions (route m host.tables) a n Read).path in
    let ws = ap (λ (r : Reach AccessFault). r.windows) (sym gives.1) ∙ first in
    let spans : length p ≡ w.size + span rest = sym (span-windows p) ∙ ap span ws ∙ span-cons w rest in
    let most : length p ≤ n = length-access m.regions (route m host.tables) a n Read in
    let none : cells rest ≡ [] = no_cells (cells rest) (omega (arith, length-cells rest, spans, most, all)) in
    let same : path_cells p ≡ cells_of w =
    sym (cells-access m.regions each a n (route m host.tables) Read) ∙ ap cells ws
    ∙ ap (λ cs. cells_of w ++ cs) none ∙ append-nil (cells_of w) in
    (omega (arith, spans, most, all), is ∙ ap (bytes_at host.blocks) (sym same))

module _ {B : Type 0} (m : Memory) (host : Host B) (es : List Entry) (a n : ℕ) where
  -- all of an access of the next addresses of a text, if they are those of a segment
  lent_path : 0 < n → n ≤ length es → es ≡ entries_from a (length es)
      → text_path m.regions (route m host.tables) Read true (take n es)
      ≡ (access_of m.regions (route m host.tables) a n Read).path
  lent_path some fits are =
      go (access_of m.regions (route m host.tables) a n Read).fault
      (goes_by m.regions (route m host.tables) Read a n (take n es) runs)
    where
      same : es ≡ entries_from a (length es) ++ []
      same = are ∙ sym (append-nil (entries_from a (length es)))

      runs : Runs a n (take n es)
      runs = subst (λ (ls : List Entry). Runs a n (take n ls)) (sym same)
          (runs_front a n (length es) n [] some (omega arith) fits (inl refl))

      behind : drop n (take n es) ≡ []
      behind = drop_all n (take n es) (omega (arith, length-take-le n es fits))

      p : List Reached
      p = (access_of m.regions (route m host.tables) a n Read).path

      all : List Reached
      all = text_path m.regions (route m host.tables) Read true (take n es)

      go : (fault : Option AccessFault) → MatchOption fault
          ((all ≡ p ++ text_path m.regions (route m host.tables) Read true (drop n (take n es)))
          × (text_fault m.regions (route m host.tables) Read true (take n es)
          ≡ text_fault m.regions (route m host.tables) Read true (drop n (take n es))))
          (λ f. (all ≡ p) × (text_fault m.regions (route m host.tables) Read true (take n es) ≡ Some f)) → all ≡ p
      go None h = h.0
          ∙ ap (λ xs. p ++ xs) (path-none m.regions (route m host.tables) Read true (drop n (take n es)) behind)
          ∙ append-nil p
      go (Some f) h = h.0

  -- bytes that are lent are the next ones of a text
  pub lent_reached : (bytes : List ℕ) → 0 < n → n ≤ length es → es ≡ entries_from a (length es)
      → IsLent m host a n bytes
      → (n ≤ length (reached m host.tables es)) × Accessed m host.tables Read es n
      × (text_bytes m host es n ≡ bytes)
  lent_reached bytes some fits are lent =
      let p = (access_of m.regions (route m host.tables) a n Read).path in
      let all = text_path m.regions (route m host.tables) Read true (take n es) in
      let same : all ≡ p = lent_path some fits are in
      let count : length all ≡ n = ap length same ∙ lent.0 in
      let front = front_of m host.tables Read es n fits in
      let within = front_within m host.tables all (reached m host.tables es) front in
      let is : take n (reached m host.tables es) ≡ p =
      ap (λ k. take k (reached m host.tables es)) (sym count) ∙ sym front ∙ same in (
        omega (arith, within, count),
        accessed_one m host.tables Read es n n (omega (arith, count)),
        ap (λ (xs : List Reached). bytes_at host.blocks (path_cells xs)) is ∙ sym lent.1,
      )

-- what is left of a segment is a segment
pub placed_after : (es left : List Entry) (a b moved : ℕ) → es ≡ entries_from b (length es) → left ≡ drop moved es
    → moved ≤ length es → a ≡ b + moved → left ≡ entries_from a (length left)
placed_after es left a b moved are place within is =
    let size : length left ≡ length es - moved = ap length place ∙ length-drop moved es in
    place ∙ ap (drop moved) (are ∙ sym (append-nil (entries_from b (length es))))
    ∙ drop-entries_from b (length es) moved [] within
    ∙ append-nil (entries_from (b + moved) (length es - moved))
    ∙ ap (λ k. entries_from k (length es - moved)) (sym is)
    ∙ ap (entries_from a) (sym size)

-- it is known where data begin, or not
abbrev pub Placed : Option GuestAddress → List Entry → Type 0
Placed start es = MatchOption start (Unit {0}) (λ a. es ≡ entries_from a.0 (length es))

pub placed_then : (start here : Option GuestAddress) (es left : List Entry) (moved : ℕ) → Placed start es
    → MatchOption here (Unit {0}) (λ a. MatchOption start ⊥ (λ b. a.0 ≡ b.0 + moved))
    → left ≡ drop moved es → moved ≤ length es → Placed here left
placed_then start None es left moved are is at within = tt
placed_then None (Some a) es left moved are is at within = absurd is
placed_then (Some b) (Some a) es left moved are is at within =
    placed_after es left a.0 b.0 moved are at within is

pub lent_then : {B : Type 0} (m : Memory) (host : Host B) (es : List Entry) (start : Option GuestAddress) (n : ℕ)
    (bytes : List ℕ) → 0 < n → n ≤ length es → Placed start es
    → MatchOption start ⊥ (λ a. IsLent m host a.0 n bytes)
    → (n ≤ length (reached m host.tables es)) × Accessed m host.tables Read es n
    × (text_bytes m host es n ≡ bytes)
lent_then m host es None n bytes some fits are lent = absurd lent
lent_then m host es (Some a) n bytes some fits are lent = lent_reached m host es a.0 n bytes some fits are lent

-- a piece that was read or lent was written to the disk, or not
pub stored_piece : {B D : Type 0} (bytes : D → Option (List ℕ)) (calls : D → Call → Bool → D → Type 0) (m : Memory)
    (host : Host B) (es left : List Entry) (sector n : ℕ) (given : List ℕ) (old new : D)
    (r : Result (Unit {0}) Stop) → n ≤ length (reached m host.tables es) → Accessed m host.tables Read es n
    → text_bytes m host es n ≡ given → left ≡ drop n es
    → MatchResult r (λ u. (bytes new ≡ after_write (512 * sector) given (bytes old))
    × calls old (writes sector given) true new)
    (λ stop. (stop.wanted ≡ false) × (bytes new ≡ bytes old) × calls old (writes sector given) false new)
    → MatchResult r
    (λ u. (n ≤ length (reached m host.tables es)) × Accessed m host.tables Read es n × (left ≡ drop n es)
    × (bytes new ≡ after_write (512 * sector) (text_bytes m host es n) (bytes old))
    × calls old (writes sector (text_bytes m host es n)) true new)
    (λ stop. (bytes new ≡ bytes old)
    × (((stop.wanted ≡ false) × calls old (writes sector (text_bytes m host es n)) false new)
    ⊎ ((new ≡ old) × StopsWithin m host.tables Read es n stop.wanted)))
stored_piece bytes calls m host es left sector n given old new (Ok u) within access is place took = (
  within,
  access,
  place,
  rw is took.0,
  rw is took.1,
)
stored_piece bytes calls m host es left sector n given old new (Err stop) within access is place took =
    (took.1, inl (took.0, rw is took.2))

-- ---- segments

-- the text of two readable segments and others
pub text_of_two : (header body : Segment) (rest : List Segment) → header.writable ≡ false → body.writable ≡ false
    → text (readable (header ∷ body ∷ rest))
    ≡ entries_from header.addr.0 header.len ++ (entries_from body.addr.0 body.len ++ text (readable rest))
text_of_two header body rest h d =
    let others = readable (body ∷ rest) in
    ap (λ b. text (cond (not b) (header ∷ others) others)) h
    ∙ ap (λ b. entries_from header.addr.0 header.len ++ text (cond (not b) (body ∷ readable rest) (readable rest))) d

-- the data of a write are the second segment, if they are as many bytes as that
pub data_are : (header body : Segment) (rest : List Segment) (len : ℕ) → header.writable ≡ false
    → body.writable ≡ false → header.len ≡ 16 → body.len ≡ len
    → len ≡ length (drop 16 (text (readable (header ∷ body ∷ rest))))
    → drop 16 (text (readable (header ∷ body ∷ rest))) ≡ entries_from body.addr.0 len
data_are header body rest len h d short long all =
    let front = entries_from header.addr.0 header.len in
    let more = entries_from body.addr.0 body.len in
    let others = text (readable rest) in
    let size : length front ≡ 16 = length-entries_from header.addr.0 header.len ∙ short in
    let behind : drop 16 (text (readable (header ∷ body ∷ rest))) ≡ more ++ others =
    ap (drop 16) (text_of_two header body rest h d) ∙ drop_at front (more ++ others) 16 size in
    let none : others ≡ [] = nothing others (omega (
      arith,
      all,
      ap length behind,
      length-append more others,
      long,
      length-entries_from body.addr.0 body.len,
    )) in
    behind ∙ ap (λ es. more ++ es) none ∙ append-nil more ∙ ap (entries_from body.addr.0) long
  where
    nothing : (es : List Entry) → length es ≡ 0 → es ≡ []
    nothing [] e = refl
    nothing (x ∷ xs) e = absurd (omega (arith, e))

-- a list of at least two segments
pub two_segments : (ss : List Segment) (header body : Segment) → 2 ≤ length ss → header ≡ slice_index_or ss 0 header
    → body ≡ slice_index_or ss 1 body → (rest : List Segment) × (ss ≡ header ∷ body ∷ rest)
two_segments [] header body some first second = absurd (omega (arith, some))
two_segments (x ∷ []) header body some first second = absurd (omega (arith, some))
two_segments (x ∷ y ∷ ss) header body some first second = (ss, cc)
