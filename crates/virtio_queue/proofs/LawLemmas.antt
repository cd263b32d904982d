-- Stores and used entries by bytes, and the next head by a history.
use Rattle.std.proofs.Common.{◌≡◌, ◌∙◌, ℕ, ◌<◌, List, Option, Result, Ok, Err, ap, refl, sym, subst}
use Rattle.std.specs.Int.{w16, to_le_bytes}
use Rattle.vm_memory_base.specs.Pages.{PageSet}
use Rattle.vm_memory_base.specs.declared.iotlb.Permissions.TheVariants as permissions
use Rattle.vm_memory_guest.specs.Access.{Access, Reached}
use Rattle.vm_memory_guest.specs.Dirt.{after_write, with_pages}
use Rattle.vm_memory_guest.specs.Host.{Host}
use Rattle.vm_memory_guest.specs.Memory.{Memory}
use Rattle.vm_memory_guest.specs.Typed.{answered, given, path_given, place_of, typed_path}
use Rattle.vm_memory_guest.specs.Window.{Window, Writes}
use Rattle.vm_memory_guest.specs.declared.region.error.GuestMemoryError.{GuestMemoryError}
use Rattle.std.proofs.lemmas.Nat.{mod_below}
use Rattle.virtio_queue.specs.Available.{avail_idx, head_in, next_head}
use Rattle.virtio_queue.specs.Fields.{StoresWord, place, reached_at, told, word_window}
use Rattle.virtio_queue.specs.History.{Rings, head_to_pop}
use Rattle.virtio_queue.specs.Rings.{next_in, slot}
use Rattle.virtio_queue.specs.declared.error.QueueError.{QueueError}
use Rattle.virtio_queue.specs.declared.state.QueueState.{QueueState}

-- the window of a store is that of its place
module _ {B : Type 0} (m : Memory) (old : Host B) (base offset : ℕ) (w : Window) where
  pub window_place : word_window m old base offset ≡ Ok w
      → (a : ℕ) × (place base offset 2 ≡ Ok a) × (place_of 2 (reached_at m old a 2 permissions.Write) ≡ Ok w)
  window_place h = go (place base offset 2) refl
    where
      told_ok : (r : Result Window GuestMemoryError) → told r ≡ Ok w → r ≡ Ok w
      told_ok (Ok x) e = let same : x ≡ w = cc in ap Ok same
      told_ok (Err e) is = absurd (cc)

      go : (r : Result ℕ QueueError) → place base offset 2 ≡ r
          → (a : ℕ) × (place base offset 2 ≡ Ok a) × (place_of 2 (reached_at m old a 2 permissions.Write) ≡ Ok w)
      go (Ok a) e = (a, e, told_ok (place_of 2 (reached_at m old a 2 permissions.Write)) (rw e at h))
      go (Err x) e = let is : Err x ≡ Ok w = rw e at h in absurd (cc)

-- a typed access that is answered has a path
pub path_there : (size : ℕ) (x : Access) (w : Window) → place_of size x ≡ Ok w
    → answered (λ w. tt {0}) (place_of size x) ≡ answered (λ xs. tt {0}) (typed_path size x)
    → (xs : List Reached) × (typed_path size x ≡ Ok xs)
path_there size x w is same = go (typed_path size x) refl
  where
    go : (r : Result (List Reached) GuestMemoryError) → typed_path size x ≡ r
        → (xs : List Reached) × (typed_path size x ≡ Ok xs)
    go (Ok xs) e = (xs, e)
    go (Err d) e =
        let there : Ok tt ≡ answered (λ xs. tt {0}) (typed_path size x) = ap (answered (λ w. tt {0})) (sym is) ∙ same in
        let none : Ok tt ≡ Err d = there ∙ ap (answered (λ xs. tt {0})) e in
        absurd (cc)

-- a store of a number of 16 bits is the write of its bytes
pub stored_by_bytes : {B : Type 0} (marks : B → ℕ → ℕ → B → Type 0) (pages : B → PageSet) (m : Memory)
    (base offset value : ℕ) (old new : Host B)
    → ((a : ℕ) → let x = reached_at m old a 2 permissions.Write in
    answered (λ w. tt {0}) (place_of 2 x) ≡ answered (λ xs. tt {0}) (typed_path 2 x))
    → ((a : ℕ) → let x = reached_at m old a 2 permissions.Write in
    Writes marks (given (place_of 2 x)) (to_le_bytes w16 value) old new
    → with_pages pages new ≡ after_write (path_given (typed_path 2 x)) (to_le_bytes w16 value) (with_pages pages old))
    → StoresWord marks m base offset value old (Ok tt) new
    → (a : ℕ) × (xs : List Reached) × (place base offset 2 ≡ Ok a)
    × (typed_path 2 (reached_at m old a 2 permissions.Write) ≡ Ok xs)
    × (with_pages pages new ≡ after_write xs (to_le_bytes w16 value) (with_pages pages old))
stored_by_bytes marks pages m base offset value old new answers stores (w, is, writes) =
    let (a, at, window) = window_place m old base offset w is in
    let x = reached_at m old a 2 permissions.Write in
    let (xs, path) = path_there 2 x w window (answers a) in
    let bytes = to_le_bytes w16 value in
    let there = subst (λ r. Writes marks (given r) bytes old new) (sym window) writes in (
      a,
      xs,
      at,
      path,
      stores a there ∙ ap (λ r. after_write (path_given r) bytes (with_pages pages old)) path,
    )

-- the next head of a queue is that of the rings of a history, where these say what lies in memory
pub pops_alike : {B : Type 0} (m : Memory) (host : Host B) (q : QueueState) (r : Rings) → q.next_avail ≡ r.next_avail
    → avail_idx m host q ≡ Ok r.avail_idx → ((i : ℕ) → i < q.size → head_in m host q i ≡ Ok (r.avail i)) → 0 < q.size
    → next_head m host q ≡ head_to_pop q.size r
pops_alike m host q r next idx heads some =
    let within : slot q.size r.next_avail < q.size = mod_below r.next_avail q.size some in
    rw (idx, next) (ap (λ (h : Result ℕ QueueError). next_in_by q.size r.avail_idx r.next_avail h)
    (heads (slot q.size r.next_avail) within))
  where
    next_in_by : ℕ → ℕ → ℕ → Result ℕ QueueError → Result (Option ℕ) QueueError
    next_in_by size index next h = next_in size index next (λ _. h)
