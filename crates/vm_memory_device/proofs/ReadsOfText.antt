-- Reads of a text, access by access.
use Rattle.std.proofs.Common.{◌≡◌, ◌∙◌, ℕ, ◌+◌, ◌-◌, ◌≤◌, List, [], ◌++◌, length, take, drop, Option, Result, sym, ap, subst, arith, append_assoc, append-nil, length-drop}
use Rattle.std.specs.List.{All}
use Rattle.std.specs.Option.{MatchOption}
use Rattle.std.proofs.lemmas.List.{map-append, length-map, take-append-drop, drop-append-le, length-take-le}
use borrow.Rule.Slice.PartMut.{put_mid}
use Rattle.vm_memory_base.specs.declared.iotlb.Permissions.TheVariants as permissions
use Rattle.vm_memory_guest.specs.Access.{Reached, windows}
use Rattle.vm_memory_guest.specs.Answer.{filled_buffer}
use Rattle.vm_memory_guest.specs.Dirt.{path_cells}
use Rattle.vm_memory_guest.specs.Host.{Cell, Host, bytes_at}
use Rattle.vm_memory_guest.specs.Memory.{Memory, route}
use Rattle.vm_memory_guest.specs.Region.{IsRegion}
use Rattle.vm_memory_guest.specs.Window.{cells}
use Rattle.vm_memory_guest.specs.declared.region.error.GuestMemoryError.{GuestMemoryError}
use Rattle.vm_memory_guest.proofs.AccessLaws.{cells-access}
use Rattle.vm_memory_guest.proofs.PathLaws.{length-access}
use Rattle.vm_memory_guest.proofs.WrittenLaws.{filled_more}
use Rattle.vm_memory_device.specs.Chain.{Entry, ReadsText}
use Rattle.vm_memory_device.specs.ChainText.{GoesOn, IsNext}
use Rattle.vm_memory_device.specs.Reach.{reached_by}
use Rattle.vm_memory_device.proofs.CallsOfText.{Accessed, CameTo, turn}

-- the front of a buffer is filled, and what lies after it is put back
filled_front : (blocks : List (List ℕ)) (cs : List Cell) (n : ℕ) (rest : List ℕ) → length cs ≤ n → n ≤ length rest
    → filled_buffer blocks cs (take n rest) ++ drop n rest ≡ filled_buffer blocks cs rest
filled_front blocks cs n rest short fits =
    let within : length cs ≤ length (take n rest) = omega (arith, length-take-le n rest fits) in
    append_assoc (bytes_at blocks cs) (drop (length cs) (take n rest)) (drop n rest)
    ∙ ap (λ bs. bytes_at blocks cs ++ bs) (sym (drop-append-le (length cs) (take n rest) (drop n rest) within)
    ∙ ap (drop (length cs)) (take-append-drop n rest))

-- a part of a buffer is filled after what is filled before
filled_part : (blocks : List (List ℕ)) (xs ys : List Reached) (buffer now new : List ℕ) (total n : ℕ)
    → now ≡ filled_buffer blocks (path_cells xs) buffer → length xs ≡ total → length ys ≤ n → n ≤ length now - total
    → new ≡ filled_buffer blocks (path_cells ys) (take (total + n - total) (drop total now))
    → put_mid total (total + n - total) now new ≡ filled_buffer blocks (path_cells (xs ++ ys)) buffer
filled_part blocks xs ys buffer now new total n is count short fits filled =
    let front = path_cells xs in
    let back = path_cells ys in
    let rest = drop total now in
    let len : total + n - total ≡ n = omega arith in
    let count_is : length front ≡ total = length-map xs (λ (x : Reached). x.cell) ∙ count in
    let fewer : length back ≤ n = omega (arith, length-map ys (λ (x : Reached). x.cell)) in
    ap (λ k. take total now ++ (new ++ drop k rest)) len
    ∙ ap (λ bs. take total now ++ (bs ++ drop n rest)) (filled ∙ ap (λ k. filled_buffer blocks back (take k rest)) len)
    ∙ ap (λ bs. take total now ++ bs) (filled_front blocks back n rest fewer (omega (arith, length-drop total now)))
    ∙ ap (λ k. take k now ++ filled_buffer blocks back (drop k now)) (sym count_is)
    ∙ filled_more blocks front back buffer now is
    ∙ ap (λ cs. filled_buffer blocks cs buffer) (sym (map-append (λ (x : Reached). x.cell) xs ys))

-- the bytes of a path came to the front of a buffer
abbrev pub Filled : {B : Type 0} → Host B → List ℕ → List ℕ → List Reached → Type 0
Filled host buffer now xs = now ≡ filled_buffer host.blocks (path_cells xs) buffer

module _ {B : Type 0} (m : Memory) (host : Host B) (before : List Entry) (buffer : List ℕ) where
  -- a read goes on after the next access, or ends there
  pub read_turn : (each : All IsRegion m.regions) (now : List ℕ) {total : ℕ} {at : List Entry}
      (c : CameTo m host.tables permissions.Read before (length buffer) (Filled host buffer now) total at)
      → length now ≡ length buffer → (a n : ℕ) → IsNext a n (length now - total) at
      → (new : List ℕ) (moved : Result ℕ GuestMemoryError) (answer : Option (Result ℕ GuestMemoryError)) (sum : ℕ)
      (left : List Entry)
      → let part = take (total + n - total) (drop total now) in
      let p = (reached_by m host.tables a n permissions.Read).path in
      let filled = put_mid total (total + n - total) now new in
      Accessed m host.tables permissions.Read a n (new ≡ part)
      (new ≡ filled_buffer host.blocks (cells (windows p)) part) moved
      → GoesOn n moved total at answer sum left
      → MatchOption answer
      (CameTo m host.tables permissions.Read before (length buffer) (Filled host buffer filled) sum left)
      (λ r. ReadsText m host before buffer r left filled)
  read_turn each now {total} {at} c long a n next new moved answer sum left outcome goes =
      let part = take (total + n - total) (drop total now) in
      let p = (reached_by m host.tables a n permissions.Read).path in
      turn m host.tables permissions.Read before (length buffer) c
      (Filled host buffer (put_mid total (total + n - total) now new)) a n
      (subst (λ k. IsNext a n (k - total) at) long next) (new ≡ part)
      (new ≡ filled_buffer host.blocks (cells (windows p)) part) moved answer sum left outcome goes
      (λ same. filled_part host.blocks c.reached [] buffer now new total n c.did c.so_far.count (omega arith) next.fits
      same ∙ ap (λ xs. filled_buffer host.blocks (path_cells xs) buffer) (append-nil c.reached))
      (λ filled. filled_part host.blocks c.reached p buffer now new total n c.did c.so_far.count
      (length-access m.regions (route m host.tables) a n permissions.Read) next.fits
      (filled ∙ ap (λ cs. filled_buffer host.blocks cs part)
      (cells-access m.regions each a n (route m host.tables) permissions.Read)))
