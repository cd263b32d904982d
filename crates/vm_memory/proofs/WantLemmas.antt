-- What calls reply where memory is not wanting is never that it is.
use Rattle.std.proofs.Common.{◌≡◌, ℕ, ◌-◌, ◌%◌, List, [], ◌∷◌, map, take, length, Bool, true, false, ◌&&◌, ◌==◌, nat_lt, nat_le, cond, Option, Some, None, Result, Ok, Err, IfErr, IfSome, option_map, subst, refl, sym, inl, inr, ◌⊎◌}
use Rattle.std.proofs.lemmas.Bool.{true≢false}
use Rattle.std.specs.Int as int
use Rattle.std.specs.Int.{byte_len}
use Rattle.vm_memory_base.specs.Lookup.{mapped_ranges}
use Rattle.vm_memory_base.specs.Pages.{PageSet}
use Rattle.vm_memory_base.specs.Script.{next_of, taking_of}
use Rattle.vm_memory_base.specs.Table as table
use Rattle.vm_memory_base.specs.Transfer.{Taking, Takes, Refuses, Sink, Stop, Whole, Dry, Failed, again, retries, offered, offered_next, sent, sent_as}
use Rattle.vm_memory_base.specs.declared.io.VolatileMemoryError.{VolatileMemoryError}
use Rattle.vm_memory_base.specs.declared.io.VolatileMemoryError.TheVariants as window
use Rattle.vm_memory_base.specs.declared.io.scripted.SinkStep.{SinkStep}
use Rattle.vm_memory_base.specs.declared.io.scripted.SinkStep.TheVariants as sinks
use Rattle.vm_memory_base.specs.declared.io.scripted.SourceStep.{SourceStep}
use Rattle.vm_memory_base.specs.declared.iotlb.Permissions.{Permissions}
use Rattle.vm_memory_base.specs.declared.iotlb.Permissions.TheVariants as permissions
use Rattle.vm_memory_guest.specs.Access as access
use Rattle.vm_memory_guest.specs.Access.{Access, Reached, windows}
use Rattle.vm_memory_guest.specs.Dealt.{received, given_out, sent_whole}
use Rattle.vm_memory_guest.specs.Dirt.{bytes_read}
use Rattle.vm_memory_guest.specs.Error.{error_of, of_window}
use Rattle.vm_memory_guest.specs.Host.{Host}
use Rattle.vm_memory_guest.specs.Memory.{Memory}
use Rattle.vm_memory_guest.specs.Region.{Region, last, first_error, neighbours_error, layout_error}
use Rattle.vm_memory_guest.specs.Transfer.{all_of, ended}
use Rattle.vm_memory_guest.specs.Typed.{answered, is_uncut, whole_path}
use Rattle.vm_memory_guest.specs.Window.{Window}
use Rattle.vm_memory_guest.specs.declared.region.error.GuestMemoryError.{GuestMemoryError}
use Rattle.vm_memory_guest.specs.declared.region.error.GuestMemoryError.TheVariants as errors
use Rattle.vm_memory_guest.specs.declared.region.error.GuestRegionCollectionError.{GuestRegionCollectionError}
use Rattle.vm_memory_guest.specs.declared.region.error.GuestRegionCollectionError.TheVariants as layouts
use Rattle.vm_memory_device.specs.Reach.{reached_by}
use Rattle.vm_memory.specs.Reply.{access_result, all_moved, moved_as, reads, reads_whole, reply_of, reply_of_error, reply_of_layout_error, writes}
use Rattle.vm_memory.specs.Tables.{looks_up}
use Rattle.vm_memory.specs.Transfers.{beside_taken, dealt_to, given_by, receives, sends}
use Rattle.vm_memory.specs.Typed.{loads, stores_bytes}
use Rattle.vm_memory.specs.declared.machine.command.Reply.{Reply}
use Rattle.vm_memory.specs.declared.machine.command.Reply.TheVariants as reply
use Rattle.vm_memory_base.specs.lemmas.Turns.{KeptBy, IfFailed, again_keeps, rest_keeps}
use Rattle.vm_memory_guest.specs.lemmas.Orders.{order_keeps}
use Rattle.vm_memory.proofs.TransferLemmas.{RefusedLaw, is_io, scripts_fail_so}

-- replies and errors that do not tell of a want of memory
abbrev pub IsAnswer : Reply → Type 0
IsAnswer reply.Memory = ⊥
IsAnswer r = Unit {0}

abbrev IsFault : GuestMemoryError → Type 0
IsFault errors.Memory = ⊥
IsFault e = Unit {0}

abbrev pub IsLayoutFault : GuestRegionCollectionError → Type 0
IsLayoutFault layouts.Memory = ⊥
IsLayoutFault e = Unit {0}

fault_told : (e : GuestMemoryError) → IsFault e → IsAnswer (reply_of_error e)
fault_told (errors.InvalidGuestAddress addr) h = tt
fault_told (errors.IOError kind) h = tt
fault_told (errors.PartialBuffer expected completed) h = tt
fault_told errors.InvalidBackendAddress h = tt
fault_told errors.HostAddressNotAvailable h = tt
fault_told errors.CallbackOutOfRange h = tt
fault_told errors.GuestAddressOverflow h = tt
fault_told (errors.IommuError e) h = tt
fault_told errors.Memory h = h

told_of : {T : Type 0} (told : T → Reply) (r : Result T GuestMemoryError) → ((x : T) → IsAnswer (told x))
    → IfErr r IsFault → IsAnswer (reply_of told r)
told_of told (Ok x) each h = each x
told_of told (Err e) each h = fault_told e h

-- ---- accesses

abbrev partial : ℕ → ℕ → GuestMemoryError
partial expected completed = errors.PartialBuffer expected completed

-- what kept an access from reaching more
kept_fault : (o : Option access.AccessFault) → IfSome (option_map error_of o) IsFault
kept_fault None = tt
kept_fault (Some (access.NoRegion a)) = tt
kept_fault (Some access.NoHostBytes) = tt
kept_fault (Some (access.Refused iova len reason)) = tt

abbrev kept : Access → Option GuestMemoryError
kept reached = option_map error_of reached.fault

access_fault : (reached : Access) → IfSome (kept reached) IsFault
access_fault reached = kept_fault reached.fault

ended_fault : (reached : ℕ) (o : Option GuestMemoryError) → IfSome o IsFault → IfErr (ended reached o) IsFault
ended_fault reached None h = tt
ended_fault reached (Some e) h = go (reached == 0)
  where
    go : (b : Bool) → IfErr {T = ℕ} (cond b (Err e) (Ok reached)) IsFault
    go true = h
    go false = tt

typed_fault : (size : ℕ) (xs : List Reached) (o : Option GuestMemoryError) → IfSome o IsFault
    → IfErr (whole_path size xs o) IsFault
typed_fault size [] None h = tt
typed_fault size [] (Some e) h = h
typed_fault size (x ∷ xs) o h = go (length (x ∷ xs) == size && is_uncut (x ∷ xs) && x.cell.offset % size == 0)
  where
    go : (b : Bool) → IfErr {T = List Reached} (cond b (Ok (x ∷ xs)) (Err errors.InvalidBackendAddress)) IsFault
    go true = tt
    go false = tt

-- ---- transfers

io_fault : (v : VolatileMemoryError) → is_io v ≡ true → IsFault (of_window v)
io_fault (window.IOError kind) h = tt
io_fault (window.OutOfBounds addr) h = tt
io_fault (window.Overflow base offset) h = tt
io_fault (window.TooBig nelements size) h = tt
io_fault (window.Misaligned addr alignment) h = tt
io_fault (window.PartialBuffer expected completed) h = tt
io_fault window.Memory h = absurd (true≢false (sym h))

all_fault : (n : ℕ) (r : Result ℕ GuestMemoryError) → IfErr r IsFault
    → IfErr (all_of partial n r) IsFault
all_fault n (Err e) h = h
all_fault n (Ok total) h = go (total == n)
  where
    go : (b : Bool) → IfErr {T = Unit {0}} (cond b (Ok tt) (Err (errors.PartialBuffer n total))) IsFault
    go true = tt
    go false = tt

received_fault : RefusedLaw → (o : Option GuestMemoryError) → IfSome o IsFault → (until_full : Bool) (xs : List Reached)
    (source : List SourceStep) (host : Host PageSet) (answer : Result ℕ GuestMemoryError)
    → (received of_window o until_full (windows xs) 0 (map next_of source) host).answer ≡ answer → IfErr answer IsFault
received_fault refused o h until_full xs source host (Ok total) same = tt
received_fault refused o h until_full xs source host (Err e) same =
    elim (refused is_io o until_full xs (map next_of source) host e (scripts_fail_so source) same) [
      | inl failed ↦ subst IsFault (sym failed.2) (io_fault failed.0 failed.1)
      | inr kept ↦ subst (λ (p : Option GuestMemoryError). IfSome p IsFault) kept.0 h
    ]

-- a sink that fails, and in no other way
abbrev FailsSo : List Taking → Type 0
FailsSo [] = Unit {0}
FailsSo (Takes count ∷ rest) = FailsSo rest
FailsSo (Refuses e ∷ rest) = (is_io e ≡ true) × FailsSo rest

sinks_fail_so : (steps : List SinkStep) → FailsSo (map taking_of steps)
sinks_fail_so [] = tt
sinks_fail_so (sinks.Take count ∷ steps) = sinks_fail_so steps
sinks_fail_so (sinks.Interrupted ∷ steps) = (refl, sinks_fail_so steps)
sinks_fail_so (sinks.Fail ∷ steps) = (refl, sinks_fail_so steps)

abbrev IsIo : VolatileMemoryError → Type 0
IsIo e = is_io e ≡ true

offered_so : (n : ℕ) (next : List Taking) (room : Option ℕ) → FailsSo next
    → KeptBy (λ (s : Sink). FailsSo s.next) IsIo (offered_next n next room)
offered_so n [] room h = (tt, tt)
offered_so n (Takes count ∷ rest) room h = (h, tt)
offered_so n (Refuses e ∷ rest) room h = (h.1, h.0)

sent_io : (size : ℕ) (stop : Stop) → IfFailed (λ (s : Sink). FailsSo s.next) IsIo stop
    → IfErr (answered (λ all. size) (sent_as stop)) IsIo
sent_io size Whole good = tt
sent_io size Dry good = refl
sent_io size (Failed e) good = good

given_so : (w : Window) (x : Sink × ℕ) → FailsSo x.0.next
    → KeptBy (λ (y : Sink × ℕ). FailsSo y.0.next) IsIo (sent_whole w x)
given_so w x h =
    let Kept = λ (s : Sink). FailsSo s.next in
    let k = rest_keeps Kept IsIo (λ done. again (offered (w.size - done))) w.size
    (λ done s some. again_keeps Kept IsIo (offered (w.size - done))
    (λ s. offered_so (w.size - done) s.next s.room) retries s)
    w.size 0 x.0 h in
    (k.0, sent_io w.size (sent w.size x.0).stop k.1)

given_fault : (o : Option GuestMemoryError) → IfSome o IsFault → (ws : List Window) (total : ℕ) (state : Sink)
    → FailsSo state.next → IfErr (given_out of_window o ws total state).answer IsFault
given_fault o met ws total state h =
    go _ (given_out of_window o ws total state).answer
    (order_keeps of_window o sent_whole (λ (x : Sink × ℕ). FailsSo x.0.next) IsIo ws (λ w among. given_so w) total
    (state, total) h).1
  where
    go : (P : GuestMemoryError → Type 0) (r : Result ℕ GuestMemoryError)
        → IfErr r (λ e. ((v : VolatileMemoryError) × IsIo v × (e ≡ of_window v)) ⊎ ((o ≡ Some e) × P e))
        → IfErr r IsFault
    go P (Ok total) why = tt
    go P (Err e) (inl failed) = subst IsFault (sym failed.2) (io_fault failed.0 failed.1)
    go P (Err e) (inr fault) = subst (λ (p : Option GuestMemoryError). IfSome p IsFault) fault.0 met

beside_told : (taken : List ℕ) (r : Reply) → IsAnswer r → IsAnswer (beside_taken taken r)
beside_told taken (reply.Layout n) h = tt
beside_told taken (reply.MemoryMade n) h = tt
beside_told taken reply.Done h = tt
beside_told taken (reply.Count n) h = tt
beside_told taken (reply.Value value) h = tt
beside_told taken (reply.Truth truth) h = tt
beside_told taken (reply.Bytes bytes) h = tt
beside_told taken (reply.Sent ending bytes) h = tt
beside_told taken (reply.Pages pages) h = tt
beside_told taken (reply.Pieces pieces) h = tt
beside_told taken (reply.Fails fails) h = tt
beside_told taken (reply.Fault f) h = tt
beside_told taken reply.NoSuch h = tt
beside_told taken reply.BadRange h = tt
beside_told taken reply.Memory h = h

-- ---- layouts

neighbours_fault : (rs : List Region) → IfSome (neighbours_error rs) IsLayoutFault
neighbours_fault [] = tt
neighbours_fault (r ∷ []) = tt
neighbours_fault (q ∷ r ∷ rs) = go (nat_lt r.start q.start) (nat_le r.start (last q)) (neighbours_fault (r ∷ rs))
  where
    go : (b z : Bool) → IfSome (neighbours_error (r ∷ rs)) IsLayoutFault
        → IfSome (first_error
        (cond b (Err layouts.UnsortedMemoryRegions) (cond z (Err layouts.MemoryRegionOverlap) (Ok tt)))
        (neighbours_error (r ∷ rs))) IsLayoutFault
    go true z h = tt
    go false true h = tt
    go false false h = h

pub layout_fault : (rs : List Region) → IfSome (layout_error rs) IsLayoutFault
layout_fault [] = tt
layout_fault (r ∷ rs) = neighbours_fault (r ∷ rs)

-- ---- what commands reply

moved : (whole : Bool) (n : ℕ) (answer : Result ℕ GuestMemoryError) → IfErr answer IsFault
    → IsAnswer (moved_as whole n answer)
moved false n answer fault = told_of reply.Count answer (λ count. tt) fault
moved true n answer fault =
    told_of (λ (done : Unit {0}). reply.Done) (all_of partial n answer) (λ done. tt) (all_fault n answer fault)

module _ (host : Host PageSet) (m : Memory) (a : ℕ) where
  reached_fault : (n : ℕ) (access : Permissions) → IfErr (access_result (reached_by m host.tables a n access)) IsFault
  reached_fault n access =
      let reached = reached_by m host.tables a n access in
      ended_fault (length reached.path) (kept reached) (access_fault reached)

  pub read : (n : ℕ) → IsAnswer (reads m host a n)
  read n =
      let reached = reached_by m host.tables a n permissions.Read in
      told_of (λ (count : ℕ). reply.Bytes (bytes_read reached.path host)) (access_result reached) (λ count. tt)
      (reached_fault n permissions.Read)

  pub read_whole : (n : ℕ) → IsAnswer (reads_whole m host a n)
  read_whole n =
      let reached = reached_by m host.tables a n permissions.Read in
      told_of (λ (done : Unit {0}). reply.Bytes (bytes_read reached.path host)) (all_moved n (access_result reached))
      (λ done. tt) (all_fault n (access_result reached) (reached_fault n permissions.Read))

  pub loaded : (w : int.Width) → IsAnswer (loads m host a w)
  loaded w =
      let reached = reached_by m host.tables a (byte_len w) permissions.Read in
      told_of (λ (xs : List Reached). reply.Value (int.from_le_bytes w (bytes_read xs host)))
      (whole_path (byte_len w) reached.path (kept reached)) (λ xs. tt)
      (typed_fault (byte_len w) reached.path (kept reached) (access_fault reached))

  pub wrote : (whole : Bool) (bytes : List ℕ) → IsAnswer (writes whole m host a bytes).0
  wrote whole bytes =
      let n = length bytes in
      moved whole n (access_result (reached_by m host.tables a n permissions.Write))
      (reached_fault n permissions.Write)

  pub stored : (bytes : List ℕ) → IsAnswer (stores_bytes m host a bytes).0
  stored bytes =
      let reached = reached_by m host.tables a (length bytes) permissions.Write in
      told_of (λ (xs : List Reached). reply.Done) (whole_path (length bytes) reached.path (kept reached))
      (λ xs. tt) (typed_fault (length bytes) reached.path (kept reached) (access_fault reached))

  pub got : RefusedLaw → (whole : Bool) (n : ℕ) (source : List SourceStep)
      → IsAnswer (receives whole m host a n source).0
  got refused whole n source =
      let reached = reached_by m host.tables a n permissions.Write in
      let d = dealt_to whole m host a n source in
      moved whole n d.answer
      (received_fault refused (kept reached) (access_fault reached) whole reached.path source host d.answer refl)

  given : (n : ℕ) (steps : List SinkStep)
      → IfErr (given_by (reached_by m host.tables a n permissions.Read) n steps).answer IsFault
  given n steps =
      let reached = reached_by m host.tables a n permissions.Read in
      given_fault (kept reached) (access_fault reached) (windows reached.path) 0
      (record { next = map taking_of steps; room = Some n }) (sinks_fail_so steps)

  pub gave : (whole : Bool) (n : ℕ) (steps : List SinkStep) → IsAnswer (sends whole m host a n steps)
  gave whole n steps =
      let reached = reached_by m host.tables a n permissions.Read in
      let g = given_by reached n steps in
      beside_told (take g.taken (bytes_read reached.path host)) (moved_as whole n g.answer)
      (moved whole n g.answer (given n steps))

pub looked_up : (f : table.Says) (iova len : ℕ) (access : Permissions) → IsAnswer (looks_up f iova len access)
looked_up f iova len access = go (table.is_allowed f iova len access)
  where
    go : (b : Bool) → IsAnswer (cond b (reply.Pieces (mapped_ranges (table.pieces f iova len)))
        (reply.Fails (record { misses = table.misses f iova len; access_fails = table.failures f iova len access })))
    go true = tt
    go false = tt

pub layout_told : (e : GuestRegionCollectionError) → IsLayoutFault e → IsAnswer (reply_of_layout_error e)
layout_told layouts.NoMemoryRegion h = tt
layout_told layouts.MemoryRegionOverlap h = tt
layout_told layouts.UnsortedMemoryRegions h = tt
layout_told layouts.Memory h = h
