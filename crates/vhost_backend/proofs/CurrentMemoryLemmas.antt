-- The table of a connection's rings: what steps on memory make of it.
use Rattle.std.proofs.Common.{◌≡◌, ◌∙◌, ◌⊎◌, ℕ, ◌+◌, ◌*◌, ◌<◌, ◌^◌, ◌==◌, ◌&&◌, ◌-◌, Bool, true, false, List, [], ◌∷◌, drop, length, Option, Some, None, is_none, min, Result, Ok, Err, is_ok, MatchBool, if◌then◌else◌, refl, ap, sym, subst, inl, inr}
use Rattle.std.specs.Int.{to_le_bytes, w16}
use Rattle.std.specs.List.{slice_get}
use Rattle.std.specs.declared.alloc.AllocError.{AllocError}
use Rattle.vm_memory_base.specs.Address.{difference, is_within}
use Rattle.vm_memory_base.specs.Table.{Invalidate, Mapping, Set, Table, TableEvent, changed, says, says_after}
use Rattle.vm_memory_guest.specs.Host.{Host}
use Rattle.vm_memory_guest.specs.Memory.{Memory}
use Rattle.vm_memory_base.specs.declared.iotlb.Permissions.TheVariants as permissions
use Rattle.vm_memory_guest.specs.Access.{windows}
use Rattle.vm_memory_guest.specs.Window.{Window, Writes}
use Rattle.vm_memory_guest.specs.declared.host.TlbId.{TlbId}
use Rattle.vm_memory_guest.specs.declared.region.error.GuestMemoryError.{GuestMemoryError}
use Rattle.vm_memory_device.specs.Chain.{Entry, text, writable}
use Rattle.virtio_queue.specs.Any.{AddsUsed, Enables}
use Rattle.virtio_queue.specs.declared.any.AnyQueue.{AnyQueue}
use Rattle.virtio_queue.specs.declared.any.AnyQueue.TheVariants.{Split, Packed}
use Rattle.virtio_queue.specs.Fields.{WritesBytes, reached_at, word_window}
use Rattle.virtio_queue.specs.Notification as split
use Rattle.virtio_queue.specs.Notification.{kick_offset, kick_value}
use Rattle.virtio_queue.specs.Packed.{to_bits}
use Rattle.virtio_queue.specs.PackedUsed.{rest_bytes, used_flags}
use Rattle.virtio_queue.specs.Rings.{index_after}
use Rattle.virtio_queue.specs.Used.{entry_bytes}
use Rattle.virtio_queue.specs.PackedEvents as packed
use Rattle.virtio_queue.specs.declared.error.QueueError.{QueueError}
use Rattle.virtio_queue.specs.declared.error.QueueError.TheVariants as errors
use Rattle.virtio_queue.specs.declared.packed.state.PackedBuffer.{PackedBuffer}
use Rattle.virtio_blk.specs.Steps.{Finishes, Told, gapless, status_fault}
use Rattle.virtio_blk.specs.Texts.{WritesAt}
use Rattle.vhost_iotlb.specs.Changes.{Changes}
use Rattle.vhost_iotlb.specs.declared.kept.Kept.{Kept}
use Rattle.vhost_backend.proofs.KeepLemmas.{IsPlain}
use Rattle.vhost_backend.proofs.OwnWayLemmas.{get-set_same}
use Rattle.vhost_backend.proofs.StandLemmas.{some_is}
use Rattle.vhost_backend.specs.ConnectionMemory.{marks_nothing}
use Rattle.vhost_backend.specs.Current.{ComesFrom, IsMappedBy}
use Rattle.vhost_backend.specs.RingMemory.{Logs, MemoryStep, Returned, adds_used, begins, enables, finds_copies, finishes, forgets, keeps, marks, marks_ring, needs, pops, pops_again, reads_flags, reads_region, reads_used, tracks}
use Rattle.vhost_backend.specs.declared.ring_memory.Logged.{Logged}

abbrev pub Lent : Type 0
Lent = Logged (Unit {0})

-- what is taken from the laws of memory and of tables: no write changes a table, and a call says of an address what it
-- says, or nothing if its mapping was evicted
abbrev pub WritesLaw : Type 0
WritesLaw = (ws : List Window) (bytes : List ℕ) (old new : Host (Unit {0})) → Writes marks_nothing ws bytes old new
    → new.tables ≡ old.tables

abbrev pub MissedLaw : Type 0
MissedLaw = (call : TableEvent) (t : Table) (x : ℕ) → x < 2 ^ 64
    → (says (changed call t) x ≡ None) ⊎ (says (changed call t) x ≡ says_after call x (says t x))

-- the host's first table, if there is one, says nothing but what such ranges have
abbrev pub RingsSay : Lent → (Kept → Type 0) → Type 0
RingsSay h S = (t : Table) → slice_get h.host.tables 0 ≡ Some t → ComesFrom S t

pub rings_more : (h : Lent) (S S' : Kept → Type 0) → ((k : Kept) → S k → S' k) → RingsSay h S → RingsSay h S'
rings_more h S S' goes say t at x m below is =
    let (k, s, has) = say t at x m below is in (k, goes k s, has)

pub rings_by : (old new : Lent) (S : Kept → Type 0) → new.host.tables ≡ old.host.tables → RingsSay old S
    → RingsSay new S
rings_by old new S same say t at = say t (ap (λ ts. slice_get ts 0) (sym same) ∙ at)

-- ---- steps that change no table

host_tables : (old new : Host (Unit {0})) → new ≡ old → new.tables ≡ old.tables
host_tables old new is = ap (λ (h : Host (Unit {0})). h.tables) is

module _ (writes : WritesLaw) (ring guest : Memory) where
  word_keeps : (base offset value : ℕ) (old new : Host (Unit {0}))
      → (w : Window) × (word_window ring old base offset ≡ Ok w)
      × Writes marks_nothing (w ∷ []) (to_le_bytes w16 value) old new → new.tables ≡ old.tables
  word_keeps base offset value old new (w, at, wrote) = writes (w ∷ []) (to_le_bytes w16 value) old new wrote

  bytes_keep : (a : ℕ) (bytes : List ℕ) (old new : Host (Unit {0})) → WritesBytes marks_nothing ring a bytes old new
      → new.tables ≡ old.tables
  bytes_keep a bytes old new wrote =
      writes (windows (reached_at ring old a (length bytes) permissions.Write).path) bytes old new wrote

  adds_keep : (q : AnyQueue) (buffer : PackedBuffer) (len : ℕ) (old : Host (Unit {0}))
      (r : Result (Unit {0}) QueueError) (new : Host (Unit {0}))
      → AddsUsed marks_nothing ring q buffer len old r new → new.tables ≡ old.tables
  adds_keep (Split q) buffer len old (Ok done) new (mid, (a, is, first), (w, at, second)) =
      word_keeps q.state.used_ring 2 (index_after q.state.next_used) mid new (w, at, second)
      ∙ bytes_keep a (entry_bytes buffer.id len) old mid first
  adds_keep (Split q) buffer len old (Err e) new (refuses, same) = host_tables old new same
  adds_keep (Packed q) buffer len old (Ok done) new (mid, (a, is, first), (w, at, second)) =
      word_keeps q.state.desc_ring (16 * q.state.next_used.slot + 14) (used_flags q.state.next_used.wrap len) mid new
      (w, at, second) ∙ bytes_keep a (rest_bytes buffer len) old mid first
  adds_keep (Packed q) buffer len old (Err e) new (refuses, same) = host_tables old new same

  enables_keep : (q : AnyQueue) (old : Host (Unit {0})) (r : Result Bool QueueError) (new : Host (Unit {0}))
      → Enables marks_nothing ring q old r new → new.tables ≡ old.tables
  enables_keep (Split q) old r new p = go q.state.ready r p
    where
      go : (v : Bool) (r : Result Bool QueueError) → MatchBool v (split.Enables marks_nothing ring q.state old r new)
          ((r ≡ Err errors.QueueNotReady) × (new ≡ old)) → new.tables ≡ old.tables
      go true (Ok more) (wrote, has) = word_keeps q.state.used_ring (kick_offset q.state) (kick_value q.state) old new wrote
      go true (Err e) (refuses, same) = host_tables old new same
      go false r (is, same) = host_tables old new same
  enables_keep (Packed q) old r new p = go q.state.ready r p
    where
      go : (v : Bool) (r : Result Bool QueueError) → MatchBool v (packed.Enables marks_nothing ring q.state old r new)
          ((r ≡ Err errors.QueueNotReady) × (new ≡ old)) → new.tables ≡ old.tables
      go true (Ok more) (mid, first, second, has) =
          word_keeps q.state.device_area 2 (packed.kick_flags q.state) mid new second
          ∙ word_keeps q.state.device_area 0 (to_bits q.state.next_avail) old mid first
      go true (Err e) (refuses, same) = host_tables old new same
      go false r (is, same) = host_tables old new same

  finishes_keep : (es : List Entry) (status moved : ℕ) (old : Host (Unit {0})) (r : Result ℕ GuestMemoryError)
      (new : Host (Unit {0})) → Finishes marks_nothing guest es status moved old r new → new.tables ≡ old.tables
  finishes_keep es status moved old r new p = go (length es == 0) p
    where
      wrote : (v : Bool) → MatchBool v (WritesAt marks_nothing guest (drop (length es - 1) es) (status ∷ []) old new)
          (new ≡ old) → new.tables ≡ old.tables
      wrote true w = writes w.windows (status ∷ []) old new w.written
      wrote false same = host_tables old new same

      go : (v : Bool) → MatchBool v ((r ≡ Ok 0) × (new ≡ old)) (Told guest (status_fault guest old.tables es)
          (gapless es (min moved (length es - 1))) (min moved (length es - 1)) r × MatchBool (is_ok r && is_none (status_fault guest old.tables es))
          (WritesAt marks_nothing guest (drop (length es - 1) es) (status ∷ []) old new) (new ≡ old))
          → new.tables ≡ old.tables
      go true (is, same) = host_tables old new same
      go false (told, p) = wrote (is_ok r && is_none (status_fault guest old.tables es)) p

  -- a step that keeps and forgets nothing
  pub plain_tables : (table : Option TlbId) (old : Lent) (s : MemoryStep) (r : Returned s) (new : Lent) → IsPlain s
      → Logs marks_nothing ring guest table old s r new → new.host.tables ≡ old.host.tables
  plain_tables table old (pops q) r new plain p = host_tables old.host new.host p.0.1
  plain_tables table old (adds_used q buffer len) r new plain p = adds_keep q buffer len old.host r new.host p.0
  plain_tables table old (needs q) r new plain p = host_tables old.host new.host p.0.1
  plain_tables table old (enables q) r new plain p = enables_keep q old.host r new.host p.0
  plain_tables table old (begins terms chain) r new plain p = host_tables old.host new.host p.0.1
  plain_tables table old (finishes chain status moved) r new plain p =
      finishes_keep (text (writable chain)) status moved old.host r new.host p.0
  plain_tables table old (reads_used q) r new plain p = host_tables old.host new.host p.0.1
  plain_tables table old (marks base offset len) r new plain p = host_tables old.host new.host p.0
  plain_tables table old (marks_ring base offset len) r new plain p = host_tables old.host new.host p.0
  plain_tables table old (pops_again q head ds) r new plain p = host_tables old.host new.host p.0.1
  plain_tables table old (reads_region offset n) r new plain p = host_tables old.host new.host p.1
  plain_tables table old (tracks s) r new plain p = host_tables old.host new.host p.0
  plain_tables table old (finds_copies q) r new plain p = host_tables old.host new.host p.0.1
  plain_tables table old (reads_flags q slot) r new plain p = host_tables old.host new.host p.0.1
  plain_tables table old (keeps k) r new none p = absurd none
  plain_tables table old (forgets k) r new none p = absurd none

  pub plain_rings : (table : Option TlbId) (old : Lent) (s : MemoryStep) (r : Returned s) (new : Lent)
      (S : Kept → Type 0) → IsPlain s → Logs marks_nothing ring guest table old s r new → RingsSay old S
      → RingsSay new S
  plain_rings table old s r new S plain p say = rings_by old new S (plain_tables table old s r new plain p) say

-- ---- ranges that are kept or forgotten

module _ (missed : MissedLaw) (ring guest : Memory) where
  abbrev pub first : TlbId
  first = record { 0 = 0 }

  -- the table after a call
  table_is : (call : TableEvent) (old new : Host (Unit {0})) (t : Table) → Changes 0 call old new
      → slice_get new.tables 0 ≡ Some t → (before : Table) × (slice_get old.tables 0 ≡ Some before)
      × (changed call before ≡ t)
  table_is call old new t is at = (
    is.before,
    is.there,
    some_is (changed call is.before) t
        (sym (get-set_same old.tables 0 (changed call is.before) is.before is.there)
        ∙ ap (λ (h : Host (Unit {0})). slice_get h.tables 0) (sym is.left) ∙ at),
  )

  kept_says : (S : Kept → Type 0) (k : Kept) (before : Table) → ComesFrom S before
      → ComesFrom (λ j. S j ⊎ (j ≡ k)) (changed (Set k.iova k.base k.len k.access) before)
  kept_says S k before say x m below is = elim (missed (Set k.iova k.base k.len k.access) before x below) [
    | inl none ↦ let bad : None ≡ Some m = sym none ∙ is in absurd (cc)
    | inr same ↦ go (is_within k.iova k.len x) refl (sym same ∙ is)
  ]
    where
      here : Mapping
      here = record { difference = difference k.iova k.base; permissions = k.access }

      go : (v : Bool) → is_within k.iova k.len x ≡ v → (if v then Some here else says before x) ≡ Some m
          → (j : Kept) × (S j ⊎ (j ≡ k)) × IsMappedBy j x m
      go true within is = (k, inr refl, (within, sym (some_is here m is)))
      go false within is = let (j, s, has) = say x m below is in (j, inl s, has)

  forgot_says : (S : Kept → Type 0) (k : Kept) (before : Table) → ComesFrom S before
      → ComesFrom (λ j. S j × (j ≡ k → ⊥)) (changed (Invalidate k.iova k.len) before)
  forgot_says S k before say x m below is = elim (missed (Invalidate k.iova k.len) before x below) [
    | inl none ↦ let bad : None ≡ Some m = sym none ∙ is in absurd (cc)
    | inr same ↦ go (is_within k.iova k.len x) refl (sym same ∙ is)
  ]
    where
      go : (v : Bool) → is_within k.iova k.len x ≡ v → (if v then None else says before x) ≡ Some m
          → (j : Kept) × (S j × (j ≡ k → ⊥)) × IsMappedBy j x m
      go true within is = absurd (cc)
      go false within is =
          let (j, s, has) = say x m below is in (
            j,
            (
              s,
              λ same. let bad : true ≡ false =
                  sym has.0 ∙ ap (λ (i : Kept). is_within i.iova i.len x) same ∙ within in absurd (cc),
            ),
            has,
          )

  pub kept_rings : (old : Lent) (k : Kept) (r : Result (Unit {0}) AllocError) (new : Lent) (S : Kept → Type 0)
      → Logs marks_nothing ring guest (Some first) old (keeps k) r new → RingsSay old S
      → RingsSay new (λ j. S j ⊎ (j ≡ k))
  kept_rings old k (Ok done) new S p say = λ t at.
      let (before, there, is) = table_is (Set k.iova k.base k.len k.access) old.host new.host t p.0 at in
      subst (ComesFrom (λ j. S j ⊎ (j ≡ k))) is (kept_says S k before (say before there))
  kept_rings old k (Err e) new S p say = rings_more new S (λ j. S j ⊎ (j ≡ k)) (λ j s. inl s)
      (rings_by old new S (host_tables old.host new.host p.0) say)

  pub forgot_rings : (old : Lent) (k : Kept) (done : Unit {0}) (new : Lent) (S : Kept → Type 0)
      → Logs marks_nothing ring guest (Some first) old (forgets k) (Ok done) new → RingsSay old S
      → RingsSay new (λ j. S j × (j ≡ k → ⊥))
  forgot_rings old k done new S p say t at =
      let (before, there, is) = table_is (Invalidate k.iova k.len) old.host new.host t p.0 at in
      subst (ComesFrom (λ j. S j × (j ≡ k → ⊥))) is (forgot_says S k before (say before there))

  pub failed_rings : (old : Lent) (k : Kept) (e : AllocError) (new : Lent) (S : Kept → Type 0)
      → Logs marks_nothing ring guest (Some first) old (forgets k) (Err e) new → RingsSay old S → RingsSay new S
  failed_rings old k e new S p say = rings_by old new S (host_tables old.host new.host p.0) say

-- ---- no table

-- the host has none
abbrev pub IsBare : Lent → (Kept → Type 0) → Type 0
IsBare h S = h.host.tables ≡ []

pub bare_rings : (h : Lent) (S : Kept → Type 0) → h.host.tables ≡ [] → RingsSay h S
bare_rings h S bare t at = let none : None ≡ Some t = ap (λ ts. slice_get ts 0) (sym bare) ∙ at in absurd (cc)

module _ (writes : WritesLaw) (ring guest : Memory) where
  pub bare_plain : (old : Lent) (s : MemoryStep) (r : Returned s) (new : Lent) (S : Kept → Type 0) → IsPlain s
      → Logs marks_nothing ring guest None old s r new → IsBare old S → IsBare new S
  bare_plain old s r new S plain p bare = plain_tables writes ring guest None old s r new plain p ∙ bare

  pub bare_kept : (old : Lent) (k : Kept) (r : Result (Unit {0}) AllocError) (new : Lent)
      → Logs marks_nothing ring guest None old (keeps k) r new → old.host.tables ≡ [] → new.host.tables ≡ []
  bare_kept old k r new p bare = host_tables old.host new.host p.0.1 ∙ bare

  pub bare_forgot : (old : Lent) (k : Kept) (r : Result (Unit {0}) AllocError) (new : Lent)
      → Logs marks_nothing ring guest None old (forgets k) r new → old.host.tables ≡ [] → new.host.tables ≡ []
  bare_forgot old k r new p bare = host_tables old.host new.host p.0.1 ∙ bare
