-- The words that each command reads are its words.
use Rattle.std.proofs.Common.{◌≡◌, ℕ, Bool, List, [], ◌∷◌, map, Some, refl, subst, codes}
use Rattle.vm_memory.specs.Words.{Each, word_of_access, word_of_switch, bytes_of_width}
use Rattle.vm_memory.specs.Lines.{IsField, word, number, bytes, source, sink, command_fields, fields_of_bitmap}
use Rattle.vm_memory.specs.Reading.{number_at, address_at, width_at, permissions_at, switch_at, bitmap_at, block_range_at, bytes_at, source_at, sink_at, numbers_at}
use Rattle.vm_memory.specs.LineReading.{layout_at, insert_at, remove_at, plain_at, memory_at, replace_at, enable_at, read_at, write_at, readx_at, writex_at, store_at, load_at, from_at, fromx_at, to_at, tox_at, check_at, copy_at, set_at, invalidate_at, clear_at, lookup_at, dirty_at, harvest_at}
use Rattle.vm_memory_base.specs.declared.address.GuestAddress.{GuestAddress}
use Rattle.vm_memory_base.specs.declared.bitmap.BitmapId.{BitmapId}
use Rattle.vm_memory.specs.declared.machine.command.BlockRange.{BlockRange}
use Rattle.vm_memory.specs.declared.machine.command.Width.{Width}
use Rattle.vm_memory_base.specs.declared.iotlb.Permissions.{Permissions}
use Rattle.vm_memory_base.specs.declared.io.scripted.SourceStep.{SourceStep}
use Rattle.vm_memory_base.specs.declared.io.scripted.SinkStep.{SinkStep}
use Rattle.vm_memory.specs.declared.machine.command.Command.{Command}
use Rattle.vm_memory.specs.declared.machine.command.Command.TheVariants as command
use Rattle.vm_memory.proofs.SpellingLemmas.{both_read}
use Rattle.vm_memory.proofs.FieldLemmas.{takes-number, takes-address, takes-bytes, takes-source, takes-sink, takes-access, takes-switch, takes-width, takes-bitmap, takes-range, takes-numbers}
use Rattle.vm_memory.proofs.FieldLemmas.{gives-number, gives-address, gives-bytes, gives-source, gives-sink, gives-access, gives-switch, gives-width, gives-bitmap, gives-range, gives-numbers}
use Rattle.vm_memory.proofs.FieldLemmas.{none_left, last_read, same_read}

-- the numbers of the regions
pub from-layout : (ws : List (List ℕ)) (numbers : List ℕ) → Each IsField ws (map number numbers)
    → layout_at ws ≡ Some (command.FromRegions numbers, [])
from-layout ws numbers h = rw (takes-numbers ws numbers h) refl

pub to-layout : (first : List ℕ) (ws : List (List ℕ)) (c : Command) → first ≡ codes "layout"
    → layout_at ws ≡ Some (c, []) → Each IsField (first ∷ ws) (command_fields c)
to-layout first ws c is h =
    let a = both_read (numbers_at ws) _ (c, []) h in
    let e = same_read a.2 in
    subst (λ d. Each IsField (first ∷ ws) (command_fields d)) e.0 (is, gives-numbers ws a.0 a.1)

pub from-insert : (ws : List (List ℕ)) (layout : ℕ) (region : ℕ)
    → Each IsField ws (number layout ∷ number region ∷ [])
    → insert_at ws ≡ Some (command.Insert layout region, [])
from-insert ws layout region h =
    let p = takes-number ws layout _ h in
    let q = takes-number p.0 region _ p.2 in
    rw (p.1, q.1, none_left q.0 q.2) refl

pub to-insert : (first : List ℕ) (ws : List (List ℕ)) (c : Command) → first ≡ codes "insert"
    → insert_at ws ≡ Some (c, []) → Each IsField (first ∷ ws) (command_fields c)
to-insert first ws c is h =
    let p = both_read (number_at ws) _ (c, []) h in
    let q = both_read (number_at p.0.1) _ (c, []) p.2 in
    let e = same_read q.2 in
    subst (λ d. Each IsField (first ∷ ws) (command_fields d)) e.0
    (is, gives-number ws p.0 _ p.1 (gives-number p.0.1 q.0 _ q.1 (last_read e.1)))

pub from-remove : (ws : List (List ℕ)) (layout : ℕ) (base : GuestAddress) (size : ℕ)
    → Each IsField ws (number layout ∷ number base.0 ∷ number size ∷ [])
    → remove_at ws ≡ Some (command.Remove layout base size, [])
from-remove ws layout base size h =
    let p = takes-number ws layout _ h in
    let q = takes-address p.0 base _ p.2 in
    let r = takes-number q.0 size _ q.2 in
    rw (p.1, q.1, r.1, none_left r.0 r.2) refl

pub to-remove : (first : List ℕ) (ws : List (List ℕ)) (c : Command) → first ≡ codes "remove"
    → remove_at ws ≡ Some (c, []) → Each IsField (first ∷ ws) (command_fields c)
to-remove first ws c is h =
    let p = both_read (number_at ws) _ (c, []) h in
    let q = both_read (address_at p.0.1) _ (c, []) p.2 in
    let r = both_read (number_at q.0.1) _ (c, []) q.2 in
    let e = same_read r.2 in
    subst (λ d. Each IsField (first ∷ ws) (command_fields d)) e.0
    (is, gives-number ws p.0 _ p.1 (gives-address p.0.1 q.0 _ q.1 (gives-number q.0.1 r.0 _ r.1 (last_read e.1))))

pub from-plain : (ws : List (List ℕ)) (layout : ℕ)
    → Each IsField ws (number layout ∷ [])
    → plain_at ws ≡ Some (command.Plain layout, [])
from-plain ws layout h =
    let p = takes-number ws layout _ h in
    rw (p.1, none_left p.0 p.2) refl

pub to-plain : (first : List ℕ) (ws : List (List ℕ)) (c : Command) → first ≡ codes "plain"
    → plain_at ws ≡ Some (c, []) → Each IsField (first ∷ ws) (command_fields c)
to-plain first ws c is h =
    let p = both_read (number_at ws) _ (c, []) h in
    let e = same_read p.2 in
    subst (λ d. Each IsField (first ∷ ws) (command_fields d)) e.0
    (is, gives-number ws p.0 _ p.1 (last_read e.1))

pub from-memory : (ws : List (List ℕ)) (layout : ℕ) (translator : ℕ) (space : ℕ) (on : Bool)
    → Each IsField ws (number layout ∷ number translator ∷ number space ∷ word (word_of_switch on) ∷ [])
    → memory_at ws ≡ Some (command.NewMemory layout translator space on, [])
from-memory ws layout translator space on h =
    let p = takes-number ws layout _ h in
    let q = takes-number p.0 translator _ p.2 in
    let r = takes-number q.0 space _ q.2 in
    let s = takes-switch r.0 on _ r.2 in
    rw (p.1, q.1, r.1, s.1, none_left s.0 s.2) refl

pub to-memory : (first : List ℕ) (ws : List (List ℕ)) (c : Command) → first ≡ codes "memory"
    → memory_at ws ≡ Some (c, []) → Each IsField (first ∷ ws) (command_fields c)
to-memory first ws c is h =
    let p = both_read (number_at ws) _ (c, []) h in
    let q = both_read (number_at p.0.1) _ (c, []) p.2 in
    let r = both_read (number_at q.0.1) _ (c, []) q.2 in
    let s = both_read (switch_at r.0.1) _ (c, []) r.2 in
    let e = same_read s.2 in
    subst (λ d. Each IsField (first ∷ ws) (command_fields d)) e.0 (
      is,
      gives-number ws p.0 _ p.1 (gives-number p.0.1 q.0 _ q.1
          (gives-number q.0.1 r.0 _ r.1 (gives-switch r.0.1 s.0 _ s.1 (last_read e.1)))),
    )

pub from-replace : (ws : List (List ℕ)) (memory : ℕ) (layout : ℕ)
    → Each IsField ws (number memory ∷ number layout ∷ [])
    → replace_at ws ≡ Some (command.ReplaceBackend memory layout, [])
from-replace ws memory layout h =
    let p = takes-number ws memory _ h in
    let q = takes-number p.0 layout _ p.2 in
    rw (p.1, q.1, none_left q.0 q.2) refl

pub to-replace : (first : List ℕ) (ws : List (List ℕ)) (c : Command) → first ≡ codes "replace"
    → replace_at ws ≡ Some (c, []) → Each IsField (first ∷ ws) (command_fields c)
to-replace first ws c is h =
    let p = both_read (number_at ws) _ (c, []) h in
    let q = both_read (number_at p.0.1) _ (c, []) p.2 in
    let e = same_read q.2 in
    subst (λ d. Each IsField (first ∷ ws) (command_fields d)) e.0
    (is, gives-number ws p.0 _ p.1 (gives-number p.0.1 q.0 _ q.1 (last_read e.1)))

pub from-enable : (ws : List (List ℕ)) (memory : ℕ) (on : Bool)
    → Each IsField ws (number memory ∷ word (word_of_switch on) ∷ [])
    → enable_at ws ≡ Some (command.Enable memory on, [])
from-enable ws memory on h =
    let p = takes-number ws memory _ h in
    let q = takes-switch p.0 on _ p.2 in
    rw (p.1, q.1, none_left q.0 q.2) refl

pub to-enable : (first : List ℕ) (ws : List (List ℕ)) (c : Command) → first ≡ codes "enable"
    → enable_at ws ≡ Some (c, []) → Each IsField (first ∷ ws) (command_fields c)
to-enable first ws c is h =
    let p = both_read (number_at ws) _ (c, []) h in
    let q = both_read (switch_at p.0.1) _ (c, []) p.2 in
    let e = same_read q.2 in
    subst (λ d. Each IsField (first ∷ ws) (command_fields d)) e.0
    (is, gives-number ws p.0 _ p.1 (gives-switch p.0.1 q.0 _ q.1 (last_read e.1)))

pub from-read : (ws : List (List ℕ)) (memory : ℕ) (addr : GuestAddress) (count : ℕ)
    → Each IsField ws (number memory ∷ number addr.0 ∷ number count ∷ [])
    → read_at ws ≡ Some (command.Read memory addr count, [])
from-read ws memory addr count h =
    let p = takes-number ws memory _ h in
    let q = takes-address p.0 addr _ p.2 in
    let r = takes-number q.0 count _ q.2 in
    rw (p.1, q.1, r.1, none_left r.0 r.2) refl

pub to-read : (first : List ℕ) (ws : List (List ℕ)) (c : Command) → first ≡ codes "read"
    → read_at ws ≡ Some (c, []) → Each IsField (first ∷ ws) (command_fields c)
to-read first ws c is h =
    let p = both_read (number_at ws) _ (c, []) h in
    let q = both_read (address_at p.0.1) _ (c, []) p.2 in
    let r = both_read (number_at q.0.1) _ (c, []) q.2 in
    let e = same_read r.2 in
    subst (λ d. Each IsField (first ∷ ws) (command_fields d)) e.0
    (is, gives-number ws p.0 _ p.1 (gives-address p.0.1 q.0 _ q.1 (gives-number q.0.1 r.0 _ r.1 (last_read e.1))))

pub from-write : (ws : List (List ℕ)) (memory : ℕ) (addr : GuestAddress) (bs : List ℕ)
    → Each IsField ws (number memory ∷ number addr.0 ∷ bytes bs ∷ [])
    → write_at ws ≡ Some (command.Write memory addr bs, [])
from-write ws memory addr bs h =
    let p = takes-number ws memory _ h in
    let q = takes-address p.0 addr _ p.2 in
    let r = takes-bytes q.0 bs _ q.2 in
    rw (p.1, q.1, r.1, none_left r.0 r.2) refl

pub to-write : (first : List ℕ) (ws : List (List ℕ)) (c : Command) → first ≡ codes "write"
    → write_at ws ≡ Some (c, []) → Each IsField (first ∷ ws) (command_fields c)
to-write first ws c is h =
    let p = both_read (number_at ws) _ (c, []) h in
    let q = both_read (address_at p.0.1) _ (c, []) p.2 in
    let r = both_read (bytes_at q.0.1) _ (c, []) q.2 in
    let e = same_read r.2 in
    subst (λ d. Each IsField (first ∷ ws) (command_fields d)) e.0
    (is, gives-number ws p.0 _ p.1 (gives-address p.0.1 q.0 _ q.1 (gives-bytes q.0.1 r.0 _ r.1 (last_read e.1))))

pub from-readx : (ws : List (List ℕ)) (memory : ℕ) (addr : GuestAddress) (count : ℕ)
    → Each IsField ws (number memory ∷ number addr.0 ∷ number count ∷ [])
    → readx_at ws ≡ Some (command.ReadSlice memory addr count, [])
from-readx ws memory addr count h =
    let p = takes-number ws memory _ h in
    let q = takes-address p.0 addr _ p.2 in
    let r = takes-number q.0 count _ q.2 in
    rw (p.1, q.1, r.1, none_left r.0 r.2) refl

pub to-readx : (first : List ℕ) (ws : List (List ℕ)) (c : Command) → first ≡ codes "readx"
    → readx_at ws ≡ Some (c, []) → Each IsField (first ∷ ws) (command_fields c)
to-readx first ws c is h =
    let p = both_read (number_at ws) _ (c, []) h in
    let q = both_read (address_at p.0.1) _ (c, []) p.2 in
    let r = both_read (number_at q.0.1) _ (c, []) q.2 in
    let e = same_read r.2 in
    subst (λ d. Each IsField (first ∷ ws) (command_fields d)) e.0
    (is, gives-number ws p.0 _ p.1 (gives-address p.0.1 q.0 _ q.1 (gives-number q.0.1 r.0 _ r.1 (last_read e.1))))

pub from-writex : (ws : List (List ℕ)) (memory : ℕ) (addr : GuestAddress) (bs : List ℕ)
    → Each IsField ws (number memory ∷ number addr.0 ∷ bytes bs ∷ [])
    → writex_at ws ≡ Some (command.WriteSlice memory addr bs, [])
from-writex ws memory addr bs h =
    let p = takes-number ws memory _ h in
    let q = takes-address p.0 addr _ p.2 in
    let r = takes-bytes q.0 bs _ q.2 in
    rw (p.1, q.1, r.1, none_left r.0 r.2) refl

pub to-writex : (first : List ℕ) (ws : List (List ℕ)) (c : Command) → first ≡ codes "writex"
    → writex_at ws ≡ Some (c, []) → Each IsField (first ∷ ws) (command_fields c)
to-writex first ws c is h =
    let p = both_read (number_at ws) _ (c, []) h in
    let q = both_read (address_at p.0.1) _ (c, []) p.2 in
    let r = both_read (bytes_at q.0.1) _ (c, []) q.2 in
    let e = same_read r.2 in
    subst (λ d. Each IsField (first ∷ ws) (command_fields d)) e.0
    (is, gives-number ws p.0 _ p.1 (gives-address p.0.1 q.0 _ q.1 (gives-bytes q.0.1 r.0 _ r.1 (last_read e.1))))

pub from-store : (ws : List (List ℕ)) (memory : ℕ) (width : Width) (addr : GuestAddress) (value : ℕ)
    → Each IsField ws (number memory ∷ number (bytes_of_width width) ∷ number addr.0 ∷ number value ∷ [])
    → store_at ws ≡ Some (command.Store memory width addr value, [])
from-store ws memory width addr value h =
    let p = takes-number ws memory _ h in
    let q = takes-width p.0 width _ p.2 in
    let r = takes-address q.0 addr _ q.2 in
    let s = takes-number r.0 value _ r.2 in
    rw (p.1, q.1, r.1, s.1, none_left s.0 s.2) refl

pub to-store : (first : List ℕ) (ws : List (List ℕ)) (c : Command) → first ≡ codes "store"
    → store_at ws ≡ Some (c, []) → Each IsField (first ∷ ws) (command_fields c)
to-store first ws c is h =
    let p = both_read (number_at ws) _ (c, []) h in
    let q = both_read (width_at p.0.1) _ (c, []) p.2 in
    let r = both_read (address_at q.0.1) _ (c, []) q.2 in
    let s = both_read (number_at r.0.1) _ (c, []) r.2 in
    let e = same_read s.2 in
    subst (λ d. Each IsField (first ∷ ws) (command_fields d)) e.0 (
      is,
      gives-number ws p.0 _ p.1 (gives-width p.0.1 q.0 _ q.1
          (gives-address q.0.1 r.0 _ r.1 (gives-number r.0.1 s.0 _ s.1 (last_read e.1)))),
    )

pub from-load : (ws : List (List ℕ)) (memory : ℕ) (width : Width) (addr : GuestAddress)
    → Each IsField ws (number memory ∷ number (bytes_of_width width) ∷ number addr.0 ∷ [])
    → load_at ws ≡ Some (command.Load memory width addr, [])
from-load ws memory width addr h =
    let p = takes-number ws memory _ h in
    let q = takes-width p.0 width _ p.2 in
    let r = takes-address q.0 addr _ q.2 in
    rw (p.1, q.1, r.1, none_left r.0 r.2) refl

pub to-load : (first : List ℕ) (ws : List (List ℕ)) (c : Command) → first ≡ codes "load"
    → load_at ws ≡ Some (c, []) → Each IsField (first ∷ ws) (command_fields c)
to-load first ws c is h =
    let p = both_read (number_at ws) _ (c, []) h in
    let q = both_read (width_at p.0.1) _ (c, []) p.2 in
    let r = both_read (address_at q.0.1) _ (c, []) q.2 in
    let e = same_read r.2 in
    subst (λ d. Each IsField (first ∷ ws) (command_fields d)) e.0
    (is, gives-number ws p.0 _ p.1 (gives-width p.0.1 q.0 _ q.1 (gives-address q.0.1 r.0 _ r.1 (last_read e.1))))

pub from-from : (ws : List (List ℕ)) (memory : ℕ) (addr : GuestAddress) (count : ℕ) (steps : List SourceStep)
    → Each IsField ws (number memory ∷ number addr.0 ∷ number count ∷ source steps ∷ [])
    → from_at ws ≡ Some (command.ReadFrom memory addr count steps, [])
from-from ws memory addr count steps h =
    let p = takes-number ws memory _ h in
    let q = takes-address p.0 addr _ p.2 in
    let r = takes-number q.0 count _ q.2 in
    let s = takes-source r.0 steps _ r.2 in
    rw (p.1, q.1, r.1, s.1, none_left s.0 s.2) refl

pub to-from : (first : List ℕ) (ws : List (List ℕ)) (c : Command) → first ≡ codes "from"
    → from_at ws ≡ Some (c, []) → Each IsField (first ∷ ws) (command_fields c)
to-from first ws c is h =
    let p = both_read (number_at ws) _ (c, []) h in
    let q = both_read (address_at p.0.1) _ (c, []) p.2 in
    let r = both_read (number_at q.0.1) _ (c, []) q.2 in
    let s = both_read (source_at r.0.1) _ (c, []) r.2 in
    let e = same_read s.2 in
    subst (λ d. Each IsField (first ∷ ws) (command_fields d)) e.0 (
      is,
      gives-number ws p.0 _ p.1 (gives-address p.0.1 q.0 _ q.1
          (gives-number q.0.1 r.0 _ r.1 (gives-source r.0.1 s.0 _ s.1 (last_read e.1)))),
    )

pub from-fromx : (ws : List (List ℕ)) (memory : ℕ) (addr : GuestAddress) (count : ℕ) (steps : List SourceStep)
    → Each IsField ws (number memory ∷ number addr.0 ∷ number count ∷ source steps ∷ [])
    → fromx_at ws ≡ Some (command.ReadExactFrom memory addr count steps, [])
from-fromx ws memory addr count steps h =
    let p = takes-number ws memory _ h in
    let q = takes-address p.0 addr _ p.2 in
    let r = takes-number q.0 count _ q.2 in
    let s = takes-source r.0 steps _ r.2 in
    rw (p.1, q.1, r.1, s.1, none_left s.0 s.2) refl

pub to-fromx : (first : List ℕ) (ws : List (List ℕ)) (c : Command) → first ≡ codes "fromx"
    → fromx_at ws ≡ Some (c, []) → Each IsField (first ∷ ws) (command_fields c)
to-fromx first ws c is h =
    let p = both_read (number_at ws) _ (c, []) h in
    let q = both_read (address_at p.0.1) _ (c, []) p.2 in
    let r = both_read (number_at q.0.1) _ (c, []) q.2 in
    let s = both_read (source_at r.0.1) _ (c, []) r.2 in
    let e = same_read s.2 in
    subst (λ d. Each IsField (first ∷ ws) (command_fields d)) e.0 (
      is,
      gives-number ws p.0 _ p.1 (gives-address p.0.1 q.0 _ q.1
          (gives-number q.0.1 r.0 _ r.1 (gives-source r.0.1 s.0 _ s.1 (last_read e.1)))),
    )

pub from-to : (ws : List (List ℕ)) (memory : ℕ) (addr : GuestAddress) (count : ℕ) (steps : List SinkStep)
    → Each IsField ws (number memory ∷ number addr.0 ∷ number count ∷ sink steps ∷ [])
    → to_at ws ≡ Some (command.WriteTo memory addr count steps, [])
from-to ws memory addr count steps h =
    let p = takes-number ws memory _ h in
    let q = takes-address p.0 addr _ p.2 in
    let r = takes-number q.0 count _ q.2 in
    let s = takes-sink r.0 steps _ r.2 in
    rw (p.1, q.1, r.1, s.1, none_left s.0 s.2) refl

pub to-to : (first : List ℕ) (ws : List (List ℕ)) (c : Command) → first ≡ codes "to"
    → to_at ws ≡ Some (c, []) → Each IsField (first ∷ ws) (command_fields c)
to-to first ws c is h =
    let p = both_read (number_at ws) _ (c, []) h in
    let q = both_read (address_at p.0.1) _ (c, []) p.2 in
    let r = both_read (number_at q.0.1) _ (c, []) q.2 in
    let s = both_read (sink_at r.0.1) _ (c, []) r.2 in
    let e = same_read s.2 in
    subst (λ d. Each IsField (first ∷ ws) (command_fields d)) e.0 (
      is,
      gives-number ws p.0 _ p.1 (gives-address p.0.1 q.0 _ q.1
          (gives-number q.0.1 r.0 _ r.1 (gives-sink r.0.1 s.0 _ s.1 (last_read e.1)))),
    )

pub from-tox : (ws : List (List ℕ)) (memory : ℕ) (addr : GuestAddress) (count : ℕ) (steps : List SinkStep)
    → Each IsField ws (number memory ∷ number addr.0 ∷ number count ∷ sink steps ∷ [])
    → tox_at ws ≡ Some (command.WriteAllTo memory addr count steps, [])
from-tox ws memory addr count steps h =
    let p = takes-number ws memory _ h in
    let q = takes-address p.0 addr _ p.2 in
    let r = takes-number q.0 count _ q.2 in
    let s = takes-sink r.0 steps _ r.2 in
    rw (p.1, q.1, r.1, s.1, none_left s.0 s.2) refl

pub to-tox : (first : List ℕ) (ws : List (List ℕ)) (c : Command) → first ≡ codes "tox"
    → tox_at ws ≡ Some (c, []) → Each IsField (first ∷ ws) (command_fields c)
to-tox first ws c is h =
    let p = both_read (number_at ws) _ (c, []) h in
    let q = both_read (address_at p.0.1) _ (c, []) p.2 in
    let r = both_read (number_at q.0.1) _ (c, []) q.2 in
    let s = both_read (sink_at r.0.1) _ (c, []) r.2 in
    let e = same_read s.2 in
    subst (λ d. Each IsField (first ∷ ws) (command_fields d)) e.0 (
      is,
      gives-number ws p.0 _ p.1 (gives-address p.0.1 q.0 _ q.1
          (gives-number q.0.1 r.0 _ r.1 (gives-sink r.0.1 s.0 _ s.1 (last_read e.1)))),
    )

pub from-check : (ws : List (List ℕ)) (memory : ℕ) (addr : GuestAddress) (count : ℕ) (access : Permissions)
    → Each IsField ws (number memory ∷ number addr.0 ∷ number count ∷ word (word_of_access access) ∷ [])
    → check_at ws ≡ Some (command.CheckRange memory addr count access, [])
from-check ws memory addr count access h =
    let p = takes-number ws memory _ h in
    let q = takes-address p.0 addr _ p.2 in
    let r = takes-number q.0 count _ q.2 in
    let s = takes-access r.0 access _ r.2 in
    rw (p.1, q.1, r.1, s.1, none_left s.0 s.2) refl

pub to-check : (first : List ℕ) (ws : List (List ℕ)) (c : Command) → first ≡ codes "check"
    → check_at ws ≡ Some (c, []) → Each IsField (first ∷ ws) (command_fields c)
to-check first ws c is h =
    let p = both_read (number_at ws) _ (c, []) h in
    let q = both_read (address_at p.0.1) _ (c, []) p.2 in
    let r = both_read (number_at q.0.1) _ (c, []) q.2 in
    let s = both_read (permissions_at r.0.1) _ (c, []) r.2 in
    let e = same_read s.2 in
    subst (λ d. Each IsField (first ∷ ws) (command_fields d)) e.0 (
      is,
      gives-number ws p.0 _ p.1 (gives-address p.0.1 q.0 _ q.1
          (gives-number q.0.1 r.0 _ r.1 (gives-access r.0.1 s.0 _ s.1 (last_read e.1)))),
    )

pub from-copy : (ws : List (List ℕ)) (from : BlockRange) (to : BlockRange)
    → Each IsField ws (number from.block ∷ number from.offset ∷ number from.len
    ∷ number to.block ∷ number to.offset ∷ number to.len ∷ [])
    → copy_at ws ≡ Some (command.Copy from to, [])
from-copy ws from to h =
    let p = takes-range ws from _ h in
    let q = takes-range p.0 to _ p.2 in
    rw (p.1, q.1, none_left q.0 q.2) refl

pub to-copy : (first : List ℕ) (ws : List (List ℕ)) (c : Command) → first ≡ codes "copy"
    → copy_at ws ≡ Some (c, []) → Each IsField (first ∷ ws) (command_fields c)
to-copy first ws c is h =
    let p = both_read (block_range_at ws) _ (c, []) h in
    let q = both_read (block_range_at p.0.1) _ (c, []) p.2 in
    let e = same_read q.2 in
    subst (λ d. Each IsField (first ∷ ws) (command_fields d)) e.0
    (is, gives-range ws p.0 _ p.1 (gives-range p.0.1 q.0 _ q.1 (last_read e.1)))

pub from-set : (ws : List (List ℕ)) (table : ℕ) (iova to : GuestAddress) (length : ℕ) (access : Permissions)
    → Each IsField ws (number table ∷ number iova.0 ∷ number to.0 ∷ number length ∷ word (word_of_access access) ∷ [])
    → set_at ws ≡ Some (command.Set table iova to length access, [])
from-set ws table iova to length access h =
    let p = takes-number ws table _ h in
    let q = takes-address p.0 iova _ p.2 in
    let r = takes-address q.0 to _ q.2 in
    let s = takes-number r.0 length _ r.2 in
    let t = takes-access s.0 access _ s.2 in
    rw (p.1, q.1, r.1, s.1, t.1, none_left t.0 t.2) refl

pub to-set : (first : List ℕ) (ws : List (List ℕ)) (c : Command) → first ≡ codes "set"
    → set_at ws ≡ Some (c, []) → Each IsField (first ∷ ws) (command_fields c)
to-set first ws c is h =
    let p = both_read (number_at ws) _ (c, []) h in
    let q = both_read (address_at p.0.1) _ (c, []) p.2 in
    let r = both_read (address_at q.0.1) _ (c, []) q.2 in
    let s = both_read (number_at r.0.1) _ (c, []) r.2 in
    let t = both_read (permissions_at s.0.1) _ (c, []) s.2 in
    let e = same_read t.2 in
    subst (λ d. Each IsField (first ∷ ws) (command_fields d)) e.0 (
      is,
      gives-number ws p.0 _ p.1 (gives-address p.0.1 q.0 _ q.1
          (gives-address q.0.1 r.0 _ r.1
          (gives-number r.0.1 s.0 _ s.1 (gives-access s.0.1 t.0 _ t.1 (last_read e.1))))),
    )

pub from-invalidate : (ws : List (List ℕ)) (table : ℕ) (iova : GuestAddress) (length : ℕ)
    → Each IsField ws (number table ∷ number iova.0 ∷ number length ∷ [])
    → invalidate_at ws ≡ Some (command.Invalidate table iova length, [])
from-invalidate ws table iova length h =
    let p = takes-number ws table _ h in
    let q = takes-address p.0 iova _ p.2 in
    let r = takes-number q.0 length _ q.2 in
    rw (p.1, q.1, r.1, none_left r.0 r.2) refl

pub to-invalidate : (first : List ℕ) (ws : List (List ℕ)) (c : Command) → first ≡ codes "invalidate"
    → invalidate_at ws ≡ Some (c, []) → Each IsField (first ∷ ws) (command_fields c)
to-invalidate first ws c is h =
    let p = both_read (number_at ws) _ (c, []) h in
    let q = both_read (address_at p.0.1) _ (c, []) p.2 in
    let r = both_read (number_at q.0.1) _ (c, []) q.2 in
    let e = same_read r.2 in
    subst (λ d. Each IsField (first ∷ ws) (command_fields d)) e.0
    (is, gives-number ws p.0 _ p.1 (gives-address p.0.1 q.0 _ q.1 (gives-number q.0.1 r.0 _ r.1 (last_read e.1))))

pub from-clear : (ws : List (List ℕ)) (table : ℕ)
    → Each IsField ws (number table ∷ [])
    → clear_at ws ≡ Some (command.InvalidateAll table, [])
from-clear ws table h =
    let p = takes-number ws table _ h in
    rw (p.1, none_left p.0 p.2) refl

pub to-clear : (first : List ℕ) (ws : List (List ℕ)) (c : Command) → first ≡ codes "clear"
    → clear_at ws ≡ Some (c, []) → Each IsField (first ∷ ws) (command_fields c)
to-clear first ws c is h =
    let p = both_read (number_at ws) _ (c, []) h in
    let e = same_read p.2 in
    subst (λ d. Each IsField (first ∷ ws) (command_fields d)) e.0
    (is, gives-number ws p.0 _ p.1 (last_read e.1))

pub from-lookup : (ws : List (List ℕ)) (table : ℕ) (iova : GuestAddress) (length : ℕ) (access : Permissions)
    → Each IsField ws (number table ∷ number iova.0 ∷ number length ∷ word (word_of_access access) ∷ [])
    → lookup_at ws ≡ Some (command.Lookup table iova length access, [])
from-lookup ws table iova length access h =
    let p = takes-number ws table _ h in
    let q = takes-address p.0 iova _ p.2 in
    let r = takes-number q.0 length _ q.2 in
    let s = takes-access r.0 access _ r.2 in
    rw (p.1, q.1, r.1, s.1, none_left s.0 s.2) refl

pub to-lookup : (first : List ℕ) (ws : List (List ℕ)) (c : Command) → first ≡ codes "lookup"
    → lookup_at ws ≡ Some (c, []) → Each IsField (first ∷ ws) (command_fields c)
to-lookup first ws c is h =
    let p = both_read (number_at ws) _ (c, []) h in
    let q = both_read (address_at p.0.1) _ (c, []) p.2 in
    let r = both_read (number_at q.0.1) _ (c, []) q.2 in
    let s = both_read (permissions_at r.0.1) _ (c, []) r.2 in
    let e = same_read s.2 in
    subst (λ d. Each IsField (first ∷ ws) (command_fields d)) e.0 (
      is,
      gives-number ws p.0 _ p.1 (gives-address p.0.1 q.0 _ q.1
          (gives-number q.0.1 r.0 _ r.1 (gives-access r.0.1 s.0 _ s.1 (last_read e.1)))),
    )

pub from-dirty : (ws : List (List ℕ)) (id : BitmapId)
    → Each IsField ws (fields_of_bitmap id)
    → dirty_at ws ≡ Some (command.Dirty id, [])
from-dirty ws id h =
    let p = takes-bitmap ws id h in
    rw p refl

pub to-dirty : (first : List ℕ) (ws : List (List ℕ)) (c : Command) → first ≡ codes "dirty"
    → dirty_at ws ≡ Some (c, []) → Each IsField (first ∷ ws) (command_fields c)
to-dirty first ws c is h =
    let p = both_read (bitmap_at ws) _ (c, []) h in
    let e = same_read p.2 in
    subst (λ d. Each IsField (first ∷ ws) (command_fields d)) e.0
    (is, gives-bitmap ws p.0 p.1 e.1)

pub from-harvest : (ws : List (List ℕ)) (id : BitmapId)
    → Each IsField ws (fields_of_bitmap id)
    → harvest_at ws ≡ Some (command.Harvest id, [])
from-harvest ws id h =
    let p = takes-bitmap ws id h in
    rw p refl

pub to-harvest : (first : List ℕ) (ws : List (List ℕ)) (c : Command) → first ≡ codes "harvest"
    → harvest_at ws ≡ Some (c, []) → Each IsField (first ∷ ws) (command_fields c)
to-harvest first ws c is h =
    let p = both_read (bitmap_at ws) _ (c, []) h in
    let e = same_read p.2 in
    subst (λ d. Each IsField (first ∷ ws) (command_fields d)) e.0
    (is, gives-bitmap ws p.0 p.1 e.1)
