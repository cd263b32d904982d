-- The region of a packed queue, the stores to it, and what each call stores.
use Rattle.std.specs.Prelude.{ℕ, ◌+◌, ◌*◌, ◌-◌, ◌^◌, Bool, true, false, not, ◌&&◌, ◌==◌, nat_lt, if◌then◌else◌, min, List, [], ◌∷◌, length, slice_index_or, slice_set}
use Rattle.vhost_inflight.specs.declared.store.Store.{Store}
use Rattle.vhost_inflight.specs.declared.store.Value.TheVariants.{Byte, Word, Quad}
use Rattle.vhost_inflight.specs.declared.packed.PackedInFlight.{PackedInFlight}
use Rattle.vhost_inflight.specs.declared.packed.PackedStore.{PackedStore}
use Rattle.vhost_inflight.specs.declared.packed.PackedStore.TheVariants.{Num, Counter, InFlight, Last, Next, Buffer, Addr, FreeHead, OldFreeHead, Used, DescNum, Version}
use Rattle.vhost_inflight.specs.declared.packed_region.PackedCopy.{PackedCopy}
use Rattle.vhost_inflight.specs.declared.packed_region.PackedEntry.{PackedEntry}
use Rattle.vhost_inflight.specs.declared.packed_region.PackedHeader.{PackedHeader}
use Rattle.vhost_inflight.specs.declared.packed_region.PackedPosition.{PackedPosition}

-- what a region says. Its features mean nothing
pub record PackedRegion : Type 0 where
  pub header : PackedHeader
  pub entries : List PackedEntry

-- the position so many slots further
abbrev pub moved : ℕ → PackedPosition → ℕ → PackedPosition
moved size p n = if nat_lt n (size - p.slot) then record { slot = p.slot + n; wrap = p.wrap }
    else record { slot = n - (size - p.slot); wrap = not p.wrap }

-- ---- its layout

abbrev pub entry_offset : ℕ → ℕ
entry_offset index = 32 + 32 * index

abbrev bit : Bool → ℕ
bit b = if b then 1 else 0

abbrev pub place : PackedStore → Store
place (Num index num) = record { offset = entry_offset index + 6; value = Word num }
place (Counter index count) = record { offset = entry_offset index + 8; value = Quad count }
place (InFlight index is) = record { offset = entry_offset index; value = Byte (bit is) }
place (Last index last) = record { offset = entry_offset index + 4; value = Word last }
place (Next index next) = record { offset = entry_offset index + 2; value = Word next }
place (Buffer index id flags len) =
    record { offset = entry_offset index + 16; value = Quad (id + 2 ^ 16 * flags + 2 ^ 32 * len) }
place (Addr index addr) = record { offset = entry_offset index + 24; value = Quad addr }
place (FreeHead index) = record { offset = 12; value = Word index }
place (OldFreeHead index) = record { offset = 14; value = Word index }
place (Used used old) = record {
  offset = 16;
  value = Quad (used.slot + 2 ^ 16 * old.slot + 2 ^ 32 * bit used.wrap + 2 ^ 40 * bit old.wrap);
}
place (DescNum count) = record { offset = 10; value = Word count }
place (Version version) = record { offset = 8; value = Word version }

-- ---- its entries

abbrev pub no_entry : PackedEntry
no_entry = record { in_flight = 0; next = 0; last = 0; num = 0; counter = 0; id = 0; flags = 0; len = 0; addr = 0 }

-- one that there is not is not in flight
abbrev pub entry_of : List PackedEntry → ℕ → PackedEntry
entry_of entries index = slice_index_or entries index no_entry

abbrev pub counter_of : List PackedEntry → ℕ → ℕ
counter_of entries index = (entry_of entries index).counter

abbrev pub is_in_flight : List PackedEntry → ℕ → Bool
is_in_flight entries index = (entry_of entries index).in_flight == 1

-- the copy of a descriptor that an entry has
abbrev pub copy_of : PackedEntry → PackedCopy
copy_of e = record { id = e.id; flags = e.flags; len = e.len; addr = e.addr }

-- the entries after a change of one of them
abbrev pub changed : List PackedEntry → ℕ → (PackedEntry → PackedEntry) → List PackedEntry
changed entries index change = slice_set entries index (change (entry_of entries index))

-- ---- stores

abbrev with_entry : PackedRegion → ℕ → (PackedEntry → PackedEntry) → PackedRegion
with_entry r index change = record r { entries = changed r.entries index change }

-- what the region says after a store
abbrev pub put : PackedRegion → PackedStore → PackedRegion
put r (Num index num) = with_entry r index (λ e. record e { num = num })
put r (Counter index count) = with_entry r index (λ e. record e { counter = count })
put r (InFlight index is) = with_entry r index (λ e. record e { in_flight = bit is })
put r (Last index last) = with_entry r index (λ e. record e { last = last })
put r (Next index next) = with_entry r index (λ e. record e { next = next })
put r (Buffer index id flags len) =
    with_entry r index (λ e. record e { id = id; flags = flags; len = len })
put r (Addr index addr) = with_entry r index (λ e. record e { addr = addr })
put r (FreeHead index) = record r { header = record r.header { free_head = index } }
put r (OldFreeHead index) = record r { header = record r.header { old_free_head = index } }
put r (Used used old) = record r { header = record r.header { used = used; old_used = old } }
put r (DescNum count) = record r { header = record r.header { desc_num = count } }
put r (Version version) = record r { header = record r.header { version = version } }

-- ---- what a back end keeps

pub record PackedKept : Type 0 where
  pub entries : List PackedEntry
  pub free_head : ℕ
  pub next_free : ℕ
  pub used : PackedPosition
  pub size : ℕ
  pub count : ℕ

abbrev pub kept_of : PackedInFlight → PackedKept
kept_of k = record {
  entries = k.entries.items;
  free_head = k.free_head;
  next_free = k.next_free;
  used = k.used;
  size = k.size;
  count = k.count;
}

-- ---- a pop

-- the next count, which stays at the greatest one
abbrev pub next_count : PackedKept → ℕ
next_count k = min (k.count + 1) (2 ^ 64 - 1)

-- whether an entry is free
abbrev pub can_begin_pop : PackedKept → Bool
can_begin_pop k = nat_lt k.free_head (length k.entries)

abbrev pub begin_pop_stores : PackedKept → List PackedStore
begin_pop_stores k =
    Num k.free_head 0 ∷ Counter k.free_head (next_count k) ∷ []

abbrev pub after_begin_pop : PackedKept → PackedKept
after_begin_pop k = if can_begin_pop k then record k {
  entries = changed k.entries k.free_head
      (λ e. record e { num = 0; counter = next_count k });
  next_free = k.free_head;
  count = next_count k;
} else k

abbrev pub can_add : PackedKept → Bool
can_add k = nat_lt k.free_head (length k.entries) && nat_lt k.next_free (length k.entries)

-- how many entries the chain has then
abbrev pub next_num : PackedKept → ℕ
next_num k = min ((entry_of k.entries k.free_head).num + 1) (2 ^ 16 - 1)

abbrev pub add_stores : PackedKept → PackedCopy → List PackedStore
add_stores k d = Num k.free_head (next_num k) ∷ Last k.free_head k.next_free
    ∷ Buffer k.next_free d.id d.flags d.len ∷ Addr k.next_free d.addr
    ∷ FreeHead (entry_of k.entries k.next_free).next ∷ []

abbrev pub after_add : PackedKept → PackedCopy → PackedKept
after_add k d = if can_add k then record k {
  entries = changed (changed k.entries k.free_head (λ e. record e { num = next_num k; last = k.next_free })) k.next_free
      (λ e. record e { id = d.id; flags = d.flags; len = d.len; addr = d.addr });
  next_free = (entry_of k.entries k.next_free).next;
} else k

abbrev pub can_end_pop : PackedKept → Bool
can_end_pop k = nat_lt k.free_head (length k.entries)

-- the mark of the chain, which is still among the free entries
abbrev pub end_pop_mark : PackedKept → PackedStore
end_pop_mark k = InFlight k.free_head true

-- and the store by which it is popped
abbrev pub end_pop_head : PackedKept → PackedStore
end_pop_head k = OldFreeHead k.next_free

abbrev pub end_pop_stores : PackedKept → List PackedStore
end_pop_stores k = end_pop_mark k ∷ end_pop_head k ∷ []

abbrev pub after_end_pop : PackedKept → PackedKept
after_end_pop k = if can_end_pop k then record k {
  entries = changed k.entries k.free_head (λ e. record e { in_flight = 1 });
  free_head = k.next_free;
} else k

-- ---- a return

-- whether a chain in flight begins at an entry
abbrev pub can_return : PackedKept → ℕ → Bool
can_return k head = nat_lt head (length k.entries)
    && (is_in_flight k.entries head && nat_lt (entry_of k.entries head).last (length k.entries))

-- where the next chain is returned, after one
abbrev pub used_after : PackedKept → ℕ → PackedPosition
used_after k head = moved k.size k.used (entry_of k.entries head).num

abbrev pub begin_return_stores : PackedKept → ℕ → List PackedStore
begin_return_stores k head =
    Next (entry_of k.entries head).last k.free_head ∷ FreeHead head ∷ Used (used_after k head) k.used ∷ []

abbrev pub end_return_stores : PackedKept → ℕ → List PackedStore
end_return_stores k head =
    InFlight head false ∷ OldFreeHead head ∷ Used (used_after k head) (used_after k head) ∷ []

abbrev pub after_return : PackedKept → ℕ → PackedKept
after_return k head = if can_return k head then record k {
  entries = changed (changed k.entries (entry_of k.entries head).last (λ e. record e { next = k.free_head })) head
      (λ e. record e { in_flight = 0 });
  free_head = head;
  used = used_after k head;
} else k
