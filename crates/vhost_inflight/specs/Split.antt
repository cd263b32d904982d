-- The region of a split queue, the stores to it, and what each call stores.
use Rattle.std.specs.Prelude.{ℕ, ◌+◌, ◌*◌, ◌-◌, ◌^◌, Bool, true, false, ◌==◌, if◌then◌else◌, min, List, [], ◌∷◌, slice_index_or, slice_set}
use Rattle.vhost_inflight.specs.declared.store.Store.{Store}
use Rattle.vhost_inflight.specs.declared.store.Value.TheVariants.{Byte, Word, Quad}
use Rattle.vhost_inflight.specs.declared.split.SplitInFlight.{SplitInFlight}
use Rattle.vhost_inflight.specs.declared.split.SplitStore.{SplitStore}
use Rattle.vhost_inflight.specs.declared.split.SplitStore.TheVariants.{Counter, InFlight, Next, LastBatchHead, UsedIdx, DescNum, Version}
use Rattle.vhost_inflight.specs.declared.split_region.SplitEntry.{SplitEntry}

-- what a region says, a descriptor an entry. Its features mean nothing
pub record SplitRegion : Type 0 where
  pub version : ℕ
  pub desc_num : ℕ
  pub last_batch_head : ℕ
  pub used_idx : ℕ
  pub entries : List SplitEntry

-- ---- its layout

abbrev pub entry_offset : ℕ → ℕ
entry_offset head = 16 + 16 * head

abbrev pub place : SplitStore → Store
place (Counter head count) = record { offset = entry_offset head + 8; value = Quad count }
place (InFlight head is) = record { offset = entry_offset head; value = Byte (if is then 1 else 0) }
place (Next head next) = record { offset = entry_offset head + 6; value = Word next }
place (LastBatchHead head) = record { offset = 12; value = Word head }
place (UsedIdx used) = record { offset = 14; value = Word used }
place (DescNum count) = record { offset = 10; value = Word count }
place (Version version) = record { offset = 8; value = Word version }

-- ---- its entries

-- the entry of a descriptor; one that there is not is not in flight
abbrev pub entry_of : List SplitEntry → ℕ → SplitEntry
entry_of entries head = slice_index_or entries head (record { in_flight = 0; next = 0; counter = 0 })

abbrev pub counter_of : List SplitEntry → ℕ → ℕ
counter_of entries head = (entry_of entries head).counter

-- whether a descriptor is the head of a chain in flight
abbrev pub is_in_flight : List SplitEntry → ℕ → Bool
is_in_flight entries head = (entry_of entries head).in_flight == 1

-- the entries after a change of one of them
abbrev pub changed : List SplitEntry → ℕ → (SplitEntry → SplitEntry) → List SplitEntry
changed entries head change = slice_set entries head (change (entry_of entries head))

-- ---- stores

-- what the region says after a store
abbrev pub put : SplitRegion → SplitStore → SplitRegion
put r (Counter head count) = record r { entries = changed r.entries head (λ e. record e { counter = count }) }
put r (InFlight head is) =
    record r { entries = changed r.entries head (λ e. record e { in_flight = if is then 1 else 0 }) }
put r (Next head next) = record r { entries = changed r.entries head (λ e. record e { next = next }) }
put r (LastBatchHead head) = record r { last_batch_head = head }
put r (UsedIdx used) = record r { used_idx = used }
put r (DescNum count) = record r { desc_num = count }
put r (Version version) = record r { version = version }

-- ---- calls

-- the next count, which stays at the greatest one
abbrev pub next_count : SplitInFlight → ℕ
next_count kept = min (kept.count + 1) (2 ^ 64 - 1)

abbrev pub pop_stores : SplitInFlight → ℕ → List SplitStore
pop_stores kept head = Counter head (next_count kept) ∷ InFlight head true ∷ []

abbrev pub after_pop : SplitInFlight → SplitInFlight
after_pop kept = record kept { count = next_count kept }

abbrev pub begin_return_stores : SplitInFlight → ℕ → List SplitStore
begin_return_stores kept head = Next head kept.last_batch_head ∷ LastBatchHead head ∷ []

abbrev pub after_return : SplitInFlight → ℕ → SplitInFlight
after_return kept head = record kept { last_batch_head = head }

abbrev pub end_return_stores : ℕ → ℕ → List SplitStore
end_return_stores head used = InFlight head false ∷ UsedIdx used ∷ []
