-- Crashes of a back end of a packed queue at any store: what it stores, what the guest sees and does, and every history
-- of the two.
use Rattle.std.specs.Prelude.{◌≡◌, ℕ, zero, suc, ◌+◌, Bool, true, false, not, ◌&&◌, ◌==◌, nat_le, nat_lt, if◌then◌else◌, List, [], ◌∷◌, ◌++◌, length, map, take, Option, Some, None}
use Rattle.std.specs.List.{list_any}
use Rattle.vhost_inflight.specs.Packed.{PackedKept, PackedRegion, add_stores, after_add, after_begin_pop, after_end_pop, after_return, begin_pop_stores, begin_return_stores, can_add, can_begin_pop, can_end_pop, can_return, end_pop_head, end_pop_mark, end_return_stores, is_in_flight, moved, put}
use Rattle.vhost_inflight.specs.PackedStart.{Flies, available_flags, chain_of, fault, free, is_same, settled, slots_of, start_stores, started, taken_place}
use Rattle.vhost_inflight.specs.declared.packed.PackedStore.{PackedStore}
use Rattle.vhost_inflight.specs.declared.packed_region.PackedCopy.{PackedCopy}
use Rattle.vhost_inflight.specs.declared.packed_region.PackedPosition.{PackedPosition}

-- the position of a slot, by how many came before it since the ring was made
abbrev pub position : ℕ → ℕ → PackedPosition
position size zero = record { slot = 0; wrap = true }
position size (suc n) = moved size (position size n) 1

-- ---- chains, by their descriptors

-- the id of a chain: that of its last descriptor
abbrev last_id : ℕ → List PackedCopy → ℕ
last_id id [] = id
last_id id (d ∷ ds) = last_id d.id ds

abbrev pub id_of : List PackedCopy → ℕ
id_of ds = last_id 0 ds

abbrev pub has_id : ℕ → List (List PackedCopy) → Bool
has_id id [] = false
has_id id (ds ∷ chains) = if id_of ds == id then true else has_id id chains

-- how many slots the chain with an id has
abbrev pub slots_with : ℕ → List (List PackedCopy) → ℕ
slots_with id [] = 0
slots_with id (ds ∷ chains) = if id_of ds == id then length ds else slots_with id chains

abbrev pub without : ℕ → List (List PackedCopy) → List (List PackedCopy)
without id [] = []
without id (ds ∷ chains) = if id_of ds == id then chains else ds ∷ without id chains

-- ---- what a back end stores, and what the guest sees

-- one store of a back end: to the region, the region's store at which a chain is popped, the id in the ring's next used
-- descriptor, or that descriptor's flags. Or a call that was refused
pub data Deed : Type 0 where
  Region : (store : PackedStore) → Deed
  Pops : (chain : List PackedCopy) (store : PackedStore) → Deed
  Id : (id : ℕ) → Deed
  Flags : (at : PackedPosition) → Deed
  Refused : Deed

pub record World : Type 0 where
  pub region : PackedRegion
  -- of the ring: the flags of each slot, and the id in the next used descriptor
  pub flags : ℕ → ℕ
  pub id : ℕ
  -- how many slots were made available, popped and used since the ring was made
  pub published : ℕ
  pub popped : ℕ
  pub used : ℕ
  -- what the guest sees: the chains that were popped and not returned, in the order of their pops. None once a chain was
  -- popped twice, returned without a pop, or returned elsewhere than in the next slot, or a call was refused
  pub view : Option (List (List PackedCopy))
  -- what the back end keeps. None if it does not run
  pub kept : Option PackedKept

abbrev pub popped_too : List PackedCopy → Option (List (List PackedCopy)) → Option (List (List PackedCopy))
popped_too ds None = None
popped_too ds (Some chains) = if has_id (id_of ds) chains then None else Some (chains ++ ds ∷ [])

abbrev pub returned_too : ℕ → Option (List (List PackedCopy)) → Option (List (List PackedCopy))
returned_too id None = None
returned_too id (Some chains) = if has_id id chains then Some (without id chains) else None

abbrev pub slots_in : ℕ → Option (List (List PackedCopy)) → ℕ
slots_in id None = 0
slots_in id (Some chains) = slots_with id chains

-- of a slot's flags, those of a device with this wrap counter that has used it
abbrev pub used_flags : Bool → ℕ
used_flags wrap = if wrap then 0x8080 else 0

abbrev pub with_flags : World → ℕ → ℕ → World
with_flags w slot f = record w { flags = λ s. if s == slot then f else w.flags s }

-- a chain is returned by the flags of its used descriptor, in the slot where the guest looks next
abbrev pub done : ℕ → World → Deed → World
done size w (Region s) = record w { region = put w.region s }
done size w (Pops ds s) = record w {
  region = put w.region s;
  view = popped_too ds w.view;
  popped = w.popped + length ds;
}
done size w (Id id) = record w { id = id }
done size w (Flags at) = if is_same at (position size w.used) then record (with_flags w at.slot (used_flags at.wrap)) {
  used = w.used + slots_in w.id w.view;
  view = returned_too w.id w.view;
} else record w { view = None }
done size w Refused = record w { view = None }

abbrev pub all_done : ℕ → World → List Deed → World
all_done size w [] = w
all_done size w (d ∷ ds) = all_done size (done size w d) ds

-- ---- what the back end does

pub data Call : Type 0 where
  Pop : (chain : List PackedCopy) → Call
  Return : (head : ℕ) → Call
  Start : Call

-- what a call stores, in order, and what the back end keeps then
pub record Effect : Type 0 where
  pub deeds : List Deed
  pub kept : PackedKept

abbrev pub unless : Bool → List Deed → List Deed
unless can deeds = if can then deeds else Refused ∷ []

abbrev pub begin_deeds : PackedKept → List Deed
begin_deeds k = unless (can_begin_pop k) (map Region (begin_pop_stores k))

abbrev pub add_deeds : PackedKept → List PackedCopy → List Deed
add_deeds k [] = []
add_deeds k (d ∷ ds) = unless (can_add k) (map Region (add_stores k d)) ++ add_deeds (after_add k d) ds

abbrev pub after_adds : PackedKept → List PackedCopy → PackedKept
after_adds k [] = k
after_adds k (d ∷ ds) = after_adds (after_add k d) ds

abbrev pub end_deeds : PackedKept → List PackedCopy → List Deed
end_deeds k ds = unless (can_end_pop k) (Region (end_pop_mark k) ∷ Pops ds (end_pop_head k) ∷ [])

abbrev pub pop_effect : PackedKept → List PackedCopy → Effect
pop_effect k ds = record {
  deeds = begin_deeds k ++ (add_deeds (after_begin_pop k) ds ++ end_deeds (after_adds (after_begin_pop k) ds) ds);
  kept = after_end_pop (after_adds (after_begin_pop k) ds);
}

abbrev pub return_effect : PackedKept → ℕ → Effect
return_effect k head = record {
  deeds = unless (can_return k head) (map Region (begin_return_stores k head)
      ++ (Id (id_of (chain_of k.entries head)) ∷ Flags k.used ∷ map Region (end_return_stores k head)));
  kept = after_return k head;
}

-- the flags of the slot that a start looks at
abbrev pub looked_at : World → ℕ
looked_at w = w.flags w.region.header.old_used.slot

-- where the front end lets a ring begin
abbrev pub start_effect : ℕ → ℕ → ℕ → World → Effect
start_effect descriptors size began w =
    let base = position size began in let flags = looked_at w in let r = w.region in record {
      deeds = map Region (start_stores descriptors r.header.version (taken_place r base flags) (free r base flags));
      kept = started size r base flags;
    }

abbrev pub in_view : ℕ → Option (List (List PackedCopy)) → Bool
in_view id None = false
in_view id (Some chains) = has_id id chains

-- whether the next chain that the driver made available can be this one
abbrev pub is_next : World → List PackedCopy → Bool
is_next w ds = nat_lt 0 (length ds) && (nat_le (w.popped + length ds) w.published && not (in_view (id_of ds) w.view))

-- a back end that does not run can only start. One that runs pops what is available, and returns what is in flight
abbrev pub effect : ℕ → ℕ → ℕ → World → Option PackedKept → Call → Option Effect
effect descriptors size began w None Start = Some (start_effect descriptors size began w)
effect descriptors size began w None c = None
effect descriptors size began w (Some k) (Pop ds) = if is_next w ds then Some (pop_effect k ds) else None
effect descriptors size began w (Some k) (Return head) =
    if is_in_flight k.entries head then Some (return_effect k head) else None
effect descriptors size began w (Some k) Start = None

-- the driver makes the next slot available, or a call is made, or it is cut by a crash after so many of its stores
pub data Event : Type 0 where
  Publish : Event
  Whole : (call : Call) → Event
  Cut : (call : Call) (stores : ℕ) → Event

abbrev pub whole : ℕ → World → Option Effect → World
whole size w None = w
whole size w (Some e) = record (all_done size w e.deeds) { kept = Some e.kept }

abbrev pub cut : ℕ → World → ℕ → Option Effect → World
cut size w n None = w
cut size w n (Some e) = record (all_done size w (take n e.deeds)) { kept = None }

-- a slot is the driver's again as soon as its chain was returned
abbrev pub publish : ℕ → World → World
publish size w = if nat_lt w.published (w.used + size)
    then record (with_flags w (position size w.published).slot (available_flags (position size w.published).wrap)) {
      published = w.published + 1;
    } else w

-- what cannot be called changes nothing
abbrev pub happens : ℕ → ℕ → ℕ → World → Event → World
happens descriptors size began w Publish = publish size w
happens descriptors size began w (Whole c) = whole size w (effect descriptors size began w w.kept c)
happens descriptors size began w (Cut c n) = cut size w n (effect descriptors size began w w.kept c)

abbrev pub run : ℕ → ℕ → ℕ → World → List Event → World
run descriptors size began w [] = w
run descriptors size began w (e ∷ es) = run descriptors size began (happens descriptors size began w e) es

-- ---- how it begins

-- a region that no back end has written
pub record IsFresh (descriptors : ℕ) (r : PackedRegion) : Type 0 where
  pub version : r.header.version ≡ 0
  pub entries : length r.entries ≡ descriptors
  pub marks : list_any (λ e. nat_lt 1 e.in_flight) r.entries ≡ false

-- a back end that has not run, on a ring of which so many slots were used and nothing is available
abbrev pub at_first : PackedRegion → (ℕ → ℕ) → ℕ → World
at_first r flags began = record {
  region = r;
  flags = flags;
  id = 0;
  published = began;
  popped = began;
  used = began;
  view = Some [];
  kept = None;
}

-- ---- where it goes on

-- a start goes through, and serves again what the guest sees as popped and not returned, and nothing else, in the order
-- of the pops. The next available position is the one behind all that were popped
pub record GoesOn (descriptors size began : ℕ) (w : World) : Type 0 where
  pub heads : List ℕ
  pub again : Flies w.region (position size began) (looked_at w) heads
  pub accepted : fault descriptors size w.region (position size began) (looked_at w) heads ≡ None
  pub seen : w.view ≡ Some (map (chain_of (settled w.region (position size began) (looked_at w))) heads)
  pub next : moved size (taken_place w.region (position size began) (looked_at w)).used
      (slots_of (settled w.region (position size began) (looked_at w)) heads) ≡ position size w.popped
