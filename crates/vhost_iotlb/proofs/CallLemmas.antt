-- What messages make of a table, as calls of it.
use Rattle.std.proofs.Common.{◌≡◌, ◌⊎◌, Bool, true, false, cond, eqb, ltb, ℕ, ◌+◌, ◌-◌, ◌^◌, ◌<◌, ◌≤◌, min, List, [], ◌∷◌, ◌++◌, Option, Some, None, Result, Ok, Err, refl, sym, ap, subst, ◌∙◌, inl, inr, arith, slice_get}
use Rattle.std.proofs.Math.Nat.{min-le_right}
use Rattle.std.proofs.lemmas.Bool.{le-ltb, ltb-false}
use Rattle.vm_memory_base.specs.Table as table
use Rattle.vm_memory_base.specs.Table.{Table, TableEvent, changed, changed_by, overruns}
use Rattle.vm_memory_base.specs.declared.address.GuestAddress.{GuestAddress}
use Rattle.vm_memory_base.specs.declared.iotlb.Permissions.{Permissions}
use Rattle.vm_memory_guest.specs.Host.{Host}
use Rattle.vhost_iotlb.specs.Changes.{Applies, Changes, DoneFor, Handles, IsAmong, MakesOfMalformed, call_of, invalidate, invalidated, named, set_to}
use Rattle.vhost_message.specs.Regions.{guest_of}
use Rattle.vhost_message.specs.declared.refusal.Malformed.TheVariants as malformed
use Rattle.vhost_message.specs.declared.iotlb.IotlbMessage.{IotlbMessage}
use Rattle.vhost_message.specs.declared.iotlb.IotlbMessage.TheVariants.{Miss, Update, Invalidate, AccessFail}
use Rattle.vhost_iotlb.specs.declared.table.Refusal.{Refusal}
use Rattle.vhost_iotlb.specs.declared.table.Refusal.TheVariants as refusal
use Rattle.vhost_message.specs.declared.regions.MemoryRegion.{MemoryRegion}
use Rattle.vm_memory_device.proofs.TableLemmas.{AreLeftBy, changed_own, same}

-- a call that a message can lead to
abbrev pub IsCall : TableEvent → Type 0
IsCall (table.Set iova to len perm) = overruns iova len ≡ false
IsCall (table.Invalidate iova len) = overruns iova len ≡ false
IsCall table.InvalidateAll = Unit {0}
IsCall (table.Evict iova len) = ⊥

-- what an UPDATE asks for
record SetsBy (regions : List MemoryRegion) (iova size user : ℕ) (perm : Permissions) (wanted : TableEvent) : Type 0 where
  to : GuestAddress
  fits : overruns iova size ≡ false
  lies : guest_of regions user size ≡ Some to
  is : wanted ≡ table.Set iova to.0 size perm

sets_by : (regions : List MemoryRegion) (iova size user : ℕ) (perm : Permissions) (wanted : TableEvent)
    → call_of regions (Update iova size user perm) ≡ Ok wanted → SetsBy regions iova size user perm wanted
sets_by regions iova size user perm wanted e = over (overruns iova size) refl e
  where
    to_there : (o : Option GuestAddress) → guest_of regions user size ≡ o → overruns iova size ≡ false
        → set_to iova size perm o ≡ Ok wanted → SetsBy regions iova size user perm wanted
    to_there None there fits e = absurd cc
    to_there (Some to) there fits e = record { to = to; fits = fits; lies = there; is = cc }

    over : (b : Bool) → overruns iova size ≡ b
        → cond b (Err (refusal.Malformed malformed.Range)) (set_to iova size perm (guest_of regions user size))
        ≡ Ok wanted
        → SetsBy regions iova size user perm wanted
    over true fits e = absurd cc
    over false fits e = to_there (guest_of regions user size) refl fits e

-- what an INVALIDATE asks for, if it is not malformed
pub record TakesBy (iova size : ℕ) (wanted : TableEvent) : Type 0 where
  pub len : ℕ
  pub fine : invalidated iova size ≡ Ok len
  pub enough : len ≡ min (named iova size) (2 ^ 64 - 1 - iova)
  pub starts : iova < 2 ^ 64
  pub fits : overruns iova len ≡ false
  pub is : wanted ≡ table.Invalidate iova len

abbrev most : ℕ → ℕ → ℕ
most iova size = min (named iova size) (2 ^ 64 - 1 - iova)

pub takes_by : (iova size : ℕ) (wanted : TableEvent) → invalidate iova (invalidated iova size) ≡ Ok wanted
    → TakesBy iova size wanted
takes_by iova size wanted e = some (eqb (named iova size) 0) refl e
  where
    near : (b : Bool) → ltb (2 ^ 64) (iova + named iova size) ≡ b → eqb (named iova size) 0 ≡ false
        → invalidate iova (cond b (Err malformed.Range) (Ok (most iova size))) ≡ Ok wanted → TakesBy iova size wanted
    near true far none e = absurd cc
    near false far none e =
        let ends : iova + named iova size ≤ 2 ^ 64 = ltb-false (2 ^ 64) (iova + named iova size) far in
        let some : named iova size ≡ 0 → ⊥ = λ z. absurd cc in
        let starts : iova < 2 ^ 64 = omega (arith, ends, some) in
        let least : most iova size ≤ 2 ^ 64 - 1 - iova = min-le_right (named iova size) (2 ^ 64 - 1 - iova) in
        record {
          len = most iova size;
          fine = rw (none, far) refl;
          enough = refl;
          starts = starts;
          fits = le-ltb (2 ^ 64 - 1) (iova + most iova size) (omega (arith, least, starts));
          is = cc;
        }

    some : (b : Bool) → eqb (named iova size) 0 ≡ b
        → invalidate iova (cond b (Err malformed.EmptyRange)
        (cond (ltb (2 ^ 64) (iova + named iova size)) (Err malformed.Range) (Ok (most iova size)))) ≡ Ok wanted
        → TakesBy iova size wanted
    some true none e = absurd cc
    some false none e = near (ltb (2 ^ 64) (iova + named iova size)) refl none e

is_call : (regions : List MemoryRegion) (m : IotlbMessage) (wanted call : TableEvent) → call_of regions m ≡ Ok wanted
    → DoneFor wanted call → IsCall call
is_call regions (Update iova size user perm) wanted call e done =
    let s = sets_by regions iova size user perm wanted e in
    let same : call ≡ table.Set iova s.to.0 size perm = subst (λ (w : TableEvent). DoneFor w call) s.is done in
    subst IsCall (sym same) s.fits
is_call regions (Invalidate iova size) wanted call e done =
    let t = takes_by iova size wanted e in
    elim (subst (λ (w : TableEvent). DoneFor w call) t.is done) [
      | inl same ↦ subst IsCall (sym same) t.fits
      | inr all ↦ subst IsCall (sym all) tt
    ]
is_call regions (Miss iova access) wanted call e done = absurd cc
is_call regions (AccessFail iova access) wanted call e done = absurd cc

-- a call that sets a range was made for an UPDATE of it
abbrev pub IsUpdate : List MemoryRegion → IotlbMessage → ℕ → ℕ → ℕ → Permissions → Type 0
IsUpdate regions m iova to len perm =
    (user : ℕ) × (m ≡ Update iova len user perm) × (guest_of regions user len ≡ Some (record { 0 = to }))

set_by : (regions : List MemoryRegion) (m : IotlbMessage) (wanted call : TableEvent) (iova to len : ℕ) (perm : Permissions)
    → call_of regions m ≡ Ok wanted → DoneFor wanted call → call ≡ table.Set iova to len perm
    → IsUpdate regions m iova to len perm
set_by regions (Update i size user p) wanted call iova to len perm e done is =
    let s = sets_by regions i size user p wanted e in
    let same : table.Set i s.to.0 size p ≡ table.Set iova to len perm =
    sym (subst (λ (w : TableEvent). DoneFor w call) s.is done) ∙ is in
    let there = s.lies in (
      user,
      update_is i iova size len user p perm (cc) (cc) (cc),
      subst (λ (n : ℕ). guest_of regions user n ≡ Some (record { 0 = to })) (cc)
          (there ∙ ap (λ (a : ℕ). Some (record { 0 = a })) (cc)),
    )
  where
    update_is : (i iova size len user : ℕ) (p perm : Permissions) → i ≡ iova → size ≡ len → p ≡ perm
        → Update i size user p ≡ Update iova len user perm
    update_is i iova size len user p perm a b c = cc
set_by regions (Invalidate i size) wanted call iova to len perm e done is =
    let t = takes_by i size wanted e in
    elim (subst (λ (w : TableEvent). DoneFor w call) t.is done) [
      | inl same ↦ absurd cc
      | inr all ↦ absurd cc
    ]
set_by regions (Miss i access) wanted call iova to len perm e done is = absurd cc
set_by regions (AccessFail i access) wanted call iova to len perm e done is = absurd cc

-- ---- what was made of one message: nothing, or one call

pub record MadeOne {B : Type 0} (number : ℕ) (regions : List MemoryRegion) (m : IotlbMessage) (calls : List TableEvent)
    (old new : Host B) : Type 0 where
  pub call : TableEvent
  pub made : calls ≡ call ∷ []
  pub changes : Changes number call old new
  pub is_call : IsCall call
  pub set_by : (iova to len : ℕ) (perm : Permissions) → call ≡ table.Set iova to len perm
      → IsUpdate regions m iova to len perm

abbrev pub MadeOf : {B : Type 0} → ℕ → List MemoryRegion → IotlbMessage → List TableEvent → Host B → Host B → Type 0
MadeOf number regions m calls old new =
    ((calls ≡ []) × (new ≡ old)) ⊎ MadeOne number regions m calls old new

module _ {B : Type 0} (number : ℕ) (regions : List MemoryRegion) where
  of_malformed : (m : IotlbMessage) (calls : List TableEvent) (old new : Host B)
      → MakesOfMalformed number m calls old new → MadeOf number regions m calls old new
  of_malformed (Update iova size user perm) calls old new by = inl by
  of_malformed (Miss iova access) calls old new by = inl by
  of_malformed (AccessFail iova access) calls old new by = inl by
  of_malformed (Invalidate iova size) calls old new by = inr (record {
    call = table.InvalidateAll;
    made = by.0;
    changes = by.1;
    is_call = tt;
    set_by = λ iova to len perm is. absurd cc;
  })

  pub made_of : (m : IotlbMessage) (answer : Result (Unit {0}) Refusal) (calls : List TableEvent) (old new : Host B)
      → Applies number regions m answer calls old new → MadeOf number regions m calls old new
  made_of m (Ok done) calls old new by = inr (record {
    call = by.call;
    made = by.made;
    changes = by.changes;
    is_call = is_call regions m by.wanted by.call by.is_asked by.done_for;
    set_by = λ iova to len perm is.
        set_by regions m by.wanted by.call iova to len perm by.is_asked by.done_for is;
  })
  made_of m (Err (refusal.Malformed e)) calls old new by = of_malformed m calls old new by.1
  made_of m (Err refusal.UserAddress) calls old new by = inl by.1
  made_of m (Err refusal.Memory) calls old new by = inl by.1
  made_of m (Err refusal.NoTable) calls old new by = inl by.1

-- ---- the table that they leave

changed_by-append : (xs ys : List TableEvent) (t : Table) → changed_by (xs ++ ys) t ≡ changed_by ys (changed_by xs t)
changed_by-append [] ys t = refl
changed_by-append (call ∷ xs) ys t = changed_by-append xs ys (changed call t)

module _ {B : Type 0} (number : ℕ) (regions : List MemoryRegion) where
  one_leaves : (m : IotlbMessage) (made : List TableEvent) (old new : Host B)
      → MadeOf number regions m made old new → AreLeftBy number made old.tables new.tables
  one_leaves m made old new by = elim by [
    | inl none ↦ (subst (λ (cs : List TableEvent). AreLeftBy number cs old.tables new.tables) (sym none.0)
        (same number old.tables new.tables (ap (λ (host : Host B). host.tables) none.1)))
    | inr one ↦ (subst (λ (cs : List TableEvent). AreLeftBy number cs old.tables new.tables) (sym one.made)
        (subst (λ (host : Host B). AreLeftBy number (one.call ∷ []) old.tables host.tables) (sym one.changes.left)
        (changed_own number one.call one.changes.before old.tables one.changes.there)))
  ]

  pub table_is_left : (ms : List IotlbMessage) (calls : List TableEvent) (old new : Host B) (t : Table)
      → Handles number regions ms calls old new → slice_get old.tables number ≡ Some t
      → slice_get new.tables number ≡ Some (changed_by calls t)
  table_is_left [] calls old new t h there =
      subst (λ (cs : List TableEvent). slice_get new.tables number ≡ Some (changed_by cs t)) (sym h.0) (h.1 ∙ there)
  table_is_left (m ∷ ms) calls old new t h there =
      let one = one_leaves m h.1 h.3 h.4 (made_of number regions m h.0 h.1 h.3 h.4 h.6) in
      let left = table_is_left ms h.2 h.4 new (changed_by h.1 t) h.8 (one.left t (h.5 ∙ there)) in
      subst (λ (cs : List TableEvent). slice_get new.tables number ≡ Some (changed_by cs t)) (sym h.7)
      (left ∙ ap (λ (u : Table). Some u) (sym (changed_by-append h.1 h.2 t)))

-- ---- which messages set what

abbrev Updated : List MemoryRegion → List IotlbMessage → ℕ → ℕ → ℕ → Permissions → Type 0
Updated regions ms iova to len perm = (user : ℕ) × IsAmong (Update iova len user perm) ms
    × (guest_of regions user len ≡ Some (record { 0 = to }))

module _ {B : Type 0} (number : ℕ) (regions : List MemoryRegion) where
  pub updates_are : (ms : List IotlbMessage) (calls : List TableEvent) (old new : Host B)
      (iova to len : ℕ) (perm : Permissions) → Handles number regions ms calls old new
      → IsAmong (table.Set iova to len perm) calls → Updated regions ms iova to len perm
  updates_are [] calls old new iova to len perm h among =
      absurd (subst (λ (cs : List TableEvent). IsAmong (table.Set iova to len perm) cs) h.0 among)
  updates_are (m ∷ ms) calls old new iova to len perm h among =
      first h.1 h.2 h.3 h.4 (made_of number regions m h.0 h.1 h.3 h.4 h.6)
      (λ there. updates_are ms h.2 h.4 new iova to len perm h.8 there)
      (subst (λ (cs : List TableEvent). IsAmong (table.Set iova to len perm) cs) h.7 among)
    where
      more : Updated regions ms iova to len perm → Updated regions (m ∷ ms) iova to len perm
      more u = (u.0, inr u.1, u.2)

      first : (made rest : List TableEvent) (before after : Host B) → MadeOf number regions m made before after
          → (IsAmong (table.Set iova to len perm) rest → Updated regions ms iova to len perm)
          → IsAmong (table.Set iova to len perm) (made ++ rest) → Updated regions (m ∷ ms) iova to len perm
      first made rest before after by later among = elim by [
        | inl none ↦ more (later
            (subst (λ (cs : List TableEvent). IsAmong (table.Set iova to len perm) (cs ++ rest)) none.0 among))
        | inr one ↦ elim (subst (λ (cs : List TableEvent). IsAmong (table.Set iova to len perm) (cs ++ rest)) one.made
            among) [
              | inl same ↦ (let u = one.set_by iova to len perm same in (u.0, inl u.1, u.2))
              | inr there ↦ more (later there)
            ]
      ]
