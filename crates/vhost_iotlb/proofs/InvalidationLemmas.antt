-- After an INVALIDATE of an address, and no UPDATE of it since, a table misses it.
use Rattle.std.proofs.Common.{◌≡◌, Bool, true, false, cond, ◌||◌, ℕ, ◌+◌, ◌-◌, ◌^◌, ◌<◌, ◌≤◌, min, is_err, List, [], ◌∷◌, ◌++◌, map, length, slice_get, Option, Some, None, Result, Ok, Err, refl, sym, ap, subst, ◌∙◌, inl, inr, arith}
use Rattle.std.proofs.Math.Nat.{le-min}
use Rattle.std.proofs.lemmas.Bool.Decides.{nat_tests}
use Rattle.std.proofs.lemmas.List.Elements.{All-head, All-tail}
use Rattle.std.proofs.lemmas.Option.{slice_get_within}
use Rattle.std.specs.List.{All}
use Rattle.vm_memory_base.specs.Address.{is_within}
use Rattle.vm_memory_base.specs.Runs.{AddressRun}
use Rattle.vm_memory_base.specs.Table as table
use Rattle.vm_memory_base.specs.Table.{Mapping, Table, TableEvent, canonical_list, changed, eviction, events, events_of, evicted, says, says_after, says_after_all}
use Rattle.vm_memory_base.specs.declared.iotlb.Permissions.{Permissions}
use Rattle.vm_memory_guest.specs.Host.{Host}
use Rattle.vhost_iotlb.specs.Changes.{Applies, DoneFor, Handles, MayWant, invalidate, invalidated, named}
use Rattle.vhost_iotlb.specs.Invalidation.{unmaps, updates}
use Rattle.vhost_message.specs.declared.refusal.Malformed.{Malformed}
use Rattle.vhost_message.specs.declared.iotlb.IotlbMessage.{IotlbMessage}
use Rattle.vhost_message.specs.declared.iotlb.IotlbMessage.TheVariants.{Update, Invalidate}
use Rattle.vhost_iotlb.specs.declared.table.Refusal.{Refusal}
use Rattle.vhost_iotlb.specs.declared.table.Refusal.TheVariants as refusal
use Rattle.vhost_message.specs.declared.regions.MemoryRegion.{MemoryRegion}
use Rattle.vhost_iotlb.proofs.CallLemmas.{IsCall, MadeOf, made_of, takes_by}

-- ---- events that leave an address without a mapping

abbrev nothing : Option Mapping
nothing = None

-- what is not said is no mapping
pub unsaid : (m : Mapping) → nothing ≡ Some m → ⊥
unsaid m e = cc

none_or_none : (b : Bool) → cond b nothing nothing ≡ nothing
none_or_none true = refl
none_or_none false = refl

after_both : (es fs : List TableEvent) (x : ℕ) (said : Option Mapping)
    → says_after_all (es ++ fs) x said ≡ says_after_all fs x (says_after_all es x said)
after_both [] fs x said = refl
after_both (e ∷ es) fs x said = after_both es fs x (says_after e x said)

after_evictions : (rs : List (AddressRun Mapping)) (x : ℕ) → says_after_all (map eviction rs) x nothing ≡ nothing
after_evictions [] x = refl
after_evictions (r ∷ rs) x =
    ap (λ (o : Option Mapping). says_after_all (map eviction rs) x o) (none_or_none (is_within r.start r.len x))
    ∙ after_evictions rs x

-- a call leaves an address unmapped, whatever was said of it
after_call : (call : TableEvent) (t : Table) (x : ℕ) (said : Option Mapping) → says_after call x said ≡ None
    → says_after_all (events call t) x said ≡ None
after_call call t x said none =
    let rs = evicted call t.limit (canonical_list (λ (y : ℕ). says_after call y (says t y))) in
    ap (λ (o : Option Mapping). says_after_all (map eviction rs) x o) none ∙ after_evictions rs x

-- calls that map an address to nothing where it was mapped to nothing
abbrev Spare : ℕ → List TableEvent → Type 0
Spare x [] = Unit {0}
Spare x (call ∷ calls) = (says_after call x None ≡ None) × Spare x calls

after_calls : (calls : List TableEvent) (t : Table) (x : ℕ) → Spare x calls
    → says_after_all (events_of calls t) x None ≡ None
after_calls [] t x spare = refl
after_calls (call ∷ calls) t x spare =
    after_both (events call t) (events_of calls (changed call t)) x None
    ∙ ap (λ (o : Option Mapping). says_after_all (events_of calls (changed call t)) x o)
    (after_call call t x None spare.0)
    ∙ after_calls calls (changed call t) x spare.1

-- ---- messages that do

module _ (number : ℕ) (regions : List MemoryRegion) (x : ℕ) where
  spares : (m : IotlbMessage) (call : TableEvent) → IsCall call → updates x m ≡ false
      → ((iova to len : ℕ) (perm : Permissions) → call ≡ table.Set iova to len perm
      → (user : ℕ) × (m ≡ Update iova len user perm))
      → says_after call x None ≡ None
  spares m (table.Set iova to len perm) is off set =
      let u = set iova to len perm refl in
      let out : is_within iova len x ≡ false = sym (ap (updates x) u.1) ∙ off in
      rw out refl
  spares m (table.Invalidate iova len) is off set = none_or_none (is_within iova len x)
  spares m table.InvalidateAll is off set = refl
  spares m (table.Evict iova len) is off set = absurd is

  later_spare : {B : Type 0} (ms : List IotlbMessage) (calls : List TableEvent) (old new : Host B)
      → Handles number regions ms calls old new → All (λ m. updates x m ≡ false) ms → Spare x calls
  later_spare {B} [] calls old new h off = subst (λ (cs : List TableEvent). Spare x cs) (sym h.0) tt
  later_spare {B} (m ∷ ms) calls old new h off =
      let later = later_spare ms h.2 h.4 new h.8 (All-tail (λ (n : IotlbMessage). updates x n ≡ false) m ms off) in
      subst (λ (cs : List TableEvent). Spare x cs) (sym h.7)
      (first h.1 h.2 h.3 h.4 (made_of number regions m h.0 h.1 h.3 h.4 h.6) later)
    where
      first : (made rest : List TableEvent) (before after : Host B) → MadeOf number regions m made before after
          → Spare x rest → Spare x (made ++ rest)
      first made rest before after by later = elim by [
        | inl none ↦ subst (λ (cs : List TableEvent). Spare x (cs ++ rest)) (sym none.0) later
        | inr one ↦ (subst (λ (cs : List TableEvent). Spare x (cs ++ rest)) (sym one.made) (
          spares m one.call one.is_call (All-head (λ (n : IotlbMessage). updates x n ≡ false) m ms off)
              (λ iova to len perm is. let u = one.set_by iova to len perm is in (u.0, u.1)),
          later,
        ))
      ]

  -- ---- an INVALIDATE of it

  -- calls of which the first unmaps an address
  abbrev pub Unmap : List TableEvent → Type 0
  Unmap [] = ⊥
  Unmap (call ∷ calls) = (said : Option Mapping) → says_after call x said ≡ None

  within : (iova size len : ℕ) → len ≡ min (named iova size) (2 ^ 64 - 1 - iova) → iova < 2 ^ 64 → x < 2 ^ 64 - 1
      → is_within iova (named iova size) x ≡ true → is_within iova len x ≡ true
  within iova size len enough starts fits is =
      let first : iova ≤ x = grind (arith, nat_tests) in
      let near : x < iova + named iova size = grind (arith, nat_tests) in
      let least : x - iova + 1 ≤ min (named iova size) (2 ^ 64 - 1 - iova) =
      le-min (omega (arith, first, near)) (omega (arith, first, fits)) in
      let inside : x < iova + len = omega (arith, first, enough, least) in
      grind (arith, nat_tests)

  called : (iova size : ℕ) (wanted call : TableEvent) → invalidate iova (invalidated iova size) ≡ Ok wanted
      → DoneFor wanted call → x < 2 ^ 64 - 1 → unmaps iova size x ≡ true
      → (said : Option Mapping) → says_after call x said ≡ None
  called iova size wanted call e done fits is said =
      let t = takes_by iova size wanted e in
      let names : is_within iova (named iova size) x ≡ true =
      sym (ap (λ (r : Result ℕ Malformed). is_err r || is_within iova (named iova size) x) t.fine) ∙ is in
      let there = within iova size t.len t.enough t.starts fits names in
      elim (subst (λ (w : TableEvent). DoneFor w call) t.is done) [
        | inl same ↦ (ap (λ (c : TableEvent). says_after c x said) same
            ∙ ap (λ (b : Bool). cond b None said) there)
        | inr all ↦ ap (λ (c : TableEvent). says_after c x said) all
      ]

  no_want : (iova : ℕ) (r : Result ℕ Malformed) → MayWant (invalidate iova r) → ⊥
  no_want iova (Ok len) want = want
  no_want iova (Err e) want = want

  no_user : (iova : ℕ) (r : Result ℕ Malformed) → invalidate iova r ≡ Err refusal.UserAddress → ⊥
  no_user iova (Ok len) is = absurd cc
  no_user iova (Err e) is = absurd cc

  taken : {B : Type 0} (iova size : ℕ) (answer : Result (Unit {0}) Refusal) (calls : List TableEvent) (old new : Host B)
      (t : Table) → Applies number regions (Invalidate iova size) answer calls old new
      → slice_get old.tables number ≡ Some t → x < 2 ^ 64 - 1 → unmaps iova size x ≡ true → Unmap calls
  taken iova size (Ok done) calls old new t by there fits is =
      subst Unmap (sym by.made) (called iova size by.wanted by.call by.is_asked by.done_for fits is)
  taken iova size (Err (refusal.Malformed e)) calls old new t by there fits is =
      subst Unmap (sym by.1.0) (λ said. refl)
  taken iova size (Err refusal.UserAddress) calls old new t by there fits is =
      absurd (no_user iova (invalidated iova size) by.0)
  taken iova size (Err refusal.Memory) calls old new t by there fits is =
      absurd (no_want iova (invalidated iova size) by.0)
  taken iova size (Err refusal.NoTable) calls old new t by there fits is =
      let inside : number < length old.tables = slice_get_within old.tables number t there in
      absurd (omega (arith, inside, by.0))

  unmapped : (first rest : List TableEvent) (t : Table) (said : Option Mapping) → Unmap first → length first ≤ 1
      → Spare x rest → says_after_all (events_of (first ++ rest) t) x said ≡ None
  unmapped [] rest t said none one spare = absurd none
  unmapped (call ∷ []) rest t said none one spare =
      after_both (events call t) (events_of rest (changed call t)) x said
      ∙ ap (λ (o : Option Mapping). says_after_all (events_of rest (changed call t)) x o)
      (after_call call t x said (none said))
      ∙ after_calls rest (changed call t) x spare
  unmapped (call ∷ other ∷ calls) rest t said none one spare = absurd (omega arith)

  at_most_one : {B : Type 0} (m : IotlbMessage) (made : List TableEvent) (old new : Host B)
      → MadeOf number regions m made old new → length made ≤ 1
  at_most_one m made old new by = elim by [
    | inl none ↦ subst (λ (cs : List TableEvent). length cs ≤ 1) (sym none.0) (omega arith)
    | inr one ↦ subst (λ (cs : List TableEvent). length cs ≤ 1) (sym one.made) (omega arith)
  ]

  -- an INVALIDATE and what comes after it
  pub none_after : {B : Type 0} (iova size : ℕ) (later : List IotlbMessage) (calls : List TableEvent) (old new : Host B)
      (t : Table) → Handles number regions (Invalidate iova size ∷ later) calls old new
      → slice_get old.tables number ≡ Some t → x < 2 ^ 64 - 1 → unmaps iova size x ≡ true
      → All (λ m. updates x m ≡ false) later → (said : Option Mapping)
      → says_after_all (events_of calls t) x said ≡ None
  none_after iova size later calls old new t h there fits is off said =
      subst (λ (cs : List TableEvent). says_after_all (events_of cs t) x said ≡ None) (sym h.7)
      (unmapped h.1 h.2 t said (taken iova size h.0 h.1 h.3 h.4 t h.6 (h.5 ∙ there) fits is)
      (at_most_one (Invalidate iova size) h.1 h.3 h.4
      (made_of number regions (Invalidate iova size) h.0 h.1 h.3 h.4 h.6))
      (later_spare later h.2 h.4 new h.8 off))

-- ---- messages in two parts

pub record Parts {B : Type 0} (number : ℕ) (regions : List MemoryRegion) (ms ns : List IotlbMessage)
    (old new : Host B) : Type 0 where
  pub mid : Host B
  pub first : List TableEvent
  pub rest : List TableEvent
  pub before : Handles number regions ms first old mid
  pub after : Handles number regions ns rest mid new

pub parts : {B : Type 0} (number : ℕ) (regions : List MemoryRegion) (ms ns : List IotlbMessage) (calls : List TableEvent)
    (old new : Host B) → Handles number regions (ms ++ ns) calls old new → Parts number regions ms ns old new
parts number regions [] ns calls old new h =
    record { mid = old; first = []; rest = calls; before = (refl, refl); after = h }
parts number regions (m ∷ ms) ns calls old new h =
    let p = parts number regions ms ns h.2 h.4 new h.8 in
    record {
      mid = p.mid;
      first = h.1 ++ p.first;
      rest = p.rest;
      before = (h.0, h.1, p.first, h.3, h.4, h.5, h.6, refl, p.before);
      after = p.after;
    }
