-- A start after all stores of a start.
use Rattle.std.proofs.Common.{◌≡◌, ℕ, ◌^◌, ◌<◌, Bool, true, false, List, [], ◌∷◌, ◌++◌, Option, Some, None, refl, sym, ap, ap₂, subst, ◌∙◌, inl, inr, arith}
use Rattle.std.proofs.lemmas.Bool.{cases_Bool, eq-eqb, eqb-true, le-ltb, not-false}
use Rattle.std.specs.Prelude.{◌==◌, map, nat_lt, not, if◌then◌else◌}
use Rattle.std.specs.List.{list_any}
use Rattle.vhost_inflight.specs.Split.{SplitRegion, changed, put}
use Rattle.vhost_inflight.specs.SplitStart.{IsInFlight, cleared, difference, entries_fault, fault, greatest, header_fault, or_else, returned, settled, settled_fault, start_stores}
use Rattle.vhost_inflight.specs.SplitAgain.{Settles, all_put}
use Rattle.vhost_inflight.specs.declared.split.SplitStore.{SplitStore}
use Rattle.vhost_inflight.specs.declared.split.SplitStore.TheVariants.{InFlight, UsedIdx, DescNum, Version}
use Rattle.vhost_inflight.specs.declared.split_region.SplitEntry.{SplitEntry}
use Rattle.vhost_inflight.specs.declared.split_start.StartError.{StartError}
use Rattle.vhost_inflight.specs.declared.split_start.StartError.TheVariants as refused
use Rattle.vhost_inflight.proofs.EntryLemmas.{any-changed}

all_put-cleared : (hs : List ℕ) (r : SplitRegion) (used : ℕ)
    → all_put r (map (λ h. InFlight h false) hs ++ UsedIdx used ∷ [])
    ≡ record r { used_idx = used; entries = cleared r.entries hs }
all_put-cleared [] r used = refl
all_put-cleared (h ∷ hs) r used = all_put-cleared hs (put r (InFlight h false)) used

pub any-cleared : (p : SplitEntry → Bool) → ((e : SplitEntry) → p (record e { in_flight = 0 }) ≡ false)
    → (hs : List ℕ) (es : List SplitEntry) → list_any p es ≡ false → list_any p (cleared es hs) ≡ false
any-cleared p off [] es none = none
any-cleared p off (h ∷ hs) es none =
    any-cleared p off hs (changed es h (λ e. record e { in_flight = 0 }))
    (any-changed p (λ e. record e { in_flight = 0 }) (λ e _. off e) es h none)

-- ---- what is not refused

pub first_none : (a b : Option StartError) → or_else a b ≡ None → a ≡ None
first_none None b none = refl
first_none (Some e) b none = none

pub second_none : (a b : Option StartError) → or_else a b ≡ None → b ≡ None
second_none None b none = none
second_none (Some e) b none = absurd cc

pub unless_none : (b : Bool) (e : StartError) (o : Option StartError) → (if b then Some e else o) ≡ None
    → (b ≡ false) × (o ≡ None)
unless_none true e o none = absurd cc
unless_none false e o none = (refl, none)

-- ---- a region with the ring's used index

record IsLevel (descriptors used : ℕ) (r new : SplitRegion) : Type 0 where
  pub version : new.version ≡ 1
  pub desc_num : new.desc_num ≡ descriptors
  pub head : new.last_batch_head ≡ r.last_batch_head
  pub index : new.used_idx ≡ used
  pub entries : new.entries ≡ settled r used

level_settles : (descriptors size used : ℕ) (r new : SplitRegion) → used < 2 ^ 16
    → fault descriptors size r used ≡ None → IsLevel descriptors used r new → Settles descriptors size used r new
level_settles descriptors size used r new small none s =
    let even : difference used new.used_idx ≡ 0 = rw s.index (omega arith) in
    let nothing : returned new used ≡ [] = rw (s.version, even) refl in
    let same : settled new used ≡ new.entries = ap (λ (hs : List ℕ). cleared new.entries hs) nothing in
    let found : settled new used ≡ settled r used = same ∙ s.entries in
    let header : header_fault descriptors size new used ≡ None =
    rw s.version (rw (s.desc_num, eq-eqb descriptors descriptors refl)
    (rw even (rw (le-ltb size 0 (omega arith)) refl))) in
    let rest : entries_fault size r.entries (settled r used) ≡ None =
    second_none (header_fault descriptors size r used) (entries_fault size r.entries (settled r used)) none in
    let parts = unless_none (list_any (λ e. nat_lt 1 e.in_flight) r.entries) _ (settled_fault size (settled r used)) rest in
    let marks : list_any (λ e. nat_lt 1 e.in_flight) new.entries ≡ false =
    rw s.entries (any-cleared (λ e. nat_lt 1 e.in_flight) (λ e. refl) (returned r used) r.entries parts.0) in
    let later : settled_fault size (settled new used) ≡ None =
    subst (λ (es : List SplitEntry). settled_fault size es ≡ None) (sym found) parts.1 in
    record {
      version = s.version;
      index = s.index;
      marked = λ heads. (
        (λ f. subst (λ (es : List SplitEntry). IsInFlight es heads) (sym s.entries) f),
        (λ f. subst (λ (es : List SplitEntry). IsInFlight es heads) s.entries f),
      );
      again = λ heads. (
        (λ f. subst (λ (es : List SplitEntry). IsInFlight es heads) (sym found) f),
        (λ f. subst (λ (es : List SplitEntry). IsInFlight es heads) found f),
      );
      accepted = rw header (rw marks later);
      nothing = rw s.version (rw (eq-eqb new.used_idx used s.index) refl);
      kept = ap₂
          (λ (h : ℕ) (es : List SplitEntry). record { last_batch_head = h; count = greatest es })
          s.head found;
    }

pub start_settles : (descriptors size used : ℕ) (r : SplitRegion) → used < 2 ^ 16
    → fault descriptors size r used ≡ None
    → Settles descriptors size used r (all_put r (start_stores descriptors r used))
start_settles descriptors size used r small none =
    let head : header_fault descriptors size r used ≡ None =
    first_none (header_fault descriptors size r used) (entries_fault size r.entries (settled r used)) none in
    let P : List SplitStore → Type 0 = λ stores. IsLevel descriptors used r (all_put r stores) in
    level_settles descriptors size used r (all_put r (start_stores descriptors r used)) small none
    (elim (cases_Bool (r.version == 0)) [
      | inl fresh ↦
          let stores : start_stores descriptors r used ≡ DescNum descriptors ∷ UsedIdx used ∷ Version 1 ∷ [] =
          rw fresh refl in
          subst P (sym stores) (record {
            version = refl;
            desc_num = refl;
            head = refl;
            index = refl;
            entries = rw fresh refl;
          })
      | inr written ↦
          let first = unless_none (not (r.version == 1)) refused.Version _ (rw written at head) in
          let version : r.version ≡ 1 = eqb-true r.version 1 (not-false (r.version == 1) first.0) in
          let second = unless_none (not (r.desc_num == descriptors)) refused.DescNum _ first.1 in
          let desc_num : r.desc_num ≡ descriptors =
          eqb-true r.desc_num descriptors (not-false (r.desc_num == descriptors) second.0) in
          elim (cases_Bool (r.used_idx == used)) [
            | inl even ↦
                let stores : start_stores descriptors r used ≡ [] = rw (written, even) refl in
                let index : r.used_idx ≡ used = eqb-true r.used_idx used even in
                let none : difference used r.used_idx ≡ 0 = rw index (omega arith) in
                subst P (sym stores) (record {
                  version = version;
                  desc_num = desc_num;
                  head = refl;
                  index = index;
                  entries = rw (written, none) refl;
                })
            | inr behind ↦
                let stores : start_stores descriptors r used
                ≡ map (λ h. InFlight h false) (returned r used) ++ UsedIdx used ∷ [] = rw (written, behind) refl in
                let new : all_put r (start_stores descriptors r used)
                ≡ record r { used_idx = used; entries = settled r used } =
                ap (all_put r) stores ∙ all_put-cleared (returned r used) r used in
                subst (IsLevel descriptors used r) (sym new) (record {
                  version = version;
                  desc_num = desc_num;
                  head = refl;
                  index = refl;
                  entries = refl;
                })
          ]
    ])
