use Rattle.std.proofs.Common.{◌≡◌, ℕ, ◌<◌, List, length, true, Result, Ok, Err, MatchResult, inl, inr, sym, ap, subst, ◌∙◌, arith}
use Rattle.std.proofs.lemmas.List.{length-map}
use Rattle.vm_memory_base.specs.Change.{granted}
use Rattle.vm_memory_base.specs.Lookup.{Translates, RefusesTranslation, mapped_range, mapped_ranges}
use Rattle.vm_memory_base.specs.Table.{Table, Range, Says, says, is_allowed, pieces}
use Rattle.vm_memory_base.specs.declared.iotlb.IommuError.{IommuError}
use Rattle.vm_memory_base.specs.declared.iotlb.IommuError.TheVariants.{CannotResolve, Memory}
use Rattle.vm_memory_base.specs.declared.iotlb.Permissions.{Permissions}
use Rattle.vm_memory_base.specs.declared.iotlb.lookup.MappedRange.{MappedRange}
use Rattle.vm_memory_base.proofs.LookupLemmas.{looked_up, no_pieces, refused}
use Rattle.vm_memory_base.proofs.iotlb.table.Iotlb.resolve_parts.Goals as goal

pub returns-then-length-eq0 : goal.returns-then-length-eq0
returns-then-length-eq0 c =
    let none = no_pieces (says c.args.self.now) c.args.iova.0 c.args.access c.args.length c.if-length-eq0.true in
    (none.0, c.from_vec.ensures ∙ c.new-none.ensures.items ∙ sym (ap mapped_ranges none.1))

pub new-walk-requires : goal.new-walk-requires
new-walk-requires c =
    let there = c.asked-asked.ensures in
    (looked_up c.self.inside.ranges there.0 c.asked-asked.result there.1 there.2 c.self.invariant.0 c.args.iova.0
    c.args.length c.in-Some.end c.in-Some.ensures.1 (omega arith) c.in-Some.ensures.0 c.args.access there.3 there.4
    there.5 (ap (granted c.args.iova.0 c.in-Some.end c.args.access) (sym c.again.ensures) ∙ sym c.are_granted.ensures
    ∙ c.if-are_granted.true)).1

-- the pieces of a walk, as a list, or want of memory for them
resolved : (f : Says) (a n : ℕ) (access : Permissions) (walk : List Range)
    (r : Result (List MappedRange) IommuError) → is_allowed f a n access ≡ true → walk ≡ pieces f a n
    → MatchResult r (λ found. found ≡ mapped_ranges walk) (λ e. (1 < length (mapped_ranges walk)) × (e ≡ Memory))
    → MatchResult r (λ found. Translates f a n access found) (RefusesTranslation f a n access)
resolved f a n access walk (Ok found) allowed is h = (allowed, h ∙ ap mapped_ranges is)
resolved f a n access walk (Err e) allowed is h =
    inl (allowed, subst (λ (k : ℕ). 1 < k) (length-map walk mapped_range ∙ ap length is) h.0, h.1)

pub returns-then-are_granted : goal.returns-then-are_granted
returns-then-are_granted c =
    let there = c.asked-asked.ensures in
    let told = looked_up c.self.inside.ranges there.0 c.asked-asked.result there.1 there.2 c.self.invariant.0
    c.args.iova.0 c.args.length c.in-Some.end c.in-Some.ensures.1 (omega arith) c.in-Some.ensures.0 c.args.access
    there.3 there.4 there.5
    (ap (granted c.args.iova.0 c.in-Some.end c.args.access) (sym c.again.ensures) ∙ sym c.are_granted.ensures
    ∙ c.if-are_granted.true) in
    subst (λ (t : Table). MatchResult c.all_of.result
    (λ found. Translates (says t) c.args.iova.0 c.args.length c.args.access found)
    (RefusesTranslation (says t) c.args.iova.0 c.args.length c.args.access))
    c.self.view_is
    (resolved _ c.args.iova.0 c.args.length c.args.access c.new-walk.result c.all_of.result
    told.0 (c.new-walk.ensures ∙ told.2) c.all_of.ensures)

pub returns : goal.returns
returns c =
    let there = c.asked-asked.ensures in
    let told = refused c.self.inside.ranges there.0 c.asked-asked.result there.1 there.2 c.self.invariant.0
    c.args.iova.0 c.args.length c.in-Some.end c.in-Some.ensures.1 (omega arith) c.in-Some.ensures.0 c.args.access
    there.3 there.4 there.5
    (ap (granted c.args.iova.0 c.in-Some.end c.args.access) (sym c.again.ensures) ∙ sym c.are_granted.ensures
    ∙ c.if-are_granted.false) in
    subst (λ (t : Table). RefusesTranslation (says t) c.args.iova.0 c.args.length c.args.access
    (CannotResolve (record { base = c.args.iova; length = c.args.length }) c.why-reason.result))
    c.self.view_is
    (inr (
      told.0,
      ap (CannotResolve (record { base = c.args.iova; length = c.args.length }))
          (c.why-reason.ensures ∙ sym told.1),
    ))
