use Rattle.std.proofs.Common.{◌≡◌, ◌+◌, ◌-◌, ◌^◌, ◌<◌, ◌++◌, ℕ, true, false, List, [], ◌∷◌, Option, Some, None, refl, ap, sym, subst}
use Rattle.std.specs.Prelude.{IfSome, slice_get}
use Rattle.std.proofs.lemmas.List.Elements.{All-nil}
use Rattle.vm_memory_base.specs.Table.{Table, says}
use Rattle.vm_memory_base.specs.declared.iotlb.Permissions.{Permissions}
use Rattle.vm_memory_base.specs.declared.iotlb.Permissions.TheVariants.{ReadWrite}
use Rattle.vm_memory_guest.specs.Access.{Reached}
use Rattle.vm_memory_device.specs.Reach.{reached_by}
use Rattle.vhost_iotlb.specs.Changes.{Handles}
use Rattle.vhost_iotlb.specs.Invalidation.{unmaps, updates}
use Rattle.vhost_message.specs.declared.iotlb.IotlbMessage.{IotlbMessage}
use Rattle.vhost_message.specs.declared.iotlb.IotlbMessage.TheVariants.{Invalidate, Update}
use Rattle.tests_iotlb.proofs.witnesses.map_and_take_back.Goals as goal

-- what holds of any value that there is holds of it, if there is one
of_some : (o : Option Table) (P : Table → Type 0) → ((t : Table) → o ≡ Some t → P t) → IfSome o P
of_some None P f = tt
of_some (Some t) P f = f t refl

-- both messages came, and writes before and after the second
pub returns-clause-came : goal.returns-clause-came
returns-clause-came g c =
    let n = c.args.device.now.table.0 in
    let regions = c.args.device.now.memory in
    let one = c.apply-applied.ensures.applied in
    let two = c.apply-taken_back.ensures.applied in
    let kept = ap (λ (ts : List Table). slice_get ts n) c.write.ensures in
    let kept_too = ap (λ (ts : List Table). slice_get ts n) c.write-2.ensures in
    let update = Update c.args.iova c.args.size c.args.user_address ReadWrite in
    let back = Invalidate c.args.iova c.args.size in
    let calls = one.0 ++ (two.0 ++ []) in
    let came : Handles n regions (update ∷ back ∷ []) calls c.args.host.now c.write-2.new.host = (
      c.apply-applied.result,
      one.0,
      two.0 ++ [],
      c.args.host.now,
      c.apply-applied.new.host,
      refl,
      one.1,
      refl,
      (
        c.apply-taken_back.result,
        two.0,
        [],
        c.write.new.host,
        c.apply-taken_back.new.host,
        kept,
        two.1,
        refl,
        (refl, kept_too),
      ),
    ) in
    (calls, came, λ at to len perm among. c.ranges_are_set_for_updates.ensures n regions (update ∷ back ∷ []) calls c.args.host.now c.write-2.new.host at to len perm came among)

pub returns-clause-missed : goal.returns-clause-missed
returns-clause-missed g c =
    let came = returns-clause-came g c in
    let n = c.args.device.now.table.0 in
    let new = c.write-2.new.host in
    let update = Update c.args.iova c.args.size c.args.user_address ReadWrite in
    let P : Table → Type 0 = λ t. (x : ℕ) → x < 2 ^ 64 - 1 → unmaps c.args.iova c.args.size x ≡ true
    → (u : Table) × (slice_get new.tables n ≡ Some u) × (says u x ≡ None) in
    of_some (slice_get c.args.host.now.tables n) P (λ t there x below unmapped.
    c.invalidated_addresses_are_missed.ensures.missed n x c.args.iova c.args.size c.args.device.now.memory
    (update ∷ []) [] came.0 c.args.host.now new t came.1 there below unmapped
    (All-nil (λ (m : IotlbMessage). updates x m ≡ false)))

pub returns-clause-unreached : goal.returns-clause-unreached
returns-clause-unreached g c = λ m b behind is.
    let came = returns-clause-came g c in
    let regions = c.args.device.now.memory in
    let old = c.args.host.now in
    let new = c.write-2.new.host in
    let update = Update c.args.iova c.args.size c.args.user_address ReadWrite in
    let back = Invalidate c.args.iova c.args.size in
    let handled : Handles b.table regions (update ∷ back ∷ []) came.0 old new =
    subst (λ (n : ℕ). Handles n regions (update ∷ back ∷ []) came.0 old new) (sym is) came.1 in
    let P : Table → Type 0 = λ t. (a n i : ℕ) (access : Permissions) (x : Reached) → a + i < 2 ^ 64 - 1
    → unmaps c.args.iova c.args.size (a + i) ≡ true
    → slice_get (reached_by m new.tables a n access).path i ≡ Some x → ⊥ in
    of_some (slice_get old.tables b.table) P (λ t there a n i access x below unmapped found.
    c.invalidated_addresses_are_missed.ensures.unreached a n i c.args.iova c.args.size regions (update ∷ []) []
    came.0 old new m b t access x handled behind there below unmapped
    (All-nil (λ (o : IotlbMessage). updates (a + i) o ≡ false)) found)
