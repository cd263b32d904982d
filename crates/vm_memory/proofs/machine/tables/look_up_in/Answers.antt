use Rattle.std.proofs.Common.{◌≡◌, ◌∙◌, ℕ, [], inl, refl, sym, ap, subst}
use Rattle.vm_memory_base.specs.Runs.{runs}
use Rattle.vm_memory_base.specs.Table.{Says, says}
use Rattle.vm_memory_base.specs.declared.iotlb.Permissions.{Permissions}
use Rattle.vm_memory.specs.Tables.{looks_up}
use Rattle.vm_memory.specs.declared.machine.command.Reply.TheVariants as reply
use Rattle.vm_memory.proofs.machine.tables.look_up_in.Goals as goal

-- a look-up of no address is allowed, and has no piece
no_pieces : (f : Says) (a n : ℕ) (access : Permissions) → n ≡ 0 → looks_up f a n access ≡ reply.Pieces []
unfolding runs
no_pieces f a n access none = subst (λ (k : ℕ). looks_up f a k access ≡ reply.Pieces []) (sym none) refl

pub returns-in-Ok : goal.returns-in-Ok
returns-in-Ok g c =
    let listed = c.from_vec.ensures ∙ c.new.ensures.items in
    let none = no_pieces (says c.table.result.now) c.args.iova.0 c.args.len c.args.access c.if-len-eq0.true in
    (c.table.result.now, c.table.ensures, inl (ap reply.Pieces listed ∙ sym none))
