use Rattle.std.proofs.Common.{◌≡◌, ◌⊎◌, ℕ, [], ap, arith, inl, inr, length, replicate, subst}
use Rattle.std.proofs.lemmas.List.{length-replicate}
use Rattle.vm_memory_guest.specs.Host.{Host}
use Rattle.live_migration.proofs.BareLemmas.{bare_made}
use Rattle.live_migration.proofs.receiver.destination.Destination.begin.Goals as goal

pub invariant_of-result : goal.invariant_of-result
invariant_of-result g c =
    let seen = c.in-Ok.receiver.seen in
    let entries = seen.entries.items in
    let offsets = c.first_offsets-bare.result.items in
    let begun = c.in-Ok.ensures.begun in
    let count : c.len.result ≡ length entries = omega (arith, c.len.ensures) in
    let are : (offsets ≡ replicate (length entries) 0) ⊎ (offsets ≡ []) =
    subst (λ (n : ℕ). (offsets ≡ replicate n 0) ⊎ (offsets ≡ [])) count c.first_offsets-bare.ensures in
    record {
      bare_blocks = elim are [
        | inl zeros ↦ omega (arith, ap length zeros, length-replicate {A = ℕ} (length entries) 0)
        | inr none ↦ omega (arith, ap length none)
      ];
      bare_is = bare_made seen.base entries offsets c.args.host.blocks c.begin.new.host
          (ap (λ (h : Host g.row.B.Denot). h.blocks) begun.blocks.is) begun.base are;
    }
