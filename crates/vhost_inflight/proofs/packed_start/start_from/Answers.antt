use Rattle.std.proofs.Common.{◌∙◌, List, ap, inl, inr, length, sym, subst, ℕ}
use Rattle.vhost_inflight.specs.Packed.{PackedRegion}
use Rattle.vhost_inflight.specs.PackedStart.{IsInFlight}
use Rattle.vhost_inflight.specs.declared.packed_region.PackedEntry.{PackedEntry}
use Rattle.vhost_inflight.proofs.PackedStartLemmas.{length-free_seen, length-settled, start_fails}
use Rattle.vhost_inflight.proofs.packed_start.start_from.Goals as goal

pub in_order-requires : goal.in_order-requires
in_order-requires c =
    let r : PackedRegion = record { header = c.args.header; entries = c.args.entries.items } in
    ap length (c.deref.ensures.value ∙ c.in_ok-opened.ensures.ok.entries)
    ∙ (length-settled r c.args.base c.args.flags ∙ c.requires)

pub take_up-requires : goal.take_up-requires
take_up-requires c =
    let r : PackedRegion = record { header = c.args.header; entries = c.args.entries.items } in
    ap length (c.deref_mut.ensures.value ∙ c.in_ok-seen.ensures)
    ∙ (length-free_seen c.args.descriptors c.deref-2.result.now
    ∙ sym (ap length (c.deref-3.ensures.value ∙ c.in_ok-opened.ensures.ok.entries)
    ∙ (length-settled r c.args.base c.args.flags ∙ c.requires)))

pub returns-in-Err-clause-err : goal.returns-in-Err-clause-err
returns-in-Err-clause-err c =
    let r : PackedRegion = record { header = c.args.header; entries = c.args.entries.items } in
    elim c.in-Err.ensures.err [
      | inl memory ↦ inl memory
      | inr is ↦ inr (start_fails c.args.descriptors c.args.size r c.args.base c.args.flags c.in_ok-opened.opened
          c.deref-4.result.now c.deref-3.result.now c.deref_mut.result.now c.deref-2.result.now _
          c.in_ok-opened.ensures.ok c.deref-3.ensures.value
          (subst (λ (es : List PackedEntry). IsInFlight es c.deref-4.result.now)
          (c.deref.ensures.value ∙ sym c.deref-3.ensures.value)
          (subst (λ (hs : List ℕ). IsInFlight c.deref.result.now hs) (sym c.deref-4.ensures.value) c.in_ok-heads.ensures))
          (c.deref_mut.ensures.value ∙ c.in_ok-seen.ensures) c.deref-2.ensures.value is)
    ]
