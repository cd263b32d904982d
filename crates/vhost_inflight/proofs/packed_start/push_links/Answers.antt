use Rattle.std.proofs.Common.{◌≡◌, ◌+◌, ◌-◌, ◌++◌, ◌∷◌, ◌∙◌, [], List, ap, arith, sym}
use Rattle.std.proofs.lemmas.List.{append_assoc}
use Rattle.vhost_inflight.specs.PackedStart.{link_stores}
use Rattle.vhost_inflight.specs.declared.packed.PackedStore.{PackedStore}
use Rattle.vhost_inflight.specs.declared.packed.PackedStore.TheVariants.{Next}
use Rattle.vhost_inflight.proofs.PackedStartLemmas.{link_stores-step}
use Rattle.vhost_inflight.proofs.packed_start.push_links.Goals as goal

pub loop-index-preserved : goal.loop-index-preserved
loop-index-preserved c =
    let i = c.loop-index.index in
    let stores : List PackedStore = c.loop-index.stores.items in
    let rest : List PackedStore = link_stores (i + 1) (c.args.descriptors - (i + 1)) in
    let pushed : c.push.new.self.items ≡ stores ++ Next i (i + 1) ∷ [] = c.in_ok-push.ensures.items in
    c.loop-index.invariant
    ∙ (ap (λ (xs : List PackedStore). stores ++ xs) (link_stores-step c.args.descriptors i (omega arith))
    ∙ (sym (append_assoc stores (Next i (i + 1) ∷ []) rest)
    ∙ ap (λ (xs : List PackedStore). xs ++ rest) (sym pushed)))
