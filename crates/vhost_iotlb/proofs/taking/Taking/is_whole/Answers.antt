use Rattle.std.proofs.Common.{◌≡◌, ◌≤◌, List, ℕ, length, ap, sym, ◌∙◌, arith}
use Rattle.std.proofs.lemmas.Bool.{le-leb, leb-true}
use Rattle.vhost_iotlb.specs.Taking.{TakingState, left}
use Rattle.vhost_iotlb.specs.declared.taking.Want.{Want}
use Rattle.vhost_iotlb.proofs.TakingLemmas.{nothing_left, some_left}
use Rattle.vhost_iotlb.proofs.taking.Taking.is_whole.Goals as goal

pub returns : goal.returns
returns c =
    let i = c.self.inside in
    let first : List Want × ℕ → List Want = λ p. p.0 in
    let same : (left i.wants.items 0 i.kept.items).0 ≡ (left c.args.self.now.wants 0 c.args.self.now.kept).0 =
    ap (λ (s : TakingState). (left s.wants 0 s.kept).0) c.self.view_is in (
      λ t.
          let past : c.len.result ≤ i.next = leb-true c.len.result i.next t in
          sym same
          ∙ ap first (nothing_left i.wants.items i.next i.from i.kept.items c.self.invariant (omega (arith, past))),
      λ none.
          let past : length i.wants.items ≤ i.next =
          some_left i.wants.items i.next i.from i.kept.items c.self.invariant (same ∙ none) in
          le-leb c.len.result i.next (omega (arith, past)),
    )
