use Rattle.std.proofs.Common.{◌≡◌, ◌+◌, ◌-◌, ◌++◌, ◌<◌, ◌∷◌, ◌∙◌, [], List, ℕ, ap, arith, get_or, length, map, sym, take}
use Rattle.std.proofs.lemmas.List.{map_more}
use Rattle.std.proofs.lemmas.List.Sums.{sum_by_more}
use Rattle.vhost_inflight.specs.PackedStart.{again_of, chain_of, num_of}
use Rattle.vhost_inflight.specs.declared.packed_region.PackedCopy.{PackedCopy}
use Rattle.vhost_inflight.specs.declared.packed_region.PackedEntry.{PackedEntry}
use Rattle.vhost_inflight.specs.declared.packed_start.PackedAgain.{PackedAgain}
use Rattle.vhost_inflight.proofs.PackedStartLemmas.{chains-more, flat_map-more}
use Rattle.vhost_inflight.proofs.packed_start.take_up.Goals as goal

pub loop-head-preserved : goal.loop-head-preserved
loop-head-preserved c =
    let es : List PackedEntry = c.args.entries.now in
    let heads : List ℕ = c.args.heads.now in
    let i : ℕ = c.loop-head.head-index in
    let head : ℕ = get_or heads i 0 in
    let room : ℕ = c.loop-head.room in
    let left : ℕ = c.in_ok-left.left in
    let l : i < length heads = omega arith in
    let ok = c.in_ok-left.ensures.ok in
    let fits : left + num_of es head ≡ room = ok.1 in
    let number : room - left ≡ num_of es head = omega arith in
    let before : List PackedAgain = c.loop-head.again.items in
    let pushed : c.push.new.self.items ≡ before ++ record { head = head; len = room - left } ∷ [] =
    c.in_default.ensures.items in
    let more = sum_by_more (num_of es) heads i 0 l in
    record {
      fault = c.loop-head.invariant.fault
          ∙ chains-more es c.loop-head.seen c.take_chain.new.seen room left heads i l ok.0 ok.2 fits;
      again = pushed
          ∙ (ap (λ (xs : List PackedAgain). xs ++ record { head = head; len = room - left } ∷ []) c.loop-head.invariant.again
          ∙ (ap (λ (n : ℕ). map (again_of es) (take i heads) ++ record { head = head; len = n } ∷ []) number
          ∙ sym (map_more (again_of es) heads i 0 l)));
      copies = ok.3
          ∙ (ap (λ (ds : List PackedCopy). ds ++ chain_of es head) c.loop-head.invariant.copies
          ∙ sym (flat_map-more (chain_of es) heads i l));
      slots = let before = c.loop-head.invariant.slots in omega arith;
    }
