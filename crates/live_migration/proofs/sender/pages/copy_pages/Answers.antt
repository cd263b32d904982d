use Rattle.std.proofs.Common.{◌≡◌, ◌+◌, ◌*◌, ◌≤◌, List, ℕ, ap, ◌∙◌, ◌-◌, arith, drop, le_refl, length, subst, sym, take}
use Rattle.std.proofs.Math.Seq.{take-add}
use Rattle.std.proofs.lemmas.Bool.{eqb-false}
use Rattle.std.proofs.lemmas.List.{length-drop, length-take, take-take, take_rest}
use Rattle.std.proofs.lemmas.Nat.{mul-le}
use Rattle.live_migration.specs.Sending.{CopiesRuns}
use Rattle.live_migration.proofs.RunLemmas.{copied_more, still_short}
use Rattle.live_migration.proofs.sender.pages.copy_pages.Goals as goal

pub loop-preserved : goal.loop-preserved
loop-preserved c =
    let size = c.args.page_size in
    let number = c.args.number in
    let bytes = c.args.bytes.now in
    let pages = c.args.pages.now in
    let at = c.loop.at in
    let count = c.in-Ok.count in
    let rest = take (length pages - at) (drop at pages) in
    let room = c.room_for-room.result in
    let old = c.args.batch.now.items in
    let mid = c.loop.batch.items in
    let new = c.copy_first.new.batch.items in
    let rest_len : length rest ≡ length pages - at = ap length (take_rest pages at) ∙ length-drop at pages in
    let some_len = length-take c.min.result rest in
    let few = c.in-Ok.ensures.count in
    let none : length (take c.min.result rest) ≡ 0 → ⊥ =
    eqb-false _ _ (sym c.is_empty.ensures ∙ c.if-is_empty.false) in
    let within = c.loop.invariant.within in
    let budget = c.room_for-room.ensures.pages in
    let fits : (at + count) * size ≤ (at + room) * size =
    mul-le (at + count) size (at + room) size (omega arith) (le_refl size) in
    let below : room * size ≤ (at + room) * size = mul-le room size (at + room) size (omega arith) (le_refl size) in
    let one : CopiesRuns size number bytes (take count (drop at pages)) mid new =
    subst (λ (ps : List ℕ). CopiesRuns size number bytes ps mid new)
    (take-take count c.min.result rest (omega arith) ∙ ap (take count) (take_rest pages at)) c.in-Ok.ensures.copied in
    record {
      within = omega arith;
      most = omega arith;
      copied = subst (λ (ps : List ℕ). CopiesRuns size number bytes ps old new) (sym (take-add at count pages))
          (copied_more size number bytes (take at pages) (take count (drop at pages)) old mid new c.loop.invariant.copied one);
      short = λ h. still_short c.len.result (length new) (length (take c.min.result rest)) room size
          (omega (arith, none)) (omega arith) (omega arith) c.room_for-room.ensures.bytes
          (omega (arith, c.in-Ok.ensures.len, c.len.ensures));
    }
