use Rattle.std.proofs.Common.{◌≡◌, ◌<◌, ℕ, zero, suc, List, [], ◌∷◌, length, take, Some, sym, ap, subst, ◌∙◌, arith}
use Rattle.std.specs.Global.{Vec}
use Rattle.std.specs.Prelude.{slice_get}
use Rattle.std.proofs.lemmas.Bool.{cond-true, eq-eqb}
use Rattle.vm_memory_base.specs.declared.bitmap.BitmapId.TheVariants.{Block}
use Rattle.vm_memory_guest.specs.Dirt.{with_pages}
use Rattle.vm_memory_guest.specs.Host.{Host, block_at}
use Rattle.vm_memory_guest.specs.Lent.{IsDirty}
use Rattle.live_migration.specs.Sending.{IsAsItWas, harvested}
use Rattle.live_migration.specs.declared.sender.pages.Target.{Target}
use Rattle.live_migration.specs.declared.sender.rounds.Rounds.{Rounds}
use Rattle.tests_migration.proofs.TargetLemmas.{first_is}
use Rattle.tests_migration.proofs.aborts.abort_early.Goals as goal

-- the first block was harvested
first_taken : (ts : List Target) (n : ℕ) (t : Target) → 0 < n → slice_get ts 0 ≡ Some t → slice_get (take n ts) 0 ≡ Some t
first_taken [] n t l e = absurd (cc)
first_taken (x ∷ xs) zero t l e = absurd (omega arith)
first_taken (x ∷ xs) (suc n) t l e = e

first_harvested : (r : Rounds) (t : Target) → r.round ≡ 0 → 0 < r.turn → slice_get r.targets.items 0 ≡ Some t
    → slice_get (harvested r) 0 ≡ Some t
first_harvested r t none some at =
    ap (λ (ts : List Target). slice_get ts 0) (cond-true _ _ _ (eq-eqb r.round 0 none))
    ∙ first_taken r.targets.items r.turn t some at

pub returns-clause-bytes : goal.returns-clause-bytes
returns-clause-bytes g c =
    let taken = c.in_ok-harvest.ensures.taken in
    let rounds = c.harvest.new.self.rounds in
    let law = c.aborted_rounds_lose_no_page.ensures (harvested rounds) c.harvest.new.host c.abort.new.host c.abort.ensures
    in
    law.0 ∙ ap (λ (h : Host g.row.B.Denot). h.blocks) taken.takes.is

pub returns-clause-dirty : goal.returns-clause-dirty
returns-clause-dirty g c = λ k l.
    let began = c.in_ok-sender.ensures in
    let taken = c.in_ok-harvest.ensures.taken in
    let rounds = c.harvest.new.self.rounds in
    let before = c.args.host.now in
    let host = c.harvest.new.host in
    let ready : c.ready.new.self.rounds ≡ c.in_ok-sender.sender.rounds = c.in_ok-ready.ensures.same.0 in
    let law = c.aborted_rounds_lose_no_page.ensures (harvested rounds) host c.abort.new.host c.abort.ensures in
    let t = first_is c.in_ok-sender.sender.rounds.targets.items (c.args.block.0, 0) began.asked in
    let blocks : host.blocks ≡ before.blocks = ap (λ (h : Host g.row.B.Denot). h.blocks) taken.takes.is in
    let there : IsAsItWas t.target host =
    subst (λ (bs : List (List ℕ)). (t.target.block.0 < length bs) × (length (block_at bs t.target.block.0) ≡ t.target.entry.len))
    (sym blocks) (began.targets.blocks.there 0 t.target t.at) in
    let at : slice_get rounds.targets.items 0 ≡ Some t.target =
    ap (λ (v : Vec Target). slice_get v.items 0) taken.same.0
    ∙ ap (λ (r : Rounds). slice_get r.targets.items 0) ready ∙ t.at in
    let round : rounds.round ≡ 0 =
    taken.same.1 ∙ ap (λ (r : Rounds). r.round) ready ∙ began.begun.first.round in
    let within : k < t.target.entry.len = subst (λ (n : ℕ). k < n)
    (ap (λ (b : ℕ). length (block_at before.blocks b)) (sym t.is) ∙ (began.targets.blocks.there 0 t.target t.at).1) l in
    subst (λ (b : ℕ). IsDirty (Block b) k (with_pages g.B.ExactBitmap.pages c.abort.new.host)) t.is
    (law.2 0 t.target (first_harvested rounds t.target round (omega (arith, taken.turn)) at) there k within)
