use Rattle.std.proofs.Common.{◌≡◌, ◌∙◌, ℕ, Bool, List, ◌<◌, length, set, Option, Some, false, ap, sym, refl}
use Rattle.std.specs.List.{slice_get}
use Rattle.std.proofs.Math.ListN.{length-set}
use Rattle.std.proofs.lemmas.List.{get_or-set_same, get_or_default}
use Rattle.std.proofs.lemmas.Option.{slice_get-get_or}
use Rattle.vhost_backend.proofs.LineLemmas.{line-settled}
use Rattle.vhost_backend.specs.Line.{without}
use Rattle.vhost_backend.specs.Ring.{RingState, after_turn, pops, wants}
use Rattle.vhost_backend.specs.Rings.{RingsState, settled_step, turn_of, turn_taken}
use Rattle.vhost_backend.specs.declared.ring.actions.RingAction.{RingAction}
use Rattle.vhost_backend.specs.declared.rings.Turn.{Turn}
use Rattle.vhost_backend.proofs.rings.Rings.take_turn.Goals as goal

-- a turn is what the calls make of it
taken : (s : RingsState) (i : ℕ) (r new : RingState) (acts : List RingAction) (line : List ℕ) (turn : Option Turn)
    (w : Bool) → slice_get s.rings i ≡ Some r → new ≡ (after_turn r).0 → acts ≡ (after_turn r).1
    → line ≡ without s.line i → turn ≡ turn_of i (pops r) → w ≡ wants new
    → settled_step (record s { rings = set s.rings i new; line = line; turn = turn }) i w acts
    ≡ turn_taken s i (slice_get s.rings i)
taken s i r new acts line turn w there is_new is_acts is_line is_turn is_w =
    rw (there, is_w, is_new, is_acts, is_line, is_turn) refl

pub invariant_of-self : goal.invariant_of-self
invariant_of-self c =
    let (line, capacity) = c.self.invariant in
    let rings = c.self.inside.rings.items in
    let there : c.args.ring < length rings = rw (← c.self.view_is) at c.requires in
    let long : length (set rings c.args.ring c.take_turn-actions.new.self) ≡ length rings = length-set rings _ _ in
    rw (long, c.leave.ensures.items, c.leave.ensures.capacity)
    (line-settled (length rings) c.args.ring c.self.inside.line.items false line there, capacity)

pub returns : goal.returns
returns c =
    let rings = c.self.inside.rings.items in
    let i = c.args.ring in
    let r = c.index_mut.result.now in
    let new = c.take_turn-actions.new.self in
    let there : i < length rings = rw (← c.self.view_is) at c.requires in
    let found : slice_get rings i ≡ Some r =
    slice_get-get_or rings i r there ∙ ap Some (sym c.index_mut.ensures.value) in
    let same : c.index.result.now ≡ r =
    c.index.ensures ∙ get_or_default rings i c.index.result.now r there ∙ sym c.index_mut.ensures.value in
    let read : c.index-2.result.now ≡ new =
    c.index-2.ensures ∙ get_or-set_same rings i new c.index-2.result.now there in
    let s : RingsState = record {
      rings = rings;
      line = c.self.inside.line.items;
      turn = c.self.inside.turn;
      hold = c.self.inside.hold;
    } in
    rw (← c.self.view_is) (c.after_step.ensures ∙ taken s i r new c.take_turn-actions.result c.leave.new.line.items
    c.turn_of-self-inside.result c.wants-wants.result found (ap (λ t. t.0) c.take_turn-actions.ensures)
    (ap (λ t. t.1) c.take_turn-actions.ensures) c.leave.ensures.items
    (c.turn_of-self-inside.ensures ∙ ap (turn_of i) (c.pops.ensures ∙ ap pops same))
    (c.wants-wants.ensures ∙ ap wants read))
