use Rattle.std.proofs.Common.{◌≡◌, ℕ, ◌+◌, arith, rules, length-append, List, [], ◌∷◌, ◌++◌, length, sym, ap, ◌∙◌, subst}
use Rattle.std.proofs.lemmas.List.Elements.{All-push}
use Rattle.atomic_table.specs.Seated.{TableId}
use Rattle.vm_memory_base.specs.declared.bitmap.tracked.Marker.{Marker}
use Rattle.vm_memory_base.specs.declared.bitmap.tracked.view.View.{View}
use Rattle.vm_memory_base.specs.Tracked.{new_marker, after_deals}
use Rattle.vm_memory_base.specs.Markers.{AreNew, marker_table, known_to}
use Rattle.vm_memory_base.proofs.TrackedSeats.{deals_allowed}
use Rattle.vm_memory_base.proofs.bitmap.tracked.Marker.deal.Goals as goal

one_more : (table : TableId × ℕ) (markers : List Marker) (m : Marker) → AreNew table markers
    → (marker_table m ≡ table) × (known_to m ≡ new_marker table.1) → AreNew table (markers ++ m ∷ [])
one_more table markers m all is =
    All-push (λ (y : Marker). (marker_table y ≡ table) × (known_to y ≡ new_marker table.1)) markers m all is

none_dealt : (v : View) → v ≡ after_deals 0 v
none_dealt v = ap (λ (k : ℕ). record v { dealt = k }) (omega arith)

pub loop-init : goal.loop-init
loop-init c =
    let v : View = c.args.seat.now.me.0 in
    let new : c.args.seat.now.me ≡ (after_deals 0 v, c.args.seat.now.me.1) =
    λ i. (none_dealt v i, c.args.seat.now.me.1) in search (new, rules)

pub split_seat-requires : goal.split_seat-requires
split_seat-requires c = (
  c.loop.invariant.0 ∙ c.requires.own,
  c.requires.some,
  deals_allowed c.args.shared.now.key c.loop.seat.id (c.loop.invariant.1 ∙ c.requires.first) c.loop.seat.me.0,
)

more_deals : (n : ℕ) (v : View) → after_deals 1 (after_deals n v) ≡ after_deals (n + 1) v
more_deals n v = ap (λ (k : ℕ). record v { dealt = k }) (omega arith)

pub loop-preserved : goal.loop-preserved
loop-preserved c =
    let inv = c.loop.invariant in
    let s = c.split_seat.ensures in
    let items = c.in_ok-push.ensures.items in
    let count : ℕ = c.args.seat.now.me.0.count in
    let table : TableId × ℕ = (c.args.shared.now.table_id, count) in
    let view : c.split_seat.result.me.0 ≡ new_marker count =
    ap (λ m. m.0) s.4 ∙ ap (λ (m : View × List _). new_marker m.0.count) inv.2 in (
      s.0 ∙ inv.0,
      s.1 ∙ inv.1,
      s.2 ∙ ap (λ (m : View × List _). (after_deals 1 m.0, m.1)) inv.2
          ∙ (λ i. (more_deals c.loop.counter c.args.seat.now.me.0 i, c.args.seat.now.me.1)),
      ap length items ∙ length-append c.loop.markers.items _ ∙ ap (λ (n : ℕ). n + 1) inv.3,
      subst (AreNew table) (sym items)
          (one_more table c.loop.markers.items _ inv.4 (
            (λ i. ((s.3 ∙ (inv.0 ∙ c.requires.own)) i, ap (λ (v : View). v.count) view i)),
            view,
          )),
    )
