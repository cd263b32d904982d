use Rattle.std.proofs.Common.{◌≡◌, ℕ, ◌<◌, ◌≤◌, length, sym, ap, ◌∙◌, subst, arith}
use Rattle.atomic_table.specs.Seated.{TableId}
use Rattle.vm_memory_base.specs.declared.bitmap.tracked.view.View.{View}
use Rattle.vm_memory_base.specs.Notes.{rounds_of}
use Rattle.vm_memory_base.specs.Tracked.{seen_of, note_of, both, AreHarvested, AreSeen}
use Rattle.vm_memory_base.proofs.TrackedRule.{counts_allowed}
use Rattle.vm_memory_base.proofs.TrackedSeats.{meets, still_harvested}
use Rattle.vm_memory_base.proofs.bitmap.tracked.TrackedBitmap.meet.Goals as goal

pub tell-requires : goal.tell-requires
tell-requires c = record { own = (ap (λ t. t.0) c.requires.own.0, ap (λ t. t.0) c.requires.own.1) }

pub load-requires : goal.load-requires
load-requires c =
    let bitmap = c.args.self.now in
    let heard = c.tell.ensures.hears in
    let seat = c.tell.new.hearer in (
      heard.0 ∙ ap (λ t. t.0) c.requires.own.1,
      omega (arith, bitmap.fits.1),
      counts_allowed bitmap.table.shared.key bitmap.table.shared.table_id.slots seat.id 0
          (heard.1 ∙ c.args.harvester.now.harvests_all.0) seat.me.0 seat.me.1,
    )

pub tell-requires-2 : goal.tell-requires-2
tell-requires-2 c = record {
  own = (
    c.load.ensures.0 ∙ c.tell.ensures.hears.0 ∙ ap (λ t. t.0) c.requires.own.1,
    c.tell.ensures.tells.0 ∙ ap (λ t. t.0) c.requires.own.0,
  );
}

pub returns-clause-seen : goal.returns-clause-seen
returns-clause-seen c word inside =
    let mine : View = c.args.marker.now.seat.me.0 in
    let his : View = c.args.harvester.now.seat.me.0 in
    let joined : View = both his (note_of mine) in
    let was = c.args.harvester.now.harvests_all in
    let fits = c.args.self.now.fits in
    let one : c.tell.new.hearer.me.0 ≡ joined = ap (λ m. m.0) c.tell.ensures.hears.2 in
    let two : c.load.new.seat.me.0 ≡ joined = ap (λ m. m.0) c.load.ensures.2.1 ∙ one in
    let three : c.tell-2.new.teller.me.0 ≡ joined = ap (λ m. m.0) c.tell-2.ensures.tells.2 ∙ two in
    let kept : c.tell.new.teller.me.0 ≡ mine = ap (λ m. m.0) c.tell.ensures.tells.2 in
    let four : c.tell-2.new.hearer.me.0 ≡ both mine (note_of joined) =
    ap (λ m. m.0) c.tell-2.ensures.hears.2 ∙ (λ i. both (kept i) (note_of (two i))) in
    let here : word < c.args.harvester.now.seat.table_id.words =
    subst (λ t. word < t.words) (sym (ap (λ t. t.0) c.requires.own.1)) (omega (arith, fits.1, inside)) in
    let number : length (rounds_of word his.harvests) ≡ c.args.harvester.now.round = was.2 word here in
    let least : length (rounds_of word his.harvests) ≤ seen_of word his =
    let k = was.3 word here in omega (arith, number, k) in
    let most : seen_of word joined ≤ length (rounds_of word his.harvests) =
    subst (λ (v : View). seen_of word v ≤ length (rounds_of word v.harvests)) one (c.load.ensures.2.0 word) in
    ap (seen_of word) four ∙ meets word mine his least most
    ∙ ap (λ (v : View). length (rounds_of word v.harvests)) (sym three)

pub invariant_of-harvester : goal.invariant_of-harvester
invariant_of-harvester c =
    let mine : View = c.args.marker.now.seat.me.0 in
    let his : View = c.args.harvester.now.seat.me.0 in
    let was = c.args.harvester.now.harvests_all in
    let round : ℕ = c.args.harvester.now.round in
    let last : c.tell-2.new.teller.me.0 ≡ both his (note_of mine) =
    ap (λ m. m.0) (c.tell-2.ensures.tells.2 ∙ c.load.ensures.2.1 ∙ c.tell.ensures.hears.2) in
    let table : c.tell-2.new.teller.table_id ≡ c.args.harvester.now.seat.table_id =
    c.tell-2.ensures.tells.0 ∙ c.load.ensures.0 ∙ c.tell.ensures.hears.0 in
    let first = c.tell-2.ensures.tells.1 ∙ c.load.ensures.1 ∙ c.tell.ensures.hears.1 ∙ was.0 in
    let still =
    subst (λ (y : TableId × View). AreHarvested y.0.words round y.1.harvests × AreSeen y.0.words round y.1)
    (λ i. (sym table i, sym last i))
    (still_harvested c.args.harvester.now.seat.table_id.words round his (note_of mine) was.2 was.3) in
    record { harvests_all = (first, was.1, still.0, still.1) }
