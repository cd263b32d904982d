use Rattle.std.proofs.Common.{◌≡◌, ℕ, ◌+◌, ◌<◌, ◌++◌, List, [], ◌∷◌, length, take, set, refl, sym, ap, ◌∙◌, arith}
use Rattle.std.proofs.lemmas.List.{length-set, length-take-le, take_more_set}
use Rattle.vm_memory_base.specs.declared.bitmap.tracked.view.View.{View}
use Rattle.vm_memory_base.specs.Notes.{rounds_of}
use Rattle.vm_memory_base.specs.Paging.{count_of}
use Rattle.vm_memory_base.specs.Tracked.{IsWordBelow, after_harvest, after_harvests}
use Rattle.vm_memory_base.proofs.NotesLemmas.{gathered-above, after_harvests-more}
use Rattle.vm_memory_base.proofs.TrackedRule.{all_below, put_more}
use Rattle.vm_memory_base.proofs.bitmap.tracked.TrackedBitmap.harvest_words.Goals as goal

pub harvest_word-requires-clause-own : goal.harvest_word-requires-clause-own
harvest_word-requires-clause-own c =
    let inv = c.loop-word.invariant in
    let count : c.loop-word.seat.me.0.count ≡ c.args.seat.now.me.0.count = ap (λ (x : View). x.count) inv.4 in
    λ i. ((inv.0 ∙ ap (λ t. t.0) c.requires.own) i, (count ∙ ap (λ t. t.1) c.requires.own) i)

pub returns-clause-within : goal.returns-clause-within
returns-clause-within c =
    let inv = c.loop-word.invariant in
    let least = c.loop-word-test.false in
    all_below (count_of c.args.self.now.paging) c.loop-word.pages (λ k h. inv.5 k (omega (arith, least, h)))

pub harvest_word-requires-clause-round : goal.harvest_word-requires-clause-round
harvest_word-requires-clause-round c =
    let inv = c.loop-word.invariant in
    let word : ℕ = c.loop-word.word in
    let v : View = c.args.seat.now.me.0 in
    let inside = c.loop-word-test.true in
    let pages : List ℕ = take word c.loop-word.pages in
    let size : length pages ≡ word = length-take-le word c.loop-word.pages (omega (arith, inside)) in
    let words : word < c.args.self.now.table.shared.table_id.words = omega (arith, inside, inv.3, c.requires.room) in (
      sym (
          ap (λ (x : View). length (rounds_of word x.harvests)) inv.4
          ∙ ap length (gathered-above 0 c.args.round.now pages v.harvests word (omega (arith, size)))
          ∙ c.requires.rounds.1 word words
          ),
      c.requires.rounds.0,
    )

pub loop-word-preserved : goal.loop-word-preserved
loop-word-preserved c =
    let inv = c.loop-word.invariant in
    let word : ℕ = c.loop-word.word in
    let round : ℕ = c.args.round.now in
    let v : View = c.args.seat.now.me.0 in
    let inside = c.loop-word-test.true in
    let pages : List ℕ = take word c.loop-word.pages in
    let x : ℕ = c.harvest_word.result in
    let size : length pages ≡ word = length-take-le word c.loop-word.pages (omega (arith, inside)) in
    let next : take (word + 1) (set c.loop-word.pages word x) ≡ pages ++ x ∷ [] =
    take_more_set c.loop-word.pages word x (omega (arith, inside)) in (
      c.harvest_word.ensures.same.0 ∙ inv.0,
      c.harvest_word.ensures.same.1 ∙ inv.1,
      refl,
      length-set c.loop-word.pages word x ∙ inv.3,
      c.harvest_word.ensures.takes
          ∙ ap (after_harvest word round x) inv.4
          ∙ ap (λ (w : ℕ). after_harvest w round x (after_harvests round pages v)) (sym size)
          ∙ sym (after_harvests-more round pages x v)
          ∙ ap (λ (l : List ℕ). after_harvests round l v) (sym next),
      put_more (IsWordBelow (count_of c.args.self.now.paging)) c.loop-word.pages word x (omega (arith, inside))
          c.harvest_word.ensures.within inv.5,
    )
