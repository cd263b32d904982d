use Rattle.std.proofs.Common.{◌≡◌, ℕ, ◌+◌, ◌<◌, ◌≤◌, map, List, length, refl, sym, ap, ◌∙◌, subst, arith}
use Rattle.std.specs.Int.{div_ceil}
use Rattle.std.proofs.lemmas.List.{length-map}
use Rattle.vm_memory_base.specs.declared.bitmap.tracked.view.View.{View}
use Rattle.vm_memory_base.specs.Notes.{rounds_of}
use Rattle.vm_memory_base.specs.Paging.{count_of}
use Rattle.vm_memory_base.specs.Tracked.{after_harvests, seen_of}
use Rattle.vm_memory_base.proofs.NotesLemmas.{gathered-each, gathered-seen}
use Rattle.vm_memory_base.proofs.bitmap.tracked.TrackedBitmap.get_and_reset.Goals as goal

pub returns-then-words-eq0-clause-taken : goal.returns-then-words-eq0-clause-taken
returns-then-words-eq0-clause-taken c =
    let v : View = c.args.harvester.now.seat.me.0 in
    let round : ℕ = length (rounds_of 0 v.harvests) in
    let none_there : 0 ≡ div_ceil (count_of c.args.self.now.paging) 32 =
    sym c.if-words-eq0.true ∙ c.div_ceil-words.ensures ∙ ap (λ (n : ℕ). div_ceil n 32) c.len.ensures in
    subst
    (λ (l : List ℕ). (length l ≡ div_ceil (count_of c.args.self.now.paging) 32) × (v ≡ after_harvests round l v))
    (sym c.new.ensures.items) (none_there, refl)

pub invariant_of-harvester : goal.invariant_of-harvester
invariant_of-harvester c =
    let was = c.args.harvester.now.harvests_all in
    let h = c.harvest_words.ensures in
    let v : View = c.args.harvester.now.seat.me.0 in
    let round : ℕ = c.args.harvester.now.round in
    let fits = c.args.self.now.fits in
    let pages : List ℕ = c.harvest_words.new.pages in
    let few = c.if-harvester-eq4294967295.false in
    let table = c.args.self.now.table.shared.table_id in
    let size : length pages ≡ table.words =
    let words : c.div_ceil-words.result ≡ div_ceil (count_of c.args.self.now.paging) 32 =
    c.div_ceil-words.ensures ∙ ap (λ (n : ℕ). div_ceil n 32) c.len.ensures in
    let some = c.if-words-eq0.false in
    h.room ∙ c.deref_mut.ensures.len ∙ c.in-Ok.ensures.len ∙ omega (arith, words, some, fits.1) in
    let each : (word : ℕ) → word < c.harvest_words.new.seat.table_id.words
    → length (rounds_of word c.harvest_words.new.seat.me.0.harvests) ≡ c.harvest_words.new.round =
    λ word inside.
    let here : word < c.args.harvester.now.seat.table_id.words = subst (λ t. word < t.words) h.same.0 inside in
    let there : word < table.words = subst (λ t. word < t.0.words) c.requires.own here in
    ap (λ (x : View). length (rounds_of word x.harvests)) h.takes
    ∙ gathered-each 0 round pages v.harvests word (omega arith) (omega (arith, size))
    ∙ ap (λ (n : ℕ). n + 1) (was.2 word here)
    ∙ sym h.next in
    let seen : (word : ℕ) → word < c.harvest_words.new.seat.table_id.words
    → c.harvest_words.new.round ≤ seen_of word c.harvest_words.new.seat.me.0 =
    λ word inside.
    let here : word < c.args.harvester.now.seat.table_id.words = subst (λ t. word < t.words) h.same.0 inside in
    let there : word < table.words = subst (λ t. word < t.0.words) c.requires.own here in
    let zeros : List ℕ = map (λ (_ : ℕ). 0) pages in
    let count : length zeros ≡ length pages = length-map {B = ℕ} pages (λ (_ : ℕ). 0) in
    let least : round + 1 ≤ seen_of word (after_harvests round pages v) =
    gathered-seen 0 (round + 1) zeros v.rounds word (omega arith) (omega (arith, size, count, there)) in
    subst (λ (y : ℕ × View). y.0 ≤ seen_of word y.1) (λ i. (sym h.next i, sym h.takes i)) least in
    record { harvests_all = (h.same.1 ∙ was.0, omega (arith, h.next, few, was.1), each, seen) }
