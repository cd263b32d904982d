use Rattle.std.proofs.Common.{◌≡◌, ◌+◌, ◌-◌, ◌++◌, ◌∷◌, ◌∙◌, [], Bool, List, ℕ, ap, arith, false, get_or, inr, refl, sym, true}
use Rattle.std.proofs.lemmas.List.{append_assoc}
use Rattle.vhost_inflight.specs.Packed.{copy_of, entry_of}
use Rattle.vhost_inflight.specs.PackedStart.{copies_of, last_of, repeats, seen_too, walk}
use Rattle.vhost_inflight.specs.declared.packed_region.PackedCopy.{PackedCopy}
use Rattle.vhost_inflight.specs.declared.packed_region.PackedEntry.{PackedEntry}
use Rattle.vhost_inflight.proofs.PackedStartLemmas.{repeats-here, repeats-later, walk-step}
use Rattle.vhost_inflight.proofs.packed_start.follow.Goals as goal

pub loop-i-preserved : goal.loop-i-preserved
loop-i-preserved c =
    let es : List PackedEntry = c.args.entries.now in
    let next : ℕ = c.loop-i.next in
    let rest : List ℕ = walk es (c.args.num - (c.loop-i.i + 1)) (entry_of es next).next in
    let step = walk-step es c.args.num c.loop-i.i next (omega arith) in
    let copies : List PackedCopy = c.loop-i.copies.items in
    let new : PackedCopy = copy_of (entry_of es next) in
    let pushed : c.push.new.self.items ≡ copies ++ new ∷ [] = c.in_default.ensures.items in
    let isnt : get_or c.loop-i.seen next true ≡ false = sym c.is_taken.ensures.taken ∙ c.if-is_taken.false in
    record {
      last = c.loop-i.invariant.last ∙ ap (λ (xs : List ℕ). last_of c.loop-i.last xs) step;
      repeats = c.loop-i.invariant.repeats
          ∙ (ap (λ (xs : List ℕ). repeats c.loop-i.seen xs) step
          ∙ (repeats-later c.loop-i.seen next rest isnt
          ∙ ap (λ (seen : List Bool). repeats seen rest) (sym c.mark_one.ensures)));
      seen = c.loop-i.invariant.seen
          ∙ (ap (λ (xs : List ℕ). seen_too c.loop-i.seen xs) step
          ∙ ap (λ (seen : List Bool). seen_too seen rest) (sym c.mark_one.ensures));
      copies = c.loop-i.invariant.copies
          ∙ (ap (λ (xs : List ℕ). copies ++ copies_of es xs) step
          ∙ (sym (append_assoc copies (new ∷ []) (copies_of es rest))
          ∙ ap (λ (ds : List PackedCopy). ds ++ copies_of es rest) (sym pushed)));
    }

pub returns-then-is_taken-clause-err : goal.returns-then-is_taken-clause-err
returns-then-is_taken-clause-err c =
    let es : List PackedEntry = c.args.entries.now in
    let next : ℕ = c.loop-i.next in
    let rest : List ℕ = walk es (c.args.num - (c.loop-i.i + 1)) (entry_of es next).next in
    let step = walk-step es c.args.num c.loop-i.i next (omega arith) in
    let is : get_or c.loop-i.seen next true ≡ true = sym c.is_taken.ensures.taken ∙ c.if-is_taken.true in
    inr (
      refl,
      c.loop-i.invariant.repeats
          ∙ (ap (λ (xs : List ℕ). repeats c.loop-i.seen xs) step ∙ repeats-here c.loop-i.seen next rest is),
    )
