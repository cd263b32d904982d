use Rattle.std.proofs.Common.{◌≡◌, ◌<◌, ℕ, List, ◌∷◌, ◌++◌, ◌+◌, ◌-◌, ◌^◌, [], ◌∙◌, sym, ap, arith, cond, is_ok, Result, Ok, Err, OnOk, length}
use Rattle.std.proofs.lemmas.List.{length-set, take_all, take_more_set}
use Rattle.vm_memory_base.specs.Flags.{dirty_among}
use Rattle.vm_memory_base.proofs.FlagsLemmas.{dirty_by, all_set, one_more, all_of_word}
use Rattle.vm_memory_base.proofs.bitmap.exclusive.add_all.Goals as goal

pub loop-bit-preserved : goal.loop-bit-preserved
loop-bit-preserved c =
    let first = c.args.first in
    let k = c.loop-bit.bit in
    let inside : k < length c.loop-bit.numbers = omega (arith, c.loop-bit.invariant.0) in (
      length-set c.loop-bit.numbers k (first + k) ∙ c.loop-bit.invariant.0,
      take_more_set c.loop-bit.numbers k (first + k) inside
          ∙ ap (λ (ps : List ℕ). ps ++ (first + k) ∷ []) c.loop-bit.invariant.1 ∙ sym (one_more first k (omega arith)),
    )

pub returns : goal.returns
returns c =
    let first = c.args.first in
    let numbers = c.loop-bit.numbers in
    let end : c.loop-bit.bit ≡ 64 = omega arith in
    let all : numbers ≡ dirty_among (2 ^ 64 - 1) first =
    sym (take_all c.loop-bit.bit numbers (omega (arith, c.loop-bit.invariant.0, end))) ∙ c.loop-bit.invariant.1
    ∙ ap (λ (n : ℕ). dirty_by (all_set first) first n) end
    ∙ all_of_word first in
    on_ok c.extend_from_slice.result _ _ _ _ c.extend_from_slice.ensures.items (c.as_slice.ensures ∙ all)
  where
    on_ok : {T E : Type 0} (r : Result T E) (new old more all : List ℕ) → new ≡ cond (is_ok r) (old ++ more) old
        → more ≡ all → OnOk r (new ≡ old ++ all)
    on_ok (Ok x) new old more all e f = e ∙ ap (λ (ps : List ℕ). old ++ ps) f
    on_ok (Err x) new old more all e f = tt
