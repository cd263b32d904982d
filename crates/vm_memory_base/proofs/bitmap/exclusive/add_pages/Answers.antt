use Rattle.std.proofs.Common.{◌≢◌, Result, Ok, Err, OnErr, ℕ, List, [], ◌∷◌, ◌++◌, ◌+◌, sym, ap, refl, append-nil, append_assoc, ◌∙◌, arith, w64}
use Rattle.std.proofs.lemmas.Nat.Bits.{bit_at-trailing_zeros}
use Rattle.std.proofs.lemmas.Result.{err_from_is_err_and}
use Rattle.std.specs.Int.{trailing_zeros}
use Rattle.vm_memory_base.specs.Flags.{dirty_among}
use Rattle.vm_memory_base.proofs.FlagsLemmas.{lowest_bit, no_bits, not_empty, without_bit, some_of_word}
use Rattle.vm_memory_base.proofs.bitmap.exclusive.add_pages.Goals as goal

pub bits-init : goal.bits-init
bits-init c = ([], sym (append-nil _), refl)

pub returns-in_err-push-clause-refused : goal.returns-in_err-push-clause-refused
returns-in_err-push-clause-refused c =
    let low = bit_at-trailing_zeros w64 c.bits.left (omega arith) c.bits.auto.left-fits.fits in
    let more = lowest_bit c.bits.left c.args.first (trailing_zeros w64 c.bits.left) low.0 low.1 low.2 in
    let p = err_from_is_err_and c.from_residual.result c.from_residual.ensures.1 in
    rw p.1
    (λ none.
    not_empty c.bits.invariant.0 _ _
    (sym (c.bits.invariant.2 ∙ ap (λ (ps : List ℕ). c.bits.invariant.0 ++ ps) more) ∙ none))

pub bits-smaller : goal.bits-smaller
bits-smaller c =
    let low = bit_at-trailing_zeros w64 c.bits.left (omega arith) c.bits.auto.left-fits.fits in
    without_bit c.bits.left (trailing_zeros w64 c.bits.left) low.0 low.1

pub bits-preserved : goal.bits-preserved
bits-preserved c =
    let first = c.args.first in
    let t = trailing_zeros w64 c.bits.left in
    let low = bit_at-trailing_zeros w64 c.bits.left (omega arith) c.bits.auto.left-fits.fits in
    let more = lowest_bit c.bits.left first t low.0 low.1 low.2 in
    let done = c.bits.invariant.0 in (
      done ++ (first + t) ∷ [],
      c.in_ok-push.ensures.items ∙ ap (λ (ps : List ℕ). ps ++ (first + t) ∷ []) c.bits.invariant.1
          ∙ append_assoc c.args.pages.now.items done ((first + t) ∷ []),
      c.bits.invariant.2 ∙ ap (λ (ps : List ℕ). done ++ ps) more ∙ sym (append_assoc done ((first + t) ∷ []) _),
    )

pub returns-clause-added : goal.returns-clause-added
returns-clause-added c =
    let done = c.bits.invariant.0 in
    let all = c.bits.invariant.2 ∙ ap (λ (n : ℕ). done ++ dirty_among n c.args.first) c.bits-test.false
    ∙ ap (λ (ps : List ℕ). done ++ ps) (no_bits c.args.first) ∙ append-nil done in
    c.bits.invariant.1 ∙ ap (λ (ps : List ℕ). c.args.pages.now.items ++ ps) (sym all)

pub returns-then-word-eq18446744073709551615-clause-refused :
    goal.returns-then-word-eq18446744073709551615-clause-refused
returns-then-word-eq18446744073709551615-clause-refused c =
    let some : dirty_among c.args.word c.args.first ≢ [] =
    rw c.if-word-eq18446744073709551615.true (some_of_word c.args.first) in
    always c.add_all.result some
  where
    always : {T E P : Type 0} (r : Result T E) → P → OnErr r P
    always (Ok x) h = tt
    always (Err e) h = h
