use Rattle.std.proofs.Common.{◌≡◌, ◌*◌, ◌/◌, ◌&&◌, Bool, true, false, ap, drop, length, sym, ◌∙◌}
use Rattle.std.specs.List.{list_all}
use Rattle.std.specs.Simd.{first_chunks}
use Rattle.live_migration.specs.Image.{are_zero}
use Rattle.live_migration.proofs.ZeroLemmas.{chunks_zero}
use Rattle.live_migration.proofs.zeros.are_zero.Goals as goal

pub returns-then-are_zero_words : goal.returns-then-are_zero_words
returns-then-are_zero_words c =
    let bytes = c.args.bytes.now in
    let n = length bytes / 16 in
    let words : list_all (λ w. are_zero w) (first_chunks 16 n bytes) ≡ true =
    ap (list_all (λ w. are_zero w)) (sym c.as_chunks.ensures.front) ∙ sym c.are_zero_words.ensures
    ∙ c.if-are_zero_words.true in
    c.are_zero_bytes.ensures ∙ ap are_zero c.as_chunks.ensures.back
    ∙ sym (chunks_zero 16 n bytes ∙ ap (λ (b : Bool). b && are_zero (drop (n * 16) bytes)) words)

pub returns-else-are_zero_words : goal.returns-else-are_zero_words
returns-else-are_zero_words c =
    let bytes = c.args.bytes.now in
    let n = length bytes / 16 in
    let words : list_all (λ w. are_zero w) (first_chunks 16 n bytes) ≡ false =
    ap (list_all (λ w. are_zero w)) (sym c.as_chunks.ensures.front) ∙ sym c.are_zero_words.ensures
    ∙ c.if-are_zero_words.false in
    c.if-are_zero_words.false
    ∙ sym (chunks_zero 16 n bytes ∙ ap (λ (b : Bool). b && are_zero (drop (n * 16) bytes)) words)
