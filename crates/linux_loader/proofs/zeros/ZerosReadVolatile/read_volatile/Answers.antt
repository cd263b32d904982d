use Rattle.std.proofs.Common.{◌≡◌, ◌∙◌, ℕ, ◌++◌, List, length, take, drop, replicate, ap, arith}
use Rattle.std.proofs.lemmas.List.{length-take}
use Rattle.linux_loader.proofs.ZeroLemmas.{zeros_tried}
use Rattle.linux_loader.proofs.zeros.ZerosReadVolatile.read_volatile.Goals as goal

pub returns-clause-tells : goal.returns-clause-tells
returns-clause-tells c =
    let count = c.min-count.result in
    let buf = c.args.buf.now in
    let small = length-take count buf in
    let size : length (take count buf) ≡ count = omega arith in
    let zeros = c.fill.ensures.after (λ y is. is) ∙ ap (λ (n : ℕ). replicate n 0) size in
    rw (← c.self.view_is)
    (zeros_tried c.self.inside.left count buf _ c.min-count.ensures
    (ap (λ (xs : List ℕ). xs ++ drop count buf) zeros))
