use Rattle.std.proofs.Common.{◌≡◌, ℕ, ◌<◌, cond}
use Rattle.std.proofs.lemmas.Nat.Bits.{bit_at-zero, bit_at_ones}
use Rattle.std.specs.Int.{bit_at}
use Rattle.vm_memory_base.proofs.FlagsLemmas.{Gets-words}
use Rattle.vm_memory_base.proofs.bitmap.exclusive.set_words.Goals as goal
use Rattle.vm_memory_base.proofs.bitmap.exclusive.set_words.Goals.{then-dirty, else-dirty}

pub returns-clause-flags : goal.returns-clause-flags
returns-clause-flags c =
    let all = c.if-dirty.fill_words in
    let bits : (bit : ℕ) → bit < 64 → bit_at all bit ≡ cond c.args.dirty 1 0 =
    λ bit small.
    elim c.if-dirty.branch [
      | then-dirty w ↦ rw (w.if-dirty.true, w.fill_words-is) (bit_at_ones 64 bit small)
      | else-dirty w ↦ rw (w.if-dirty.false, w.fill_words-is) (bit_at-zero bit)
    ] in
    rw c.fill_words.ensures
    (Gets-words c.args.words.now c.args.first c.args.end all c.args.dirty c.requires.ordered c.requires.inside bits)
