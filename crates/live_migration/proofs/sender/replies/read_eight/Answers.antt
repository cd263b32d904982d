use Rattle.std.proofs.Common.{rules, ◌≡◌, ℕ, ◌<◌, ◌+◌, length, arith, drop, length-drop, length-take-le, take, sym, subst, ◌∙◌, ◌≤◌, ◌-◌}
use Rattle.std.specs.Io.KnownBytes.{Consumes}
use borrow.Rule.Slice.PartMut.{put_mid, same_len_mid}
use Rattle.live_migration.proofs.ReplyLemmas.{consumes_kept, consumes_more}
use Rattle.live_migration.proofs.sender.replies.read_eight.Goals as goal
use Rattle.live_migration.proofs.sender.replies.read_eight.Goals.{in-Ok+else-at-eq8, in-Err}

-- fewer bytes than the reply has, if they are not all
below : (next at count came : ℕ) → next ≡ at + count → count ≤ came → came ≡ 8 - at → at < 8 → (at + count ≡ 8 → ⊥)
    → next < 8
below next at count came e fits room short ne = grind arith

pub loop-preserved : goal.loop-preserved
loop-preserved g c =
    let n = c.loop.at in
    let bytes = c.loop.bytes in
    let came = c.read.new.buf in
    let whole = c.loop.invariant.whole in
    let short = c.loop.invariant.short in
    let within : n ≤ length bytes = omega arith in
    let room : length came ≡ 8 - n =
    c.read.auto.buf ∙ length-take-le (8 - n) (drop n bytes) (omega (arith, whole, length-drop n bytes)) in
    let same_len = same_len_mid n (8 - n) bytes came c.read.auto.buf ∙ whole in
    let a = g.R.Read.remaining c.args.reader.now in
    let b = g.R.Read.remaining c.loop.reader in
    let d = g.R.Read.remaining c.read.new.self in
    elim c.match-read.branch [
      | in-Ok+else-at-eq8 w ↦ let fits = w.in-Ok.ensures.bound.0 in record {
        whole = same_len;
        short = below c.match-read.at n w.in-Ok.count (length came) w.at-is fits room short w.if-at-eq8.false;
        consumed = subst (λ (k : ℕ). Consumes a d (take k (put_mid n (8 - n) bytes came))) (sym w.at-is)
            (consumes_more n (8 - n) bytes came within a b d c.loop.invariant.consumed w.in-Ok.count w.in-Ok.ensures.bound.0
            w.in-Ok.ensures.bytes.0);
      }
      | in-Err w ↦ record {
        whole = same_len;
        short = search rules;
        consumed = subst (λ (k : ℕ). Consumes a d (take k (put_mid n (8 - n) bytes came))) (sym w.at-is)
            (consumes_kept n (8 - n) bytes came within a b d c.loop.invariant.consumed w.in-Err.ensures.bytes);
      }
    ]
