use Rattle.std.proofs.Common.{◌≡◌, ◌++◌, [], List, ℕ, Option, Some, None, ap, sym, ◌∙◌, append-nil, arith}
use Rattle.std.proofs.lemmas.Grind.{common_steps}
use Rattle.std.specs.Io.KnownBytes.{Consumes}
use Rattle.std.specs.Prelude.{flat_map}
use Rattle.live_migration.specs.Frame.{spelling}
use Rattle.live_migration.specs.Header.{header_bytes}
use Rattle.tests_migration.proofs.frames.receive_twice.Goals as goal

-- a stream is its header and what comes after it
whole : (rest : Option (List ℕ)) (stream header frames : List ℕ) → Consumes (Some stream) rest header
    → Consumes rest (Some []) frames → stream ≡ header ++ frames
whole None stream header frames p q = absurd p
whole (Some ys) stream header frames p q = p ∙ ap (λ (z : List ℕ). header ++ z) (q ∙ append-nil frames)

pub returns : goal.returns
returns g c =
    let stream = c.args.stream.now in
    let came = c.in_ok-receive_whole.ensures in
    let again = c.in_ok-receive_whole-2.ensures in
    let ended : c.receive_whole.new.reader.now ≡ [] = grind (arith, common_steps) in
    let over : c.receive_whole-2.new.reader.now ≡ [] = grind (arith, common_steps) in
    let one = came.2 (ap (λ (x : List ℕ). Some x) ended) in
    let two = again.2 (ap (λ (x : List ℕ). Some x) over) in
    let p = came.0 in
    let q = again.0 in
    let ms = one.frames.messages in
    let ns = two.frames.messages in
    let both = c.streams_mean_one_thing.ensures.header one.limit two.limit one.header.digests two.header.digests
    p.entries.items q.entries.items (flat_map spelling ms) (flat_map spelling ns) one.header.header two.header.header
    (sym (whole one.rest stream (header_bytes one.header.digests p.entries.items) (flat_map spelling ms)
    one.header.consumed one.frames.consumed)
    ∙ whole two.rest stream (header_bytes two.header.digests q.entries.items) (flat_map spelling ns)
    two.header.consumed two.frames.consumed) in
    (p, q, one, two, both.1, c.streams_mean_one_thing.ensures.frames ms ns one.frames.fit two.frames.fit both.2)
