use Rattle.std.proofs.Common.{◌≡◌, ◌+◌, ◌++◌, ◌∙◌, List, ℕ, Ok, ap, refl, sym, subst}
use Rattle.std.specs.Io.KnownBytes.{Consumes}
use Rattle.std.specs.Prelude.{sum_by}
use Rattle.live_migration.specs.Digests.{HasNoted}
use Rattle.live_migration.specs.Frame.{message_of, payload_of}
use Rattle.live_migration.specs.Receiving.{cost_of, section_in, sections_told}
use Rattle.live_migration.specs.declared.digest.StreamHasher.{StreamHasher}
use Rattle.live_migration.specs.declared.receiver.progress.Progress.{Progress}
use Rattle.live_migration.proofs.StreamLemmas.{spelled}
use Rattle.live_migration.proofs.receiver.progress.Receiver.take_next.Goals as goal

pub returns-clause-taken : goal.returns-clause-taken
returns-clause-taken g c =
    let m = message_of c.in_ok-frame.frame in
    let found = c.in_ok-frame.ensures.found in
    let items = c.read_frame.new.payload.items in
    let payload : items ≡ payload_of m = sym c.as_slice.ensures.value ∙ found.2 in
    let again : c.as_slice-2.result.now ≡ payload_of m = c.as_slice-2.ensures.value ∙ payload in
    let before = g.R.Read.remaining c.args.reader.now in
    let after = g.R.Read.remaining c.read_frame.new.reader in
    let kept = c.in_ok-accept.ensures.kept in
    let same = c.note.ensures.same in (
      refl,
      record {
        message = m;
        fits = found.0;
        consumed = subst (λ (t : List ℕ). Consumes before after t) (spelled c.in_ok-kind.kind items m found.1 payload)
            c.in_ok-kind.ensures.consumed;
        inside = c.in_ok-accept.ensures.inside;
        applied = c.in_ok-accept.ensures.applied;
        marked = c.in_ok-accept.ensures.marked;
        stage = c.in_ok-accept.ensures.stage ∙ ap (λ (p : Progress). Ok p.stage) (sym same);
        base = ap (λ (p : Progress). p.base) same ∙ kept.base;
        entries = ap (λ (p : Progress). p.entries.items) same ∙ kept.entries;
        round = ap (λ (p : Progress). p.round) same ∙ c.in_ok-accept.ensures.round;
        sections = ap (λ (p : Progress). sections_told p) same ∙ c.in_ok-accept.ensures.sections;
        left =
            ap (λ (p : Progress). p.left + sum_by cost_of (section_in m)) same ∙ c.in_ok-accept.ensures.left;
        right = c.in_ok-accept.ensures.right;
        hashed = λ digests sent h.
            subst (λ (t : List ℕ). HasNoted digests c.note.new.self.hasher (sent ++ t))
            (spelled c.in_ok-kind.kind c.as_slice-2.result.now m found.1 again)
            (c.note.ensures.hashed digests sent
            (subst (λ (s : StreamHasher). HasNoted digests s sent) (sym kept.hasher) h));
      },
    )
