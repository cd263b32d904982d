use Rattle.std.proofs.Common.{ℕ, ◌<◌, subst}
use Rattle.live_migration.proofs.RoundsLemmas.{beginning_follows, kept_from_follows, story_count, story_follows}
use Rattle.live_migration.specs.Rounds.{story}
use Rattle.live_migration.proofs.laws.no_page_is_lost.Goals as goal

pub returns : goal.returns
returns c = λ events s begins may block page l.
    let within : block < s.count = subst (λ (n : ℕ). block < n) (story_count events s) l in
    kept_from_follows (story events s) block page
    (story_follows c.dirty_pages_are_listed.ensures.exactly events s block within may
    (beginning_follows s block begins within))
