use Rattle.live_migration.proofs.HeaderLemmas.{same_header}
use Rattle.live_migration.proofs.OneWayLemmas.{same_stream}
use Rattle.live_migration.proofs.laws.streams_mean_one_thing.Goals as goal

pub returns-clause-frames : goal.returns-clause-frames
returns-clause-frames c = same_stream

pub returns-clause-header : goal.returns-clause-header
returns-clause-header c = same_header
