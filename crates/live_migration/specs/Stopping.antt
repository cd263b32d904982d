-- When little enough is left for a guest to stop.
use Rattle.std.specs.Prelude.{◌*◌, ◌<◌}
use Rattle.live_migration.specs.declared.policy.Left.{Left}
use Rattle.live_migration.specs.declared.policy.Rate.{Rate}
use Rattle.live_migration.specs.declared.policy.Stop.{Stop}
use Rattle.live_migration.specs.declared.policy.Stop.TheVariants.{Below, Within}

-- Few pages are left; or as many microseconds as these send more, at the rate at which bytes were sent: b bytes take
-- b * micros / bytes
abbrev pub IsLittle : Stop → Left → Rate → Type 0
IsLittle (Below pages) left rate = left.pages < pages
IsLittle (Within micros) left rate = left.bytes * rate.micros < micros * rate.bytes
