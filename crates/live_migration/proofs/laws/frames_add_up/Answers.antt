use Rattle.live_migration.proofs.ReceivingLemmas.{none_received, received_more}
use Rattle.live_migration.proofs.laws.frames_add_up.Goals as goal

pub returns : goal.returns
returns g c = record { none = none_received g.C.Bitmap.marks; more = received_more g.C.Bitmap.marks }
