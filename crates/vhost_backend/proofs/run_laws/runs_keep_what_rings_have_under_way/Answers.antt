use Rattle.std.proofs.Common.{[], subst}
use Rattle.vhost_backend.proofs.SoundRunLemmas.{fills_sound}
use Rattle.vhost_backend.specs.Given.{no_counts}
use Rattle.vhost_backend.specs.Run.{begun, output_of}
use Rattle.vhost_backend.specs.Sound.{Sound}
use Rattle.vhost_backend.specs.declared.block_connection.BlockConnection.{BlockConnection}
use Rattle.vhost_backend.proofs.run_laws.runs_keep_what_rings_have_under_way.Goals as goal

pub returns : goal.returns
returns c = λ old new ends turns actions pieces bytes counts runs sound.
    subst (λ (v : BlockConnection). Sound v.backend) runs.3
    (fills_sound (begun old ends turns) runs.1 (output_of no_counts [] [] []) (output_of counts actions pieces bytes) runs.0
    runs.2 sound)
