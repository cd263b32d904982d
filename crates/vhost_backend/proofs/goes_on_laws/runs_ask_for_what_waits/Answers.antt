use Rattle.std.proofs.Common.{[], subst}
use Rattle.vhost_backend.proofs.TendRunLemmas.{fills_tend, moves_tend}
use Rattle.vhost_backend.specs.Given.{no_counts}
use Rattle.vhost_backend.specs.GoesOn.{Tends}
use Rattle.vhost_backend.specs.Run.{begun, output_of}
use Rattle.vhost_backend.specs.declared.block_connection.BlockConnection.{BlockConnection}
use Rattle.vhost_backend.proofs.goes_on_laws.runs_ask_for_what_waits.Goals as goal

pub returns : goal.returns
returns c = record {
  moves = moves_tend;
  runs = λ old new ends turns actions pieces bytes counts runs tend.
      subst (λ (v : BlockConnection). Tends v.backend) runs.3
      (fills_tend (begun old ends turns) runs.1 (output_of no_counts [] [] []) (output_of counts actions pieces bytes)
      runs.0 runs.2 tend);
}
