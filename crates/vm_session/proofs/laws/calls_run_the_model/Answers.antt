use Rattle.vm_session.proofs.RunLaws.{calls-run, ran-run}
use Rattle.vm_session.proofs.laws.calls_run_the_model.Goals as goal

pub returns : goal.returns
returns c = record { all = calls-run; run = ran-run }
