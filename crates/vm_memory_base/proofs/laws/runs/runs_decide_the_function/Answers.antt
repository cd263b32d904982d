use Rattle.vm_memory_base.proofs.RunsLaws.{canonical_runs, value_at-runs, runs_agree, agree_from_runs, runs-value_at}
use Rattle.vm_memory_base.proofs.laws.runs.runs_decide_the_function.Goals as goal

pub returns : goal.returns
returns g c = record {
  canonical = λ same h f a n. canonical_runs same h.0 f a n;
  values = λ same h f a n x. value_at-runs same h.0 f a n x;
  same_runs = λ same h f g a n. runs_agree same h.0 h.1 f g a n;
  same_values = λ same h f g a n. agree_from_runs same h.0 f g a n;
  of_a_list = λ same h rs a n. runs-value_at same h.0 h.1 rs a n;
}
