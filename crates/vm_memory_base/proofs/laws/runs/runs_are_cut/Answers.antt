use Rattle.vm_memory_base.proofs.CutLaws.{canonical_cut_to, value_at-cut_to, runs-of_list, runs-part}
use Rattle.vm_memory_base.proofs.laws.runs.runs_are_cut.Goals as goal

pub returns : goal.returns
returns g c = record {
  canonical = canonical_cut_to;
  values = value_at-cut_to;
  of_a_list = λ same h rs a n. runs-of_list same h.0 h.1 rs a n;
  of_a_function = λ same h f a n b m. runs-part same h.0 h.1 f a n b m;
}
