use Rattle.std.proofs.Common.{subst, sym}
use Rattle.vm_memory_guest.specs.Memory.{Memory}
use Rattle.vm_memory.specs.Lawful.{IsLaidOut, IsLawful}
use Rattle.vm_memory.proofs.RunLemmas.{run_keeps_layouts}
use Rattle.vm_memory.proofs.ListLemmas.{All-slice_get}
use Rattle.vm_memory.proofs.laws.machine.runs_keep_layouts.Goals as goal

pub returns : goal.returns
returns c = record {
  kept = run_keeps_layouts c.layouts_pass_the_tests.ensures.passes;
  synced = λ block image synced old new lawful is.
      subst IsLawful (sym is.1)
      (record { regions = lawful.regions; layouts = lawful.layouts; memories = lawful.memories });
  one_region = λ s m memory a i j d lawful there.
      let out : IsLaidOut m.regions =
      All-slice_get (λ (q : Memory). IsLaidOut q.regions) s.memories memory m there lawful.memories in
      c.one_region_holds_an_address.ensures m.regions out.0 out.1 i j a d;
}
