use Rattle.std.proofs.Common.{[], ◌∷◌, inl, refl}
use Rattle.vm_memory_guest.specs.Access.{path, first_fault}
use Rattle.vm_memory.specs.examples.Fixtures.{at, machine}
use Rattle.vm_memory.specs.Machine.{outcome}
use Rattle.vm_memory.specs.declared.machine.command.Command.TheVariants.{FromRegions, Plain, Read, Write}
use Rattle.vm_memory.proofs.examples.steps_and_runs.Goals as goal

pub returns-clause-run : goal.returns-clause-run
unfolding path first_fault
returns-clause-run c =
    let made = outcome (record machine { layouts = []; memories = [] }) (FromRegions (1 ∷ [])) in
    let plain = outcome made.1 (Plain 0) in
    let written = outcome plain.1 (Write 0 (at 4) (9 ∷ [])) in
    let read = outcome written.1 (Read 0 (at 4) 2) in
    (made.1, inl refl, (plain.1, inl refl, (written.1, inl refl, (read.1, inl refl, refl))))
