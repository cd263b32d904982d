-- What calls mean: a setup line or a command of a script, if they mean one.
use Rattle.std.specs.Prelude.{◌≡◌, ◌==◌, ℕ, Bool, false, List, [], Option, Some, None, option_map}
use Rattle.std.specs.Int.NonZero.{non_zero_usize_get}
use Rattle.std.specs.Option.{option_and_then}
use Rattle.vm_memory_base.specs.declared.address.GuestAddress.{GuestAddress}
use Rattle.vm_memory_base.specs.declared.bitmap.BitmapId.TheVariants as bitmaps
use Rattle.vm_memory_base.specs.declared.io.scripted.SinkStep.{SinkStep}
use Rattle.vm_memory_base.specs.declared.io.scripted.SourceStep.{SourceStep}
use Rattle.vm_memory.specs.declared.machine.command.Command as commands
use Rattle.vm_memory.specs.declared.machine.command.Command.TheVariants as command
use Rattle.vm_memory.specs.declared.machine.setup.Setup as setups
use Rattle.vm_memory.specs.declared.machine.setup.Setup.TheVariants as setup
use Rattle.vm_session.specs.Kinds.{access_at, switch_at, width_at}
use Rattle.vm_session.specs.Words.{numbers_in, sinks_in, sources_in}
use Rattle.vm_session.specs.declared.call.Call.{Call}
use Rattle.vm_session.specs.declared.call.Kind.{Kind}
use Rattle.vm_session.specs.declared.call.Kind.TheVariants as kind

abbrev pub address : ℕ → GuestAddress
address n = record { 0 = n }

-- a call of a kind asks for what a setup line makes
abbrev pub IsSetup : Kind → Call → setups.Setup → Type 0
IsSetup kind.Block call (setup.Block size page) =
    (size ≡ call.length) × (non_zero_usize_get page ≡ call.other_length)
IsSetup kind.Space call (setup.Space size page) =
    (size ≡ call.length) × (non_zero_usize_get page ≡ call.other_length)
IsSetup kind.Table call (setup.Table None) = Unit {0}
IsSetup kind.LimitedTable call (setup.Table (Some limit)) = non_zero_usize_get limit ≡ call.length
IsSetup kind.Region call (setup.Region block addr) = (block.0 ≡ call.first) × (addr.0 ≡ call.address)
IsSetup kind.Translator call (setup.Translator table) = table.0 ≡ call.first
IsSetup k call s = ⊥

-- a page or a limit of a call is 0, as none can be
abbrev pub is_without_size : Kind → Call → Bool
is_without_size kind.Block call = call.other_length == 0
is_without_size kind.Space call = call.other_length == 0
is_without_size kind.LimitedTable call = call.length == 0
is_without_size k call = false

-- the steps that an input lists
abbrev pub source_steps : List ℕ → Option (List SourceStep)
source_steps input = option_and_then (sources_in []) (numbers_in input)

abbrev pub sink_steps : List ℕ → Option (List SinkStep)
sink_steps input = option_and_then (sinks_in false) (numbers_in input)

-- the command of a call of a kind that is none of setup
abbrev pub command_at : Kind → Call → List ℕ → Option commands.Command
command_at kind.Layout call input = option_map command.FromRegions (numbers_in input)
command_at kind.Insert call input = Some (command.Insert call.first call.second)
command_at kind.Remove call input = Some (command.Remove call.first (address call.address) call.length)
command_at kind.Plain call input = Some (command.Plain call.first)
command_at kind.Memory call input =
    option_map (command.NewMemory call.first call.second call.third) (switch_at call.value)
command_at kind.Replace call input = Some (command.ReplaceBackend call.first call.second)
command_at kind.Enable call input = option_map (command.Enable call.first) (switch_at call.value)
command_at kind.Read call input = Some (command.Read call.first (address call.address) call.length)
command_at kind.Write call input = Some (command.Write call.first (address call.address) input)
command_at kind.ReadSlice call input = Some (command.ReadSlice call.first (address call.address) call.length)
command_at kind.WriteSlice call input = Some (command.WriteSlice call.first (address call.address) input)
command_at kind.Store call input =
    option_map (λ w. command.Store call.first w (address call.address) call.value) (width_at call.width)
command_at kind.Load call input =
    option_map (λ w. command.Load call.first w (address call.address)) (width_at call.width)
command_at kind.ReadFrom call input =
    option_map (command.ReadFrom call.first (address call.address) call.length) (source_steps input)
command_at kind.ReadExactFrom call input =
    option_map (command.ReadExactFrom call.first (address call.address) call.length) (source_steps input)
command_at kind.WriteTo call input =
    option_map (command.WriteTo call.first (address call.address) call.length) (sink_steps input)
command_at kind.WriteAllTo call input =
    option_map (command.WriteAllTo call.first (address call.address) call.length) (sink_steps input)
command_at kind.CheckRange call input =
    option_map (command.CheckRange call.first (address call.address) call.length) (access_at call.access)
command_at kind.Copy call input = Some (command.Copy
    (record { block = call.first; offset = call.address; len = call.length })
    (record { block = call.second; offset = call.target; len = call.other_length }))
command_at kind.Set call input =
    option_map (command.Set call.first (address call.address) (address call.target) call.length)
    (access_at call.access)
command_at kind.Invalidate call input = Some (command.Invalidate call.first (address call.address) call.length)
command_at kind.InvalidateAll call input = Some (command.InvalidateAll call.first)
command_at kind.Lookup call input =
    option_map (command.Lookup call.first (address call.address) call.length) (access_at call.access)
command_at kind.DirtyBlock call input = Some (command.Dirty (bitmaps.Block call.first))
command_at kind.DirtySpace call input = Some (command.Dirty (bitmaps.Space call.first))
command_at kind.HarvestBlock call input = Some (command.Harvest (bitmaps.Block call.first))
command_at kind.HarvestSpace call input = Some (command.Harvest (bitmaps.Space call.first))
command_at k call input = None
