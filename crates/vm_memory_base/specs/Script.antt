-- Scripts of sources and sinks.
use Rattle.std.specs.Prelude.{ℕ, List}
use Rattle.std.specs.declared.io.ErrorKind.TheVariants.{Other}
use Rattle.std.specs.declared.io.ErrorKind.TheVariants as kinds
use Rattle.vm_memory_base.specs.Transfer.{Next, Gives, Fails, Taking, Takes, Refuses}
use Rattle.vm_memory_base.specs.declared.io.VolatileMemoryError.TheVariants.{IOError}
use Rattle.vm_memory_base.specs.declared.io.scripted.SourceStep.{SourceStep}
use Rattle.vm_memory_base.specs.declared.io.scripted.SourceStep.TheVariants.{Give, Interrupted, Fail}
use Rattle.vm_memory_base.specs.declared.io.scripted.SinkStep.{SinkStep}
use Rattle.vm_memory_base.specs.declared.io.scripted.SinkStep.TheVariants as sink

-- what a source does next by a step of its script
abbrev pub next_of : SourceStep → Next
next_of (Give bytes) = Gives bytes
next_of (Interrupted scribble) = Fails scribble (IOError kinds.Interrupted)
next_of (Fail scribble) = Fails scribble (IOError Other)

-- what a sink does next by a step of its script
abbrev pub taking_of : SinkStep → Taking
taking_of (sink.Take count) = Takes count
taking_of sink.Interrupted = Refuses (IOError kinds.Interrupted)
taking_of sink.Fail = Refuses (IOError Other)

-- a sink that follows a script: what it does next, what it took, and how many bytes more it has room for
pub record TakenSoFar : Type 0 where
  pub next : List Taking
  pub taken : List ℕ
  pub room : ℕ
