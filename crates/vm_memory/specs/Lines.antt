-- What the lines of a script mean.
use Rattle.std.specs.Prelude.{◌≡◌, ◌<◌, ◌^◌, ◌==◌, ℕ, Bool, true, IsTrue, Result, Ok, Err, List, [], ◌∷◌, map, codes, Some, None}
use Rattle.std.specs.Int.NonZero.{non_zero_usize_get}
use Rattle.vm_memory.specs.Words.{Each, IsNumber, IsBytes, IsSourceStep, IsSinkStep, AreSteps, parts_of, word_of_access, word_of_switch, bytes_of_width}
use Rattle.vm_memory_base.specs.declared.bitmap.BitmapId.{BitmapId}
use Rattle.vm_memory_base.specs.declared.bitmap.BitmapId.TheVariants as bitmaps
use Rattle.vm_memory_base.specs.declared.io.scripted.SourceStep.{SourceStep}
use Rattle.vm_memory_base.specs.declared.io.scripted.SourceStep.TheVariants as gives
use Rattle.vm_memory_base.specs.declared.io.scripted.SinkStep.{SinkStep}
use Rattle.vm_memory_base.specs.declared.io.scripted.SinkStep.TheVariants as takes
use Rattle.vm_memory.specs.declared.machine.command.Command as commands
use Rattle.vm_memory.specs.declared.machine.command.Command.TheVariants.{FromRegions, Insert, Remove, Plain, NewMemory, ReplaceBackend, Enable}
use Rattle.vm_memory.specs.declared.machine.command.Command.TheVariants.{Read, Write, ReadSlice, WriteSlice, Store, Load}
use Rattle.vm_memory.specs.declared.machine.command.Command.TheVariants.{ReadFrom, ReadExactFrom, WriteTo, WriteAllTo, CheckRange, Copy}
use Rattle.vm_memory.specs.declared.machine.command.Command.TheVariants.{Set, Invalidate, InvalidateAll, Lookup, Dirty, Harvest}
use Rattle.std.specs.List.{AllByRecursion}
use Rattle.std.specs.Str.{IsUtf8}
use Rattle.vm_memory.specs.declared.script.line.Line.{Line}
use Rattle.vm_memory.specs.declared.script.line.Line.TheVariants.{Nothing, Setup, Command}
use Rattle.vm_memory.specs.declared.script.words.LineError.{LineError}
use Rattle.vm_memory.specs.declared.script.words.LineError.TheVariants.{Bad, Memory}
use Rattle.vm_memory.specs.declared.machine.setup.Setup as setups
use Rattle.vm_memory.specs.declared.machine.setup.Setup.TheVariants.{Block, Space, Table, Region, Translator}

-- a word of a line: one that stands for itself, or one that spells a value
pub data Field : Type 0 where
  word : List ℕ → Field
  number : ℕ → Field
  bytes : List ℕ → Field
  source : List SourceStep → Field
  sink : List SinkStep → Field

-- a text is such a word
abbrev pub IsField : List ℕ → Field → Type 0
IsField text (word w) = text ≡ w
IsField text (number n) = IsNumber text n
IsField text (bytes bs) = IsBytes text bs
IsField text (source steps) = AreSteps IsSourceStep text steps
IsField text (sink steps) = AreSteps IsSinkStep text steps

-- what a word can spell: numbers of 64 bits and bytes. Every value of a program is such
abbrev pub CanGive : SourceStep → Type 0
CanGive (gives.Give bs) = AllByRecursion (λ b. b < 256) bs
CanGive (gives.Interrupted bs) = AllByRecursion (λ b. b < 256) bs
CanGive (gives.Fail bs) = AllByRecursion (λ b. b < 256) bs

abbrev pub CanTake : SinkStep → Type 0
CanTake (takes.Take most) = most < 2 ^ 64
CanTake step = Unit {0}

abbrev pub CanSpell : Field → Type 0
CanSpell (word w) = Unit {0}
CanSpell (number n) = n < 2 ^ 64
CanSpell (bytes bs) = AllByRecursion (λ b. b < 256) bs
CanSpell (source steps) = AllByRecursion CanGive steps
CanSpell (sink steps) = AllByRecursion CanTake steps

-- the words of a line, with one space between any two, are these
abbrev pub Spells : List ℕ → List Field → Type 0
Spells line fields = Each IsField (parts_of 32 line) fields

abbrev pub fields_of_bitmap : BitmapId → List Field
fields_of_bitmap (bitmaps.Block b) = word (codes "block") ∷ number b ∷ []
fields_of_bitmap (bitmaps.Space s) = word (codes "space") ∷ number s ∷ []

-- the words of a command
abbrev pub command_fields : commands.Command → List Field
command_fields (FromRegions numbers) = word (codes "layout") ∷ map number numbers
command_fields (Insert layout region) = word (codes "insert") ∷ number layout ∷ number region ∷ []
command_fields (Remove layout base size) = word (codes "remove") ∷ number layout ∷ number base.0 ∷ number size ∷ []
command_fields (Plain layout) = word (codes "plain") ∷ number layout ∷ []
command_fields (NewMemory layout translator space on) =
    word (codes "memory") ∷ number layout ∷ number translator ∷ number space ∷ word (word_of_switch on) ∷ []
command_fields (ReplaceBackend memory layout) = word (codes "replace") ∷ number memory ∷ number layout ∷ []
command_fields (Enable memory on) = word (codes "enable") ∷ number memory ∷ word (word_of_switch on) ∷ []
command_fields (Read memory addr count) = word (codes "read") ∷ number memory ∷ number addr.0 ∷ number count ∷ []
command_fields (Write memory addr bs) = word (codes "write") ∷ number memory ∷ number addr.0 ∷ bytes bs ∷ []
command_fields (ReadSlice memory addr count) =
    word (codes "readx") ∷ number memory ∷ number addr.0 ∷ number count ∷ []
command_fields (WriteSlice memory addr bs) = word (codes "writex") ∷ number memory ∷ number addr.0 ∷ bytes bs ∷ []
command_fields (Store memory width addr value) =
    word (codes "store") ∷ number memory ∷ number (bytes_of_width width) ∷ number addr.0 ∷ number value ∷ []
command_fields (Load memory width addr) =
    word (codes "load") ∷ number memory ∷ number (bytes_of_width width) ∷ number addr.0 ∷ []
command_fields (ReadFrom memory addr count steps) =
    word (codes "from") ∷ number memory ∷ number addr.0 ∷ number count ∷ source steps ∷ []
command_fields (ReadExactFrom memory addr count steps) =
    word (codes "fromx") ∷ number memory ∷ number addr.0 ∷ number count ∷ source steps ∷ []
command_fields (WriteTo memory addr count steps) =
    word (codes "to") ∷ number memory ∷ number addr.0 ∷ number count ∷ sink steps ∷ []
command_fields (WriteAllTo memory addr count steps) =
    word (codes "tox") ∷ number memory ∷ number addr.0 ∷ number count ∷ sink steps ∷ []
command_fields (CheckRange memory addr count access) =
    word (codes "check") ∷ number memory ∷ number addr.0 ∷ number count ∷ word (word_of_access access) ∷ []
command_fields (Copy from to) =
    word (codes "copy") ∷ number from.block ∷ number from.offset ∷ number from.len
    ∷ number to.block ∷ number to.offset ∷ number to.len ∷ []
command_fields (Set table iova to length access) =
    word (codes "set") ∷ number table ∷ number iova.0 ∷ number to.0 ∷ number length ∷ word (word_of_access access) ∷ []
command_fields (Invalidate table iova length) =
    word (codes "invalidate") ∷ number table ∷ number iova.0 ∷ number length ∷ []
command_fields (InvalidateAll table) = word (codes "clear") ∷ number table ∷ []
command_fields (Lookup table iova length access) =
    word (codes "lookup") ∷ number table ∷ number iova.0 ∷ number length ∷ word (word_of_access access) ∷ []
command_fields (Dirty id) = word (codes "dirty") ∷ fields_of_bitmap id
command_fields (Harvest id) = word (codes "harvest") ∷ fields_of_bitmap id

-- the words of a setup line
abbrev pub setup_fields : setups.Setup → List Field
setup_fields (Block size page) = word (codes "block") ∷ number size ∷ number (non_zero_usize_get page) ∷ []
setup_fields (Space size page) = word (codes "space") ∷ number size ∷ number (non_zero_usize_get page) ∷ []
setup_fields (Table None) = word (codes "table") ∷ []
setup_fields (Table (Some limit)) = word (codes "table") ∷ number (non_zero_usize_get limit) ∷ []
setup_fields (Region block addr) = word (codes "region") ∷ number block.0 ∷ number addr.0 ∷ []
setup_fields (Translator table) = word (codes "translator") ∷ number table.0 ∷ []

-- empty, or a comment
abbrev pub is_blank : List ℕ → Bool
is_blank [] = true
is_blank (b ∷ rest) = b == 35

-- what a line means that has no line feed
abbrev pub Means : List ℕ → Line → Type 0
Means line Nothing = IsTrue (is_blank line)
Means line (Setup s) = IsUtf8 line × Spells line (setup_fields s)
Means line (Command c) = IsUtf8 line × Spells line (command_fields c)

-- what reading a line gives: what it means, or that it means nothing
abbrev pub Parses : List ℕ → Result Line LineError → Type 0
Parses line (Ok meaning) = Means line meaning
Parses line (Err Bad) = (meaning : Line) → ¬ (Means line meaning)
Parses line (Err Memory) = Unit {0}
