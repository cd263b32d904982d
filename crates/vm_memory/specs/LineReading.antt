-- How lines are read, as functions. No public clause cites this module.
use Rattle.std.specs.Prelude.{◌≡◌, ℕ, Result, Ok, Err, List, [], ◌∷◌, Option, Some, None, codes, if◌then◌else◌}
use Rattle.std.specs.Str.{bytes_eq}
use Rattle.vm_memory.specs.Lines.{Field, word, number, setup_fields}
use Rattle.vm_memory.specs.Reading.{Read, word_at, end_at, ◌>>=◌}
use Rattle.vm_memory.specs.Reading.{number_at, address_at, page_size_at, limit_at, width_at, permissions_at, switch_at, bitmap_at, block_range_at, bytes_at, source_at, sink_at, numbers_at}
use Rattle.vm_memory.specs.declared.script.line.Line.{Line}
use Rattle.vm_memory.specs.declared.script.line.Line.TheVariants as lines
use Rattle.vm_memory.specs.declared.script.words.LineError.{LineError}
use Rattle.vm_memory.specs.declared.script.words.LineError.TheVariants as error
use Rattle.vm_memory.specs.declared.machine.command.Command as commands
use Rattle.vm_memory.specs.declared.machine.command.Command.TheVariants as make

-- what each command reads of the words after its first
abbrev pub layout_at : List (List ℕ) → Read commands.Command
layout_at words = do
  numbers ← numbers_at words
  Some (make.FromRegions numbers.0, numbers.1)

abbrev pub insert_at : List (List ℕ) → Read commands.Command
insert_at words = do
  layout ← number_at words
  region ← number_at layout.1
  Some (make.Insert layout.0 region.0, region.1)

abbrev pub remove_at : List (List ℕ) → Read commands.Command
remove_at words = do
  layout ← number_at words
  base ← address_at layout.1
  size ← number_at base.1
  Some (make.Remove layout.0 base.0 size.0, size.1)

abbrev pub plain_at : List (List ℕ) → Read commands.Command
plain_at words = do
  layout ← number_at words
  Some (make.Plain layout.0, layout.1)

abbrev pub memory_at : List (List ℕ) → Read commands.Command
memory_at words = do
  layout ← number_at words
  translator ← number_at layout.1
  space ← number_at translator.1
  on ← switch_at space.1
  Some (make.NewMemory layout.0 translator.0 space.0 on.0, on.1)

abbrev pub replace_at : List (List ℕ) → Read commands.Command
replace_at words = do
  memory ← number_at words
  layout ← number_at memory.1
  Some (make.ReplaceBackend memory.0 layout.0, layout.1)

abbrev pub enable_at : List (List ℕ) → Read commands.Command
enable_at words = do
  memory ← number_at words
  on ← switch_at memory.1
  Some (make.Enable memory.0 on.0, on.1)

abbrev pub read_at : List (List ℕ) → Read commands.Command
read_at words = do
  memory ← number_at words
  addr ← address_at memory.1
  count ← number_at addr.1
  Some (make.Read memory.0 addr.0 count.0, count.1)

abbrev pub write_at : List (List ℕ) → Read commands.Command
write_at words = do
  memory ← number_at words
  addr ← address_at memory.1
  bs ← bytes_at addr.1
  Some (make.Write memory.0 addr.0 bs.0, bs.1)

abbrev pub readx_at : List (List ℕ) → Read commands.Command
readx_at words = do
  memory ← number_at words
  addr ← address_at memory.1
  count ← number_at addr.1
  Some (make.ReadSlice memory.0 addr.0 count.0, count.1)

abbrev pub writex_at : List (List ℕ) → Read commands.Command
writex_at words = do
  memory ← number_at words
  addr ← address_at memory.1
  bs ← bytes_at addr.1
  Some (make.WriteSlice memory.0 addr.0 bs.0, bs.1)

abbrev pub store_at : List (List ℕ) → Read commands.Command
store_at words = do
  memory ← number_at words
  width ← width_at memory.1
  addr ← address_at width.1
  value ← number_at addr.1
  Some (make.Store memory.0 width.0 addr.0 value.0, value.1)

abbrev pub load_at : List (List ℕ) → Read commands.Command
load_at words = do
  memory ← number_at words
  width ← width_at memory.1
  addr ← address_at width.1
  Some (make.Load memory.0 width.0 addr.0, addr.1)

abbrev pub from_at : List (List ℕ) → Read commands.Command
from_at words = do
  memory ← number_at words
  addr ← address_at memory.1
  count ← number_at addr.1
  steps ← source_at count.1
  Some (make.ReadFrom memory.0 addr.0 count.0 steps.0, steps.1)

abbrev pub fromx_at : List (List ℕ) → Read commands.Command
fromx_at words = do
  memory ← number_at words
  addr ← address_at memory.1
  count ← number_at addr.1
  steps ← source_at count.1
  Some (make.ReadExactFrom memory.0 addr.0 count.0 steps.0, steps.1)

abbrev pub to_at : List (List ℕ) → Read commands.Command
to_at words = do
  memory ← number_at words
  addr ← address_at memory.1
  count ← number_at addr.1
  steps ← sink_at count.1
  Some (make.WriteTo memory.0 addr.0 count.0 steps.0, steps.1)

abbrev pub tox_at : List (List ℕ) → Read commands.Command
tox_at words = do
  memory ← number_at words
  addr ← address_at memory.1
  count ← number_at addr.1
  steps ← sink_at count.1
  Some (make.WriteAllTo memory.0 addr.0 count.0 steps.0, steps.1)

abbrev pub check_at : List (List ℕ) → Read commands.Command
check_at words = do
  memory ← number_at words
  addr ← address_at memory.1
  count ← number_at addr.1
  access ← permissions_at count.1
  Some (make.CheckRange memory.0 addr.0 count.0 access.0, access.1)

abbrev pub copy_at : List (List ℕ) → Read commands.Command
copy_at words = do
  from ← block_range_at words
  to ← block_range_at from.1
  Some (make.Copy from.0 to.0, to.1)

abbrev pub set_at : List (List ℕ) → Read commands.Command
set_at words = do
  table ← number_at words
  iova ← address_at table.1
  to ← address_at iova.1
  length ← number_at to.1
  access ← permissions_at length.1
  Some (make.Set table.0 iova.0 to.0 length.0 access.0, access.1)

abbrev pub invalidate_at : List (List ℕ) → Read commands.Command
invalidate_at words = do
  table ← number_at words
  iova ← address_at table.1
  length ← number_at iova.1
  Some (make.Invalidate table.0 iova.0 length.0, length.1)

abbrev pub clear_at : List (List ℕ) → Read commands.Command
clear_at words = do
  table ← number_at words
  Some (make.InvalidateAll table.0, table.1)

abbrev pub lookup_at : List (List ℕ) → Read commands.Command
lookup_at words = do
  table ← number_at words
  iova ← address_at table.1
  length ← number_at iova.1
  access ← permissions_at length.1
  Some (make.Lookup table.0 iova.0 length.0 access.0, access.1)

abbrev pub dirty_at : List (List ℕ) → Read commands.Command
dirty_at words = do
  id ← bitmap_at words
  Some (make.Dirty id.0, id.1)

abbrev pub harvest_at : List (List ℕ) → Read commands.Command
harvest_at words = do
  id ← bitmap_at words
  Some (make.Harvest id.0, id.1)

-- the command that begins with a word
unfoldable pub other_at : List ℕ → List (List ℕ) → Read commands.Command
other_at first words =
    if bytes_eq first (codes "check") then check_at words
    else (if bytes_eq first (codes "copy") then copy_at words
    else (if bytes_eq first (codes "set") then set_at words
    else (if bytes_eq first (codes "invalidate") then invalidate_at words
    else (if bytes_eq first (codes "clear") then clear_at words
    else (if bytes_eq first (codes "lookup") then lookup_at words
    else (if bytes_eq first (codes "dirty") then dirty_at words
    else (if bytes_eq first (codes "harvest") then harvest_at words
    else None)))))))

unfoldable pub transfer_at : List ℕ → List (List ℕ) → Read commands.Command
transfer_at first words =
    if bytes_eq first (codes "from") then from_at words
    else (if bytes_eq first (codes "fromx") then fromx_at words
    else (if bytes_eq first (codes "to") then to_at words
    else (if bytes_eq first (codes "tox") then tox_at words
    else other_at first words)))

unfoldable pub access_at : List ℕ → List (List ℕ) → Read commands.Command
access_at first words =
    if bytes_eq first (codes "read") then read_at words
    else (if bytes_eq first (codes "write") then write_at words
    else (if bytes_eq first (codes "readx") then readx_at words
    else (if bytes_eq first (codes "writex") then writex_at words
    else (if bytes_eq first (codes "store") then store_at words
    else (if bytes_eq first (codes "load") then load_at words
    else transfer_at first words)))))

unfoldable pub command_at : List ℕ → List (List ℕ) → Read commands.Command
command_at first words =
    if bytes_eq first (codes "layout") then layout_at words
    else (if bytes_eq first (codes "insert") then insert_at words
    else (if bytes_eq first (codes "remove") then remove_at words
    else (if bytes_eq first (codes "plain") then plain_at words
    else (if bytes_eq first (codes "memory") then memory_at words
    else (if bytes_eq first (codes "replace") then replace_at words
    else (if bytes_eq first (codes "enable") then enable_at words
    else access_at first words))))))

-- the words of the setup line that begins with a word, if there is one
abbrev pub sized_at : List ℕ → List (List ℕ) → Read (Option (List Field))
sized_at first words = do
  size ← number_at words
  page ← page_size_at size.1
  Some (Some (word first ∷ number size.0 ∷ number page.0 ∷ []), page.1)

abbrev pub limit_field : Option ℕ → List Field
limit_field None = []
limit_field (Some limit) = number limit ∷ []

abbrev pub table_at : List (List ℕ) → Read (Option (List Field))
table_at words = do
  limit ← limit_at words
  Some (Some (word (codes "table") ∷ limit_field limit.0), limit.1)

abbrev pub region_at : List (List ℕ) → Read (Option (List Field))
region_at words = do
  block ← number_at words
  addr ← address_at block.1
  Some (Some (word (codes "region") ∷ number block.0 ∷ number addr.0.0 ∷ []), addr.1)

abbrev pub translator_at : List (List ℕ) → Read (Option (List Field))
translator_at words = do
  table ← number_at words
  Some (Some (word (codes "translator") ∷ number table.0 ∷ []), table.1)

unfoldable pub setup_at : List ℕ → List (List ℕ) → Read (Option (List Field))
setup_at first words =
    if bytes_eq first (codes "block") then sized_at (codes "block") words
    else (if bytes_eq first (codes "space") then sized_at (codes "space") words
    else (if bytes_eq first (codes "table") then table_at words
    else (if bytes_eq first (codes "region") then region_at words
    else (if bytes_eq first (codes "translator") then translator_at words
    else Some (None, words)))))

-- what is shown of a line: the words of a setup line, or the command
pub data Shown : Type 0 where
  blank : Shown
  setup : List Field → Shown
  command : commands.Command → Shown

abbrev pub shown : Line → Shown
shown lines.Nothing = blank
shown (lines.Setup s) = setup (setup_fields s)
shown (lines.Command c) = command c

abbrev pub IsShown : Result Line LineError → Option Shown → Type 0
IsShown (Ok line) read = read ≡ Some (shown line)
IsShown (Err error.Bad) read = read ≡ None
IsShown (Err error.Memory) read = Unit {0}

abbrev pub line_after : List ℕ → Option (List Field) → List (List ℕ) → Option Shown
line_after first (Some fields) left = do
  end ← end_at left
  Some (setup fields)
line_after first None left = do
  c ← command_at first left
  end ← end_at c.1
  Some (command c.0)

-- the line of these words
unfoldable pub line_at : List (List ℕ) → Option Shown
line_at words = do
  first ← word_at words
  made ← setup_at first.0 first.1
  line_after first.0 made.0 made.1
