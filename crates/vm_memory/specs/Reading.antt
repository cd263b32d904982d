-- How the words of a line are read, as functions. No public clause cites this module.
use Rattle.std.specs.Prelude.{◌≡◌, ℕ, ◌^◌, ◌==◌, ◌&&◌, Bool, true, false, if◌then◌else◌, nat_lt, List, [], ◌∷◌, ◌++◌, length, drop, Option, Some, None, Result, Ok, Err, codes}
use Rattle.std.specs.Borrow.{Bor}
use Rattle.std.specs.Char.{is_digit}
use Rattle.std.specs.List.{list_all, starts_with}
use Rattle.std.specs.Result.{result_ok}
use Rattle.std.specs.Str.{bytes_eq}
use Rattle.std.specs.Str.Parse.{digits_value}
use Rattle.vm_memory_base.specs.declared.address.GuestAddress.{GuestAddress}
use Rattle.vm_memory.specs.declared.machine.command.BlockRange.{BlockRange}
use Rattle.vm_memory_base.specs.declared.bitmap.BitmapId.{BitmapId}
use Rattle.vm_memory_base.specs.declared.bitmap.BitmapId.TheVariants.{Block, Space}
use Rattle.vm_memory.specs.declared.machine.command.Width.{Width}
use Rattle.vm_memory.specs.declared.machine.command.Width.TheVariants.{One, Two, Four, Eight}
use Rattle.vm_memory_base.specs.declared.iotlb.Permissions.{Permissions}
use Rattle.vm_memory_base.specs.declared.iotlb.Permissions.TheVariants as permissions
use Rattle.hex.specs.Hex.{decode_of}
use Rattle.vm_memory_base.specs.declared.io.scripted.SourceStep.{SourceStep}
use Rattle.vm_memory_base.specs.declared.io.scripted.SourceStep.TheVariants as source
use Rattle.vm_memory_base.specs.declared.io.scripted.SinkStep.{SinkStep}
use Rattle.vm_memory_base.specs.declared.io.scripted.SinkStep.TheVariants as sink
use Rattle.vm_memory.specs.Words.{parts_of, word_of_access, word_of_switch}
use Rattle.vm_memory.specs.declared.script.words.LineError.{LineError}
use Rattle.vm_memory.specs.declared.script.words.LineError.TheVariants as error

-- ---- words of a line

-- those that are left
abbrev pub parts_left : ℕ → Option (Bor (List ℕ)) → List (List ℕ)
parts_left separator None = []
parts_left separator (Some text) = parts_of separator text.now

-- the words of a line, between spaces
abbrev pub words_of : List ℕ → List (List ℕ)
words_of line = parts_of 32 line

-- what a function read of a text, unless its allocation failed
abbrev pub IsRead : {X : Type 0} → Result X LineError → Option X → Type 0
IsRead (Ok value) read = read ≡ Some value
IsRead (Err error.Bad) read = read ≡ None
IsRead (Err error.Memory) read = Unit {0}

-- a value and the words after it, if the words begin with one that spells a value
abbrev pub Read : Type 0 → Type 0
Read A = Option (A × List (List ℕ))

-- what a function read, seen by view, is this, unless its allocation failed
abbrev pub Gives : {X Y : Type 0} → (X → Y) → Result X LineError → List (List ℕ) → Read Y → Type 0
Gives view (Ok value) left read = read ≡ Some (view value, left)
Gives view (Err error.Bad) left read = read ≡ None
Gives view (Err error.Memory) left read = Unit {0}

-- the ? of the logic: the second step, if the first gave a value
infixl 10 ◌>>=◌
abbrev pub ◌>>=◌ : {A B : Type 0} → Option A → (A → Option B) → Option B
None >>= f = None
(Some x) >>= f = f x

-- ---- numbers

-- whether these are digits of a radix, one or more
abbrev pub is_numeral : ℕ → List ℕ → Bool
is_numeral radix digits = nat_lt 0 (length digits) && list_all (λ c. is_digit c radix) digits

-- the number of 64 bits that these digits write
abbrev pub number_in : ℕ → List ℕ → Option ℕ
number_in radix digits =
    if is_numeral radix digits && nat_lt (digits_value radix digits) (2 ^ 64) then Some (digits_value radix digits)
    else None

-- the number that a word spells
unfoldable pub number_of : List ℕ → Option ℕ
number_of word =
    if starts_with (λ a b. a == b) word (codes "0x") then
    (if nat_lt 16 (length (drop 2 word)) then None else number_in 16 (drop 2 word))
    else number_in 10 word

-- what each of these texts spells
unfoldable pub each : {A : Type 0} → (List ℕ → Option A) → List (List ℕ) → Option (List A)
each f [] = Some []
each f (text ∷ texts) = do
  x ← f text
  xs ← each f texts
  Some (x ∷ xs)

-- a list, and then what was read
abbrev pub after_front : {A : Type 0} → List A → Option (List A) → Option (List A)
after_front front read = read >>= (λ xs. Some (front ++ xs))

-- ---- bytes, and what sources and sinks do

-- the bytes of these pairs of hexadecimal digits
abbrev pub pairs_of : List ℕ → Option (List ℕ)
pairs_of word = result_ok (decode_of word)

abbrev pub bytes_of : List ℕ → Option (List ℕ)
bytes_of word =
    if bytes_eq word (codes "-") then Some []
    else (if bytes_eq word [] then None else pairs_of word)

abbrev pub source_step_of : List ℕ → Option SourceStep
source_step_of word =
    if starts_with (λ a b. a == b) word (codes "g:") then (bytes_of (drop 2 word) >>= (λ b. Some (source.Give b)))
    else (if starts_with (λ a b. a == b) word (codes "i:") then
    (bytes_of (drop 2 word) >>= (λ b. Some (source.Interrupted b)))
    else (if starts_with (λ a b. a == b) word (codes "f:") then (bytes_of (drop 2 word) >>= (λ b. Some (source.Fail b)))
    else None))

abbrev pub source_of : List ℕ → Option (List SourceStep)
source_of word = if bytes_eq word (codes "-") then Some [] else each source_step_of (parts_of 44 word)

abbrev pub sink_step_of : List ℕ → Option SinkStep
sink_step_of word =
    if starts_with (λ a b. a == b) word (codes "t:") then (number_of (drop 2 word) >>= (λ n. Some (sink.Take n)))
    else (if bytes_eq word (codes "i") then Some sink.Interrupted
    else (if bytes_eq word (codes "f") then Some sink.Fail else None))

abbrev pub sink_of : List ℕ → Option (List SinkStep)
sink_of word = if bytes_eq word (codes "-") then Some [] else each sink_step_of (parts_of 44 word)

-- ---- what the next words spell

abbrev pub word_at : List (List ℕ) → Read (List ℕ)
word_at [] = None
word_at (word ∷ words) = Some (word, words)

unfoldable pub number_at : List (List ℕ) → Read ℕ
number_at words = do
  word ← word_at words
  n ← number_of word.0
  Some (n, word.1)

unfoldable pub address_at : List (List ℕ) → Read GuestAddress
address_at words = do
  n ← number_at words
  Some (record { 0 = n.0 }, n.1)

-- above 0
unfoldable pub page_size_at : List (List ℕ) → Read ℕ
page_size_at words = do
  n ← number_at words
  if n.0 == 0 then None else Some n

unfoldable pub limit_at : List (List ℕ) → Read (Option ℕ)
limit_at [] = Some (None, [])
limit_at (word ∷ words) = do
  n ← page_size_at (word ∷ words)
  Some (Some n.0, n.1)

abbrev pub bitmap_named : List ℕ → Option (ℕ → BitmapId)
bitmap_named word =
    if bytes_eq word (codes "block") then Some Block
    else (if bytes_eq word (codes "space") then Some Space else None)

unfoldable pub bitmap_at : List (List ℕ) → Read BitmapId
bitmap_at words = do
  word ← word_at words
  make ← bitmap_named word.0
  n ← number_at word.1
  Some (make n.0, n.1)

unfoldable pub block_range_at : List (List ℕ) → Read BlockRange
block_range_at words = do
  block ← number_at words
  offset ← number_at block.1
  len ← number_at offset.1
  Some (record { block = block.0; offset = offset.0; len = len.0 }, len.1)

abbrev pub width_of : ℕ → Option Width
width_of n =
    if n == 1 then Some One else (if n == 2 then Some Two else (if n == 4 then Some Four else (if n == 8 then Some Eight
    else None)))

unfoldable pub width_at : List (List ℕ) → Read Width
width_at words = do
  n ← number_at words
  width ← width_of n.0
  Some (width, n.1)

abbrev pub permissions_of : List ℕ → Option Permissions
permissions_of word =
    if bytes_eq word (word_of_access permissions.No) then Some permissions.No
    else (if bytes_eq word (word_of_access permissions.Read) then Some permissions.Read
    else (if bytes_eq word (word_of_access permissions.Write) then Some permissions.Write
    else (if bytes_eq word (word_of_access permissions.ReadWrite) then Some permissions.ReadWrite else None)))

unfoldable pub permissions_at : List (List ℕ) → Read Permissions
permissions_at words = do
  word ← word_at words
  access ← permissions_of word.0
  Some (access, word.1)

abbrev pub switch_of : List ℕ → Option Bool
switch_of word =
    if bytes_eq word (word_of_switch true) then Some true
    else (if bytes_eq word (word_of_switch false) then Some false else None)

unfoldable pub switch_at : List (List ℕ) → Read Bool
switch_at words = do
  word ← word_at words
  on ← switch_of word.0
  Some (on, word.1)

abbrev pub end_at : List (List ℕ) → Read (Unit {0})
end_at [] = Some (tt, [])
end_at (word ∷ words) = None

unfoldable pub bytes_at : List (List ℕ) → Read (List ℕ)
bytes_at words = do
  word ← word_at words
  bytes ← bytes_of word.0
  Some (bytes, word.1)

unfoldable pub source_at : List (List ℕ) → Read (List SourceStep)
source_at words = do
  word ← word_at words
  steps ← source_of word.0
  Some (steps, word.1)

unfoldable pub sink_at : List (List ℕ) → Read (List SinkStep)
sink_at words = do
  word ← word_at words
  steps ← sink_of word.0
  Some (steps, word.1)

-- all that are left
abbrev pub numbers_at : List (List ℕ) → Read (List ℕ)
numbers_at words = each number_of words >>= (λ numbers. Some (numbers, []))
