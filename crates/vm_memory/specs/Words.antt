-- What the words of a script's lines spell.
use Rattle.std.specs.Prelude.{◌≡◌, ◌≢◌, ◌⊎◌, ◌<◌, ◌≤◌, ◌^◌, ◌==◌, ◌++◌, ℕ, Bool, true, false, List, [], ◌∷◌, length, Ok, codes}
use Rattle.std.specs.List.{slice_split}
use Rattle.std.specs.Str.Parse.{IsNumeral, digits_value}
use Rattle.hex.specs.Hex.{decode_of}
use Rattle.vm_memory_base.specs.declared.iotlb.Permissions.{Permissions}
use Rattle.vm_memory_base.specs.declared.iotlb.Permissions.TheVariants.{No, Read, Write, ReadWrite}
use Rattle.vm_memory.specs.declared.machine.command.Width.{Width}
use Rattle.vm_memory.specs.declared.machine.command.Width.TheVariants.{One, Two, Four, Eight}
use Rattle.vm_memory_base.specs.declared.io.scripted.SourceStep.{SourceStep}
use Rattle.vm_memory_base.specs.declared.io.scripted.SourceStep.TheVariants as source
use Rattle.vm_memory_base.specs.declared.io.scripted.SinkStep.{SinkStep}
use Rattle.vm_memory_base.specs.declared.io.scripted.SinkStep.TheVariants as sink

-- the parts of a text, which stand between separators
abbrev pub parts_of : ℕ → List ℕ → List (List ℕ)
parts_of separator text = slice_split (λ b. b == separator) text

-- texts that spell these values, one each
abbrev pub Each : {A : Type 0} → (List ℕ → A → Type 0) → List (List ℕ) → List A → Type 0
Each Spells [] [] = Unit {0}
Each Spells (text ∷ texts) (x ∷ xs) = Spells text x × Each Spells texts xs
Each Spells [] (x ∷ xs) = ⊥
Each Spells (text ∷ texts) [] = ⊥

-- digits of a radix, one or more, write a number
abbrev pub Writes : ℕ → List ℕ → ℕ → Type 0
Writes radix digits n = IsNumeral radix digits × (digits_value radix digits ≡ n)

-- a number of 64 bits: its decimal digits, or 0x and 1 to 16 hexadecimal digits of either case
abbrev pub IsNumber : List ℕ → ℕ → Type 0
IsNumber word n = (n < 2 ^ 64) × (Writes 10 word n
    ⊎ ((digits : List ℕ) × (word ≡ codes "0x" ++ digits) × (length digits ≤ 16) × Writes 16 digits n))

-- bytes: two hexadecimal digits of either case for each, or a dash for none
abbrev pub IsBytes : List ℕ → List ℕ → Type 0
IsBytes word bytes = ((word ≡ codes "-") × (bytes ≡ [])) ⊎ ((word ≢ []) × (decode_of word ≡ Ok bytes))

-- the word for a set of accesses
abbrev pub word_of_access : Permissions → List ℕ
word_of_access No = codes "no"
word_of_access Read = codes "r"
word_of_access Write = codes "w"
word_of_access ReadWrite = codes "rw"

-- the word for a switch
abbrev pub word_of_switch : Bool → List ℕ
word_of_switch true = codes "on"
word_of_switch false = codes "off"

-- steps: a dash for none, or texts of steps with one comma between any two
abbrev pub AreSteps : {A : Type 0} → (List ℕ → A → Type 0) → List ℕ → List A → Type 0
AreSteps IsStep word steps = ((word ≡ codes "-") × (steps ≡ [])) ⊎ Each IsStep (parts_of 44 word) steps

-- a letter, a colon and bytes, for what a source does at one try
abbrev pub IsSourceStep : List ℕ → SourceStep → Type 0
IsSourceStep text (source.Give bytes) = (word : List ℕ) × (text ≡ codes "g:" ++ word) × IsBytes word bytes
IsSourceStep text (source.Interrupted bytes) = (word : List ℕ) × (text ≡ codes "i:" ++ word) × IsBytes word bytes
IsSourceStep text (source.Fail bytes) = (word : List ℕ) × (text ≡ codes "f:" ++ word) × IsBytes word bytes

-- the letter t, a colon and a number, or just a letter, for what a sink does at one try
abbrev pub IsSinkStep : List ℕ → SinkStep → Type 0
IsSinkStep text (sink.Take most) = (word : List ℕ) × (text ≡ codes "t:" ++ word) × IsNumber word most
IsSinkStep text sink.Interrupted = text ≡ codes "i"
IsSinkStep text sink.Fail = text ≡ codes "f"

-- the number of bytes that is written for a width
abbrev pub bytes_of_width : Width → ℕ
bytes_of_width One = 1
bytes_of_width Two = 2
bytes_of_width Four = 4
bytes_of_width Eight = 8
