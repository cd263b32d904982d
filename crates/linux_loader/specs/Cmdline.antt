-- Command lines, and how one is written.
use Rattle.std.specs.Prelude.{◌≡◌, ◌⊎◌, ℕ, ◌+◌, ◌-◌, ◌^◌, nat_lt, nat_le, Bool, ◌&&◌, ◌==◌, if◌then◌else◌, List, [], ◌∷◌, ◌++◌, take, length, Option, Result, Ok, Err, IsOk, MatchResult}
use Rattle.std.specs.List.{list_all, list_any}
use Rattle.vm_memory_base.specs.declared.iotlb.Permissions.TheVariants as permissions
use Rattle.vm_memory_guest.specs.Answer.{Outcome, told}
use Rattle.vm_memory_guest.specs.Error.{error_of}
use Rattle.vm_memory_guest.specs.Host.{Host}
use Rattle.vm_memory_guest.specs.Memory.{Memory}
use Rattle.vm_memory_guest.specs.Transfer.{all_of, ended}
use Rattle.vm_memory_guest.specs.Walk.{NeedsPieces, reached}
use Rattle.vm_memory_guest.specs.Window.{Writes, span}
use Rattle.vm_memory_guest.specs.declared.region.error.GuestMemoryError.{GuestMemoryError}
use Rattle.vm_memory_guest.specs.declared.region.error.GuestMemoryError.TheVariants as access
use Rattle.linux_loader.specs.Error as error
use Rattle.linux_loader.specs.Error.{and_then}
use Rattle.linux_loader.specs.Runtime.{check_outside}
use Rattle.linux_loader.specs.declared.cmdline.CmdlineError.{CmdlineError}
use Rattle.linux_loader.specs.declared.cmdline.CmdlineError.TheVariants as refusals
use Rattle.linux_loader.specs.declared.error.LoaderError.{LoaderError}
use Rattle.linux_loader.specs.declared.error.LoaderError.TheVariants as errors
use Rattle.linux_loader.specs.declared.runtime.RuntimeArea.{RuntimeArea}

-- a line with its terminating zero, and how many bytes that may be
pub record Line : Type 0 where
  pub bytes : List ℕ
  pub capacity : ℕ

abbrev pub text_of : Line → List ℕ
text_of line = take (length line.bytes - 1) line.bytes

-- a space stands between what is there and what is added
abbrev pub separator : List ℕ → List ℕ
separator text = if length text == 0 then [] else 32 ∷ []

abbrev pub line_with : Line → List ℕ → List ℕ
line_with line more = text_of line ++ separator (text_of line) ++ more ++ 0 ∷ []

-- n bytes more have room, with that space
abbrev pub check_room : Line → ℕ → Result (Unit {0}) CmdlineError
check_room line n = if nat_lt line.capacity (length line.bytes + length (separator (text_of line)) + n)
    then Err refusals.TooLarge else Ok tt

abbrev pub added : Line → List ℕ → Result Line CmdlineError
added line more = and_then (check_room line (length more)) (λ _. Ok (record line { bytes = line_with line more }))

-- the 95 characters of ASCII from the space on
abbrev pub is_printable : ℕ → Bool
is_printable c = nat_le 32 c && nat_le c 126

abbrev pub check_text : List ℕ → Result (Unit {0}) CmdlineError
check_text text = if list_all is_printable text then Ok tt else Err refusals.InvalidAscii

-- a key or a value has no space and no equals sign
abbrev pub check_element : List ℕ → Result (Unit {0}) CmdlineError
check_element text = and_then (check_text text) (λ _.
    if list_any (λ c. c == 32) text then Err refusals.HasSpace
    else if list_any (λ c. c == 61) text then Err refusals.HasEquals
    else Ok tt)

abbrev pub with_text : Line → List ℕ → Result Line CmdlineError
with_text line text = and_then (check_text text) (λ _. added line text)

abbrev pub with_pair : Line → List ℕ → List ℕ → Result Line CmdlineError
with_pair line key value = and_then (check_element key) (λ _. and_then (check_element value) (λ _.
    added line (key ++ 61 ∷ value)))

-- a line became what is expected. Or it was refused so, or nothing was wrong with it and an allocation failed, and it
-- is as it was
abbrev pub Becomes : Result Line CmdlineError → Line → Result (Unit {0}) CmdlineError → Line → Type 0
Becomes expected old answer new = MatchResult answer (λ _. expected ≡ Ok new)
    (λ e. ((expected ≡ Err e) ⊎ ((e ≡ refusals.Memory) × IsOk expected)) × (new ≡ old))

-- n bytes at an address pass no address, and share none with where a kernel runs
abbrev pub check_place : ℕ → ℕ → Option RuntimeArea → Result (Unit {0}) LoaderError
check_place a n area = if nat_lt (2 ^ 64) (a + n) then Err errors.CommandLineOverflow else check_outside a n area

module _ {B : Type 0} (marks : B → ℕ → ℕ → B → Type 0) (m : Memory) where
  -- bytes were written to an address, as far as it has bytes
  abbrev pub Puts : ℕ → List ℕ → Host B → Result (Unit {0}) LoaderError → Host B → Type 0
  Puts a bytes old answer new = let n = length bytes in
      let r = told error_of (reached m old.tables a n permissions.Write) in
      (put : Result (Unit {0}) GuestMemoryError)
      × Outcome access.Memory (NeedsPieces m old.tables a n permissions.Write)
      (all_of access.PartialBuffer n (ended (span r.windows) r.fault)) (new ≡ old)
      (Writes marks r.windows bytes old new) put
      × (answer ≡ error.told put)

  -- a line was written with its terminating zero, if its place is none that is refused
  abbrev pub LoadsLine : Option RuntimeArea → ℕ → List ℕ → Host B → Result (Unit {0}) LoaderError → Host B → Type 0
  LoadsLine area a bytes old answer new =
      MatchResult (check_place a (length bytes) area) (λ _. Puts a bytes old answer new)
      (λ e. (answer ≡ Err e) × (new ≡ old))
