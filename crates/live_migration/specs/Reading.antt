-- Reading from left to right, with the first fault that is met.
use Rattle.std.specs.Prelude.{◌≡◌, ℕ, ◌^◌, List, [], ◌∷◌, length, take, drop, Result, Ok, Err, nat_lt, ◌==◌, ◌||◌, if◌then◌else◌}
use Rattle.std.specs.Int.{Width, w32, w64, byte_len, from_le_bytes}
use Rattle.live_migration.specs.declared.refusal.Refusal.{Refusal}
use Rattle.live_migration.specs.declared.refusal.Refusal.TheVariants.{FrameKind, FrameLength}
use Rattle.live_migration.specs.Frame.{Message, Pages, ZeroPage, RoundEnd, Section, Done, Go}

infixl 10 ◌>>=◌
abbrev pub ◌>>=◌ : {A B : Type 0} → Result A Refusal → (A → Result B Refusal) → Result B Refusal
(Ok x) >>= f = f x
(Err e) >>= f = Err e

-- what a function returned, seen by view, is what reading gives
abbrev pub Gives : {X Y : Type 0} → (X → Y) → Result X Refusal → Result Y Refusal → Type 0
Gives view (Ok x) read = read ≡ Ok (view x)
Gives view (Err e) read = read ≡ Err e

-- a number, and the bytes after it
abbrev pub number_at : Width → List ℕ → Result (ℕ × List ℕ) Refusal
number_at w bytes = if nat_lt (length bytes) (byte_len w) then Err FrameLength
    else Ok (from_le_bytes w (take (byte_len w) bytes), drop (byte_len w) bytes)

unfoldable pub pages_in : List ℕ → Result Message Refusal
pages_in payload = do
  block ← number_at w32 payload
  first ← number_at w64 block.1
  if nat_lt (2 ^ 20) (length first.1) then Err FrameLength else Ok (Pages block.0 first.0 first.1)

unfoldable pub zero_page_in : List ℕ → Result Message Refusal
zero_page_in payload = do
  block ← number_at w32 payload
  page ← number_at w64 block.1
  if length page.1 == 0 then Ok (ZeroPage block.0 page.0) else Err FrameLength

unfoldable pub round_end_in : List ℕ → Result Message Refusal
round_end_in payload = do
  round ← number_at w32 payload
  if length round.1 == 0 || length round.1 == 32 then Ok (RoundEnd round.0 round.1) else Err FrameLength

unfoldable pub section_in : List ℕ → Result Message Refusal
section_in [] = Err FrameLength
section_in (n ∷ rest) = if nat_lt (length rest) n then Err FrameLength
    else (if nat_lt (2 ^ 20) (length (drop n rest)) then Err FrameLength else Ok (Section (take n rest) (drop n rest)))

abbrev pub empty_in : Message → List ℕ → Result Message Refusal
empty_in m payload = if length payload == 0 then Ok m else Err FrameLength

-- the message of this kind and payload
unfoldable pub message_in : ℕ → List ℕ → Result Message Refusal
message_in kind payload = if kind == 1 then pages_in payload else (
    if kind == 2 then zero_page_in payload else (
    if kind == 3 then round_end_in payload else (
    if kind == 4 then section_in payload else (
    if kind == 5 then empty_in Done payload else (
    if kind == 6 then empty_in Go payload else Err FrameKind)))))
