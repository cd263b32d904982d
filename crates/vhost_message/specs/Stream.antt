-- How the bytes of a channel are cut into messages.
use Rattle.std.specs.Prelude.{◌≡◌, ℕ, ◌+◌, ◌-◌, ◌≤◌, min, nat_lt, if◌then◌else◌, List, [], ◌∷◌, ◌++◌, length, take, Option, Some, None, Result, Ok, Err}
use Rattle.vhost_message.specs.FrontendReq.{◌>>=◌}
use Rattle.vhost_message.specs.Header.{header_in}
use Rattle.vhost_message.specs.Requests.{expected}
use Rattle.vhost_message.specs.declared.refusal.Refusal.{Refusal}

-- how many bytes the message has that begins so
abbrev pub len_of : List ℕ → Result ℕ Refusal
len_of bytes = expected (header_in bytes) >>= λ e. Ok (12 + e.payload)

-- how many are still wanted of it: of its header, and then of its payload
abbrev pub wanted : List ℕ → Result ℕ Refusal
wanted kept = if nat_lt (length kept) 12 then Ok (12 - length kept)
    else len_of kept >>= λ len. Ok (len - length kept)

-- bytes came: as many as are wanted are kept
abbrev pub Feeds : List ℕ → List ℕ → Result ℕ Refusal → List ℕ → Type 0
Feeds kept bytes (Ok count) new = ((wanted kept >>= λ n. Ok (min n (length bytes))) ≡ Ok count) × (new ≡ kept ++ take count bytes)
Feeds kept bytes (Err e) new = (wanted kept ≡ Err e) × (new ≡ kept)

-- a message is taken out when it is whole
abbrev pub Takes : List ℕ → Option (List ℕ) → List ℕ → Type 0
Takes kept (Some message) new = (wanted kept ≡ Ok 0) × (message ≡ kept) × (new ≡ [])
Takes kept None new = (wanted kept ≡ Ok 0 → ⊥) × (new ≡ kept)

-- ---- whole streams

-- a header, and as many bytes as it says
abbrev pub IsMessage : List ℕ → Type 0
IsMessage m = (12 ≤ length m) × (len_of m ≡ Ok (length m))

abbrev pub AreMessages : List (List ℕ) → Type 0
AreMessages [] = Unit {0}
AreMessages (m ∷ ms) = IsMessage m × AreMessages ms

-- no message stands at the front
abbrev pub IsRest : List ℕ → Type 0
IsRest bytes = (m more : List ℕ) → IsMessage m → bytes ≡ m ++ more → ⊥

-- one message after the other
abbrev pub stream_of : List (List ℕ) → List ℕ → List ℕ
stream_of [] rest = rest
stream_of (m ∷ ms) rest = m ++ stream_of ms rest

-- calls, the last one first: bytes were kept, or a message was taken out
pub data Call : Type 0 where
  Fed : List ℕ → Call
  Took : List ℕ → Call

-- these calls were made, and this is kept now
abbrev pub Runs : List Call → List ℕ → Type 0
Runs [] new = new ≡ []
Runs (Fed bytes ∷ calls) new =
    (kept piece : List ℕ) × (count : ℕ) × Runs calls kept × Feeds kept piece (Ok count) new × (bytes ≡ take count piece)
Runs (Took message ∷ calls) new = (kept : List ℕ) × Runs calls kept × Takes kept (Some message) new

-- the bytes that were kept, and the messages that were taken out, in their order
abbrev pub bytes_of : List Call → List ℕ
bytes_of [] = []
bytes_of (Fed bytes ∷ calls) = bytes_of calls ++ bytes
bytes_of (Took message ∷ calls) = bytes_of calls

abbrev pub messages_of : List Call → List (List ℕ)
messages_of [] = []
messages_of (Fed bytes ∷ calls) = messages_of calls
messages_of (Took message ∷ calls) = messages_of calls ++ message ∷ []
