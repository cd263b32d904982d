-- Looks for messages at a channel, what its reads give, and what is sent.
use Rattle.std.specs.Prelude.{◌≡◌, ◌⊎◌, ℕ, ◌<◌, ◌≤◌, nat_lt, Bool, List, [], ◌∷◌, ◌++◌, length, take, Option, Some, None, Result, Ok, Err}
use Rattle.std.specs.Io.KnownBytes.{Appends, Consumes, IsAtEnd, Keeps}
use Rattle.vhost_message.specs.Stream.{Feeds, Takes, wanted}
use Rattle.vhost_message.specs.declared.channel.ChannelError.{ChannelError}
use Rattle.vhost_message.specs.declared.channel.ChannelError.TheVariants.{Ended, Failed, Refused}

-- ---- what channels give

-- what a read gave: bytes, none of them if nothing is there yet, or why no more comes
abbrev pub Given : Type 0
Given = Result (List ℕ) ChannelError

-- the same of a read that returns how many bytes came, to the front of a buffer
abbrev pub given : Result ℕ ChannelError → List ℕ → Given
given (Ok count) buf = Ok (take count buf)
given (Err e) buf = Err e

-- what a reader of the standard library gives, by the bytes that it has left if it says them
abbrev pub GivenOf : Option (List ℕ) → Given → Option (List ℕ) → Type 0
GivenOf left (Ok bytes) new = Consumes left new bytes
GivenOf left (Err Ended) new = Keeps left new × IsAtEnd new
GivenOf left (Err e) new = Keeps left new

-- bytes were sent: a writer has all of them, or if it failed a beginning. It fails only if there are some
abbrev pub Sends : {W : Type 0} → (W → Option (List ℕ)) → List ℕ → W → Result (Unit {0}) ChannelError → W → Type 0
Sends contents bytes old (Ok done) new = Appends (contents old) (contents new) bytes
Sends contents bytes old (Err Failed) new =
    (bytes ≡ [] → ⊥) × (count : ℕ) × Appends (contents old) (contents new) (take count bytes)
Sends contents bytes old (Err e) new = ⊥

-- some bytes were given
abbrev pub GaveSome : Given → Type 0
GaveSome (Ok bytes) = 0 < length bytes
GaveSome (Err e) = ⊥

abbrev pub AllGaveSome : List Given → Type 0
AllGaveSome [] = Unit {0}
AllGaveSome (g ∷ gs) = GaveSome g × AllGaveSome gs

-- the bytes that reads gave, in the order in which they came: of the reads the last comes first
abbrev pub bytes_given : List Given → List ℕ
bytes_given [] = []
bytes_given (Ok bytes ∷ gs) = bytes_given gs ++ bytes
bytes_given (Err e ∷ gs) = bytes_given gs

-- reads were made one after the other, of which the last comes first
abbrev pub Reads : {R : Type 0} → (R → Given → R → Type 0) → List Given → R → R → Type 0
Reads gives [] old new = new ≡ old
Reads {R} gives (g ∷ gs) old new = (mid : R) × Reads gives gs old mid × gives mid g new

-- what reads gave was kept of a message, all of it: of the reads the last comes first
abbrev pub AreKept : List Given → List ℕ → List ℕ → Type 0
AreKept [] old new = new ≡ old
AreKept (Ok bytes ∷ gs) old new =
    (mid : List ℕ) × AreKept gs old mid × Feeds mid bytes (Ok (length bytes)) new
AreKept (Err e ∷ gs) old new = AreKept gs old new

-- ---- a look for a message

-- what is kept begins no message, for this reason
abbrev pub RefusedFor : ChannelError → List ℕ → Type 0
RefusedFor (Refused e) kept = wanted kept ≡ Err e
RefusedFor Ended kept = ⊥
RefusedFor Failed kept = ⊥

-- one read of what is not yet a message: it gave bytes, which are kept, or maybe none; or it failed or was not made,
-- since what is kept begins no message
abbrev pub ReadsOn : {R : Type 0} → (R → Given → R → Type 0) → List ℕ → R → Result Bool ChannelError → List ℕ → R
    → Type 0
ReadsOn gives kept before (Ok more) new after = (bytes : List ℕ) × gives before (Ok bytes) after
    × Feeds kept bytes (Ok (length bytes)) new × (more ≡ nat_lt 0 (length bytes))
ReadsOn gives kept before (Err e) new after =
    (gives before (Err e) after ⊎ (RefusedFor e kept × (after ≡ before))) × (new ≡ kept)

-- the last read found nothing, or each gave some bytes and there were two, which is as often as a look reads
abbrev pub FoundNoMore : List Given → Type 0
FoundNoMore (Ok [] ∷ gs) = AllGaveSome gs
FoundNoMore gs = AllGaveSome gs × (length gs ≡ 2)

-- the last read failed so
abbrev pub FailedBy : ChannelError → List Given → Type 0
FailedBy e (Err d ∷ gs) = (d ≡ e) × AllGaveSome gs
FailedBy e gs = ⊥

-- what a look returns if so much is kept, and what is kept afterwards
abbrev pub Finds : List ℕ → List Given → Result (Option (List ℕ)) ChannelError → List ℕ → Type 0
Finds kept gs (Ok (Some message)) new = AllGaveSome gs × Takes kept (Some message) new
Finds kept gs (Ok None) new = FoundNoMore gs × Takes kept None new
Finds kept gs (Err e) new = (FailedBy e gs ⊎ (RefusedFor e kept × AllGaveSome gs)) × Takes kept None new

-- a look reads at most twice, and takes the message that is spelled by what was kept and what the reads gave
pub record Looks {R : Type 0} (gives : R → Given → R → Type 0) (old : List ℕ) (before : R)
    (answer : Result (Option (List ℕ)) ChannelError) (new : List ℕ) (after : R) : Type 0 where
  pub gave : List Given
  pub kept : List ℕ
  pub reads : Reads gives gave before after
  pub most : length gave ≤ 2
  pub are_kept : AreKept gave old kept
  pub finds : Finds kept gave answer new

-- looks were made one after the other, with these results
abbrev pub AllLook : {R : Type 0} → (R → Given → R → Type 0) → List ℕ → R
    → List (Result (Option (List ℕ)) ChannelError) → List ℕ → R → Type 0
AllLook gives old before [] new after = (new ≡ old) × (after ≡ before)
AllLook {R} gives old before (a ∷ answers) new after =
    (kept : List ℕ) × (mid : R) × Looks gives old before a kept mid × AllLook gives kept mid answers new after

-- the messages that looks found
abbrev pub found : List (Result (Option (List ℕ)) ChannelError) → List (List ℕ)
found [] = []
found (Ok (Some message) ∷ answers) = message ∷ found answers
found (Ok None ∷ answers) = found answers
found (Err e ∷ answers) = found answers
