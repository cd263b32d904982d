-- The digest of a stream, which its header may ask for.
use Rattle.std.specs.Prelude.{ℕ, Bool, true, false, List, [], Option, Some, None, if◌then◌else◌}
use Rattle.sha2.specs.Hashers.{Holds256}
use Rattle.sha2.specs.Sha256.{sha256}
use Rattle.sha2.specs.declared.Sha256.{Sha256}
use Rattle.live_migration.specs.declared.digest.StreamHasher.{StreamHasher}

-- a hasher holds these bytes if digests are asked for, and else there is none
abbrev pub HoldsIf : Bool → Option Sha256 → List ℕ → Type 0
HoldsIf true (Some state) sent = Holds256 state sent
HoldsIf true None sent = ⊥
HoldsIf false (Some state) sent = ⊥
HoldsIf false None sent = Unit {0}

-- these bytes of a stream were noted, if its header asks for digests
abbrev pub HasNoted : Bool → StreamHasher → List ℕ → Type 0
HasNoted digests hasher sent = HoldsIf digests hasher.state sent

-- what the end of a round says of all that was sent before it: its digest, or nothing if none is asked for
abbrev pub digest_of : Bool → List ℕ → List ℕ
digest_of digests sent = if digests then sha256 sent else []

-- the bytes of a digest, if there is one
abbrev pub bytes_of : Option (List ℕ) → List ℕ
bytes_of (Some digest) = digest
bytes_of None = []
