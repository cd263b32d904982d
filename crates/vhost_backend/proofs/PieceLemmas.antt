-- Pieces are the bytes of segments in order.
use Rattle.std.proofs.Common.{◌≡◌, ◌∙◌, ℕ, zero, suc, ◌+◌, ◌-◌, ◌<◌, ◌≤◌, min, List, [], ◌∷◌, ◌++◌, length, Option, Some, None, IfSome, refl, ap, sym, subst, arith, inl, inr, length-append}
use Rattle.std.specs.List.{slice_get}
use Rattle.std.proofs.lemmas.Option.{slice_get_cases}
use Rattle.std.proofs.lemmas.Bool.{cases_lt, le-ltb, lt-ltb}
use Rattle.vm_memory_device.specs.Chain.{Entry, entries_from, text, writable}
use Rattle.vm_memory_device.specs.declared.chain.Segment.{Segment}
use Rattle.vhost_backend.proofs.MarkLemmas.{data_covered}
use Rattle.vhost_backend.specs.Marks.{Covered, chain_marks}
use Rattle.vhost_backend.specs.Pieces.{piece_from, piece_of}
use Rattle.vhost_backend.specs.declared.pieces.Piece.{Piece}

entries_length : (a len : ℕ) → length (entries_from a len) ≡ len
unfolding entries_from
entries_length a zero = refl
entries_length a (suc zero) = refl
entries_length a (suc (suc len)) = ap suc (entries_length (a + 1) (suc len))

-- an entry of a segment lies at its place
abbrev pub LiesAt : Option Entry → ℕ → Type 0
LiesAt o a = IfSome o (λ e. e.address ≡ a)

entry_lies : (a len k : ℕ) → k < len → LiesAt (slice_get (entries_from a len) k) (a + k)
unfolding entries_from
entry_lies a zero k below = absurd (omega arith)
entry_lies a (suc zero) zero below = omega arith
entry_lies a (suc zero) (suc k) below = absurd (omega arith)
entry_lies a (suc (suc len)) zero below = omega arith
entry_lies a (suc (suc len)) (suc k) below =
    let same : a + 1 + k ≡ a + suc k = omega arith in
    subst (LiesAt (slice_get (entries_from (a + 1) (suc len)) k)) same (entry_lies (a + 1) (suc len) k (omega arith))

get_left : (xs ys : List Entry) (k : ℕ) → k < length xs → slice_get (xs ++ ys) k ≡ slice_get xs k
get_left [] ys k below = absurd (omega arith)
get_left (x ∷ xs) ys zero below = refl
get_left (x ∷ xs) ys (suc k) below = get_left xs ys k (omega arith)

get_right : (xs ys : List Entry) (k j : ℕ) → j ≡ length xs + k → slice_get (xs ++ ys) j ≡ slice_get ys k
get_right [] ys k j is = let same : j ≡ k = omega arith in ap (slice_get ys) same
get_right (x ∷ xs) ys k zero is = absurd (omega arith)
get_right (x ∷ xs) ys k (suc j) is = get_right xs ys k j (omega arith)

-- what is found in a text behind its first segment
behind : (s : Segment) (ss : List Segment) (offset k : ℕ) → s.len ≤ offset
    → slice_get (text (s ∷ ss)) (offset + k) ≡ slice_get (text ss) (offset - s.len + k)
behind s ss offset k past =
    let same : offset + k ≡ length (entries_from s.addr.0 s.len) + (offset - s.len + k) =
    omega (arith, entries_length s.addr.0 s.len) in
    get_right (entries_from s.addr.0 s.len) (text ss) (offset - s.len + k) (offset + k) same

-- byte K of a piece
abbrev pub ByteOf : List Segment → ℕ → ℕ → Option Piece → Type 0
ByteOf segments offset k o = IfSome o (λ p. k < p.len
    → LiesAt (slice_get (text segments) (offset + k)) (p.base + p.offset + k) × (offset + k < length (text segments)))

text_length : (s : Segment) (ss : List Segment) → length (text (s ∷ ss)) ≡ s.len + length (text ss)
text_length s ss = length-append (entries_from s.addr.0 s.len) (text ss)
    ∙ ap (λ n. n + length (text ss)) (entries_length s.addr.0 s.len)

pub bytes : (segments : List Segment) (offset n k : ℕ) → ByteOf segments offset k (piece_from segments offset n)
bytes [] offset n k = tt
bytes (s ∷ ss) offset n k = elim (cases_lt offset s.len) [
  | inl below ↦ rw (lt-ltb offset s.len below) (λ inside. here below inside)
  | inr past ↦ rw (le-ltb offset s.len past) (there past (piece_from ss (offset - s.len) n) (bytes ss (offset - s.len) n k))
]
  where
    here : offset < s.len → k < min n (s.len - offset)
        → LiesAt (slice_get (text (s ∷ ss)) (offset + k)) (s.addr.0 + offset + k)
        × (offset + k < length (text (s ∷ ss)))
    here below inside =
        let less : offset + k < s.len = omega arith in
        let same : s.addr.0 + (offset + k) ≡ s.addr.0 + offset + k = omega arith in (
          subst (λ o. LiesAt o (s.addr.0 + offset + k))
              (sym (get_left (entries_from s.addr.0 s.len) (text ss) (offset + k)
              (omega (arith, entries_length s.addr.0 s.len))))
              (subst (LiesAt (slice_get (entries_from s.addr.0 s.len) (offset + k))) same
              (entry_lies s.addr.0 s.len (offset + k) less)),
          omega (arith, text_length s ss),
        )

    there : s.len ≤ offset → (o : Option Piece) → ByteOf ss (offset - s.len) k o → ByteOf (s ∷ ss) offset k o
    there past None known = tt
    there past (Some p) known = λ inside. let (lies, less) = known inside in (
      subst (λ o. LiesAt o (p.base + p.offset + k)) (sym (behind s ss offset k past)) lies,
      omega (arith, text_length s ss),
    )

pub some : (segments : List Segment) (offset n : ℕ) → 0 < n
    → IfSome (piece_from segments offset n) (λ p. (0 < p.len) × (p.len ≤ n))
some [] offset n positive = tt
some (s ∷ ss) offset n positive = elim (cases_lt offset s.len) [
  | inl below ↦ rw (lt-ltb offset s.len below) (omega arith, omega arith)
  | inr past ↦ rw (le-ltb offset s.len past) (some ss (offset - s.len) n positive)
]

pub none : (segments : List Segment) (offset n : ℕ) → piece_from segments offset n ≡ None
    → length (text segments) ≤ offset
none [] offset n is = omega arith
none (s ∷ ss) offset n is = elim (cases_lt offset s.len) [
  | inl below ↦ let bad : Some (piece_of s offset n) ≡ None = rw (lt-ltb offset s.len below) at is in absurd (cc)
  | inr past ↦
      let rest : piece_from ss (offset - s.len) n ≡ None = rw (le-ltb offset s.len past) at is in
      let more : length (text ss) ≤ offset - s.len = none ss (offset - s.len) n rest in
      omega (arith, text_length s ss)
]

-- each byte of a piece that is written is marked
pub piece_covered : (segments : List Segment) (offset n k : ℕ) → IfSome (piece_from (writable segments) offset n)
    (λ p. k < p.len → Covered (chain_marks segments) (p.base + p.offset + k) 1)
piece_covered segments offset n k = go (piece_from (writable segments) offset n) (bytes (writable segments) offset n k)
  where
    lies_in : (a : ℕ) → LiesAt (slice_get (text (writable segments)) (offset + k)) a
        → offset + k < length (text (writable segments)) → Covered (chain_marks segments) a 1
    lies_in a lies less = elim (slice_get_cases (text (writable segments)) (offset + k)).1 [
      | inl (e, inside, found, other) ↦
          let is : e.address ≡ a = rw found at lies in
          subst (λ x. Covered (chain_marks segments) x 1) is (data_covered segments (offset + k) e found)
      | inr (past, missing) ↦ absurd (omega (arith, less, past))
    ]

    go : (o : Option Piece) → ByteOf (writable segments) offset k o
        → IfSome o (λ p. k < p.len → Covered (chain_marks segments) (p.base + p.offset + k) 1)
    go None known = tt
    go (Some p) known = λ inside. let (lies, less) = known inside in lies_in (p.base + p.offset + k) lies less
