-- A stream means one thing.
use Rattle.std.proofs.Common.{◌≡◌, ℕ, ◌^◌, ◌<◌, List, [], ◌∷◌, ◌++◌, length, take, drop, refl, sym, ap, ◌∙◌, append_assoc, arith}
use Rattle.std.proofs.lemmas.List.{take_at, drop_at, length-append}
use Rattle.std.proofs.lemmas.List.Concat.{flat_map-cons}
use Rattle.std.specs.Int.{w32, to_le_bytes}
use Rattle.std.specs.List.{AllByRecursion}
use Rattle.std.specs.Prelude.{flat_map}
use Rattle.live_migration.specs.Frame.{Message, Pages, ZeroPage, RoundEnd, Section, Done, Go, IsMessage, kind_of, payload_of, head, spelling}
use Rattle.live_migration.specs.Reading.{number_at, message_in}
use Rattle.live_migration.proofs.FieldLemmas.{ok_is, wide32, number_again}
use Rattle.live_migration.proofs.FrameLemmas.{message_again}

payload_fits : (m : Message) → IsMessage m → length (payload_of m) < 2 ^ 32
payload_fits (Pages block first bytes) is = omega (arith, is.2)
payload_fits (ZeroPage block page) is = omega arith
payload_fits (RoundEnd round digest) is = omega (arith, is.1)
payload_fits (Section name bytes) is = omega (arith, length-append name bytes, is.0, is.1)
payload_fits Done is = omega arith
payload_fits Go is = omega arith

kind_fits : (m : Message) → kind_of m < 2 ^ 32
kind_fits (Pages block first bytes) = omega arith
kind_fits (ZeroPage block page) = omega arith
kind_fits (RoundEnd round digest) = omega arith
kind_fits (Section name bytes) = omega arith
kind_fits Done = omega arith
kind_fits Go = omega arith

-- a frame, from left to right
in_parts : (m : Message) (x : List ℕ)
    → spelling m ++ x
    ≡ to_le_bytes w32 (kind_of m) ++ (to_le_bytes w32 (length (payload_of m)) ++ (payload_of m ++ x))
unfolding spelling
in_parts m x = append_assoc (head (kind_of m) (length (payload_of m))) (payload_of m) x

-- the number in front, and the rest, are those of either text
same_number : (n k : ℕ) (x y : List ℕ) → n < 2 ^ 32 → k < 2 ^ 32
    → to_le_bytes w32 n ++ x ≡ to_le_bytes w32 k ++ y → (n ≡ k) × (x ≡ y)
same_number n k x y nl kl e =
    let both = ok_is (n, x) (k, y)
    (sym (number_again w32 (2 ^ 32) wide32 n x nl) ∙ ap (number_at w32) e ∙ number_again w32 (2 ^ 32) wide32 k y kl) in
    (ap (λ (p : ℕ × List ℕ). p.0) both, ap (λ (p : ℕ × List ℕ). p.1) both)

pub same_frame : (m n : Message) (x y : List ℕ) → IsMessage m → IsMessage n → spelling m ++ x ≡ spelling n ++ y
    → (m ≡ n) × (x ≡ y)
same_frame m n x y fm fn e =
    let parts = sym (in_parts m x) ∙ e ∙ in_parts n y in
    let kind = same_number (kind_of m) (kind_of n) _ _ (kind_fits m) (kind_fits n) parts in
    let len = same_number (length (payload_of m)) (length (payload_of n)) _ _ (payload_fits m fm) (payload_fits n fn)
    kind.1 in
    let payload : payload_of m ≡ payload_of n =
    sym (take_at (payload_of m) x (length (payload_of m)) refl)
    ∙ ap (λ (t : List ℕ). take (length (payload_of m)) t) len.1
    ∙ take_at (payload_of n) y (length (payload_of m)) (sym len.0) in
    let rest : x ≡ y =
    sym (drop_at (payload_of m) x (length (payload_of m)) refl)
    ∙ ap (λ (t : List ℕ). drop (length (payload_of m)) t) len.1
    ∙ drop_at (payload_of n) y (length (payload_of m)) (sym len.0) in
    let read : message_in (kind_of m) (payload_of m) ≡ message_in (kind_of n) (payload_of n) =
    ap (λ (k : ℕ). message_in k (payload_of m)) kind.0 ∙ ap (message_in (kind_of n)) payload in
    (ok_is m n (sym (message_again m fm) ∙ read ∙ message_again n fn), rest)

pub some_bytes : (m : Message) (x : List ℕ) → [] ≡ spelling m ++ x → ⊥
some_bytes m x e = omega (arith, ap length (e ∙ in_parts m x))

pub same_stream : (ms ns : List Message) → AllByRecursion IsMessage ms → AllByRecursion IsMessage ns
    → flat_map spelling ms ≡ flat_map spelling ns → ms ≡ ns
same_stream [] [] fm fn e = refl
same_stream [] (n ∷ ns) fm fn e = absurd (some_bytes n (flat_map spelling ns) (e ∙ flat_map-cons spelling n ns))
same_stream (m ∷ ms) [] fm fn e =
    absurd (some_bytes m (flat_map spelling ms) (sym e ∙ flat_map-cons spelling m ms))
same_stream (m ∷ ms) (n ∷ ns) fm fn e =
    let both = same_frame m n (flat_map spelling ms) (flat_map spelling ns) fm.0 fn.0
    (sym (flat_map-cons spelling m ms) ∙ e ∙ flat_map-cons spelling n ns) in
    let rest = same_stream ms ns fm.1 fn.1 both.1 in
    ap (λ (x : Message). x ∷ ms) both.0 ∙ ap (λ (xs : List Message). n ∷ xs) rest
