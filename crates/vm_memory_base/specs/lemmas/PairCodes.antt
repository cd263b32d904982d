-- A proof that the bytes of pairs stand for their values one for one, for the law of the implementation.
use Rattle.std.proofs.Common.{◌≡◌, ℕ, ◌+◌, List, ◌++◌, length, take, drop, arith, length-append, refl}
use Rattle.std.proofs.lemmas.List.{length-drop, length-take-le, take-append-drop}
use Rattle.vm_memory_base.specs.Bytes.{IsByteCode}
use Rattle.vm_memory_base.specs.lemmas.ArrayCodes.{append_are_bytes, take_are_bytes, drop_are_bytes, front_of, rest_of}

-- values of one type, each with as many bytes, and after them values of another
pub pair_code : {V W : Type 0} {width others : ℕ} {P : V → Type 0} {Q : W → Type 0} {first : V → List ℕ}
    {second : W → List ℕ} {first_of : List ℕ → V} {second_of : List ℕ → W}
    → IsByteCode width P first first_of → ((x : V) → length (first x) ≡ width)
    → IsByteCode others Q second second_of
    → IsByteCode {V = V × W} (width + others) (λ p. P p.0 × Q p.1) (λ p. first p.0 ++ second p.1)
    (λ s. (first_of (take width s), second_of (drop width s)))
pair_code {width = width} {others = others} {first = first} {second = second} {first_of = first_of}
    {second_of = second_of} one sized other = record {
      length_bytes = λ p valid.
          let all = length-append (first p.0) (second p.1) in
          omega (arith, all, sized p.0, other.length_bytes p.1 valid.1);
      are_bytes = λ p. append_are_bytes (first p.0) (second p.1) (one.are_bytes p.0) (other.are_bytes p.1);
      from_bytes = λ p valid.
          let front = front_of (first p.0) (second p.1) width (sized p.0) in
          let rest = rest_of (first p.0) (second p.1) width (sized p.0) in
          rw (front, rest, one.from_bytes p.0 valid.0, other.from_bytes p.1 valid.1) refl;
      to_bytes = λ s h a.
          let front : length (take width s) ≡ width = length-take-le width s (omega arith) in
          let rest : length (drop width s) ≡ others = omega (arith, length-drop width s) in
          let head = one.to_bytes (take width s) front (take_are_bytes width s a) in
          let tail = other.to_bytes (drop width s) rest (drop_are_bytes width s a) in
          rw (head, tail) (take-append-drop width s);
      is_value = λ s h a.
          let front : length (take width s) ≡ width = length-take-le width s (omega arith) in
          let rest : length (drop width s) ≡ others = omega (arith, length-drop width s) in (
            one.is_value (take width s) front (take_are_bytes width s a),
            other.is_value (drop width s) rest (drop_are_bytes width s a),
          );
    }
