-- What is consumed of known bytes.
use Rattle.std.proofs.Common.{◌≡◌, ℕ, List, ◌++◌, length, Option, Some, None, ap, sym, ◌∙◌, append_assoc}
use Rattle.std.specs.Io.KnownBytes.{Consumes}
use Rattle.live_migration.specs.Frame.{Message, head, kind_of, payload_of, spelling}

-- one after the other
pub consumes_consumes : (a b c : Option (List ℕ)) (x y : List ℕ) → Consumes a b x → Consumes b c y
    → Consumes a c (x ++ y)
consumes_consumes None b c x y p q = tt
consumes_consumes (Some xs) None c x y p q = absurd p
consumes_consumes (Some xs) (Some ys) None x y p q = absurd q
consumes_consumes (Some xs) (Some ys) (Some zs) x y p q =
    p ∙ ap (λ (t : List ℕ). x ++ t) q ∙ sym (append_assoc x y zs)

-- the bytes of a frame that was read
pub spelled : (kind : ℕ) (items : List ℕ) (m : Message) → kind ≡ kind_of m → items ≡ payload_of m
    → head kind (length items) ++ items ≡ spelling m
unfolding spelling
spelled kind items m k p =
    ap (λ (j : ℕ). head j (length items) ++ items) k ∙ ap (λ (xs : List ℕ). head (kind_of m) (length xs) ++ xs) p
