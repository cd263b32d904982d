-- What is read of a payload is spelled so, and what is spelled so is read.
use Rattle.std.proofs.Common.{◌≡◌, ℕ, ◌^◌, ◌<◌, ◌≤◌, ◌⊎◌, Bool, true, false, cond, ltb, eqb, ◌||◌, inl, inr, List, [], ◌∷◌, ◌++◌, length, take, drop, Result, Ok, Err, refl, sym, ap, subst, ◌∙◌, arith}
use Rattle.std.specs.Prelude.{IfOk}
use Rattle.std.specs.Int.{w32, w64, from_le_bytes, to_le_bytes}
use Rattle.live_migration.specs.declared.frame.Frame.{Frame}
use Rattle.std.proofs.lemmas.Bool.{or_cases, eqb-true, ltb-false, le-ltb}
use Rattle.std.proofs.lemmas.List.{append-nil, take_at, drop_at, take-append-drop, length-append, length-take, nil_from_length}
use Rattle.std.proofs.lemmas.Nat.{from_le_bytes-to_le_bytes_4, from_le_bytes-to_le_bytes_8}
use Rattle.live_migration.specs.declared.refusal.Refusal.{Refusal}
use Rattle.live_migration.specs.declared.refusal.Refusal.TheVariants.{FrameKind, FrameLength}
use Rattle.live_migration.specs.Frame.{Message, message_of, Pages, ZeroPage, RoundEnd, Section, Done, Go, IsMessage, kind_of, payload_of}
use Rattle.live_migration.specs.Reading.{◌>>=◌, Gives, number_at, pages_in, zero_page_in, round_end_in, section_in, empty_in, message_in}
use Rattle.live_migration.proofs.FieldLemmas.{IsBytes, bind_ok, guard_ok, guard_true, wide32, wide64, number_takes, number_again}

-- this payload is that of this message, whose kind it is
pub record Spells (kind : ℕ) (payload : List ℕ) (m : Message) : Type 0 where
  pub fits : IsMessage m
  pub kind_is : kind ≡ kind_of m
  pub payload_is : payload ≡ payload_of m

nothing_left : (a b : List ℕ) → a ≡ [] → b ++ a ≡ b
nothing_left a b e = ap (λ (t : List ℕ). b ++ t) e ∙ append-nil b

pages_takes : (payload : List ℕ) (m : Message) → IsBytes payload → pages_in payload ≡ Ok m → Spells 1 payload m
unfolding pages_in
pages_takes payload m fits e =
    let a = bind_ok (number_at w32 payload) (λ block. number_at w64 block.1 >>= λ first.
    cond (ltb (2 ^ 20) (length first.1)) (Err FrameLength) (Ok (Pages block.0 first.0 first.1))) m e in
    let b = bind_ok (number_at w64 a.0.1) (λ first.
    cond (ltb (2 ^ 20) (length first.1)) (Err FrameLength) (Ok (Pages a.0.0 first.0 first.1))) m a.2 in
    let g = guard_ok (ltb (2 ^ 20) (length b.0.1)) FrameLength (Pages a.0.0 b.0.0 b.0.1) m b.2 in
    let t = number_takes w32 (2 ^ 32) wide32 payload a.0.0 a.0.1 fits a.1 in
    let u = number_takes w64 (2 ^ 64) wide64 a.0.1 b.0.0 b.0.1 t.0.rest_fits b.1 in
    let short : length b.0.1 ≤ 2 ^ 20 = ltb-false _ _ g.0 in
    subst (λ (x : Message). Spells 1 payload x) g.1 (record {
      fits = (t.1, u.1, short);
      kind_is = refl;
      payload_is = t.0.parts ∙ ap (λ (r : List ℕ). to_le_bytes w32 a.0.0 ++ r) u.0.parts;
    })

zero_page_takes : (payload : List ℕ) (m : Message) → IsBytes payload → zero_page_in payload ≡ Ok m
    → Spells 2 payload m
unfolding zero_page_in
zero_page_takes payload m fits e =
    let a = bind_ok (number_at w32 payload) (λ block. number_at w64 block.1 >>= λ page.
    cond (eqb (length page.1) 0) (Ok (ZeroPage block.0 page.0)) (Err FrameLength)) m e in
    let b = bind_ok (number_at w64 a.0.1) (λ page.
    cond (eqb (length page.1) 0) (Ok (ZeroPage a.0.0 page.0)) (Err FrameLength)) m a.2 in
    let g = guard_true (eqb (length b.0.1) 0) FrameLength (ZeroPage a.0.0 b.0.0) m b.2 in
    let t = number_takes w32 (2 ^ 32) wide32 payload a.0.0 a.0.1 fits a.1 in
    let u = number_takes w64 (2 ^ 64) wide64 a.0.1 b.0.0 b.0.1 t.0.rest_fits b.1 in
    let nothing : b.0.1 ≡ [] = nil_from_length b.0.1 (eqb-true _ _ g.0) in
    subst (λ (x : Message). Spells 2 payload x) g.1 (record {
      fits = (t.1, u.1);
      kind_is = refl;
      payload_is = t.0.parts ∙ ap (λ (r : List ℕ). to_le_bytes w32 a.0.0 ++ r)
          (u.0.parts ∙ nothing_left b.0.1 (to_le_bytes w64 b.0.0) nothing);
    })

-- a digest is there or not
digest_fits : (n : ℕ) → (eqb n 0 || eqb n 32) ≡ true → (n ≡ 0) ⊎ (n ≡ 32)
digest_fits n e = elim (or_cases (eqb n 0) (eqb n 32) e) [
  | inl none ↦ inl (eqb-true n 0 none)
  | inr some ↦ inr (eqb-true n 32 some)
]

digest_again : (n : ℕ) → (n ≡ 0) ⊎ (n ≡ 32) → (eqb n 0 || eqb n 32) ≡ true
digest_again n (inl none) = rw none refl
digest_again n (inr some) = rw some refl

round_end_takes : (payload : List ℕ) (m : Message) → IsBytes payload → round_end_in payload ≡ Ok m
    → Spells 3 payload m
unfolding round_end_in
round_end_takes payload m fits e =
    let a = bind_ok (number_at w32 payload) (λ round.
    cond (eqb (length round.1) 0 || eqb (length round.1) 32) (Ok (RoundEnd round.0 round.1)) (Err FrameLength)) m e in
    let g = guard_true (eqb (length a.0.1) 0 || eqb (length a.0.1) 32) FrameLength (RoundEnd a.0.0 a.0.1) m a.2 in
    let t = number_takes w32 (2 ^ 32) wide32 payload a.0.0 a.0.1 fits a.1 in
    subst (λ (x : Message). Spells 3 payload x) g.1 (record {
      fits = (t.1, digest_fits (length a.0.1) g.0);
      kind_is = refl;
      payload_is = t.0.parts;
    })

section_takes : (payload : List ℕ) (m : Message) → IsBytes payload → section_in payload ≡ Ok m
    → Spells 4 payload m
unfolding section_in
section_takes [] m fits e = absurd cc
section_takes (n ∷ rest) m fits e =
    let section = Section (take n rest) (drop n rest) in
    let g = guarded (ltb (length rest) n) (ltb (2 ^ 20) (length (drop n rest))) section m e in
    let long : n ≤ length rest = ltb-false _ _ g.0 in
    let short : length (drop n rest) ≤ 2 ^ 20 = ltb-false _ _ g.1 in
    let len : length (take n rest) ≡ n = omega (arith, length-take n rest) in
    let below : n < 256 = fits 0 in
    subst (λ (x : Message). Spells 4 (n ∷ rest) x) g.2 (record {
      fits = (omega (arith, len, below), short);
      kind_is = refl;
      payload_is = ap (λ (t : List ℕ). n ∷ t) (sym (take-append-drop n rest))
          ∙ ap (λ (k : ℕ). k ∷ (take n rest ++ drop n rest)) (sym len);
    })
  where
    guarded : (b c : Bool) (x y : Message) → cond b (Err FrameLength) (cond c (Err FrameLength) (Ok x)) ≡ Ok y
        → (b ≡ false) × (c ≡ false) × (x ≡ y)
    guarded true c x y e = absurd cc
    guarded false true x y e = absurd cc
    guarded false false x y e = (refl, refl, cc)

empty_takes : (kind : ℕ) (m x : Message) (payload : List ℕ) → IsMessage m → kind ≡ kind_of m → payload_of m ≡ []
    → empty_in m payload ≡ Ok x → Spells kind payload x
empty_takes kind m x payload is kind_is none e =
    let g = guard_true (eqb (length payload) 0) FrameLength m x e in
    let nothing : payload ≡ [] = nil_from_length payload (eqb-true _ _ g.0) in
    subst (λ (y : Message). Spells kind payload y) g.1
    (record { fits = is; kind_is = kind_is; payload_is = nothing ∙ sym none })

-- one of two
chosen : {A : Type 0} (b : Bool) (x y z : A) (P : Type 0) → cond b x y ≡ z → (b ≡ true → x ≡ z → P)
    → (b ≡ false → y ≡ z → P) → P
chosen true x y z P e f g = f refl e
chosen false x y z P e f g = g refl e

pub message_takes : (kind : ℕ) (payload : List ℕ) (m : Message) → IsBytes payload → message_in kind payload ≡ Ok m
    → Spells kind payload m
unfolding message_in
message_takes kind payload m fits e =
    let at : (k : ℕ) → eqb kind k ≡ true → Spells k payload m → Spells kind payload m =
    λ k t s. subst (λ (j : ℕ). Spells j payload m) (sym (eqb-true kind k t)) s in
    let none : Ok m ≡ Err FrameKind → Spells kind payload m = λ h. absurd cc in
    chosen (eqb kind 1) _ _ (Ok m) (Spells kind payload m) e
    (λ t h. at 1 t (pages_takes payload m fits h))
    (λ f1 e1. chosen (eqb kind 2) _ _ (Ok m) (Spells kind payload m) e1
    (λ t h. at 2 t (zero_page_takes payload m fits h))
    (λ f2 e2. chosen (eqb kind 3) _ _ (Ok m) (Spells kind payload m) e2
    (λ t h. at 3 t (round_end_takes payload m fits h))
    (λ f3 e3. chosen (eqb kind 4) _ _ (Ok m) (Spells kind payload m) e3
    (λ t h. at 4 t (section_takes payload m fits h))
    (λ f4 e4. chosen (eqb kind 5) _ _ (Ok m) (Spells kind payload m) e4
    (λ t h. at 5 t (empty_takes 5 Done m payload tt refl refl h))
    (λ f5 e5. chosen (eqb kind 6) _ _ (Ok m) (Spells kind payload m) e5
    (λ t h. at 6 t (empty_takes 6 Go m payload tt refl refl h))
    (λ f6 e6. none (sym e6)))))))

zero_page_again : (block page : ℕ) → block < 2 ^ 32 → page < 2 ^ 64
    → zero_page_in (to_le_bytes w32 block ++ to_le_bytes w64 page) ≡ Ok (ZeroPage block page)
unfolding zero_page_in
zero_page_again block page b p =
    let found : ℕ → ℕ → Result Message Refusal = λ x y. Ok (ZeroPage x y) in
    ap (λ (x : ℕ). found x (from_le_bytes w64 (to_le_bytes w64 page))) (from_le_bytes-to_le_bytes_4 block b)
    ∙ ap (λ (y : ℕ). found block y) (from_le_bytes-to_le_bytes_8 page p)

pub message_again : (m : Message) → IsMessage m → message_in (kind_of m) (payload_of m) ≡ Ok m
unfolding message_in pages_in zero_page_in round_end_in section_in
message_again (Pages block first bytes) is =
    let short : ltb (2 ^ 20) (length bytes) ≡ false = le-ltb _ _ is.2 in
    rw (
      number_again w32 (2 ^ 32) wide32 block (to_le_bytes w64 first ++ bytes) is.0,
      number_again w64 (2 ^ 64) wide64 first bytes is.1,
      short,
    ) refl
message_again (ZeroPage block page) is = zero_page_again block page is.0 is.1
message_again (RoundEnd round digest) is =
    rw (number_again w32 (2 ^ 32) wide32 round digest is.0, digest_again (length digest) is.1) refl
message_again (Section name bytes) is =
    let long : ltb (length (name ++ bytes)) (length name) ≡ false =
    le-ltb _ _ (omega (arith, length-append name bytes)) in
    let short : ltb (2 ^ 20) (length bytes) ≡ false = le-ltb _ _ is.1 in
    rw (long, drop_at name bytes (length name) refl, take_at name bytes (length name) refl, short) refl
message_again Done is = refl
message_again Go is = refl

pub is_found : (kind : ℕ) (payload : List ℕ) (r : Result Frame Refusal) → IsBytes payload
    → Gives message_of r (message_in kind payload)
    → IfOk r (λ f. IsMessage (message_of f) × (kind ≡ kind_of (message_of f)) × (payload ≡ payload_of (message_of f)))
is_found kind payload (Ok f) fits given =
    let s = message_takes kind payload (message_of f) fits given in (s.fits, s.kind_is, s.payload_is)
is_found kind payload (Err e) fits given = tt
