-- What is read of a header is spelled so, and what is spelled so is read.
use Rattle.std.proofs.Common.{◌≡◌, ℕ, zero, suc, ◌+◌, ◌-◌, ◌^◌, ◌<◌, ◌≤◌, Bool, true, false, cond, ltb, leb, eqb, ◌&&◌, List, [], ◌∷◌, ◌++◌, length, take, get_or, Result, Ok, Err, refl, sym, ap, subst, ◌∙◌, append_assoc, arith, lit<}
use Rattle.std.specs.Prelude.{IfOk, IsOk, ◌↔◌, flat_map}
use Rattle.std.specs.Int.{w32, w64, to_le_bytes}
use Rattle.std.specs.Borrow.{Bor}
use Rattle.std.specs.Global.{Vec}
use Rattle.std.proofs.lemmas.Bool.{eqb-true, ltb-true, ltb-false, le-ltb, lt-ltb, leb-true, le-leb, and_parts, and_from}
use Rattle.std.proofs.lemmas.List.{append-nil, nil_from_length, flat_map_more, take_more}
use Rattle.std.proofs.lemmas.List.Concat.{flat_map-cons}
use Rattle.live_migration.specs.Header.{entry_bytes, header_bytes, option_bits, FitsFields, IsEntry, AreEntries, IsHeader, GivesUnlessMemory, front_in, checked, entry_in, entries_in, header_in, parts_of}
use Rattle.live_migration.specs.Reading.{◌>>=◌, Gives, number_at}
use Rattle.live_migration.specs.declared.header.BlockEntry.{BlockEntry}
use Rattle.live_migration.specs.declared.header.Header.{Header}
use Rattle.live_migration.specs.declared.refusal.Refusal.{Refusal}
use Rattle.live_migration.specs.declared.refusal.Refusal.TheVariants as refusal
use Rattle.live_migration.specs.declared.refusal.Refusal.TheVariants.{Magic, Version, Options, BlockCount, BlockLength, PageSize, Place, TooMuchMemory, FrameLength, Memory}
use Rattle.live_migration.proofs.FieldLemmas.{IsBytes, bind_ok, guard_ok, guard_true, ok_is, Takes, Takes-then, wide32, wide64, number_takes, number_again}

-- ---- the front

front_bytes : Bool → ℕ → List ℕ
front_bytes d n = to_le_bytes w64 0x5441_5247_494d_4d56
    ++ (to_le_bytes w32 2 ++ (to_le_bytes w32 (option_bits d) ++ to_le_bytes w32 n))

-- the bits of an option that is told
bits_are : (n : ℕ) → n < 2 → option_bits (eqb n 1) ≡ n
bits_are zero l = refl
bits_are (suc zero) l = refl
bits_are (suc (suc n)) l = absurd (omega arith)

-- a test that was passed, and what came after it
passed : {A : Type 0} (b : Bool) (r : Result A Refusal) (e : Refusal) (x : A) → cond b r (Err e) ≡ Ok x
    → (b ≡ true) × (r ≡ Ok x)
passed true r e x h = (refl, h)
passed false r e x h = absurd cc

-- what follows the version
options_take : (bytes : List ℕ) (x : Bool × ℕ × List ℕ) → IsBytes bytes
    → (number_at w32 bytes >>= λ options. cond (ltb options.0 2) (number_at w32 options.1) (Err Options) >>= λ count.
    cond (ltb 256 count.0) (Err BlockCount) (Ok (eqb options.0 1, count.0, count.1))) ≡ Ok x
    → Takes bytes (to_le_bytes w32 (option_bits x.0) ++ to_le_bytes w32 x.1) x.2 × (x.1 ≤ 256)
options_take bytes x fits e =
    let b = bind_ok (number_at w32 bytes) (λ options.
    cond (ltb options.0 2) (number_at w32 options.1) (Err Options) >>= λ count.
    cond (ltb 256 count.0) (Err BlockCount) (Ok (eqb options.0 1, count.0, count.1))) x e in
    let c = bind_ok (cond (ltb b.0.0 2) (number_at w32 b.0.1) (Err Options)) (λ count.
    cond (ltb 256 count.0) (Err BlockCount) (Ok (eqb b.0.0 1, count.0, count.1))) x b.2 in
    let made : Bool × ℕ × List ℕ = (eqb b.0.0 1, c.0.0, c.0.1) in
    let g = guard_ok (ltb 256 c.0.0) BlockCount made x c.2 in
    let q = passed (ltb b.0.0 2) (number_at w32 b.0.1) Options c.0 c.1 in
    let u = number_takes w32 (2 ^ 32) wide32 bytes b.0.0 b.0.1 fits b.1 in
    let v = number_takes w32 (2 ^ 32) wide32 b.0.1 c.0.0 c.0.1 u.0.rest_fits q.1 in
    let u' : Takes bytes (to_le_bytes w32 (option_bits (eqb b.0.0 1))) b.0.1 =
    subst (λ (n : ℕ). Takes bytes (to_le_bytes w32 n) b.0.1) (sym (bits_are b.0.0 (ltb-true _ _ q.0))) u.0 in
    let uv = Takes-then bytes (to_le_bytes w32 (option_bits (eqb b.0.0 1))) b.0.1 (to_le_bytes w32 c.0.0) c.0.1 u' v.0
    in
    subst (λ (y : Bool × ℕ × List ℕ).
    Takes bytes (to_le_bytes w32 (option_bits y.0) ++ to_le_bytes w32 y.1) y.2 × (y.1 ≤ 256)) g.1
    (uv, ltb-false _ _ g.0)

front_takes : (bytes : List ℕ) (x : Bool × ℕ × List ℕ) → IsBytes bytes → front_in bytes ≡ Ok x
    → Takes bytes (front_bytes x.0 x.1) x.2 × (x.1 ≤ 256)
unfolding front_in front_bytes
front_takes bytes x fits e =
    let a = bind_ok (number_at w64 bytes) (λ word.
    cond (eqb word.0 0x5441_5247_494d_4d56) (number_at w32 word.1) (Err Magic) >>= λ version.
    cond (eqb version.0 2) (number_at w32 version.1) (Err Version) >>= λ options.
    cond (ltb options.0 2) (number_at w32 options.1) (Err Options) >>= λ count.
    cond (ltb 256 count.0) (Err BlockCount) (Ok (eqb options.0 1, count.0, count.1))) x e in
    let b = bind_ok (cond (eqb a.0.0 0x5441_5247_494d_4d56) (number_at w32 a.0.1) (Err Magic)) (λ version.
    cond (eqb version.0 2) (number_at w32 version.1) (Err Version) >>= λ options.
    cond (ltb options.0 2) (number_at w32 options.1) (Err Options) >>= λ count.
    cond (ltb 256 count.0) (Err BlockCount) (Ok (eqb options.0 1, count.0, count.1))) x a.2 in
    let p = passed (eqb a.0.0 0x5441_5247_494d_4d56) (number_at w32 a.0.1) Magic b.0 b.1 in
    let c = bind_ok (cond (eqb b.0.0 2) (number_at w32 b.0.1) (Err Version)) (λ options.
    cond (ltb options.0 2) (number_at w32 options.1) (Err Options) >>= λ count.
    cond (ltb 256 count.0) (Err BlockCount) (Ok (eqb options.0 1, count.0, count.1))) x b.2 in
    let q = passed (eqb b.0.0 2) (number_at w32 b.0.1) Version c.0 c.1 in
    let t = number_takes w64 (2 ^ 64) wide64 bytes a.0.0 a.0.1 fits a.1 in
    let u = number_takes w32 (2 ^ 32) wide32 a.0.1 b.0.0 b.0.1 t.0.rest_fits p.1 in
    let v = options_take b.0.1 x u.0.rest_fits (ap (λ (r : Result (ℕ × List ℕ) Refusal). r >>= λ options.
    cond (ltb options.0 2) (number_at w32 options.1) (Err Options) >>= λ count.
    cond (ltb 256 count.0) (Err BlockCount) (Ok (eqb options.0 1, count.0, count.1))) q.1 ∙ c.2) in
    let t' : Takes bytes (to_le_bytes w64 0x5441_5247_494d_4d56) a.0.1 =
    subst (λ (n : ℕ). Takes bytes (to_le_bytes w64 n) a.0.1) (eqb-true _ _ p.0) t.0 in
    let u' : Takes a.0.1 (to_le_bytes w32 2) b.0.1 =
    subst (λ (n : ℕ). Takes a.0.1 (to_le_bytes w32 n) b.0.1) (eqb-true _ _ q.0) u.0 in
    let rest = to_le_bytes w32 (option_bits x.0) ++ to_le_bytes w32 x.1 in
    let uv = Takes-then a.0.1 (to_le_bytes w32 2) b.0.1 rest x.2 u' v.0 in
    (Takes-then bytes (to_le_bytes w64 0x5441_5247_494d_4d56) a.0.1 (to_le_bytes w32 2 ++ rest) x.2 t' uv, v.1)

-- what was spelled of options is read
options_again : (d : Bool) → (ltb (option_bits d) 2 ≡ true) × (eqb (option_bits d) 1 ≡ d) × (option_bits d < 2 ^ 32)
options_again true = (refl, refl, lit< tt)
options_again false = (refl, refl, lit< tt)

-- a front, and what lies after it
abbrev front_text : Bool → ℕ → List ℕ → List ℕ
front_text d n rest = to_le_bytes w64 0x5441_5247_494d_4d56
    ++ (to_le_bytes w32 2 ++ (to_le_bytes w32 (option_bits d) ++ (to_le_bytes w32 n ++ rest)))

front_again : (d : Bool) (n : ℕ) (rest : List ℕ) → n ≤ 256 → front_in (front_text d n rest) ≡ Ok (d, n, rest)
unfolding front_in
front_again d n rest few =
    let count : ltb 256 n ≡ false = le-ltb _ _ few in
    let o = options_again d in
    rw (
      number_again w64 (2 ^ 64) wide64 0x5441_5247_494d_4d56
          (to_le_bytes w32 2 ++ (to_le_bytes w32 (option_bits d) ++ (to_le_bytes w32 n ++ rest))) (lit< tt),
      number_again w32 (2 ^ 32) wide32 2 (to_le_bytes w32 (option_bits d) ++ (to_le_bytes w32 n ++ rest)) (lit< tt),
      number_again w32 (2 ^ 32) wide32 (option_bits d) (to_le_bytes w32 n ++ rest) o.2,
      o.0,
      number_again w32 (2 ^ 32) wide32 n rest (omega arith),
      count,
      o.1,
    ) refl

front_many : (d : Bool) (n : ℕ) (rest : List ℕ) → 256 < n → n < 2 ^ 32
    → front_in (front_text d n rest) ≡ Err BlockCount
unfolding front_in
front_many d n rest many fits =
    let count : ltb 256 n ≡ true = lt-ltb _ _ many in
    let o = options_again d in
    rw (
      number_again w64 (2 ^ 64) wide64 0x5441_5247_494d_4d56
          (to_le_bytes w32 2 ++ (to_le_bytes w32 (option_bits d) ++ (to_le_bytes w32 n ++ rest))) (lit< tt),
      number_again w32 (2 ^ 32) wide32 2 (to_le_bytes w32 (option_bits d) ++ (to_le_bytes w32 n ++ rest)) (lit< tt),
      number_again w32 (2 ^ 32) wide32 (option_bits d) (to_le_bytes w32 n ++ rest) o.2,
      o.0,
      number_again w32 (2 ^ 32) wide32 n rest fits,
      count,
    ) refl

-- ---- an entry

checked_is : (from left : ℕ) (e x : BlockEntry) → checked from left e ≡ Ok x → IsEntry from left e × (e ≡ x)
checked_is from left e x h =
    let a = passed (ltb 0 e.len && ltb e.len (2 ^ 63)) _ BlockLength x h in
    let b = passed (ltb 0 e.page_size && leb e.page_size (2 ^ 20)) _ PageSize x a.1 in
    let c = passed (leb from e.address && ltb (e.address + e.len) (2 ^ 64)) _ Place x b.1 in
    let d = guard_true (leb e.len left) TooMuchMemory e x c.1 in
    let pa = and_parts _ _ a.0 in
    let pb = and_parts _ _ b.0 in
    let pc = and_parts _ _ c.0 in (
      record {
        some = ltb-true _ _ pa.0;
        short = ltb-true _ _ pa.1;
        paged = ltb-true _ _ pb.0;
        small = leb-true _ _ pb.1;
        ascends = leb-true _ _ pc.0;
        addressed = ltb-true _ _ pc.1;
        allowed = leb-true _ _ d.0;
      },
      d.1,
    )

checked_again : (from left : ℕ) (e : BlockEntry) → IsEntry from left e → checked from left e ≡ Ok e
checked_again from left e is =
    let a : (ltb 0 e.len && ltb e.len (2 ^ 63)) ≡ true = and_from _ _ (lt-ltb _ _ is.some) (lt-ltb _ _ is.short) in
    let b : (ltb 0 e.page_size && leb e.page_size (2 ^ 20)) ≡ true =
    and_from _ _ (lt-ltb _ _ is.paged) (le-leb _ _ is.small) in
    let c : (leb from e.address && ltb (e.address + e.len) (2 ^ 64)) ≡ true =
    and_from _ _ (le-leb _ _ is.ascends) (lt-ltb _ _ is.addressed) in
    let d : leb e.len left ≡ true = le-leb _ _ is.allowed in
    rw (a, b, c, d) refl

entry_takes : (from left : ℕ) (bytes : List ℕ) (x : BlockEntry × List ℕ) → IsBytes bytes
    → entry_in from left bytes ≡ Ok x → Takes bytes (entry_bytes x.0) x.1 × IsEntry from left x.0
unfolding entry_in
entry_takes from left bytes x fits e =
    let a = bind_ok (number_at w64 bytes) (λ len. number_at w64 len.1 >>= λ size. number_at w64 size.1 >>= λ address.
    checked from left (record { len = len.0; page_size = size.0; address = address.0 }) >>= λ y. Ok (y, address.1))
    x e in
    let b = bind_ok (number_at w64 a.0.1) (λ size. number_at w64 size.1 >>= λ address.
    checked from left (record { len = a.0.0; page_size = size.0; address = address.0 }) >>= λ y. Ok (y, address.1))
    x a.2 in
    let c = bind_ok (number_at w64 b.0.1) (λ address.
    checked from left (record { len = a.0.0; page_size = b.0.0; address = address.0 }) >>= λ y. Ok (y, address.1))
    x b.2 in
    let made : BlockEntry = record { len = a.0.0; page_size = b.0.0; address = c.0.0 } in
    let d = bind_ok (checked from left made) (λ y. Ok (y, c.0.1)) x c.2 in
    let is = checked_is from left made d.0 d.1 in
    let t = number_takes w64 (2 ^ 64) wide64 bytes a.0.0 a.0.1 fits a.1 in
    let u = number_takes w64 (2 ^ 64) wide64 a.0.1 b.0.0 b.0.1 t.0.rest_fits b.1 in
    let v = number_takes w64 (2 ^ 64) wide64 b.0.1 c.0.0 c.0.1 u.0.rest_fits c.1 in
    let uv = Takes-then a.0.1 (to_le_bytes w64 b.0.0) b.0.1 (to_le_bytes w64 c.0.0) c.0.1 u.0 v.0 in
    let all = Takes-then bytes (to_le_bytes w64 a.0.0) a.0.1 (to_le_bytes w64 b.0.0 ++ to_le_bytes w64 c.0.0) c.0.1
    t.0 uv in
    let whole : Takes bytes (entry_bytes d.0) c.0.1 × IsEntry from left d.0 =
    subst (λ (y : BlockEntry). Takes bytes (entry_bytes y) c.0.1 × IsEntry from left y) is.1 (all, is.0) in
    subst (λ (y : BlockEntry × List ℕ). Takes bytes (entry_bytes y.0) y.1 × IsEntry from left y.0)
    (ok_is (d.0, c.0.1) x d.2) whole

-- what was spelled is read, and then checked
entry_read : (from left : ℕ) (e : BlockEntry) (rest : List ℕ) → FitsFields e
    → entry_in from left (to_le_bytes w64 e.len ++ (to_le_bytes w64 e.page_size ++ (to_le_bytes w64 e.address ++ rest)))
    ≡ (checked from left e >>= λ y. Ok (y, rest))
unfolding entry_in
entry_read from left e rest fits =
    rw (
      number_again w64 (2 ^ 64) wide64 e.len (to_le_bytes w64 e.page_size ++ (to_le_bytes w64 e.address ++ rest))
          fits.len,
      number_again w64 (2 ^ 64) wide64 e.page_size (to_le_bytes w64 e.address ++ rest) fits.page_size,
      number_again w64 (2 ^ 64) wide64 e.address rest fits.address,
    ) refl

entries_take : (n from left : ℕ) (bytes : List ℕ) (x : List BlockEntry × List ℕ) → IsBytes bytes
    → entries_in n from left bytes ≡ Ok x
    → Takes bytes (flat_map entry_bytes x.0) x.1 × (length x.0 ≡ n) × AreEntries from left x.0
unfolding entries_in
entries_take zero from left bytes x fits e =
    subst (λ (y : List BlockEntry × List ℕ).
    Takes bytes (flat_map entry_bytes y.0) y.1 × (length y.0 ≡ 0) × AreEntries from left y.0)
    (ok_is ([], bytes) x e) (record { parts = refl; rest_fits = fits }, refl, tt)
entries_take (suc n) from left bytes x fits e =
    let a = bind_ok (entry_in from left bytes) (λ first.
    entries_in n (first.0.address + first.0.len) (left - first.0.len) first.1 >>= λ others.
    Ok (first.0 ∷ others.0, others.1)) x e in
    let from' = a.0.0.address + a.0.0.len in
    let left' = left - a.0.0.len in
    let b = bind_ok (entries_in n from' left' a.0.1) (λ others. Ok (a.0.0 ∷ others.0, others.1)) x a.2 in
    let first = entry_takes from left bytes a.0 fits a.1 in
    let second = entries_take n from' left' a.0.1 b.0 first.0.rest_fits b.1 in
    let both = Takes-then bytes (entry_bytes a.0.0) a.0.1 (flat_map entry_bytes b.0.0) b.0.1 first.0 second.0 in
    let made : List BlockEntry × List ℕ = (a.0.0 ∷ b.0.0, b.0.1) in
    subst (λ (y : List BlockEntry × List ℕ).
    Takes bytes (flat_map entry_bytes y.0) y.1 × (length y.0 ≡ suc n) × AreEntries from left y.0)
    (ok_is made x b.2) (rw flat_map-cons both, ap suc second.1, (first.1, second.2))

entry_again : (from left : ℕ) (e : BlockEntry) (rest : List ℕ) → IsEntry from left e
    → entry_in from left (to_le_bytes w64 e.len ++ (to_le_bytes w64 e.page_size ++ (to_le_bytes w64 e.address ++ rest)))
    ≡ Ok (e, rest)
entry_again from left e rest is =
    let short = is.short in
    let small = is.small in
    let addressed = is.addressed in
    entry_read from left e rest (record { len = omega arith; page_size = omega arith; address = omega arith })
    ∙ rw (checked_again from left e is) refl

entry_first : (e : BlockEntry) (es : List BlockEntry) (rest : List ℕ) → flat_map entry_bytes (e ∷ es) ++ rest
    ≡ to_le_bytes w64 e.len ++ (to_le_bytes w64 e.page_size ++ (to_le_bytes w64 e.address
    ++ (flat_map entry_bytes es ++ rest)))
entry_first e es rest =
    ap (λ (x : List ℕ). x ++ rest) (flat_map-cons entry_bytes e es)
    ∙ append_assoc (entry_bytes e) (flat_map entry_bytes es) rest

entries_again : (es : List BlockEntry) (from left : ℕ) (rest : List ℕ) → AreEntries from left es
    → entries_in (length es) from left (flat_map entry_bytes es ++ rest) ≡ Ok (es, rest)
unfolding entries_in
entries_again [] from left rest are = refl
entries_again (e ∷ es) from left rest are =
    let tail = flat_map entry_bytes es ++ rest in
    ap (entries_in (suc (length es)) from left) (entry_first e es rest)
    ∙ rw (entry_again from left e tail are.0, entries_again es (e.address + e.len) (left - e.len) rest are.1) refl

-- ---- all of it

pub header_takes : (limit : ℕ) (bytes : List ℕ) (h : Bool × List BlockEntry) → IsBytes bytes
    → header_in limit bytes ≡ Ok h → IsHeader limit h.1 × (bytes ≡ header_bytes h.0 h.1)
unfolding header_in header_bytes front_bytes
header_takes limit bytes h fits e =
    let a = bind_ok (front_in bytes) (λ front. entries_in front.1 0 limit front.2 >>= λ x.
    cond (eqb (length x.1) 0) (Ok (front.0, x.0)) (Err FrameLength)) h e in
    let b = bind_ok (entries_in a.0.1 0 limit a.0.2) (λ x.
    cond (eqb (length x.1) 0) (Ok (a.0.0, x.0)) (Err FrameLength)) h a.2 in
    let made : Bool × List BlockEntry = (a.0.0, b.0.0) in
    let g = guard_true (eqb (length b.0.1) 0) FrameLength made h b.2 in
    let first = front_takes bytes a.0 fits a.1 in
    let second = entries_take a.0.1 0 limit a.0.2 b.0 first.0.rest_fits b.1 in
    let nothing : b.0.1 ≡ [] = nil_from_length b.0.1 (eqb-true _ _ g.0) in
    let tail : a.0.2 ≡ flat_map entry_bytes b.0.0 =
    second.0.parts ∙ ap (λ (r : List ℕ). flat_map entry_bytes b.0.0 ++ r) nothing ∙ append-nil _ in
    let whole : bytes ≡ header_bytes a.0.0 b.0.0 =
    first.0.parts ∙ ap (λ (r : List ℕ). front_bytes a.0.0 a.0.1 ++ r) tail
    ∙ ap (λ (n : ℕ). front_bytes a.0.0 n ++ flat_map entry_bytes b.0.0) (sym second.1)
    ∙ simp append_assoc in
    subst (λ (v : Bool × List BlockEntry). IsHeader limit v.1 × (bytes ≡ header_bytes v.0 v.1)) g.1
    ((omega (arith, second.1, first.1), second.2), whole)

pub header_again : (limit : ℕ) (d : Bool) (es : List BlockEntry) → IsHeader limit es
    → header_in limit (header_bytes d es) ≡ Ok (d, es)
unfolding header_in header_bytes
header_again limit d es is =
    let last : entries_in (length es) 0 limit (flat_map entry_bytes es) ≡ Ok (es, []) =
    ap (entries_in (length es) 0 limit) (sym (append-nil (flat_map entry_bytes es)))
    ∙ entries_again es 0 limit [] is.1 in
    rw (front_again d (length es) (flat_map entry_bytes es) is.0, last) refl

-- a header of too many blocks
pub header_many : (limit : ℕ) (d : Bool) (es : List BlockEntry) → 256 < length es → length es < 2 ^ 32
    → header_in limit (header_bytes d es) ≡ Err BlockCount
unfolding header_in header_bytes
header_many limit d es many fits = rw (front_many d (length es) (flat_map entry_bytes es) many fits) refl

pub header_found : (limit : ℕ) (bytes : List ℕ) (r : Result Header Refusal) → IsBytes bytes
    → GivesUnlessMemory parts_of r (header_in limit bytes)
    → IfOk r (λ h. IsHeader limit h.entries.items × (bytes ≡ header_bytes h.options.digests h.entries.items))
header_found limit bytes (Ok h) fits given = header_takes limit bytes (h.options.digests, h.entries.items) fits given
header_found limit bytes (Err e) fits given = tt

-- ---- two headers in front of the same bytes

wider_entries : (es : List BlockEntry) (from left more : ℕ) → left ≤ more → AreEntries from left es
    → AreEntries from more es
wider_entries [] from left more l are = tt
wider_entries (e ∷ es) from left more l are =
    let is = are.0 in
    let allowed = is.allowed in (
      record {
        some = is.some;
        short = is.short;
        paged = is.paged;
        small = is.small;
        ascends = is.ascends;
        addressed = is.addressed;
        allowed = omega arith;
      },
      wider_entries es (e.address + e.len) (left - e.len) (more - e.len) (omega arith) are.1,
    )

-- a header, from left to right
header_parts : (d : Bool) (es : List BlockEntry) (x : List ℕ)
    → header_bytes d es ++ x ≡ front_text d (length es) (flat_map entry_bytes es ++ x)
unfolding header_bytes
header_parts d es x = simp append_assoc

abbrev front : Bool × ℕ × List ℕ → Result (Bool × ℕ × List ℕ) Refusal
front p = Ok p

abbrev listed : List BlockEntry × List ℕ → Result (List BlockEntry × List ℕ) Refusal
listed p = Ok p

same_pairs : {X Y : Type 0} (a b : X) (x y : Y) → ◌≡◌ {A = X × Y} (a, x) (b, y) → (a ≡ b) × (x ≡ y)
same_pairs {X} {Y} a b x y e = (ap (λ (p : X × Y). p.0) e, ap (λ (p : X × Y). p.1) e)

same_fronts : (d e : Bool) (m n : ℕ) (x y : List ℕ) → front (d, m, x) ≡ front (e, n, y)
    → (d ≡ e) × (m ≡ n) × (x ≡ y)
same_fronts d e m n x y h =
    let same : ◌≡◌ {A = Bool × ℕ × List ℕ} (d, m, x) (e, n, y) = ok_is (d, m, x) (e, n, y) h in (
      ap (λ (p : Bool × ℕ × List ℕ). p.0) same,
      ap (λ (p : Bool × ℕ × List ℕ). p.1) same,
      ap (λ (p : Bool × ℕ × List ℕ). p.2) same,
    )

-- the options and blocks of a header, and what lies after it, are decided by the bytes
pub same_header : (limit most : ℕ) (d d' : Bool) (es fs : List BlockEntry) (x y : List ℕ) → IsHeader limit es
    → IsHeader most fs → header_bytes d es ++ x ≡ header_bytes d' fs ++ y → (d ≡ d') × (es ≡ fs) × (x ≡ y)
same_header limit most d d' es fs x y a b e =
    let tail = flat_map entry_bytes es ++ x in
    let tail' = flat_map entry_bytes fs ++ y in
    let fronts : front (d, length es, tail) ≡ front (d', length fs, tail') =
    sym (front_again d (length es) tail a.0) ∙ ap front_in (sym (header_parts d es x) ∙ e ∙ header_parts d' fs y)
    ∙ front_again d' (length fs) tail' b.0 in
    let counts = same_fronts d d' (length es) (length fs) tail tail' fronts in
    let lists : listed (es, x) ≡ listed (fs, y) =
    sym (entries_again es 0 (limit + most) x (wider_entries es 0 limit (limit + most) (omega arith) a.1))
    ∙ ap (λ (n : ℕ). entries_in n 0 (limit + most) tail) counts.1
    ∙ ap (entries_in (length fs) 0 (limit + most)) counts.2
    ∙ entries_again fs 0 (limit + most) y (wider_entries fs 0 most (limit + most) (omega arith) b.1) in
    let rest = same_pairs es fs x y (ok_is (es, x) (fs, y) lists) in
    (counts.0, rest.0, rest.1)

-- ---- blocks that are checked one after the other

-- some are left, and what comes of them comes of all
pub record StillLeft (limit : ℕ) (es : List BlockEntry) (from left : ℕ) (rest : List BlockEntry) : Type 0 where
  pub are : AreEntries from left rest → AreEntries 0 limit es
  pub refused : (f : Refusal) → entries_in (length rest) from left (flat_map entry_bytes rest) ≡ Err f
      → entries_in (length es) 0 limit (flat_map entry_bytes es) ≡ Err f

pub all_left : (limit : ℕ) (es : List BlockEntry) → StillLeft limit es 0 limit es
all_left limit es = record { are = λ are. are; refused = λ f h. h }

module _ (limit : ℕ) (es : List BlockEntry) (from left : ℕ) (e : BlockEntry) (rest : List BlockEntry)
    (still : StillLeft limit es from left (e ∷ rest))
  where
    first_is : flat_map entry_bytes (e ∷ rest)
        ≡ to_le_bytes w64 e.len ++ (to_le_bytes w64 e.page_size ++ (to_le_bytes w64 e.address ++ flat_map entry_bytes rest))
    first_is = flat_map-cons entry_bytes e rest ∙ simp append_assoc

    pub one_refused : (f : Refusal) → FitsFields e → checked from left e ≡ Err f
        → entries_in (length es) 0 limit (flat_map entry_bytes es) ≡ Err f
    unfolding entries_in
    one_refused f fits h =
        still.refused f (ap (entries_in (suc (length rest)) from left) first_is
        ∙ rw (entry_read from left e (flat_map entry_bytes rest) fits, h) refl)

    pub one_passed : (y : BlockEntry) → checked from left e ≡ Ok y
        → StillLeft limit es (y.address + y.len) (left - y.len) rest
    unfolding entries_in
    one_passed y h =
        let is = checked_is from left e y h in
        let next : StillLeft limit es (e.address + e.len) (left - e.len) rest = record {
          are = λ are. still.are (is.0, are);
          refused = λ f later. still.refused f (ap (entries_in (suc (length rest)) from left) first_is
              ∙ rw (entry_again from left e (flat_map entry_bytes rest) is.0, later) refl);
        } in
        subst (λ (z : BlockEntry). StillLeft limit es (z.address + z.len) (left - z.len) rest) is.1 next

-- what it means for the header that one was refused
pub is_refused : (limit : ℕ) (es : List BlockEntry) (f : Refusal) (r : Result (Unit {0}) Refusal) → r ≡ Err f
    → length es ≤ 256 → entries_in (length es) 0 limit (flat_map entry_bytes es) ≡ Err f
    → (IsOk r ↔ IsHeader limit es)
    × ((d : Bool) → Gives (λ _. (d, es)) r (header_in limit (header_bytes d es)))
unfolding header_in header_bytes
is_refused limit es f r is few h =
    let read : (d : Bool) → header_in limit (header_bytes d es) ≡ Err f =
    λ d. rw (front_again d (length es) (flat_map entry_bytes es) few, h) refl in
    let none : IsHeader limit es → ⊥ = λ are.
    let again = header_again limit true es are in
    let once = read true in
    absurd cc in
    rw is (((λ ok. absurd cc), (λ are. absurd (none are))), read)

-- an error that reading gives
pub unless_memory : (e : Refusal) (read : Result (List BlockEntry × List ℕ) Refusal) → read ≡ Err e
    → GivesUnlessMemory {X = Vec BlockEntry × Bor (List ℕ)} (λ x. (x.0.items, x.1.now)) (Err e) read
unless_memory refusal.Memory read h = tt
unless_memory refusal.Magic read h = h
unless_memory refusal.Version read h = h
unless_memory refusal.BlockCount read h = h
unless_memory refusal.BlockLength read h = h
unless_memory refusal.PageSize read h = h
unless_memory refusal.Place read h = h
unless_memory refusal.TooMuchMemory read h = h
unless_memory refusal.FrameKind read h = h
unless_memory refusal.FrameLength read h = h
unless_memory refusal.Block read h = h
unless_memory refusal.Page read h = h
unless_memory refusal.CutPage read h = h
unless_memory refusal.Order read h = h
unless_memory refusal.Digest read h = h
unless_memory refusal.Ended read h = h
unless_memory refusal.Failed read h = h
unless_memory refusal.Options read h = h

-- one entry more is written
pub entry_after : (front out new : List ℕ) (es : List BlockEntry) (i : ℕ) (d : BlockEntry) → i < length es
    → out ≡ front ++ flat_map entry_bytes (take i es) → new ≡ out ++ entry_bytes (get_or es i d)
    → new ≡ front ++ flat_map entry_bytes (take (i + 1) es)
entry_after front out new es i d l e f =
    f ∙ ap (λ (x : List ℕ). x ++ entry_bytes (get_or es i d)) e
    ∙ flat_map_more entry_bytes front (take i es) (get_or es i d)
    ∙ ap (λ (x : List BlockEntry). front ++ flat_map entry_bytes x) (sym (take_more es i d l))
