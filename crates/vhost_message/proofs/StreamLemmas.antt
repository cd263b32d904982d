-- Streams are cut into their messages in one way, and by calls.
use Rattle.std.proofs.Common.{◌≡◌, ℕ, ◌+◌, ◌-◌, ◌<◌, ◌≤◌, min, nat_lt, Bool, true, false, cond, List, [], ◌∷◌, ◌++◌, length, take, drop, Result, Ok, Err, arith, refl, sym, ap, subst, ◌∙◌, append_assoc}
use Rattle.std.proofs.lemmas.Bool.{le-ltb, lt-ltb, ltb-false, ltb-true}
use Rattle.std.proofs.lemmas.List.{append-nil, drop-take, drop_at, length-append, length-take, nil_from_length, take-append-le, take-take, take_at}
use Rattle.vhost_message.specs.FrontendReq.{◌>>=◌}
use Rattle.vhost_message.specs.Header.{header_in}
use Rattle.vhost_message.specs.Requests.{expected}
use Rattle.vhost_message.specs.Stream.{AreMessages, Call, IsMessage, IsRest, Runs, bytes_of, len_of, messages_of, stream_of, wanted}
use Rattle.vhost_message.specs.Stream.Call.{Fed, Took}
use Rattle.vhost_message.specs.declared.header.Header.{Header}
use Rattle.vhost_message.specs.declared.refusal.Refusal.{Refusal}
use Rattle.vhost_message.specs.declared.requests.Expected.{Expected}

-- ---- headers

-- a header is its first 12 bytes
header_front : (xs : List ℕ) → header_in (take 12 xs) ≡ header_in xs
header_front xs =
    rw (
      take-take 4 12 xs (omega arith),
      drop-take 4 8 xs,
      take-take 4 8 (drop 4 xs) (omega arith),
      drop-take 8 4 xs,
      take-take 4 4 (drop 8 xs) (omega arith),
    ) refl

header_grows : (xs ys : List ℕ) → 12 ≤ length xs → header_in (xs ++ ys) ≡ header_in xs
header_grows xs ys long =
    sym (header_front (xs ++ ys)) ∙ ap header_in (take-append-le 12 xs ys long) ∙ header_front xs

len_grows : (xs ys : List ℕ) → 12 ≤ length xs → len_of (xs ++ ys) ≡ len_of xs
len_grows xs ys long =
    ap (λ (h : Header). expected h >>= λ (e : Expected). Ok (12 + e.payload)) (header_grows xs ys long)

abbrev known : ℕ → Result ℕ Refusal
known n = Ok n

known_is : (m n : ℕ) → known m ≡ known n → m ≡ n
known_is m n e = cc

bind_ok : {A : Type 0} (r : Result A Refusal) (f : A → ℕ) (y : ℕ) → (r >>= λ x. known (f x)) ≡ known y
    → (x : A) × (r ≡ Ok x) × (f x ≡ y)
bind_ok (Ok x) f y e = (x, refl, known_is (f x) y e)
bind_ok (Err d) f y e = absurd cc

-- a message has a header
len_least : (xs : List ℕ) (n : ℕ) → len_of xs ≡ known n → 12 ≤ n
len_least xs n e =
    let x = bind_ok (expected (header_in xs)) (λ (e : Expected). 12 + e.payload) n e in
    omega (arith, x.2)

-- ---- one way

-- two messages that bytes begin with are one
same_message : (m n x y : List ℕ) → IsMessage m → IsMessage n → m ++ x ≡ n ++ y → m ≡ n
same_message m n x y p q e =
    let long : 12 ≤ length m = p.0 in
    let longer : 12 ≤ length n = q.0 in
    let same : known (length m) ≡ known (length n) =
    sym p.1 ∙ sym (len_grows m x long) ∙ ap len_of e ∙ len_grows n y longer ∙ q.1 in
    let len : length n ≡ length m = sym (known_is (length m) (length n) same) in
    sym (take_at m x (length m) refl) ∙ ap (λ (t : List ℕ). take (length m) t) e ∙ take_at n y (length m) len

same_rest : (m n x y : List ℕ) → m ≡ n → m ++ x ≡ n ++ y → x ≡ y
same_rest m n x y same e =
    sym (drop_at m x (length m) refl) ∙ ap (λ (t : List ℕ). drop (length m) t) e
    ∙ drop_at n y (length m) (ap length (sym same))

pub one_way : (ms ns : List (List ℕ)) (x y : List ℕ) → AreMessages ms → AreMessages ns → IsRest x → IsRest y
    → stream_of ms x ≡ stream_of ns y → (ms ≡ ns) × (x ≡ y)
one_way [] [] x y p q no_x no_y e = (refl, e)
one_way [] (n ∷ ns) x y p q no_x no_y e = absurd (no_x n (stream_of ns y) q.0 e)
one_way (m ∷ ms) [] x y p q no_x no_y e = absurd (no_y m (stream_of ms x) p.0 (sym e))
one_way (m ∷ ms) (n ∷ ns) x y p q no_x no_y e =
    let first = same_message m n (stream_of ms x) (stream_of ns y) p.0 q.0 e in
    let others = one_way ms ns x y p.1 q.1 no_x no_y
    (same_rest m n (stream_of ms x) (stream_of ns y) first e) in
    (ap (λ (k : List ℕ). k ∷ ms) first ∙ ap (λ (ks : List (List ℕ)). n ∷ ks) others.0, others.1)

-- ---- calls

-- no more is kept than a message
abbrev IsKept : List ℕ → Type 0
IsKept kept = (n : ℕ) → 12 ≤ length kept → len_of kept ≡ known n → length kept ≤ n

wanted_short : (kept : List ℕ) → length kept < 12 → wanted kept ≡ known (12 - length kept)
wanted_short kept short =
    ap (λ (b : Bool). cond b (known (12 - length kept)) (len_of kept >>= λ (n : ℕ). known (n - length kept)))
    (lt-ltb (length kept) 12 short)

wanted_long : (kept : List ℕ) → 12 ≤ length kept → wanted kept ≡ (len_of kept >>= λ (n : ℕ). known (n - length kept))
wanted_long kept long =
    ap (λ (b : Bool). cond b (known (12 - length kept)) (len_of kept >>= λ (n : ℕ). known (n - length kept)))
    (le-ltb (length kept) 12 long)

-- a number is below another, or it is not
by_order : (P : Type 0) (a b : ℕ) → (a < b → P) → (b ≤ a → P) → P
by_order P a b less more = decided (nat_lt a b) refl
  where
    decided : (t : Bool) → nat_lt a b ≡ t → P
    decided true e = less (ltb-true a b e)
    decided false e = more (ltb-false a b e)

-- how many bytes are wanted of what is kept
long_wants : (kept : List ℕ) (w : ℕ) → 12 ≤ length kept → wanted kept ≡ known w
    → (n : ℕ) × (len_of kept ≡ known n) × (n - length kept ≡ w)
long_wants kept w long e = long_bind (len_of kept) (sym (wanted_long kept long) ∙ e)
  where
    long_bind : (r : Result ℕ Refusal) → (r >>= λ (n : ℕ). known (n - length kept)) ≡ known w
        → (n : ℕ) × (r ≡ known n) × (n - length kept ≡ w)
    long_bind r e = bind_ok r (λ (n : ℕ). n - length kept) w e

kept_on : (kept more : List ℕ) (w : ℕ) → IsKept kept → wanted kept ≡ known w → length more ≤ w → IsKept (kept ++ more)
kept_on kept more w ok e few n long is_len =
    by_order (length (kept ++ more) ≤ n) (length kept) 12 short full
  where
    short : length kept < 12 → length (kept ++ more) ≤ n
    short s =
        let few_wanted : 12 - length kept ≡ w = known_is (12 - length kept) w (sym (wanted_short kept s) ∙ e) in
        omega (arith, s, few, few_wanted, length-append kept more, len_least (kept ++ more) n is_len)

    full : 12 ≤ length kept → length (kept ++ more) ≤ n
    full l =
        let x = long_wants kept w l e in
        let same : x.0 ≡ n = known_is x.0 n (sym x.1 ∙ sym (len_grows kept more l) ∙ is_len) in
        omega (arith, few, same, x.2, ok x.0 l x.1, length-append kept more)

kept_message : (kept : List ℕ) → IsKept kept → wanted kept ≡ known 0 → IsMessage kept
kept_message kept ok e = by_order (IsMessage kept) (length kept) 12 short full
  where
    short : length kept < 12 → IsMessage kept
    short s =
        let none : 12 - length kept ≡ 0 = known_is (12 - length kept) 0 (sym (wanted_short kept s) ∙ e) in
        absurd (omega (arith, s, none))

    full : 12 ≤ length kept → IsMessage kept
    full l =
        let x = long_wants kept 0 l e in
        let same : x.0 ≡ length kept = omega (arith, x.2, ok x.0 l x.1) in
        (l, x.1 ∙ ap known same)

message_wants : (m : List ℕ) → IsMessage m → wanted m ≡ known 0
message_wants m is =
    wanted_long m is.0 ∙ ap (λ (r : Result ℕ Refusal). r >>= λ (n : ℕ). known (n - length m)) is.1
    ∙ ap known (none (length m))
  where
    none : (n : ℕ) → n - n ≡ 0
    none n = omega arith

-- what is kept and wants more has no message at its front
kept_rest : (kept : List ℕ) → IsKept kept → (wanted kept ≡ known 0 → ⊥) → IsRest kept
kept_rest kept ok wants m more is e =
    let long : 12 ≤ length kept = omega (arith, is.0, ap length e, length-append m more) in
    let same : len_of kept ≡ known (length m) = ap len_of e ∙ len_grows m more is.0 ∙ is.1 in
    let none : length more ≡ 0 =
    omega (arith, ok (length m) long same, ap length e, length-append m more) in
    let whole : kept ≡ m =
    e ∙ ap (λ (t : List ℕ). m ++ t) (nil_from_length more none) ∙ append-nil m in
    wants (ap wanted whole ∙ message_wants m is)

-- ---- lists of messages

stream_on : (ms : List (List ℕ)) (x y : List ℕ) → stream_of ms x ++ y ≡ stream_of ms (x ++ y)
stream_on [] x y = refl
stream_on (m ∷ ms) x y =
    append_assoc m (stream_of ms x) y ∙ ap (λ (t : List ℕ). m ++ t) (stream_on ms x y)

stream_more : (ms : List (List ℕ)) (m : List ℕ) → stream_of (ms ++ m ∷ []) [] ≡ stream_of ms m
stream_more [] m = append-nil m
stream_more (n ∷ ms) m = ap (λ (t : List ℕ). n ++ t) (stream_more ms m)

messages_more : (ms : List (List ℕ)) (m : List ℕ) → AreMessages ms → IsMessage m → AreMessages (ms ++ m ∷ [])
messages_more [] m p q = (q, tt)
messages_more (n ∷ ms) m p q = (p.0, messages_more ms m p.1 q)

-- what calls leave
pub record Cuts (calls : List Call) (kept : List ℕ) : Type 0 where
  pub stream : bytes_of calls ≡ stream_of (messages_of calls) kept
  pub messages : AreMessages (messages_of calls)
  pub ok : IsKept kept

fed_few : (w l : ℕ) (count : ℕ) → known (min w l) ≡ known count → count ≤ w
fed_few w l count e = omega (arith, known_is (min w l) count e)

pub cuts : (calls : List Call) (kept : List ℕ) → Runs calls kept → Cuts calls kept
cuts [] kept e = record { stream = sym e; messages = tt; ok = λ n long is_len. absurd (omega (arith, long, ap length e)) }
cuts (Fed bytes ∷ calls) kept (old, piece, count, run, fed, is) =
    let c = cuts calls old run in
    let w = bind_ok (wanted old) (λ (n : ℕ). min n (length piece)) count fed.0 in
    let few : length bytes ≤ w.0 =
    omega (arith, w.2, ap length is, length-take count piece) in
    let now : kept ≡ old ++ bytes = fed.1 ∙ ap (λ (t : List ℕ). old ++ t) (sym is) in
    record {
      stream = ap (λ (t : List ℕ). t ++ bytes) c.stream ∙ stream_on (messages_of calls) old bytes
          ∙ ap (λ (t : List ℕ). stream_of (messages_of calls) t) (sym now);
      messages = c.messages;
      ok = subst (λ (k : List ℕ). IsKept k) (sym now) (kept_on old bytes w.0 c.ok w.1 few);
    }
cuts (Took message ∷ calls) kept (old, run, took) =
    let c = cuts calls old run in
    record {
      stream = c.stream ∙ ap (λ (t : List ℕ). stream_of (messages_of calls) t) (sym took.1)
          ∙ sym (stream_more (messages_of calls) message)
          ∙ ap (λ (t : List ℕ). stream_of (messages_of calls ++ message ∷ []) t) (sym took.2);
      messages = messages_more (messages_of calls) message c.messages
          (subst (λ (m : List ℕ). IsMessage m) (sym took.1) (kept_message old c.ok took.0));
      ok = λ n long is_len. absurd (omega (arith, long, ap length took.2));
    }

pub rest_of : (calls : List Call) (kept : List ℕ) → Runs calls kept → (wanted kept ≡ known 0 → ⊥) → IsRest kept
rest_of calls kept run wants = kept_rest kept (cuts calls kept run).ok wants
