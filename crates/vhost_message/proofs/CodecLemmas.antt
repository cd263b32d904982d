-- What is encoded is decoded as it was.
use Rattle.std.proofs.Common.{◌≡◌, Bool, true, false, cond, eqb, ℕ, ◌+◌, ◌-◌, ◌^◌, ◌<◌, Result, Ok, Err, refl, sym, ap, subst, ◌∙◌, arith}
use Rattle.std.specs.Prelude.{IfOk}
use Rattle.std.specs.Int.{w32, w64, from_le_bytes, to_le_bytes}
use Rattle.std.proofs.lemmas.Bool.{eqb-true, eqb-false, ne_eqb, ltb-false, le-ltb, cond-false}
use Rattle.std.proofs.lemmas.Nat.{from_le_bytes-to_le_bytes_4, from_le_bytes-to_le_bytes_8}
use Rattle.vm_memory_base.specs.Table.{overruns}
use Rattle.vm_memory_base.specs.declared.iotlb.Permissions.{Permissions}
use Rattle.vm_memory_base.specs.declared.iotlb.Permissions.TheVariants.{No, Read, Write, ReadWrite}
use Rattle.vhost_message.specs.Header.{IsHeader, header_bytes, header_in}
use Rattle.vhost_message.specs.Iotlb.{◌>>=◌, IsAccess, IsMessage, IsRange, Spells, fields_in, fields_of, message_in, payload_bytes, permissions_in, range_in}
use Rattle.vhost_message.specs.declared.header.Header.{Header}
use Rattle.vhost_message.specs.declared.refusal.Malformed.{Malformed}
use Rattle.vhost_message.specs.declared.refusal.Malformed.TheVariants as malformed
use Rattle.vhost_message.specs.declared.iotlb.Fields.{Fields}
use Rattle.vhost_message.specs.declared.iotlb.IotlbMessage.{IotlbMessage}
use Rattle.vhost_message.specs.declared.iotlb.IotlbMessage.TheVariants.{Miss, Update, Invalidate, AccessFail}

-- ---- headers

abbrev header_of : ℕ → ℕ → ℕ → Header
header_of request flags size = record { request = request; flags = flags; size = size }

pub header_again : (h : Header) → IsHeader h → header_in (header_bytes h) ≡ h
header_again h is =
    ap (λ (n : ℕ). header_of n (from_le_bytes w32 (to_le_bytes w32 h.flags))
    (from_le_bytes w32 (to_le_bytes w32 h.size))) (from_le_bytes-to_le_bytes_4 h.request is.request)
    ∙ ap (λ (n : ℕ). header_of h.request n (from_le_bytes w32 (to_le_bytes w32 h.size)))
    (from_le_bytes-to_le_bytes_4 h.flags is.flags)
    ∙ ap (λ (n : ℕ). header_of h.request h.flags n) (from_le_bytes-to_le_bytes_4 h.size is.size)

-- ---- payloads

pub record Fits (f : Fields) : Type 0 where
  pub iova : f.iova < 2 ^ 64
  pub size : f.size < 2 ^ 64
  pub user_address : f.user_address < 2 ^ 64

abbrev with_numbers : Fields → ℕ → ℕ → ℕ → Fields
with_numbers f iova size user = record f { iova = iova; size = size; user_address = user }

fields_again : (f : Fields) → Fits f → fields_in (payload_bytes f) ≡ f
fields_again f fits =
    let back : ℕ → ℕ = λ n. from_le_bytes w64 (to_le_bytes w64 n) in
    ap (λ (n : ℕ). with_numbers f n (back f.size) (back f.user_address))
    (from_le_bytes-to_le_bytes_8 f.iova fits.iova)
    ∙ ap (λ (n : ℕ). with_numbers f f.iova n (back f.user_address))
    (from_le_bytes-to_le_bytes_8 f.size fits.size)
    ∙ ap (λ (n : ℕ). with_numbers f f.iova f.size n)
    (from_le_bytes-to_le_bytes_8 f.user_address fits.user_address)

fits_of : (m : IotlbMessage) → IsMessage m → Fits (fields_of m)
fits_of (Miss iova access) is = record { iova = is.0; size = omega arith; user_address = omega arith }
fits_of (Update iova size user permissions) is =
    record { iova = omega (arith, is.0.1); size = omega (arith, is.0.1); user_address = is.1 }
fits_of (Invalidate iova size) is = record { iova = is.0; size = is.1; user_address = omega arith }
fits_of (AccessFail iova access) is = record { iova = is.0; size = omega arith; user_address = omega arith }

spelled_by : (m : IotlbMessage) → IsMessage m → Spells (fields_of m) m
spelled_by (Miss iova access) is = (refl, refl, (refl, is.1))
spelled_by (Update iova size user permissions) is = (refl, refl, refl, refl, (refl, is.2), is.0)
spelled_by (Invalidate iova size) is = (refl, refl, refl)
spelled_by (AccessFail iova access) is = (refl, refl, (refl, is.1))

pub payload_spells : (m : IotlbMessage) → IsMessage m → Spells (fields_in (payload_bytes (fields_of m))) m
payload_spells m is =
    subst (λ (f : Fields). Spells f m) (sym (fields_again (fields_of m) (fits_of m is))) (spelled_by m is)

-- ---- what is spelled is read

access_in : (number : ℕ) (p : Permissions) → IsAccess number p → permissions_in number ≡ Ok p
access_in number No is = absurd (omega (arith, is.0, is.1))
access_in number Read is = ap permissions_in is.0
access_in number Write is = ap permissions_in is.0
access_in number ReadWrite is = ap permissions_in is.0

range_ok : (iova size : ℕ) → IsRange iova size → range_in iova size ≡ Ok tt
range_ok iova size is =
    cond-false (eqb size 0) (Err malformed.EmptyRange)
    (cond (overruns iova size) (Err malformed.Range) (Ok tt)) (ne_eqb size 0 (λ e. omega (arith, e, is.0)))
    ∙ cond-false (overruns iova size) (Err malformed.Range) (Ok tt)
    (le-ltb (2 ^ 64 - 1) (iova + size) (omega (arith, is.1)))

-- what is read of fields, by the kind
abbrev read : ℕ → ℕ → ℕ → ℕ → ℕ → Result IotlbMessage Malformed
read kind iova size user number = message_in (record {
  iova = iova;
  size = size;
  user_address = user;
  permissions = number;
  kind = kind;
})

pub spelled_is_read : (f : Fields) (m : IotlbMessage) → Spells f m → message_in f ≡ Ok m
unfolding message_in
spelled_is_read f (Miss iova access) is =
    ap (λ (kind : ℕ). read kind f.iova f.size f.user_address f.permissions) is.0
    ∙ ap (λ (r : Result Permissions Malformed). r >>= λ p. Ok (Miss f.iova p)) (access_in f.permissions access is.2)
    ∙ ap (λ (n : ℕ). Ok (Miss n access)) is.1
spelled_is_read f (Update iova size user permissions) is =
    let range : range_in f.iova f.size ≡ Ok tt =
    range_ok f.iova f.size (omega (arith, is.1, is.2, is.5.0), omega (arith, is.1, is.2, is.5.1)) in
    ap (λ (kind : ℕ). read kind f.iova f.size f.user_address f.permissions) is.0
    ∙ ap (λ (r : Result (Unit {0}) Malformed). r >>= λ _. permissions_in f.permissions
    >>= λ p. Ok (Update f.iova f.size f.user_address p)) range
    ∙ ap (λ (r : Result Permissions Malformed). r >>= λ p. Ok (Update f.iova f.size f.user_address p))
    (access_in f.permissions permissions is.4)
    ∙ ap (λ (n : ℕ). Ok (Update n f.size f.user_address permissions)) is.1
    ∙ ap (λ (n : ℕ). Ok (Update iova n f.user_address permissions)) is.2
    ∙ ap (λ (n : ℕ). Ok (Update iova size n permissions)) is.3
spelled_is_read f (Invalidate iova size) is =
    ap (λ (kind : ℕ). read kind f.iova f.size f.user_address f.permissions) is.0
    ∙ ap (λ (n : ℕ). Ok (Invalidate n f.size)) is.1
    ∙ ap (λ (n : ℕ). Ok (Invalidate iova n)) is.2
spelled_is_read f (AccessFail iova access) is =
    ap (λ (kind : ℕ). read kind f.iova f.size f.user_address f.permissions) is.0
    ∙ ap (λ (r : Result Permissions Malformed). r >>= λ p. Ok (AccessFail f.iova p))
    (access_in f.permissions access is.2)
    ∙ ap (λ (n : ℕ). Ok (AccessFail n access)) is.1

abbrev read_as : IotlbMessage → Result IotlbMessage Malformed
read_as x = Ok x

ok_is : (x y : IotlbMessage) → read_as x ≡ read_as y → x ≡ y
ok_is x y h = cc

pub one_spelling : (f : Fields) (m n : IotlbMessage) → Spells f m → Spells f n → m ≡ n
one_spelling f m n first second = ok_is m n (sym (spelled_is_read f m first) ∙ spelled_is_read f n second)

-- ---- what is read is spelled

-- one of two
chosen : {A : Type 0} (b : Bool) (x y z : A) (P : Type 0) → cond b x y ≡ z → (b ≡ true → x ≡ z → P)
    → (b ≡ false → y ≡ z → P) → P
chosen true x y z P e f g = f refl e
chosen false x y z P e f g = g refl e

abbrev granted : Permissions → Result Permissions Malformed
granted p = Ok p

abbrev none_granted : Result Permissions Malformed
none_granted = Err malformed.Permissions

-- what is read of a number that is not 1, and of one that is not 2 either
abbrev above_two : ℕ → Result Permissions Malformed
above_two number = cond (eqb number 3) (granted ReadWrite) none_granted

abbrev above_one : ℕ → Result Permissions Malformed
above_one number = cond (eqb number 2) (granted Write) (above_two number)

granted_is : (p q : Permissions) → granted p ≡ granted q → p ≡ q
granted_is p q e = cc

not_granted : (p : Permissions) → none_granted ≡ granted p → ⊥
not_granted p e = cc

permissions_are : (number : ℕ) (p : Permissions) → permissions_in number ≡ granted p → IsAccess number p
permissions_are number p e =
    chosen (eqb number 1) (granted Read) (above_one number) (granted p) (IsAccess number p) e
    (λ t h. at 1 Read t h (refl, omega arith))
    (λ f1 e1. chosen (eqb number 2) (granted Write) (above_two number) (granted p) (IsAccess number p) e1
    (λ t h. at 2 Write t h (refl, omega arith))
    (λ f2 e2. chosen (eqb number 3) (granted ReadWrite) none_granted (granted p) (IsAccess number p) e2
    (λ t h. at 3 ReadWrite t h (refl, omega arith))
    (λ f3 e3. absurd (not_granted p e3))))
  where
    at : (k : ℕ) (q : Permissions) → eqb number k ≡ true → granted q ≡ granted p → IsAccess k q → IsAccess number p
    at k q t h is =
        subst (λ (r : Permissions). IsAccess number r) (granted_is q p h)
        (subst (λ (j : ℕ). IsAccess j q) (sym (eqb-true number k t)) is)

abbrev whole : Unit {0} → Result (Unit {0}) Malformed
whole done = Ok done

abbrev no_range : Malformed → Result (Unit {0}) Malformed
no_range e = Err e

no_whole : (e : Malformed) (done : Unit {0}) → no_range e ≡ whole done → ⊥
no_whole e done h = cc

range_is : (iova size : ℕ) (done : Unit {0}) → range_in iova size ≡ whole done → IsRange iova size
range_is iova size done e =
    let ends = cond (overruns iova size) (no_range malformed.Range) (whole tt) in
    chosen (eqb size 0) (no_range malformed.EmptyRange) ends (whole done) (IsRange iova size) e
    (λ t h. absurd (no_whole malformed.EmptyRange done h))
    (λ f1 e1. chosen (overruns iova size) (no_range malformed.Range) (whole tt) (whole done) (IsRange iova size) e1
    (λ t h. absurd (no_whole malformed.Range done h))
    (λ f2 h. (
      some (eqb-false size 0 f1),
      omega (arith, ltb-false (2 ^ 64 - 1) (iova + size) f2),
    )))
  where
    some : (size ≡ 0 → ⊥) → 0 < size
    some not_zero = omega (arith, not_zero)

bind_ok : {A B : Type 0} (r : Result A Malformed) (f : A → Result B Malformed) (y : B) → (r >>= f) ≡ Ok y
    → (x : A) × (r ≡ Ok x) × (f x ≡ Ok y)
bind_ok (Ok x) f y e = (x, refl, e)
bind_ok (Err d) f y e = absurd cc

abbrev unknown : Result IotlbMessage Malformed
unknown = Err malformed.Kind

no_message : (m : IotlbMessage) → unknown ≡ read_as m → ⊥
no_message m h = cc

-- what is read of the fields of each kind
abbrev miss_in : Fields → Result IotlbMessage Malformed
miss_in f = permissions_in f.permissions >>= λ p. Ok (Miss f.iova p)

abbrev update_in : Fields → Result IotlbMessage Malformed
update_in f = range_in f.iova f.size >>= λ _. permissions_in f.permissions
    >>= λ p. Ok (Update f.iova f.size f.user_address p)

abbrev invalidate_in : Fields → Result IotlbMessage Malformed
invalidate_in f = Ok (Invalidate f.iova f.size)

abbrev access_fail_in : Fields → Result IotlbMessage Malformed
access_fail_in f = permissions_in f.permissions >>= λ p. Ok (AccessFail f.iova p)

-- and of those of other kinds than the first ones
abbrev after_invalidate : Fields → Result IotlbMessage Malformed
after_invalidate f = cond (eqb f.kind 4) (access_fail_in f) unknown

abbrev after_update : Fields → Result IotlbMessage Malformed
after_update f = cond (eqb f.kind 3) (invalidate_in f) (after_invalidate f)

abbrev after_miss : Fields → Result IotlbMessage Malformed
after_miss f = cond (eqb f.kind 2) (update_in f) (after_update f)

pub read_is_spelled : (f : Fields) (m : IotlbMessage) → message_in f ≡ read_as m → Spells f m
unfolding message_in
read_is_spelled f m e =
    chosen (eqb f.kind 1) (miss_in f) (after_miss f) (read_as m) (Spells f m) e miss
    (λ f1 e1. chosen (eqb f.kind 2) (update_in f) (after_update f) (read_as m) (Spells f m) e1 update
    (λ f2 e2. chosen (eqb f.kind 3) (invalidate_in f) (after_invalidate f) (read_as m) (Spells f m) e2 invalidate
    (λ f3 e3. chosen (eqb f.kind 4) (access_fail_in f) unknown (read_as m) (Spells f m) e3 access_fail
    (λ f4 e4. absurd (no_message m e4)))))
  where
    by : (x : IotlbMessage) → read_as x ≡ read_as m → Spells f x → Spells f m
    by x e is = subst (λ (y : IotlbMessage). Spells f y) (ok_is x m e) is

    miss : eqb f.kind 1 ≡ true → miss_in f ≡ read_as m → Spells f m
    miss t h =
        let a = bind_ok (permissions_in f.permissions) (λ (p : Permissions). read_as (Miss f.iova p)) m h in
        by (Miss f.iova a.0) a.2 (eqb-true f.kind 1 t, refl, permissions_are f.permissions a.0 a.1)

    update : eqb f.kind 2 ≡ true → update_in f ≡ read_as m → Spells f m
    update t h =
        let set : Permissions → Result IotlbMessage Malformed =
        λ p. read_as (Update f.iova f.size f.user_address p) in
        let a = bind_ok (range_in f.iova f.size) (λ (_ : Unit {0}). permissions_in f.permissions >>= set) m h in
        let b = bind_ok (permissions_in f.permissions) set m a.2 in
        by (Update f.iova f.size f.user_address b.0) b.2
        (eqb-true f.kind 2 t, refl, refl, refl, permissions_are f.permissions b.0 b.1, range_is f.iova f.size a.0 a.1)

    invalidate : eqb f.kind 3 ≡ true → invalidate_in f ≡ read_as m → Spells f m
    invalidate t h = by (Invalidate f.iova f.size) h (eqb-true f.kind 3 t, refl, refl)

    access_fail : eqb f.kind 4 ≡ true → access_fail_in f ≡ read_as m → Spells f m
    access_fail t h =
        let a = bind_ok (permissions_in f.permissions) (λ (p : Permissions). read_as (AccessFail f.iova p)) m h in
        by (AccessFail f.iova a.0) a.2 (eqb-true f.kind 4 t, refl, permissions_are f.permissions a.0 a.1)

pub read_as_spelled : (f : Fields) (r : Result IotlbMessage Malformed) → r ≡ message_in f
    → IfOk r (λ m. Spells f m)
read_as_spelled f (Ok m) e = read_is_spelled f m (sym e)
read_as_spelled f (Err d) e = tt
