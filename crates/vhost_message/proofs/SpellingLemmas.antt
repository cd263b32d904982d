-- What a front end spells is read.
use Rattle.std.proofs.Common.{◌≡◌, ◌⊎◌, inl, inr, ℕ, zero, suc, ◌+◌, ◌*◌, ◌/◌, ◌%◌, ◌^◌, ◌<◌, ◌≤◌, Bool, true, false, cond, eqb, List, [], ◌∷◌, ◌++◌, length, take, drop, Result, Ok, Err, arith, refl, sym, ap, ◌∙◌}
use Rattle.std.specs.Prelude.{nat_le, nat_lt, ◌&&◌, ◌||◌, is_ok}
use Rattle.std.specs.Int.{w16, w32, w64, from_le_bytes, to_le_bytes}
use Rattle.std.proofs.lemmas.Bool.{cond-false, cond-true, eq-eqb, le-leb, le-ltb, lt-ltb, ne_eqb}
use Rattle.std.proofs.lemmas.List.{drop-drop, length-append, length-drop}
use Rattle.std.proofs.lemmas.Nat.{from_le_bytes-to_le_bytes_2, from_le_bytes-to_le_bytes_4, from_le_bytes-to_le_bytes_8}
use Rattle.vhost_message.specs.BackendReq.{flags_of}
use Rattle.vhost_message.specs.FrontendReq.{◌>>=◌, config_in, enabling_in, has_descriptor, inflight_in, iotlb_in, of_front, request_in, request_of, ring_in, vring_addr_in, vring_request_in}
use Rattle.vhost_message.specs.Iotlb.{fields_in, fields_of, payload_bytes}
use Rattle.vhost_message.specs.Numbers.{number, word}
use Rattle.vhost_message.specs.Regions.{no_region, region_at, region_or_none, table_in}
use Rattle.vhost_message.specs.Requests.{expected, of_shape, shape_of}
use Rattle.vhost_message.specs.Spelling.{AreNumbers, AreRegions, IsAddress, IsInflight, IsOfFront, IsRequest, IsSpace, address_bytes, header_of, inflight_bytes, notifier_bytes, pair_bytes, payload_of, region_bytes, regions_bytes, space_bytes, switch}
use Rattle.vhost_message.specs.declared.frontend_req.ConfigSpace.{ConfigSpace}
use Rattle.vhost_message.specs.declared.frontend_req.FrontendReq.{FrontendReq}
use Rattle.vhost_message.specs.declared.frontend_req.FrontendReq.TheVariants.{GetFeatures, SetFeatures, SetOwner, ResetOwner, SetMemTable, SetLogBase, SetLogFd, SetVringNum, SetVringAddr, SetVringBase, GetVringBase, SetVringKick, SetVringCall, SetVringErr, GetProtocolFeatures, SetProtocolFeatures, GetQueueNum, SetVringEnable, SetBackendReqFd, IotlbMsg, GetConfig, SetConfig, GetInflightFd, SetInflightFd}
use Rattle.vhost_message.specs.declared.frontend_req.VhostUserInflight.{VhostUserInflight}
use Rattle.vhost_message.specs.declared.frontend_req.VringAddr.{VringAddr}
use Rattle.vhost_message.specs.declared.header.Header.{Header}
use Rattle.vhost_message.specs.declared.iotlb.IotlbMessage.{IotlbMessage}
use Rattle.vhost_message.specs.declared.iotlb.IotlbMessage.TheVariants.{Miss, Update, Invalidate, AccessFail}
use Rattle.vhost_message.specs.declared.refusal.Refusal.{Refusal}
use Rattle.vhost_message.specs.declared.refusal.Refusal.TheVariants.{PayloadSize, Flags}
use Rattle.vhost_message.specs.declared.regions.MemoryRegion.{MemoryRegion}
use Rattle.vhost_message.specs.declared.requests.Expected.{Expected}
use Rattle.vhost_message.proofs.CodecLemmas.{payload_spells, spelled_is_read}

abbrev asked : FrontendReq → Result FrontendReq Refusal
asked r = Ok r

abbrev again_2 : ℕ → ℕ
again_2 n = from_le_bytes w16 (to_le_bytes w16 n)

abbrev again_4 : ℕ → ℕ
again_4 n = from_le_bytes w32 (to_le_bytes w32 n)

abbrev again_8 : ℕ → ℕ
again_8 n = from_le_bytes w64 (to_le_bytes w64 n)

-- ---- headers

-- whether a request may have so many bytes of payload
abbrev sized : ℕ → ℕ → Bool
sized request len = is_ok (of_shape (shape_of request) len)

ok_of : (r : Result Expected Refusal) → is_ok r ≡ true → (e : Expected) × (r ≡ Ok e)
ok_of (Ok e) t = (e, refl)
ok_of (Err d) t = absurd cc

abbrev headed : ℕ → Bool → ℕ → Header
headed request need_reply len = record { request = request; flags = flags_of need_reply; size = len }

framed : (request len : ℕ) (need_reply : Bool) → sized request len ≡ true
    → (e : Expected) × (expected (headed request need_reply len) ≡ Ok e)
framed request len true t = ok_of (of_shape (shape_of request) len) t
framed request len false t = ok_of (of_shape (shape_of request) len) t

back : (request : ℕ) (payload : List ℕ) (need_reply : Bool) (r : FrontendReq) → sized request (length payload) ≡ true
    → request_in request payload ≡ asked r
    → request_of (headed request need_reply (length payload)) payload ≡ asked r
back request payload need_reply r t e =
    let x = framed request (length payload) need_reply t in
    let body : Result FrontendReq Refusal =
    cond (eqb (length payload) (length payload)) (request_in request payload) (Err PayloadSize) in
    ap (λ (res : Result Expected Refusal). res >>= λ (_ : Expected). body) x.1
    ∙ cond-true (eqb (length payload) (length payload)) (request_in request payload) (Err PayloadSize)
    (eq-eqb (length payload) (length payload) refl) ∙ e

-- ---- pairs, addresses and notifiers

pair : (f : ℕ → ℕ → FrontendReq) (index num : ℕ) → index < 2 ^ 32 → num < 2 ^ 32
    → asked (f (again_4 index) (again_4 num)) ≡ asked (f index num)
pair f index num i n =
    ap (λ (k : ℕ). asked (f k (again_4 num))) (from_le_bytes-to_le_bytes_4 index i)
    ∙ ap (λ (k : ℕ). asked (f index k)) (from_le_bytes-to_le_bytes_4 num n)

abbrev placed : ℕ → ℕ → ℕ → ℕ → ℕ → ℕ → FrontendReq
placed i f d u a l =
    SetVringAddr (record { index = i; flags = f; descriptor = d; used = u; available = a; log = l })

address : (a : VringAddr) → IsAddress a → asked (SetVringAddr (vring_addr_in (address_bytes a))) ≡ asked (SetVringAddr a)
address a is =
    ap (λ (k : ℕ). asked (placed k (again_4 a.flags) (again_8 a.descriptor) (again_8 a.used) (again_8 a.available)
    (again_8 a.log))) (from_le_bytes-to_le_bytes_4 a.index is.0)
    ∙ ap (λ (k : ℕ). asked (placed a.index k (again_8 a.descriptor) (again_8 a.used) (again_8 a.available)
    (again_8 a.log))) (from_le_bytes-to_le_bytes_4 a.flags is.1)
    ∙ ap (λ (k : ℕ). asked (placed a.index a.flags k (again_8 a.used) (again_8 a.available) (again_8 a.log)))
    (from_le_bytes-to_le_bytes_8 a.descriptor is.2)
    ∙ ap (λ (k : ℕ). asked (placed a.index a.flags a.descriptor k (again_8 a.available) (again_8 a.log)))
    (from_le_bytes-to_le_bytes_8 a.used is.3)
    ∙ ap (λ (k : ℕ). asked (placed a.index a.flags a.descriptor a.used k (again_8 a.log)))
    (from_le_bytes-to_le_bytes_8 a.available is.4)
    ∙ ap (λ (k : ℕ). asked (placed a.index a.flags a.descriptor a.used a.available k))
    (from_le_bytes-to_le_bytes_8 a.log is.5)

ring : (index : ℕ) (descriptor : Bool) → index < 256 → ring_in (notifier_bytes index descriptor) ≡ index
ring index true small = ap (λ (n : ℕ). n % 256) (from_le_bytes-to_le_bytes_8 index (omega arith)) ∙ below
  where
    below : index % 256 ≡ index
    below = omega arith
ring index false small = ap (λ (n : ℕ). n % 256) (from_le_bytes-to_le_bytes_8 (256 + index) (omega arith)) ∙ above
  where
    above : (256 + index) % 256 ≡ index
    above = omega arith

comes : (index : ℕ) (descriptor : Bool) → index < 256 → has_descriptor (notifier_bytes index descriptor) ≡ descriptor
comes index true small =
    ap (λ (n : ℕ). eqb (n / 256 % 2) 0) (from_le_bytes-to_le_bytes_8 index (omega arith))
    ∙ eq-eqb (index / 256 % 2) 0 (omega arith)
comes index false small =
    ap (λ (n : ℕ). eqb (n / 256 % 2) 0) (from_le_bytes-to_le_bytes_8 (256 + index) (omega arith))
    ∙ ne_eqb ((256 + index) / 256 % 2) 0 (λ e. omega (arith, e))

notified : (f : ℕ → Bool → FrontendReq) (index : ℕ) (descriptor : Bool) → index < 256
    → asked (f (ring_in (notifier_bytes index descriptor)) (has_descriptor (notifier_bytes index descriptor)))
    ≡ asked (f index descriptor)
notified f index descriptor small =
    ap (λ (k : ℕ). asked (f k (has_descriptor (notifier_bytes index descriptor)))) (ring index descriptor small)
    ∙ ap (λ (b : Bool). asked (f index b)) (comes index descriptor small)

notifier_len : (index : ℕ) (descriptor : Bool) → length (notifier_bytes index descriptor) ≡ 8
notifier_len index true = refl
notifier_len index false = refl

enabled : (index : ℕ) (enable : Bool) → index < 2 ^ 32
    → enabling_in (pair_bytes index (switch enable)) ≡ asked (SetVringEnable index enable)
unfolding enabling_in
enabled index true i = ap (λ (k : ℕ). asked (SetVringEnable k true)) (from_le_bytes-to_le_bytes_4 index i)
enabled index false i = ap (λ (k : ℕ). asked (SetVringEnable k false)) (from_le_bytes-to_le_bytes_4 index i)

-- ---- messages on the table

on_table : (m : IotlbMessage) → IsOfFront m → iotlb_in (payload_bytes (fields_of m)) ≡ asked (IotlbMsg m)
unfolding iotlb_in
on_table (Update iova size user permissions) is =
    let m : IotlbMessage = Update iova size user permissions in
    ap of_front (spelled_is_read (fields_in (payload_bytes (fields_of m))) m (payload_spells m is))
on_table (Invalidate iova size) is =
    let m : IotlbMessage = Invalidate iova size in
    ap of_front (spelled_is_read (fields_in (payload_bytes (fields_of m))) m (payload_spells m is))
on_table (Miss iova access) is = absurd is
on_table (AccessFail iova access) is = absurd is

-- ---- configuration

module _ (c : ConfigSpace) (bytes : List ℕ) (is : IsSpace c bytes) where
  abbrev spelled : List ℕ
  spelled = space_bytes c ++ bytes

  space_len : length spelled ≡ 12 + length bytes
  space_len = length-append (space_bytes c) bytes

  abbrev read_space : ℕ → ℕ → ℕ → Result ConfigSpace Refusal
  read_space offset size flags = cond (eqb (length spelled) (12 + size))
      (cond (nat_lt 1 flags) (Err Flags) (Ok (record { offset = offset; size = size; flags = flags })))
      (Err PayloadSize)

  space : config_in spelled ≡ Ok c
  unfolding config_in
  space =
      ap (λ (k : ℕ). read_space k (again_4 c.size) (again_4 c.flags)) (from_le_bytes-to_le_bytes_4 c.offset is.0)
      ∙ ap (λ (k : ℕ). read_space c.offset k (again_4 c.flags))
      (from_le_bytes-to_le_bytes_4 c.size (omega (arith, is.1, is.2)))
      ∙ ap (λ (k : ℕ). read_space c.offset c.size k) (from_le_bytes-to_le_bytes_4 c.flags (omega (arith, is.3)))
      ∙ cond-true (eqb (length spelled) (12 + c.size)) (cond (nat_lt 1 c.flags) (Err Flags) (Ok c)) (Err PayloadSize)
      (eq-eqb (length spelled) (12 + c.size) (omega (arith, space_len, is.1)))
      ∙ cond-false (nat_lt 1 c.flags) (Err Flags) (Ok c) (le-ltb 1 c.flags is.3)

  between : (nat_le 12 (length spelled) && nat_le (length spelled) 268) ≡ true
  between =
      ap (λ (b : Bool). b && nat_le (length spelled) 268) (le-leb 12 (length spelled) (omega (arith, space_len)))
      ∙ le-leb (length spelled) 268 (omega (arith, space_len, is.2))

  space_sized : is_ok {T = Expected} {E = Refusal} (cond (nat_le 12 (length spelled) && nat_le (length spelled) 268)
      (Ok (record { payload = length spelled; descriptors = 0 })) (Err PayloadSize)) ≡ true
  space_sized = ap (λ (b : Bool). is_ok {T = Expected} {E = Refusal} (cond b
      (Ok (record { payload = length spelled; descriptors = 0 })) (Err PayloadSize))) between

-- ---- regions of what is in flight

module _ (r : VhostUserInflight) (bytes : List ℕ) (is : IsInflight r bytes) where
  abbrev described : List ℕ
  described = inflight_bytes r ++ bytes

  described_len : length described ≡ 20 + length bytes
  described_len = length-append (inflight_bytes r) bytes

  abbrev describing : ℕ → ℕ → ℕ → ℕ → VhostUserInflight
  describing size offset queues most =
      record { mmap_size = size; mmap_offset = offset; num_queues = queues; queue_size = most }

  again : describing (again_8 r.mmap_size) (again_8 r.mmap_offset) (again_2 r.num_queues) (again_2 r.queue_size) ≡ r
  again =
      ap (λ (k : ℕ). describing k (again_8 r.mmap_offset) (again_2 r.num_queues) (again_2 r.queue_size))
      (from_le_bytes-to_le_bytes_8 r.mmap_size is.0)
      ∙ ap (λ (k : ℕ). describing r.mmap_size k (again_2 r.num_queues) (again_2 r.queue_size))
      (from_le_bytes-to_le_bytes_8 r.mmap_offset is.1)
      ∙ ap (λ (k : ℕ). describing r.mmap_size r.mmap_offset k (again_2 r.queue_size))
      (from_le_bytes-to_le_bytes_2 r.num_queues is.2)
      ∙ ap (λ (k : ℕ). describing r.mmap_size r.mmap_offset r.num_queues k)
      (from_le_bytes-to_le_bytes_2 r.queue_size is.3)

  one_of : (n : ℕ) → (n ≡ 20) ⊎ (n ≡ 24) → (eqb n 20 || eqb n 24) ≡ true
  one_of n (inl e) = ap (λ (k : ℕ). eqb k 20 || eqb k 24) e
  one_of n (inr e) = ap (λ (k : ℕ). eqb k 20 || eqb k 24) e

  len_is : (length bytes ≡ 0) ⊎ (length bytes ≡ 4) → (length described ≡ 20) ⊎ (length described ≡ 24)
  len_is (inl e) = inl (omega (arith, e, described_len))
  len_is (inr e) = inr (omega (arith, e, described_len))

  region_again : inflight_in described ≡ Ok r
  unfolding inflight_in
  region_again =
      cond-true (eqb (length described) 20 || eqb (length described) 24)
      (Ok (describing (again_8 r.mmap_size) (again_8 r.mmap_offset) (again_2 r.num_queues) (again_2 r.queue_size)))
      (Err PayloadSize) (one_of (length described) (len_is is.4))
      ∙ ap (λ (x : VhostUserInflight). Ok x) again

  between_20 : (nat_le 20 (length described) && nat_le (length described) 24) ≡ true
  between_20 = by_len (length described) (len_is is.4)
    where
      by_len : (n : ℕ) → (n ≡ 20) ⊎ (n ≡ 24) → (nat_le 20 n && nat_le n 24) ≡ true
      by_len n (inl e) = ap (λ (k : ℕ). nat_le 20 k && nat_le k 24) e
      by_len n (inr e) = ap (λ (k : ℕ). nat_le 20 k && nat_le k 24) e

  described_sized : (descriptors : ℕ) → is_ok {T = Expected} {E = Refusal}
      (cond (nat_le 20 (length described) && nat_le (length described) 24)
      (Ok (record { payload = length described; descriptors = descriptors })) (Err PayloadSize)) ≡ true
  described_sized descriptors = ap (λ (b : Bool). is_ok {T = Expected} {E = Refusal} (cond b
      (Ok (record { payload = length described; descriptors = descriptors })) (Err PayloadSize))) between_20

-- ---- regions

abbrev table_bytes : List MemoryRegion → List ℕ
table_bytes rs = to_le_bytes w32 (length rs) ++ (to_le_bytes w32 0 ++ regions_bytes rs)

regions_len : (rs : List MemoryRegion) → length (regions_bytes rs) ≡ 32 * length rs
regions_len [] = refl
regions_len (r ∷ rs) =
    omega (arith, length-append (region_bytes r) (regions_bytes rs), regions_len rs)

table_len : (rs : List MemoryRegion) → length (table_bytes rs) ≡ 8 + 32 * length rs
table_len rs =
    omega (
      arith,
      length-append (to_le_bytes w32 (length rs)) (to_le_bytes w32 0 ++ regions_bytes rs),
      length-append (to_le_bytes w32 0) (regions_bytes rs),
      regions_len rs,
    )

abbrev region_of : ℕ → ℕ → ℕ → ℕ → MemoryRegion
region_of guest size user offset = record {
  guest_address = record { 0 = guest };
  size = size;
  user_address = user;
  mmap_offset = offset;
}

region : (r : MemoryRegion) → AreNumbers r
    → region_of (again_8 r.guest_address.0) (again_8 r.size) (again_8 r.user_address) (again_8 r.mmap_offset) ≡ r
region r is =
    ap (λ (k : ℕ). region_of k (again_8 r.size) (again_8 r.user_address) (again_8 r.mmap_offset))
    (from_le_bytes-to_le_bytes_8 r.guest_address.0 is.0)
    ∙ ap (λ (k : ℕ). region_of r.guest_address.0 k (again_8 r.user_address) (again_8 r.mmap_offset))
    (from_le_bytes-to_le_bytes_8 r.size is.1)
    ∙ ap (λ (k : ℕ). region_of r.guest_address.0 r.size k (again_8 r.mmap_offset))
    (from_le_bytes-to_le_bytes_8 r.user_address is.2)
    ∙ ap (λ (k : ℕ). region_of r.guest_address.0 r.size r.user_address k)
    (from_le_bytes-to_le_bytes_8 r.mmap_offset is.3)

-- the region of a number, and the first of some
abbrev first_of : List MemoryRegion → MemoryRegion
first_of [] = no_region
first_of (r ∷ rs) = r

drop_regions : (i : ℕ) (rs : List MemoryRegion) → drop (32 * i) (regions_bytes rs) ≡ regions_bytes (drop i rs)
drop_regions zero rs = refl
drop_regions (suc i) [] = drop_none (32 * suc i)
  where
    drop_none : (n : ℕ) → drop n (regions_bytes []) ≡ regions_bytes []
    drop_none zero = refl
    drop_none (suc n) = refl
drop_regions (suc i) (r ∷ rs) =
    ap (λ (n : ℕ). drop n (region_bytes r ++ regions_bytes rs)) step
    ∙ sym (drop-drop (32 * i) 32 (region_bytes r ++ regions_bytes rs)) ∙ drop_regions i rs
  where
    step : 32 * suc i ≡ 32 + 32 * i
    step = omega arith

module _ (rs : List MemoryRegion) (i : ℕ) where
  abbrev at : ℕ
  at = 8 + 32 * i

  -- what stands a little after the beginning of the region
  behind : (k : ℕ) → drop (at + k) (table_bytes rs) ≡ drop k (regions_bytes (drop i rs))
  behind k =
      sym (drop-drop k at (table_bytes rs))
      ∙ ap (λ (t : List ℕ). drop k t) (sym (drop-drop (32 * i) 8 (table_bytes rs)) ∙ drop_regions i rs)

  read_at : (k : ℕ) → number (table_bytes rs) (at + k) ≡ from_le_bytes w64 (take 8 (drop k (regions_bytes (drop i rs))))
  read_at k = ap (λ (t : List ℕ). from_le_bytes w64 (take 8 t)) (behind k)

  read_front : number (table_bytes rs) at ≡ from_le_bytes w64 (take 8 (regions_bytes (drop i rs)))
  read_front =
      ap (λ (t : List ℕ). from_le_bytes w64 (take 8 t))
      (sym (drop-drop (32 * i) 8 (table_bytes rs)) ∙ drop_regions i rs)

  there : (r : MemoryRegion) (more : List MemoryRegion) → drop i rs ≡ r ∷ more → AreNumbers r
      → region_at (table_bytes rs) at ≡ r
  there r more e is =
      ap (λ (k : ℕ). region_of k (number (table_bytes rs) (at + 8)) (number (table_bytes rs) (at + 16))
      (number (table_bytes rs) (at + 24))) (read_front ∙ ap (λ (t : List MemoryRegion).
      from_le_bytes w64 (take 8 (regions_bytes t))) e)
      ∙ ap (λ (k : ℕ). region_of (again_8 r.guest_address.0) k (number (table_bytes rs) (at + 16))
      (number (table_bytes rs) (at + 24))) (read_at 8 ∙ ap (λ (t : List MemoryRegion).
      from_le_bytes w64 (take 8 (drop 8 (regions_bytes t)))) e)
      ∙ ap (λ (k : ℕ). region_of (again_8 r.guest_address.0) (again_8 r.size) k
      (number (table_bytes rs) (at + 24))) (read_at 16 ∙ ap (λ (t : List MemoryRegion).
      from_le_bytes w64 (take 8 (drop 16 (regions_bytes t)))) e)
      ∙ ap (λ (k : ℕ). region_of (again_8 r.guest_address.0) (again_8 r.size) (again_8 r.user_address) k)
      (read_at 24 ∙ ap (λ (t : List MemoryRegion). from_le_bytes w64 (take 8 (drop 24 (regions_bytes t)))) e)
      ∙ region r is

numbers_of : (i : ℕ) (rs : List MemoryRegion) → AreRegions rs → AreRegions (drop i rs)
numbers_of zero rs is = is
numbers_of (suc i) [] is = is
numbers_of (suc i) (r ∷ rs) is = numbers_of i rs is.1

nth : (rs : List MemoryRegion) (i : ℕ) → AreRegions rs → region_or_none (table_bytes rs) i ≡ first_of (drop i rs)
unfolding region_or_none
nth rs i is = by_rest (drop i rs) refl (numbers_of i rs is)
  where
    by_rest : (rest : List MemoryRegion) → drop i rs ≡ rest → AreRegions rest
        → cond (nat_lt (length (table_bytes rs)) (8 + 32 * i + 32)) no_region (region_at (table_bytes rs) (8 + 32 * i))
        ≡ first_of rest
    by_rest [] e of_rest =
        cond-true (nat_lt (length (table_bytes rs)) (8 + 32 * i + 32)) no_region
        (region_at (table_bytes rs) (8 + 32 * i))
        (lt-ltb (length (table_bytes rs)) (8 + 32 * i + 32)
        (omega (arith, table_len rs, ap length e, length-drop i rs)))
    by_rest (r ∷ more) e of_rest =
        cond-false (nat_lt (length (table_bytes rs)) (8 + 32 * i + 32)) no_region
        (region_at (table_bytes rs) (8 + 32 * i))
        (le-ltb (length (table_bytes rs)) (8 + 32 * i + 32)
        (omega (arith, table_len rs, ap length e, length-drop i rs)))
        ∙ there rs i r more e of_rest.0

abbrev eight : List MemoryRegion → List MemoryRegion
eight rs = first_of rs ∷ first_of (drop 1 rs) ∷ first_of (drop 2 rs) ∷ first_of (drop 3 rs) ∷ first_of (drop 4 rs)
    ∷ first_of (drop 5 rs) ∷ first_of (drop 6 rs) ∷ first_of (drop 7 rs) ∷ []

take_eight : (rs : List MemoryRegion) → length rs ≤ 8 → take (length rs) (eight rs) ≡ rs
take_eight [] few = refl
take_eight (a ∷ []) few = refl
take_eight (a ∷ b ∷ []) few = refl
take_eight (a ∷ b ∷ c ∷ []) few = refl
take_eight (a ∷ b ∷ c ∷ d ∷ []) few = refl
take_eight (a ∷ b ∷ c ∷ d ∷ e ∷ []) few = refl
take_eight (a ∷ b ∷ c ∷ d ∷ e ∷ f ∷ []) few = refl
take_eight (a ∷ b ∷ c ∷ d ∷ e ∷ f ∷ g ∷ []) few = refl
take_eight (a ∷ b ∷ c ∷ d ∷ e ∷ f ∷ g ∷ h ∷ []) few = refl
take_eight (a ∷ b ∷ c ∷ d ∷ e ∷ f ∷ g ∷ h ∷ i ∷ rs) few = absurd (omega (arith, few))

abbrev listed : ℕ → List MemoryRegion → Result (List MemoryRegion) Refusal
listed n rs = Ok (take n rs)

table : (rs : List MemoryRegion) → length rs ≤ 8 → AreRegions rs → table_in (table_bytes rs) ≡ Ok rs
unfolding table_in
table rs few is =
    let p = table_bytes rs in
    let n : word p 0 ≡ length rs = from_le_bytes-to_le_bytes_4 (length rs) (omega (arith, few)) in
    let all : List MemoryRegion = region_or_none p 0 ∷ region_or_none p 1 ∷ region_or_none p 2 ∷ region_or_none p 3
    ∷ region_or_none p 4 ∷ region_or_none p 5 ∷ region_or_none p 6 ∷ region_or_none p 7 ∷ [] in
    let e0 : region_or_none p 0 ≡ first_of rs = nth rs 0 is in
    let e1 : region_or_none p 1 ≡ first_of (drop 1 rs) = nth rs 1 is in
    let e2 : region_or_none p 2 ≡ first_of (drop 2 rs) = nth rs 2 is in
    let e3 : region_or_none p 3 ≡ first_of (drop 3 rs) = nth rs 3 is in
    let e4 : region_or_none p 4 ≡ first_of (drop 4 rs) = nth rs 4 is in
    let e5 : region_or_none p 5 ≡ first_of (drop 5 rs) = nth rs 5 is in
    let e6 : region_or_none p 6 ≡ first_of (drop 6 rs) = nth rs 6 is in
    let e7 : region_or_none p 7 ≡ first_of (drop 7 rs) = nth rs 7 is in
    let same : all ≡ eight rs = cc in
    cond-true (eqb (length p) (8 + 32 * word p 0)) (listed (word p 0) all) (Err PayloadSize)
    (eq-eqb (length p) (8 + 32 * word p 0) (omega (arith, table_len rs, n)))
    ∙ ap (λ (k : ℕ). listed k all) n ∙ ap (λ (t : List MemoryRegion). listed (length rs) t) same
    ∙ ap (λ (t : List MemoryRegion). Ok t) (take_eight rs few)

table_between : (rs : List MemoryRegion) → length rs ≤ 8
    → (nat_le 8 (length (table_bytes rs)) && nat_le (length (table_bytes rs)) 264) ≡ true
table_between rs few =
    ap (λ (b : Bool). b && nat_le (length (table_bytes rs)) 264)
    (le-leb 8 (length (table_bytes rs)) (omega (arith, table_len rs)))
    ∙ le-leb (length (table_bytes rs)) 264 (omega (arith, table_len rs, few))

-- ---- all requests

pub comes_back : (r : FrontendReq) (bytes : List ℕ) (need_reply : Bool) → IsRequest r bytes
    → request_of (header_of r bytes need_reply) (payload_of r bytes) ≡ asked r
unfolding vring_request_in
comes_back GetFeatures bytes need is = back 1 [] need GetFeatures refl refl
comes_back (SetFeatures f) bytes need is =
    back 2 (to_le_bytes w64 f) need (SetFeatures f) refl
    (ap (λ (n : ℕ). asked (SetFeatures n)) (from_le_bytes-to_le_bytes_8 f is))
comes_back SetOwner bytes need is = back 3 [] need SetOwner refl refl
comes_back ResetOwner bytes need is = back 4 [] need ResetOwner refl refl
comes_back (SetMemTable rs) bytes need is =
    back 5 (table_bytes rs) need (SetMemTable rs)
    (ap (λ (b : Bool). is_ok {T = Expected} {E = Refusal} (cond b
    (Ok (record { payload = length (table_bytes rs); descriptors = 8 })) (Err PayloadSize))) (table_between rs is.0))
    (ap (λ (t : Result (List MemoryRegion) Refusal). t >>= λ (x : List MemoryRegion). asked (SetMemTable x))
    (table rs is.0 is.1))
comes_back (SetLogBase size offset) bytes need is =
    back 6 (to_le_bytes w64 size ++ to_le_bytes w64 offset) need (SetLogBase size offset) refl
    (ap (λ (n : ℕ). asked (SetLogBase n (again_8 offset))) (from_le_bytes-to_le_bytes_8 size is.0)
    ∙ ap (λ (n : ℕ). asked (SetLogBase size n)) (from_le_bytes-to_le_bytes_8 offset is.1))
comes_back SetLogFd bytes need is = back 7 [] need SetLogFd refl refl
comes_back (SetVringNum index num) bytes need is =
    back 8 (pair_bytes index num) need (SetVringNum index num) refl
    (pair (λ (i n : ℕ). SetVringNum i n) index num is.0 is.1)
comes_back (SetVringAddr a) bytes need is =
    back 9 (address_bytes a) need (SetVringAddr a) refl (address a is)
comes_back (SetVringBase index base) bytes need is =
    back 10 (pair_bytes index base) need (SetVringBase index base) refl
    (pair (λ (i n : ℕ). SetVringBase i n) index base is.0 is.1)
comes_back (GetVringBase index) bytes need is =
    back 11 (pair_bytes index 0) need (GetVringBase index) refl
    (ap (λ (n : ℕ). asked (GetVringBase n)) (from_le_bytes-to_le_bytes_4 index is))
comes_back (SetVringKick index descriptor) bytes need is =
    back 12 (notifier_bytes index descriptor) need (SetVringKick index descriptor)
    (ap (λ (n : ℕ). sized 12 n) (notifier_len index descriptor))
    (notified (λ (i : ℕ) (d : Bool). SetVringKick i d) index descriptor is)
comes_back (SetVringCall index descriptor) bytes need is =
    back 13 (notifier_bytes index descriptor) need (SetVringCall index descriptor)
    (ap (λ (n : ℕ). sized 13 n) (notifier_len index descriptor))
    (notified (λ (i : ℕ) (d : Bool). SetVringCall i d) index descriptor is)
comes_back (SetVringErr index descriptor) bytes need is =
    back 14 (notifier_bytes index descriptor) need (SetVringErr index descriptor)
    (ap (λ (n : ℕ). sized 14 n) (notifier_len index descriptor))
    (notified (λ (i : ℕ) (d : Bool). SetVringErr i d) index descriptor is)
comes_back GetProtocolFeatures bytes need is = back 15 [] need GetProtocolFeatures refl refl
comes_back (SetProtocolFeatures f) bytes need is =
    back 16 (to_le_bytes w64 f) need (SetProtocolFeatures f) refl
    (ap (λ (n : ℕ). asked (SetProtocolFeatures n)) (from_le_bytes-to_le_bytes_8 f is))
comes_back GetQueueNum bytes need is = back 17 [] need GetQueueNum refl refl
comes_back (SetVringEnable index enable) bytes need is =
    back 18 (pair_bytes index (switch enable)) need (SetVringEnable index enable) refl (enabled index enable is)
comes_back SetBackendReqFd bytes need is = back 21 [] need SetBackendReqFd refl refl
comes_back (IotlbMsg m) bytes need is =
    back 22 (payload_bytes (fields_of m)) need (IotlbMsg m) refl (on_table m is)
comes_back (GetConfig c) bytes need is =
    back 24 (space_bytes c ++ bytes) need (GetConfig c) (space_sized c bytes is)
    (ap (λ (t : Result ConfigSpace Refusal). t >>= λ (x : ConfigSpace). asked (GetConfig x)) (space c bytes is))
comes_back (SetConfig c) bytes need is =
    back 25 (space_bytes c ++ bytes) need (SetConfig c) (space_sized c bytes is)
    (ap (λ (t : Result ConfigSpace Refusal). t >>= λ (x : ConfigSpace). asked (SetConfig x)) (space c bytes is))
comes_back (GetInflightFd r) bytes need is =
    back 31 (inflight_bytes r ++ bytes) need (GetInflightFd r) (described_sized r bytes is 0)
    (ap (λ (t : Result VhostUserInflight Refusal). t >>= λ (x : VhostUserInflight). asked (GetInflightFd x))
    (region_again r bytes is))
comes_back (SetInflightFd r) bytes need is =
    back 32 (inflight_bytes r ++ bytes) need (SetInflightFd r) (described_sized r bytes is 1)
    (ap (λ (t : Result VhostUserInflight Refusal). t >>= λ (x : VhostUserInflight). asked (SetInflightFd x))
    (region_again r bytes is))
