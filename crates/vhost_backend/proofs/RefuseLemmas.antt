-- A message that is refused changes nothing.
use Rattle.std.proofs.Common.{◌≡◌, ◌∙◌, ℕ, ◌+◌, ◌^◌, ◌<◌, ◌≤◌, ◌==◌, ◌&&◌, ◌||◌, not, nat_lt, Bool, true, false, List, [], ◌∷◌, drop, length, Option, Some, None, Result, Ok, Err, if◌then◌else◌, refl, ap, sym, arith, inl, inr}
use Rattle.std.specs.List.{slice_get}
use Rattle.std.proofs.Math.ListN.{length-replicate, length-set}
use Rattle.vhost_message.specs.declared.frontend_req.FrontendReq.{FrontendReq}
use Rattle.vhost_message.specs.declared.frontend_req.FrontendReq.TheVariants as req
use Rattle.vhost_message.specs.declared.refusal.Refusal.{Refusal}
use Rattle.vhost_message.specs.Regions.{tested}
use Rattle.vhost_message.specs.FrontendReq.{◌>>=◌}
use Rattle.std.proofs.lemmas.Option.{slice_get_cases}
use Rattle.vhost_user.specs.Connection.{Connection, differ_in_log, in_config, is_any_started, is_writable, needed, replaced, served, stopped_at, vring_at, in_offer, with_vring}
use Rattle.vhost_user.specs.Features.{are_of, has}
use Rattle.vhost_user.specs.Features as feature
use Rattle.vhost_user.specs.Connection as user
use Rattle.vhost_user.specs.Inflight.{region_len}
use Rattle.vhost_user.specs.Vring.{is_aligned, is_placed_as, is_started, notifier_of}
use Rattle.vhost_message.specs.declared.frontend_req.ConfigSpace.{ConfigSpace}
use Rattle.vhost_message.specs.declared.frontend_req.VhostUserInflight.{VhostUserInflight}
use Rattle.vhost_message.specs.declared.frontend_req.VringAddr.{VringAddr}
use Rattle.vhost_message.specs.declared.refusal.Refusal.TheVariants.{Alignment, Base, ConfigReadOnly, Features, Flags, QueueSize, RegionRange, Started}
use Rattle.vhost_user.specs.declared.vring.Notifier.TheVariants.{Unset}
use Rattle.vhost_user.specs.declared.vring.Vring.{Vring}
use Rattle.vhost_message.specs.FrontendReq.{descriptors_of, request_of}
use Rattle.vhost_message.specs.declared.header.Header.{Header}
use Rattle.vhost_message.specs.declared.refusal.Refusal.TheVariants.{Descriptors}
use Rattle.vhost_user.specs.Connection.{with_base}
use Rattle.vhost_backend.proofs.AtRestLemmas.{all_count}
use Rattle.vhost_backend.proofs.FitLemmas.{FitsUntil, until_fits}
use Rattle.vhost_backend.proofs.MessageLemmas.{becomes, placed_connection, placed_rings, refreshed_connection}
use Rattle.vhost_backend.proofs.OwnWayLemmas.{held_rings, released_same}
use Rattle.vhost_backend.specs.Backend.{BackendState, after_event, after_finish, after_message, begun, begun_by, begun_or_waits, decoded, finish_by, finished, happened, happened_by, is_due, is_free, is_outer, new_backend, placed, rebased, rebased_at, rebased_by, refused, released, stopped_ring, taken_until, to_do, to_place, until_of, waited, with_outcome}
use Rattle.vhost_backend.specs.Messages.{Happening, Came, Done, Told, HungUp, after, all_events, stepped}
use Rattle.vhost_backend.specs.Ring.{new_ring}
use Rattle.vhost_backend.specs.Rings.{Happens, RingsState, happens, held, holding, nothing, now_held}
use Rattle.vhost_backend.specs.Rings.{is_free as is_free_hold}
use Rattle.vhost_backend.specs.declared.backend.Finish.{Finish}
use Rattle.vhost_backend.specs.declared.backend.Finish.TheVariants as end
use Rattle.vhost_backend.specs.declared.backend.Outcome.{Outcome}
use Rattle.vhost_backend.specs.declared.backend.Outcome.TheVariants.{Refused, Stays}
use Rattle.vhost_backend.specs.declared.backend.Taken.{Taken}
use Rattle.vhost_backend.specs.declared.backend.Taken.TheVariants as taken
use Rattle.vhost_backend.specs.declared.backend.Until.{Until}
use Rattle.vhost_backend.specs.declared.backend.Until.TheVariants.{Now, Ring, AllRings}
use Rattle.vhost_backend.specs.declared.rings.Actions.{Actions}
use Rattle.vhost_backend.specs.declared.ring.RingEvent.TheVariants.{Stop}
use Rattle.vhost_backend.specs.declared.rings.Event.{Event}
use Rattle.vhost_backend.specs.declared.rings.Event.TheVariants as event

-- it leaves as many rings as there were, if it makes a connection
abbrev pub Same : Connection → Result Connection Refusal → Type 0
Same s (Ok new) = length new.vrings ≡ length s.vrings
Same s (Err e) = Unit {0}

module _ (s : Connection) where
  by_test : (b : Bool) (e : Refusal) (new : Connection) → length new.vrings ≡ length s.vrings
      → Same s (if b then Err e else Ok new)
  by_test true e new same = tt
  by_test false e new same = same

  -- what a ring becomes, if it is there
  ring_same : (i : ℕ) (v : Vring) → Same s (Ok (with_vring s i v))
  ring_same i v = length-set s.vrings i v

  on_ring : (i : ℕ) (o : Result Vring Refusal) (f : Vring → Vring) → Same s (o >>= λ v. Ok (with_vring s i (f v)))
  on_ring i (Ok v) f = ring_same i (f v)
  on_ring i (Err e) f = tt

  on_tested : (i : ℕ) (o : Result Vring Refusal) (t : Vring → Bool) (e : Refusal) (f : Vring → Vring)
      → Same s (o >>= λ v. if t v then Err e else Ok (with_vring s i (f v)))
  on_tested i (Err x) t e f = tt
  on_tested i (Ok v) t e f = by_test (t v) e (with_vring s i (f v)) (ring_same i (f v))

  -- what a test lets be made
  after_test : {X : Type 0} (o : Result X Refusal) (new : Connection) → length new.vrings ≡ length s.vrings
      → Same s (o >>= λ x. Ok new)
  after_test (Ok x) new same = same
  after_test (Err e) new same = tt

  with_features_same : (features : ℕ) → Same s (user.with_features s features)
  with_features_same features = go (not (are_of features s.offer.features))
      (is_any_started s && not (differ_in_log features s.features))
    where
      go : (a b : Bool) → Same s (if a then Err Features else (if b then Err Started
          else Ok (record s { features = features })))
      go true b = tt
      go false true = tt
      go false false = refl

  with_protocol_same : (features : ℕ) → Same s (user.with_protocol_features s features)
  with_protocol_same features = go (needed s.offer.features feature.protocol_features)
      (not (are_of features s.offer.protocol_features))
    where
      go : (o : Result (Unit {0}) Refusal) (b : Bool) → Same s (o >>= λ x. if b then Err Features
          else Ok (record s { protocol_features = features }))
      go (Err e) b = tt
      go (Ok x) true = tt
      go (Ok x) false = refl

  with_address_same : (a : VringAddr) → Same s (user.with_address s a)
  with_address_same a = go (vring_at s a.index) (nat_lt 1 a.flags) (not (is_aligned a))
      (λ v. is_started v && not (is_placed_as v.address a))
    where
      go : (o : Result Vring Refusal) (x y : Bool) (z : Vring → Bool) → Same s (o >>= λ v. if x then Err Flags else (
          if y then Err Alignment else (if z v then Err Started
          else Ok (with_vring s a.index (record v { address = Some a })))))
      go (Err e) x y z = tt
      go (Ok v) true y z = tt
      go (Ok v) false true z = tt
      go (Ok v) false false z =
          by_test (z v) Started (with_vring s a.index (record v { address = Some a })) (ring_same a.index _)

  with_enabled_same : (i : ℕ) (enable : Bool) → Same s (user.with_enabled s i enable)
  with_enabled_same i enable = go (needed s.features feature.protocol_features)
    where
      go : (o : Result (Unit {0}) Refusal) → Same s (o >>= λ x. vring_at s i
          >>= λ v. Ok (with_vring s i (record v { enabled = enable })))
      go (Err e) = tt
      go (Ok x) = on_ring i (vring_at s i) (λ v. record v { enabled = enable })

  with_config_same : (c : ConfigSpace) (bytes : List ℕ) → Same s (user.with_config s c bytes)
  with_config_same c bytes = go (in_config s c.offset (length bytes)) (is_writable s.offer c.flags c.offset (length bytes))
    where
      go : (o : Result (Unit {0}) Refusal) (b : Bool) → Same s (o >>= λ x. if b
          then Ok (record s { config = replaced s.config c.offset bytes }) else Err ConfigReadOnly)
      go (Err e) b = tt
      go (Ok x) true = refl
      go (Ok x) false = tt

  with_inflight_same : (r : VhostUserInflight) → Same s (user.with_inflight s r)
  with_inflight_same r = go (in_offer s r)
      (nat_lt r.mmap_size (region_len s.features r) || not (nat_lt (r.mmap_offset + r.mmap_size) (2 ^ 64)))
    where
      go : (o : Result (Unit {0}) Refusal) (b : Bool)
          → Same s (o >>= λ x. if b then Err RegionRange else Ok (record s { inflight = Some r }))
      go (Err e) b = tt
      go (Ok x) true = tt
      go (Ok x) false = refl

  pub served_same : (request : FrontendReq) (payload : List ℕ) → Same s (served s request payload)
  served_same req.GetFeatures payload = refl
  served_same (req.SetFeatures features) payload = with_features_same features
  served_same req.SetOwner payload = refl
  served_same req.ResetOwner payload = refl
  served_same (req.SetMemTable table) payload = after_test (tested table) (record s { memory = table }) refl
  served_same (req.SetLogBase size offset) payload =
      after_test (needed s.protocol_features feature.log_shmfd) (record s { log = Some size }) refl
  served_same req.SetLogFd payload = after_test (needed s.offer.features feature.log_all) s refl
  served_same (req.SetVringNum index num) payload = on_tested index (stopped_at s index)
      (λ v. num == 0 || nat_lt s.offer.max_queue_size num) QueueSize (λ v. record v { num = num })
  served_same (req.SetVringAddr address) payload = with_address_same address
  served_same (req.SetVringBase index base) payload = on_tested index (stopped_at s index)
      (λ v. not (has s.features feature.ring_packed) && nat_lt 65535 base) Base (λ v. record v { base = base })
  served_same (req.GetVringBase index) payload = on_ring index (vring_at s index) (λ v. record v { kick = Unset })
  served_same (req.SetVringKick index descriptor) payload =
      on_ring index (vring_at s index) (λ v. record v { kick = notifier_of descriptor })
  served_same (req.SetVringCall index descriptor) payload =
      on_ring index (vring_at s index) (λ v. record v { call = notifier_of descriptor })
  served_same (req.SetVringErr index descriptor) payload =
      on_ring index (vring_at s index) (λ v. record v { err = notifier_of descriptor })
  served_same req.GetProtocolFeatures payload = after_test (needed s.offer.features feature.protocol_features) s refl
  served_same (req.SetProtocolFeatures features) payload = with_protocol_same features
  served_same req.GetQueueNum payload = after_test (needed s.protocol_features feature.mq) s refl
  served_same (req.SetVringEnable index enable) payload = with_enabled_same index enable
  served_same req.SetBackendReqFd payload = after_test (needed s.protocol_features feature.backend_req) s refl
  served_same (req.IotlbMsg message) payload = after_test (needed s.features feature.access_platform) s refl
  served_same (req.GetConfig space) payload = after_test (in_config s space.offset space.size) s refl
  served_same (req.SetConfig space) payload = with_config_same space (drop 12 payload)
  served_same (req.GetInflightFd region) payload = after_test (in_offer s region) s refl
  served_same (req.SetInflightFd region) payload = with_inflight_same region

none_past : {X : Type 0} (xs : List X) (i : ℕ) → slice_get xs i ≡ None → length xs ≤ i
none_past xs i none = elim (slice_get_cases xs i).1 [
  | inl (x, inside, there, same) ↦ let bad : Some x ≡ None = sym there ∙ none in absurd (cc)
  | inr (past, there) ↦ past
]

-- a ring that is there can be stopped
pub stops_there : (s : Connection) (request : FrontendReq) (payload : List ℕ) (i : ℕ) (e : Refusal)
    → stopped_ring request ≡ Some i → i < length s.vrings → served s request payload ≡ Err e → ⊥
stops_there s req.GetFeatures payload i e is below fails = absurd (cc)
stops_there s (req.SetFeatures features) payload i e is below fails = absurd (cc)
stops_there s req.SetOwner payload i e is below fails = absurd (cc)
stops_there s req.ResetOwner payload i e is below fails = absurd (cc)
stops_there s (req.SetMemTable table) payload i e is below fails = absurd (cc)
stops_there s (req.SetLogBase size offset) payload i e is below fails = absurd (cc)
stops_there s req.SetLogFd payload i e is below fails = absurd (cc)
stops_there s (req.SetVringNum index num) payload i e is below fails = absurd (cc)
stops_there s (req.SetVringAddr address) payload i e is below fails = absurd (cc)
stops_there s (req.SetVringBase index base) payload i e is below fails = absurd (cc)
stops_there s (req.SetVringKick index descriptor) payload i e is below fails = absurd (cc)
stops_there s (req.SetVringCall index descriptor) payload i e is below fails = absurd (cc)
stops_there s (req.SetVringErr index descriptor) payload i e is below fails = absurd (cc)
stops_there s req.GetProtocolFeatures payload i e is below fails = absurd (cc)
stops_there s (req.SetProtocolFeatures features) payload i e is below fails = absurd (cc)
stops_there s req.GetQueueNum payload i e is below fails = absurd (cc)
stops_there s (req.SetVringEnable index enable) payload i e is below fails = absurd (cc)
stops_there s req.SetBackendReqFd payload i e is below fails = absurd (cc)
stops_there s (req.IotlbMsg message) payload i e is below fails = absurd (cc)
stops_there s (req.GetConfig space) payload i e is below fails = absurd (cc)
stops_there s (req.SetConfig space) payload i e is below fails = absurd (cc)
stops_there s (req.GetInflightFd region) payload i e is below fails = absurd (cc)
stops_there s (req.SetInflightFd region) payload i e is below fails = absurd (cc)
stops_there s (req.GetVringBase index) payload i e is below fails = go (slice_get s.vrings index) refl
  where
    go : (o : Option Vring) → slice_get s.vrings index ≡ o → ⊥
    go (Some v) there = let made : served s (req.GetVringBase index) payload
        ≡ Ok (with_vring s index (record v { kick = Unset })) = rw there refl in
        let bad : Ok (with_vring s index (record v { kick = Unset })) ≡ Err e = sym made ∙ fails in absurd (cc)
    go None there =
        let same : index ≡ i = cc in
        let past : length s.vrings ≤ index = none_past s.vrings index there in
        absurd (omega (arith, below, past, same))

-- ---- as many rings as the protocol has

-- a step leaves as many rings in the protocol's state
abbrev pub Keeps : BackendState → BackendState → Type 0
Keeps b new = length new.connection.vrings ≡ length b.connection.vrings

begun_keeps : (b : BackendState) (h : Header) (request : FrontendReq) (payload : List ℕ)
    → Keeps b (begun b h request payload).0
begun_keeps b h request payload = go (served b.connection request payload) (served_same b.connection request payload)
  where
    go : (o : Result Connection Refusal) → Same b.connection o → Keeps b (begun_by b h request o).0
    go (Ok new) same = same
    go (Err e) same = refl

due_keeps : (b : BackendState) (h : Header) (request : FrontendReq) (payload : List ℕ) (until : Until) (due : Bool)
    → Keeps b (begun_or_waits b h request payload until due).0
due_keeps b h request payload until true = begun_keeps b h request payload
due_keeps b h request payload until false = refl

module _ (b : BackendState) where
  message_keeps : (h : Header) (payload : List ℕ) (n : ℕ) (used : Bool) → Keeps b (after_message b h payload n used).0
  message_keeps h payload n used = go (is_free b.taken)
    where
      decoded_keeps : (o : Result FrontendReq Refusal) → Keeps b (decoded b h payload n used o).0
      decoded_keeps (Err e) = refl
      decoded_keeps (Ok request) = right (n == descriptors_of request)
        where
          right : (r : Bool) → Keeps b (if r then taken_until b h request payload (until_of b used request)
              else (b, refused b h Descriptors)).0
          right false = refl
          right true =
              let until = until_of b used request in
              let t = waited b.rings until in
              let old : BackendState = record b { rings = t.0 } in
              due_keeps (placed old t.1) h request payload until (is_due until t.1)
              ∙ ap (λ c. length c.vrings) (placed_connection old t.1)

      go : (free : Bool) → Keeps b (if free then decoded b h payload n used (request_of h payload)
          else (b, to_do (nothing 0) None Stays)).0
      go true = decoded_keeps (request_of h payload)
      go false = refl

  event_keeps : (e : Event) → Keeps b (after_event b e).0
  event_keeps e = let t = happens b.rings e in let old : BackendState = record b { rings = t.0 } in
      go t old (is_outer e) (happened_keeps (placed old t.1) t.1 (placed old t.1).taken
      ∙ ap (λ c. length c.vrings) (placed_connection old t.1))
    where
      happened_keeps : (old : BackendState) (done : Actions) (t : Taken) → Keeps old (happened_by old done t).0
      happened_keeps old done taken.Nothing = refl
      happened_keeps old done taken.Over = refl
      happened_keeps old done (taken.Begun h request) = refl
      happened_keeps old done (taken.Waits h request until) = due_keeps old h request [] until (is_due until done)

      go : (t : RingsState × Actions) (old : BackendState) (outer : Bool) → Keeps b (happened (placed old t.1) t.1).0
          → Keeps b (if outer then with_outcome t.1 (to_place old t.1) (happened (placed old t.1) t.1)
          else (b, to_do (nothing 0) None Stays)).0
      go t old true keeps = keeps
      go t old false keeps = refl

  end_keeps : (f : Finish) → Keeps b (after_finish b f).0
  end_keeps f = go b.taken
    where
      at : (base : ℕ) (o : Option ℕ) → Keeps b (rebased_at (released b) base o).0
      at base None = refl
      at base (Some i) = by (with_base b.connection i base) (served_same b.connection (req.SetVringBase i base) [])
        where
          by : (o : Result Connection Refusal) → Same b.connection o → Keeps b (rebased_by (released b) o).0
          by (Ok new) same = same
          by (Err e) same = refl

      ended : (request : FrontendReq) (e : Finish) → Keeps b (rebased (released b) request e).0
      ended request end.Done = refl
      ended request (end.At base) = at base (stopped_ring request)
      ended request end.Failed = refl

      over : (request : FrontendReq) (h : Header) (t : BackendState × Bool) → Keeps b t.0
          → Keeps b (finished request h t).0
      over request h (new, true) keeps =
          ap (λ c. length c.vrings) (refreshed_connection (length new.placings) new) ∙ keeps
      over request h (new, false) keeps = keeps

      go : (t : Taken) → Keeps b (finish_by b f t).0
      go taken.Nothing = refl
      go taken.Over = refl
      go (taken.Waits h request until) = refl
      go (taken.Begun h request) = over request h (rebased (released b) request f) (ended request f)

  pub step_keeps : (x : Happening) → Keeps b (stepped b x)
  step_keeps (Came h payload n used) = message_keeps h payload n used
  step_keeps (Done end) = end_keeps end
  step_keeps (Told e) = event_keeps e
  step_keeps HungUp = refl

all_keep : (b : BackendState) (xs : List Happening) → Keeps b (after xs b)
all_keep b [] = refl
all_keep b (x ∷ xs) = all_keep (stepped b x) xs ∙ step_keeps b x

pub same_count : (c : Connection) (ids : ℕ) (xs : List Happening) → let b = after xs (new_backend c ids) in
    length b.connection.vrings ≡ length b.rings.rings
same_count c ids xs =
    let b0 = new_backend c ids in
    all_keep b0 xs ∙ sym (ap (λ s. length s.rings) (becomes b0 xs) ∙ all_count b0.rings (all_events xs b0)
    ∙ length-replicate (length c.vrings) (new_ring ids))

-- ---- what is refused

-- the protocol's state and the rings are what they were, if a step refuses
abbrev KeptBy : BackendState → RingsState → BackendState × Outcome → Type 0
KeptBy b s t = (e : Refusal) (told : Header) → t.1 ≡ Refused e told
    → (t.0.connection ≡ b.connection) × (t.0.rings.rings ≡ s.rings)

begun_stays : (b old : BackendState) (s : RingsState) (h : Header) (request : FrontendReq) (payload : List ℕ)
    → old.connection ≡ b.connection → old.rings.rings ≡ s.rings → KeptBy b s (begun old h request payload)
begun_stays b old s h request payload same rings = go (served old.connection request payload)
  where
    go : (o : Result Connection Refusal) → KeptBy b s (begun_by old h request o)
    go (Ok new) e told is = absurd (cc)
    go (Err x) e told is = (same, (released_same old.rings old.rings.hold).0 ∙ rings)

due_stays : (b old : BackendState) (s : RingsState) (h : Header) (request : FrontendReq) (payload : List ℕ)
    (until : Until) (due : Bool) → old.connection ≡ b.connection → old.rings.rings ≡ s.rings
    → KeptBy b s (begun_or_waits old h request payload until due)
due_stays b old s h request payload until true same rings e told is =
    begun_stays b old s h request payload same rings e told is
due_stays b old s h request payload until false same rings e told is = absurd (cc)

-- a hold leaves each ring as it is
pub hold_rings : (s : RingsState) → (happens s event.Hold).0.rings ≡ s.rings
hold_rings s = go (is_free_hold s.hold)
  where
    go : (free : Bool) → (let t : Happens = if free
        then (held (holding s), record { ring = 0; actions = []; held = now_held (holding s) })
        else (s, nothing 0) in t.0.rings ≡ s.rings)
    go true = held_rings (holding s)
    go false = refl

-- a step that refuses nothing
nothing_refused : (b : BackendState) (s : RingsState) (t : BackendState × Outcome) → t.1 ≡ Stays → KeptBy b s t
nothing_refused b s t stays e told is = let bad : Stays ≡ Refused e told = sym stays ∙ is in absurd (cc)

pub event_stays : (b : BackendState) (event : Event) (e : Refusal) (told : Header)
    → (let t = after_event b event in t.1.message ≡ Refused e told
    → (t.0.connection ≡ b.connection) × (t.0.rings.rings ≡ (happens b.rings event).0.rings))
event_stays b x =
    let t = happens b.rings x in
    let old : BackendState = record b { rings = t.0 } in
    go t old (is_outer x) (happened_stays (placed old t.1) t.1 (placed old t.1).taken (placed_connection old t.1)
    (ap (λ s. s.rings) (placed_rings old t.1)))
  where
    s : RingsState
    s = (happens b.rings x).0

    happened_stays : (old : BackendState) (done : Actions) (t : Taken) → old.connection ≡ b.connection
        → old.rings.rings ≡ s.rings → KeptBy b s (happened_by old done t)
    happened_stays old done taken.Nothing same rings = nothing_refused b s (old, Stays) refl
    happened_stays old done taken.Over same rings = nothing_refused b s (old, Stays) refl
    happened_stays old done (taken.Begun h request) same rings = nothing_refused b s (old, Stays) refl
    happened_stays old done (taken.Waits h request until) same rings =
        due_stays b old s h request [] until (is_due until done) same rings

    go : (t : RingsState × Actions) (old : BackendState) (outer : Bool) → KeptBy b s (happened (placed old t.1) t.1)
        → (e : Refusal) (told : Header) → (let u = if outer
        then with_outcome t.1 (to_place old t.1) (happened (placed old t.1) t.1)
        else (b, to_do (nothing 0) None Stays) in u.1.message ≡ Refused e told
        → (u.0.connection ≡ b.connection) × (u.0.rings.rings ≡ s.rings))
    go t old true kept e told is = kept e told is
    go t old false kept e told is = absurd (cc)

module _ (b : BackendState) (count : length b.connection.vrings ≡ length b.rings.rings) where
  waited_stays : (h : Header) (request : FrontendReq) (payload : List ℕ) (until : Until)
      → FitsUntil request until (length b.rings.rings) → (let t = waited b.rings until in
      let old : BackendState = record b { rings = t.0 } in (due : Bool)
      → KeptBy b b.rings (begun_or_waits (placed old t.1) h request payload until due))
  waited_stays h request payload Now fits due e told refuses = let old : BackendState = record b { rings = b.rings } in
      due_stays b (placed old (nothing 0)) b.rings h request payload Now due (placed_connection old (nothing 0))
      (ap (λ s. s.rings) (placed_rings old (nothing 0))) e told refuses
  waited_stays h request payload AllRings fits due e told refuses =
      let t = happens b.rings event.Hold in
      let old : BackendState = record b { rings = t.0 } in
      due_stays b (placed old t.1) b.rings h request payload AllRings due (placed_connection old t.1)
      (ap (λ s. s.rings) (placed_rings old t.1) ∙ hold_rings b.rings) e told refuses
  waited_stays h request payload (Ring i) (calm, is, below) false e told bad = absurd (cc)
  waited_stays h request payload (Ring i) (calm, is, below) true e told refuses =
      let t = happens b.rings (event.Ring i Stop) in
      let old : BackendState = record b { rings = t.0 } in
      cannot (placed old t.1) (placed_connection old t.1) (served (placed old t.1).connection request payload) refl refuses
    where
      cannot : {P : Type 0} (new : BackendState) → new.connection ≡ b.connection → (o : Result Connection Refusal)
          → served new.connection request payload ≡ o → (begun_by new h request o).1 ≡ Refused e told → P
      cannot new same (Ok made) is_o is_refused = absurd (cc)
      cannot new same (Err x) is_o is_refused = absurd (stops_there b.connection request payload i x is
          (rw count below) (rw (← same) is_o))

pub message_stays : (c : Connection) (ids : ℕ) (xs : List Happening) (h : Header) (payload : List ℕ) (n : ℕ) (used : Bool)
    (e : Refusal) (told : Header) → (let b = after xs (new_backend c ids) in
    let t = after_message b h payload n used in t.1.message ≡ Refused e told
    → (t.0.connection ≡ b.connection) × (t.0.rings.rings ≡ b.rings.rings))
message_stays c ids xs h payload n used =
    let b = after xs (new_backend c ids) in go b (same_count c ids xs) (is_free b.taken)
  where
    go : (b : BackendState) → length b.connection.vrings ≡ length b.rings.rings → (free : Bool) (e : Refusal)
        (told : Header) → (let t = if free then decoded b h payload n used (request_of h payload)
        else (b, to_do (nothing 0) None Stays) in t.1.message ≡ Refused e told
        → (t.0.connection ≡ b.connection) × (t.0.rings.rings ≡ b.rings.rings))
    go b count false e told is = absurd (cc)
    go b count true e told refuses = by (request_of h payload) e told refuses
      where
        by : (o : Result FrontendReq Refusal) (e : Refusal) (told : Header) → (let t = decoded b h payload n used o in
            t.1.message ≡ Refused e told → (t.0.connection ≡ b.connection) × (t.0.rings.rings ≡ b.rings.rings))
        by (Err x) e told is = (refl, refl)
        by (Ok request) e told refuses = right (n == descriptors_of request) e told refuses
          where
            right : (r : Bool) (e : Refusal) (told : Header) → (let t = if r
                then taken_until b h request payload (until_of b used request) else (b, refused b h Descriptors) in
                t.1.message ≡ Refused e told → (t.0.connection ≡ b.connection) × (t.0.rings.rings ≡ b.rings.rings))
            right false e told is = (refl, refl)
            right true e told is = let until = until_of b used request in waited_stays b count h request payload until
                (until_fits b used request) (is_due until (waited b.rings until).1) e told is
