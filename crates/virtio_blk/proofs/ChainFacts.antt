-- What chains ask for, and that they were served.
use Rattle.std.proofs.Common.{◌≡◌, ◌∙◌, ◌==◌, ◌⊎◌, inl, inr, ℕ, ◌+◌, ◌-◌, ◌*◌, ◌%◌, ◌<◌, ◌≤◌, ◌^◌, Bool, true, false, not, ◌&&◌, ◌||◌, if◌then◌else◌, List, [], ◌∷◌, length, take, drop, min, Option, Some, None, Result, Ok, Err, IfOk, MatchBool, is_none, is_ok, nat_le, nat_lt, refl, sym, ap, subst, arith, length-drop, length-take, take_all}
use Rattle.std.proofs.lemmas.Bool.{cases_lt, eqb-false, eqb-true, leb-true, lt-ltb, ltb-false, ltb-true}
use Rattle.std.proofs.lemmas.List.{drop-take, drop_all}
use Rattle.vm_memory_base.specs.Table.{Table}
use Rattle.vm_memory_base.specs.declared.iotlb.Permissions.TheVariants as permissions
use Rattle.vm_memory_guest.specs.Access.{AccessFault, NoHostBytes, NoRegion, Reached}
use Rattle.vm_memory_guest.specs.Access as access
use Rattle.vm_memory_guest.specs.Error.{error_of}
use Rattle.vm_memory_guest.specs.Host.{Host}
use Rattle.vm_memory_guest.specs.Memory.{Memory, IsOn, route}
use Rattle.vm_memory_guest.specs.declared.region.error.GuestMemoryError.{GuestMemoryError}
use Rattle.vm_memory_guest.specs.declared.region.error.GuestMemoryError.TheVariants as errors
use Rattle.vm_memory_device.specs.Chain.{Entry, text_path}
use Rattle.vm_memory_device.specs.declared.chain.Segment.{Segment}
use Rattle.virtio_blk.specs.Config.{Device, counted, limits_of, must_stay}
use Rattle.virtio_blk.specs.Disk.{Call}
use Rattle.virtio_blk.specs.Inside.{CanDo, Did, asked_of, length_of}
use Rattle.virtio_blk.specs.Looks.{failed}
use Rattle.virtio_blk.specs.Request.{fits, kind_of, request_of, sector_of}
use Rattle.virtio_blk.specs.Served.{Does, NoHeader, Performs, ServesTexts, Tells, TellsStatus}
use Rattle.virtio_blk.specs.Steps.{Begins, Finishes, FitsOn, Told, breaks_limits, gapless, header_fault, status_fault}
use Rattle.virtio_blk.specs.Texts.{Accessed, Stops, WritesAt, reached, text_bytes}
use Rattle.virtio_blk.specs.declared.request.Request.{Request}
use Rattle.virtio_blk.specs.declared.request.Request.TheVariants.{Read, Write, Flush, GetId, Refused, Unserved}
use Rattle.virtio_blk.specs.declared.request.DeviceLimits.{DeviceLimits}
use Rattle.virtio_blk.proofs.StepFacts.{Goes, call-later, goes-take}
use Rattle.virtio_blk.proofs.TextFacts.{EndsAt, accessed_one, front_of, front_within, path_ends, stays_none, stops_there}

-- ---- requests

if_either : (Holds : Request → Type 0) (b : Bool) (x y : Request) → (b ≡ true → Holds x) → Holds y
    → Holds (if b then x else y)
if_either Holds true x y h k = h refl
if_either Holds false x y h k = k

both : (b c : Bool) → (b && c) ≡ true → (b ≡ true) × (c ≡ true)
both true true h = (refl, refl)
both true false h = absurd (cc)
both false c h = absurd (cc)

fits-parts : (sectors sector len : ℕ) → fits sectors sector len ≡ true
    → (len % 512 ≡ 0) × (512 * sector + len ≤ 512 * sectors)
fits-parts sectors sector len h =
    let parts = both (len % 512 == 0) (nat_le (512 * sector + len) (512 * sectors)) h in
    (eqb-true (len % 512) 0 parts.0, leb-true (512 * sector + len) (512 * sectors) parts.1)

-- what holds of each kind of request holds of what a header asks for
each_kind : (Holds : Request → Type 0) (limits : DeviceLimits) (header : List ℕ) (given room : ℕ)
    → (fits limits.sectors (sector_of header) room ≡ true → Holds (Read (sector_of header) room))
    → (fits limits.sectors (sector_of header) given ≡ true
    → Holds (Write (sector_of header) given (must_stay limits.acked given)))
    → Holds Flush → Holds (GetId (min room 20)) → Holds (Refused 1) → Holds (Refused 2)
    → Holds (request_of limits header given room)
each_kind Holds limits header given room reads writes flushes id refused unknown =
    let sector = sector_of header in
    if_either Holds (kind_of header == 0) _ _
    (λ k. if_either Holds (fits limits.sectors sector room) (Read sector room) (Refused 1) reads refused)
    (if_either Holds (kind_of header == 1) _ _
    (λ k. if_either Holds (not limits.read_only && fits limits.sectors sector given)
    (Write sector given (must_stay limits.acked given)) (Refused 1)
    (λ h. writes (both (not limits.read_only) (fits limits.sectors sector given) h).1) refused)
    (if_either Holds (kind_of header == 4) Flush _ (λ k. flushes)
    (if_either Holds (kind_of header == 8) (GetId (min room 20)) (Refused 2) (λ k. id) unknown)))

pub fits_of : (limits : DeviceLimits) (header : List ℕ) (given room : ℕ)
    → FitsOn limits.sectors (request_of limits header given room)
fits_of limits header given room =
    each_kind (FitsOn limits.sectors) limits header given room
    (fits-parts limits.sectors (sector_of header) room) (fits-parts limits.sectors (sector_of header) given) tt
    (omega arith) tt tt

-- also if the header was not found
pub fits_failed : (limits : DeviceLimits) (e : GuestMemoryError) (answer : Result Request GuestMemoryError)
    → answer ≡ failed e (Refused 1) → IfOk answer (FitsOn limits.sectors)
fits_failed limits e answer is =
    subst (λ (a : Result Request GuestMemoryError). IfOk a (FitsOn limits.sectors)) (sym is) (go e)
  where
    go : (e : GuestMemoryError) → IfOk (failed e (Refused 1)) (FitsOn limits.sectors)
    go (errors.InvalidGuestAddress a) = tt
    go (errors.IOError e) = tt
    go (errors.PartialBuffer expected completed) = tt
    go errors.InvalidBackendAddress = tt
    go errors.HostAddressNotAvailable = tt
    go errors.CallbackOutOfRange = tt
    go errors.GuestAddressOverflow = tt
    go (errors.IommuError e) = tt
    go errors.Memory = tt

can_of-request : (limits : DeviceLimits) (header : List ℕ) (given room size : ℕ) → room + 1 ≡ size → limits.sectors < 2 ^ 55
    → CanDo limits.sectors (request_of limits header given room) given size
can_of-request limits header given room size all small =
    each_kind (λ r. CanDo limits.sectors r given size) limits header given room
    (λ h. let parts = fits-parts limits.sectors (sector_of header) room h in (parts.0, parts.1, all, small))
    (λ h. let parts = fits-parts limits.sectors (sector_of header) given h in (parts.0, parts.1, refl, small))
    tt (omega arith, omega arith) tt tt

-- ---- what a chain asks for

module _ {B : Type 0} (m : Memory) (host : Host B) (limits : DeviceLimits) (given room : List Entry) where
  -- nothing, as it has no byte for the status, or to be refused, as its header cannot be read, or what that says
  abbrev pub Asks : Request → Bool → Type 0
  Asks request unread = ((length room ≡ 0) × (request ≡ Unserved) × (unread ≡ false))
      ⊎ ((0 < length room) × ((NoHeader m host given unread × (request ≡ Refused 1))
      ⊎ ((16 ≤ length (reached m host.tables given)) × Accessed m host.tables permissions.Read given 16
      × (request ≡ request_of limits (text_bytes m host given 16) (length given - 16) (length room - 1))
      × (unread ≡ false))))

  -- what a call over the header reaches
  abbrev header_path : List Reached
  header_path = text_path m.regions (route m host.tables) permissions.Read true (take 16 given)

  abbrev HeaderEnds : Option AccessFault → Type 0
  HeaderEnds fault = EndsAt m host.tables fault (length header_path) (length (take 16 given))

  readable_header : 16 ≤ length given → HeaderEnds None
      → (16 ≤ length (reached m host.tables given)) × Accessed m host.tables permissions.Read given 16
  readable_header enough ends =
      let whole : 16 ≤ length header_path = omega (arith, ends, length-take 16 given) in
      let within = front_within m host.tables header_path (reached m host.tables given)
      (front_of m host.tables permissions.Read given 16 enough) in
      (omega (arith, whole, within), accessed_one m host.tables permissions.Read given 16 16 whole)

  -- a call for what is left of the header, after what can be read of it, reaches nothing
  no_header : (f : AccessFault) → Goes given → 16 ≤ length given → HeaderEnds (Some f) → NoHeader m host given false
  no_header f goes enough short =
      let k = length header_path in
      let below : k < 16 = omega (arith, short, length-take 16 given) in
      let later = call-later m.regions (route m host.tables) permissions.Read k true (take 16 given)
      (goes-take 16 given goes) (inl refl) (omega arith) in
      let cut : drop k (take 16 given) ≡ take (16 - k) (drop k given) =
      ap (λ j. drop k (take j given)) (let e : 16 ≡ k + (16 - k) = omega (arith, below) in e)
      ∙ drop-take k (16 - k) given in
      let none : text_path m.regions (route m host.tables) permissions.Read true (take (16 - k) (drop k given)) ≡ [] =
      ap (text_path m.regions (route m host.tables) permissions.Read true) (sym cut) ∙ later.0
      ∙ drop_all k header_path (omega arith) in
      let stops : Stops m host.tables permissions.Read (drop k given) (16 - k) false = record {
        some = omega (arith, below, length-take (16 - k) (drop k given), length-drop k given, enough);
        why = none;
      } in
      inr (k, (below, stops))

  -- there may be no memory for the first access to the header
  header_wanted : IsOn m → 16 ≤ length given → NoHeader m host given true
  header_wanted on enough =
      let some : 0 < length (take 16 given) = omega (arith, length-take 16 given, enough) in
      let stops : Stops m host.tables permissions.Read given 16 true = record {
        some = some;
        why = record { on = on; more = some; begins = refl; reached = omega arith };
      } in
      inr (0, (omega arith, stops))

  abbrev request : Request
  request = request_of limits (text_bytes m host given 16) (length given - 16) (length room - 1)

  abbrev Made : Result Request GuestMemoryError → Type 0
  Made a = Asks (asked_of a).0 (asked_of a).1

  -- what the first step answers, or a refusal in place of an error
  pub asks_of : (answer : Result Request GuestMemoryError) → Goes given → Begins m host limits false given room answer
      → Asks (asked_of answer).0 (asked_of answer).1
  asks_of answer goes begins = unserved (length room == 0) refl begins
    where
      refused : NoHeader m host given false → 0 < length room → answer ≡ Ok (Refused 1) → Made answer
      refused none some told = subst Made (sym told) (inr (some, inl (none, refl)))

      header : (o : Option AccessFault) → HeaderEnds o → 0 < length room → 16 ≤ length given
          → Told m o request (Refused 1) answer → Made answer
      header None ends some enough (inl told) =
          let read = readable_header enough ends in
          subst Made (sym told) (inr (some, inr (read.0, read.1, refl, refl)))
      header (Some (NoRegion a)) ends some enough (inl told) =
          refused (no_header (NoRegion a) goes enough ends) some told
      header (Some NoHostBytes) ends some enough (inl told) =
          refused (no_header NoHostBytes goes enough ends) some told
      header (Some (access.Refused iova len reason)) ends some enough (inl told) =
          subst Made (sym told)
          (inr (some, inl (no_header (access.Refused iova len reason) goes enough ends, refl)))
      header o ends some enough (inr (told, on)) =
          subst Made (sym told) (inr (some, inl (header_wanted on enough, refl)))

      short : (b : Bool) → nat_lt (length given) 16 ≡ b → 0 < length room
          → MatchBool b (answer ≡ Ok (Refused 1)) (Told m (header_fault m host.tables given) request (Refused 1) answer)
          → Made answer
      short true is some told = refused (inl (ltb-true (length given) 16 is, refl)) some told
      short false is some told = header (header_fault m host.tables given)
          (path_ends m host.tables permissions.Read true (take 16 given)) some (ltb-false (length given) 16 is) told

      unserved : (b : Bool) → (length room == 0) ≡ b → MatchBool b (answer ≡ Ok Unserved)
          (MatchBool (nat_lt (length given) 16) (answer ≡ Ok (Refused 1))
          (Told m (header_fault m host.tables given) request (Refused 1) answer)) → Made answer
      unserved true is told = subst Made (sym told) (inl (eqb-true (length room) 0 is, refl, refl))
      unserved false is told =
          let some = eqb-false (length room) 0 is in short (nat_lt (length given) 16) refl (omega (arith, some)) told

  can_of : (request : Request) (unread : Bool) → Asks request unread → limits.sectors < 2 ^ 55
      → CanDo limits.sectors request (length (drop 16 given)) (length room)
  can_of request unread (inl (none, is, read)) small =
      subst (λ (r : Request). CanDo limits.sectors r (length (drop 16 given)) (length room)) (sym is) tt
  can_of request unread (inr (some, inl (none, is))) small =
      subst (λ (r : Request). CanDo limits.sectors r (length (drop 16 given)) (length room)) (sym is) tt
  can_of request unread (inr (some, inr (whole, accessed, is, read))) small =
      subst (λ (r : Request). CanDo limits.sectors r (length (drop 16 given)) (length room)) (sym is)
      (subst (λ n. CanDo limits.sectors
      (request_of limits (text_bytes m host given 16) (length given - 16) (length room - 1)) n (length room))
      (sym (length-drop 16 given))
      (can_of-request limits (text_bytes m host given 16) (length given - 16) (length room - 1) (length room)
      (omega (arith, some)) small))

-- what the first step answers can be done
pub can_serve : {B : Type 0} (m : Memory) (host : Host B) (limits now : DeviceLimits) (chain : List Segment)
    (given room : List Entry) (answer : Result Request GuestMemoryError) (asked : Request × Bool) → Goes given → now ≡ limits
    → breaks_limits limits chain ≡ false → Begins m host now (breaks_limits now chain) given room answer
    → asked ≡ asked_of answer → limits.sectors < 2 ^ 55
    → Asks m host limits given room asked.0 asked.1
    × CanDo limits.sectors asked.0 (length (drop 16 given)) (length room)
can_serve m host limits now chain given room answer asked goes same kept begun is small =
    let asks : Asks m host limits given room asked.0 asked.1 =
    subst (λ (p : Request × Bool). Asks m host limits given room p.0 p.1) (sym is)
    (asks_of m host limits given room answer goes
    (subst (λ b. Begins m host limits b given room answer) kept
    (subst (λ (t : DeviceLimits). Begins m host t (breaks_limits t chain) given room answer) same begun))) in
    (asks, can_of m host limits given room asked.0 asked.1 asks small)

-- a reader that skipped a header, or all that there is
pub after_header : (es left : List Entry) (passed : ℕ) → passed ≡ min 16 (length es) → left ≡ drop passed es
    → left ≡ drop 16 es
after_header es left passed is place = go (cases_lt (length es) 16)
  where
    go : (length es < 16) ⊎ (16 ≤ length es) → left ≡ drop 16 es
    go (inl short) = place ∙ drop_all passed es (omega (arith, is)) ∙ sym (drop_all 16 es (omega arith))
    go (inr enough) = let all : passed ≡ 16 = omega (arith, is) in place ∙ ap (λ n. drop n es) all

-- ---- what was done

abbrev last_of : List Entry → List Entry
last_of es = drop (length es - 1) es

abbrev last_path : Memory → List Table → List Entry → List Reached
last_path m tables es = text_path m.regions (route m tables) permissions.Write true (last_of es)

abbrev LastEnds : Memory → List Table → List Entry → Option AccessFault → Type 0
LastEnds m tables es fault = EndsAt m tables fault (length (last_path m tables es)) (length (last_of es))

abbrev ToldSo : {B : Type 0} → (B → ℕ → ℕ → B → Type 0) → Memory → List Entry → ℕ → ℕ → Host B → Host B
    → Result ℕ GuestMemoryError → Type 0
ToldSo marks m es status moved old new answer =
    TellsStatus marks m es status moved (length_of answer moved).1 old (length_of answer moved).0 new

-- the status of a request was told, or not
tells_of : {B : Type 0} (marks : B → ℕ → ℕ → B → Type 0) (m : Memory) (es : List Entry) (status moved : ℕ)
    (old new : Host B) (answer : Result ℕ GuestMemoryError) → 0 < length es → moved ≤ length es - 1
    → Told m (status_fault m old.tables es) (gapless es (min moved (length es - 1))) (min moved (length es - 1)) answer
    → MatchBool (is_ok answer && is_none (status_fault m old.tables es))
    (WritesAt marks m (drop (length es - 1) es) (status ∷ []) old new) (new ≡ old)
    → TellsStatus marks m es status moved (length_of answer moved).1 old (length_of answer moved).0 new
tells_of marks m es status moved old new answer some within told wrote =
    let all : min moved (length es - 1) ≡ moved = omega (arith, within) in
    go answer (status_fault m old.tables es) (path_ends m old.tables permissions.Write true (last_of es))
    (subst (λ n. Told m (status_fault m old.tables es) (gapless es n) n answer) all told) wrote
  where
    size : length (drop (length es - 1) es) ≡ 1
    size = omega (arith, length-drop (length es - 1) es, some)

    one : take 1 (last_of es) ≡ last_of es
    one = take_all 1 (last_of es) (omega (arith, size))

    some_left : 0 < length (take 1 (last_of es))
    some_left = omega (arith, ap length one, size)

    stops_on : IsOn m → Stops m old.tables permissions.Write (last_of es) 1 true
    stops_on on = record {
      some = some_left;
      why = record { on = on; more = some_left; begins = refl; reached = omega arith };
    }

    stops : (f : AccessFault) → LastEnds m old.tables es (Some f)
        → Stops m old.tables permissions.Write (last_of es) 1 false
    stops f short = stops_there m old.tables permissions.Write (last_of es) 1 f
        (subst (λ (ls : List Entry).
        length (text_path m.regions (route m old.tables) permissions.Write true ls) < length ls) (sym one) short)
        (subst (λ (ls : List Entry). length (text_path m.regions (route m old.tables) permissions.Write true ls) ≡ 0)
        (sym one) (omega (arith, short, size)))

    go : (r : Result ℕ GuestMemoryError) (o : Option AccessFault) → LastEnds m old.tables es o
        → Told m o (gapless es moved) moved r
        → MatchBool (is_ok r && is_none o) (WritesAt marks m (last_of es) (status ∷ []) old new) (new ≡ old)
        → ToldSo marks m es status moved old new r
    go (Ok n) None ends (inl told) wrote = inl (wrote, refl, cc)
    go (Err e) None ends (inl told) wrote = absurd (cc)
    go (Ok n) (Some (NoRegion a)) ends (inl told) wrote = inr (stops (NoRegion a) ends, wrote, cc)
    go (Err e) (Some (NoRegion a)) ends (inl told) wrote = absurd (cc)
    go (Ok n) (Some NoHostBytes) ends (inl told) wrote = inr (stops NoHostBytes ends, wrote, cc)
    go (Err e) (Some NoHostBytes) ends (inl told) wrote = absurd (cc)
    go (Ok n) (Some (access.Refused iova k reason)) ends (inl told) wrote = absurd (cc)
    go (Err e) (Some (access.Refused iova k reason)) ends (inl told) wrote =
        let same : e ≡ error_of (access.Refused iova k reason) = cc in
        subst (λ (d : GuestMemoryError). ToldSo marks m es status moved old new (Err d)) (sym same)
        (inr (stops (access.Refused iova k reason) ends, wrote, refl))
    go (Ok n) o ends (inr (told, on)) wrote = absurd (cc)
    go (Err e) o ends (inr (told, on)) wrote =
        let same : e ≡ errors.Memory = cc in
        subst (λ (d : GuestMemoryError). ToldSo marks m es status moved old new (Err d)) (sym same)
        (inr (stops_on on, wrote, refl))

module _ {B D : Type 0} (marks : B → ℕ → ℕ → B → Type 0) (bytes : D → Option (List ℕ)) (sectors : D → ℕ)
    (calls : D → Call → Bool → D → Type 0) (m : Memory) where
  -- what the header asks for was done. Memory was wanted for the header or for what that asks for
  performs_of : (given room : List Entry) (old : Device D) (host : Host B) (request : Request) (unread : Bool)
      (status : ℕ) (wanted : Bool) (sent : List ℕ) (disk : D) → 0 < length room
      → Asks m host (limits_of sectors old) given room request unread
      → Does bytes sectors calls m host request (drop 16 given) room old status wanted sent disk
      → Performs bytes sectors calls m host given room old status (unread || wanted) sent disk
  performs_of given room old host request unread status wanted sent disk some (inl (none, is, read)) does =
      absurd (omega (arith, none, some))
  performs_of given room old host request unread status wanted sent disk some (inr (more, inl (none, is))) does =
      let refused = subst
      (λ (r : Request). Does bytes sectors calls m host r (drop 16 given) room old status wanted sent disk) is does in
      let all : unread || wanted ≡ unread = ap (λ b. unread || b) refused.1 ∙ or_false unread in
      inl (
        subst (λ b. NoHeader m host given b) (sym all) none,
        subst (λ b. Does bytes sectors calls m host (Refused 1) (drop 16 given) room old status b sent disk) refused.1
            refused,
      )
    where
      or_false : (b : Bool) → (b || false) ≡ b
      or_false true = refl
      or_false false = refl
  performs_of given room old host request unread status wanted sent disk some
      (inr (more, inr (whole, accessed, is, read))) does = inr (
        whole,
        accessed,
        subst (λ b. Does bytes sectors calls m host
            (request_of (limits_of sectors old) (text_bytes m host given 16) (length given - 16) (length room - 1))
            (drop 16 given) room old status b sent disk) (sym (ap (λ b. b || wanted) read))
            (subst (λ (r : Request). Does bytes sectors calls m host r (drop 16 given) room old status wanted sent disk) is
            does),
      )

  -- nothing was done for a chain that is not served
  stays : (given room : List Entry) (old : Device D) (host : Host B) (request : Request) (unread : Bool)
      (status moved : ℕ) (wanted : Bool) (new : Device D) (mid : Host B) → length room ≡ 0
      → Asks m host (limits_of sectors old) given room request unread
      → Did marks bytes sectors calls m request (drop 16 given) room old host status moved wanted new mid
      → (unread ≡ false) × (wanted ≡ false) × (new ≡ old) × (mid ≡ host)
  stays given room old host request unread status moved wanted new mid none (inr (some, more)) did =
      absurd (omega (arith, none, some))
  stays given room old host request unread status moved wanted new mid none (inl (empty, is, read)) did =
      let does = subst
      (λ (r : Request). Does bytes sectors calls m host r (drop 16 given) room old status wanted did.sent did.disk) is
      did.does in (
        read,
        does.1,
        did.is ∙ ap (λ (d : D). record old { disk = d }) does.2,
        stays_none marks m room host mid
            (subst (λ (bs : List ℕ). WritesAt marks m room bs host mid) does.0 did.written),
      )

  abbrev ServesIf : Bool → List Entry → List Entry → Device D → Host B → ℕ → Device D → Host B → Type 0
  ServesIf b given room old host len new after = MatchBool b
      ((s : ℕ) × (sent : List ℕ) × (disk : D) × (before : Bool) × (later : Bool)
      × Performs bytes sectors calls m host given room old s before sent disk
      × Tells marks m room s sent later host len after
      × (new ≡ record old { disk = disk; starved = counted (before || later) old.starved }))
      ((len ≡ 0) × (new ≡ old) × (after ≡ host))

  -- the device afterwards: the request left its disk, and then the chain was counted
  abbrev pub Leaves : Bool → Device D → Device D → Type 0
  Leaves wanted mid new = new ≡ record mid { starved = counted wanted mid.starved }

  -- a chain was served by the two steps and the disk
  pub served_of : (given room : List Entry) (old : Device D) (host : Host B) (asked : Request × Bool)
      (status moved : ℕ) (wanted : Bool) (now : Device D) (mid : Host B) (answer : Result ℕ GuestMemoryError)
      (told : ℕ × Bool) (new : Device D) (after : Host B)
      → Asks m host (limits_of sectors old) given room asked.0 asked.1
      → Did marks bytes sectors calls m asked.0 (drop 16 given) room old host status moved wanted now mid
      → moved ≤ length room - 1 → Finishes marks m room status moved mid answer after
      → told ≡ length_of answer moved → Leaves (asked.1 || wanted || told.1) now new
      → ServesTexts marks bytes sectors calls m given room old host told.0 new after
  served_of given room old host asked status moved wanted now mid answer told new after asks did within finishes is
      leaves = go (length room == 0) refl finishes
    where
      go : (b : Bool) → (length room == 0) ≡ b → MatchBool b ((answer ≡ Ok 0) × (after ≡ mid))
          (Told m (status_fault m mid.tables room) (gapless room (min moved (length room - 1)))
          (min moved (length room - 1)) answer
          × MatchBool (is_ok answer && is_none (status_fault m mid.tables room))
          (WritesAt marks m (drop (length room - 1) room) (status ∷ []) mid after) (after ≡ mid))
          → ServesIf (nat_lt 0 (length room)) given room old host told.0 new after
      go true z (done, same) =
          let none = eqb-true (length room) 0 z in
          let left = stays given room old host asked.0 asked.1 status moved wanted now mid none asks did in
          let zero : told ≡ (0, false) = is ∙ ap (λ (a : Result ℕ GuestMemoryError). length_of a moved) done in
          let uncounted : (asked.1 || wanted || told.1) ≡ false =
          ap (λ b. b || wanted || told.1) left.0 ∙ ap (λ b. b || told.1) left.1 ∙ ap (λ (p : ℕ × Bool). p.1) zero in
          let same_device : new ≡ now =
          leaves ∙ ap (λ b. record now { starved = counted b now.starved }) uncounted in
          subst (λ b. ServesIf b given room old host told.0 new after) (sym (ap (nat_lt 0) none))
          (ap (λ (p : ℕ × Bool). p.0) zero, same_device ∙ left.2, same ∙ left.3)
      go false z (answered, wrote) =
          let more = eqb-false (length room) 0 z in
          let some : 0 < length room = omega (arith, more) in
          subst (λ b. ServesIf b given room old host told.0 new after) (sym (lt-ltb 0 (length room) some)) (
            status,
            did.sent,
            did.disk,
            asked.1 || wanted,
            told.1,
            performs_of given room old host asked.0 asked.1 status wanted did.sent did.disk some asks did.does,
            (
              mid,
              did.written,
              subst (λ n. TellsStatus marks m room status n told.1 mid told.0 after) (sym did.count)
                  (subst (λ (p : ℕ × Bool). TellsStatus marks m room status moved p.1 mid p.0 after) (sym is)
                  (tells_of marks m room status moved mid after answer some within answered wrote)),
            ),
            leaves
                ∙ ap (λ (d : Device D). record d { starved = counted (asked.1 || wanted || told.1) d.starved }) did.is,
          )
