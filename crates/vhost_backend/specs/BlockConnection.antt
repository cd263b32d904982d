-- A connection of a block device with its guest memory: what each call makes of it.
use Rattle.std.specs.Prelude.{◌≡◌, ℕ, ◌+◌, ◌-◌, ◌*◌, ◌==◌, ◌||◌, nat_lt, bit_and, Bool, true, false, not, if◌then◌else◌, List, length, drop, slice_set, Option, Some, None, is_some, Result, Ok, Err, MatchOption}
use Rattle.std.specs.List.{list_all}
use Rattle.std.specs.declared.alloc.Global.{Global}
use Rattle.vhost_calls.specs.Codes.{code_of_offer}
use Rattle.vhost_calls.specs.Values.{offer_of}
use Rattle.vhost_calls.specs.declared.values.VhostOffer.{VhostOffer}
use Rattle.vhost_message.specs.BackendReq.{backend_reply}
use Rattle.vhost_message.specs.Header.{header_in}
use Rattle.vhost_message.specs.declared.backend_req.BackendReply.{BackendReply}
use Rattle.vhost_message.specs.declared.refusal.Refusal.{Refusal}
use Rattle.vhost_message.specs.declared.refusal.Refusal.TheVariants.{PayloadSize}
use Rattle.vhost_user.specs.Connection.{Connection, can_offer}
use Rattle.vhost_user.specs.Features.{access_platform, has}
use Rattle.vhost_user.specs.Log.{log_kept, logged}
use Rattle.vhost_user.specs.declared.backend_req_handler.Offer.{Offer}
use Rattle.vhost_user.specs.declared.backend_req_handler.OfferError.{OfferError}
use Rattle.vhost_user.specs.declared.backend_req_handler.OfferError.TheVariants.{Invalid, Memory}
use Rattle.vhost_backend.specs.BlockBackend.{answered, came, hung_up, mapped, new_block_backend, region_at, replied_to}
use Rattle.vhost_backend.specs.ConnectionMemory as memory
use Rattle.vhost_backend.specs.ConnectionMemory.{MemoryState, no_memory, with_behind, with_pages, with_tracked}
use Rattle.vhost_backend.specs.PageList.{capped}
use Rattle.vhost_backend.specs.TableCounts.{no_table_counts}
use Rattle.vhost_backend.specs.declared.block.BlockStep.{BlockStep}
use Rattle.vhost_backend.specs.declared.block.BlockStep.TheVariants as step
use Rattle.vhost_backend.specs.declared.block_backend.BlockBackend.{BlockBackend}
use Rattle.vhost_backend.specs.declared.block_connection.BlockConnection.{BlockConnection}
use Rattle.vhost_backend.specs.declared.block_connection.BlockDisk.{BlockDisk}
use Rattle.vhost_backend.specs.declared.deeds.Limits.{Limits}
use Rattle.vhost_backend.specs.declared.deeds.Why.TheVariants.{HungUp, Log}

-- ---- new ones

-- what requests are held against
abbrev pub limits_of : BlockDisk → Limits
limits_of disk = record {
  sectors = disk.sectors;
  read_only = not (disk.read_only == 0);
  seg_max = disk.seg_max;
  size_max = disk.size_max;
  unread = disk.unread;
  table_limit = disk.table_limit;
}

-- what is offered by a device whose table keeps so many ranges: without one all features but ACCESS_PLATFORM
abbrev pub offered : Offer → ℕ → Offer
offered offer limit = if nat_lt 0 limit then offer
    else record offer { features = bit_and offer.features 0xffff_fffd_ffff_ffff }

-- one with nothing negotiated, without memory
abbrev pub new_connection : Global → Offer → ℕ → List ℕ → Limits → BlockConnection
new_connection alloc offer count config limits = record {
  backend = new_block_backend alloc offer count config limits;
  memory = no_memory limits.table_limit;
  part = None;
  lost = None;
  marks = false;
  table_counts = no_table_counts;
}

-- it is made, or nothing like it can be offered, or an allocation failed
abbrev pub Connects : Global → Offer → ℕ → List ℕ → Limits → Result BlockConnection OfferError → Type 0
Connects alloc offer count config limits (Ok c) = let all = offered offer limits.table_limit in
    (can_offer all count config ≡ true) × (c ≡ new_connection alloc all count config limits)
Connects alloc offer count config limits (Err Invalid) =
    can_offer (offered offer limits.table_limit) count config ≡ false
Connects alloc offer count config limits (Err Memory) =
    can_offer (offered offer limits.table_limit) count config ≡ true

abbrev pub Opens : Global → VhostOffer → List ℕ → BlockDisk → Result BlockConnection ℕ → Type 0
Opens alloc offer config disk (Ok c) =
    Connects alloc (offer_of offer) offer.queues config (limits_of disk) (Ok c)
Opens alloc offer config disk (Err code) = (e : OfferError)
    × Connects alloc (offer_of offer) offer.queues config (limits_of disk) (Err e) × (code ≡ code_of_offer e)

-- ---- parts of one

abbrev pub with_backend : BlockConnection → BlockBackend → BlockConnection
with_backend c w = record c { backend = w }

-- ---- parts

-- whether a part has its bytes on the writable side of its chain, the first of them there, and how many there are
abbrev pub bytes_in : BlockStep → Bool × ℕ × ℕ
bytes_in (step.Read place offset len) = (true, offset, len)
bytes_in (step.Write place offset len) = (false, 16 + offset, len)
bytes_in (step.Name len) = (true, 0, len)
bytes_in step.Flush = (true, 0, 0)

-- ---- the log

-- how many pages have a bit in it, if writes are logged
abbrev pub pages_in : Option ℕ → ℕ
pages_in None = 0
pages_in (Some bytes) = capped (bytes * 8)

-- whether each page of the memory has one
abbrev pub is_covered : Connection → Bool
is_covered s = list_all (λ region. is_some (logged s region.guest_address.0 region.size)) s.memory

-- pages are marked, and rings lie at I/O addresses, as the connection has it. If a page has no bit, the connection is
-- over
abbrev pub as_negotiated : BlockConnection → BlockConnection
as_negotiated c = let s = c.backend.backend.connection in
    let pages = record c.memory.logged.pages { pages = pages_in (log_kept s) } in
    let logs = record c { memory = with_behind (with_pages c.memory pages) (has s.features access_platform) } in
    if is_covered s then logs else with_backend logs (hung_up logs.backend Log)

-- after a message was finished
abbrev pub looked_after : BlockConnection → BlockConnection
looked_after c = let seen = with_backend c (record c.backend { finished = false }) in
    if c.backend.finished then as_negotiated seen else seen

-- ---- events

-- a whole message is taken, unless a part is being given
abbrev pub taken_whole : BlockConnection → List ℕ → ℕ → BlockConnection × Bool
taken_whole c message descriptors =
    let t = came c.backend (header_in message) (drop 12 message) descriptors in (with_backend c t.0, t.1)

abbrev pub taken : BlockConnection → List ℕ → ℕ → BlockConnection × Bool
taken c message descriptors = if nat_lt (length message) 12 then (c, false)
    else if is_some c.part || is_some c.lost then (c, false) else taken_whole c message descriptors

abbrev pub kicked : BlockConnection → ℕ → BlockConnection
kicked c ring = with_backend c (record c.backend { kicks = slice_set c.backend.kicks ring true })

abbrev pub sent : BlockConnection → ℕ → BlockConnection
sent c count = with_backend c (record c.backend { unread = c.backend.unread - count })

-- a reply that came on the channel is taken, or ends the connection
unfoldable pub whole_reply : List ℕ → Result BackendReply Refusal
whole_reply message = backend_reply (header_in message) (drop 12 message)

abbrev pub reply_in : List ℕ → Result BackendReply Refusal
reply_in message = if nat_lt (length message) 12 then Err PayloadSize else whole_reply message

abbrev pub reply_came : BlockConnection → List ℕ → BlockConnection × Bool
reply_came c message = let t = replied_to c.backend (reply_in message) in (with_backend c t.0, t.1)

-- the region of requests in flight has these bytes
abbrev pub tracking : BlockConnection → List ℕ → BlockConnection
tracking c bytes = record c { memory = with_tracked c.memory bytes }

abbrev pub ended : BlockConnection → BlockConnection
ended c = with_backend c (hung_up c.backend HungUp)

abbrev pub done : BlockConnection → BlockConnection
done c = looked_after (with_backend c (answered c.backend true))

abbrev pub failed : BlockConnection → BlockConnection
failed c = with_backend c (answered (mapped c.backend false) false)

-- the bytes of a region came, if one was asked for
abbrev pub Maps : BlockConnection → Bool → BlockConnection → Type 0
Maps c is c' = MatchOption (region_at c.backend c.backend.ask) ((is ≡ false) × (c' ≡ c))
    (λ region. (bytes : List ℕ) × (m : MemoryState) × memory.Maps c.memory bytes is m
    × (c' ≡ record c { memory = m; backend = mapped c.backend is }))
