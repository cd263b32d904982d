-- The log of dirty pages: a bit for each page of guest memory, the lowest of a byte first.
use Rattle.std.specs.Prelude.{ℕ, Bool, ◌+◌, ◌-◌, ◌/◌, ◌^◌, ◌==◌, nat_lt, if◌then◌else◌, Option, Some, None}
use Rattle.vhost_user.specs.Connection.{Connection}
use Rattle.vhost_user.specs.Features as feature
use Rattle.vhost_user.specs.Features.{has}
use Rattle.vhost_user.specs.declared.log.LogPages.{LogPages}

-- the page of an address
abbrev pub page_of : ℕ → ℕ
page_of address = address / 4096

-- how many bytes the log has, if writes are logged: LOG_ALL was accepted, and a log was shared
abbrev pub log_kept : Connection → Option ℕ
log_kept s = if has s.features feature.log_all then s.log else None

abbrev pub no_pages : LogPages
no_pages = record { first = 0; count = 0 }

-- the pages from one to another
abbrev pub pages_to : ℕ → ℕ → LogPages
pages_to first last = record { first = first; count = last - first + 1 }

-- a log of so many bytes has a bit for a page
abbrev pub has_bit : ℕ → ℕ → Bool
has_bit size page = nat_lt (page / 8) size

-- the pages of the bytes from an address up to another one, if the log has their bits
abbrev pub logged_to : ℕ → ℕ → ℕ → Option LogPages
logged_to size address last = if nat_lt (2 ^ 64 - 1) last then None else (
    if has_bit size (page_of last) then Some (pages_to (page_of address) (page_of last)) else None)

abbrev pub logged_in : Option ℕ → ℕ → ℕ → Option LogPages
logged_in None address len = Some no_pages
logged_in (Some size) address len =
    if len == 0 then Some no_pages else logged_to size address (address + (len - 1))

-- the pages that are marked in the log for so many bytes of guest memory that were written, from an address on: none if
-- writes are not logged. None if the log has no bit for one of them
abbrev pub logged : Connection → ℕ → ℕ → Option LogPages
logged s address len = logged_in (log_kept s) address len
