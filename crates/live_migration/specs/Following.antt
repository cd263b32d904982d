-- A sender with its host, as the state of the rounds.
use Rattle.std.specs.Prelude.{◌≡◌, ℕ, ◌*◌, ◌≤◌, List, length, drop, flat_map, slice_get, Some}
use Rattle.std.specs.List.{AllByRecursion}
use Rattle.vm_memory_base.specs.Pages.{PageSet}
use Rattle.vm_memory_base.specs.declared.bitmap.BitmapId.TheVariants.{Block}
use Rattle.vm_memory_guest.specs.Host.{Host, block_at}
use Rattle.vm_memory_guest.specs.Window.{bitmap_of}
use Rattle.live_migration.specs.Frame.{IsMessage, Message, spelling}
use Rattle.live_migration.specs.Image.{one_by_one}
use Rattle.live_migration.specs.Rounds.{Ends, Source}
use Rattle.live_migration.specs.Sending.{page_size_at}
use Rattle.live_migration.specs.declared.sender.pages.Target.{Target}
use Rattle.live_migration.specs.declared.sender.rounds.Rounds.{Rounds}

-- a block of a host is this source: it is as long as at the beginning, and the pages cover it
pub record IsSource {B : Type 0} (pages_of : B → PageSet) (t : Target) (host : Host B) (x : Source) : Type 0 where
  pub bitmap : B
  pub there : bitmap_of host (Block t.block.0) ≡ Some bitmap
  pub pages : pages_of bitmap ≡ Some x.pages
  pub bytes : x.bytes ≡ block_at host.blocks t.block.0
  pub size : x.pages.page_size ≡ t.entry.page_size
  pub covers : length x.bytes ≤ length x.pages.flags * x.pages.page_size
  pub len : length x.bytes ≡ t.entry.len

-- A sender has what the state says of its end, and no block twice. What waits to be sent are messages that have its
-- pages, one by one or several in one
pub record Follows {B : Type 0} (pages_of : B → PageSet) (r : Rounds) (host : Host B) (s : Ends) : Type 0 where
  pub count : s.count ≡ length r.targets.items
  pub round : s.round ≡ r.round
  pub turn : s.turn ≡ r.turn
  pub last : s.last ≡ r.last
  pub waiting : s.waiting ≡ drop r.next r.waiting.items
  pub messages : List Message
  pub fit : AllByRecursion IsMessage messages
  pub batch : r.batch.items ≡ flat_map spelling messages
  pub pages : flat_map (one_by_one (page_size_at r.targets.items)) messages ≡ s.batch
  pub sources : (j : ℕ) (t : Target) → slice_get r.targets.items j ≡ Some t → IsSource pages_of t host (s.sources j)
  pub once : (i j : ℕ) (t u : Target) → slice_get r.targets.items i ≡ Some t → slice_get r.targets.items j ≡ Some u
      → t.block.0 ≡ u.block.0 → i ≡ j

-- what a send and the end of a round leave of a sender
pub record KeepsRounds (old new : Rounds) : Type 0 where
  pub targets : new.targets ≡ old.targets
  pub waiting : new.waiting ≡ old.waiting
  pub next : new.next ≡ old.next
  pub last : new.last ≡ old.last

-- what a call that is refused leaves of a sender: the pages that wait still wait
pub record StaysAsItWas (old new : Rounds) : Type 0 where
  pub kept : KeepsRounds old new
  pub round : new.round ≡ old.round
  pub turn : new.turn ≡ old.turn
  pub batch : new.batch.items ≡ old.batch.items
