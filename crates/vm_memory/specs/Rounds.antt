-- An image of a block that is kept in rounds: each harvest of the block's bitmap patches it with the pages
-- that the harvest takes.
use Rattle.std.specs.Prelude.{◌≡◌, ℕ, ◌*◌, ◌≤◌, ◌==◌, if◌then◌else◌, List, ◌∷◌, length}
use Rattle.std.specs.Prelude.{slice_get, slice_set, Option, Some, None, IfSome, option_and_then}
use Rattle.vm_memory_base.specs.Pages.{PageSet, shape, dirty_pages, cleaned}
use Rattle.vm_memory_base.specs.declared.bitmap.BitmapId.TheVariants as bitmap
use Rattle.vm_memory_guest.specs.Dirt.{pages_at}
use Rattle.vm_memory_guest.specs.Host.{Host, block_at}
use Rattle.vm_memory_guest.specs.Memory.{IsOn}
use Rattle.vm_memory_guest.specs.Patch.{patched}
use Rattle.vm_memory_guest.specs.Window.{with_bitmap}
use Rattle.vm_memory.specs.Commands.{written_memory}
use Rattle.vm_memory.specs.Machine.{Run, outcome}
use Rattle.vm_memory.specs.State.{State}
use Rattle.vm_memory.specs.declared.machine.command.Command.{Command}
use Rattle.vm_memory.specs.declared.machine.command.Command.TheVariants.{Harvest}
use Rattle.vm_memory.specs.declared.machine.command.Reply.{Reply}
use Rattle.vm_memory.specs.declared.machine.command.Reply.TheVariants.{Pages}

-- the same by the pages of a bitmap: if it tracks nothing, there is nothing to replace
abbrev pub patched_by : PageSet → List ℕ → List ℕ → List ℕ → List ℕ
patched_by None pages now image = image
patched_by (Some p) pages now image = patched p.page_size pages now image

-- the bytes of a block, and the pages of its bitmap
abbrev pub bytes_of_block : ℕ → Host PageSet → List ℕ
bytes_of_block block host = block_at host.blocks block

abbrev pub pages_of_block : ℕ → Host PageSet → PageSet
pages_of_block block host = pages_at (bitmap.Block block) host

-- an image patched with these pages of a block, as its bytes are in this host
abbrev pub patched_with : ℕ → Host PageSet → List ℕ → List ℕ → List ℕ
patched_with block host pages image = patched_by (pages_of_block block host) pages (bytes_of_block block host) image

-- an image, patched with the pages that are dirty now
abbrev pub image_now : ℕ → Host PageSet → List ℕ → List ℕ
image_now block host image = patched_with block host (dirty_pages (pages_of_block block host)) image

-- so patched, it is the block
abbrev pub MirrorsBlock : ℕ → Host PageSet → List ℕ → Type 0
MirrorsBlock block host image = image_now block host image ≡ bytes_of_block block host

-- the image after a command and its reply: a harvest of the block's bitmap patches it with the pages that are
-- replied
abbrev pub image_after : ℕ → Host PageSet → Command → Reply → List ℕ → List ℕ
image_after block host (Harvest (bitmap.Block b)) (Pages pages) image =
    if b == block then patched_with block host pages image else image
image_after block host c r image = image

-- pages of this size and number cover N bytes
abbrev pub Cover : Option (ℕ × ℕ) → ℕ → Type 0
Cover None len = len ≡ 0
Cover (Some s) len = len ≤ s.1 * s.0

-- the pages of a block's bitmap cover the block
abbrev pub IsTracked : ℕ → Host PageSet → Type 0
IsTracked block host = Cover (shape (pages_of_block block host)) (length (bytes_of_block block host))

-- a command does not write to a memory whose IOMMU is on
abbrev pub IsDirect : State → Command → Type 0
IsDirect old c = IfSome (option_and_then (slice_get old.memories) (written_memory c)) (λ m. IsOn m → ⊥)

-- no command of a run does
abbrev pub RunsDirectly : (old : State) (cs : List Command) (rs : List Reply) (new : State)
    → Run old cs rs new → Type 0
RunsDirectly old (c ∷ cs) (r ∷ rs) new run = IsDirect old c × RunsDirectly run.0 cs rs new run.2
RunsDirectly old cs rs new run = Unit {0}

-- a command replies as if the block had the bytes of the image, patched with the pages that are dirty now: so what a
-- read of any kind reaches of the block, it gives of the image
abbrev pub RepliesAsImage : ℕ → List ℕ → State → Command → Type 0
RepliesAsImage block image old c =
    let blocks = slice_set old.host.blocks block (image_now block old.host image) in
    (outcome (record old { host = record old.host { blocks = blocks } }) c).0 ≡ (outcome old c).0

-- at every state of a run the image, patched by the harvests before it, mirrors the block, and what is read is of it
abbrev pub KeepsImage : ℕ → List ℕ → (old : State) (cs : List Command) (rs : List Reply) (new : State)
    → Run old cs rs new → Type 0
KeepsImage block image old (c ∷ cs) (r ∷ rs) new run = MirrorsBlock block old.host image
    × RepliesAsImage block image old c
    × KeepsImage block (image_after block old.host c r image) run.0 cs rs new run.2
KeepsImage block image old cs rs new run = MirrorsBlock block new.host image

-- an image is brought up to date: patched with the pages that are dirty, of which none is dirty then. All
-- else stays
abbrev pub IsSynced : ℕ → State → List ℕ → State → List ℕ → Type 0
IsSynced block old image new synced = (synced ≡ image_now block old.host image)
    × (new ≡ record old { host = with_bitmap old.host (bitmap.Block block) (cleaned (pages_of_block block old.host)) })
