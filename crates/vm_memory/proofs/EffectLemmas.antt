-- What is known of the effect of each command: the one proof that goes through all commands.
use Rattle.std.proofs.Common.{◌≡◌, ℕ, ◌==◌, cond, Bool, true, false, ◌&&◌, List, [], ◌∷◌, map, length, min, All, Option, Some, None, IfSome}
use Rattle.std.proofs.Common.{refl, ap, subst, slice_get, option_map}
use Rattle.std.specs.Int.{to_le_bytes}
use Rattle.vm_memory_base.specs.Pages.{PageSet, dirty_pages, cleaned}
use Rattle.vm_memory_base.specs.Script.{next_of}
use Rattle.vm_memory_base.specs.Table as table
use Rattle.vm_memory_base.specs.declared.bitmap.BitmapId.{BitmapId}
use Rattle.vm_memory_base.specs.declared.bitmap.BitmapId.TheVariants.{Block, Space}
use Rattle.vm_memory_base.specs.declared.io.scripted.SourceStep.{SourceStep}
use Rattle.vm_memory_base.specs.declared.iotlb.Permissions.TheVariants as permissions
use Rattle.vm_memory_guest.specs.Access.{Access, Reached, windows}
use Rattle.vm_memory_guest.specs.Dirt.{after_write}
use Rattle.vm_memory_guest.specs.Error.{error_of}
use Rattle.vm_memory_guest.specs.Host.{Host, bytes_at, cells_from}
use Rattle.vm_memory_guest.specs.Layout.{inserted, removed}
use Rattle.vm_memory_guest.specs.Memory.{Memory, IsOn, behind_of}
use Rattle.vm_memory_guest.specs.Region.{Region, IsRegion, IsLayout, layout_error}
use Rattle.vm_memory_guest.specs.Typed.{path_given}
use Rattle.vm_memory_guest.specs.Window.{with_bitmap}
use Rattle.vm_memory_guest.specs.declared.region.error.GuestRegionCollectionError.{GuestRegionCollectionError}
use Rattle.vm_memory_guest.specs.declared.region.error.GuestRegionCollectionError.TheVariants as layouts
use Rattle.vm_memory.specs.Copy.{copied, has_block, ends_inside}
use Rattle.vm_memory.specs.Effect.{Effect, Replies, AddsLayout, AddsMemory, SetsMemory, Leaves}
use Rattle.vm_memory.specs.Effect.{if_there, laid_out, without, leaves}
use Rattle.vm_memory.specs.Commands.{table_call}
use Rattle.vm_memory.specs.Lawful.{IsLaidOut, IsLawful}
use Rattle.vm_memory.specs.Commands.{bitmap_in, effect}
use Rattle.vm_memory_device.specs.Reach.{reached_by}
use Rattle.vm_memory.specs.Reply.{access_result, reply_of, reply_of_layout_error, writes}
use Rattle.vm_memory.specs.Rounds.{IsDirect, image_after}
use Rattle.vm_memory.specs.State.{State, named}
use Rattle.vm_memory.specs.Tables.{changed_table}
use Rattle.vm_memory.specs.Transfers.{dealt_to, receives}
use Rattle.vm_memory.specs.Typed.{fits_width, integer_of, stores_bytes, taken_by}
use Rattle.vm_memory.specs.declared.machine.command.Command.{Command}
use Rattle.vm_memory.specs.declared.machine.command.Command.TheVariants as command
use Rattle.vm_memory.specs.declared.machine.command.BlockRange.{BlockRange}
use Rattle.vm_memory.specs.declared.machine.command.Fault.TheVariants as fault
use Rattle.vm_memory.specs.declared.machine.command.Reply.{Reply}
use Rattle.vm_memory.specs.declared.machine.command.Reply.TheVariants as reply
use Rattle.vm_memory_device.proofs.TableLemmas.{AreLeftBy, same, changed_at}
use Rattle.vm_memory.proofs.BitmapLemmas.{bitmap_in-there}
use Rattle.vm_memory.proofs.CallLemmas.{HistoryLaws}
use Rattle.vm_memory.proofs.LawfulLemmas.{PassesLaw, IsLayout-removed, layout_at, memory_at, region_at, named_fit}
use Rattle.vm_memory.proofs.LayoutLemmas.{OfLeft, All-inserted, All-removed}
use Rattle.vm_memory.proofs.RoundsLemmas.{AreListed, CleanedStay, WriteLaws, KeepsBlock, MarksItsCell, direct_marks}
use Rattle.vm_memory.proofs.RoundsLemmas.{whole_marks, windows_mark, itself, itself_marks, after_copy-is, write_keeps}
use Rattle.vm_memory.proofs.RoundsLemmas.{lent_keeps, harvest_keeps}
use Rattle.vm_memory.proofs.StepLemmas.{IsStill, not_moved, reached_none, not_stored, not_received}
use Rattle.vm_memory.proofs.TransferLemmas.{RefusedLaw}
use Rattle.vm_memory.proofs.WantLemmas as answers
use Rattle.vm_memory.proofs.WantLemmas.{IsAnswer, IsLayoutFault, layout_fault, layout_told}

-- ---- replies that tell of no call of a table, and of no pages

-- a command with this reply made no call of a table, and patches no image
pub record IsSilent (c : Command) (r : Reply) : Type 0 where
  pub calls : (number : ℕ) → table_call number c r ≡ []
  pub patch : (block : ℕ) (host : Host PageSet) (image : List ℕ) → image_after block host c r image ≡ image

-- commands that make such calls, or clean pages
abbrev pub IsTold : Command → Type 0
IsTold (command.Set number iova to len perm) = ⊥
IsTold (command.Invalidate number iova len) = ⊥
IsTold (command.InvalidateAll number) = ⊥
IsTold (command.Harvest id) = ⊥
IsTold c = Unit {0}

silent : (c : Command) → IsTold c → (r : Reply) → IsSilent c r
silent (command.Set number iova to len perm) told r = absurd told
silent (command.Invalidate number iova len) told r = absurd told
silent (command.InvalidateAll number) told r = absurd told
silent (command.Harvest id) told r = absurd told
silent c told r = record { calls = λ number. refl; patch = λ block host image. refl }

-- replies that are neither that all was done nor pages
abbrev pub IsQuiet : Reply → Type 0
IsQuiet reply.Done = ⊥
IsQuiet (reply.Pages pages) = ⊥
IsQuiet r = Unit {0}

quiet_calls : (number : ℕ) (c : Command) (r : Reply) → IsQuiet r → table_call number c r ≡ []
quiet_calls number (command.Set n iova to len perm) reply.Done quiet = absurd quiet
quiet_calls number (command.Set n iova to len perm) r quiet = refl
quiet_calls number (command.Invalidate n iova len) reply.Done quiet = absurd quiet
quiet_calls number (command.Invalidate n iova len) r quiet = refl
quiet_calls number (command.InvalidateAll n) reply.Done quiet = absurd quiet
quiet_calls number (command.InvalidateAll n) r quiet = refl
quiet_calls number c r quiet = refl

quiet_patch : (block : ℕ) (host : Host PageSet) (image : List ℕ) (c : Command) (r : Reply) → IsQuiet r
    → image_after block host c r image ≡ image
quiet_patch block host image (command.Harvest (Block b)) (reply.Pages pages) quiet = absurd quiet
quiet_patch block host image (command.Harvest (Block b)) r quiet = refl
quiet_patch block host image c r quiet = refl

pub quiet_is_silent : (c : Command) (r : Reply) → IsQuiet r → IsSilent c r
quiet_is_silent c r quiet = record {
  calls = λ number. quiet_calls number c r quiet;
  patch = λ block host image. quiet_patch block host image c r quiet;
}

layout_quiet : (e : GuestRegionCollectionError) → IsQuiet (reply_of_layout_error e)
layout_quiet layouts.NoMemoryRegion = tt
layout_quiet layouts.MemoryRegionOverlap = tt
layout_quiet layouts.UnsortedMemoryRegions = tt
layout_quiet layouts.Memory = tt

-- ---- what is known of an effect

-- what is taken from the laws of page sets and of writes
pub record ImageLaws : Type 0 where
  pub are_listed : AreListed
  pub cleaned_stay : CleanedStay
  pub writes : WriteLaws

-- a host that a command leaves with this reply: the reply is no want of memory; where it tells of no change, there
-- is none; the tables are left by the calls that are told; and an image of a block is kept
pub record IsLeft (old : State) (c : Command) (r : Reply) (host : Host PageSet) : Type 0 where
  pub answer : RefusedLaw → IsAnswer r
  pub still : RefusedLaw → IsStill r → host ≡ old.host
  pub tables : HistoryLaws → (number : ℕ) → AreLeftBy number (table_call number c r) old.host.tables host.tables
  pub image : ImageLaws → (block : ℕ) (image : List ℕ) → IsDirect old c → KeepsBlock block image old.host
      → KeepsBlock block (image_after block old.host c r image) host

-- and by kinds of effects
abbrev pub IsOf : State → Command → Effect → Type 0
IsOf old c (Replies r) = IsAnswer r × IsSilent c r
IsOf old c (AddsLayout rs) = PassesLaw → IsLawful old → IsLaidOut rs
IsOf old c (AddsMemory m) = IsLawful old → IsLaidOut m.regions
IsOf old c (SetsMemory number m) = (IsLawful old → IsLaidOut m.regions) × IsSilent c reply.Done
IsOf old c (Leaves r host) = IsLeft old c r host

module _ (old : State) (c : Command) where
  there : {X : Type 0} (o : Option X) (does : X → Effect) → ((x : X) → o ≡ Some x → IsOf old c (does x))
      → IsOf old c (if_there o does)
  there None does each = (tt, quiet_is_silent c reply.NoSuch tt)
  there (Some x) does each = each x refl

  -- layouts
  tried : (rs : List Region) (o : Option GuestRegionCollectionError) → layout_error rs ≡ o
      → (IsLawful old → All IsRegion rs) → IsOf old c (laid_out rs o)
  tried rs None e fit = λ passes h. (fit h, ((passes rs (fit h)).0 e).1)
  tried rs (Some fault) e fit =
      let is = subst (λ (o : Option GuestRegionCollectionError). IfSome o IsLayoutFault) e (layout_fault rs) in
      (layout_told fault is, quiet_is_silent c (reply_of_layout_error fault) (layout_quiet fault))

  left_out : (o : Option (List Region × Region)) → (IsLawful old → OfLeft IsLaidOut o) → IsOf old c (without o)
  left_out None out = (tt, quiet_is_silent c (reply.Fault fault.NoMemoryRegion) tt)
  left_out (Some p) out = λ passes h. out h

  -- a host that is left as it was
  unchanged : (r : Reply) → IsAnswer r → IsQuiet r → IsOf old c (Leaves r old.host)
  unchanged r answer quiet = record {
    answer = λ law. answer;
    still = λ law still. refl;
    tables = λ laws number. rw (quiet_calls number c r quiet) (same number old.host.tables old.host.tables refl);
    image = λ laws block image direct kept. rw (quiet_patch block old.host image c r quiet) kept;
  }

  -- bytes that are written to a path
  written_to : IsTold c → (r : Reply) (xs : List Reached) (bytes : List ℕ) → IsAnswer r → (IsStill r → xs ≡ [])
      → (IsDirect old c → All MarksItsCell xs) → IsOf old c (Leaves r (after_write xs bytes old.host))
  written_to told r xs bytes answer none own =
      let s = silent c told r in
      record {
        answer = λ law. answer;
        still = λ law still. ap (λ (ys : List Reached). after_write ys bytes old.host) (none still);
        tables = λ laws number. rw (s.calls number) (same number _ _ (laws.writes_keep xs bytes old.host));
        image = λ laws block image direct kept.
            rw (s.patch block old.host image)
            (write_keeps laws.writes xs (own direct) bytes old.host block image kept);
      }

  -- a copy is a write of what the bytes were
  copies_to : IsTold c → (from to : BlockRange) (there fits : Bool)
      → IsOf old c (leaves (cond there (cond fits (reply.Done, copied old.host from to) (reply.BadRange, old.host))
      (reply.NoSuch, old.host)))
  copies_to told from to false fits = unchanged reply.NoSuch tt tt
  copies_to told from to true false = unchanged reply.BadRange tt tt
  copies_to told from to true true =
      let n = min from.len to.len in
      let source = cells_from from.block from.offset n in
      let cs = cells_from to.block to.offset n in
      subst (λ (host : Host PageSet). IsOf old c (Leaves reply.Done host)) (after_copy-is source cs old.host)
      (written_to told reply.Done (map itself cs) (bytes_at old.host.blocks source) tt absurd
      (λ direct. itself_marks cs))

  -- a change of a table
  changed_by : (number : ℕ) (call : table.TableEvent)
      → ((n : ℕ) → table_call n c reply.Done ≡ cond (number == n) (call ∷ []) [])
      → ((block : ℕ) (image : List ℕ) → image_after block old.host c reply.Done image ≡ image)
      → (o : Option table.Table) → slice_get old.host.tables number ≡ o → (over : Bool)
      → IsOf old c (leaves (changed_table old.host number o over call))
  changed_by number call calls patch None e over = unchanged reply.NoSuch tt tt
  changed_by number call calls patch (Some t) e true = unchanged reply.BadRange tt tt
  changed_by number call calls patch (Some t) e false = record {
    answer = λ law. tt;
    still = λ law. absurd;
    tables = λ laws n. rw (calls n) (changed_at number n call t old.host.tables e);
    image = λ laws block image direct kept. rw (patch block image) kept;
  }

-- pages that are taken
harvested : (old : State) (id : BitmapId) (set : PageSet) → bitmap_in old.host id ≡ Some set
    → IsOf old (command.Harvest id) (Leaves (reply.Pages (dirty_pages set)) (with_bitmap old.host id (cleaned set)))
harvested old (Block b) set e = record {
  answer = λ law. tt;
  still = λ law. absurd;
  tables = λ laws number. same number _ _ refl;
  image = λ laws block image direct kept.
      harvest_keeps laws.are_listed laws.cleaned_stay block image old.host kept b set (bitmap_in-there old.host (Block b) set e);
}
harvested old (Space s) set e = record {
  answer = λ law. tt;
  still = λ law. absurd;
  tables = λ laws number. same number _ _ refl;
  image = λ laws block image direct kept. kept;
}

module _ (old : State) (c : Command) (memory : ℕ) (m : Memory) (e : slice_get old.memories memory ≡ Some m)
    (told : IsTold c) (is_direct : IsDirect old c → IfSome (slice_get old.memories memory) (λ q. IsOn q → ⊥)) (a : ℕ)
  where
    off : IsDirect old c → IsOn m → ⊥
    off direct = subst (λ (o : Option Memory). IfSome o (λ q. IsOn q → ⊥)) e (is_direct direct)

    abbrev for_write : ℕ → Access
    for_write n = reached_by m old.host.tables a n permissions.Write

    own : (n : ℕ) → IsDirect old c → All MarksItsCell (for_write n).path
    own n direct = direct_marks (behind_of m.iommu) (off direct) m.regions old.host.tables a n permissions.Write

    wrote : (whole : Bool) (bytes : List ℕ) → IsOf old c (leaves (writes whole m old.host a bytes))
    wrote whole bytes =
        let n = length bytes in
        let x = for_write n in
        written_to old c told (writes whole m old.host a bytes).0 x.path bytes (answers.wrote old.host m a whole bytes)
        (λ still. let e = not_moved whole n (access_result x) _ still refl in
        reached_none x.path (option_map error_of x.fault) e.0 e.1) (own n)

    stored : (bytes : List ℕ) (fits : Bool)
        → IsOf old c (leaves (cond fits (stores_bytes m old.host a bytes) (reply.BadRange, old.host)))
    stored bytes false = unchanged old c reply.BadRange tt tt
    stored bytes true =
        let n = length bytes in
        let taken = taken_by m old.host.tables a n permissions.Write in
        written_to old c told (reply_of (λ (xs : List Reached). reply.Done) taken) (path_given taken) bytes
        (answers.stored old.host m a bytes) (λ still. not_stored taken _ still refl)
        (λ direct. whole_marks n (for_write n).path (option_map error_of (for_write n).fault) (own n direct))

    got : (whole : Bool) (n : ℕ) (source : List SourceStep) → IsOf old c (leaves (receives whole m old.host a n source))
    got whole n source =
        let x = for_write n in
        let d = dealt_to whole m old.host a n source in
        let s = silent c told (receives whole m old.host a n source).0 in
        let kept_fault = option_map error_of x.fault in
        record {
          answer = λ law. answers.got old.host m a law whole n source;
          still = λ law still.
              not_received law kept_fault x.path source old.host _ still whole n d.answer refl refl;
          tables = λ laws number.
              rw (s.calls number)
              (same number _ _ (laws.lent_keep kept_fault whole (windows x.path) 0 (map next_of source) old.host));
          image = λ laws block image direct kept.
              rw (s.patch block old.host image)
              (lent_keeps block image old.host d.host (windows x.path) (windows_mark x.path (own n direct))
              (laws.writes.lent_mark kept_fault whole (windows x.path) 0 (map next_of source) old.host) kept);
        }

-- the regions that are left of a layout
left_laid_out : (rs : List Region) (base size : ℕ) → IsLaidOut rs → OfLeft IsLaidOut (removed (λ r. r) rs base size)
left_laid_out rs base size out =
    go (removed (λ r. r) rs base size) (All-removed IsRegion rs base size out.0)
    (IsLayout-removed rs base size out.0 out.1)
  where
    go : (o : Option (List Region × Region)) → OfLeft (All IsRegion) o → OfLeft IsLayout o → OfLeft IsLaidOut o
    go None fit out = tt
    go (Some p) fit out = (fit, out)

-- ---- the commands

module _ (old : State) where
  pub command_has_effect : (c : Command) → IsOf old c (effect old c)
  command_has_effect (command.FromRegions ns) =
      there old _ (named old.regions ns) _ (λ rs e. tried old _ rs _ refl (λ h. named_fit old h ns rs e))
  command_has_effect (command.Insert place number) =
      there old _ (slice_get old.layouts place) _
      (λ rs e. there old _ (slice_get old.regions number) _
      (λ r f. tried old _ (inserted (λ q. q) rs r) _ refl
      (λ h. All-inserted IsRegion rs r (layout_at old h place rs e).0 (region_at old h number r f))))
  command_has_effect (command.Remove place base size) =
      there old _ (slice_get old.layouts place) _
      (λ rs e. left_out old _ (removed (λ r. r) rs base.0 size)
      (λ h. left_laid_out rs base.0 size (layout_at old h place rs e)))
  command_has_effect (command.Plain place) =
      there old _ (slice_get old.layouts place) _ (λ rs e h. layout_at old h place rs e)
  command_has_effect (command.NewMemory place translator space on) =
      there old _ (slice_get old.layouts place) _
      (λ rs e. there old _ (slice_get old.translators translator) _
      (λ t f. there old _ (slice_get old.host.spaces space) _ (λ pages g h. layout_at old h place rs e)))
  command_has_effect (command.ReplaceBackend memory place) =
      there old _ (slice_get old.memories memory) _
      (λ m e. there old _ m.iommu _
      (λ s f. there old _ (slice_get old.layouts place) _ (λ rs g h. layout_at old h place rs g)))
  command_has_effect (command.Enable memory on) =
      there old _ (slice_get old.memories memory) _
      (λ m e. there old _ m.iommu _ (λ s f. ((λ h. memory_at old h memory m e), silent _ tt reply.Done)))
  command_has_effect (command.Read memory addr n) =
      there old _ (slice_get old.memories memory) _ (λ m e. (answers.read old.host m addr.0 n, silent _ tt _))
  command_has_effect (command.Write memory addr bytes) =
      there old _ (slice_get old.memories memory) _
      (λ m e. wrote old _ memory m e tt (λ d. d) addr.0 false bytes)
  command_has_effect (command.ReadSlice memory addr n) =
      there old _ (slice_get old.memories memory) _ (λ m e. (answers.read_whole old.host m addr.0 n, silent _ tt _))
  command_has_effect (command.WriteSlice memory addr bytes) =
      there old _ (slice_get old.memories memory) _
      (λ m e. wrote old _ memory m e tt (λ d. d) addr.0 true bytes)
  command_has_effect (command.Store memory width addr value) =
      there old _ (slice_get old.memories memory) _
      (λ m e. stored old _ memory m e tt (λ d. d) addr.0 (to_le_bytes (integer_of width) value)
      (fits_width (integer_of width) value))
  command_has_effect (command.Load memory width addr) =
      there old _ (slice_get old.memories memory) _
      (λ m e. (answers.loaded old.host m addr.0 (integer_of width), silent _ tt _))
  command_has_effect (command.ReadFrom memory addr n source) =
      there old _ (slice_get old.memories memory) _
      (λ m e. got old _ memory m e tt (λ d. d) addr.0 false n source)
  command_has_effect (command.ReadExactFrom memory addr n source) =
      there old _ (slice_get old.memories memory) _
      (λ m e. got old _ memory m e tt (λ d. d) addr.0 true n source)
  command_has_effect (command.WriteTo memory addr n sink) =
      there old _ (slice_get old.memories memory) _
      (λ m e. (answers.gave old.host m addr.0 false n sink, silent _ tt _))
  command_has_effect (command.WriteAllTo memory addr n sink) =
      there old _ (slice_get old.memories memory) _ (λ m e. (answers.gave old.host m addr.0 true n sink, silent _ tt _))
  command_has_effect (command.CheckRange memory addr n access) =
      there old _ (slice_get old.memories memory) _ (λ m e. (tt, silent _ tt _))
  command_has_effect (command.Dirty id) = there old _ (bitmap_in old.host id) _ (λ set e. (tt, silent _ tt _))
  command_has_effect (command.Harvest id) = there old _ (bitmap_in old.host id) _ (harvested old id)
  command_has_effect (command.Copy from to) =
      copies_to old _ tt from to (has_block old.host from && has_block old.host to)
      (ends_inside old.host from && ends_inside old.host to)
  command_has_effect (command.Set number iova to len perm) =
      changed_by old _ number (table.Set iova.0 to.0 len perm) (λ n. refl) (λ block image. refl)
      (slice_get old.host.tables number) refl (table.overruns iova.0 len)
  command_has_effect (command.Invalidate number iova len) =
      changed_by old _ number (table.Invalidate iova.0 len) (λ n. refl) (λ block image. refl)
      (slice_get old.host.tables number) refl (table.overruns iova.0 len)
  command_has_effect (command.InvalidateAll number) =
      changed_by old _ number table.InvalidateAll (λ n. refl) (λ block image. refl)
      (slice_get old.host.tables number) refl (table.overruns 0 0)
  command_has_effect (command.Lookup number iova len access) =
      there old _ (slice_get old.host.tables number) _
      (λ t e. (answers.looked_up (table.says t) iova.0 len access, silent _ tt _))
