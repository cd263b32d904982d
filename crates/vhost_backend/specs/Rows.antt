-- What crosses to C: what is to be done, as a row of numbers.
use Rattle.std.specs.Prelude.{ℕ, ◌+◌, ◌-◌, min, Bool, if◌then◌else◌, Option, Some, None}
use Rattle.vhost_calls.specs.Codes.{code_of_refusal}
use Rattle.vhost_message.specs.declared.regions.MemoryRegion.{MemoryRegion}
use Rattle.vm_memory_base.specs.declared.iotlb.Permissions.{Permissions}
use Rattle.vm_memory_base.specs.declared.iotlb.Permissions.TheVariants as permissions
use Rattle.vhost_backend.specs.PageList.{capped}
use Rattle.vhost_backend.specs.declared.block.BlockStep.{BlockStep}
use Rattle.vhost_backend.specs.declared.block.BlockStep.TheVariants as step
use Rattle.vhost_backend.specs.declared.deeds.Deed.{Deed}
use Rattle.vhost_backend.specs.declared.deeds.Deed.TheVariants as deed
use Rattle.vhost_backend.specs.declared.deeds.Why.{Why}
use Rattle.vhost_backend.specs.declared.deeds.Why.TheVariants as why
use Rattle.vhost_backend.specs.declared.page_list.PageRange.{PageRange}
use Rattle.vhost_backend.specs.declared.questions.Miss.{Miss}
use Rattle.vhost_backend.specs.declared.rows.ActionRow.{ActionRow}
use Rattle.vhost_backend.specs.declared.wanted.Purpose.{Purpose}
use Rattle.vhost_backend.specs.declared.wanted.Purpose.TheVariants as purpose

abbrev pub no_action : ℕ → ActionRow
no_action kind = record {
  kind = kind;
  ring = 0;
  id = 0;
  way = 0;
  count = 0;
  more = 0;
  left = 0;
  place = 0;
  len = 0;
  guest = 0;
  user = 0;
}

-- a number of 32 bits: of rings, descriptors and pieces there are fewer
abbrev pub number_of : ℕ → ℕ
number_of n = min n 0xffff_ffff

abbrev pub on_ring : ℕ → ℕ → ActionRow
on_ring kind ring = record (no_action kind) { ring = number_of ring }

abbrev pub flag_of : Bool → ℕ
flag_of is = if is then 1 else 0

abbrev pub mark_row : PageRange → ActionRow
mark_row range = record (no_action 9) { place = range.first; len = range.end - range.first }

abbrev pub map_row : MemoryRegion → ℕ → ActionRow
map_row region descriptor = record (no_action 3) {
  id = number_of descriptor;
  place = region.mmap_offset;
  len = region.size;
  guest = region.guest_address.0;
  user = region.user_address;
}

abbrev pub way_of_purpose : Purpose → ℕ
way_of_purpose (purpose.Kick ring) = 1
way_of_purpose (purpose.Call ring) = 2
way_of_purpose (purpose.Error ring) = 3
way_of_purpose purpose.Channel = 4
way_of_purpose purpose.LogCall = 5

abbrev pub ring_of_purpose : Purpose → ℕ
ring_of_purpose (purpose.Kick ring) = ring
ring_of_purpose (purpose.Call ring) = ring
ring_of_purpose (purpose.Error ring) = ring
ring_of_purpose purpose.Channel = 0
ring_of_purpose purpose.LogCall = 0

abbrev pub keep_row : Purpose → Bool → ActionRow
keep_row p is =
    record (no_action 5) { way = way_of_purpose p; ring = ring_of_purpose p; count = flag_of is }

abbrev pub way_of_why : Why → ℕ
way_of_why (why.Refused e) = 1
way_of_why why.Failed = 2
way_of_why why.Memory = 3
way_of_why why.Unread = 4
way_of_why why.Log = 5
way_of_why why.HungUp = 6

abbrev pub code_of_why : Why → ℕ
code_of_why (why.Refused e) = code_of_refusal e
code_of_why _ = 0

abbrev pub end_row : Why → ActionRow
end_row y = record (no_action 10) { way = way_of_why y; id = code_of_why y }

abbrev pub way_of_access : Permissions → ℕ
way_of_access permissions.No = 0
way_of_access permissions.Read = 1
way_of_access permissions.Write = 2
way_of_access permissions.ReadWrite = 3

-- a mapping is asked for
abbrev pub ask_row : Miss → ActionRow
ask_row miss = record (no_action 12) { ring = number_of miss.ring; way = way_of_access miss.access; place = miss.iova }

-- what is to be done but a part of a request, of which the reply has so many bytes
abbrev pub row_of : Deed → ℕ → Option ActionRow
row_of deed.Send n = Some (record (no_action 1) { len = n })
row_of deed.UnmapAll n = Some (no_action 2)
row_of (deed.Map region descriptor) n = Some (map_row region descriptor)
row_of deed.Join n = None
row_of (deed.Log size offset) n = Some (record (no_action 4) { place = offset; len = size })
row_of (deed.File size) n = Some (record (no_action 13) { len = size })
row_of (deed.Region size offset) n = Some (record (no_action 14) { place = offset; len = size })
row_of (deed.Keep p is) n = Some (keep_row p is)
row_of (deed.Part ring id part left) n = None
row_of (deed.Interrupt ring) n = Some (on_ring 7 ring)
row_of (deed.Tell ring) n = Some (on_ring 8 ring)
row_of (deed.Stopped ring) n = Some (on_ring 11 ring)
row_of (deed.End y) n = Some (end_row y)
row_of deed.Table n = None
row_of (deed.Ask miss) n = Some (ask_row miss)

-- ---- parts

abbrev pub way_of_part : BlockStep → ℕ
way_of_part (step.Read place offset len) = 1
way_of_part (step.Write place offset len) = 2
way_of_part step.Flush = 3
way_of_part (step.Name len) = 4

abbrev pub place_of_part : BlockStep → ℕ
place_of_part (step.Read place offset len) = place
place_of_part (step.Write place offset len) = place
place_of_part step.Flush = 0
place_of_part (step.Name len) = 0

-- N bytes of a part in some pieces, from an offset on, after which its request has so many parts
abbrev pub part_row : ℕ → ℕ → BlockStep → ℕ → ℕ → ℕ → Bool → ℕ → ActionRow
part_row ring id part offset n count more left = record (no_action 6) {
  ring = number_of ring;
  id = id;
  way = way_of_part part;
  count = number_of count;
  more = flag_of more;
  left = left;
  place = capped (place_of_part part + offset);
  len = n;
}
