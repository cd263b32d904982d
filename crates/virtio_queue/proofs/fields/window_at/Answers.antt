use Rattle.std.proofs.Common.{◌≡◌, ◌∙◌, ◌∷◌, [], All, List, ap, flat_map, option_map, subst, sym}
use Rattle.std.proofs.lemmas.List.Elements.{All-head}
use Rattle.vm_memory_guest.specs.Access.{AccessFault}
use Rattle.vm_memory_guest.specs.Answer.{Reach}
use Rattle.vm_memory_guest.specs.Error.{error_of}
use Rattle.vm_memory_guest.specs.Host.{Holds, shape_of}
use Rattle.vm_memory_guest.specs.Memory.{switched_names}
use Rattle.vm_memory_guest.specs.Region.{region_names}
use Rattle.vm_memory_guest.specs.Walk.{GivesAccess, alone, reached}
use Rattle.vm_memory_guest.specs.Window.{Window, window_names}
use Rattle.virtio_queue.proofs.RingLemmas.{first_kept, window_alone, window_refused}
use Rattle.virtio_queue.proofs.StoreLemmas.{windows_held}
use Rattle.virtio_queue.proofs.fields.window_at.Goals as goal

pub is_word-requires : goal.is_word-requires
is_word-requires g c =
    let m = g.M.GuestMemory.memory c.args.mem.now in
    let host = c.args.host.now in
    let a = c.in_ok-place.field-0 in
    let shape = shape_of host in
    let w = c.in-Some-default.window in
    let names = rw (g.met.M.GuestMemory.names_memory c.args.mem.now) at c.requires.held in
    let (regions, iommu) = (c.names_are_held_one_by_one.ensures.joined shape
    (flat_map region_names m.regions) (switched_names m.iommu)).0 names in
    let each = g.met.M.GuestMemory.each_fits c.args.mem.now in
    let paths = c.windows_are_the_path.ensures in
    let held = windows_held shape m.regions a 2 c.args.access each
    (λ h. paths.held shape m.regions a 2 each h)
    (λ says space h k. paths.held_with_translation shape m.regions says space a 2 each h k)
    m.iommu host.tables regions iommu in
    let gives : GivesAccess m host.tables a 2 c.args.access (alone w) =
    rw c.in-Some-default.is-0 at c.find_window.ensures in
    let one : w ∷ [] ≡ (reached m host.tables a 2 c.args.access).windows =
    ap (λ (r : Reach AccessFault). r.windows) gives.1 in
    let P = λ (w : Window). Holds shape (window_names w) in
    All-head P w [] (subst (λ (ws : List Window). All P ws) (sym one) held)

pub returns-then-is_word-clause-window : goal.returns-then-is_word-clause-window
returns-then-is_word-clause-window g c =
    let m = g.M.GuestMemory.memory c.args.mem.now in
    let host = c.args.host.now in
    let a = c.in_ok-place.field-0 in
    let w = c.in-Some-default.window in
    let gives : GivesAccess m host.tables a 2 c.args.access (alone w) =
    rw c.in-Some-default.is-0 at c.find_window.ensures in
    window_alone m host c.args.base c.args.offset a c.args.access c.place.result c.place.ensures c.in_ok-place.was w gives
    (sym c.is_word.ensures ∙ c.if-is_word.true)

pub returns-then-is_word-clause-held : goal.returns-then-is_word-clause-held
returns-then-is_word-clause-held g c = is_word-requires g c.before.before

pub first_word-requires : goal.first_word-requires
first_word-requires g c =
    let m = g.M.GuestMemory.memory c.args.mem.now in
    let host = c.args.host.now in
    let a = c.in_ok-place.field-0 in
    let shape = shape_of host in
    let names = rw (g.met.M.GuestMemory.names_memory c.args.mem.now) at c.requires.held in
    let (regions, iommu) = (c.names_are_held_one_by_one.ensures.joined shape
    (flat_map region_names m.regions) (switched_names m.iommu)).0 names in
    let each = g.met.M.GuestMemory.each_fits c.args.mem.now in
    let paths = c.windows_are_the_path.ensures in
    let held = windows_held shape m.regions a 2 c.args.access each
    (λ h. paths.held shape m.regions a 2 each h)
    (λ says space h k. paths.held_with_translation shape m.regions says space a 2 each h k)
    m.iommu host.tables regions iommu in
    rw c.in-Ok.ensures.answer.1 held

pub returns-in-Ok-clause-held : goal.returns-in-Ok-clause-held
returns-in-Ok-clause-held g c =
    rw c.first_word.ensures
    (first_kept (λ w. Holds (shape_of c.args.host.now) (window_names w)) c.in-Ok.walk.windows
    (option_map error_of c.in-Ok.walk.fault) (first_word-requires g c.before))

pub returns-in-Err-clause-window : goal.returns-in-Err-clause-window
returns-in-Err-clause-window g c =
    let m = g.M.GuestMemory.memory c.args.mem.now in
    rw c.of_access.ensures
    (window_refused m c.args.host.now c.args.base c.args.offset c.in_ok-place.field-0 c.args.access c.place.result
    c.place.ensures c.in_ok-place.was c.in-Err.error c.in-Err.ensures.answer)
