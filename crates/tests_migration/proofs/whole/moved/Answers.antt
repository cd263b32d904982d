use Rattle.std.proofs.Common.{◌≡◌, ℕ, List, [], Some, ap, sym, subst, ◌∙◌, arith}
use Rattle.std.proofs.lemmas.Grind.{common_steps}
use Rattle.vm_memory_guest.specs.Host.{block_at}
use Rattle.live_migration.specs.Calls.{ReadsAll}
use Rattle.tests_migration.proofs.whole.moved.Goals as goal

pub returns : goal.returns
returns g c =
    let came = c.in_ok-number.ensures in
    let next = c.receive_whole.new.host in
    let empty : c.receive_whole.new.reader.now ≡ [] = grind (arith, common_steps) in
    let read : ReadsAll g.C.Bitmap.made g.C.Bitmap.marks (Some c.send_whole.new.writer.items) came.0 next =
    subst (λ (x : List ℕ). ReadsAll g.C.Bitmap.made g.C.Bitmap.marks (Some x) came.0 next) c.as_slice-input.ensures.value
    (came.2 (ap (λ (x : List ℕ). Some x) empty)) in
    ap (block_at next.blocks) (sym came.1)
    ∙ c.in_ok-send_whole.ensures (ap (λ (x : List ℕ). Some x) c.new-stream.ensures.items) came.0 next read
