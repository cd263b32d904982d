use Rattle.std.proofs.Common.{◌≡◌, ◌∙◌, ap, subst, sym}
use Rattle.vm_memory_guest.specs.Copy.{front}
use Rattle.vm_memory_guest.specs.Transfer.{filled_of, touched_of}
use Rattle.vm_memory_guest.specs.Window.{Window, MarksWindow}
use Rattle.vm_memory_guest.proofs.host.HostMemory.fill_whole.Goals as goal

pub returns-in-Err-clause-lends : goal.returns-in-Err-clause-lends
returns-in-Err-clause-lends g c =
    let put = c.fill_place-filled.ensures.tried in
    let w = c.args.window.now in
    let marks = g.B.Bitmap.marks in
    let after = c.mark_window.new.self in
    let is : c.front.result ≡ front w (touched_of w.size c.fill_place-filled.result) =
    c.front.ensures ∙ ap (front w) (c.touched_of-marked.ensures
    ∙ ap (λ (v : Window). touched_of v.size c.fill_place-filled.result) c.window.view_is) in
    let there = subst (λ (v : Window). MarksWindow marks v c.fill_place-filled.new.self after) is
    c.mark_window.ensures.marks in
    record {
      bytes = put.0;
      filled = c.fill_place-filled.result;
      size = put.1;
      read = put.2;
      told = sym (ap (filled_of w.size) c.in-Err.is);
      marked = subst (λ host. MarksWindow marks (front w (touched_of w.size c.fill_place-filled.result)) host after)
          put.3 there;
    }
