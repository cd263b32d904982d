-- Transfers from a source or to a sink that says what it does, computed: its outcomes are dealt to windows in
-- order.
use Rattle.std.specs.Prelude.{ℕ, ◌+◌, ◌-◌, ◌==◌, Bool, true, false, if◌then◌else◌, List, [], ◌∷◌, length, Option, Result, Ok, Err}
use Rattle.vm_memory_base.specs.Pages.{PageSet}
use Rattle.vm_memory_base.specs.Transfer.{Answer, Next, Sink, tried, over_front, Made, again, whole_of, counted_as, sent, sent_as}
use Rattle.vm_memory_base.specs.declared.io.VolatileMemoryError.{VolatileMemoryError}
use Rattle.vm_memory_guest.specs.Copy.{front}
use Rattle.vm_memory_guest.specs.Dirt.{marks_pages}
use Rattle.vm_memory_guest.specs.Host.{Host, bytes_at, written}
use Rattle.vm_memory_guest.specs.Transfer.{marked_of, ended}
use Rattle.vm_memory_guest.specs.Typed.{answered}
use Rattle.vm_memory_guest.specs.Window.{Window, cells_of, part}

-- what follows the move of a window, after n bytes: the others, if it was moved whole
abbrev pub after_move : {E X : Type 0} → (VolatileMemoryError → E) → ℕ → Window → X → Answer
    → (ℕ → Made E X) → Made E X
after_move failure total w x (Ok count) more =
    if count == w.size then more (total + count) else record { answer = Ok (total + count); left = x }
after_move failure total w x (Err e) more = record { answer = Err (failure e); left = x }

module _ {E X : Type 0} (failure : VolatileMemoryError → E) (fault : Option E)
    (move : Window → X → Made VolatileMemoryError X) where
  -- windows are moved one after the other, up to the first that is not moved whole
  unfoldable pub in_order : List Window → ℕ → X → Made E X
  in_order [] total x = record { answer = ended total fault; left = x }
  in_order (w ∷ ws) total x =
      let m = move w x in after_move failure total w m.left m.answer (λ now. in_order ws now m.left)

-- the pages of a window's bytes are dirty
abbrev pub dirty_window : Window → Host PageSet → Host PageSet
dirty_window w host = marks_pages w.bitmap.id w.bitmap.base w.size host

-- one try of a source with a host: its bytes come to the front of the window. What it reported is marked, or all
-- after a failure
abbrev pub lent : Window → List Next × Host PageSet → Made VolatileMemoryError (List Next × Host PageSet)
lent w x =
    let host = x.1 in
    let buffer = bytes_at host.blocks (cells_of w) in
    let t = tried (length buffer) x.0 in
    let blocks = written (cells_of w) (over_front t.bytes buffer) host.blocks in
    let marked = front w (marked_of w.size t.answer) in
    record { answer = t.answer; left = (t.left, dirty_window marked (record host { blocks = blocks })) }

-- a window is lent until it is full, or for one try
abbrev pub dealt : Bool → Window → List Next × Host PageSet → Made VolatileMemoryError (List Next × Host PageSet)
dealt false w x = again (lent w) x
dealt true w x =
    let m = whole_of (λ filled. again (lent (part w filled (w.size - filled)))) w.size x in
    record { answer = counted_as m.count m.stop; left = m.left }

-- what was dealt: the result, what the source does next, and the host
pub record Dealt (E : Type 0) : Type 0 where
  pub answer : Result ℕ E
  pub left : List Next
  pub host : Host PageSet

-- windows are lent one after the other, up to the first that is not filled
abbrev pub received : {E : Type 0} → (VolatileMemoryError → E) → Option E → Bool → List Window → ℕ → List Next
    → Host PageSet → Dealt E
received failure fault until_full ws total source host =
    let m = in_order failure fault (dealt until_full) ws total (source, host) in
    record { answer = m.answer; left = m.left.0; host = m.left.1 }

-- the bytes of a window are offered to a sink, which took N before, until all are taken
abbrev pub sent_whole : Window → Sink × ℕ → Made VolatileMemoryError (Sink × ℕ)
sent_whole w x =
    let s = sent w.size x.0 in
    record { answer = answered (λ all. w.size) (sent_as s.stop); left = (s.left, x.1 + s.count) }

-- what a sink was dealt: the result, how many bytes it took, and what it does next
pub record Given (E : Type 0) : Type 0 where
  pub answer : Result ℕ E
  pub taken : ℕ
  pub left : Sink

-- the bytes of windows are offered one window after the other, each until all of its bytes are taken
abbrev pub given_out : {E : Type 0} → (VolatileMemoryError → E) → Option E → List Window → ℕ → Sink → Given E
given_out failure fault ws total sink =
    let m = in_order failure fault sent_whole ws total (sink, total) in
    record { answer = m.answer; taken = m.left.1; left = m.left.0 }
