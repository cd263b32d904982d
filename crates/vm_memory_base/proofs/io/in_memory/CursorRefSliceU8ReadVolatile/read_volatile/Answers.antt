use Rattle.std.proofs.Common.{◌≡◌, ◌-◌, ℕ, List, min, length, take, drop, [], Ok, Some, sym, ap, ◌∙◌}
use Rattle.std.proofs.lemmas.List.{take_rest, drop_min, drop-drop}
use Rattle.std.specs.Io.Cursor.{cursor_inner, cursor_position}
use Rattle.vm_memory_base.specs.Transfer.{giving, over_front}
use Rattle.vm_memory_base.proofs.TransferLemmas.{gives_front}
use Rattle.vm_memory_base.proofs.io.in_memory.CursorRefSliceU8ReadVolatile.read_volatile.Goals as goal

pub returns-clause-tells : goal.returns-clause-tells
returns-clause-tells c =
    let all = (cursor_inner c.args.self.now).now in
    let at = cursor_position c.args.self.now in
    let buf = c.args.buf.now in
    let start = c.min-start.result in
    let count = c.copy_front-count.result in
    let rest : drop start c.get_ref-all.result.now.now ≡ drop at all =
    rw (c.min-start.ensures, c.position-at.ensures, c.get_ref-all.ensures) (drop_min at all) in
    let part : take (length c.get_ref-all.result.now.now - start) (drop start c.get_ref-all.result.now.now)
    ≡ drop at all = take_rest c.get_ref-all.result.now.now start ∙ rest in
    let gives = gives_front (length buf) (drop at all) in
    let counted : count ≡ min (length buf) (length (drop at all)) =
    c.copy_front-count.ensures.count ∙ ap (λ (xs : List ℕ). min (length buf) (length xs)) part in
    let behind : drop (cursor_position c.set_position.new.self) (cursor_inner c.set_position.new.self).now
    ≡ drop (min (length buf) (length (drop at all))) (drop at all) =
    rw (c.set_position.ensures.position, c.set_position.ensures.inner, c.position-at.ensures, counted)
    (sym (drop-drop (min (length buf) (length (drop at all))) at all)) in (
      ap (λ (n : ℕ). Ok n) counted ∙ sym gives.answer,
      c.copy_front-count.ensures.copied ∙ ap (λ (xs : List ℕ). over_front (take (length buf) xs) buf) part
          ∙ ap (λ (xs : List ℕ). over_front xs buf) (sym gives.bytes),
      ap (λ (xs : List ℕ). Some (giving xs [])) behind ∙ ap (λ xs. Some xs) (sym gives.left),
    )
