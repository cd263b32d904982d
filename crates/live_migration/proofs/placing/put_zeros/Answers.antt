use Rattle.std.proofs.Common.{◌≡◌, ◌⊎◌, ◌-◌, ◌*◌, ℕ, true, List, Result, Ok, Err, OnOk, ap, arith, drop, inl, inr, length, min, replicate, subst, sym, take, ◌∙◌}
use Rattle.std.proofs.lemmas.List.{length-take}
use Rattle.vm_memory_guest.specs.Host.{block_at}
use Rattle.vm_memory_guest.specs.Window.{MarksOne}
use Rattle.live_migration.specs.Image.{are_zero, page_bytes}
use Rattle.live_migration.specs.Placing.{HasPlaced}
use Rattle.live_migration.proofs.ZeroLemmas.{cut_page, some_zeros}
use Rattle.live_migration.proofs.placing.put_zeros.Goals as goal

on_ok : {T E : Type 0} (P Q : Type 0) (r : Result T E) → (P → Q) → OnOk r P → OnOk r Q
on_ok P Q (Ok x) f p = f p
on_ok P Q (Err e) f p = tt

pub returns-clause-ok : goal.returns-clause-ok
returns-clause-ok g c =
    let entry = c.args.entry.now in
    let old = c.args.host.now in
    let new = c.put_new_zeros.new.host in
    let at : c.in-Some.start ≡ c.args.page * entry.page_size = c.in-Some.ensures.some.0 in
    let count = c.min-count.result in
    let most : count ≡ min entry.page_size (entry.len - c.args.page * entry.page_size) =
    c.min-count.ensures ∙ ap (λ (n : ℕ). min entry.page_size (entry.len - n)) at in
    let zeros : take count c.args.zeros.now ≡ replicate count 0 =
    some_zeros count c.args.zeros.now c.requires c.if-count-zeros.false in
    subst (λ (n : ℕ). OnOk c.put_new_zeros.result (HasPlaced old new c.args.block.0 (c.args.page * entry.page_size)
    (replicate n 0))) most
    (subst (λ (xs : List ℕ). OnOk c.put_new_zeros.result (HasPlaced old new c.args.block.0
    (c.args.page * entry.page_size) xs)) zeros
    (subst (λ (n : ℕ). OnOk c.put_new_zeros.result (HasPlaced old new c.args.block.0 n (take count c.args.zeros.now))) at
    c.put_new_zeros.ensures.ok))

pub returns-clause-marked : goal.returns-clause-marked
returns-clause-marked g c =
    let entry = c.args.entry.now in
    let page = c.args.page in
    let old = c.args.host.now in
    let new = c.put_new_zeros.new.host in
    let r = c.put_new_zeros.result in
    let block = block_at old.blocks c.args.block.0 in
    let marks = g.B.Bitmap.marks in
    let at : c.in-Some.start ≡ page * entry.page_size = c.in-Some.ensures.some.0 in
    let count = c.min-count.result in
    let most : count ≡ min entry.page_size (entry.len - page * entry.page_size) =
    c.min-count.ensures ∙ ap (λ (n : ℕ). min entry.page_size (entry.len - n)) at in
    let len : length (take count c.args.zeros.now) ≡ count =
    omega (arith, length-take count c.args.zeros.now, c.if-count-zeros.false) in
    on_ok _ _ r (λ both same. subst (λ (n : ℕ). (are_zero (page_bytes entry.page_size page block) ≡ true)
    ⊎ MarksOne marks c.args.block.0 (page * entry.page_size) n old.bitmaps new.bitmaps) most
    (elim both [
      | inl zero ↦ inl (ap are_zero (sym (cut_page entry.page_size page count block
          (most ∙ ap (λ (n : ℕ). min entry.page_size (n - page * entry.page_size)) (sym same)))) ∙ zero)
      | inr one ↦ inr one
    ]))
    (subst (λ (k : ℕ). OnOk r ((are_zero (take count (drop k block)) ≡ true)
    ⊎ MarksOne marks c.args.block.0 k count old.bitmaps new.bitmaps)) at
    (subst (λ (n : ℕ). OnOk r ((are_zero (take n (drop c.in-Some.start block)) ≡ true)
    ⊎ MarksOne marks c.args.block.0 c.in-Some.start n old.bitmaps new.bitmaps)) len c.put_new_zeros.ensures.marked))
