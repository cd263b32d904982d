use Rattle.std.proofs.Common.{◌≡◌, ◌⊎◌, inl, inr, ◌-◌, ◌*◌, ◌+◌, ◌<◌, ◌≤◌, ℕ, true, ap, arith, get_or, length, min, refl, replicate, sym, subst, ◌∙◌}
use Rattle.vm_memory_guest.specs.Host.{block_at}
use Rattle.vm_memory_guest.specs.Window.{MarksOne}
use Rattle.live_migration.specs.Image.{are_zero, page_bytes}
use Rattle.live_migration.specs.Placing.{HasPlaced}
use Rattle.live_migration.proofs.BareLemmas.{bare_after, bare_applies, bare_tells, bare_zeros}
use Rattle.live_migration.proofs.PlacingLemmas.{pages_apply, zeros_apply}
use Rattle.live_migration.proofs.placing.apply.Goals as goal

pub returns-in_ok-put_zeros-in-ZeroPage-clause-ok : goal.returns-in_ok-put_zeros-in-ZeroPage-clause-ok
returns-in_ok-put_zeros-in-ZeroPage-clause-ok g c =
    let entry = c.in_ok-id-in-ZeroPage.entry in
    let page = c.in-ZeroPage.page in
    let base = c.args.base in
    let old = c.args.host.now in
    let new = c.put_zeros.new.host in
    let n = min entry.page_size (entry.len - page * entry.page_size) in
    let has : HasPlaced old new (base + c.in-ZeroPage.block) (page * entry.page_size) (replicate n 0) =
    subst (λ (b : ℕ). HasPlaced old new b (page * entry.page_size) (replicate n 0))
    c.in_ok-id-in-ZeroPage.ensures.number c.in_ok-put_zeros-in-ZeroPage.ensures.ok in
    let number = c.in_ok-id-in-ZeroPage.ensures.number in
    let same : are_zero (page_bytes entry.page_size page (block_at old.blocks (base + c.in-ZeroPage.block))) ≡ true
    → new ≡ old = λ zeros. c.put_zeros.ensures.same
    (ap (λ (b : ℕ). length (block_at old.blocks b)) number ∙ c.in_ok-id-in-ZeroPage.ensures.len)
    (ap (λ (b : ℕ). are_zero (page_bytes entry.page_size page (block_at old.blocks b))) number ∙ zeros) in
    rw c.in-ZeroPage.is (zeros_apply base c.args.entries.now old new c.in-ZeroPage.block page n entry
    c.in_ok-id-in-ZeroPage.ensures.entry
    (ap (λ (l : ℕ). min entry.page_size (l - page * entry.page_size)) (sym c.in_ok-id-in-ZeroPage.ensures.len)) has
    same)

pub returns-then-is_bare-clause-ok : goal.returns-then-is_bare-clause-ok
returns-then-is_bare-clause-ok g c =
    rw c.in-ZeroPage.is (bare_applies c.args.base c.in-ZeroPage.block c.in-ZeroPage.page c.args.entries.now
    c.in_ok-id-in-ZeroPage.entry c.args.bare.now c.args.host.now c.requires.bare
    c.in_ok-id-in-ZeroPage.ensures.entry c.in_ok-id-in-ZeroPage.ensures.len (c.if-is_bare.ensures.block refl)
    (c.if-is_bare.ensures.zeros refl) (c.if-is_bare.ensures.inside refl))

pub returns-in_ok-end-in-Pages-clause-ok : goal.returns-in_ok-end-in-Pages-clause-ok
returns-in_ok-end-in-Pages-clause-ok g c =
    let entry = c.in_ok-id-in-Pages.entry in
    let first = c.in-Pages.first in
    let bytes = c.in-Pages.bytes.now in
    let old = c.args.host.now in
    let new = c.put_pages.new.host in
    let has : HasPlaced old new (c.args.base + c.in-Pages.block) (first * entry.page_size) bytes =
    subst (λ (b : ℕ). HasPlaced old new b (first * entry.page_size) bytes) c.in_ok-id-in-Pages.ensures.number
    c.in_ok-end-in-Pages.ensures.ok in
    rw c.in-Pages.is (pages_apply c.args.base c.args.entries.now old new c.in-Pages.block first entry bytes
    c.in_ok-id-in-Pages.ensures.entry has)

pub returns-in_ok-end-in-Pages-clause-bare : goal.returns-in_ok-end-in-Pages-clause-bare
returns-in_ok-end-in-Pages-clause-bare g c =
    let entry = c.in_ok-id-in-Pages.entry in
    let block = c.in-Pages.block in
    let at = c.in-Pages.first * entry.page_size in
    let bytes = c.in-Pages.bytes.now in
    let old = c.args.host.now in
    let new = c.put_pages.new.host in
    let next = c.note_written.new.bare in
    let has : HasPlaced old new (c.args.base + block) at bytes =
    subst (λ (b : ℕ). HasPlaced old new b at bytes) c.in_ok-id-in-Pages.ensures.number
    c.in_ok-end-in-Pages.ensures.ok in
    let len : length next ≡ length c.args.bare.now = omega (arith, c.note_written.auto.bare) in
    bare_after c.args.base block at old new bytes c.args.bare.now next has c.requires.bare len
    c.note_written.ensures.others c.note_written.ensures.kept
    (λ (l : block < length c.args.bare.now). subst (λ (e : ℕ). e ≤ get_or next block 0)
    c.in_ok-end-in-Pages.ensures.end (c.note_written.ensures.end l))

pub returns-in_ok-put_zeros-in-ZeroPage-clause-bare : goal.returns-in_ok-put_zeros-in-ZeroPage-clause-bare
returns-in_ok-put_zeros-in-ZeroPage-clause-bare g c =
    let entry = c.in_ok-id-in-ZeroPage.entry in
    let block = c.in-ZeroPage.block in
    let at = c.in-ZeroPage.page * entry.page_size in
    let old = c.args.host.now in
    let new = c.put_zeros.new.host in
    let n = min entry.page_size (entry.len - at) in
    let has : HasPlaced old new (c.args.base + block) at (replicate n 0) =
    subst (λ (b : ℕ). HasPlaced old new b at (replicate n 0)) c.in_ok-id-in-ZeroPage.ensures.number
    c.in_ok-put_zeros-in-ZeroPage.ensures.ok in
    bare_zeros c.args.base block at old new n c.args.bare.now has c.requires.bare

pub returns-in_ok-end-in-Pages-clause-marked : goal.returns-in_ok-end-in-Pages-clause-marked
returns-in_ok-end-in-Pages-clause-marked g c =
    let entry = c.in_ok-id-in-Pages.entry in
    let at = c.in-Pages.first * entry.page_size in
    let len = length c.in-Pages.bytes.now in
    let old = c.args.host.now in
    let new = c.put_pages.new.host in
    let marks = g.B.Bitmap.marks in
    rw c.in-Pages.is (inr (
      entry,
      c.in_ok-id-in-Pages.ensures.entry,
      subst (λ (b : ℕ). MarksOne marks b at len old.bitmaps new.bitmaps) c.in_ok-id-in-Pages.ensures.number
          c.in_ok-end-in-Pages.ensures.marked,
    ))

pub returns-then-is_bare-clause-marked : goal.returns-then-is_bare-clause-marked
returns-then-is_bare-clause-marked g c =
    rw c.in-ZeroPage.is (inl (bare_tells c.args.base c.in-ZeroPage.block c.in-ZeroPage.page c.args.entries.now
    c.in_ok-id-in-ZeroPage.entry c.args.bare.now c.args.host.now c.requires.bare
    c.in_ok-id-in-ZeroPage.ensures.entry (c.if-is_bare.ensures.block refl) (c.if-is_bare.ensures.zeros refl)))

pub returns-in_ok-put_zeros-in-ZeroPage-clause-marked : goal.returns-in_ok-put_zeros-in-ZeroPage-clause-marked
returns-in_ok-put_zeros-in-ZeroPage-clause-marked g c =
    let entry = c.in_ok-id-in-ZeroPage.entry in
    let page = c.in-ZeroPage.page in
    let block = c.args.base + c.in-ZeroPage.block in
    let old = c.args.host.now in
    let new = c.put_zeros.new.host in
    let n = min entry.page_size (entry.len - page * entry.page_size) in
    let marks = g.B.Bitmap.marks in
    let number = c.in_ok-id-in-ZeroPage.ensures.number in
    let there = c.in_ok-id-in-ZeroPage.ensures.entry in
    let both : (are_zero (page_bytes entry.page_size page (block_at old.blocks block)) ≡ true)
    ⊎ MarksOne marks block (page * entry.page_size) n old.bitmaps new.bitmaps =
    subst (λ (b : ℕ). (are_zero (page_bytes entry.page_size page (block_at old.blocks b)) ≡ true)
    ⊎ MarksOne marks b (page * entry.page_size) n old.bitmaps new.bitmaps) number
    (c.in_ok-put_zeros-in-ZeroPage.ensures.marked
    (ap (λ (b : ℕ). length (block_at old.blocks b)) number ∙ c.in_ok-id-in-ZeroPage.ensures.len)) in
    rw c.in-ZeroPage.is (elim both [ inl zero ↦ inl (entry, there, zero) | inr one ↦ inr (entry, there, one) ])
