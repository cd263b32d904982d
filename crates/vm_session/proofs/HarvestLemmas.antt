-- Dirty pages that are counted before they are taken.
use Rattle.std.proofs.Common.{arith, ◌≡◌, ◌∙◌, ◌*◌, ◌<◌, ◌≤◌, ℕ, List, Option, Some, None, length, refl, sym, ap, subst, inl, inr}
use Rattle.vm_memory_base.specs.Pages.{PageSet, cleaned, dirty_pages}
use Rattle.vm_memory_base.specs.declared.bitmap.BitmapId.{BitmapId}
use Rattle.vm_memory_guest.specs.Window.{with_bitmap}
use Rattle.vm_memory.specs.Commands.{bitmap_in}
use Rattle.vm_memory.specs.Effect.{apply, if_there, Leaves, Replies}
use Rattle.vm_memory.specs.Machine.{Step, outcome}
use Rattle.vm_memory.specs.State.{State}
use Rattle.vm_memory.specs.declared.machine.command.Command.TheVariants.{Dirty, Harvest}
use Rattle.vm_memory.specs.declared.machine.command.Reply.{Reply}
use Rattle.vm_memory.specs.declared.machine.command.Reply.TheVariants.{Pages, Memory}
use Rattle.vm_session.specs.Answers.{answer_of, bytes_of}
use Rattle.vm_session.specs.Codes.{short_of}
use Rattle.vm_session.specs.Lists.{ListsIf}
use Rattle.vm_session.specs.Session.{Does, IsShort, begins_with}
use Rattle.vm_session.specs.declared.call.Answer.{Answer}
use Rattle.vm_session.proofs.ListLemmas.{pages_length}

-- a harvest replies what a question for the dirty pages does
harvest_replies : (old : State) (id : BitmapId) → (outcome old (Harvest id)).0 ≡ (outcome old (Dirty id)).0
harvest_replies old id = go (bitmap_in old.host id)
  where
    go : (o : Option PageSet)
        → (apply old (if_there o (λ set. Leaves (Pages (dirty_pages set)) (with_bitmap old.host id (cleaned set))))).0
        ≡ (apply old (if_there o (λ set. Replies (Pages (dirty_pages set))))).0
    go None = refl
    go (Some set) = refl

pages_told : (old new : State) (id : BitmapId) (pages : List ℕ) → Step old (Dirty id) (Pages pages) new
    → (outcome old (Harvest id)).0 ≡ Pages pages
pages_told old new id pages (inl e) = harvest_replies old id ∙ sym (ap (λ (o : Reply × State). o.0) e)
pages_told old new id pages (inr h) = absurd (never (h.0))
  where
    never : Pages pages ≡ Memory → ⊥
    never e = cc

pages_taken : (old new : State) (id : BitmapId) (pages : List ℕ) → Step old (Harvest id) (Pages pages) new
    → (outcome old (Harvest id)).0 ≡ Pages pages
pages_taken old new id pages (inl e) = sym (ap (λ (o : Reply × State). o.0) e)
pages_taken old new id pages (inr h) = absurd (never (h.0))
  where
    never : Pages pages ≡ Memory → ⊥
    never e = cc

pub harvest_short : (old new : State) (id : BitmapId) (pages out : List ℕ) (a : Answer) (n : ℕ)
    → Step old (Dirty id) (Pages pages) new → n ≡ length pages * 8 → length out < n → a ≡ short_of n
    → IsShort old (Harvest id) out a out old
harvest_short old new id pages out a n asked is_n short told =
    let room : length (bytes_of (outcome old (Harvest id)).0) ≡ n =
    ap (λ r. length (bytes_of r)) (pages_told old new id pages asked) ∙ pages_length pages ∙ sym is_n in
    (subst (λ k. length out < k) (sym room) short, told ∙ ap short_of (sym room), refl, refl)

pub harvested : (old mid new : State) (id : BitmapId) (pages listed taken out : List ℕ) (a : Answer) (out' : List ℕ)
    → Step old (Dirty id) (Pages pages) mid → Step old (Harvest id) (Pages taken) new → listed ≡ pages
    → length pages * 8 ≤ length out → ListsIf (Pages listed) out a out'
    → Does old (Some (Harvest id)) out a out' new
harvested old mid new id pages listed taken out a out' asked did is_listed within (inl h) =
    let size : length (bytes_of (Pages listed)) ≡ length pages * 8 =
    pages_length listed ∙ ap (λ ps. length ps * 8) is_listed in
    absurd (omega (arith, h.0, size, within))
harvested old mid new id pages listed taken out a out' asked did is_listed within (inr h) =
    let told = pages_told old mid id pages asked in
    let same : Pages listed ≡ Pages taken = ap Pages is_listed ∙ sym told ∙ pages_taken old new id taken did in
    let room : length (bytes_of (outcome old (Harvest id)).0) ≡ length pages * 8 =
    ap (λ r. length (bytes_of r)) told ∙ pages_length pages in
    inl (
      Pages taken,
      did,
      h.1 ∙ ap answer_of same,
      h.2 ∙ ap (λ r. begins_with (bytes_of r) out) same,
      inl (subst (λ n. n ≤ length out) (sym room) within),
    )
