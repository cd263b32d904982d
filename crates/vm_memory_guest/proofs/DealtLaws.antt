-- A transfer in from a source that tells what it does, into a host with exact bitmaps, is computed.
use Rattle.std.proofs.Common.{◌≡◌, ℕ, ◌-◌, Bool, true, false, List, Option, Some, inl, inr, ap₂, subst, ◌∙◌, arith}
use Rattle.vm_memory_base.specs.Pages.{PageSet, marked}
use Rattle.vm_memory_base.specs.Transfer.{Answer, Next, ReadsAs, Again, again, counted_as}
use Rattle.vm_memory_base.specs.lemmas.Turns.{Does, again_does, rest_does}
use Rattle.vm_memory_guest.specs.Copy.{front}
use Rattle.vm_memory_guest.specs.Dealt.{dealt, dirty_window, lent}
use Rattle.vm_memory_guest.specs.Dirt.{with_pages}
use Rattle.vm_memory_guest.specs.Host.{Host, bytes_at, written}
use Rattle.vm_memory_guest.specs.Transfer.{LendsWindow, Fills, filling, marked_of}
use Rattle.vm_memory_guest.specs.Window.{Window, cells_of, part}
use Rattle.vm_memory_guest.proofs.DirtLaws.{EmptyMark, with_pages-MarksWindow}

module _ {S B : Type 0} (source : S → Option (List Next)) (reads : S → List ℕ → Answer → List ℕ → S → Type 0)
    (marks : B → ℕ → ℕ → B → Type 0) (pages : B → PageSet)
    (exact : (old new : B) (offset len : ℕ) → marks old offset len new → pages new ≡ marked offset len (pages old))
    (empty : EmptyMark) where
  -- the same as is computed
  abbrev pub IsDealt : S × Host B → List Next × Host PageSet → Type 0
  IsDealt x y = (source x.0 ≡ Some y.0) × (with_pages pages x.1 ≡ y.1)

  lends_does : (w : Window) (x z : S × Host B) (answer : Answer) (y : List Next × Host PageSet)
      → IsDealt x y → LendsWindow source reads marks w x answer z → Does IsDealt (λ x. ⊥) x answer z (lent w y)
  lends_does w x z answer y like l =
      let buffer = bytes_at x.1.blocks (cells_of w) in
      let told = subst (λ (o : Option (List Next)). ReadsAs o buffer answer l.bytes (source z.0)) like.0 l.tried in
      let there = λ (bytes : List ℕ). record x.1 { blocks = written (cells_of w) bytes x.1.blocks } in
      subst (λ (host : Host PageSet). Does IsDealt (λ x. ⊥) x answer z (lent w (y.0, host))) like.1 (inr (
        told.0,
        (
          told.2,
          with_pages-MarksWindow marks pages exact empty (front w (marked_of w.size answer))
              (there l.bytes) z.1 l.marked
              ∙ ap₂ (λ (a : Answer) (bytes : List ℕ). dirty_window (front w (marked_of w.size a))
              (with_pages pages (there bytes))) told.0 told.1,
        ),
      ))

  again_lends : (w : Window) (x z : S × Host B) (answer : Answer) (y : List Next × Host PageSet)
      → IsDealt x y → Again (LendsWindow source reads marks w) x answer z
      → Does IsDealt (λ x. ⊥) x answer z (again (lent w) y)
  again_lends w x z answer y like tries =
      again_does IsDealt (λ x. ⊥) (LendsWindow source reads marks w) (lent w) (lends_does w) (λ x z a t no. no)
      tries y like

  pub fills_does : (known : S → Option ℕ) (until_full : Bool) (w : Window) (x z : S × Host B)
      (answer : Answer) (y : List Next × Host PageSet) → IsDealt x y
      → Fills source reads known marks (filling until_full) w x answer z
      → Does IsDealt (λ x. ⊥) x answer z (dealt until_full w y)
  fills_does known false w x z answer y like tries = again_lends w x z answer y like tries
  fills_does known true w x z answer y like rest =
      elim (rest_does IsDealt (λ x. ⊥)
      (λ filled. Again (LendsWindow source reads marks (part w filled (w.size - filled))))
      (λ filled. again (lent (part w filled (w.size - filled)))) w.size
      (λ filled x z a y some. again_lends (part w filled (w.size - filled)) x z a y) (λ done x z a t no. no)
      rest.tried w.size (omega arith) y like) [
        | inl wanted ↦ absurd wanted.1
        | inr does ↦ inr (rest.told ∙ ap₂ counted_as does.0 does.1, does.2)
      ]
