-- A transfer out to a vector: what it has more are whole windows.
use Rattle.std.proofs.Common.{◌≡◌, ℕ, suc, ◌+◌, ◌==◌, Bool, true, MatchBool, List, [], ◌∷◌, ◌++◌, length, take, Option, Result, Ok, Err, IfOk, append_assoc, append-nil, refl, sym, ap, subst, ◌∙◌, arith}
use Rattle.std.proofs.lemmas.Bool.Decides.{nat_tests}
use Rattle.vm_memory_base.specs.InMemory.{HasAllOrNone, WritesWhole}
use Rattle.vm_memory_base.specs.Transfer.{Answer, Sink}
use Rattle.vm_memory_base.specs.declared.io.VolatileMemoryError.{VolatileMemoryError}
use Rattle.vm_memory_base.specs.lemmas.Vectors.{takes_whole}
use Rattle.vm_memory_guest.specs.Host.{bytes_at}
use Rattle.vm_memory_guest.specs.Transfer.{InOrder, Sends}
use Rattle.vm_memory_guest.specs.Typed.{answered}
use Rattle.vm_memory_guest.specs.Window.{Window, cells, cells_of}
use Rattle.vm_memory_guest.specs.lemmas.Orders.{Then}
use Rattle.vm_memory_guest.proofs.WrittenLaws.{bytes_at-append}

module _ {S E : Type 0} (items : S → List ℕ) (sink : S → Option Sink) (taken : S → Option (List ℕ))
    (wants : S → Type 0) (writes : S → List ℕ → Answer → S → Type 0)
    (each : (s t : S) (bytes : List ℕ) (answer : Answer) → writes s bytes answer t
    → WritesWhole (items s) bytes answer (items t))
    (blocks : List (List ℕ)) (failure : VolatileMemoryError → E) (fault : Option E) where
  abbrev Moves : Window → S → Answer → S → Type 0
  Moves = Sends sink taken wants writes blocks

  -- the bytes of the first windows, and of all where that is answered
  abbrev pub HasWindows : List Window → S → Result ℕ E → S → Type 0
  HasWindows ws old answer new = (k : ℕ) × (items new ≡ items old ++ bytes_at blocks (cells (take k ws)))
      × IfOk answer (λ n. k ≡ length ws)

  all_moved : (k : ℕ) (answer : Result ℕ E) → IfOk answer (λ n. k ≡ k)
  all_moved k (Ok n) = refl
  all_moved k (Err e) = tt

  one_more : (k n : ℕ) (answer : Result ℕ E) → IfOk answer (λ m. k ≡ n) → IfOk answer (λ m. suc k ≡ suc n)
  one_more k n (Ok m) h = ap (λ (i : ℕ). suc i) h
  one_more k n (Err e) h = tt

  failed : (n : ℕ) (answer : Result ℕ E) (f : E) → answer ≡ Err f → IfOk answer (λ m. 0 ≡ n)
  failed n (Ok m) f is = absurd (cc)
  failed n (Err e) f is = tt

  next : (w : Window) (ws : List Window) (total : ℕ) (old mid : S) (answer : Result ℕ E) (new : S)
      → (InOrder failure fault Moves ws (total + w.size) mid answer new → HasWindows ws mid answer new)
      → (sent : Result (Unit {0}) VolatileMemoryError)
      → HasAllOrNone (items old) (bytes_at blocks (cells_of w)) sent (items mid)
      → Then failure fault Moves w ws total mid answer new (answered (λ all. w.size) sent)
      → HasWindows (w ∷ ws) old answer new
  next w ws total old mid answer new more (Err e) none h = (
    0,
    ap items h.1 ∙ none.2 ∙ sym (append-nil (items old)),
    failed (length (w ∷ ws)) answer (failure e) h.0,
  )
  next w ws total old mid answer new more (Ok done) has h =
      let same : (w.size == w.size) ≡ true = grind (arith, nat_tests) in
      let rest = subst (λ (b : Bool). MatchBool b (InOrder failure fault Moves ws (total + w.size) mid answer new)
      ((answer ≡ Ok (total + w.size)) × (new ≡ mid))) same h in
      let t = more rest in
      let bytes = bytes_at blocks (cells_of w) in
      let others = bytes_at blocks (cells (take t.0 ws)) in (
        suc t.0,
        t.1 ∙ ap (λ (bs : List ℕ). bs ++ others) has ∙ append_assoc (items old) bytes others
            ∙ ap (λ (bs : List ℕ). items old ++ bs) (sym (bytes_at-append blocks (cells_of w) (cells (take t.0 ws)))),
        one_more t.0 (length ws) answer t.2,
      )

  pub windows_whole : (ws : List Window) (total : ℕ) (old : S) (answer : Result ℕ E) (new : S)
      → InOrder failure fault Moves ws total old answer new → HasWindows ws old answer new
  unfolding InOrder
  windows_whole [] total old answer new h = (0, ap items h.1 ∙ sym (append-nil (items old)), all_moved 0 answer)
  windows_whole (w ∷ ws) total old answer new h =
      let m = h.2 in
      next w ws total old h.1 answer new (λ rest. windows_whole ws (total + w.size) h.1 answer new rest) m.sent
      (takes_whole items sink taken wants writes each (bytes_at blocks (cells_of w)) old h.1 m.count m.sent
      m.written_by)
      (subst (λ (r : Answer). Then failure fault Moves w ws total h.1 answer new r) m.told h.3)
