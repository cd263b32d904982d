-- A transfer out to a sink that tells what it does is computed.
use Rattle.std.proofs.Common.{◌≡◌, ◌⊎◌, inl, inr, ℕ, ◌+◌, ◌≤◌, ◌==◌, Bool, true, MatchBool, List, [], ◌∷◌, ◌++◌, take, Option, Some, None, Result, Ok, Err, OnOk, IfOk, append_assoc, append-nil, refl, sym, ap, subst, ◌∙◌, arith}
use Rattle.std.proofs.lemmas.Bool.Decides.{nat_tests}
use Rattle.vm_memory_base.specs.Transfer.{Answer, Sink, Keeps, Made, SendsAs, sent, sent_as}
use Rattle.vm_memory_base.specs.declared.io.VolatileMemoryError.{VolatileMemoryError}
use Rattle.vm_memory_base.specs.declared.io.VolatileMemoryError.TheVariants.{Memory}
use Rattle.vm_memory_base.specs.lemmas.Told.{sends_tell}
use Rattle.vm_memory_base.specs.lemmas.Turns.{Does}
use Rattle.vm_memory_guest.specs.Dealt.{after_move, given_out, in_order, sent_whole}
use Rattle.vm_memory_guest.specs.Transfer.{InOrder, Sends, ended}
use Rattle.vm_memory_guest.specs.Typed.{answered}
use Rattle.vm_memory_guest.specs.Window.{Window, cells, cells_of, span}
use Rattle.std.proofs.Math.Seq.{take-append-add, take-length}
use Rattle.std.proofs.lemmas.List.{take-append-le}
use Rattle.vm_memory_guest.specs.Host.{bytes_at}
use Rattle.vm_memory_guest.proofs.HostLemmas.{length-bytes}
use Rattle.vm_memory_guest.specs.lemmas.Orders.{Then, order_does}
use Rattle.vm_memory_guest.proofs.WrittenLaws.{bytes_at-append, span-cons}

module _ {S E : Type 0} (sink : S → Option Sink) (taken : S → Option (List ℕ)) (wants : S → Type 0)
    (writes : S → List ℕ → Answer → S → Type 0) (blocks : List (List ℕ)) (failure : VolatileMemoryError → E)
    (fault : Option E) where
  -- there was no memory for what the sink takes, where it may want some
  abbrev pub Wanted : Result ℕ E → S → Type 0
  Wanted answer old = (answer ≡ Err (failure Memory)) × wants old

  abbrev Moves : Window → S → Answer → S → Type 0
  Moves = Sends sink taken wants writes blocks

  -- what the sink tells of a window that it was sent
  tells_of : (w : Window) (x z : S) (moved : Answer) (m : Moves w x moved z)
      → SendsAs (wants x) (sink x) w.size m.count m.sent (sink z)
      × Keeps (taken x) (bytes_at blocks (cells_of w)) m.count (taken z) × (wants z → wants x)
  tells_of w x z moved m =
      let t = sends_tell sink taken wants writes (bytes_at blocks (cells_of w)) x z m.count m.sent m.written_by in
      (subst (λ (n : ℕ). SendsAs (wants x) (sink x) n m.count m.sent (sink z)) (length-bytes blocks w) t.0, t.1, t.2)

  -- the same as is computed
  abbrev IsGiven : S → Sink × ℕ → Type 0
  IsGiven x y = sink x ≡ Some y.0

  sends_does : (w : Window) (x z : S) (moved : Answer) (y : Sink × ℕ) → IsGiven x y → Moves w x moved z
      → Does IsGiven wants x moved z (sent_whole w y)
  sends_does w x z moved y like m =
      let told = (tells_of w x z moved m).0 in
      elim (subst (λ (o : Option Sink). SendsAs (wants x) o w.size m.count m.sent (sink z)) like told) [
        | inl wanted ↦ inl (m.told ∙ ap (answered (λ all. w.size)) wanted.0, wanted.2)
        | inr is ↦ inr (m.told ∙ ap (answered (λ all. w.size)) is.0, is.2)
      ]

  pub given_is : (ws : List Window) (total : ℕ) (state : Sink) (old : S) (answer : Result ℕ E) (new : S)
      → sink old ≡ Some state
      → InOrder failure fault Moves ws total old answer new
      → let g = given_out failure fault ws total state in
      (Wanted answer old ⊎ ((answer ≡ g.answer) × (sink new ≡ Some g.left)))
  given_is ws total state old answer new tells h =
      order_does failure fault IsGiven wants Moves sent_whole sends_does
      (λ w x z moved m. (tells_of w x z moved m).2) ws total old answer new
      (state, total) tells h

  -- ---- what the sink took

  -- the first bytes of the windows, as many as are answered, and as many as are computed
  abbrev pub Took : List ℕ → ℕ → List Window → S → (Sink × ℕ → Made E (Sink × ℕ)) → Result ℕ E → S → Type 0
  Took before total ws old made answer new = (count : ℕ) × (count ≤ span ws)
      × (taken new ≡ Some (before ++ take count (bytes_at blocks (cells ws)))) × IfOk answer (λ n. n ≡ total + count)
      × ((y : Sink × ℕ) → sink old ≡ Some y.0 → y.1 ≡ total → (Wanted answer old ⊎ ((made y).left.1 ≡ total + count)))

  -- where all of a window was taken, the next is sent
  goes_on : (w : Window) (ws : List Window) (total : ℕ) (mid : S) (answer : Result ℕ E) (new : S)
      → Then failure fault Moves w ws total mid answer new (Ok w.size)
      → InOrder failure fault Moves ws (total + w.size) mid answer new
  goes_on w ws total mid answer new h =
      let same : (w.size == w.size) ≡ true = grind (arith, nat_tests) in
      subst (λ (b : Bool). MatchBool b (InOrder failure fault Moves ws (total + w.size) mid answer new)
      ((answer ≡ Ok (total + w.size)) × (new ≡ mid))) same h

  ended_count : (total : ℕ) (o : Option E) (answer : Result ℕ E) → answer ≡ ended total o
      → IfOk answer (λ n. n ≡ total + 0)
  ended_count total o (Err e) is = tt
  ended_count total None (Ok n) is = let same : n ≡ total = cc in omega arith
  ended_count total (Some e) (Ok n) is = grind (arith, nat_tests)

  ok_count : (answer : Result ℕ E) (n m k : ℕ) → IfOk answer (λ a. a ≡ n + m + k) → IfOk answer (λ a. a ≡ n + (m + k))
  ok_count (Ok a) n m k h = omega arith
  ok_count (Err e) n m k h = tt

  failed_count : (answer : Result ℕ E) (f : E) (n : ℕ) → answer ≡ Err f → IfOk answer (λ a. a ≡ n)
  failed_count (Ok a) f n is = absurd (cc)
  failed_count (Err e) f n is = tt

  -- the first bytes of windows are some of those of the first window, or all of these and some of the others
  part_of_first : (w : Window) (ws : List Window) (k : ℕ) → k ≤ w.size
      → take k (bytes_at blocks (cells (w ∷ ws))) ≡ take k (bytes_at blocks (cells_of w))
  part_of_first w ws k within =
      let bytes = bytes_at blocks (cells_of w) in
      let rest = bytes_at blocks (cells ws) in
      let long = length-bytes blocks w in
      ap (take k) (bytes_at-append blocks (cells_of w) (cells ws)) ∙ take-append-le k bytes rest (omega arith)

  all_of_first : (w : Window) (k : ℕ) → k ≡ w.size
      → take k (bytes_at blocks (cells_of w)) ≡ bytes_at blocks (cells_of w)
  all_of_first w k whole =
      let bytes = bytes_at blocks (cells_of w) in
      ap (λ (n : ℕ). take n bytes) (whole ∙ sym (length-bytes blocks w)) ∙ take-length bytes

  and_more : (w : Window) (ws : List Window) (before : List ℕ) (n : ℕ)
      → (before ++ bytes_at blocks (cells_of w)) ++ take n (bytes_at blocks (cells ws)) ≡ before
      ++ take (w.size + n) (bytes_at blocks (cells (w ∷ ws)))
  and_more w ws before n =
      let bytes = bytes_at blocks (cells_of w) in
      let rest = bytes_at blocks (cells ws) in
      let all : bytes_at blocks (cells (w ∷ ws)) ≡ bytes ++ rest = bytes_at-append blocks (cells_of w) (cells ws) in
      append_assoc before bytes (take n rest)
      ∙ ap (λ (bs : List ℕ). before ++ bs)
      (sym (ap (take (w.size + n)) all ∙ ap (λ (k : ℕ). take (k + n) (bytes ++ rest)) (sym (length-bytes blocks w))
      ∙ take-append-add bytes rest n))

  took_on : (w : Window) (ws : List Window) (before : List ℕ) (total : ℕ) (old mid : S) (answer : Result ℕ E) (new : S)
      (moved : Answer) (m : Moves w old moved mid)
      → taken mid ≡ Some (before ++ take m.count (bytes_at blocks (cells_of w)))
      → ((now : List ℕ) → taken mid ≡ Some now → InOrder failure fault Moves ws (total + w.size) mid answer new
      → Took now (total + w.size) ws mid (in_order failure fault sent_whole ws (total + w.size)) answer new)
      → (r : Result (Unit {0}) VolatileMemoryError) → m.sent ≡ r → OnOk r (m.count ≡ w.size)
      → Then failure fault Moves w ws total mid answer new (answered (λ all. w.size) r)
      → Took before total (w ∷ ws) old
      (λ y. let s = sent w.size y.0 in after_move failure total w (s.left, y.1 + s.count)
      (answered (λ all. w.size) (sent_as s.stop))
      (λ now. in_order failure fault sent_whole ws now (s.left, y.1 + s.count))) answer new
  took_on w ws before total old mid answer new moved m has more (Err e) is whole h =
      let k = m.count in
      let within : k ≤ w.size = m.within in
      let fits : k ≤ span (w ∷ ws) = let a = span-cons w ws in omega arith in (
        k,
        fits,
        ap taken h.1 ∙ has ∙ ap (λ (bs : List ℕ). Some (before ++ bs)) (sym (part_of_first w ws k within)),
        failed_count answer (failure e) (total + k) h.0,
        λ y tells here.
            elim (subst (λ (o : Option Sink). SendsAs (wants old) o w.size k m.sent (sink mid)) tells
            (tells_of w old mid moved m).0) [
              | inl wanted ↦
                  (let same : e ≡ Memory = cc in
                  inl (h.0 ∙ ap (λ (f : VolatileMemoryError). Err (failure f)) same, wanted.2))
              | inr does ↦ inr (rw (sym does.0 ∙ is) (let a = does.1 in omega arith))
            ],
      )
  took_on w ws before total old mid answer new moved m has more (Ok done) is whole h =
      let bytes = bytes_at blocks (cells_of w) in
      let t = more (before ++ bytes) (has ∙ ap (λ (bs : List ℕ). Some (before ++ bs)) (all_of_first w m.count whole))
      (goes_on w ws total mid answer new h) in
      let fits : w.size + t.0 ≤ span (w ∷ ws) = let a = span-cons w ws in let b = t.1 in omega arith in
      let same : (w.size == w.size) ≡ true = grind (arith, nat_tests) in (
        w.size + t.0,
        fits,
        t.2 ∙ ap (λ (bs : List ℕ). Some bs) (and_more w ws before t.0),
        ok_count answer total w.size t.0 t.3,
        λ y tells here.
            elim (subst (λ (o : Option Sink). SendsAs (wants old) o w.size m.count m.sent (sink mid)) tells
            (tells_of w old mid moved m).0) [
              | inl wanted ↦ absurd (cc)
              | inr does ↦ rw (sym does.0 ∙ is, same) (
                  let s = sent w.size y.0 in
                  let now : y.1 + s.count ≡ total + w.size = let a = does.1 in omega arith in
                  elim (t.4 (s.left, y.1 + s.count) does.2 now) [
                    | inl want ↦ inl (want.0, (tells_of w old mid moved m).2 want.1)
                    | inr counts ↦ inr (let a = counts in omega arith)
                  ])
            ],
      )

  pub taken_is : (ws : List Window) (total : ℕ) (before : List ℕ) (old : S) (answer : Result ℕ E) (new : S)
      → taken old ≡ Some before → InOrder failure fault Moves ws total old answer new
      → Took before total ws old (in_order failure fault sent_whole ws total) answer new
  unfolding InOrder in_order
  taken_is [] total before old answer new keeps h = (
    0,
    omega arith,
    ap taken h.1 ∙ keeps ∙ ap (λ (bs : List ℕ). Some bs) (sym (append-nil before)),
    ended_count total fault answer h.0,
    λ y tells here. inr (omega arith),
  )
  taken_is (w ∷ ws) total before old answer new keeps h =
      let m = h.2 in
      let has = subst (λ (o : Option (List ℕ)). Keeps o (bytes_at blocks (cells_of w)) m.count
      (taken h.1)) keeps (tells_of w old h.1 h.0 m).1 in
      took_on w ws before total old h.1 answer new h.0 m has
      (λ now at k. taken_is ws (total + w.size) now h.1 answer new at k) m.sent refl m.whole
      (subst (λ (r : Answer). Then failure fault Moves w ws total h.1 answer new r) m.told h.3)
