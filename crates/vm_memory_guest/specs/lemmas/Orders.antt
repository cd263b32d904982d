-- Windows that are moved in order: what comes of them is what is computed, and they keep what each keeps.
use Rattle.std.proofs.Common.{◌≡◌, ◌⊎◌, inl, inr, ℕ, suc, ◌+◌, ◌<◌, ◌==◌, Bool, true, false, if◌then◌else◌, MatchBool, MatchResult, List, [], ◌∷◌, Option, Some, None, Result, Ok, Err, IfErr, All, Contains, refl, sym, subst, arith}
use Rattle.std.proofs.lemmas.Bool.Decides.{nat_tests}
use Rattle.std.proofs.lemmas.List.Elements.{All-head, All-tail}
use Rattle.vm_memory_base.specs.Transfer.{Answer, Made}
use Rattle.vm_memory_base.specs.declared.io.VolatileMemoryError.{VolatileMemoryError}
use Rattle.vm_memory_base.specs.declared.io.VolatileMemoryError.TheVariants.{Memory}
use Rattle.vm_memory_base.specs.lemmas.Turns.{Does, KeptBy}
use Rattle.vm_memory_guest.specs.Dealt.{after_move, in_order}
use Rattle.vm_memory_guest.specs.Transfer.{InOrder, ended}
use Rattle.vm_memory_guest.specs.Window.{Window}

-- what follows the move of a window
abbrev pub Then : {X E : Type 0} → (VolatileMemoryError → E) → Option E
    → (Window → X → Answer → X → Type 0) → Window → List Window → ℕ → X → Result ℕ E → X
    → Answer → Type 0
Then failure fault Moves w ws total mid answer new moved = MatchResult moved
    (λ count. MatchBool (count == w.size) (InOrder failure fault Moves ws (total + count) mid answer new)
    ((answer ≡ Ok (total + count)) × (new ≡ mid)))
    (λ e. (answer ≡ Err (failure e)) × (new ≡ mid))

-- ---- what is computed

module _ {X Y E : Type 0} (failure : VolatileMemoryError → E) (fault : Option E) (Like : X → Y → Type 0)
    (Wants : X → Type 0) (Moves : Window → X → Answer → X → Type 0)
    (move : Window → Y → Made VolatileMemoryError Y) where
  -- what comes of the windows is what is computed. Or memory was wanted
  abbrev pub Comes : X → Result ℕ E → X → Made E Y → Type 0
  Comes x answer new made = ((answer ≡ Err (failure Memory)) × Wants x) ⊎ ((answer ≡ made.answer) × Like new made.left)

  goes_on : (w : Window) (ws : List Window) (total : ℕ) (mid : X) (answer : Result ℕ E) (new : X) (y : Y) → Like mid y
      → (moved : Answer) → Then failure fault Moves w ws total mid answer new moved
      → ((now : ℕ) → InOrder failure fault Moves ws now mid answer new
      → Comes mid answer new (in_order failure fault move ws now y))
      → Comes mid answer new (after_move failure total w y moved (λ now. in_order failure fault move ws now y))
  goes_on w ws total mid answer new y like (Err e) h others =
      inr (h.0, subst (λ (x : X). Like x y) (sym h.1) like)
  goes_on w ws total mid answer new y like (Ok count) h others = go (count == w.size) h
    where
      go : (b : Bool) → MatchBool b (InOrder failure fault Moves ws (total + count) mid answer new)
          ((answer ≡ Ok (total + count)) × (new ≡ mid))
          → Comes mid answer new (if b then in_order failure fault move ws (total + count) y
          else record { answer = Ok (total + count); left = y })
      go true h = others (total + count) h
      go false h = inr (h.0, subst (λ (x : X). Like x y) (sym h.1) like)

  pub order_does : ((w : Window) (x z : X) (moved : Answer) (y : Y) → Like x y → Moves w x moved z
      → Does Like Wants x moved z (move w y))
      → ((w : Window) (x z : X) (moved : Answer) → Moves w x moved z → Wants z → Wants x)
      → (ws : List Window) (total : ℕ) (old : X) (answer : Result ℕ E) (new : X) (y : Y) → Like old y
      → InOrder failure fault Moves ws total old answer new
      → Comes old answer new (in_order failure fault move ws total y)
  unfolding InOrder in_order
  order_does each back [] total old answer new y like h = inr (h.0, subst (λ (x : X). Like x y) (sym h.1) like)
  order_does each back (w ∷ ws) total old answer new y like h =
      let m = move w y in
      let follows = λ (moved : Answer). Then failure fault Moves w ws total h.1 answer new moved in
      elim (each w old h.1 h.0 y like h.2) [
        | inl wanted ↦ inl ((subst follows wanted.0 h.3).0, wanted.1)
        | inr does ↦ elim (goes_on w ws total h.1 answer new m.left does.1 m.answer (subst follows does.0 h.3)
            (λ now so. order_does each back ws now h.1 answer new m.left does.1 so)) [
              | inl wanted ↦ inl (wanted.0, back w old h.1 h.0 h.2 wanted.1)
              | inr others ↦ inr others
            ]
      ]

-- ---- what is kept

module _ {X E : Type 0} (failure : VolatileMemoryError → E) (fault : Option E)
    (move : Window → X → Made VolatileMemoryError X) (Kept : X → Type 0) (Good : VolatileMemoryError → Type 0) where
  -- an error is one of these, or it is the fault, and nothing changed
  abbrev pub Why : List Window → ℕ → X → X → E → Type 0
  Why ws total old new e = ((v : VolatileMemoryError) × Good v × (e ≡ failure v))
      ⊎ ((fault ≡ Some e) × (All (λ (w : Window). 0 < w.size) ws → (total ≡ 0) × (new ≡ old)))

  abbrev pub KeptInOrder : List Window → ℕ → X → Made E X → Type 0
  KeptInOrder ws total x made = Kept made.left × IfErr made.answer (Why ws total x made.left)

  ended_why : (total : ℕ) (x : X) (o : Option E) → fault ≡ o → IfErr (ended total o) (Why [] total x x)
  ended_why total x None is = tt
  ended_why total x (Some e) is = go (total == 0) refl
    where
      go : (b : Bool) → (total == 0) ≡ b → IfErr {T = ℕ} (if b then Err e else Ok total) (Why [] total x x)
      go true none = inr (is, λ some. (grind (arith, nat_tests), refl))
      go false none = tt

  moved_why : (w : Window) (ws : List Window) (total : ℕ) (x mid : X) (moved : Answer)
      (more : ℕ → Made E X) → Kept mid → IfErr moved Good → ((now : ℕ) → KeptInOrder ws now mid (more now))
      → KeptInOrder (w ∷ ws) total x (after_move failure total w mid moved more)
  moved_why w ws total x mid (Err e) more kept good others = (kept, inl (e, good, refl))
  moved_why w ws total x mid (Ok count) more kept good others = go (count == w.size) refl
    where
      later : (now : ℕ) (new : X) (r : Result ℕ E) → now ≡ total + count → count ≡ w.size
          → IfErr r (Why ws now mid new) → IfErr r (Why (w ∷ ws) total x new)
      later now new (Ok done) is whole h = tt
      later now new (Err e) is whole (inl failed) = inl failed
      later now new (Err e) is whole (inr met) = inr (
        met.0,
        λ some.
            let none = (met.1 (All-tail (λ (v : Window). 0 < v.size) w ws some)).0 in
            let here : 0 < w.size = All-head (λ (v : Window). 0 < v.size) w ws some in absurd (omega arith),
      )

      go : (b : Bool) → (count == w.size) ≡ b → KeptInOrder (w ∷ ws) total x
          (if b then more (total + count) else record { answer = Ok (total + count); left = mid })
      go true whole =
          let k = others (total + count) in
          let now = total + count in
          (k.0, later now (more now).left (more now).answer refl (grind (arith, nat_tests)) k.1)
      go false part = (kept, tt)

  pub order_keeps : (ws : List Window)
      → ((w : Window) → Contains ws w → (x : X) → Kept x → KeptBy Kept Good (move w x)) → (total : ℕ) (x : X) → Kept x
      → KeptInOrder ws total x (in_order failure fault move ws total x)
  unfolding in_order
  order_keeps [] each total x kept = (kept, ended_why total x fault refl)
  order_keeps (w ∷ ws) each total x kept =
      let m = move w x in
      let k = each w (0, omega arith, refl) x kept in
      moved_why w ws total x m.left m.answer (λ now. in_order failure fault move ws now m.left) k.0 k.1
      (λ now. order_keeps ws (λ v among. each v (suc among.0, omega (arith, among.1), among.2)) now m.left k.0)
