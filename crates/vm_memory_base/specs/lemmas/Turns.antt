-- Tries again, and turns until all is moved: what came of them is what is computed, and they keep what each keeps.
use Rattle.std.proofs.Common.{◌≡◌, ◌≢◌, ◌⊎◌, inl, inr, ℕ, zero, suc, ◌+◌, ◌-◌, ◌<◌, ◌≤◌, Bool, true, false, Ok, Err, IfErr, refl, sym, ap, subst, ◌∙◌, arith}
use Rattle.std.proofs.lemmas.Bool.Decides.{nat_tests}
use Rattle.std.specs.Prelude.{nat_lt, if◌then◌else◌}
use mathlib.Core.Bool.{true≢false}
use Rattle.vm_memory_base.specs.Transfer.{Answer, is_interrupted, Made, again_upto, Stop, Whole, Dry, Failed, Moved, after_turn, rest_of, AgainUpto, Last, Done, Retry, Again, RestOf, AllMoved, NoneMoved, TurnFailed, SomeMoved, WholeOf}
use Rattle.vm_memory_base.specs.declared.io.VolatileMemoryError.{VolatileMemoryError}
use Rattle.vm_memory_base.specs.declared.io.VolatileMemoryError.TheVariants.{Memory}

-- ---- loops

module _ {X : Type 0} (Try : X → Answer → X → Type 0) where
  -- the tries from the start are those that are left
  abbrev pub AgainLeft : X → ℕ → X → Type 0
  AgainLeft start left now = (answer : Answer) (new : X) → AgainUpto Try left now answer new
      → Again Try start answer new

  pub again_more : {start now mid : X} {tried : Answer} (left : ℕ) → AgainLeft start left now
      → 0 < left → Try now tried mid → is_interrupted tried ≡ true → AgainLeft start (left - 1) mid
  again_more zero so_far some t is answer new rest = absurd (omega arith)
  again_more {mid = mid} (suc more) so_far some t is answer new rest =
      let same : suc more - 1 ≡ more = omega arith in
      so_far answer new (Retry t is (subst (λ n. AgainUpto Try n mid answer new) same rest))

  pub again_done : {start now new : X} {answer : Answer} (left : ℕ) → AgainLeft start left now
      → Try now answer new → (is_interrupted answer ≡ false ⊎ (left ≤ 0)) → Again Try start answer new
  again_done left so_far t (inl is) = so_far _ _ (Done t is)
  again_done zero so_far t (inr spent) = so_far _ _ (Last t)
  again_done (suc more) so_far t (inr spent) = absurd (omega arith)

module _ {X : Type 0} (Turn : ℕ → X → Answer → X → Type 0) (n : ℕ) where
  -- the turns from the start are those of the rest
  abbrev pub RestLeft : X → ℕ → X → Type 0
  RestLeft start done now = (total : ℕ) (stop : Stop) (new : X) → RestOf Turn n done now total stop new
      → WholeOf Turn n start total stop new

  pub rest_more : {start now mid : X} {done : ℕ} (count : ℕ) → RestLeft start done now → done < n
      → Turn done now (Ok count) mid → count ≢ 0 → RestLeft start (done + count) mid
  rest_more count so_far some t moved total stop new rest =
      so_far total stop new (SomeMoved some t (omega arith) rest)

-- ---- turns that say more

module _ {X : Type 0} where
  pub again_is : {Try Other : X → Answer → X → Type 0} → ((x z : X) (a : Answer) → Try x a z → Other x a z)
      → {more : ℕ} {x z : X} {answer : Answer} → AgainUpto Try more x answer z → AgainUpto Other more x answer z
  again_is each (Last t) = Last (each _ _ _ t)
  again_is each (Done t is) = Done (each _ _ _ t) is
  again_is each (Retry t is rest) = Retry (each _ _ _ t) is (again_is each rest)

  pub rest_is : {Turn Other : ℕ → X → Answer → X → Type 0} {n : ℕ}
      → ((done : ℕ) (x z : X) (a : Answer) → Turn done x a z → Other done x a z)
      → {done total : ℕ} {x z : X} {stop : Stop} → RestOf Turn n done x total stop z
      → RestOf Other n done x total stop z
  rest_is each (AllMoved full) = AllMoved full
  rest_is each (NoneMoved some t) = NoneMoved some (each _ _ _ _ t)
  rest_is each (TurnFailed some t) = TurnFailed some (each _ _ _ _ t)
  rest_is each (SomeMoved some t moved rest) = SomeMoved some (each _ _ _ _ t) moved (rest_is each rest)

-- ---- what is computed

module _ {X Y : Type 0} (Like : X → Y → Type 0) (Wants : X → Type 0) where
  -- what came of a try is what is computed. Or memory was wanted
  abbrev pub Does : X → Answer → X → Made VolatileMemoryError Y → Type 0
  Does x answer new made = ((answer ≡ Err Memory) × Wants x) ⊎ ((answer ≡ made.answer) × Like new made.left)

  abbrev pub DoesWhole : X → ℕ → Stop → X → Moved Y → Type 0
  DoesWhole x count stop new moved =
      ((stop ≡ Failed Memory) × Wants x) ⊎ ((count ≡ moved.count) × (stop ≡ moved.stop) × Like new moved.left)

  module _ (Try : X → Answer → X → Type 0) (try : Y → Made VolatileMemoryError Y)
      (each : (x z : X) (answer : Answer) (y : Y) → Like x y → Try x answer z → Does x answer z (try y))
      (back : (x z : X) (answer : Answer) → Try x answer z → Wants z → Wants x) where
    told : (b : Bool) (answer : Answer) (y : Y) → answer ≡ (try y).answer → is_interrupted answer ≡ b
        → is_interrupted (try y).answer ≡ b
    told b answer y same is = sym (ap (λ (r : Answer). is_interrupted r) same) ∙ is

    pub again_does : {more : ℕ} {x z : X} {answer : Answer} → AgainUpto Try more x answer z → (y : Y)
        → Like x y → Does x answer z (again_upto try more y)
    unfolding again_upto
    again_does {x = x} {z = z} {answer = answer} (Last t) y like = each x z answer y like t
    again_does {more = zero} {x = x} {z = z} {answer = answer} (Done t is) y like = each x z answer y like t
    again_does {more = suc more} {x = x} {z = z} {answer = answer} (Done t is) y like =
        elim (each x z answer y like t) [
          | inl wanted ↦ inl wanted
          | inr does ↦ rw (told false answer y does.0 is) (inr does)
        ]
    again_does {more = suc more} {x = x} (Retry {y = mid} {tried = tried} t is rest) y like =
        elim (each x mid tried y like t) [
          | inl wanted ↦ absurd (true≢false (sym is ∙ ap (λ (r : Answer). is_interrupted r) wanted.0))
          | inr does ↦ rw (told true tried y does.0 is) (elim (again_does rest (try y).left does.1) [
            | inl wanted ↦ inl (wanted.0, back x mid tried t wanted.1)
            | inr others ↦ inr others
          ])
        ]

  module _ (Turn : ℕ → X → Answer → X → Type 0) (turn : ℕ → Y → Made VolatileMemoryError Y) (n : ℕ)
      (each : (done : ℕ) (x z : X) (answer : Answer) (y : Y) → done < n → Like x y → Turn done x answer z
      → Does x answer z (turn done y))
      (back : (done : ℕ) (x z : X) (answer : Answer) → Turn done x answer z → Wants z → Wants x) where
    ends : (turns done : ℕ) (y : Y) → n ≤ done
        → rest_of turn n turns done y ≡ record { count = done; stop = Whole; left = y }
    unfolding rest_of
    ends zero done y full = refl
    ends (suc turns) done y full =
        let none : nat_lt done n ≡ false = grind (arith, nat_tests) in rw none refl

    goes_on : (turns done : ℕ) (y : Y) (answer : Answer) → done < n → n - done ≤ turns
        → answer ≡ (turn done y).answer → rest_of turn n turns done y
        ≡ after_turn done (turn done y).left answer (λ now. rest_of turn n (turns - 1) now (turn done y).left)
    unfolding rest_of
    goes_on zero done y answer some enough same = absurd (omega arith)
    goes_on (suc turns) done y answer some enough same =
        let less : suc turns - 1 ≡ turns = omega arith in
        let yes : nat_lt done n ≡ true = grind (arith, nat_tests) in rw (yes, same, less) refl

    pub rest_does : {done total : ℕ} {x z : X} {stop : Stop} → RestOf Turn n done x total stop z → (turns : ℕ)
        → n - done ≤ turns → (y : Y) → Like x y → DoesWhole x total stop z (rest_of turn n turns done y)
    rest_does {done = done} (AllMoved full) turns enough y like = rw (ends turns done y full) (inr (refl, refl, like))
    rest_does {done = done} {x = x} {z = z} (NoneMoved some t) turns enough y like =
        elim (each done x z (Ok 0) y some like t) [
          | inl wanted ↦ absurd (cc)
          | inr does ↦ rw (goes_on turns done y (Ok 0) some enough does.0) (inr (refl, refl, does.1))
        ]
    rest_does {done = done} {x = x} {z = z} (TurnFailed {error = error} some t) turns enough y like =
        elim (each done x z (Err error) y some like t) [
          | inl wanted ↦ inl (cc, wanted.1)
          | inr does ↦ rw (goes_on turns done y (Err error) some enough does.0) (inr (refl, refl, does.1))
        ]
    rest_does (SomeMoved {count = zero} some t moved rest) turns enough y like = absurd (omega arith)
    rest_does {done = done} {x = x} (SomeMoved {count = suc more} {y = mid} some t moved rest) turns enough y like =
        elim (each done x mid (Ok (suc more)) y some like t) [
          | inl wanted ↦ absurd (cc)
          | inr does ↦ rw (goes_on turns done y (Ok (suc more)) some enough does.0) (
              elim (rest_does rest (turns - 1) (omega arith) (turn done y).left does.1) [
                | inl wanted ↦ inl (wanted.0, back done x mid (Ok (suc more)) t wanted.1)
                | inr others ↦ inr others
              ])
        ]

-- ---- what is kept

module _ {X : Type 0} (Kept : X → Type 0) (Good : VolatileMemoryError → Type 0) where
  -- the state is kept, and an error is one of these
  abbrev pub KeptBy : Made VolatileMemoryError X → Type 0
  KeptBy made = Kept made.left × IfErr made.answer Good

  abbrev pub IfFailed : Stop → Type 0
  IfFailed Whole = Unit {0}
  IfFailed Dry = Unit {0}
  IfFailed (Failed e) = Good e

  abbrev pub KeptByAll : Moved X → Type 0
  KeptByAll moved = Kept moved.left × IfFailed moved.stop

  either : (b : Bool) (s t : Made VolatileMemoryError X) → KeptBy s → KeptBy t → KeptBy (if b then s else t)
  either true s t h k = h
  either false s t h k = k

  pub again_keeps : (try : X → Made VolatileMemoryError X) → ((x : X) → Kept x → KeptBy (try x)) → (more : ℕ) (x : X)
      → Kept x → KeptBy (again_upto try more x)
  unfolding again_upto
  again_keeps try each zero x h = each x h
  again_keeps try each (suc more) x h =
      let t = try x in let k = each x h in
      either (is_interrupted t.answer) (again_upto try more t.left) t (again_keeps try each more t.left k.0) k

  after : (done : ℕ) (x : X) (answer : Answer) (more : ℕ → Moved X) → Kept x → IfErr answer Good
      → ((now : ℕ) → KeptByAll (more now)) → KeptByAll (after_turn done x answer more)
  after done x (Ok zero) more h good rest = (h, tt)
  after done x (Ok (suc count)) more h good rest = rest (done + suc count)
  after done x (Err e) more h good rest = (h, good)

  -- what follows if some of n bytes are left, and if none is
  tested : (turn : ℕ → X → Made VolatileMemoryError X) (n turns done : ℕ) (x : X) → Kept x
      → (done < n → KeptBy (turn done x))
      → ((now : ℕ) → Kept (turn done x).left → KeptByAll (rest_of turn n turns now (turn done x).left))
      → (b : Bool) → nat_lt done n ≡ b → KeptByAll (if b then after_turn done (turn done x).left (turn done x).answer
      (λ now. rest_of turn n turns now (turn done x).left) else record { count = done; stop = Whole; left = x })
  tested turn n turns done x h each rest false none = (h, tt)
  tested turn n turns done x h each rest true some =
      let left : done < n = grind (arith, nat_tests) in
      let k = each left in
      after done (turn done x).left (turn done x).answer (λ now. rest_of turn n turns now (turn done x).left) k.0 k.1
      (λ now. rest now k.0)

  pub rest_keeps : (turn : ℕ → X → Made VolatileMemoryError X) (n : ℕ)
      → ((done : ℕ) (x : X) → done < n → Kept x → KeptBy (turn done x)) → (turns done : ℕ) (x : X) → Kept x
      → KeptByAll (rest_of turn n turns done x)
  unfolding rest_of
  rest_keeps turn n each zero done x h = (h, tt)
  rest_keeps turn n each (suc turns) done x h =
      tested turn n turns done x h (λ some. each done x some h)
      (λ now k. rest_keeps turn n each turns now (turn done x).left k) (nat_lt done n) refl
