-- What a vector has more after bytes were sent to it: all of them, or none.
use Rattle.std.proofs.Common.{◌≡◌, ℕ, ◌≤◌, true, List, [], ◌∷◌, ◌++◌, length, drop, Option, Result, Ok, Err, append-nil, refl, sym, ap, ◌∙◌, arith}
use Rattle.std.proofs.lemmas.List.{length-drop}
use mathlib.Core.Bool.{true≢false}
use Rattle.vm_memory_base.specs.InMemory.{HasAllOrNone, WritesWhole}
use Rattle.vm_memory_base.specs.Transfer.{Answer, is_interrupted, is_interrupted_by, Stop, AgainUpto, Last, Done, Retry, Again, RestOf, AllMoved, NoneMoved, TurnFailed, SomeMoved, sent_as, SendsBy, Sink, TakesOnce}
use Rattle.vm_memory_base.specs.declared.io.VolatileMemoryError.{VolatileMemoryError}

not_interrupted : (old bytes : List ℕ) (answer : Answer) (new : List ℕ) → WritesWhole old bytes answer new
    → is_interrupted answer ≡ true → ⊥
not_interrupted old bytes (Ok count) new h is = true≢false (sym is)
not_interrupted old bytes (Err e) new h is = true≢false (sym is ∙ ap is_interrupted_by h.1.0)

nothing_more : (old bytes : List ℕ) → length bytes ≤ 0 → old ≡ old ++ bytes
nothing_more old [] none = sym (append-nil old)
nothing_more old (b ∷ bs) none = absurd (omega arith)

-- a sink that holds bytes, and each of whose writes takes all or none
module _ {S : Type 0} (items : S → List ℕ) (Try : List ℕ → S → Answer → S → Type 0)
    (each : (s t : S) (bytes : List ℕ) (answer : Answer) → Try bytes s answer t
    → WritesWhole (items s) bytes answer (items t)) where
  -- it is never tried again
  tries_whole : (bytes : List ℕ) {more : ℕ} {x z : S} {answer : Answer}
      → AgainUpto (Try bytes) more x answer z → WritesWhole (items x) bytes answer (items z)
  tries_whole bytes {x = x} {z = z} {answer = answer} (Last t) = each x z bytes answer t
  tries_whole bytes {x = x} {z = z} {answer = answer} (Done t is) = each x z bytes answer t
  tries_whole bytes {x = x} (Retry {y = y} {tried = tried} t is rest) =
      absurd (not_interrupted (items x) bytes tried (items y) (each x y bytes tried t) is)

  module _ (bytes : List ℕ) where
    abbrev Turns : ℕ → S → Answer → S → Type 0
    Turns done = Again (Try (drop done bytes))

    full_stays : {done total : ℕ} {x z : S} {stop : Stop} → length bytes ≤ done
        → RestOf Turns (length bytes) done x total stop z → (sent_as stop ≡ Ok tt) × (items z ≡ items x)
    full_stays full (AllMoved h) = (refl, refl)
    full_stays full (NoneMoved some t) = absurd (omega arith)
    full_stays full (TurnFailed some t) = absurd (omega arith)
    full_stays full (SomeMoved some t moved rest) = absurd (omega arith)

    turns_whole : {done total : ℕ} {x z : S} {stop : Stop} → done ≡ 0
        → RestOf Turns (length bytes) done x total stop z → HasAllOrNone (items x) bytes (sent_as stop) (items z)
    turns_whole {x = x} none (AllMoved full) = nothing_more (items x) bytes (omega arith)
    turns_whole {done = done} none (NoneMoved some t) =
        let w = tries_whole (drop done bytes) t in
        let long = length-drop done bytes in
        let count = w.0 in
        absurd (omega arith)
    turns_whole {done = done} none (TurnFailed some t) =
        let w = tries_whole (drop done bytes) t in
        (w.1.0, omega arith, w.1.2)
    turns_whole {done = done} {x = x} none (SomeMoved {count = count} some t moved rest) =
        let w = tries_whole (drop done bytes) t in
        let long = length-drop done bytes in
        let all : count ≡ length (drop done bytes) = w.0 in
        let over = full_stays (omega arith) rest in
        rw over.0 (over.1 ∙ w.1 ∙ ap (λ (n : ℕ). items x ++ drop n bytes) none)

  -- all bytes are taken, or none
  sends_whole : (bytes : List ℕ) (old new : S) (count : ℕ) (answer : Result (Unit {0}) VolatileMemoryError)
      → SendsBy Try old bytes count answer new → HasAllOrNone (items old) bytes answer (items new)
  sends_whole bytes old new count answer h = rw h.2 (turns_whole bytes refl h.1)

-- the same of a sink whose writes do so
pub takes_whole : {S : Type 0} (items : S → List ℕ) (sink : S → Option Sink) (taken : S → Option (List ℕ))
    (wants : S → Type 0) (writes : S → List ℕ → Answer → S → Type 0)
    (each : (s t : S) (bytes : List ℕ) (answer : Answer) → writes s bytes answer t
    → WritesWhole (items s) bytes answer (items t))
    (bytes : List ℕ) (old new : S) (count : ℕ) (answer : Result (Unit {0}) VolatileMemoryError)
    → SendsBy (TakesOnce sink taken wants writes) old bytes count answer new
    → HasAllOrNone (items old) bytes answer (items new)
takes_whole items sink taken wants writes each bytes old new count answer h =
    sends_whole items (TakesOnce sink taken wants writes) (λ s t bytes answer k. each s t bytes answer k.3) bytes old
    new count answer h
