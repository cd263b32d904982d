-- What a source or a sink says of tries and of turns follows from what it says of one try.
use Rattle.std.proofs.Common.{◌≡◌, ℕ, ◌+◌, ◌-◌, ◌<◌, Bool, true, false, ◌||◌, MatchBool, List, ◌++◌, length, take, drop, Option, Some, None, Result, Ok, Err, refl, sym, ap, ap₂, subst, ◌∙◌, inl, inr, append-nil, append_assoc, add-zero, arith}
use Rattle.std.proofs.lemmas.List.{length-drop}
use Rattle.std.proofs.Math.Seq.{take-add}
use Rattle.std.specs.declared.io.ErrorKind.TheVariants.{UnexpectedEof}
use mathlib.Core.Bool.{true≢false}
use Rattle.vm_memory_base.specs.Transfer.{Next, is_interrupted, ReadsAs, Reads, ReadsAfter, Lending, lending, lent_once, lent_after, filled_as, is_short, FillsAs, FillsBy, Sink, offered, again, TakesAs, TakesOnce, OffersAs, count_of, Keeps, sent_as, SendsAs, SendsBy, Stop, Again, WholeOf, Answer, AgainUpto, Last, Done, Retry, RestOf, AllMoved, NoneMoved, TurnFailed, SomeMoved}
use Rattle.vm_memory_base.specs.declared.io.ReadExactFault.{ReadExactFault}
use Rattle.vm_memory_base.specs.declared.io.VolatileMemoryError.{VolatileMemoryError}
use Rattle.vm_memory_base.specs.declared.io.VolatileMemoryError.TheVariants.{IOError}
use Rattle.vm_memory_base.specs.lemmas.Turns.{Does, again_does, rest_does}

-- ---- sources

-- a source, a buffer that it is lent, and whether a try was interrupted
module _ {S : Type 0} (source : S → Option (List Next)) (reads : S → List ℕ → Answer → List ℕ → S → Type 0) where
  -- the same as is computed
  abbrev IsLent : S × List ℕ × Bool → Lending → Type 0
  IsLent x y = (source x.0 ≡ Some y.next) × (x.1 ≡ y.buffer) × (x.2 ≡ y.interrupted)

  reads_does : (x z : S × List ℕ × Bool) (answer : Answer) (y : Lending) → IsLent x y
      → Reads source reads x answer z → Does IsLent (λ x. ⊥) x answer z (lent_once y)
  reads_does x z answer y like h =
      let told = subst (λ (o : Option (List Next)). ReadsAs o x.1 answer z.1 (source z.0)) like.0 h.0 in
      let here = subst (λ (b : List ℕ). ReadsAs (Some y.next) b answer z.1 (source z.0)) like.1 told in
      let flag = h.3 ∙ ap₂ (λ (b : Bool) (r : Answer). b || is_interrupted r) like.2 here.0 in
      inr (here.0, (here.2, here.1, flag))

  after_does : (done : ℕ) (x z : S × List ℕ × Bool) (answer : Answer) (y : Lending) → IsLent x y
      → ReadsAfter source reads done x answer z → Does IsLent (λ x. ⊥) x answer z (lent_after done y)
  after_does done x z answer y like h =
      elim (again_does IsLent (λ x. ⊥) (Reads source reads) lent_once reads_does (λ x z a t no. no) h.1
      (record y { buffer = drop done y.buffer }) (like.0, ap (λ (b : List ℕ). drop done b) like.1, like.2)) [
        | inl wanted ↦ inl wanted
        | inr does ↦
            (let whole = h.2 ∙ ap₂ (λ (b part : List ℕ). take done b ++ part) like.1 does.1.1 in
            inr (does.0, (does.1.0, whole, does.1.2)))
      ]

  fills_told : (known : S → Option ℕ) (s t : S) (start buf : List ℕ) (answer : Result (Unit {0}) ReadExactFault)
      (next : List Next) → source s ≡ Some next → (b : Bool) → is_short (known s) (length start) ≡ b
      → MatchBool b
      ((answer ≡ Err (record { touched = 0; error = IOError UnexpectedEof })) × (buf ≡ start) × (t ≡ s))
      ((count : ℕ) × (stop : Stop) × (interrupted : Bool)
      × WholeOf (ReadsAfter source reads) (length start) (s, start, false) count stop (t, buf, interrupted)
      × (answer ≡ filled_as (length start) interrupted count stop))
      → FillsAs (known s) (Some next) start answer buf (source t)
  fills_told known s t start buf answer next tells true short h = rw short (h.0, h.1, ap source h.2 ∙ tells)
  fills_told known s t start buf answer next tells false long h =
      elim (rest_does IsLent (λ x. ⊥) (ReadsAfter source reads) lent_after (length start)
      (λ done x z a y some. after_does done x z a y) (λ done x z a t no. no) h.3 (length start) (omega arith)
      (lending start next) (tells, refl, refl)) [
        | inl wanted ↦ absurd wanted.1
        | inr does ↦ rw long (rw (does.0, does.1, does.2.2) at h.4, does.2.1, does.2.0)
      ]

  -- a buffer is filled as is computed
  pub fills_tell : (known : S → Option ℕ) (s t : S) (start buf : List ℕ) (answer : Result (Unit {0}) ReadExactFault)
      → FillsBy source reads known s start answer buf t → FillsAs (known s) (source s) start answer buf (source t)
  fills_tell known s t start buf answer h = go (source s) refl
    where
      go : (o : Option (List Next)) → source s ≡ o → FillsAs (known s) o start answer buf (source t)
      go None tells = tt
      go (Some next) tells =
          fills_told known s t start buf answer next tells (is_short (known s) (length start)) refl h

-- ---- sinks

-- what a sink keeps: nothing at first, and then what came
keeps_none : (o : Option (List ℕ)) (bytes : List ℕ) → Keeps o bytes 0 o
keeps_none None bytes = tt
keeps_none (Some before) bytes = ap (λ (bs : List ℕ). Some bs) (sym (append-nil before))

keeps_more : (o : Option (List ℕ)) (bytes : List ℕ) (now : Option (List ℕ)) (count : ℕ) (after : Option (List ℕ))
    → Keeps o bytes 0 now → Keeps now bytes count after → Keeps o bytes count after
keeps_more None bytes now count after so_far more = tt
keeps_more (Some before) bytes now count after so_far more =
    let as_before = so_far ∙ ap (λ (bs : List ℕ). Some bs) (append-nil before) in
    subst (λ (o : Option (List ℕ)). Keeps o bytes count after) as_before more

-- after what it had taken
keeps_on : (o : Option (List ℕ)) (bytes : List ℕ) (done : ℕ) (now : Option (List ℕ)) (count : ℕ)
    (after : Option (List ℕ)) → Keeps o bytes done now → Keeps now (drop done bytes) count after
    → Keeps o bytes (done + count) after
keeps_on None bytes done now count after so_far more = tt
keeps_on (Some before) bytes done now count after so_far more =
    let here = subst (λ (o : Option (List ℕ)). Keeps o (drop done bytes) count after) so_far more in
    here ∙ ap (λ (xs : List ℕ). Some xs) (append_assoc before (take done bytes) (take count (drop done bytes))
    ∙ ap (λ (xs : List ℕ). before ++ xs) (sym (take-add done count bytes)))

keeps_still : (o : Option (List ℕ)) (bytes : List ℕ) (done : ℕ) (now after : Option (List ℕ)) → Keeps o bytes done now
    → Keeps now (drop done bytes) 0 after → Keeps o bytes done after
keeps_still o bytes done now after so_far more =
    subst (λ (n : ℕ). Keeps o bytes n after) (add-zero done) (keeps_on o bytes done now 0 after so_far more)

-- an interrupted try took nothing
interrupted-count : (answer : Answer) → is_interrupted answer ≡ true → count_of answer ≡ 0
interrupted-count (Ok count) is = absurd (true≢false (sym is))
interrupted-count (Err e) is = refl

module _ {S : Type 0} (sink : S → Option Sink) (taken : S → Option (List ℕ)) (wants : S → Type 0)
    (writes : S → List ℕ → Answer → S → Type 0) where
  abbrev IsSink : S → Sink → Type 0
  IsSink x y = sink x ≡ Some y

  -- an allocation may fail only for some bytes
  abbrev WantsOf : ℕ → S → Type 0
  WantsOf n x = (0 < n) × wants x

  -- bytes were offered by one try
  abbrev Once : List ℕ → S → Answer → S → Type 0
  Once = TakesOnce sink taken wants writes

  takes_does : (bytes : List ℕ) (x z : S) (answer : Answer) (y : Sink) → IsSink x y → Once bytes x answer z
      → Does IsSink (WantsOf (length bytes)) x answer z (offered (length bytes) y)
  takes_does bytes x z answer y like h =
      elim (subst (λ (o : Option Sink). TakesAs (wants x) o (length bytes) answer (sink z)) like h.0) [
        | inl wanted ↦ inl (wanted.0, (wanted.1, wanted.2))
        | inr does ↦ inr does
      ]

  -- what the sink keeps of tries is what it keeps of the last
  tries_keep : (bytes : List ℕ) {more : ℕ} {x z : S} {answer : Answer} → AgainUpto (Once bytes) more x answer z
      → Keeps (taken x) bytes (count_of answer) (taken z) × (wants z → wants x)
  tries_keep bytes (Last t) = (t.1, t.2)
  tries_keep bytes (Done t is) = (t.1, t.2)
  tries_keep bytes {x = x} {z = z} {answer = answer} (Retry {y = y} {tried = tried} t is rest) =
      let none = subst (λ (n : ℕ). Keeps (taken x) bytes n (taken y)) (interrupted-count tried is) t.1 in
      let k = tries_keep bytes rest in
      (keeps_more (taken x) bytes (taken y) (count_of answer) (taken z) none k.0, λ want. t.2 (k.1 want))

  -- bytes were offered by tries as is computed
  pub offers_tell : (bytes : List ℕ) (s t : S) (answer : Answer) → Again (Once bytes) s answer t
      → OffersAs (wants s) (sink s) (length bytes) answer (sink t)
      × Keeps (taken s) bytes (count_of answer) (taken t) × (wants t → wants s)
  offers_tell bytes s t answer tries = let k = tries_keep bytes tries in (go (sink s) refl, k.0, k.1)
    where
      go : (o : Option Sink) → sink s ≡ o → OffersAs (wants s) o (length bytes) answer (sink t)
      go None tells = tt
      go (Some y) tells =
          elim (again_does IsSink (WantsOf (length bytes)) (Once bytes) (offered (length bytes)) (takes_does bytes)
          (λ x z a t want. (want.0, t.2 want.1)) tries y tells) [
            | inl wanted ↦ inl (wanted.0, wanted.1.0, wanted.1.1)
            | inr does ↦ inr does
          ]

  -- offers of what is left of the bytes, in turn
  abbrev Behind : List ℕ → ℕ → S → Answer → S → Type 0
  Behind bytes done = Again (Once (drop done bytes))

  turns_keep : (start : S) (bytes : List ℕ) {done total : ℕ} {x z : S} {stop : Stop}
      → Keeps (taken start) bytes done (taken x) → RestOf (Behind bytes) (length bytes) done x total stop z
      → Keeps (taken start) bytes total (taken z) × (wants z → wants x)
  turns_keep start bytes so_far (AllMoved full) = (so_far, λ want. want)
  turns_keep start bytes {done = done} {x = x} {z = z} so_far (NoneMoved some t) =
      let o = offers_tell (drop done bytes) x z (Ok 0) t in
      (keeps_still (taken start) bytes done (taken x) (taken z) so_far o.1, o.2)
  turns_keep start bytes {done = done} {x = x} {z = z} so_far (TurnFailed {error = error} some t) =
      let o = offers_tell (drop done bytes) x z (Err error) t in
      (keeps_still (taken start) bytes done (taken x) (taken z) so_far o.1, o.2)
  turns_keep start bytes {done = done} {x = x} so_far (SomeMoved {count = count} {y = y} some t moved rest) =
      let o = offers_tell (drop done bytes) x y (Ok count) t in
      let k = turns_keep start bytes (keeps_on (taken start) bytes done (taken x) count (taken y) so_far o.1) rest in
      (k.0, λ want. o.2 (k.1 want))

  -- and sent
  pub sends_tell : (bytes : List ℕ) (s t : S) (count : ℕ) (answer : Result (Unit {0}) VolatileMemoryError)
      → SendsBy Once s bytes count answer t
      → SendsAs (wants s) (sink s) (length bytes) count answer (sink t)
      × Keeps (taken s) bytes count (taken t) × (wants t → wants s)
  sends_tell bytes s t count answer h =
      let k = turns_keep s bytes (keeps_none (taken s) bytes) h.1 in (go (sink s) refl, k.0, k.1)
    where
      n : ℕ
      n = length bytes

      each : (done : ℕ) (x z : S) (a : Answer) (y : Sink) → done < n → IsSink x y → Behind bytes done x a z
          → Does IsSink (WantsOf n) x a z (again (offered (n - done)) y)
      each done x z a y some like tries =
          let o = offers_tell (drop done bytes) x z a tries in
          let left = subst (λ (k : ℕ). OffersAs (wants x) (sink x) k a (sink z)) (length-drop done bytes) o.0 in
          elim (subst (λ (o : Option Sink). OffersAs (wants x) o (n - done) a (sink z)) like left) [
            | inl wanted ↦ inl (wanted.0, (omega arith, wanted.2))
            | inr does ↦ inr does
          ]

      back : (done : ℕ) (x z : S) (a : Answer) → Behind bytes done x a z → WantsOf n z → WantsOf n x
      back done x z a tries want =
          let o = offers_tell (drop done bytes) x z a tries in (want.0, o.2 want.1)

      go : (o : Option Sink) → sink s ≡ o → SendsAs (wants s) o n count answer (sink t)
      go None tells = tt
      go (Some y) tells =
          elim (rest_does IsSink (WantsOf n) (Behind bytes) (λ done. again (offered (n - done))) n each back h.1 n
          (omega arith) y tells) [
            | inl wanted ↦ inl (h.2 ∙ ap sent_as wanted.0, wanted.1.0, wanted.1.1)
            | inr does ↦ inr (h.2 ∙ ap sent_as does.1, does.0, does.2)
          ]
