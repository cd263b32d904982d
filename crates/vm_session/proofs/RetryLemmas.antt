-- What a session remembers of a call that misses.
use Rattle.std.proofs.Common.{◌≡◌, ◌∙◌, ◌==◌, ◌&&◌, ◌++◌, ℕ, Bool, true, false, IsTrue, cond, List, [], ◌∷◌, drop, slice_get, Option, Some, None, MatchBool, refl, sym, ap, subst, inl, inr, arith}
use Rattle.std.proofs.lemmas.Bool.{false≢true}
use Rattle.std.proofs.lemmas.Bool.Decides.{nat_tests}
use Rattle.vm_memory.specs.Setup.{IsMade, set_up}
use Rattle.vm_memory.specs.State.{State}
use Rattle.vm_memory.specs.declared.machine.setup.Setup as setups
use Rattle.vm_memory.specs.declared.machine.setup.Setup.TheVariants as setup
use Rattle.vhost_message.specs.declared.iotlb.IotlbMessage.{IotlbMessage}
use Rattle.vhost_message.specs.declared.regions.MemoryRegion.{MemoryRegion}
use Rattle.vm_session.specs.MemorySteps.{Still, marks_pages}
use Rattle.vm_session.specs.Kinds.{is_access, is_message, is_table, is_work, kinds}
use Rattle.vm_session.specs.Messages.{is_announced, regions_in}
use Rattle.vm_session.specs.Retries.{Clears, IsServed, Readies, WholeSession, after_call, after_message_if, after_missed_call, bound_of, forgotten, is_sent, limit_made, limits_after, message_at, missed, must_empty_table}
use Rattle.vm_session.specs.Requests.{IsSetup}
use Rattle.vm_session.specs.Run.{IsToldAs}
use Rattle.vm_session.specs.Session.{Answers, AnswersIf, IsSetUp}
use Rattle.vm_session.specs.SessionState.{SessionState}
use Rattle.vm_session.specs.declared.call.Answer.{Answer}
use Rattle.vm_session.specs.declared.call.Call.{Call}
use Rattle.vm_session.specs.declared.call.Kind.{Kind}
use Rattle.vm_session.specs.declared.call.Kind.TheVariants as kind
use Rattle.vm_session.specs.declared.retry.Retry.{Retry}

-- ---- messages

otherwise : (b : Bool) (x y : Option (ℕ × IotlbMessage)) → b ≡ false → cond b x y ≡ y
otherwise true x y h = absurd (false≢true (sym h))
otherwise false x y h = refl

-- a call of another kind has no message
pub no_message : (s : State) (call : Call) (input : List ℕ) (o : Option Kind) → slice_get kinds call.kind ≡ o
    → is_sent o ≡ false → message_at s call input ≡ None
no_message s call input o is none =
    otherwise (is_sent (slice_get kinds call.kind)) _ None (ap is_sent is ∙ none)

-- nothing is remembered, and no table is emptied
pub readies_none : (s : SessionState) (regions : List MemoryRegion) (p : Option (ℕ × IotlbMessage))
    → Readies None regions p s s
readies_none s regions None = refl
readies_none s regions (Some p) = refl

-- without a message nothing is emptied
pub readies_same : (retry : Option Retry) (regions : List MemoryRegion) (p : Option (ℕ × IotlbMessage))
    (old ready : SessionState) → p ≡ None → Readies retry regions p old ready → ready ≡ old
readies_same retry regions p old ready none h =
    subst (λ (x : Option (ℕ × IotlbMessage)). Readies retry regions x old ready) none h

-- queues stay
pub readies_queues : (retry : Option Retry) (regions : List MemoryRegion) (p : Option (ℕ × IotlbMessage))
    (old ready : SessionState) → Readies retry regions p old ready → ready.queues ≡ old.queues
readies_queues retry regions None old ready h = ap (λ (s : SessionState). s.queues) h
readies_queues retry regions (Some p) old ready h = at (must_empty_table retry p.0 && is_announced regions p.1) h
  where
    at : (b : Bool) → MatchBool b (Clears p.0 old ready) (ready ≡ old) → ready.queues ≡ old.queues
    at true h = h.2
    at false h = ap (λ (s : SessionState). s.queues) h

-- ---- calls of other kinds

abbrev makes_table : Option Kind → Bool
makes_table None = false
makes_table (Some k) = is_table k

keeps_limits : (o : Option Kind) (call : Call) (a : Answer) (limits : List (Option ℕ)) → makes_table o ≡ false
    → limits_after o call a limits ≡ limits
keeps_limits None call a limits none = refl
keeps_limits (Some k) call a limits none =
    ap (λ (b : Bool). cond (b && a.code == 0) (limits ++ limit_made k call ∷ []) limits) none

module _ (old new : WholeSession) (call : Call) (input out : List ℕ) (a : Answer) (out' : List ℕ)
    (answers : Answers old.parts call input out a out' new.parts) where
  -- a call that is no message and makes no table
  pub served_of : (o : Option Kind) → slice_get kinds call.kind ≡ o → is_sent o ≡ false → makes_table o ≡ false
      → new.limits ≡ old.limits → new.retry ≡ old.retry → IsServed old call input out a out' new
  served_of o is unsent table limits retry =
      let none = no_message old.parts.machine call input o is unsent in (
        old.parts,
        subst (λ (p : Option (ℕ × IotlbMessage)). Readies old.retry (regions_in (drop 32 input)) p old.parts
            old.parts) (sym none) refl,
        answers,
        limits ∙ sym (ap (λ (x : Option Kind). limits_after x call a old.limits) is
            ∙ keeps_limits o call a old.limits table),
        retry ∙ sym (ap (λ (p : Option (ℕ × IotlbMessage)). after_message_if old.retry p a) none),
      )

access_sends : (k : Kind) → IsTrue (is_access k) → is_message k ≡ false
access_sends kind.IotlbMessage h = absurd (false≢true h)
access_sends k h = refl

access_makes : (k : Kind) → IsTrue (is_access k) → is_table k ≡ false
access_makes kind.Table h = absurd (false≢true h)
access_makes kind.LimitedTable h = absurd (false≢true h)
access_makes k h = refl

work_sends : (k : Kind) → IsTrue (is_work k) → is_message k ≡ false
work_sends kind.IotlbMessage h = absurd (false≢true h)
work_sends k h = refl

work_makes : (k : Kind) → IsTrue (is_work k) → is_table k ≡ false
work_makes kind.Table h = absurd (false≢true h)
work_makes kind.LimitedTable h = absurd (false≢true h)
work_makes k h = refl

module _ (old new : WholeSession) (call : Call) (input out : List ℕ) (a : Answer) (out' : List ℕ) (k : Kind)
    (is : slice_get kinds call.kind ≡ Some k) (limits : new.limits ≡ old.limits) (retry : new.retry ≡ old.retry) where
  pub access_served : IsTrue (is_access k) → Answers old.parts call input out a out' new.parts
      → IsServed old call input out a out' new
  access_served h answers =
      served_of old new call input out a out' answers (Some k) is (access_sends k h) (access_makes k h) limits retry

  pub work_served : IsTrue (is_work k) → Answers old.parts call input out a out' new.parts
      → IsServed old call input out a out' new
  work_served h answers =
      served_of old new call input out a out' answers (Some k) is (work_sends k h) (work_makes k h) limits retry

-- a message
module _ (old new : WholeSession) (ready : SessionState) (call : Call) (input out : List ℕ) (a : Answer)
    (out' : List ℕ) where
  pub message_served : slice_get kinds call.kind ≡ Some kind.IotlbMessage
      → Readies old.retry (regions_in (drop 32 input)) (message_at old.parts.machine call input) old.parts ready
      → Answers ready call input out a out' new.parts → new.limits ≡ old.limits
      → new.retry ≡ after_message_if old.retry (message_at old.parts.machine call input) a
      → IsServed old call input out a out' new
  message_served is may answers limits retry = (
    ready,
    may,
    answers,
    limits ∙ sym (ap (λ (o : Option Kind). limits_after o call a old.limits) is),
    retry,
  )

-- ---- tables

table_sends : (k : Kind) → IsTrue (is_table k) → is_message k ≡ false
table_sends kind.IotlbMessage h = absurd (false≢true h)
table_sends k h = refl

limits_if : (k : Kind) (call : Call) (a : Answer) (limits : List (Option ℕ)) → is_table k ≡ true
    → limits_after (Some k) call a limits ≡ cond (a.code == 0) (limits ++ limit_made k call ∷ []) limits
limits_if k call a limits one =
    ap (λ (b : Bool). cond (b && a.code == 0) (limits ++ limit_made k call ∷ []) limits) one

-- a call that makes a table, or does not
module _ (old new : WholeSession) (call : Call) (input out : List ℕ) (a : Answer) (out' : List ℕ) (k : Kind)
    (is : slice_get kinds call.kind ≡ Some k) (h : IsTrue (is_table k)) where
  pub table_served : Answers old.parts call input out a out' new.parts
      → new.limits ≡ cond (a.code == 0) (old.limits ++ limit_made k call ∷ []) old.limits → new.retry ≡ old.retry
      → IsServed old call input out a out' new
  table_served answers limits retry =
      let none = no_message old.parts.machine call input (Some k) is (table_sends k h) in (
        old.parts,
        subst (λ (p : Option (ℕ × IotlbMessage)). Readies old.retry (regions_in (drop 32 input)) p old.parts
            old.parts) (sym none) refl,
        answers,
        limits ∙ sym (ap (λ (x : Option Kind). limits_after x call a old.limits) is
            ∙ limits_if k call a old.limits h),
        retry ∙ sym (ap (λ (p : Option (ℕ × IotlbMessage)). after_message_if old.retry p a) none),
      )

  -- one that is refused makes none
  pub table_refused : Answers old.parts call input out a out' new.parts → (a.code == 0) ≡ false
      → new.limits ≡ old.limits → new.retry ≡ old.retry → IsServed old call input out a out' new
  table_refused answers refused limits retry =
      table_served answers (limits
      ∙ sym (ap (λ (b : Bool). cond b (old.limits ++ limit_made k call ∷ []) old.limits) refused)) retry

-- a call that makes a table, as its parts answer it
pub table_answers : (old new : SessionState) (call : Call) (input out : List ℕ) (a : Answer) (k : Kind)
    → slice_get kinds call.kind ≡ Some k → IsTrue (is_table k) → IsSetUp old.machine k call a new.machine
    → new.queues ≡ old.queues → Answers old call input out a out new
table_answers old new call input out a kind.Table is t h same =
    subst (λ (o : Option Kind). AnswersIf (Still marks_pages) o old call input out a out new) (sym is) ((h, refl), same)
table_answers old new call input out a kind.LimitedTable is t h same =
    subst (λ (o : Option Kind). AnswersIf (Still marks_pages) o old call input out a out new) (sym is) ((h, refl), same)
table_answers old new call input out a k is t h same = absurd (false≢true t)

-- such a call makes something, so that memory may be wanting
pub table_made : (k : Kind) → IsTrue (is_table k) → (call : Call) (s : setups.Setup) (now : State) → IsSetup k call s
    → IsMade (set_up now s).0
table_made kind.Table t call (setup.Table limit) now h = tt
table_made kind.Table t call s now h = absurd h
table_made kind.LimitedTable t call (setup.Table limit) now h = tt
table_made kind.LimitedTable t call s now h = absurd h
table_made k t call s now h = absurd (false≢true t)

-- ---- what is answered

-- a call is answered as its parts answered it, or in place of a miss that the table is too small
pub told_as : (s : WholeSession) (call : Call) (len : ℕ) (told a : Answer) (retry : Option Retry)
    → (a, retry) ≡ after_call s call len told → IsToldAs told a
told_as s call len told a retry e = at (told.code == 42) refl e
  where
    missed_as : (b : Bool) (r : Retry) → told.code ≡ 42
        → ◌≡◌ {A = Answer × Option Retry} (a, retry) (cond b (record told { code = 53 }, None) (told, Some r))
        → IsToldAs told a
    missed_as true r is e = inr (is, ap (λ (p : Answer × Option Retry). p.0) e)
    missed_as false r is e = inl (ap (λ (p : Answer × Option Retry). p.0) e)

    bound_as : (o : Option (ℕ × ℕ)) → told.code ≡ 42 → (a, retry) ≡ after_missed_call s.retry call len told o
        → IsToldAs told a
    bound_as None is e = inl (ap (λ (p : Answer × Option Retry). p.0) e)
    bound_as (Some bound) is e =
        let r : Retry = missed s.retry call len bound.0 bound.1 in missed_as (r.left == 0) r is e

    at : (b : Bool) → (told.code == 42) ≡ b
        → ◌≡◌ {A = Answer × Option Retry} (a, retry)
        (cond b (after_missed_call s.retry call len told (bound_of s call)) (told, forgotten s.retry call len))
        → IsToldAs told a
    at true is e = bound_as (bound_of s call) (grind (arith, nat_tests, is)) e
    at false is e = inl (ap (λ (p : Answer × Option Retry). p.0) e)

-- one that was done was done
pub told_done : (told a : Answer) → IsToldAs told a → told.code ≡ 0 → a.code ≡ 0
told_done told a (inl is) done = ap (λ (x : Answer). x.code) is ∙ done
told_done told a (inr h) done = absurd (omega (arith, h.0, done))
