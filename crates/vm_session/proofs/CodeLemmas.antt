-- What calls of a kind are answered.
use Rattle.std.proofs.Common.{◌≡◌, Bool, false, IsTrue, List, ℕ, Option, Some, MatchOption, refl, sym, subst, slice_get, slice_set, get_or, length, ◌<◌, ◌≤◌}
use Rattle.std.proofs.lemmas.Bool.{false≢true}
use Rattle.std.proofs.lemmas.Option.{slice_get_past, slice_get_read}
use Rattle.vm_memory.specs.State.{State}
use Rattle.vm_session.specs.MemorySteps.{Still, marks_pages}
use Rattle.vm_session.specs.Kinds.{is_access, is_message, is_queue, is_work, kinds, marks, sets_up}
use Rattle.vm_session.specs.QueueCodes.{no_such}
use Rattle.vm_session.specs.Queues.{OnBoth, Refuses, WorksOn}
use Rattle.vm_session.specs.Session.{Answers, AnswersIf, AnswersKind, AnswersMade, AnswersOf, AnswersOther, AnswersSent, Served}
use Rattle.vm_session.specs.SessionState.{DeviceQueue, SessionState}
use Rattle.vm_session.specs.declared.call.Answer.{Answer}
use Rattle.vm_session.specs.declared.call.Call.{Call}
use Rattle.vm_session.specs.declared.call.Kind.{Kind}
use Rattle.vm_session.specs.declared.call.Kind.TheVariants as kind

-- a call that accesses bytes sets nothing up
no-setup : (kind : Kind) → IsTrue (is_access kind) → sets_up kind ≡ false
no-setup kind.Block h = absurd (false≢true h)
no-setup kind.Space h = absurd (false≢true h)
no-setup kind.Table h = absurd (false≢true h)
no-setup kind.LimitedTable h = absurd (false≢true h)
no-setup kind.Region h = absurd (false≢true h)
no-setup kind.Translator h = absurd (false≢true h)
no-setup k h = refl

-- nor does it mark pages
no-marks : (kind : Kind) → IsTrue (is_access kind) → marks kind ≡ false
no-marks kind.MarkBlock h = absurd (false≢true h)
no-marks kind.MarkReached h = absurd (false≢true h)
no-marks k h = refl

-- nor is it a message
no-message : (kind : Kind) → IsTrue (is_access kind) → is_message kind ≡ false
no-message kind.IotlbMessage h = absurd (false≢true h)
no-message k h = refl

-- nor is it one on a queue
no-work : (kind : Kind) → IsTrue (is_access kind) → is_work kind ≡ false
no-work kind.QueueIsValid h = absurd (false≢true h)
no-work kind.AvailIdx h = absurd (false≢true h)
no-work kind.UsedIdx h = absurd (false≢true h)
no-work kind.Pop h = absurd (false≢true h)
no-work kind.ReadChain h = absurd (false≢true h)
no-work kind.WriteChain h = absurd (false≢true h)
no-work kind.AddUsed h = absurd (false≢true h)
no-work kind.NeedsNotification h = absurd (false≢true h)
no-work kind.EnableNotification h = absurd (false≢true h)
no-work kind.DisableNotification h = absurd (false≢true h)
no-work kind.BeginRequest h = absurd (false≢true h)
no-work kind.FinishRequest h = absurd (false≢true h)
no-work kind.CompleteChain h = absurd (false≢true h)
no-work k h = refl

no-queue : (kind : Kind) → IsTrue (is_access kind) → is_queue kind ≡ false
no-queue kind.Queue h = absurd (false≢true h)
no-queue kind.SetQueue h = absurd (false≢true h)
no-queue kind.ResetQueue h = absurd (false≢true h)
no-queue kind.QueueState h = absurd (false≢true h)
no-queue kind.Forget h = absurd (false≢true h)
no-queue kind.PackedQueue h = absurd (false≢true h)
no-queue kind.ListSegments h = absurd (false≢true h)
no-queue k h = refl

-- what such a call is answered is what its session answers
pub access_answers : (old : SessionState) (kind : Kind) (call : Call) (input out : List ℕ) (a : Answer) (out' : List ℕ)
    (new : SessionState) → slice_get kinds call.kind ≡ Some kind → IsTrue (is_access kind)
    → Served old.machine kind call input out a out' new.machine → new.queues ≡ old.queues
    → Answers old call input out a out' new
access_answers old kind call input out a out' new is access served same =
    subst (λ (o : Option Kind). AnswersIf (Still marks_pages) o old call input out a out' new) (sym is)
    (subst (λ (b : Bool). AnswersOf (Still marks_pages) b kind old call input out a out' new) (sym (no-work kind access))
    (subst (λ (b : Bool). AnswersOther b kind old call input out a out' new) (sym (no-queue kind access)) (
      subst (λ (b : Bool). AnswersKind b kind old.machine call input out a out' new.machine)
          (sym (no-setup kind access))
          (subst (λ (b : Bool). AnswersMade b kind old.machine call input out a out' new.machine)
          (sym (no-marks kind access))
          (subst (λ (b : Bool). AnswersSent b kind old.machine call input out a out' new.machine)
          (sym (no-message kind access)) served)),
      same,
    )))

-- the same of a call on a queue and a memory
pub work_answers : (old : SessionState) (kind : Kind) (call : Call) (input out : List ℕ) (a : Answer) (out' : List ℕ)
    (new : SessionState) → slice_get kinds call.kind ≡ Some kind → IsTrue (is_work kind)
    → OnBoth kind old call input out a new out' → Answers old call input out a out' new
work_answers old kind call input out a out' new is work h =
    subst (λ (o : Option Kind). AnswersIf (Still marks_pages) o old call input out a out' new) (sym is)
    (subst (λ (b : Bool). AnswersOf (Still marks_pages) b kind old call input out a out' new) (sym work) h)

-- a call on a queue that there is, and on one that there is not
module _ (k : Kind) (old : SessionState) (call : Call) (input out : List ℕ) (a : Answer) (out' : List ℕ) where
  abbrev AtQueue : SessionState → Option DeviceQueue → Type 0
  AtQueue new o = MatchOption o (Refuses no_such old out a new out')
      (λ q. (q' : DeviceQueue) × WorksOn k call input old.machine q out a new.machine q' out'
      × (new.queues ≡ slice_set old.queues call.first q'))

  pub on_queue : (q q' : DeviceQueue) → call.first < length old.queues → q ≡ get_or old.queues call.first q
      → (machine : State)
      → WorksOn k call input old.machine q out a machine q' out' → (new : SessionState) → new.machine ≡ machine
      → new.queues ≡ slice_set old.queues call.first q' → OnBoth k old call input out a new out'
  on_queue q q' within is machine works new left set =
      subst (AtQueue new)
      (sym (slice_get_read old.queues (length old.queues) call.first q refl within is)) (
        q',
        subst (λ (m : State). WorksOn k call input old.machine q out a m q' out') (sym left) works,
        set,
      )

  pub on_no_queue : length old.queues ≤ call.first → a ≡ no_such → out' ≡ out → (new : SessionState)
      → new ≡ old → OnBoth k old call input out a new out'
  on_no_queue past told same new kept =
      subst (AtQueue new) (sym (slice_get_past old.queues call.first past)) (told, kept, same)
