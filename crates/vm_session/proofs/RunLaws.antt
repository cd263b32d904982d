-- What happens to a session is a run of the model.
use Rattle.std.proofs.Common.{◌≡◌, ◌∙◌, Bool, true, false, not, ◌||◌, IsTrue, ℕ, List, [], ◌∷◌, Option, Some, None, drop, length, slice_get, refl, sym, ap, ap₂, subst, inl, inr, arith}
use Rattle.std.proofs.lemmas.Bool.{false≢true}
use Rattle.vm_memory.specs.Machine.{Run}
use Rattle.vm_memory.specs.State.{State}
use Rattle.vm_memory.specs.declared.machine.command.Command as commands
use Rattle.vm_memory.specs.declared.machine.command.Reply.{Reply}
use Rattle.vm_session.proofs.RetryLemmas.{no_message, readies_none, readies_queues, readies_same, told_as}
use Rattle.vm_session.specs.MemorySteps.{Races, Steps, Still, marks_pages}
use Rattle.vm_session.specs.Kinds.{is_command, is_message, is_queue, is_work, kinds, marks, sets_up, takes_list}
use Rattle.vm_session.specs.Messages.{regions_in}
use Rattle.vm_session.specs.Requests.{command_at}
use Rattle.vm_session.specs.Retries.{AnswersCallBy, Readies, WholeSession, is_sent, message_at}
use Rattle.vm_session.specs.Run.{AreDeeds, Deed, Does, Event, Exchange, HappenAll, Happens, IsDeed, IsRefused, IsToldAs, MayReady, all_ran, calls, forgets, forgot, gave_back, gives_back, lends, lent, made, marked, messaged, nothing, queued, races, ran, worked, writes, wrote}
use Rattle.vm_session.specs.Session.{AnswersIf, AnswersKind, AnswersMade, AnswersOf, AnswersOther, AnswersSent, DoesIf, IsLent, IsSetUp}
use Rattle.vm_session.specs.Session.{Does as DoesAs}
use Rattle.vm_session.specs.SessionState.{DeviceQueue, SessionState}
use Rattle.vm_session.specs.declared.call.Answer.{Answer}
use Rattle.vm_session.specs.declared.call.Kind.{Kind}
use Rattle.vm_session.specs.declared.call.Kind.TheVariants as kind

abbrev Moves : Steps → SessionState → Exchange → SessionState → Type 0
Moves steps old e new = (d : Deed) × Does steps old e d new

-- nothing changed of the machine, and nothing of the queues
unchanged : (old new : SessionState) → new.machine ≡ old.machine → new.queues ≡ old.queues → new ≡ old
unchanged old new machine queues =
    ap₂ (λ (m : State) (qs : List DeviceQueue). record { machine = m; queues = qs }) machine queues

-- the last of some tests fails
without_one : (a b c : Bool) → not (a || (b || (c || false))) ≡ not (a || (b || c))
without_one true b c = refl
without_one false true c = refl
without_one false false true = refl
without_one false false false = refl

without_two : (a b c d : Bool) → not (a || (b || (c || (d || false)))) ≡ not (a || (b || (c || d)))
without_two true b c d = refl
without_two false true c d = refl
without_two false false true d = refl
without_two false false false true = refl
without_two false false false false = refl

module _ (steps : Steps) (old new : SessionState) (e : Exchange) (kind : Kind)
    (is : slice_get kinds e.call.kind ≡ Some kind) where
  refused : IsRefused old e (Some kind) → IsRefused old e (slice_get kinds e.call.kind)
  refused h = subst (IsRefused old e) (sym is) h

  set_up_moves : IsSetUp old.machine kind e.call e.answer new.machine → e.after ≡ e.before
      → new.queues ≡ old.queues → Moves steps old e new
  set_up_moves (inl h) same queues = (made h.0 h.1, (kind, is, h.2, h.3, queues, h.4, same))
  set_up_moves (inr h) same queues = (nothing, (refused (inl (h.0, inl h.1)), same, unchanged old new h.2 queues))

  does_moves : IsTrue (is_command kind) → (o : Option commands.Command) → command_at kind e.call e.input ≡ o
      → DoesAs old.machine o e.before e.answer e.after new.machine → new.queues ≡ old.queues → Moves steps old e new
  does_moves commands None means h queues =
      (nothing, (refused (inl (h.0, inr (commands, means))), h.1, unchanged old new h.2 queues))
  does_moves commands (Some c) means (inl h) queues = (ran c h.0, (kind, is, means, h.1, queues, h.2, h.3, h.4))
  does_moves commands (Some c) means (inr h) queues =
      (nothing, (refused (inr (inr (c, means, h.0, h.1))), h.2, unchanged old new h.3 queues))

  command_moves : IsTrue (is_command kind) → (b : Bool) → takes_list kind ≡ b
      → DoesIf b old.machine (command_at kind e.call e.input) e.before e.answer e.after new.machine
      → new.queues ≡ old.queues → Moves steps old e new
  command_moves commands false listed h queues =
      does_moves commands (command_at kind e.call e.input) refl h queues
  command_moves commands true listed (inl h) queues =
      does_moves commands (command_at kind e.call e.input) refl h queues
  command_moves commands true listed (inr h) queues =
      (nothing, (refused (inr (inl (h.0, listed))), h.1, unchanged old new h.2 queues))

  sent_moves : (b : Bool) → is_message kind ≡ b → is_command kind ≡ not b
      → AnswersSent b kind old.machine e.call e.input e.before e.answer e.after new.machine
      → new.queues ≡ old.queues → Moves steps old e new
  sent_moves true one rest h queues =
      let none_due = readies_none old (regions_in (drop 32 e.input)) (message_at old.machine e.call e.input) in
      (messaged, (kind, is, one, (old, (None, none_due), h.0), queues, h.1))
  sent_moves false one rest h queues = command_moves rest (takes_list kind) refl h queues

  made_moves : (b : Bool) → is_command kind ≡ not (b || is_message kind)
      → AnswersMade b kind old.machine e.call e.input e.before e.answer e.after new.machine
      → new.queues ≡ old.queues → Moves steps old e new
  made_moves true rest h queues = (marked h.0.0, (kind, is, h.0.1, queues, h.0.2, h.1))
  made_moves false rest h queues = sent_moves (is_message kind) refl rest h queues

  kind_moves : (b : Bool) → is_command kind ≡ not (b || (marks kind || is_message kind))
      → AnswersKind b kind old.machine e.call e.input e.before e.answer e.after new.machine
      → new.queues ≡ old.queues → Moves steps old e new
  kind_moves true rest h queues = set_up_moves h.0 h.1 queues
  kind_moves false rest h queues = made_moves (marks kind) rest h queues

  other_moves : (b : Bool) → is_queue kind ≡ b
      → is_command kind ≡ not (sets_up kind || (marks kind || (is_message kind || b)))
      → AnswersOther b kind old e.call e.input e.before e.answer e.after new → Moves steps old e new
  other_moves true one rest h = (queued kind, (is, one, h))
  other_moves false one rest h =
      kind_moves (sets_up kind) (rest ∙ without_one (sets_up kind) (marks kind) (is_message kind)) h.0 h.1

  any_moves : (b : Bool) → is_work kind ≡ b
      → AnswersOf steps b kind old e.call e.input e.before e.answer e.after new → Moves steps old e new
  any_moves true one h = (worked kind, (is, one, h))
  any_moves false one h =
      other_moves (is_queue kind) refl
      (ap (λ (b : Bool). not (sets_up kind || (marks kind || (is_message kind || (is_queue kind || b))))) one
      ∙ without_two (sets_up kind) (marks kind) (is_message kind) (is_queue kind)) h

call_moves : (steps : Steps) (o : Option Kind) (old new : SessionState) (e : Exchange) → slice_get kinds e.call.kind ≡ o
    → AnswersIf steps o old e.call e.input e.before e.answer e.after new → Moves steps old e new
call_moves steps None old new e is h = (nothing, (subst (IsRefused old e) (sym is) h.0, h.1, h.2))
call_moves steps (Some kind) old new e is h = any_moves steps old new e kind is (is_work kind) refl h

-- a call that is no message finds the parts as they were
plain_moves : (steps : Steps) (o : Option Kind) (old ready new : SessionState) (e : Exchange)
    → slice_get kinds e.call.kind ≡ o → ready ≡ old
    → AnswersIf steps o ready e.call e.input e.before e.answer e.after new → Moves steps old e new
plain_moves steps o old ready new e is same h =
    call_moves steps o old new e is
    (subst (λ (s : SessionState). AnswersIf steps o s e.call e.input e.before e.answer e.after new) same h)

-- a message finds its table as it was, or empty
message_moves : (steps : Steps) (k : Kind) (old ready new : SessionState) (e : Exchange)
    → slice_get kinds e.call.kind ≡ Some k → is_message k ≡ true → ready.queues ≡ old.queues → MayReady old e ready
    → AnswersIf steps (Some k) ready e.call e.input e.before e.answer e.after new → Moves steps old e new
message_moves steps kind.IotlbMessage old ready new e is one queues may h =
    (messaged, (kind.IotlbMessage, is, refl, (ready, may, h.0.0), h.1 ∙ queues, h.0.1))
message_moves steps k old ready new e is one queues may h = absurd (false≢true one)

module _ (steps : Steps) (old : WholeSession) (e : Exchange) (told : Answer) (ready new : SessionState) where
  -- the call as its parts answered it
  abbrev as_told : Exchange
  as_told = record e { answer = told }

  served_moves : (b : Bool) (o : Option Kind) → slice_get kinds e.call.kind ≡ o → is_sent o ≡ b
      → Readies old.retry (regions_in (drop 32 e.input)) (message_at old.parts.machine e.call e.input) old.parts ready
      → AnswersIf steps o ready e.call e.input e.before told e.after new → Moves steps old.parts as_told new
  served_moves false o is none may h =
      plain_moves steps o old.parts ready new as_told is
      (readies_same old.retry (regions_in (drop 32 e.input)) (message_at old.parts.machine e.call e.input) old.parts
      ready (no_message old.parts.machine e.call e.input o is none) may) h
  served_moves true None is none may h = absurd (false≢true none)
  served_moves true (Some k) is one may h =
      message_moves steps k old.parts ready new as_told is one
      (readies_queues old.retry (regions_in (drop 32 e.input)) (message_at old.parts.machine e.call e.input) old.parts
      ready may) (old.retry, may) h

answered_moves : (steps : Steps) (old new : WholeSession) (e : Exchange)
    → AnswersCallBy steps old e.call e.input e.before e.answer e.after new
    → (d : Deed) × ((told : Answer) × IsToldAs told e.answer × Does steps old.parts (record e { answer = told }) d new.parts)
answered_moves steps old new e h =
    let o : Option Kind = slice_get kinds e.call.kind in
    let m : Moves steps old.parts (record e { answer = h.0 }) h.1.parts =
    served_moves steps old e h.0 h.2.0 h.1.parts (is_sent o) o refl refl h.2.1 h.2.2 in (
      m.0,
      (
        h.0,
        told_as h.1 e.call (length e.input) h.0 e.answer new.retry h.3,
        subst (λ (s : SessionState). Does steps old.parts (record e { answer = h.0 }) m.0 s)
            (sym (ap (λ (s : WholeSession). s.parts) h.4)) m.1,
      ),
    )

moves : (shared : List ℕ) (old new : WholeSession) (e : Event) → Happens shared old e new
    → (d : Deed) × IsDeed shared old.parts e d new.parts
moves shared old new (calls e) h = answered_moves (Still marks_pages) old new e h
moves shared old new (races e) h = answered_moves (Races shared) old new e h
moves shared old new (lends bytes page a) h = at h.0
  where
    at : IsLent old.parts.machine bytes page a new.parts.machine
        → (d : Deed) × IsDeed shared old.parts (lends bytes page a) d new.parts
    at (inl k) = (lent k.0, (k.1, h.1, k.2))
    at (inr k) = (nothing, (k.0, k.1, unchanged old.parts new.parts k.2 h.1))
moves shared old new (gives_back block a) h = (gave_back h.0.0, (h.0.1, h.1, h.0.2))
moves shared old new forgets h = (forgot, (refl, ap (λ (s : WholeSession). s.parts) h))
moves shared old new (writes blocks) h = (wrote blocks, (refl, h.0))

pub calls-run : (shared : List ℕ) (es : List Event) (old new : WholeSession) → HappenAll shared old es new
    → (deeds : List Deed) × AreDeeds shared old.parts es deeds new.parts
calls-run shared [] old new h = ([], ap (λ (s : WholeSession). s.parts) h)
calls-run shared (e ∷ es) old new h =
    let m = moves shared old h.0 e h.1 in
    let rest = calls-run shared es h.0 new h.2 in
    (m.0 ∷ rest.0, (h.0.parts, m.1, rest.1))

pub ran-run : (shared : List ℕ) (es : List Event) (cs : List commands.Command) (rs : List Reply) (old new : SessionState)
    → length cs ≡ length rs → AreDeeds shared old es (all_ran cs rs) new → Run old.machine cs rs new.machine
ran-run shared [] [] [] old new same h = ap (λ (s : SessionState). s.machine) h
ran-run shared (e ∷ es) [] [] old new same h = absurd h
ran-run shared es [] (r ∷ rs) old new same h = absurd (omega (arith, same))
ran-run shared es (c ∷ cs) [] old new same h = absurd (omega (arith, same))
ran-run shared [] (c ∷ cs) (r ∷ rs) old new same h = absurd h
ran-run shared (calls e ∷ es) (c ∷ cs) (r ∷ rs) old new same h =
    (h.0.machine, h.1.2.3, ran-run shared es cs rs h.0 new (omega (arith, same)) h.2)
ran-run shared (races e ∷ es) (c ∷ cs) (r ∷ rs) old new same h =
    (h.0.machine, h.1.2.3, ran-run shared es cs rs h.0 new (omega (arith, same)) h.2)
ran-run shared (lends bytes page a ∷ es) (c ∷ cs) (r ∷ rs) old new same h = absurd h.1
ran-run shared (gives_back block a ∷ es) (c ∷ cs) (r ∷ rs) old new same h = absurd h.1
ran-run shared (forgets ∷ es) (c ∷ cs) (r ∷ rs) old new same h = absurd (cc)
ran-run shared (writes blocks ∷ es) (c ∷ cs) (r ∷ rs) old new same h = absurd (cc)
