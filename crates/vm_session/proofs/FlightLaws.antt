-- Chains in flight stay there.
use Rattle.std.proofs.Common.{◌≡◌, ◌∙◌, ◌⊎◌, ◌==◌, ◌+◌, ◌^◌, ◌&&◌, ℕ, zero, suc, Bool, true, false, IsTrue, nat_lt, cond, is_some, List, [], ◌∷◌, ◌++◌, All, drop, length, slice_get, slice_set, get_or, Option, Some, None, MatchBool, MatchOption, Result, Ok, Err, refl, sym, ap, subst, inl, inr, arith}
use Rattle.std.specs.Option.{option_and_then}
use Rattle.std.proofs.lemmas.Bool.{false≢true}
use Rattle.std.proofs.lemmas.Bool.Decides.{nat_tests}
use Rattle.std.proofs.lemmas.List.{get_or-set_other}
use Rattle.std.proofs.lemmas.List.Elements.{All-head, All-tail}
use Rattle.vm_memory_base.specs.Pages.{PageSet}
use Rattle.vm_memory_guest.specs.Host.{Host}
use Rattle.vm_memory_guest.specs.Memory.{Memory}
use Rattle.vm_memory_device.specs.declared.chain.Segment.{Segment}
use Rattle.virtio_queue.specs.declared.error.QueueError.{QueueError}
use Rattle.virtio_queue.specs.declared.error.QueueError.TheVariants.{InvalidDescriptorIndex}
use Rattle.virtio_queue.specs.declared.packed.state.PackedBuffer.{PackedBuffer}
use Rattle.vm_session.specs.MemorySteps.{MemoryStep, Races, Returned, Steps, Still, adds_used, marks_pages}
use Rattle.vm_session.specs.Kinds.{is_queue, is_work, kinds}
use Rattle.vm_session.specs.QueueCodes.{answer_of_done, answer_of_queue, in_flight, no_such, not_in_flight, too_many}
use Rattle.vm_session.specs.Codes.{bad_call, coded, no_memory}
use Rattle.vm_session.specs.Answers.{valued}
use Rattle.vm_session.specs.Queues.{AnswersQueue, Completes, CompletesIf, Forgets, KeepsQueue, MakesQueue, OnBothBy, OneQueue, OnQueue, Refuses, Returns, ReturnsIf, Works, WorksOnBy, after_popped, after_popped_if, after_returned, forgotten, is_past, refusal_of_chain, unfinished, unused}
use Rattle.vm_session.proofs.RetryLemmas.{readies_queues, told_as, told_done}
use Rattle.vm_session.specs.Messages.{regions_in}
use Rattle.vm_session.specs.Retries.{AnswersCallBy, WholeSession, message_at}
use Rattle.vm_session.specs.Run.{EndsFlight, EndsIf, Event, Exchange, HappenAll, Happens, calls, chain_at, ends_flight, forgets, gives_back, lends, races, writes}
use Rattle.vm_session.specs.Session.{AnswersIf, AnswersOf, AnswersOther}
use Rattle.vm_session.specs.SessionState.{DeviceQueue, SessionState, buffer_of, chain_of, descriptors_in}
use Rattle.vm_session.specs.declared.call.Answer.{Answer}
use Rattle.vm_session.specs.declared.call.Call.{Call}
use Rattle.vm_session.specs.declared.call.Kind.{Kind}
use Rattle.vm_session.specs.declared.call.Kind.TheVariants as kind

-- the element of another number is not changed
get-set_other : {X : Type 0} → (xs : List X) (i j : ℕ) (y : X) → (j ≡ i → ⊥)
    → slice_get (slice_set xs i y) j ≡ slice_get xs j
get-set_other [] i j y ne = refl
get-set_other (x ∷ xs) zero zero y ne = absurd (ne refl)
get-set_other (x ∷ xs) zero (suc j) y ne = refl
get-set_other (x ∷ xs) (suc i) zero y ne = refl
get-set_other (x ∷ xs) (suc i) (suc j) y ne = get-set_other xs i j y (λ e. ne (ap suc e))

get-append : {X : Type 0} → (xs ys : List X) (j : ℕ) (x : X) → slice_get xs j ≡ Some x
    → slice_get (xs ++ ys) j ≡ Some x
get-append [] ys j x h = absurd (cc)
get-append (x ∷ xs) ys zero y h = h
get-append (x ∷ xs) ys (suc j) y h = get-append xs ys j y h

-- a queue keeps a chain
abbrev Keeps : DeviceQueue → ℕ → List Segment → DeviceQueue → Type 0
Keeps q head chain q' = chain_of q head ≡ Some chain → chain_of q' head ≡ Some chain

same_keeps : (q q' : DeviceQueue) (head : ℕ) (chain : List Segment) → q' ≡ q → Keeps q head chain q'
same_keeps q q' head chain is h = ap (λ (x : DeviceQueue). chain_of x head) is ∙ h

-- a chain more is in flight under a head that had none
put_keeps : (flight : List (Option (List Segment))) (other head : ℕ) (chain more : List Segment)
    → is_some (get_or flight other None) ≡ false → get_or flight head None ≡ Some chain
    → get_or (slice_set flight other (Some more)) head None ≡ Some chain
put_keeps flight other head chain more none h =
    get_or-set_other flight other head (Some more) None (λ e.
    false≢true (sym none ∙ ap (λ (k : ℕ). is_some (get_or flight k None)) (sym e) ∙ ap is_some h)) ∙ h

get-set_same : {X : Type 0} → (xs : List X) (i : ℕ) (x y : X) → slice_get xs i ≡ Some x
    → slice_get (slice_set xs i y) i ≡ Some y
get-set_same [] i x y h = absurd (cc)
get-set_same (z ∷ zs) zero x y h = refl
get-set_same (z ∷ zs) (suc i) x y h = get-set_same zs i x y h

equal_same : (a : ℕ) → (a == a) ≡ true
equal_same a = grind (arith, nat_tests)

unequal : (a b : ℕ) → (a == b) ≡ false → b ≡ a → ⊥
unequal a b f e = false≢true (sym f ∙ (ap (λ (k : ℕ). a == k) e ∙ equal_same a))

equal : (a b : ℕ) → (a == b) ≡ true → a ≡ b
equal a b h = grind (arith, nat_tests)

-- a chain more is in flight of another head, or none of another head
taken_keeps : (flight : List (Option (List Segment))) (third head : ℕ) (chain : List Segment)
    → ((third == head) ≡ true → ⊥) → get_or flight head None ≡ Some chain
    → get_or (slice_set flight third None) head None ≡ Some chain
taken_keeps flight third head chain other h = at (third == head) refl
  where
    at : (b : Bool) → (third == head) ≡ b → get_or (slice_set flight third None) head None ≡ Some chain
    at true e = absurd (other e)
    at false e = get_or-set_other flight third head None None (unequal third head e) ∙ h

module _ (call : Call) (head : ℕ) (chain : List Segment) where
  forgets_keeps : (q : DeviceQueue) (a : Answer) (q' : DeviceQueue) → Forgets q call.third a q'
      → ((call.third == head) ≡ true → a.code ≡ 0 → ⊥) → Keeps q head chain q'
  forgets_keeps q a q' h ends = at (chain_of q call.third) h
    where
      at : (o : Option (List Segment)) → MatchOption o ((a ≡ not_in_flight) × (q' ≡ q))
          (λ c. (a ≡ coded 0) × (q' ≡ forgotten q call.third)) → Keeps q head chain q'
      at None k = same_keeps q q' head chain k.1
      at (Some c) k = λ here. ap (λ (x : DeviceQueue). chain_of x head) k.1
          ∙ taken_keeps q.flight call.third head chain (λ e. ends e (ap (λ (x : Answer). x.code) k.0)) here

  one_keeps : (k : Kind) (q : DeviceQueue) (out : List ℕ) (a : Answer) (q' : DeviceQueue) (out' : List ℕ)
      → OneQueue k call q out a q' out' → (ends_flight k call.third head ≡ true → a.code ≡ 0 → ⊥)
      → Keeps q head chain q'
  one_keeps kind.SetQueue q out a q' out' h ends = λ here.
      ap (λ (x : DeviceQueue). chain_of x head) h.1 ∙ here
  one_keeps kind.ResetQueue q out a q' out' h ends = absurd (ends refl (ap (λ (x : Answer). x.code) h.0))
  one_keeps kind.QueueState q out a q' out' h ends = same_keeps q q' head chain h.1
  one_keeps kind.Forget q out a q' out' h ends = forgets_keeps q a q' h.0 ends
  one_keeps kind.ListSegments q out a q' out' h ends = same_keeps q q' head chain h.1
  one_keeps k q out a q' out' h ends = absurd h

  popped_keeps : (q : DeviceQueue) (buffer : PackedBuffer) (more : List Segment) (o : Option Answer) (a : Answer)
      (q' : DeviceQueue) → refusal_of_chain q buffer.id more ≡ o → (a, q') ≡ after_popped_if o q buffer more
      → Keeps q head chain q'
  popped_keeps q buffer more (Some r) a q' is e = same_keeps q q' head chain (ap (λ (p : Answer × DeviceQueue). p.1) e)
  popped_keeps q buffer more None a q' is e = λ here.
      ap (λ (p : Answer × DeviceQueue). chain_of p.1 head) e
      ∙ put_keeps q.flight buffer.id head chain more (none (is_past q buffer.id) (is_some (chain_of q buffer.id)) is)
      here
    where
      none : (past b : Bool) → cond past (Some (answer_of_queue InvalidDescriptorIndex)) (cond b (Some in_flight)
          (cond (nat_lt q.most (descriptors_in q.flight + length more)) (Some too_many) None)) ≡ None → b ≡ false
      none true b e = absurd (cc)
      none false true e = absurd (cc)
      none false false e = refl

  pops_keeps : (q : DeviceQueue) (r : Result (Option (PackedBuffer × List Segment)) QueueError) (a : Answer)
      (q' : DeviceQueue) → (a, q') ≡ after_popped q r → Keeps q head chain q'
  pops_keeps q (Ok (Some p)) a q' e = popped_keeps q p.0 p.1 (refusal_of_chain q p.0.id p.1) a q' refl e
  pops_keeps q (Ok None) a q' e = same_keeps q q' head chain (ap (λ (p : Answer × DeviceQueue). p.1) e)
  pops_keeps q (Err x) a q' e = same_keeps q q' head chain (ap (λ (p : Answer × DeviceQueue). p.1) e)

  returned_keeps : (q : DeviceQueue) (r : Result (Unit {0}) QueueError) (a : Answer) (q' : DeviceQueue)
      → a ≡ answer_of_done r → q' ≡ after_returned q call.third r
      → ((call.third == head) ≡ true → a.code ≡ 0 → ⊥) → Keeps q head chain q'
  returned_keeps q (Ok u) a q' told is ends = λ here. ap (λ (x : DeviceQueue). chain_of x head) is
      ∙ taken_keeps q.flight call.third head chain (λ e. ends e (ap (λ (x : Answer). x.code) told)) here
  returned_keeps q (Err e) a q' told is ends = same_keeps q q' head chain is

  module _ {B : Type 0} (marks : B → ℕ → ℕ → B → Type 0) (m : Memory)
      (step : Host B → (s : MemoryStep) → Returned s → Host B → Type 0) where
    returns_keeps : (q : DeviceQueue) (old : Host B) (a : Answer) (q' : DeviceQueue) (new : Host B)
        → Returns step q call.third call.value old a q' new
        → ((call.third == head) ≡ true → a.code ≡ 0 → ⊥) → Keeps q head chain q'
    returns_keeps q old a q' new h ends = at (chain_of q call.third) h
      where
        at : (o : Option (List Segment)) → MatchOption o ((a ≡ not_in_flight) × (q' ≡ q) × (new ≡ old))
            (λ c. (r : Result (Unit {0}) QueueError)
            × step old (adds_used q.queue (buffer_of q call.third) call.value) r new × (a ≡ answer_of_done r)
            × (q' ≡ after_returned q call.third r)) → Keeps q head chain q'
        at None k = same_keeps q q' head chain k.1
        at (Some c) k = returned_keeps q k.0 a q' k.2 k.3 ends

    returns_if_keeps : (q : DeviceQueue) (old : Host B) (a : Answer) (q' : DeviceQueue) (new : Host B)
        → ReturnsIf step call q old a q' new → ((call.third == head) ≡ true → a.code ≡ 0 → ⊥)
        → Keeps q head chain q'
    returns_if_keeps q old a q' new h ends = at (nat_lt call.value (2 ^ 32)) h
      where
        at : (b : Bool) → MatchBool b (Returns step q call.third call.value old a q' new)
            ((a ≡ bad_call) × (q' ≡ q) × (new ≡ old)) → Keeps q head chain q'
        at true k = returns_keeps q old a q' new k ends
        at false k = same_keeps q q' head chain k.1

    completes_if_keeps : (input : List ℕ) (q : DeviceQueue) (old : Host B) (a : Answer) (q' : DeviceQueue) (new : Host B)
        → CompletesIf marks m step call input q old a q' new → ((call.third == head) ≡ true → a.code ≡ 0 → ⊥)
        → Keeps q head chain q'
    completes_if_keeps input q old a q' new h ends = at (nat_lt call.value (2 ^ 32)) h
      where
        whole : (told : Answer) (mid : Host B) (b : Bool) → MatchBool b
            (Returns step q call.third call.value mid a q' new)
            ((a ≡ unfinished (length input) told) × (q' ≡ q) × (new ≡ mid)) → Keeps q head chain q'
        whole told mid true k = returns_keeps q mid a q' new k ends
        whole told mid false k = same_keeps q q' head chain k.1

        at : (b : Bool) → MatchBool b (Completes marks m step call input q old a q' new)
            ((a ≡ bad_call) × (q' ≡ q) × (new ≡ old)) → Keeps q head chain q'
        at true k = whole k.0 k.1 (k.0.code == 0 && k.0.count == length input) k.3
        at false k = same_keeps q q' head chain k.1

    works_keeps : (k : Kind) (input : List ℕ) (q : DeviceQueue) (old : Host B) (out : List ℕ) (a : Answer)
        (q' : DeviceQueue) (new : Host B) (out' : List ℕ) → Works marks m step k call input q old out a q' new out'
        → (ends_flight k call.third head ≡ true → a.code ≡ 0 → ⊥) → Keeps q head chain q'
    works_keeps kind.QueueIsValid input q old out a q' new out' h ends = same_keeps q q' head chain h.1
    works_keeps kind.AvailIdx input q old out a q' new out' h ends = same_keeps q q' head chain h.1
    works_keeps kind.UsedIdx input q old out a q' new out' h ends = same_keeps q q' head chain h.1
    works_keeps kind.Pop input q old out a q' new out' h ends = pops_keeps q h.0.0 a q' h.0.2
    works_keeps kind.ReadChain input q old out a q' new out' h ends = same_keeps q q' head chain h.1
    works_keeps kind.WriteChain input q old out a q' new out' h ends = same_keeps q q' head chain h.1
    works_keeps kind.AddUsed input q old out a q' new out' h ends = returns_if_keeps q old a q' new h.0 ends
    works_keeps kind.CompleteChain input q old out a q' new out' h ends = completes_if_keeps input q old a q' new h.0 ends
    works_keeps kind.NeedsNotification input q old out a q' new out' h ends = λ here.
        ap (λ (x : DeviceQueue). chain_of x head) h.0.3 ∙ here
    works_keeps kind.EnableNotification input q old out a q' new out' h ends = same_keeps q q' head chain h.1
    works_keeps kind.DisableNotification input q old out a q' new out' h ends = same_keeps q q' head chain h.1
    works_keeps kind.BeginRequest input q old out a q' new out' h ends = same_keeps q q' head chain h.1
    works_keeps kind.FinishRequest input q old out a q' new out' h ends = same_keeps q q' head chain h.1
    works_keeps k input q old out a q' new out' h ends = absurd h

-- ---- sessions

abbrev Stays : ℕ → ℕ → List Segment → SessionState → SessionState → Type 0
Stays number head chain old new = chain_at old number head ≡ Some chain → chain_at new number head ≡ Some chain

module _ (number head : ℕ) (chain : List Segment) where
  same_stays : (old new : SessionState) → new.queues ≡ old.queues → Stays number head chain old new
  same_stays old new same here =
      ap (λ (qs : List DeviceQueue). option_and_then (λ q. chain_of q head) (slice_get qs number)) same ∙ here

  set_stays : (queues : List DeviceQueue) (i : ℕ) (q q' : DeviceQueue) → slice_get queues i ≡ Some q
      → ((i == number) ≡ true → Keeps q head chain q')
      → option_and_then (λ x. chain_of x head) (slice_get queues number) ≡ Some chain
      → option_and_then (λ x. chain_of x head) (slice_get (slice_set queues i q') number) ≡ Some chain
  set_stays queues i q q' is keeps here = at (i == number) refl
    where
      at : (b : Bool) → (i == number) ≡ b
          → option_and_then (λ x. chain_of x head) (slice_get (slice_set queues i q') number) ≡ Some chain
      at true e = let same : number ≡ i = sym (equal i number e) in
          ap (λ (k : ℕ). option_and_then (λ x. chain_of x head) (slice_get (slice_set queues i q') k)) same
          ∙ (ap (option_and_then (λ x. chain_of x head)) (get-set_same queues i q q' is)
          ∙ keeps e (sym (ap (option_and_then (λ x. chain_of x head)) is)
          ∙ (ap (λ (k : ℕ). option_and_then (λ x. chain_of x head) (slice_get queues k)) (sym same) ∙ here)))
      at false e =
          ap (option_and_then (λ x. chain_of x head)) (get-set_other queues i number q' (unequal i number e)) ∙ here

  added_stays : (queues more : List DeviceQueue)
      → option_and_then (λ q. chain_of q head) (slice_get queues number) ≡ Some chain
      → option_and_then (λ q. chain_of q head) (slice_get (queues ++ more) number) ≡ Some chain
  added_stays queues more here = at (slice_get queues number) refl here
    where
      at : (o : Option DeviceQueue) → slice_get queues number ≡ o
          → option_and_then (λ q. chain_of q head) o ≡ Some chain
          → option_and_then (λ q. chain_of q head) (slice_get (queues ++ more) number) ≡ Some chain
      at None is h = absurd (cc)
      at (Some q) is h = ap (option_and_then (λ q. chain_of q head)) (get-append queues more number q is) ∙ h

  module _ (k : Kind) (old new : SessionState) (call : Call) (out : List ℕ) (a : Answer) (out' : List ℕ)
      (ends : (call.first == number) ≡ true → ends_flight k call.third head ≡ true → a.code ≡ 0 → ⊥) where
    queue_stays : OnQueue k old call out a new out' → Stays number head chain old new
    queue_stays h = at (slice_get old.queues call.first) refl h
      where
        at : (o : Option DeviceQueue) → slice_get old.queues call.first ≡ o
            → MatchOption o (Refuses no_such old out a new out') (λ q. (q' : DeviceQueue)
            × OneQueue k call q out a q' out'
            × (new ≡ record { machine = old.machine; queues = slice_set old.queues call.first q' }))
            → Stays number head chain old new
        at None is h = same_stays old new (ap (λ (s : SessionState). s.queues) h.1)
        at (Some q) is h = λ here. ap (λ (s : SessionState). chain_at s number head) h.2
            ∙ set_stays old.queues call.first q h.0 is
            (λ e. one_keeps call head chain k q out a h.0 out' h.1 (ends e)) here

    both_stays : (steps : Steps) (input : List ℕ) → OnBothBy steps k old call input out a new out'
        → Stays number head chain old new
    both_stays steps input h = at (slice_get old.queues call.first) refl h
      where
        kept : (q q' : DeviceQueue) (o : Option Memory)
            → MatchOption o ((a ≡ no_such) × (new.machine ≡ old.machine) × (q' ≡ q) × (out' ≡ out))
            (λ m. (host : Host PageSet)
            × Works marks_pages m (steps m) k call input q old.machine.host out a q' host out'
            × (new.machine ≡ record old.machine { host = host }))
            → (call.first == number) ≡ true → Keeps q head chain q'
        kept q q' None h e = same_keeps q q' head chain h.2
        kept q q' (Some m) h e =
            works_keeps call head chain marks_pages m (steps m) k input q old.machine.host out a q' h.0 out' h.1 (ends e)

        at : (o : Option DeviceQueue) → slice_get old.queues call.first ≡ o
            → MatchOption o (Refuses no_such old out a new out') (λ q.
            (q' : DeviceQueue) × WorksOnBy steps k call input old.machine q out a new.machine q' out'
            × (new.queues ≡ slice_set old.queues call.first q')) → Stays number head chain old new
        at None is h = same_stays old new (ap (λ (s : SessionState). s.queues) h.1)
        at (Some q) is h = λ here.
            ap (λ (qs : List DeviceQueue). option_and_then (λ x. chain_of x head) (slice_get qs number)) h.2
            ∙ set_stays old.queues call.first q h.0 is
            (kept q h.0 (slice_get old.machine.memories call.second) h.1) here

    makes_stays : (is_packed : Bool) → MakesQueue is_packed old.queues call a new.queues
        → Stays number head chain old new
    makes_stays is_packed (inl h) = made h.1
      where
        made : KeepsQueue (unused is_packed call.length call.other_length) old.queues a new.queues
            → Stays number head chain old new
        made (inl g) = λ here.
            ap (λ (qs : List DeviceQueue). option_and_then (λ q. chain_of q head) (slice_get qs number)) g.1
            ∙ added_stays old.queues (unused is_packed call.length call.other_length ∷ []) here
        made (inr g) = same_stays old new g.1
    makes_stays is_packed (inr h) = same_stays old new h.2

    alone_stays : (k' : Kind) → k' ≡ k → (input : List ℕ) → AnswersQueue k' old call input out a new out'
        → Stays number head chain old new
    alone_stays kind.Queue is input h = makes_stays false h.0
    alone_stays kind.PackedQueue is input h = makes_stays true h.0
    alone_stays k' is input h =
        queue_stays (subst (λ (x : Kind). OnQueue x old call out a new out') is h)

  ends_of : (e : Exchange) (k : Kind) → slice_get kinds e.call.kind ≡ Some k → (EndsFlight number head (calls e) → ⊥)
      → (e.call.first == number) ≡ true → ends_flight k e.call.third head ≡ true → e.answer.code ≡ 0 → ⊥
  ends_of e k is not first ends done = not (
    done,
    equal e.call.first number first,
    subst (λ (o : Option Kind). EndsIf o e.call.third head) (sym is) (subst IsTrue (sym ends) refl),
  )

  other_stays : (b : Bool) (e : Exchange) (k : Kind) (old new : SessionState) → slice_get kinds e.call.kind ≡ Some k
      → (EndsFlight number head (calls e) → ⊥)
      → AnswersOther b k old e.call e.input e.before e.answer e.after new → Stays number head chain old new
  other_stays true e k old new is not h =
      alone_stays k old new e.call e.before e.answer e.after (ends_of e k is not) k refl e.input h
  other_stays false e k old new is not h = same_stays old new h.1

  any_stays : (steps : Steps) (b : Bool) (e : Exchange) (k : Kind) (old new : SessionState)
      → slice_get kinds e.call.kind ≡ Some k → (EndsFlight number head (calls e) → ⊥)
      → AnswersOf steps b k old e.call e.input e.before e.answer e.after new → Stays number head chain old new
  any_stays steps true e k old new is not h =
      both_stays k old new e.call e.before e.answer e.after (ends_of e k is not) steps e.input h
  any_stays steps false e k old new is not h = other_stays (is_queue k) e k old new is not h

  call_stays : (steps : Steps) (o : Option Kind) (e : Exchange) (old new : SessionState)
      → slice_get kinds e.call.kind ≡ o → (EndsFlight number head (calls e) → ⊥)
      → AnswersIf steps o old e.call e.input e.before e.answer e.after new → Stays number head chain old new
  call_stays steps None e old new is not h = same_stays old new (ap (λ (s : SessionState). s.queues) h.2)
  call_stays steps (Some k) e old new is not h = any_stays steps (is_work k) e k old new is not h

  answered_stays : (steps : Steps) (e : Exchange) (old new : WholeSession)
      → AnswersCallBy steps old e.call e.input e.before e.answer e.after new
      → (EndsFlight number head (calls e) → ⊥) → Stays number head chain old.parts new.parts
  answered_stays steps e old new h not = λ here.
      ap (λ (s : WholeSession). chain_at s.parts number head) h.4
      ∙ call_stays steps (slice_get kinds e.call.kind) (record e { answer = h.0 }) h.2.0 h.1.parts refl
      (λ ends. not (
        told_done h.0 e.answer (told_as h.1 e.call (length e.input) h.0 e.answer new.retry h.3) ends.0,
        ends.1,
        ends.2,
      )) h.2.2
      (same_stays old.parts h.2.0 (readies_queues old.retry (regions_in (drop 32 e.input))
      (message_at old.parts.machine e.call e.input) old.parts h.2.0 h.2.1) here)

  event_stays : (shared : List ℕ) (e : Event) (old new : WholeSession) → Happens shared old e new
      → (EndsFlight number head e → ⊥) → Stays number head chain old.parts new.parts
  event_stays shared (calls e) old new h not = answered_stays (Still marks_pages) e old new h not
  event_stays shared (races e) old new h not = answered_stays (Races shared) e old new h not
  event_stays shared (lends bytes page a) old new h not = same_stays old.parts new.parts h.1
  event_stays shared (gives_back block a) old new h not = same_stays old.parts new.parts h.1
  event_stays shared forgets old new h not =
      same_stays old.parts new.parts (ap (λ (s : WholeSession). s.parts.queues) h)
  event_stays shared (writes blocks) old new h not =
      same_stays old.parts new.parts (ap (λ (s : SessionState). s.queues) h.0.1)

pub chains-stay : (shared : List ℕ) (es : List Event) (old new : WholeSession) (number head : ℕ)
    (chain : List Segment) → HappenAll shared old es new → All (λ e. EndsFlight number head e → ⊥) es
    → chain_at old.parts number head ≡ Some chain → chain_at new.parts number head ≡ Some chain
chains-stay shared [] old new number head chain h not here =
    ap (λ (s : WholeSession). chain_at s.parts number head) h ∙ here
chains-stay shared (e ∷ es) old new number head chain h not here =
    chains-stay shared es h.0 new number head chain h.2
    (All-tail (λ (x : Event). EndsFlight number head x → ⊥) e es not)
    (event_stays number head chain shared e old h.0 h.1
    (All-head (λ (x : Event). EndsFlight number head x → ⊥) e es not) here)
