-- Each ring that waits is asked for or looked at, whatever is asked, and however the table changes.
use Rattle.std.proofs.Common.{◌≡◌, ◌∙◌, ℕ, zero, suc, ◌<◌, ◌==◌, ◌&&◌, not, Bool, true, false, List, [], ◌∷◌, length, Option, Some, None, is_some, option_map, Result, Ok, Err, IsSomeAnd, MatchBool, MatchOption, MatchResult, if◌then◌else◌, refl, ap, sym, subst, inl, inr, arith}
use Rattle.std.specs.List.{list_any, slice_get, slice_set}
use Rattle.std.specs.declared.alloc.AllocError.{AllocError}
use Rattle.std.proofs.Math.ListN.{length-set}
use Rattle.std.proofs.lemmas.Bool.{cases_eq}
use Rattle.std.proofs.lemmas.Option.{slice_get_cases}
use Rattle.vm_memory_base.specs.Table.{Says, Table, says}
use Rattle.vm_memory_base.specs.declared.iotlb.Permissions.{Permissions}
use Rattle.vhost_iotlb.specs.Kept.{differs}
use Rattle.vhost_iotlb.specs.declared.kept.Change.{Change}
use Rattle.vhost_message.specs.declared.backend_req.BackendReply.{BackendReply}
use Rattle.vhost_message.specs.declared.refusal.Refusal.{Refusal}
use Rattle.vhost_message.specs.declared.refusal.Refusal.TheVariants.{Direction}
use Rattle.vhost_backend.proofs.MissLemmas.{kicks_length, waiting_kicked}
use Rattle.vhost_backend.proofs.OwnWayLemmas.{get-set_other, get-set_same}
use Rattle.vhost_backend.proofs.ServeLemmas.{kick_length, kick_stays, kicked_here}
use Rattle.vhost_backend.proofs.TendAskLemmas.{answered_still, stale_still}
use Rattle.vhost_backend.proofs.TendLemmas.{Keep, reached_more, same_count, still_looked}
use Rattle.vhost_backend.specs.Backend.{BackendState, is_over}
use Rattle.vhost_backend.specs.Behind.{with_reach}
use Rattle.vhost_backend.specs.BlockBackend.{channel_lost, hung_up, replied_to, reply_by, reply_for}
use Rattle.vhost_backend.specs.BlockQueue.{BlockQueueState}
use Rattle.vhost_backend.specs.BlockTable.{AfterChange, ChangesBy, ChangesTable, Resumed, memory_lost, settled_by, settled_to}
use Rattle.vhost_backend.specs.Fetch.{FetchState, GoesOn, Resumes, TakesWhatCame, after_drop, is_dropped, stopped, waits}
use Rattle.vhost_backend.specs.GoesOn.{AreTended, IsReached, IsTended, Tends, happens, is_looked_at}
use Rattle.vhost_backend.specs.KeptRanges.{ForgetsAll}
use Rattle.vhost_backend.specs.Messages.{Happening, HungUp, events_of, stepped}
use Rattle.vhost_backend.specs.Questions.{QuestionsState, after_reply, has_miss, lost, stale}
use Rattle.vhost_backend.specs.Reach.{Changes, ChangesOthers, ForgetsBoth, ReachState, ResumesFetch, changed_by, cleared, dropped, most_at, refused, rows_forgotten, waited_for, waited_in}
use Rattle.vhost_backend.specs.Reach as reach
use Rattle.vhost_backend.specs.RingMemory.{MemoryStep, Returned}
use Rattle.vhost_backend.specs.TableUse.{ChangesAll, ChangesAt, ChangesTo, ResumesAt, ResumesTo, awaited, in_use, kicked_if, kicked_to, lost_at, lost_to, refused_at}
use Rattle.vhost_backend.specs.declared.block_backend.BlockBackend.{BlockBackend}
use Rattle.vhost_backend.specs.declared.deeds.Ask.TheVariants as ask
use Rattle.vhost_backend.specs.declared.deeds.Why.{Why}
use Rattle.vhost_backend.specs.declared.deeds.Why.TheVariants as why
use Rattle.vhost_backend.specs.declared.fetch.State.{State}
use Rattle.vhost_backend.specs.declared.fetch.State.TheVariants as state
use Rattle.vhost_backend.specs.declared.questions.SentMiss.{SentMiss}

-- ---- what is kept

abbrev pub Waits : List BlockQueueState → ℕ → Type 0
Waits qs i = is_some (awaited (slice_get qs i)) ≡ true

-- no more rings wait, and those that do are tended as before
pub tends_by : (qs qs' : List BlockQueueState) (ks ks' : List Bool) (q q' : QuestionsState) (b b' : BackendState)
    → AreTended qs ks q b → IsReached b' → length b'.rings.rings ≡ length b.rings.rings → length ks' ≡ length ks
    → q'.rings ≡ q.rings → length qs' ≡ length qs → ((i : ℕ) → Waits qs' i → Waits qs i)
    → ((i : ℕ) → Waits qs' i → IsTended q ks (slice_get b.rings.rings i) i
    → IsTended q' ks' (slice_get b'.rings.rings i) i) → AreTended qs' ks' q' b'
tends_by qs qs' ks ks' q q' b b' tend reached rings kicks asks same fewer still = record {
  reached = reached;
  rings = rings ∙ tend.rings ∙ sym same;
  kicks = kicks ∙ tend.kicks ∙ sym same;
  asks = asks ∙ tend.asks ∙ sym same;
  each = λ i waits. still i waits (tend.each i (fewer i waits));
}

-- something happens to the connection that finds no ring empty
pub happened : (qs : List BlockQueueState) (ks : List Bool) (q : QuestionsState) (b : BackendState) (x : Happening)
    → ((i : ℕ) → Keep i (events_of b x)) → AreTended qs ks q b → AreTended qs ks q (stepped b x)
happened qs ks q b x keep tend = tends_by qs qs ks ks q q b (stepped b x) tend (reached_more b (happens x) tend.reached)
    (same_count b (happens x)) refl refl refl (λ i waits. waits) (λ i waits is. go i is)
  where
    go : (i : ℕ) → IsTended q ks (slice_get b.rings.rings i) i → IsTended q ks (slice_get (stepped b x).rings.rings i) i
    go i (inl has) = inl has
    go i (inr (inl kicked)) = inr (inl kicked)
    go i (inr (inr looked)) = inr (inr (still_looked i b x (keep i) looked))

-- a ring is kicked
pub kicked_more : (qs : List BlockQueueState) (ks : List Bool) (q : QuestionsState) (b : BackendState) (v : Bool) (n : ℕ)
    → AreTended qs ks q b → AreTended qs (kicked_if v ks n) q b
kicked_more qs ks q b v n tend = tends_by qs qs ks (kicked_if v ks n) q q b b tend tend.reached refl
    (kick_length v ks n) refl refl (λ i waits. waits) (λ i waits is. go i is)
  where
    go : (i : ℕ) → IsTended q ks (slice_get b.rings.rings i) i
        → IsTended q (kicked_if v ks n) (slice_get b.rings.rings i) i
    go i (inl has) = inl has
    go i (inr (inl kicked)) = inr (inl (kick_stays i n v ks kicked))
    go i (inr (inr looked)) = inr (inr looked)

-- other things are asked
pub asked_else : (qs : List BlockQueueState) (ks : List Bool) (q q' : QuestionsState) (b : BackendState)
    → q'.rings ≡ q.rings → ((i : ℕ) → Waits qs i → has_miss q.sent q.due i ≡ true → has_miss q'.sent q'.due i ≡ true)
    → AreTended qs ks q b → AreTended qs ks q' b
asked_else qs ks q q' b same still tend = tends_by qs qs ks ks q q' b b tend tend.reached refl refl same refl
    (λ i waits. waits) go
  where
    go : (i : ℕ) → Waits qs i → IsTended q ks (slice_get b.rings.rings i) i
        → IsTended q' ks (slice_get b.rings.rings i) i
    go i waits (inl has) = inl (still i waits has)
    go i waits (inr kicked) = inr kicked

-- a queue changes, and its ring waits only if it did
set_waits : (qs : List BlockQueueState) (n : ℕ) (p p' : BlockQueueState) → slice_get qs n ≡ Some p
    → (is_some (waited_for p'.reach.fetch) ≡ true → is_some (waited_for p.reach.fetch) ≡ true) → (i : ℕ)
    → Waits (slice_set qs n p') i → Waits qs i
set_waits qs n p p' found only i waits = elim (cases_eq i n) [
  | inl same ↦
      let there : slice_get (slice_set qs n p') i ≡ Some p' =
      ap (slice_get (slice_set qs n p')) same ∙ get-set_same qs n p' p found in
      let was : slice_get qs i ≡ Some p = ap (slice_get qs) same ∙ found in
      ap (λ (o : Option BlockQueueState). is_some (awaited o)) was
      ∙ only (sym (ap (λ (o : Option BlockQueueState). is_some (awaited o)) there) ∙ waits)
  | inr differs ↦ sym (ap (λ (o : Option BlockQueueState). is_some (awaited o)) (get-set_other qs n i p' differs)) ∙ waits
]

pub queue_set : (qs : List BlockQueueState) (ks : List Bool) (q : QuestionsState) (b : BackendState) (n : ℕ)
    (p p' : BlockQueueState) → slice_get qs n ≡ Some p
    → (is_some (waited_for p'.reach.fetch) ≡ true → is_some (waited_for p.reach.fetch) ≡ true) → AreTended qs ks q b
    → AreTended (slice_set qs n p') ks q b
queue_set qs ks q b n p p' found only tend = tends_by qs (slice_set qs n p') ks ks q q b b tend tend.reached refl refl refl
    (length-set qs n p') (set_waits qs n p p' found only) (λ i waits is. is)

-- each ring that waits is kicked
pub all_kicked : (qs : List BlockQueueState) (ks : List Bool) (q q' : QuestionsState) (b : BackendState)
    → q'.rings ≡ q.rings → AreTended qs ks q b → AreTended qs (kicked_to (length qs) qs ks) q' b
all_kicked qs ks q q' b same tend = tends_by qs qs ks (kicked_to (length qs) qs ks) q q' b b tend tend.reached refl
    (kicks_length qs ks 0 (length qs)) same refl (λ i waits. waits) (λ i waits is. inr (inl (go i waits)))
  where
    go : (i : ℕ) → Waits qs i → slice_get (kicked_to (length qs) qs ks) i ≡ Some true
    go i waits = elim (slice_get_cases qs i).1 [
      | inl (p, inside, found, other) ↦
          waiting_kicked qs ks i (length qs) inside (omega (arith, inside, tend.kicks)) waits
      | inr (past, none) ↦
          let bad : false ≡ true = sym (ap (λ (o : Option BlockQueueState). is_some (awaited o)) none) ∙ waits in
          absurd (cc)
    ]

-- ---- what is asked on the channel

-- a ring that waits for nothing, or has its turn as soon as it runs, needs no reply
pub unasked : (qs : List BlockQueueState) (ks : List Bool) (q : QuestionsState) (b : BackendState) (n : ℕ)
    → (Waits qs n → IsSomeAnd (slice_get b.rings.rings n) (λ r. is_looked_at r ≡ true)) → AreTended qs ks q b
    → AreTended qs ks (stale q n) b
unasked qs ks q b n looked tend = tends_by qs qs ks ks q (stale q n) b b tend tend.reached refl refl refl refl
    (λ i waits. waits) go
  where
    other : (i : ℕ) → (i ≡ n → ⊥) → IsTended q ks (slice_get b.rings.rings i) i
        → IsTended (stale q n) ks (slice_get b.rings.rings i) i
    other i differs (inl has) = inl (stale_still q n i differs has)
    other i differs (inr kicked) = inr kicked

    go : (i : ℕ) → Waits qs i → IsTended q ks (slice_get b.rings.rings i) i
        → IsTended (stale q n) ks (slice_get b.rings.rings i) i
    go i waits is = elim (cases_eq i n) [
      | inl same ↦ inr (inr (subst (λ (k : ℕ). IsSomeAnd (slice_get b.rings.rings k) (λ r. is_looked_at r ≡ true))
          (sym same) (looked (subst (λ (k : ℕ). Waits qs k) same waits))))
      | inr differs ↦ other i differs is
    ]

not_waiting : {P : Type 0} (o : Option BlockQueueState) → awaited o ≡ None → is_some (awaited o) ≡ true → P
not_waiting o none waits =
    let bad : false ≡ true = sym (ap (λ (t : Option (ℕ × Permissions)). is_some t) none) ∙ waits in absurd (cc)

pub stale_tends : (w : BlockBackend) (n : ℕ) → awaited (slice_get w.queues n) ≡ None → Tends w
    → Tends (record w { questions = stale w.questions n })
stale_tends w n none tend = unasked w.queues w.kicks w.questions w.backend n
    (λ waits. not_waiting (slice_get w.queues n) none waits) tend

settle_tends : (w : BlockBackend) (ring : ℕ) (o : Option (ℕ × Permissions)) → awaited (slice_get w.queues ring) ≡ o
    → Tends w → Tends (settled_by w ring o)
settle_tends w ring None none tend = stale_tends w ring none tend
settle_tends w ring (Some t) some tend = tend

settled_tends : (n : ℕ) (w : BlockBackend) → Tends w → Tends (settled_to n w)
settled_tends zero w tend = tend
settled_tends (suc n) w tend = settle_tends (settled_to n w) n (awaited (slice_get (settled_to n w).queues n)) refl
    (settled_tends n w tend)

-- ---- queues and kicks that are as they were, or others

moved : (w : BlockBackend) (qs qs' : List BlockQueueState) (ks ks' : List Bool) → qs' ≡ qs → ks' ≡ ks
    → AreTended qs ks w.questions w.backend → AreTended qs' ks' w.questions w.backend
moved w qs qs' ks ks' same still tend =
    subst (λ (l : List BlockQueueState). AreTended l ks' w.questions w.backend) (sym same)
    (subst (λ (l : List Bool). AreTended qs l w.questions w.backend) (sym still) tend)

set_kicked : (w : BlockBackend) (qs : List BlockQueueState) (ks : List Bool) (n : ℕ) (p : BlockQueueState) (r : ReachState)
    (v : Bool) → slice_get qs n ≡ Some p
    → (is_some (waited_for r.fetch) ≡ true → is_some (waited_for p.reach.fetch) ≡ true)
    → AreTended qs ks w.questions w.backend
    → AreTended (slice_set qs n (with_reach p r)) (kicked_if v ks n) w.questions w.backend
set_kicked w qs ks n p r v found only tend =
    kicked_more (slice_set qs n (with_reach p r)) ks w.questions w.backend v n
    (queue_set qs ks w.questions w.backend n p (with_reach p r) found only tend)

-- ---- the memory is lost

lost_one : (w : BlockBackend) (qs : List BlockQueueState) (ks : List Bool) (n : ℕ) (o : Option BlockQueueState)
    → slice_get qs n ≡ o → AreTended qs ks w.questions w.backend → AreTended (lost_at qs n o) ks w.questions w.backend
lost_one w qs ks n None found tend = tend
lost_one w qs ks n (Some p) found tend =
    queue_set qs ks w.questions w.backend n p (with_reach p (cleared p.reach)) found (λ bad. absurd (cc)) tend

lost_all : (w : BlockBackend) (ks : List Bool) (n : ℕ) → AreTended w.queues ks w.questions w.backend
    → AreTended (lost_to n w.queues) ks w.questions w.backend
lost_all w ks zero tend = tend
lost_all w ks (suc n) tend =
    lost_one w (lost_to n w.queues) ks n (slice_get (lost_to n w.queues) n) refl (lost_all w ks n tend)

pub memory_tends : (w : BlockBackend) → Tends w → Tends (memory_lost w)
memory_tends w tend =
    let n = length w.queues in
    let ks = kicked_to n w.queues w.kicks in
    let left : BlockBackend = record w { queues = lost_to n w.queues; kicks = ks } in
    settled_tends (length left.queues) left
    (lost_all w ks n (all_kicked w.queues w.kicks w.questions w.questions w.backend refl tend))

-- ---- a reply on the channel

pub lost_tends : (w : BlockBackend) → Tends w → Tends (channel_lost w)
lost_tends w tend = all_kicked w.queues w.kicks w.questions (lost w.questions) w.backend refl tend

pub hung_up_tends : (w : BlockBackend) (y : Why) → Tends w → Tends (hung_up w y)
hung_up_tends w y tend = go (is_over w.backend.taken)
  where
    go : (v : Bool) → Tends (if v then record w { ask = ask.Nothing }
        else record w { ask = ask.Nothing; backend = stepped w.backend HungUp; end = Some y })
    go true = tend
    go false = happened w.queues w.kicks w.questions w.backend HungUp (λ i. (refl, tt)) tend

stopped_waits : (o : Option FetchState) → is_some (waited_for (option_map stopped o)) ≡ true
    → is_some (waited_for o) ≡ true
stopped_waits None bad = bad
stopped_waits (Some f) is = go (waits f.state) is
  where
    go : (v : Bool) → is_some (waited_for (Some (if v then record f { state = state.Stops } else f))) ≡ true
        → is_some (waited_in f.state) ≡ true
    go true bad = absurd (cc)
    go false is = is

module _ (w : BlockBackend) (questions : QuestionsState) (one : SentMiss) (value : ℕ)
    (answers : after_reply w.questions ≡ (questions, Some one)) where
  reply_kicked : Tends w → AreTended w.queues (slice_set w.kicks one.ring true) questions w.backend
  reply_kicked tend =
      let (rings, still) = answered_still w.questions questions one answers in
      tends_by w.queues w.queues w.kicks (slice_set w.kicks one.ring true) w.questions questions w.backend w.backend tend
      tend.reached refl (length-set w.kicks one.ring true) rings refl (λ i waits. waits) (λ i waits is. elim (cases_eq i one.ring) [
        | inl same ↦ inr (inl (ap (slice_get (slice_set w.kicks one.ring true)) same
            ∙ kicked_here w.kicks one.ring (subst (λ (k : ℕ). k < length w.kicks) same (inside i waits tend.kicks))))
        | inr differs ↦ other i differs (still i differs) is
      ])
    where
      inside : (i : ℕ) → Waits w.queues i → length w.kicks ≡ length w.queues → i < length w.kicks
      inside i waits room = elim (slice_get_cases w.queues i).1 [
        | inl (p, within, found, other) ↦ omega (arith, within, room)
        | inr (past, none) ↦
            let bad : false ≡ true = sym (ap (λ (o : Option BlockQueueState). is_some (awaited o)) none) ∙ waits in
            absurd (cc)
      ]

      other : (i : ℕ) → (i ≡ one.ring → ⊥)
          → (has_miss w.questions.sent w.questions.due i ≡ true → has_miss questions.sent questions.due i ≡ true)
          → IsTended w.questions w.kicks (slice_get w.backend.rings.rings i) i
          → IsTended questions (slice_set w.kicks one.ring true) (slice_get w.backend.rings.rings i) i
      other i differs still (inl has) = inl (still has)
      other i differs still (inr (inl kicked)) = inr (inl (get-set_other w.kicks one.ring i true differs ∙ kicked))
      other i differs still (inr (inr looked)) = inr (inr looked)

  reply_tends : Tends w → Tends (reply_for (record w { questions = questions }) one value)
  reply_tends tend = go (one.is_awaited && not (value == 0))
    where
      refuses : (o : Option BlockQueueState) → slice_get w.queues one.ring ≡ o
          → AreTended (refused_at w.queues one.ring o) (slice_set w.kicks one.ring true) questions w.backend
      refuses None found = reply_kicked tend
      refuses (Some p) found = queue_set w.queues (slice_set w.kicks one.ring true) questions w.backend one.ring p
          (with_reach p (refused p.reach)) found (stopped_waits p.reach.fetch) (reply_kicked tend)

      go : (v : Bool) → (let u : BlockBackend = if v then record w {
        questions = questions;
        queues = refused_at w.queues one.ring (slice_get w.queues one.ring);
      } else record w { questions = questions } in AreTended u.queues (slice_set u.kicks one.ring true) u.questions u.backend)
      go true = refuses (slice_get w.queues one.ring) refl
      go false = reply_kicked tend

pub replied_tends : (w : BlockBackend) (r : Result BackendReply Refusal) → Tends w → Tends (replied_to w r).0
replied_tends w (Err e) tend = hung_up_tends w (why.Refused e) tend
replied_tends w (Ok r) tend = go (r.request == 1)
  where
    by : (t : QuestionsState × Option SentMiss) → after_reply w.questions ≡ t → Tends (reply_by w r.value t).0
    by (q, Some one) is = reply_tends w q one r.value is tend
    by (q, None) is = hung_up_tends (record w { questions = q }) (why.Refused Direction)
        (asked_else w.queues w.kicks w.questions q w.backend (none_rings is) (λ i waits has. none_still i is has) tend)
      where
        none_rings : after_reply w.questions ≡ (q, None) → q.rings ≡ w.questions.rings
        none_rings = nothing_sent w.questions.sent
          where
            nothing_sent : (l : List SentMiss) → after_reply (record w.questions { sent = l }) ≡ (q, None)
                → q.rings ≡ w.questions.rings
            nothing_sent [] is = sym (ap (λ (t : QuestionsState × Option SentMiss). t.0.rings) is)
            nothing_sent (x ∷ rest) is =
                let bad : Some x ≡ None = ap (λ (t : QuestionsState × Option SentMiss). t.1) is in absurd (cc)

        none_still : (i : ℕ) → after_reply w.questions ≡ (q, None) → has_miss w.questions.sent w.questions.due i ≡ true
            → has_miss q.sent q.due i ≡ true
        none_still i = nothing_sent w.questions.sent
          where
            nothing_sent : (l : List SentMiss) → after_reply (record w.questions { sent = l }) ≡ (q, None)
                → has_miss l w.questions.due i ≡ true → has_miss q.sent q.due i ≡ true
            nothing_sent [] is has =
                sym (ap (λ (t : QuestionsState × Option SentMiss). has_miss t.0.sent t.0.due i) is) ∙ has
            nothing_sent (x ∷ rest) is has =
                let bad : Some x ≡ None = ap (λ (t : QuestionsState × Option SentMiss). t.1) is in absurd (cc)

    go : (v : Bool) → (let t : BlockBackend × Bool = (if v then reply_by w r.value (after_reply w.questions)
        else (hung_up w (why.Refused Direction), false)) in Tends t.0)
    go true = by (after_reply w.questions) refl
    go false = hung_up_tends w (why.Refused Direction) tend

-- ---- what waits goes on

is_waiting_is : (s : State) → is_some (waited_in s) ≡ waits s
is_waiting_is state.Begun = refl
is_waiting_is (state.Waits iova access) = refl
is_waiting_is state.Stops = refl
is_waiting_is state.Whole = refl

resumed_waits : (f : Says) (most : ℕ) (o o' : Option FetchState) (can : Bool) → Resumes f most o can o'
    → is_some (waited_for o') ≡ true → is_some (waited_for o) ≡ true
resumed_waits f most None o' can (isnt, is) waits = sym (ap (λ (o : Option FetchState). is_some (waited_for o)) is) ∙ waits
resumed_waits f most (Some old) None can none waits = absurd none
resumed_waits f most (Some old) (Some new) can on waiting = go (waits old.state) refl on
  where
    go : (v : Bool) → waits old.state ≡ v
        → MatchBool v (GoesOn f most old new × TakesWhatCame f most old new × (can ≡ not (waits new.state)))
        ((can ≡ false) × (new ≡ old)) → is_some (waited_in old.state) ≡ true
    go true is on = is_waiting_is old.state ∙ is
    go false is (isnt, same) = sym (ap (λ (g : FetchState). is_some (waited_in g.state)) same) ∙ waiting

resumed_at : (f : Says) (n : ℕ) (w : BlockBackend) (qs qs' : List BlockQueueState) (ks ks' : List Bool)
    → ResumesAt f n qs ks qs' ks' → AreTended qs ks w.questions w.backend → AreTended qs' ks' w.questions w.backend
resumed_at f n w qs qs' ks ks' is tend = go (slice_get qs n) refl is
  where
    go : (o : Option BlockQueueState) → slice_get qs n ≡ o → MatchOption o ((qs' ≡ qs) × (ks' ≡ ks))
        (λ p. (can : Bool) × (r : ReachState) × ResumesFetch f (length p.asked) p.reach can r
        × (qs' ≡ slice_set qs n (with_reach p r)) × (ks' ≡ kicked_if can ks n))
        → AreTended qs' ks' w.questions w.backend
    go None found (same, still) = moved w qs qs' ks ks' same still tend
    go (Some p) found (can, r, goes, set, kicked) =
        moved w (slice_set qs n (with_reach p r)) qs' (kicked_if can ks n) ks' set kicked
        (set_kicked w qs ks n p r can found
        (resumed_waits f (most_at p.reach (length p.asked) p.reach.fetch) p.reach.fetch r.fetch can goes.0) tend)

resumed_to : (f : Says) (n : ℕ) (w : BlockBackend) (qs qs' : List BlockQueueState) (ks ks' : List Bool)
    → ResumesTo f n qs ks qs' ks' → AreTended qs ks w.questions w.backend → AreTended qs' ks' w.questions w.backend
resumed_to f zero w qs qs' ks ks' (same, still) tend = moved w qs qs' ks ks' same still tend
resumed_to f (suc n) w qs qs' ks ks' (mid, mid_kicks, first, rest) tend =
    resumed_at f n w mid qs' mid_kicks ks' rest (resumed_to f n w qs mid ks mid_kicks first tend)

resumed_tends : (f : Says) (w w' : BlockBackend) → Resumed f w w' → Tends w → Tends w'
resumed_tends f w w' (qs, ks, resumes, is) tend = subst Tends (sym is) (settled_tends (length qs)
    (record w { queues = qs; kicks = ks }) (resumed_to f (length w.queues) w w.queues qs w.kicks ks resumes tend))

-- ---- a change of the table

module _ {H : Type 0} (step : H → (s : MemoryStep) → Returned s → H → Type 0) where
  changed_waits : (c : Change) (r : ReachState) (old : H) (done : Result Bool AllocError) (r' : ReachState) (new : H)
      → Changes step c r old done r' new → is_some (waited_for r'.fetch) ≡ true → is_some (waited_for r.fetch) ≡ true
  changed_waits c r old done r' new changes waits = pages (list_any (differs c) r.pages) changes
    where
      none : r'.fetch ≡ None → is_some (waited_for r.fetch) ≡ true
      none is = let bad : false ≡ true = sym (ap (λ (o : Option FetchState). is_some (waited_for o)) is) ∙ waits in
          absurd (cc)

      forgot : (one : Result (Unit {0}) AllocError) → r' ≡ reach.forgotten (dropped r) one → r'.fetch ≡ None
      forgot (Ok done) is = ap (λ (v : ReachState). v.fetch) is
      forgot (Err e) is = ap (λ (v : ReachState). v.fetch) is

      forgot_rows : (one : Result (Unit {0}) AllocError) → r' ≡ rows_forgotten (record r { fetch = None }) one
          → r'.fetch ≡ None
      forgot_rows (Ok done) is = ap (λ (v : ReachState). v.fetch) is
      forgot_rows (Err e) is = ap (λ (v : ReachState). v.fetch) is

      left : (v : Bool) → r'.fetch ≡ (if v then None else r.fetch) → is_some (waited_for r.fetch) ≡ true
      left true is = none is
      left false is = sym (ap (λ (o : Option FetchState). is_some (waited_for o)) is) ∙ waits

      rows : (v : Bool) → MatchBool v ((one : Result (Unit {0}) AllocError) × ForgetsAll step r.rows old one new
          × (done ≡ changed_by (is_some r.fetch) one) × (r' ≡ rows_forgotten (record r { fetch = None }) one))
          ((done ≡ Ok (is_dropped c r.fetch)) × (r' ≡ record r { fetch = after_drop c r.fetch }) × (new ≡ old))
          → is_some (waited_for r.fetch) ≡ true
      rows true (one, forgets, made, is) = none (forgot_rows one is)
      rows false (made, is, still) = left (is_dropped c r.fetch) (ap (λ (v : ReachState). v.fetch) is)

      pages : (v : Bool) → MatchBool v ((one : Result (Unit {0}) AllocError) × ForgetsBoth step r old one new
          × (done ≡ changed_by (is_some r.fetch) one) × (r' ≡ reach.forgotten (dropped r) one))
          (ChangesOthers step c r old done r' new) → is_some (waited_for r.fetch) ≡ true
      pages true (one, forgets, made, is) = none (forgot one is)
      pages false others = rows (list_any (differs c) r.rows) others

  changed_at : (c : Change) (n : ℕ) (w : BlockBackend) (qs qs' : List BlockQueueState) (ks ks' : List Bool) (old : H)
      (done : Result (Unit {0}) AllocError) (new : H) → ChangesAt step c n qs ks old done qs' ks' new
      → AreTended qs ks w.questions w.backend → AreTended qs' ks' w.questions w.backend
  changed_at c n w qs qs' ks ks' old (Ok done) new is tend = go (slice_get qs n) refl is
    where
      go : (o : Option BlockQueueState) → slice_get qs n ≡ o
          → MatchOption o ((qs' ≡ qs) × (ks' ≡ ks) × (new ≡ old))
          (λ p. (had : Bool) × (r : ReachState) × Changes step c p.reach old (Ok had) r new
          × (qs' ≡ slice_set qs n (with_reach p r)) × (ks' ≡ kicked_if had ks n))
          → AreTended qs' ks' w.questions w.backend
      go None found (same, still, quiet) = moved w qs qs' ks ks' same still tend
      go (Some p) found (had, r, changes, set, kicked) =
          moved w (slice_set qs n (with_reach p r)) qs' (kicked_if had ks n) ks' set kicked
          (set_kicked w qs ks n p r had found (changed_waits c p.reach old (Ok had) r new changes) tend)
  changed_at c n w qs qs' ks ks' old (Err e) new is tend = go (slice_get qs n) refl is
    where
      go : (o : Option BlockQueueState) → slice_get qs n ≡ o
          → IsSomeAnd o (λ p. (r : ReachState) × Changes step c p.reach old (Err e) r new
          × (qs' ≡ slice_set qs n (with_reach p r)) × (ks' ≡ ks)) → AreTended qs' ks' w.questions w.backend
      go None found none = absurd none
      go (Some p) found (r, changes, set, kicked) =
          moved w (slice_set qs n (with_reach p r)) qs' ks ks' set kicked
          (queue_set qs ks w.questions w.backend n p (with_reach p r) found
          (changed_waits c p.reach old (Err e) r new changes) tend)

  changed_to : (c : Change) (n : ℕ) (w : BlockBackend) (qs qs' : List BlockQueueState) (ks ks' : List Bool) (old new : H)
      → ChangesTo step c n qs ks old qs' ks' new → AreTended qs ks w.questions w.backend
      → AreTended qs' ks' w.questions w.backend
  changed_to c zero w qs qs' ks ks' old new (same, still, quiet) tend = moved w qs qs' ks ks' same still tend
  changed_to c (suc n) w qs qs' ks ks' old new (mid, mid_kicks, between, first, rest) tend =
      changed_at c n w mid qs' mid_kicks ks' between (Ok tt) new rest
      (changed_to c n w qs mid ks mid_kicks old between first tend)

  changed_all : (c : Change) (w : BlockBackend) (old : H) (done : Result (Unit {0}) AllocError)
      (qs : List BlockQueueState) (ks : List Bool) (new : H)
      → ChangesAll step c w.queues w.kicks old done qs ks new → Tends w → AreTended qs ks w.questions w.backend
  changed_all c w old (Ok done) qs ks new is tend = changed_to c (length w.queues) w w.queues qs w.kicks ks old new is tend
  changed_all c w old (Err e) qs ks new (n, mid, mid_kicks, between, first, rest) tend =
      changed_at c n w mid qs mid_kicks ks between (Err e) new rest
      (changed_to c n w w.queues mid w.kicks mid_kicks old between first tend)

  change_tends : (o : Option Change) (w : BlockBackend) (t : Table) (old : H) (is : Bool) (w' : BlockBackend) (t' : Table)
      (new : H) → ChangesBy step o w t old is w' t' new → Tends w → Tends w'
  change_tends None w t old is w' t' new (was, same, still, quiet) tend = subst Tends (sym same) tend
  change_tends (Some c) w t old is w' t' new changes tend = go (in_use c w.queues) changes
    where
      after : (v : BlockBackend) (is : Bool) → MatchBool is (Resumed (says t') v w') (w' ≡ v) → Tends v → Tends w'
      after v true resumes tend = resumed_tends (says t') v w' resumes tend
      after v false same tend = subst Tends (sym same) tend

      ends : (qs : List BlockQueueState) (ks : List Bool) (done : Result (Unit {0}) AllocError) → MatchResult done
          (λ it. AfterChange c (record w { queues = qs; kicks = ks }) t is w' t')
          (λ e. (is ≡ false) × (w' ≡ record w { queues = qs; kicks = ks }) × (t' ≡ t))
          → AreTended qs ks w.questions w.backend → Tends w'
      ends qs ks (Ok done) (applies, rest) tend = after (record w { queues = qs; kicks = ks }) is rest tend
      ends qs ks (Err e) (was, same, still) tend = subst Tends (sym same) tend

      go : (v : Bool) → MatchBool v ((is ≡ false) × (w' ≡ w) × (t' ≡ t) × (new ≡ old))
          ((done : Result (Unit {0}) AllocError) × (qs : List BlockQueueState) × (ks : List Bool)
          × ChangesAll step c w.queues w.kicks old done qs ks new
          × MatchResult done (λ it. AfterChange c (record w { queues = qs; kicks = ks }) t is w' t')
          (λ e. (is ≡ false) × (w' ≡ record w { queues = qs; kicks = ks }) × (t' ≡ t))) → Tends w'
      go true (was, same, still, quiet) = subst Tends (sym same) tend
      go false (done, qs, ks, all, rest) = ends qs ks done rest (changed_all c w old done qs ks new all tend)

  pub changes_tend : (w : BlockBackend) (t : Table) (old : H) (is : Bool) (w' : BlockBackend) (t' : Table) (new : H)
      → ChangesTable step w t old is w' t' new → Tends w → Tends w'
  changes_tend w t old is w' t' new changes tend = change_tends w.change w t old is w' t' new changes tend
