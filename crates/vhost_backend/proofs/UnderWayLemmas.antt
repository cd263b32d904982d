-- What is under way of a ring after something happened to its connection.
use Rattle.std.proofs.Common.{◌≡◌, ◌∙◌, ℕ, zero, suc, ◌+◌, ◌==◌, ◌&&◌, nat_lt, not, Bool, true, false, List, [], ◌∷◌, ◌++◌, length, Option, Some, None, Result, Ok, Err, is_ok, if◌then◌else◌, refl, ap, sym, subst, arith, inl, inr, length-append}
use Rattle.std.specs.List.{slice_get}
use Rattle.std.proofs.lemmas.Bool.{cases_eq, ne_eqb}
use Rattle.std.proofs.Math.ListN.{length-set}
use Rattle.vhost_message.specs.FrontendReq.{descriptors_of, request_of}
use Rattle.vhost_message.specs.declared.frontend_req.FrontendReq.{FrontendReq}
use Rattle.vhost_message.specs.declared.header.Header.{Header}
use Rattle.vhost_message.specs.declared.refusal.Refusal.{Refusal}
use Rattle.vhost_user.specs.Connection.{Connection, served}
use Rattle.vhost_user.specs.Running.{running}
use Rattle.vhost_backend.proofs.AgreeLemmas.{busy_length}
use Rattle.vhost_backend.proofs.AtRestLemmas.{all_count}
use Rattle.vhost_backend.proofs.FitLemmas.{event_count}
use Rattle.vhost_backend.proofs.MessageLemmas.{step_done, step_rings}
use Rattle.vhost_backend.proofs.OnceLemmas.{once}
use Rattle.vhost_backend.proofs.OwnWayLemmas.{becomes, done}
use Rattle.vhost_backend.specs.Actions.{if_so}
use Rattle.vhost_backend.specs.Backend.{BackendState, is_due, is_free, is_outer, rebased, released, until_of, waited}
use Rattle.vhost_backend.specs.Messages.{Happening, Came, Done, Told, HungUp, events_if_done, events_if_due, events_if_refused, events_of, events_of_decoded, events_of_end, events_of_request, events_of_waiting, events_until, refreshing, ring_actions, starts_if, to_do}
use Rattle.vhost_backend.specs.Messages as message
use Rattle.vhost_backend.specs.Ring.{RingState, Step, after_break, after_turn, begun, broken, count_of, ended, has_place, is_idle, is_stopping, may_run, part_ended, part_moved, pops, request_at, returning, started, with_moved, with_request}
use Rattle.vhost_backend.specs.Ring as ring
use Rattle.vhost_backend.specs.Rings.{Happens, RingsState, admits, happens, held, holding, next_turn, now_held, nothing, on_ring, turn_of, turn_taken, turn_used, with_step}
use Rattle.vhost_backend.specs.Rings as rings
use Rattle.vhost_backend.specs.Line.{without}
use Rattle.vhost_backend.specs.Story.{RingStep, On, Turn, actions, after, busy, of_id, popped, returned, stepped, taken, under_way}
use Rattle.vhost_backend.specs.Turns.{actions_of, after_all, all_done, own_actions, steps_of, story_of, takes_turn}
use Rattle.vhost_backend.specs.declared.backend.Finish.{Finish}
use Rattle.vhost_backend.specs.declared.backend.Taken.{Taken}
use Rattle.vhost_backend.specs.declared.backend.Taken.TheVariants as taken_by
use Rattle.vhost_backend.specs.declared.backend.Until.{Until}
use Rattle.vhost_backend.specs.declared.backend.Until.TheVariants as until
use Rattle.vhost_backend.specs.declared.request.Chain.{Chain}
use Rattle.vhost_backend.specs.declared.request.PartEnd.{PartEnd}
use Rattle.vhost_backend.specs.declared.request.PartEnd.TheVariants.{Moved, Failed}
use Rattle.vhost_backend.specs.declared.request.Request.{Request}
use Rattle.vhost_backend.specs.declared.ring.Phase.{Phase}
use Rattle.vhost_backend.specs.declared.ring.Phase.TheVariants.{Stopped, Started, Broken, Stopping}
use Rattle.vhost_backend.specs.declared.ring.RingEvent.{RingEvent}
use Rattle.vhost_backend.specs.declared.ring.RingEvent.TheVariants.{Start, Stop, Enable, Break, Kick, Popped, Emptied, Ended}
use Rattle.vhost_backend.specs.declared.ring.actions.RingAction.{RingAction}
use Rattle.vhost_backend.specs.declared.ring.actions.RingAction.TheVariants as action
use Rattle.vhost_backend.specs.declared.rings.Event.{Event}
use Rattle.vhost_backend.specs.declared.rings.Event.TheVariants as event

-- ---- a ring keeps its ids

module _ (r : RingState) where
  start_length : (p : Phase) → length (started r p).requests ≡ length r.requests
  start_length Stopped = refl
  start_length Started = refl
  start_length Broken = refl
  start_length Stopping = refl

  break_length : (p : Phase) → length (broken r p).0.requests ≡ length r.requests
  break_length Stopped = refl
  break_length Started = refl
  break_length Broken = refl
  break_length Stopping = refl

  stop_length : (idle : Bool) → (let t : Step = if idle
      then (record r { phase = Stopped; owes = false }, if_so r.owes action.Notify ++ action.Stopped ∷ [])
      else (record r { phase = Stopping }, []) in length t.0.requests ≡ length r.requests)
  stop_length true = refl
  stop_length false = refl

  begun_length : (chain : Chain) (parts : ℕ) (none : Bool) → (let t : Step = if none
      then (record r { owes = true }, action.Return chain 0 false ∷ [])
      else (
        with_request r chain.id (Some (record { slots = chain.slots; left = parts; moved = 0 })),
        action.Serve chain.id parts ∷ [],
      ) in length t.0.requests ≡ length r.requests)
  begun_length chain parts true = refl
  begun_length chain parts false = length-set r.requests chain.id _

  pop_length : (chain : Chain) (parts : ℕ) (stays has : Bool) → (let t : Step = if stays
      then (r, []) else (if has then begun r chain parts else after_break r) in length t.0.requests ≡ length r.requests)
  pop_length chain parts true has = refl
  pop_length chain parts false true = begun_length chain parts (parts == 0)
  pop_length chain parts false false = break_length r.phase

  returning_length : (chain : RingAction) (last : Bool) → (let t : Step = if last
      then (record r { phase = Stopped; owes = false }, chain ∷ action.Notify ∷ action.Stopped ∷ [])
      else (record r { owes = true }, chain ∷ []) in length t.0.requests ≡ length r.requests)
  returning_length chain true = refl
  returning_length chain false = refl

returned_length : (r : RingState) (id : ℕ) (q : Request) (failed : Bool)
    → length (ring.returned r id q failed).0.requests ≡ length r.requests
returned_length r id q failed =
    let new = with_request r id None in
    returning_length new (action.Return (record { id = id; slots = q.slots }) q.moved failed)
    (is_stopping new.phase && is_idle new)
    ∙ length-set r.requests id None

moved_length : (r : RingState) (id : ℕ) (q : Request) (more : Bool) → (let t : Step = if more
    then (with_request r id (Some q), action.Serve id q.left ∷ []) else ring.returned r id q false in
    length t.0.requests ≡ length r.requests)
moved_length r id q true = length-set r.requests id (Some q)
moved_length r id q false = returned_length r id q false

end_length : (r : RingState) (id : ℕ) (o : Option Request) (end : PartEnd)
    → length (ended r id o end).0.requests ≡ length r.requests
end_length r id None end = refl
end_length r id (Some q) (Moved count) = moved_length r id (with_moved q count) (nat_lt 0 (with_moved q count).left)
end_length r id (Some q) Failed = returned_length r id q true

step_length : (r : RingState) (s : RingStep) → length (stepped r s).0.requests ≡ length r.requests
step_length r (On Start) = start_length r r.phase
step_length r (On Stop) = stop_length r (is_idle r)
step_length r (On (Enable on)) = refl
step_length r (On Break) = break_length r r.phase
step_length r (On Kick) = refl
step_length r (On (Popped chain parts bytes)) = pop_length r chain parts (not (may_run r)) (has_place r chain.id)
step_length r (On Emptied) = refl
step_length r (On (Ended id end)) = end_length r id (request_at r id) end
step_length r Turn = refl

after_length : (ss : List RingStep) (r : RingState) → length (after ss r).requests ≡ length r.requests
after_length [] r = refl
after_length (s ∷ ss) r = after_length ss (stepped r s).0 ∙ step_length r s

-- ---- events that pop no chain

abbrev pub pops_none : Event → Bool
pops_none (event.Ring i (Popped chain parts bytes)) = false
pops_none _ = true

abbrev pub Quiet : List Event → Type 0
Quiet [] = Unit {0}
Quiet (e ∷ es) = (pops_none e ≡ true) × Quiet es

quiet-append : (xs ys : List Event) → Quiet xs → Quiet ys → Quiet (xs ++ ys)
quiet-append [] ys one other = other
quiet-append (x ∷ xs) ys one other = (one.0, quiet-append xs ys one.1 other)

taken_none : (j : ℕ) (e : RingEvent) (r : RingState) → pops_none (event.Ring j e) ≡ true → taken r (On e) ≡ []
taken_none j Start r is = refl
taken_none j Stop r is = refl
taken_none j (Enable on) r is = refl
taken_none j Break r is = refl
taken_none j Kick r is = refl
taken_none j (Popped chain parts bytes) r is = absurd (cc)
taken_none j Emptied r is = refl
taken_none j (Ended id end) r is = refl

module _ (i : ℕ) where
  step_quiet : (e : Event) (s : RingsState) (rest : List RingStep) (r : RingState) → pops_none e ≡ true
      → popped (steps_of i s e ++ rest) r ≡ popped rest (after (steps_of i s e) r)
  step_quiet (event.Ring j e) s rest r is = go (j == i && admits s.turn j e)
    where
      go : (b : Bool) → popped ((if b then On e ∷ [] else []) ++ rest) r
          ≡ popped rest (after (if b then On e ∷ [] else []) r)
      go true = ap (λ cs. cs ++ popped rest (stepped r (On e)).0) (taken_none j e r is)
      go false = refl
  step_quiet event.GoOn s rest r is = go (takes_turn s i)
    where
      go : (b : Bool) → popped ((if b then Turn ∷ [] else []) ++ rest) r
          ≡ popped rest (after (if b then Turn ∷ [] else []) r)
      go true = refl
      go false = refl
  step_quiet event.Hold s rest r is = refl
  step_quiet event.Release s rest r is = refl

  pub story_quiet : (es : List Event) (s : RingsState) (r : RingState) → Quiet es → popped (story_of i es s) r ≡ []
  story_quiet [] s r quiet = refl
  story_quiet (e ∷ es) s r quiet =
      step_quiet e s (story_of i es (happens s e).0) r quiet.0
      ∙ story_quiet es (happens s e).0 (after (steps_of i s e) r) quiet.1

-- a message, the end of one and the end of the connection pop none
until_quiet : (u : Until) → Quiet (events_until u)
until_quiet until.Now = tt
until_quiet (until.Ring i) = (refl, tt)
until_quiet until.AllRings = (refl, tt)

refused_quiet : (o : Result Connection Refusal) → Quiet (events_if_refused o)
refused_quiet (Ok new) = tt
refused_quiet (Err e) = (refl, tt)

due_quiet : (b : BackendState) (request : FrontendReq) (payload : List ℕ) (due : Bool)
    → Quiet (events_if_due b request payload due)
due_quiet b request payload true = refused_quiet (served b.connection request payload)
due_quiet b request payload false = tt

refreshing_quiet : (c : Connection) (n : ℕ) → Quiet (refreshing c n)
refreshing_quiet c zero = tt
refreshing_quiet c (suc n) = quiet-append (refreshing c n)
    (event.Ring n (Enable (is_ok (running c n))) ∷ starts_if (is_ok (running c n)) n) (refreshing_quiet c n)
    (refl, go (is_ok (running c n)))
  where
    go : (on : Bool) → Quiet (starts_if on n)
    go true = (refl, tt)
    go false = tt

done_quiet : (t : BackendState × Bool) → Quiet (events_if_done t)
done_quiet (b, true) = refreshing_quiet b.connection (length b.placings)
done_quiet (b, false) = (refl, tt)

module _ (b : BackendState) where
  pub waiting_quiet : (e : Event) (t : Taken) → Quiet (events_of_waiting b e t)
  waiting_quiet e taken_by.Nothing = tt
  waiting_quiet e taken_by.Over = tt
  waiting_quiet e (taken_by.Begun h request) = tt
  waiting_quiet e (taken_by.Waits h request u) = due_quiet b request [] (is_due u (happens b.rings e).1)

  request_quiet : (request : FrontendReq) (payload : List ℕ) (u : Until) → Quiet (events_of_request b request payload u)
  request_quiet request payload u =
      quiet-append (events_until u) (events_if_due b request payload (is_due u (waited b.rings u).1)) (until_quiet u)
      (due_quiet b request payload (is_due u (waited b.rings u).1))

  decoded_quiet : (payload : List ℕ) (n : ℕ) (used : Bool) (o : Result FrontendReq Refusal)
      → Quiet (events_of_decoded b payload n used o)
  decoded_quiet payload n used (Err e) = tt
  decoded_quiet payload n used (Ok request) = go (n == descriptors_of request)
    where
      go : (right : Bool) → Quiet (if right then events_of_request b request payload (until_of b used request) else [])
      go true = request_quiet request payload (until_of b used request)
      go false = tt

  pub came_quiet : (h : Header) (payload : List ℕ) (n : ℕ) (used : Bool) → Quiet (events_of b (Came h payload n used))
  came_quiet h payload n used = go (is_free b.taken)
    where
      go : (free : Bool) → Quiet (if free then events_of_decoded b payload n used (request_of h payload) else [])
      go true = decoded_quiet payload n used (request_of h payload)
      go false = tt

  pub end_quiet : (end : Finish) → Quiet (events_of b (Done end))
  end_quiet end = go b.taken
    where
      go : (t : Taken) → Quiet (events_of_end b end t)
      go taken_by.Nothing = tt
      go taken_by.Over = tt
      go (taken_by.Waits h request u) = tt
      go (taken_by.Begun h request) = (refl, done_quiet (rebased (released b) request end))

  pub told_quiet : (e : Event) → pops_none e ≡ true → Quiet (events_of b (Told e))
  told_quiet e is = go (is_outer e)
    where
      go : (outer : Bool) → Quiet (if outer then e ∷ events_of_waiting b e b.taken else [])
      go true = (is, waiting_quiet e b.taken)
      go false = tt

-- ---- rings that are not there

pub no_more : {X Y : Type 0} (xs : List X) (ys : List Y) (i : ℕ) → length ys ≡ length xs → slice_get xs i ≡ None
    → slice_get ys i ≡ None
no_more [] [] i same none = refl
no_more [] (y ∷ ys) i same none = absurd (omega arith)
no_more (x ∷ xs) [] i same none = refl
no_more (x ∷ xs) (y ∷ ys) zero same none = absurd (cc)
no_more (x ∷ xs) (y ∷ ys) (suc i) same none = no_more xs ys i (omega arith) none

none_either : (b : Bool) (acts : List RingAction) → acts ≡ [] → (if b then acts else []) ≡ []
none_either true acts none = none
none_either false acts none = refl

module _ (i : ℕ) (s : RingsState) (missing : slice_get s.rings i ≡ None) where
  other_none : (new : RingsState) (j : ℕ) (t : Step) → (j ≡ i → ⊥) → own_actions i (with_step new j t).1 ≡ []
  other_none new j t differs = rw (ne_eqb j i differs) refl

  ring_none : (j : ℕ) (e : RingEvent) → own_actions i (happens s (event.Ring j e)).1 ≡ []
  ring_none j e = elim (cases_eq j i) [
    | inl same ↦ subst (λ k. own_actions i (on_ring s k (slice_get s.rings k) e).1 ≡ []) (sym same)
        (subst (λ o. own_actions i (on_ring s i o e).1 ≡ []) (sym missing) (none_either (i == i) [] refl))
    | inr differs ↦ go differs (slice_get s.rings j)
  ]
    where
      one : (j ≡ i → ⊥) → (r : RingState) (b : Bool) → own_actions i (if b
          then with_step (record s { turn = turn_used s.turn j e }) j (stepped r (On e)) else (s, nothing j)).1 ≡ []
      one differs r true = other_none (record s { turn = turn_used s.turn j e }) j (stepped r (On e)) differs
      one differs r false = none_either (j == i) [] refl

      go : (j ≡ i → ⊥) → (o : Option RingState) → own_actions i (on_ring s j o e).1 ≡ []
      go differs None = none_either (j == i) [] refl
      go differs (Some r) = one differs r (admits s.turn j e)

  turn_none : (j : ℕ) → own_actions i (turn_taken s j (slice_get s.rings j)).1 ≡ []
  turn_none j = elim (cases_eq j i) [
    | inl same ↦ subst (λ k. own_actions i (turn_taken s k (slice_get s.rings k)).1 ≡ []) (sym same)
        (subst (λ o. own_actions i (turn_taken s i o).1 ≡ []) (sym missing) (none_either (i == i) [] refl))
    | inr differs ↦ go differs (slice_get s.rings j)
  ]
    where
      go : (j ≡ i → ⊥) → (o : Option RingState) → own_actions i (turn_taken s j o).1 ≡ []
      go differs None = none_either (j == i) [] refl
      go differs (Some r) =
          other_none (record s { turn = turn_of j (pops r); line = without s.line j }) j (after_turn r) differs

  go_on_none : (free : Bool) (o : Option ℕ)
      → own_actions i (if free then next_turn s o else (s, nothing 0)).1 ≡ []
  go_on_none false o = none_either (0 == i) [] refl
  go_on_none true None = none_either (0 == i) [] refl
  go_on_none true (Some j) = turn_none j

  hold_none : (free : Bool) → (let t : Happens = if free
      then (held (holding s), record { ring = 0; actions = []; held = now_held (holding s) })
      else (s, nothing 0) in own_actions i t.1 ≡ [])
  hold_none true = none_either (0 == i) [] refl
  hold_none false = none_either (0 == i) [] refl

  event_none : (e : Event) → own_actions i (happens s e).1 ≡ []
  event_none (event.Ring j e) = ring_none j e
  event_none event.GoOn = go_on_none (rings.is_free s.hold) (slice_get s.line 0)
  event_none event.Hold = hold_none (rings.is_free s.hold)
  event_none event.Release = none_either (0 == i) [] refl

events_none : (i : ℕ) (es : List Event) (s : RingsState) → slice_get s.rings i ≡ None
    → (actions_of i (all_done es s) ≡ [])
events_none i [] s missing = refl
events_none i (e ∷ es) s missing =
    ap (λ acts. acts ++ actions_of i (all_done es (happens s e).0)) (event_none i s missing e)
    ∙ events_none i es (happens s e).0 (no_more s.rings (happens s e).0.rings i (event_count s e) missing)

-- ---- what is under way

-- of each id as many chains are under way as before, but for those that are to be returned
abbrev pub Goes : Option RingState → List Chain → Option RingState → Type 0
Goes (Some r) gone (Some r') = ((id : ℕ) → busy r id ≡ length (of_id id gone) + busy r' id)
    × (length r'.requests ≡ length r.requests)
Goes None gone None = gone ≡ []
Goes (Some r) gone None = ⊥
Goes None gone (Some r') = ⊥

module _ (b : BackendState) (x : Happening) (i : ℕ) where
  abbrev pub story : List RingStep
  story = story_of i (events_of b x) b.rings

  -- the ring, and the chains that are to be returned to it
  pub goes_to : (r : RingState) → slice_get b.rings.rings i ≡ Some r
      → slice_get (message.stepped b x).rings.rings i ≡ Some (after story r)
  goes_to r there = ap (λ s. slice_get s.rings i) (step_rings b x) ∙ becomes b.rings (events_of b x) i r there

  pub counts : (r : RingState) → slice_get b.rings.rings i ≡ Some r → (id : ℕ)
      → busy r id + length (of_id id (popped story r))
      ≡ length (of_id id (returned (ring_actions i (to_do b x)))) + busy (after story r) id
  counts r there id =
      let acts = actions story r in
      let does : length (of_id id (returned (ring_actions i (to_do b x)))) ≡ length (of_id id (returned acts)) =
      ap (λ l. length (of_id id (returned l))) (step_done i b x ∙ done b.rings (events_of b x) i r there) in
      omega (
        arith,
        does,
        ap length (once r story id),
        length-append (under_way r id) (of_id id (popped story r)),
        length-append (of_id id (returned acts)) (under_way (after story r) id),
        busy_length id r,
        busy_length id (after story r),
      )

  pub same_ids : (r : RingState) → length (after story r).requests ≡ length r.requests
  same_ids r = after_length story r

  pub goes : ((r : RingState) → popped story r ≡ [])
      → Goes (slice_get b.rings.rings i) (returned (ring_actions i (to_do b x)))
      (slice_get (message.stepped b x).rings.rings i)
  goes none = go (slice_get b.rings.rings i) refl
    where
      go : (o : Option RingState) → slice_get b.rings.rings i ≡ o
          → Goes o (returned (ring_actions i (to_do b x))) (slice_get (message.stepped b x).rings.rings i)
      go (Some r) there = subst (Goes (Some r) (returned (ring_actions i (to_do b x)))) (sym (goes_to r there)) (
        λ id. let few : length (of_id id (popped story r)) ≡ 0 = ap (λ cs. length (of_id id cs)) (none r) in
            omega (arith, counts r there id, few),
        same_ids r,
      )
      go None missing =
          let gone : slice_get (message.stepped b x).rings.rings i ≡ None =
          ap (λ s. slice_get s.rings i) (step_rings b x)
          ∙ no_more b.rings.rings (after_all (events_of b x) b.rings).rings i (all_count b.rings (events_of b x)) missing in
          subst (Goes None (returned (ring_actions i (to_do b x)))) (sym gone)
          (ap returned (step_done i b x ∙ events_none i (events_of b x) b.rings missing))
