-- What a step has the program do: nothing only if nothing is left, and no reply comes but by a step without a deed.
use Rattle.std.proofs.Common.{◌≡◌, ◌∙◌, ℕ, ◌+◌, ◌==◌, nat_lt, ◌&&◌, not, Bool, true, false, List, [], ◌∷◌, length, drop, Option, Some, None, is_none, Result, Ok, Err, if◌then◌else◌, refl, ap, sym, subst}
use Rattle.std.specs.List.{slice_get}
use Rattle.virtio_queue.specs.declared.error.QueueError.{QueueError}
use Rattle.vhost_backend.proofs.ChannelLemmas.{on_channel}
use Rattle.vhost_backend.specs.Backend.{is_over, mapping_at, over}
use Rattle.vhost_backend.specs.BlockBackend.{Acts, ActsFirst, Returns, Steps, StepsFrom, asked_by, asked_first_by, asked_more_by, broke_if, called_up, counted, ended_by, hung_up, is_asked, is_done, is_quiet, notified, part_deed, replied, said_last, stepped_on, stepped_on_by, may_ask}
use Rattle.vhost_backend.specs.BlockQueues.{part_of}
use Rattle.vhost_backend.specs.PageList.{capped}
use Rattle.vhost_backend.specs.RingMemory.{MemoryStep, Returned}
use Rattle.vhost_backend.specs.Wanted.{wanted_at}
use Rattle.vhost_backend.specs.declared.backend.Outcome.{Outcome}
use Rattle.vhost_backend.specs.declared.backend.Outcome.TheVariants as outcome
use Rattle.vhost_backend.specs.declared.backend.Place.{Place}
use Rattle.vhost_backend.specs.declared.block.BlockStep.{BlockStep}
use Rattle.vhost_backend.specs.declared.block_backend.BlockBackend.{BlockBackend}
use Rattle.vhost_backend.specs.declared.block_backend.Returning.{Returning}
use Rattle.vhost_backend.specs.declared.deeds.Ask.{Ask}
use Rattle.vhost_backend.specs.declared.deeds.Ask.TheVariants as ask
use Rattle.vhost_backend.specs.declared.deeds.Deed.{Deed}
use Rattle.vhost_backend.specs.declared.deeds.Made.{Made}
use Rattle.vhost_backend.specs.declared.deeds.Made.TheVariants as made
use Rattle.vhost_backend.specs.declared.deeds.Why.{Why}
use Rattle.vhost_backend.specs.declared.deeds.Why.TheVariants as why
use Rattle.vhost_backend.specs.declared.mapping.Mapping.{Mapping}
use Rattle.vhost_backend.specs.declared.mapping.Mapping.TheVariants.{Map, UnmapAll}
use Rattle.vhost_backend.specs.declared.ring.actions.RingAction.{RingAction}
use Rattle.vhost_backend.specs.declared.ring.actions.RingAction.TheVariants as action
use Rattle.vhost_backend.specs.declared.wanted.Wanted.{Wanted}
use Rattle.vhost_backend.specs.declared.wanted.Wanted.TheVariants as wanted

-- ---- a deed changes no reply

-- what is left by a step, if that gives a deed, has the reply that was there
Keeps : List ℕ → BlockBackend × Made → Type 0
Keeps reply (w, made.Deed d) = w.reply ≡ reply
Keeps reply (w, _) = Unit {0}

hung_keeps : (w : BlockBackend) (y : Why) → (hung_up w y).reply ≡ w.reply
hung_keeps w y = go (is_over w.backend.taken)
  where
    go : (v : Bool) → (if v then record w { ask = ask.Nothing }
        else record w { ask = ask.Nothing; backend = over w.backend; end = Some y }).reply ≡ w.reply
    go true = refl
    go false = refl

counted_keeps : (w : BlockBackend) (n : ℕ) → (counted w n).reply ≡ w.reply
counted_keeps w n = go (nat_lt w.limits.unread n)
  where
    go : (v : Bool) →
        (if v then hung_up (record w { unread = n }) why.Unread else record w { unread = n }).reply ≡ w.reply
    go true = hung_keeps (record w { unread = n }) why.Unread
    go false = refl

first_keeps : (w : BlockBackend) (x : Wanted) → Keeps w.reply (asked_first_by w x)
unfolding Keeps
first_keeps w wanted.Nothing = tt
first_keeps w wanted.Memory = refl
first_keeps w (wanted.Log size offset) = refl
first_keeps w (wanted.File asked) = refl
first_keeps w (wanted.Region size offset) = refl
first_keeps w (wanted.Descriptor purpose is) = refl
first_keeps w (wanted.Base ring) = tt
first_keeps w wanted.Table = refl
first_keeps w wanted.Finish = tt

more_keeps : (w : BlockBackend) (number : ℕ) (m : Option Mapping) → Keeps w.reply (asked_more_by w number m)
unfolding Keeps
more_keeps w number None = refl
more_keeps w number (Some UnmapAll) = refl
more_keeps w number (Some (Map region descriptor)) = refl

ended_keeps : (w : BlockBackend) (o : Option Why) → Keeps w.reply (ended_by w o)
unfolding Keeps
ended_keeps w None = on_channel w (Keeps w.reply) (λ is. tt) (λ q d. refl) (λ q. tt)
ended_keeps w (Some y) = refl

called_keeps : (w : BlockBackend) (o : Option ℕ) → Keeps w.reply (called_up w o)
unfolding Keeps
called_keeps w (Some ring) = refl
called_keeps w None = ended_keeps w w.end

last_keeps : (w : BlockBackend) → Keeps w.reply (said_last w)
unfolding Keeps
last_keeps w = go (length w.reply == 0)
  where
    go : (v : Bool) → Keeps w.reply (if v then called_up w w.called else replied w)
    go true = called_keeps w w.called
    go false = counted_keeps w (capped (w.unread + length w.reply))

asked_keeps : (w : BlockBackend) (a : Ask) → Keeps w.reply (asked_by w a)
asked_keeps w ask.First = first_keeps w (wanted_at w.backend.taken)
asked_keeps w (ask.Mapped number) = more_keeps w number (mapping_at w.backend.taken number)
asked_keeps w ask.Nothing = last_keeps w
asked_keeps w ask.Answer = last_keeps w
asked_keeps w (ask.Region number) = last_keeps w

on_keeps : (w : BlockBackend) (o : Outcome) → Keeps w.reply (stepped_on_by w o)
unfolding Keeps
on_keeps w outcome.Stays = go w.broken
  where
    go : (v : Bool) → Keeps w.reply (broke_if w v)
    go true = tt
    go false = asked_keeps w w.ask
on_keeps w outcome.Begins = tt
on_keeps w (outcome.Refused e h) = tt

kept : (d : Deed) (w' : BlockBackend) (reply : List ℕ) (t : BlockBackend × Made) → (w', made.Deed d) ≡ t → Keeps reply t
    → w'.reply ≡ reply
unfolding Keeps
kept d w' reply t is keeps = subst (Keeps reply) (sym is) keeps

-- a message of which nothing becomes yet is no step
pub quiet_goes_on : (w : BlockBackend) (o : Outcome) → true ≡ is_quiet o → broke_if w w.broken ≡ stepped_on_by w o
quiet_goes_on w outcome.Stays is = refl
quiet_goes_on w outcome.Begins is = absurd (cc)
quiet_goes_on w (outcome.Refused e h) is = absurd (cc)

-- ---- a step without a deed, after which none comes

OnIdle : (BlockBackend → Type 0) → BlockBackend × Made → Type 0
OnIdle P (w, made.Idle) = P w
OnIdle P (w, _) = Unit {0}

-- what is left by then
Said : BlockBackend → BlockBackend → Type 0
Said w w' = (w' ≡ w) × ((length w.reply == 0) ≡ true) × (w.called ≡ None) × (w.end ≡ None) × (may_ask w ≡ false)

Asked : BlockBackend → Ask → BlockBackend → Type 0
Asked w a w' = Said w w' × (is_asked a ≡ true)

On : BlockBackend → Outcome → BlockBackend → Type 0
On w o w' = Asked w w.ask w' × (w.broken ≡ false) × (is_quiet o ≡ true)

last_idle : (w : BlockBackend) → OnIdle (Said w) (said_last w)
unfolding OnIdle Said
last_idle w = go (length w.reply == 0) refl
  where
    go : (v : Bool) → (length w.reply == 0) ≡ v → OnIdle (Said w) (if v then called_up w w.called else replied w)
    go false is = tt
    go true is = called w.called refl
      where
        called : (o : Option ℕ) → w.called ≡ o → OnIdle (Said w) (called_up w o)
        called (Some ring) at = tt
        called None at = end w.end refl
          where
            end : (o : Option Why) → w.end ≡ o → OnIdle (Said w) (ended_by w o)
            end (Some y) none = tt
            end None none =
                on_channel w (OnIdle (Said w)) (λ may. (refl, is, at, none, may)) (λ q d. tt) (λ q. tt)

first_idle : (w : BlockBackend) (P : BlockBackend → Type 0) (x : Wanted) → OnIdle P (asked_first_by w x)
unfolding OnIdle
first_idle w P wanted.Nothing = tt
first_idle w P wanted.Memory = tt
first_idle w P (wanted.Log size offset) = tt
first_idle w P (wanted.File asked) = tt
first_idle w P (wanted.Region size offset) = tt
first_idle w P (wanted.Descriptor purpose is) = tt
first_idle w P (wanted.Base ring) = tt
first_idle w P wanted.Table = tt
first_idle w P wanted.Finish = tt

more_idle : (w : BlockBackend) (P : BlockBackend → Type 0) (number : ℕ) (m : Option Mapping)
    → OnIdle P (asked_more_by w number m)
unfolding OnIdle
more_idle w P number None = tt
more_idle w P number (Some UnmapAll) = tt
more_idle w P number (Some (Map region descriptor)) = tt

weaken : (P Q : BlockBackend → Type 0) → ((w : BlockBackend) → P w → Q w) → (t : BlockBackend × Made) → OnIdle P t → OnIdle Q t
unfolding OnIdle
weaken P Q on (w, made.Idle) is = on w is
weaken P Q on (w, made.Again) is = tt
weaken P Q on (w, made.Deed d) is = tt

asked_idle : (w : BlockBackend) (a : Ask) → OnIdle (Asked w a) (asked_by w a)
unfolding Asked
asked_idle w ask.First = first_idle w (Asked w ask.First) (wanted_at w.backend.taken)
asked_idle w (ask.Mapped number) =
    more_idle w (Asked w (ask.Mapped number)) number (mapping_at w.backend.taken number)
asked_idle w ask.Nothing = weaken (Said w) (Asked w ask.Nothing) (λ w' is. (is, refl)) (said_last w) (last_idle w)
asked_idle w ask.Answer = weaken (Said w) (Asked w ask.Answer) (λ w' is. (is, refl)) (said_last w) (last_idle w)
asked_idle w (ask.Region number) =
    weaken (Said w) (Asked w (ask.Region number)) (λ w' is. (is, refl)) (said_last w) (last_idle w)

on_idle : (w : BlockBackend) (o : Outcome) → OnIdle (On w o) (stepped_on_by w o)
unfolding OnIdle On
on_idle w outcome.Stays = go w.broken refl
  where
    go : (v : Bool) → w.broken ≡ v → OnIdle (On w outcome.Stays) (broke_if w v)
    go true is = tt
    go false is = weaken (Asked w w.ask) (On w outcome.Stays) (λ w' so. (so, is, refl)) (asked_by w w.ask)
        (asked_idle w w.ask)
on_idle w outcome.Begins = tt
on_idle w (outcome.Refused e h) = tt

idle_at : (P : BlockBackend → Type 0) (w' : BlockBackend) (t : BlockBackend × Made) → (w', made.Idle) ≡ t → OnIdle P t → P w'
unfolding OnIdle
idle_at P w' t is known = subst (OnIdle P) (sym is) known

no_first : (acts : List RingAction) → slice_get acts 0 ≡ None → acts ≡ []
no_first [] is = refl
no_first (a ∷ acts) is = absurd (cc)

ten : (a b c d e f g h i j : Bool) → a ≡ true → b ≡ true → c ≡ true → d ≡ true → e ≡ false → f ≡ true → g ≡ true
    → h ≡ true → i ≡ true → j ≡ false → (a && b && c && d && not e && f && g && h && i && not j) ≡ true
ten a b c d e f g h i j p q r s t u v x y z = rw (p, q, r, s, t, u, v, x, y, z) refl

all_done : (w : BlockBackend) → w.todo.place ≡ None → w.todo.actions ≡ [] → is_quiet w.todo.message ≡ true
    → w.returning ≡ None → w.broken ≡ false → is_asked w.ask ≡ true → (length w.reply == 0) ≡ true
    → w.called ≡ None → w.end ≡ None → may_ask w ≡ false → is_done w ≡ true
all_done w place actions quiet returning broken asked reply called end may =
    ten (is_none w.todo.place) (length w.todo.actions == 0) (is_quiet w.todo.message) (is_none w.returning) w.broken
    (is_asked w.ask) (length w.reply == 0) (is_none w.called) (is_none w.end) (may_ask w)
    (ap is_none place) (ap (λ (acts : List RingAction). length acts == 0) actions) quiet (ap is_none returning) broken asked
    reply (ap is_none called) (ap is_none end) may

-- ---- steps

module _ {H : Type 0} (step : H → (s : MemoryStep) → Returned s → H → Type 0) where
  acts_keep : (w : BlockBackend) (ring : ℕ) (a : RingAction) (old : H) (d : Deed) (w' : BlockBackend) (new : H)
      → Acts step w ring a old (made.Deed d) w' new → w'.reply ≡ w.reply
  acts_keep w ring action.Pop old d w' new p = ap (λ v. v.reply) p.0
  acts_keep w ring (action.Serve id left) old d w' new p = ap (λ v. v.reply) p.0
  acts_keep w ring (action.Return chain moved failed) old d w' new (r, qs, ends, is, m) = absurd (cc)
  acts_keep w ring action.Notify old d w' new (r, qs, asks, is, m) = ap (λ v. v.reply) is
  acts_keep w ring action.Broke old d w' new p = ap (λ v. v.reply) p.0
  acts_keep w ring action.Stopped old d w' new p = ap (λ v. v.reply) p.0

  -- a step with a deed leaves the reply that was there
  pub deed_keeps_reply : (w : BlockBackend) (old : H) (d : Deed) (w' : BlockBackend) (new : H)
      → Steps step w old (made.Deed d) w' new → w'.reply ≡ w.reply
  deed_keeps_reply w old d w' new = place w.todo.place
    where
      taken : BlockBackend
      taken = record w { todo = record w.todo { actions = drop 1 w.todo.actions } }

      first : (o : Option RingAction) → ActsFirst step taken o old (made.Deed d) w' new → w'.reply ≡ w.reply
      first None p = kept d w' w.reply (stepped_on taken) p.0 (on_keeps taken w.todo.message)
      first (Some a) p = acts_keep taken w.todo.ring a old d w' new p

      returns : (o : Option Returning) → Returns step w o old (made.Deed d) w' new → w'.reply ≡ w.reply
      returns None p = first (slice_get w.todo.actions 0) p
      returns (Some t) p = let isnt = p.1 in absurd (cc)

      place : (o : Option Place) → StepsFrom step w o old (made.Deed d) w' new → w'.reply ≡ w.reply
      place None p = returns w.returning p
      place (Some at) p = let isnt = p.1 in absurd (cc)

  part_idle : (ring id left : ℕ) (o : Option BlockStep) → made.Idle ≡ part_deed ring id left o → ⊥
  part_idle ring id left None is = absurd (cc)
  part_idle ring id left (Some part) is = absurd (cc)

  notified_idle : (ring : ℕ) (r : Result Bool QueueError) → made.Idle ≡ notified ring r → ⊥
  notified_idle ring (Ok true) is = absurd (cc)
  notified_idle ring (Ok false) is = absurd (cc)
  notified_idle ring (Err e) is = absurd (cc)

  acts_idle : (w : BlockBackend) (ring : ℕ) (a : RingAction) (old : H) (w' : BlockBackend) (new : H)
      → Acts step w ring a old made.Idle w' new → ⊥
  acts_idle w ring action.Pop old w' new p = let isnt = p.1 in absurd (cc)
  acts_idle w ring (action.Serve id left) old w' new p =
      part_idle ring id left (part_of id left (slice_get w.queues ring)) p.1
  acts_idle w ring (action.Return chain moved failed) old w' new (r, qs, ends, is, m) = absurd (cc)
  acts_idle w ring action.Notify old w' new (r, qs, asks, is, m) = notified_idle ring r m
  acts_idle w ring action.Broke old w' new p = let isnt = p.1 in absurd (cc)
  acts_idle w ring action.Stopped old w' new p = let isnt = p.1 in absurd (cc)

  -- there is no step only if nothing is left to be done, and then nothing changes
  pub idle_if_done : (w : BlockBackend) (old : H) (w' : BlockBackend) (new : H) → Steps step w old made.Idle w' new
      → (is_done w ≡ true) × (w' ≡ w) × (new ≡ old)
  unfolding On Asked Said
  idle_if_done w old w' new = place w.todo.place refl
    where
      taken : BlockBackend
      taken = record w { todo = record w.todo { actions = drop 1 w.todo.actions } }

      same : (acts : List RingAction) → acts ≡ [] → drop 1 acts ≡ acts
      same [] none = refl
      same (a ∷ acts) none = absurd (cc)

      first : w.todo.place ≡ None → w.returning ≡ None → (o : Option RingAction) → slice_get w.todo.actions 0 ≡ o
          → ActsFirst step taken o old made.Idle w' new → (is_done w ≡ true) × (w' ≡ w) × (new ≡ old)
      first at none (Some a) is p = absurd (acts_idle taken w.todo.ring a old w' new p)
      first at none None is p =
          let empty = no_first w.todo.actions is in
          let known : On taken w.todo.message w' =
          idle_at (On taken w.todo.message) w' (stepped_on taken) p.0 (on_idle taken w.todo.message) in
          let said = known.0.0 in (
            all_done w at empty known.2 none known.1 known.0.1 said.1 said.2 said.3 said.4,
            said.0 ∙ ap (λ (acts : List RingAction). record w { todo = record w.todo { actions = acts } })
                (same w.todo.actions empty),
            p.1,
          )

      returns : w.todo.place ≡ None → (o : Option Returning) → w.returning ≡ o → Returns step w o old made.Idle w' new
          → (is_done w ≡ true) × (w' ≡ w) × (new ≡ old)
      returns at None is p = first at is (slice_get w.todo.actions 0) refl p
      returns at (Some t) is p = let isnt = p.1 in absurd (cc)

      place : (o : Option Place) → w.todo.place ≡ o → StepsFrom step w o old made.Idle w' new
          → (is_done w ≡ true) × (w' ≡ w) × (new ≡ old)
      place None is p = returns is w.returning refl p
      place (Some at) is p = let isnt = p.1 in absurd (cc)
