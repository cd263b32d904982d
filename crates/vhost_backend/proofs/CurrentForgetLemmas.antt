-- After memory goes nothing is said of I/O addresses, and nothing is kept or fetched for a ring.
use Rattle.std.proofs.Common.{◌≡◌, ◌∙◌, ◌⊎◌, ℕ, zero, suc, ◌<◌, ◌^◌, Bool, true, false, List, [], ◌∷◌, All, Contains, length, Option, Some, None, IfSome, is_some, if◌then◌else◌, refl, ap, sym, subst, arith, inl, inr}
use Rattle.std.specs.List.{slice_get, slice_index_or, slice_set}
use Rattle.std.proofs.lemmas.Bool.{cases_eq}
use Rattle.std.proofs.lemmas.List.Elements.{All-contains_itself, All-weaker}
use Rattle.std.proofs.lemmas.Option.{slice_get_within}
use Rattle.vm_memory_base.specs.Table.{Mapping, Says, Table, says, says_nothing}
use Rattle.vhost_user.specs.Features.{access_platform, has}
use Rattle.vhost_user.specs.Log.{log_kept}
use Rattle.vhost_iotlb.specs.declared.kept.Kept.{Kept}
use Rattle.vhost_backend.proofs.CurrentChangeLemmas.{settled_queues}
use Rattle.vhost_backend.proofs.CurrentMemoryLemmas.{MissedLaw}
use Rattle.vhost_backend.proofs.CurrentRunLemmas.{emptied_tables}
use Rattle.vhost_backend.proofs.CurrentStageLemmas.{nothing_in}
use Rattle.vhost_backend.proofs.CurrentStepLemmas.{hung_up_queues}
use Rattle.vhost_backend.proofs.HoldLemmas.{all_idle_at}
use Rattle.vhost_backend.proofs.OwnWayLemmas.{get-set_other, get-set_same}
use Rattle.vhost_backend.proofs.SoundLemmas.{clear_pending}
use Rattle.vhost_backend.proofs.StandLemmas.{some_is}
use Rattle.vhost_backend.proofs.StopLemmas.{idle_at}
use Rattle.vhost_backend.specs.Behind.{with_reach}
use Rattle.vhost_backend.specs.BlockBackend.{hung_up}
use Rattle.vhost_backend.specs.BlockConnection.{as_negotiated, is_covered, looked_after, pages_in, with_backend}
use Rattle.vhost_backend.specs.BlockQueue.{BlockQueueState, asked_count}
use Rattle.vhost_backend.specs.BlockTable.{memory_lost}
use Rattle.vhost_backend.specs.ConnectionMemory.{emptied, forgotten, with_behind, with_pages}
use Rattle.vhost_backend.specs.Current.{ComesFrom, Current, FetchStands, IsForgotten, IsKeptBy, NoneUnderWay, Stands}
use Rattle.vhost_backend.specs.Fetch.{FetchState}
use Rattle.vhost_backend.specs.Reach.{ReachState, cleared}
use Rattle.vhost_backend.specs.Run.{Course, MoveBy, after_stop, does}
use Rattle.vhost_backend.specs.Ring.{RingState}
use Rattle.vhost_backend.specs.Rings.{all_idle, all_stopped}
use Rattle.vhost_backend.specs.Sound.{IsClear, Sound, SoundAt, pending}
use Rattle.vhost_backend.specs.Story.{busy, of_id}
use Rattle.vhost_backend.specs.TableUse.{kicked_to, lost_at, lost_to}
use Rattle.vhost_backend.specs.declared.block_backend.BlockBackend.{BlockBackend}
use Rattle.vhost_backend.specs.declared.block_connection.BlockConnection.{BlockConnection}
use Rattle.vhost_backend.specs.declared.block_queue.Asked.{Asked}
use Rattle.vhost_backend.specs.declared.deeds.Deed.TheVariants as deed
use Rattle.vhost_backend.specs.declared.deeds.Why.TheVariants.{Log}

-- ---- queues

-- nothing is kept or fetched
abbrev IsBare : ReachState → Type 0
IsBare r = (r.pages ≡ []) × (r.rows ≡ []) × (r.fetch ≡ None)

-- of the first rings
abbrev BareTo : ℕ → List BlockQueueState → Type 0
BareTo n qs = (ring : ℕ) (q : BlockQueueState) → ring < n → slice_get qs ring ≡ Some q → IsBare q.reach

one_bare : (n : ℕ) (qs : List BlockQueueState) → BareTo n qs → (o : Option BlockQueueState) → slice_get qs n ≡ o
    → BareTo (suc n) (lost_at qs n o)
one_bare n qs bare None found = λ ring q below there. elim (cases_eq ring n) [
  | inl same ↦ let none : None ≡ Some q = sym found ∙ ap (slice_get qs) (sym same) ∙ there in absurd (cc)
  | inr differs ↦ bare ring q (omega (arith, below, differs)) there
]
one_bare n qs bare (Some p) found = λ ring q below there. elim (cases_eq ring n) [
  | inl same ↦
      let at : slice_get (slice_set qs n (with_reach p (cleared p.reach))) n ≡ Some q =
      ap (slice_get (slice_set qs n (with_reach p (cleared p.reach)))) (sym same) ∙ there in
      let one : with_reach p (cleared p.reach) ≡ q = some_is (with_reach p (cleared p.reach)) q
      (sym (get-set_same qs n (with_reach p (cleared p.reach)) p found) ∙ at) in
      subst (λ (x : BlockQueueState). IsBare x.reach) one (refl, refl, refl)
  | inr differs ↦ bare ring q (omega (arith, below, differs))
      (sym (get-set_other qs n ring (with_reach p (cleared p.reach)) differs) ∙ there)
]

all_bare : (n : ℕ) (qs : List BlockQueueState) → BareTo n (lost_to n qs)
all_bare zero qs = λ ring q below there. let never : ⊥ = omega (arith, below) in absurd never
all_bare (suc n) qs = let mid = lost_to n qs in one_bare n mid (all_bare n qs) (slice_get mid n) refl

-- no queue is added
as_many : (n : ℕ) (qs : List BlockQueueState) (ring : ℕ) (q : BlockQueueState) → slice_get (lost_to n qs) ring ≡ Some q
    → ring < length qs
as_many zero qs ring q there = slice_get_within qs ring q there
as_many (suc n) qs ring q there = go (λ i p at. as_many n qs i p at) (slice_get mid n) refl there
  where
    mid : List BlockQueueState
    mid = lost_to n qs

    go : ((i : ℕ) (p : BlockQueueState) → slice_get mid i ≡ Some p → i < length qs) → (o : Option BlockQueueState)
        → slice_get mid n ≡ o → slice_get (lost_at mid n o) ring ≡ Some q → ring < length qs
    go few None found there = few ring q there
    go few (Some p) found there = elim (cases_eq ring n) [
      | inl same ↦ few ring p (ap (slice_get mid) same ∙ found)
      | inr differs ↦ few ring q (sym (get-set_other mid n ring (with_reach p (cleared p.reach)) differs) ∙ there)
    ]

lost_bare : (w : BlockBackend) (ring : ℕ) (q : BlockQueueState) → slice_get (memory_lost w).queues ring ≡ Some q
    → IsBare q.reach
lost_bare w ring q there =
    let n = length w.queues in
    let left : BlockBackend = record w { queues = lost_to n w.queues; kicks = kicked_to n w.queues w.kicks } in
    let at : slice_get (lost_to n w.queues) ring ≡ Some q = ap (λ (l : List BlockQueueState). slice_get l ring)
    (sym (settled_queues (length left.queues) left)) ∙ there in
    all_bare n w.queues ring q (as_many n w.queues ring q at) at

has_nothing : (r : ReachState) (k : Kept) → IsBare r
    → IsKeptBy r k ⊎ ((g : FetchState) × (r.fetch ≡ Some g) × Contains g.kept k) → ⊥
has_nothing r k bare (inl (inl page)) = nothing_in k (subst (λ (l : List Kept). Contains l k) bare.0 page)
has_nothing r k bare (inl (inr row)) = nothing_in k (subst (λ (l : List Kept). Contains l k) bare.1 row)
has_nothing r k bare (inr (g, is, among)) = let none : None ≡ Some g = sym bare.2 ∙ is in cc

-- ---- connections

unmapped : (c : BlockConnection) → IsForgotten (record c { memory = forgotten c.memory; backend = memory_lost c.backend })
unmapped c = record {
  table = λ x. refl;
  rings = λ t x at below. absurd (cc);
  ranges = λ ring q k there used. has_nothing q.reach k (lost_bare c.backend ring q there) used;
}

-- after the last ring was stopped
pub stop_forgets : MissedLaw → (c : BlockConnection) → all_stopped c.backend.backend.rings ≡ true
    → IsForgotten (after_stop c)
stop_forgets missed c all = rw all stopped
  where
    nothing : (t : Table) (x : ℕ) → ComesFrom (λ k. ⊥) t → x < 2 ^ 64 → (o : Option Mapping) → says t x ≡ o
        → says t x ≡ None
    nothing t x comes below None is = is
    nothing t x comes below (Some m) is = absurd (comes x m below is).1

    stopped : IsForgotten (record c { memory = emptied c.memory; backend = memory_lost c.backend })
    stopped = record {
      table = λ x. refl;
      rings = λ t x at below. nothing t x (emptied_tables missed says_nothing c.memory.logged.host
          (slice_get c.memory.logged.host.tables 0) refl (λ k. ⊥) t at) below (says t x) refl;
      ranges = λ ring q k there used. has_nothing q.reach k (lost_bare c.backend ring q there) used;
    }

-- what is as it was there
forgotten_as : (c c' : BlockConnection) → c'.memory.table ≡ c.memory.table
    → c'.memory.logged.host.tables ≡ c.memory.logged.host.tables → c'.backend.queues ≡ c.backend.queues
    → IsForgotten c → IsForgotten c'
forgotten_as c c' table tables queues is = record {
  table = subst (λ (t : Table). (x : ℕ) → says t x ≡ None) (sym table) is.table;
  rings = λ t x at below. is.rings t x (ap (λ (ts : List Table). slice_get ts 0) (sym tables) ∙ at) below;
  ranges = λ ring q k there used.
      is.ranges ring q k (ap (λ (l : List BlockQueueState). slice_get l ring) (sym queues) ∙ there) used;
}

looked_forgotten : (c : BlockConnection) → IsForgotten c → IsForgotten (looked_after c)
looked_forgotten c is = go c.backend.finished
  where
    seen : BlockConnection
    seen = with_backend c (record c.backend { finished = false })

    logs : BlockConnection
    logs = record seen {
      memory = with_behind (with_pages seen.memory (record seen.memory.logged.pages {
        pages = pages_in (log_kept seen.backend.backend.connection);
      })) (has seen.backend.backend.connection.features access_platform);
    }

    on : (v : Bool) → IsForgotten (if v then logs else with_backend logs (hung_up logs.backend Log))
    on true = forgotten_as c logs refl refl refl is
    on false = forgotten_as c (with_backend logs (hung_up logs.backend Log)) refl refl (hung_up_queues logs.backend Log) is

    go : (v : Bool) → IsForgotten (if v then as_negotiated seen else seen)
    go true = on (is_covered seen.backend.backend.connection)
    go false = forgotten_as c seen refl refl refl is

pub forgets_all : (c : Course) (bytes : List ℕ) (d : Course) → MoveBy c (does deed.UnmapAll bytes) d
    → IsForgotten d.connection
forgets_all c bytes d (inl (mid, (may, none, (before, steps, sent, follows)), is)) =
    subst IsForgotten (sym (ap (λ (v : Course). v.connection) is))
    (looked_forgotten mid (subst IsForgotten (sym follows) (unmapped before)))
forgets_all c bytes d (inr (quiet, none)) = absurd none

-- ---- what is said anew

all_of_none : (P : Kept → Type 0) (ks : List Kept) → ((k : Kept) → Contains ks k → ⊥) → All P ks
all_of_none P ks none =
    All-weaker (Contains ks) P (λ k among. absurd (none k among)) ks (All-contains_itself ks)

pub begins_anew : (f : Says) (c : BlockConnection) → Current f c → IsForgotten c → NoneUnderWay c.backend.queues
    → Current says_nothing c
begins_anew f c now gone rest = record {
  table = λ x below. inl (gone.table x);
  rings = λ t at x m below is. let none : None ≡ Some m = sym (gone.rings t x at below) ∙ is in absurd (cc);
  queues = λ ring q there. record {
    pages = all_of_none (Stands says_nothing) q.reach.pages (λ k among. gone.ranges ring q k there (inl (inl among)));
    rows = all_of_none (Stands says_nothing) q.reach.rows (λ k among. gone.ranges ring q k there (inl (inr among)));
    fetch = fetches ring q there q.reach.fetch refl (now.queues ring q there).fetch;
    asked = λ id a under. absurd (rest ring id q a there under);
  };
  unjoined = now.unjoined;
}
  where
    fetches : (ring : ℕ) (q : BlockQueueState) → slice_get c.backend.queues ring ≡ Some q → (o : Option FetchState)
        → q.reach.fetch ≡ o → IfSome o (FetchStands f q.reach) → IfSome o (FetchStands says_nothing q.reach)
    fetches ring q there None is stands = tt
    fetches ring q there (Some g) is (all, bare) = (
      all_of_none (Stands says_nothing) g.kept (λ k among. gone.ranges ring q k there (inr (g, is, among))),
      bare,
    )

-- ---- at rest

asked_one : (xs : List (Option Asked)) (id : ℕ) (a : Asked) → slice_get xs id ≡ Some (Some a)
    → slice_index_or xs id None ≡ Some a
asked_one [] id a there = absurd (cc)
asked_one (x ∷ xs) zero a there = some_is x (Some a) there
asked_one (x ∷ xs) (suc id) a there = asked_one xs id a there

pub at_rest : (w : BlockBackend) → Sound w → IsClear w → all_idle w.backend.rings.rings ≡ true
    → NoneUnderWay w.queues
at_rest w sound clear idle ring id q a there under =
    at (slice_get w.backend.rings.rings ring) refl
    (subst (λ o. SoundAt o (slice_get w.backend.rings.rings ring) (pending w ring)) there (sound ring))
  where
    at : (o : Option RingState) → slice_get w.backend.rings.rings ring ≡ o → SoundAt (Some q) o (pending w ring) → ⊥
    at None found none = none
    at (Some r) found (count, ids) =
        let one : asked_count q id ≡ 1 = ap (λ o. if is_some o then 1 else 0) (asked_one q.asked id a under) in
        let none : length (of_id id (pending w ring)) ≡ 0 =
        ap (λ cs. length (of_id id cs)) (clear_pending w clear ring) in
        let rests : busy r id ≡ 0 = ap (λ o. if is_some o then 1 else 0)
        (idle_at r id (all_idle_at w.backend.rings.rings ring r idle found)) in
        omega (arith, one, none, rests, count id)
