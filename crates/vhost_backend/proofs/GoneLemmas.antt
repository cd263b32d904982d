-- What is gone, of one of many rings.
use Rattle.std.proofs.Common.{◌≡◌, ◌∙◌, ℕ, ◌<◌, ◌&&◌, ◌==◌, Bool, true, false, List, [], ◌∷◌, Some, if◌then◌else◌, refl, ap, arith}
use Rattle.std.specs.List.{list_all, list_any, slice_get}
use Rattle.std.proofs.lemmas.Bool.{or_from, or_parts}
use Rattle.std.proofs.lemmas.List.{append-nil}
use Rattle.std.proofs.lemmas.List.Folds.{list_any-append}
use Rattle.vhost_backend.proofs.OwnWayLemmas.{done, one_event}
use Rattle.vhost_backend.proofs.StopLemmas.{gone}
use Rattle.vhost_backend.specs.Actions.{is_answer}
use Rattle.vhost_backend.specs.Ring.{RingState}
use Rattle.vhost_backend.specs.Rings.{RingsState, admits, happens}
use Rattle.vhost_backend.specs.Story.{RingStep, On, actions, after, answers, has_start, stepped}
use Rattle.vhost_backend.specs.Story as story
use Rattle.vhost_backend.specs.Turns.{actions_of, all_done, own_actions, starts, steps_of, story_of, takes_turn}
use Rattle.vhost_backend.specs.declared.ring.RingEvent.TheVariants.{Start, Stop, Enable, Break, Kick, Popped, Emptied, Ended}
use Rattle.vhost_backend.specs.declared.rings.Event.{Event}
use Rattle.vhost_backend.specs.declared.rings.Event.TheVariants as event

-- ---- no start

abbrev listed : Bool → RingStep → List RingStep
listed b x = if b then x ∷ [] else []

no_start_listed : (b : Bool) (x : RingStep) → has_start (x ∷ []) ≡ false → has_start (listed b x) ≡ false
no_start_listed true x none = none
no_start_listed false x none = refl

no_start_by : (i : ℕ) (s : RingsState) (e : Event) → starts i e ≡ false → has_start (steps_of i s e) ≡ false
no_start_by i s (event.Ring j Start) none = rw none refl
no_start_by i s (event.Ring j Stop) none = no_start_listed (j == i && admits s.turn j Stop) (On Stop) refl
no_start_by i s (event.Ring j (Enable on)) none =
    no_start_listed (j == i && admits s.turn j (Enable on)) (On (Enable on)) refl
no_start_by i s (event.Ring j Break) none = no_start_listed (j == i && admits s.turn j Break) (On Break) refl
no_start_by i s (event.Ring j Kick) none = no_start_listed (j == i && admits s.turn j Kick) (On Kick) refl
no_start_by i s (event.Ring j (Popped chain parts bytes)) none =
    no_start_listed (j == i && admits s.turn j (Popped chain parts bytes)) (On (Popped chain parts bytes)) refl
no_start_by i s (event.Ring j Emptied) none =
    no_start_listed (j == i && admits s.turn j Emptied) (On Emptied) refl
no_start_by i s (event.Ring j (Ended id end)) none =
    no_start_listed (j == i && admits s.turn j (Ended id end)) (On (Ended id end)) refl
no_start_by i s event.GoOn none = no_start_listed (takes_turn s i) story.Turn refl
no_start_by i s event.Hold none = refl
no_start_by i s event.Release none = refl

no_start : (i : ℕ) (s : RingsState) (events : List Event) → list_any (starts i) events ≡ false
    → has_start (story_of i events s) ≡ false
no_start i s [] none = refl
no_start i s (e ∷ es) none =
    let (here, later) = or_parts (starts i e) (list_any (starts i) es) none in
    list_any-append _ (steps_of i s e) (story_of i es (happens s e).0)
    ∙ or_from _ _ (no_start_by i s e here) (no_start i (happens s e).0 es later)

-- ---- the step that answers

-- after steps of which each ring has one at most, an answer is that of the one
abbrev pub Gone : RingState → List RingStep → Type 0
Gone r steps = (later : List RingStep) → 0 < answers (actions steps r) → has_start later ≡ false
    → list_all is_answer (actions later (after steps r)) ≡ true

gone_listed : (r : RingState) (b : Bool) (x : RingStep) → Gone r (listed b x)
gone_listed r true x later some none =
    let same : answers (actions (x ∷ []) r) ≡ answers (stepped r x).1 = ap answers (append-nil (stepped r x).1) in
    gone r x later (omega arith) none
gone_listed r false x later some none = absurd (omega arith)

gone_by : (i : ℕ) (s : RingsState) (r : RingState) (e : Event) → Gone r (steps_of i s e)
gone_by i s r (event.Ring j e) = gone_listed r (j == i && admits s.turn j e) (On e)
gone_by i s r event.GoOn = gone_listed r (takes_turn s i) story.Turn
gone_by i s r event.Hold = λ later some none. absurd (omega arith)
gone_by i s r event.Release = λ later some none. absurd (omega arith)

pub gone_of_rings : (s : RingsState) (e : Event) (events : List Event) (i : ℕ) (r : RingState)
    → slice_get s.rings i ≡ Some r → 0 < answers (own_actions i (happens s e).1)
    → list_any (starts i) events ≡ false
    → list_all is_answer (actions_of i (all_done events (happens s e).0)) ≡ true
gone_of_rings s e events i r there some none =
    let (becomes, does) = one_event i r s there e in
    let new = (happens s e).0 in
    let more : 0 < answers (actions (steps_of i s e) r) = rw (← does) some in
    rw (done new events i (after (steps_of i s e) r) becomes)
    (gone_by i s r e (story_of i events new) more (no_start i new events none))
