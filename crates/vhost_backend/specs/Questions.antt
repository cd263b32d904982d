-- What a front end is asked on the back end's own channel.
use Rattle.std.specs.Prelude.{◌≡◌, ◌≤◌, ℕ, ◌==◌, ◌||◌, ◌&&◌, not, nat_lt, Bool, true, false, if◌then◌else◌, List, [], ◌∷◌, ◌++◌, length, map, filter, position, slice_set, Option, Some, None}
use Rattle.std.specs.List.{list_any}
use Rattle.vhost_backend.specs.Line.{is_line}
use Rattle.vhost_backend.specs.declared.questions.Miss.{Miss}
use Rattle.vhost_backend.specs.declared.questions.SentMiss.{SentMiss}

pub record QuestionsState : Type 0 where
  -- how many rings there are
  pub rings : ℕ
  -- the MISSes without a reply, in the order in which they were sent, and those that are to be sent
  pub sent : List SentMiss
  pub due : List Miss

abbrev pub no_questions : ℕ → QuestionsState
no_questions rings = record { rings = rings; sent = []; due = [] }

-- the rings of MISSes that are without a reply, or are to be sent
abbrev pub asking : List SentMiss → List Miss → List ℕ
asking sent due = map (λ one. one.ring) sent ++ map (λ one. one.ring) due

-- each ring has one at most, and 64 are without a reply at most. There is room for that
pub record IsKept (rings : ℕ) (sent : List SentMiss) (due : List Miss) (sent_room due_room : ℕ) : Type 0 where
  pub once : is_line rings (asking sent due) ≡ true
  pub few : length sent ≤ 64
  pub sends : 64 ≤ sent_room
  pub has_room : rings ≤ due_room

-- whether a MISS of a ring is without a reply
abbrev pub is_asked : List SentMiss → ℕ → Bool
is_asked sent ring = list_any (λ one. one.ring == ring) sent

-- whether one is to be sent
abbrev pub is_due : List Miss → ℕ → Bool
is_due due ring = list_any (λ one. one.ring == ring) due

abbrev pub has_miss : List SentMiss → List Miss → ℕ → Bool
has_miss sent due ring = is_asked sent ring || is_due due ring

-- whether something is to be sent now
abbrev pub has_next : QuestionsState → Bool
has_next q = not (length q.due == 0) && nat_lt (length q.sent) 64

-- ---- MISSes

-- a ring that has none needs an address
abbrev pub wanted : QuestionsState → Miss → QuestionsState
wanted q m = if not (nat_lt m.ring q.rings) || has_miss q.sent q.due m.ring then q
    else record q { due = q.due ++ m ∷ [] }

-- its ring does not wait for the reply
abbrev pub staled_at : List SentMiss → ℕ → Option ℕ → List SentMiss
staled_at sent ring None = sent
staled_at sent ring (Some at) = slice_set sent at (record { ring = ring; is_awaited = false })

abbrev pub place_of : List SentMiss → ℕ → Option ℕ
place_of sent ring = position (λ one. one.ring == ring) sent

abbrev pub staled : List SentMiss → ℕ → List SentMiss
staled sent ring = staled_at sent ring (place_of sent ring)

abbrev pub forgotten : List Miss → ℕ → List Miss
forgotten due ring = filter (λ one. not (one.ring == ring)) due

-- a ring needs no address
abbrev pub stale : QuestionsState → ℕ → QuestionsState
stale q ring = record q { sent = staled q.sent ring; due = forgotten q.due ring }

-- the first one that is to be sent is sent, unless too many are without a reply
abbrev pub sent_first : QuestionsState → List Miss → QuestionsState × Option Miss
sent_first q [] = (q, None)
sent_first q (m ∷ rest) =
    (record q { sent = q.sent ++ record { ring = m.ring; is_awaited = true } ∷ []; due = rest }, Some m)

abbrev pub taken_due : QuestionsState → QuestionsState × Option Miss
taken_due q = if nat_lt (length q.sent) 64 then sent_first q q.due else (q, None)

-- a reply answers the first one that was sent
abbrev pub after_reply_by : QuestionsState → List SentMiss → QuestionsState × Option SentMiss
after_reply_by q [] = (q, None)
after_reply_by q (one ∷ rest) = (record q { sent = rest }, Some one)

abbrev pub after_reply : QuestionsState → QuestionsState × Option SentMiss
after_reply q = after_reply_by q q.sent

-- ---- the channel

-- none is without a reply, and nothing is to be sent
abbrev pub lost : QuestionsState → QuestionsState
lost q = no_questions q.rings
