-- Moves of a run, one after another, and what they put.
use Rattle.std.proofs.Common.{◌≡◌, ◌∙◌, ◌⊎◌, ℕ, ◌+◌, ◌-◌, Bool, true, false, List, [], ◌∷◌, ◌++◌, length, length-append, map, drop, is_some, Option, Some, None, refl, ap, sym, subst, append-nil, inl, inr}
use Rattle.std.specs.List.{flat_map}
use Rattle.std.proofs.lemmas.List.Concat.{flat_map-append}
use Rattle.vhost_backend.specs.BlockConnection.{looked_after}
use Rattle.vhost_backend.specs.BlockBackend.{is_done}
use Rattle.vhost_backend.specs.ConnectionMemory.{memory_step}
use Rattle.vhost_backend.specs.Given.{Puts, is_left, no_counts, part_action, piece_row, rest_of}
use Rattle.vhost_backend.specs.Run.{Course, EventBy, Fills, GivesBy, GivesMarks, IsQuiet, LooksBy, MayStep, Move, MoveBy, Rests, StepsTo, begun, looked, output_of, with_memory, Moves, Output, PutsMoves, bytes_of, course_of, does, gives_marks, gives_part, goes_on, looks, loses, pieces_of, rows_of, takes_end, takes_turn}
use Rattle.vhost_backend.specs.RunSteps.{EndBy, EventOr, GivesPartRow, LostBy, PutsPartAt, TurnBy}
use Rattle.vhost_backend.specs.Rings.{has_next}
use Rattle.vhost_backend.specs.Rows.{mark_row}
use Rattle.vhost_backend.specs.declared.block_backend.BlockBackend.{BlockBackend}
use Rattle.vhost_backend.specs.declared.block_connection.BlockConnection.{BlockConnection}
use Rattle.vhost_backend.specs.declared.deeds.Made.TheVariants as made
use Rattle.vhost_backend.specs.declared.given.OpenPart.{OpenPart}
use Rattle.vhost_backend.specs.declared.block_backend.Returning.{Returning}
use Rattle.vhost_backend.specs.declared.page_list.PageRange.{PageRange}
use Rattle.vhost_backend.specs.declared.ring_memory.Logged.{Logged}
use Rattle.vhost_backend.specs.declared.rows.ActionRow.{ActionRow}
use Rattle.vhost_backend.specs.declared.rows.Counts.{Counts}
use Rattle.vhost_backend.specs.declared.rows.PieceRow.{PieceRow}
use Rattle.vhost_backend.specs.declared.rows.EndRow.{EndRow}
use Rattle.vhost_backend.proofs.GivenLemmas.{part_given, puts_more, puts_none}
use Rattle.vhost_backend.proofs.StepLemmas.{idle_if_done}

pub moves_more : (c d e : Course) (ms : List Move) (m : Move) → Moves c ms d → MoveBy d m e → Moves c (ms ++ m ∷ []) e
moves_more c d e [] m is by = (e, subst (λ (x : Course). MoveBy x m e) is by, refl)
moves_more c d e (x ∷ ms) m (mid, first, rest) by = (mid, first, moves_more mid d e ms m rest by)

pub puts_no_moves : (o : Output) → PutsMoves o [] o
puts_no_moves o = (
  puts_none o.actions o.counts.actions,
  puts_none o.pieces o.counts.pieces,
  puts_none o.bytes o.counts.bytes,
)

-- what one list after another puts, by one of the three kinds
puts_both : {A : Type 0} (f : Move → List A) (old mid new : List A) (n m k : ℕ) (xs ys : List Move)
    → Puts old n (flat_map f xs) mid m → Puts mid m (flat_map f ys) new k → Puts old n (flat_map f (xs ++ ys)) new k
puts_both f old mid new n m k xs ys first second =
    subst (λ (zs : List _). Puts old n zs new k) (sym (flat_map-append f xs ys))
    (puts_more old mid new n m k (flat_map f xs) (flat_map f ys) first second)

pub puts_moves : (o mid o' : Output) (xs ys : List Move) → PutsMoves o xs mid → PutsMoves mid ys o'
    → PutsMoves o (xs ++ ys) o'
puts_moves o mid o' xs ys first second = (
  puts_both rows_of o.actions mid.actions o'.actions o.counts.actions mid.counts.actions o'.counts.actions xs ys first.0
      second.0,
  puts_both pieces_of o.pieces mid.pieces o'.pieces o.counts.pieces mid.counts.pieces o'.counts.pieces xs ys first.1
      second.1,
  puts_both bytes_of o.bytes mid.bytes o'.bytes o.counts.bytes mid.counts.bytes o'.counts.bytes xs ys first.2 second.2,
)

pub puts_and_none : (o mid o' : Output) (xs : List Move) → PutsMoves o xs mid → PutsMoves mid [] o' → PutsMoves o xs o'
puts_and_none o mid o' xs first second =
    subst (λ (ms : List Move). PutsMoves o ms o') (append-nil xs) (puts_moves o mid o' xs [] first second)

-- an event gives nothing
pub event_puts : (c d : Course) (m : Move) (o o' : Output) → EventBy c m d → PutsMoves o [] o' → PutsMoves o (m ∷ []) o'
event_puts c d loses o o' by puts = puts
event_puts c d (takes_end e) o o' by puts = puts
event_puts c d looks o o' by puts = puts
event_puts c d takes_turn o o' by puts = puts
event_puts c d (gives_marks range) o o' by puts = absurd by
event_puts c d (gives_part p pieces to) o o' by puts = absurd by
event_puts c d (does deed bytes) o o' by puts = absurd by
event_puts c d goes_on o o' by puts = absurd by

-- ---- events

pub lost_or : (c d : BlockConnection) (ends : List EndRow) (turns : ℕ) (o : Option (ℕ × ℕ)) → c.lost ≡ o → LostBy c o true d
    → EventBy (course_of c ends turns) loses (course_of d ends turns)
lost_or c d ends turns None at (isnt, is) = absurd (cc)
lost_or c d ends turns (Some lost) at (found, is) =
    (lost, at, ap (λ (v : BlockConnection). course_of v ends turns) is)

pub none_lost : (c d : BlockConnection) (o : Option (ℕ × ℕ)) → c.lost ≡ o → LostBy c o false d → (d.lost ≡ None) × (d ≡ c)
none_lost c d None at (isnt, is) = (ap (λ (v : BlockConnection). v.lost) is ∙ at, is)
none_lost c d (Some lost) at (found, is) = absurd (cc)

pub end_or : (c d : BlockConnection) (ends ends' : List EndRow) (turns : ℕ) → c.lost ≡ None → EndBy c ends true d ends'
    → EventOr (course_of c ends turns) true (course_of d ends' turns)
end_or c d ends ends' turns none (e, at, is) =
    (takes_end e, (none, at, ap (λ (v : BlockConnection). course_of v ends' turns) is))

pub turn_or : (c mid d : BlockConnection) (turns turns' : ℕ) (is : Bool) → c.lost ≡ None → LooksBy c false mid
    → TurnBy mid turns is d turns' → EventOr (course_of c [] turns) is (course_of d [] turns')
turn_or c mid d turns turns' true none by (next, less, is) =
    (takes_turn, (mid, none, refl, by, next, less, ap (λ (v : BlockConnection). course_of v [] turns') is))
turn_or c mid d turns turns' false none by (isnt, same, is) = (
  none,
  refl,
  subst (LooksBy c false) (sym is) by,
  subst (λ (v : BlockConnection). (turns ≡ 0) ⊎ (has_next v.backend.backend.rings ≡ false)) (sym is) isnt,
  ap (course_of d []) same,
)

-- ---- steps

pub idle_same : (c c' : BlockConnection) → StepsTo c made.Idle c' → (is_done c.backend ≡ true) × (c' ≡ c)
idle_same c c' (steps, is) =
    let (done, same, still) =
    idle_if_done (memory_step c.memory) c.backend c.memory.logged c'.backend c'.memory.logged steps in (
      done,
      is ∙ ap (λ (w : BlockBackend). with_memory c w c'.memory.logged) same
          ∙ ap (λ (l : Logged (Unit {0})). with_memory c c.backend l) still,
    )

-- ---- parts

pub gives_part_row : (c : BlockConnection) (p : OpenPart) (old : List PieceRow) (n to : ℕ) (new : List PieceRow) (m : ℕ)
    (rest : Option OpenPart) (count : ℕ) (row : ActionRow) → PutsPartAt c p old n to new m
    → (to ≡ p.given → ⊥) ⊎ (is_left p to ≡ false) → rest ≡ rest_of p to → count ≡ m - n → row ≡ part_action p count to
    → GivesPartRow c p old n (Some row) (record c { part = rest }) new m
gives_part_row c p old n to new m rest count row puts on left less is =
    let (ps, (lays, more, same), put, many) = part_given c p old n to new m puts on in (
      ps,
      to,
      (lays, more, ap (λ (o : Option OpenPart). record c { part = o }) left),
      put,
      is ∙ ap (λ k. part_action p k to) (less ∙ many),
    )

-- ---- what is given next

pub none_returning : (o : Option Returning) → false ≡ is_some o → o ≡ None
none_returning None is = refl
none_returning (Some t) is = absurd (cc)

pub part_move : (c c' : BlockConnection) (p : OpenPart) (o o' : Output) (row : ActionRow) → MayStep c → c.part ≡ Some p
    → GivesPartRow c p o.pieces o.counts.pieces (Some row) c' o'.pieces o'.counts.pieces
    → Puts o.actions o.counts.actions (row ∷ []) o'.actions o'.counts.actions
    → Puts o.bytes o.counts.bytes [] o'.bytes o'.counts.bytes → (m : Move) × GivesBy c m c' × PutsMoves o (m ∷ []) o'
part_move c c' p o o' row may at (ps, to, gives, pieces, is) rows bytes = (
  gives_part p ps to,
  (may, at, gives),
  (
    subst (λ (r : ActionRow). Puts o.actions o.counts.actions (r ∷ []) o'.actions o'.counts.actions) is rows,
    subst (λ (rs : List PieceRow). Puts o.pieces o.counts.pieces rs o'.pieces o'.counts.pieces)
        (sym (append-nil (map piece_row ps))) pieces,
    bytes,
  ),
)

pub marks_move : (c c' : BlockConnection) (range : PageRange) (o o' : Output) (row : ActionRow) → GivesMarks c range c'
    → row ≡ mark_row range → Puts o.actions o.counts.actions (row ∷ []) o'.actions o'.counts.actions
    → Puts o.pieces o.counts.pieces [] o'.pieces o'.counts.pieces
    → Puts o.bytes o.counts.bytes [] o'.bytes o'.counts.bytes → (m : Move) × GivesBy c m c' × PutsMoves o (m ∷ []) o'
marks_move c c' range o o' row gives is rows pieces bytes = (
  gives_marks range,
  gives,
  (
    subst (λ (r : ActionRow). Puts o.actions o.counts.actions (r ∷ []) o'.actions o'.counts.actions) is rows,
    pieces,
    bytes,
  ),
)

-- ---- moves of a run

course_is : (c mid new : BlockConnection) (ends ends' : List EndRow) (turns : ℕ) → mid ≡ c → new ≡ looked_after mid
    → ends' ≡ ends → course_of new ends' turns ≡ looked (course_of c ends turns)
course_is c mid new ends ends' turns was is same = ap (λ (v : BlockConnection). course_of v ends' turns) is
    ∙ ap (λ (v : BlockConnection). course_of (looked_after v) ends' turns) was
    ∙ ap (λ (es : List EndRow). course_of (looked_after c) es turns) same

pub gave : (c mid new : BlockConnection) (ends ends' : List EndRow) (turns : ℕ) (m : Move) → GivesBy c m mid
    → new ≡ looked_after mid → ends' ≡ ends → MoveBy (course_of c ends turns) m (course_of new ends' turns)
gave c mid new ends ends' turns m gives is same = inl (mid, gives, course_is mid mid new ends ends' turns refl is same)

pub took : (c mid new : BlockConnection) (ends ends' : List EndRow) (turns : ℕ) (d : Course) (m : Move) → IsQuiet c
    → mid ≡ c → new ≡ looked_after mid → ends' ≡ ends → EventBy (course_of new ends' turns) m d
    → MoveBy (course_of c ends turns) m d
took c mid new ends ends' turns d m quiet was is same event =
    inr (quiet, subst (λ (x : Course). EventBy x m d) (course_is c mid new ends ends' turns was is same) event)

pub rested : (c mid new : BlockConnection) (ends ends' : List EndRow) (turns : ℕ) (d : Course) → mid ≡ c
    → new ≡ looked_after mid → ends' ≡ ends → Rests (course_of new ends' turns) d → Rests (looked (course_of c ends turns)) d
rested c mid new ends ends' turns d was is same rests =
    subst (λ (x : Course). Rests x d) (course_is c mid new ends ends' turns was is same) rests

-- one call after another
pub goes_more : (c d e : Course) (o mid o' : Output) (ms : List Move) → Moves c ms d → PutsMoves o ms mid
    → (m : Move) × MoveBy d m e × PutsMoves mid (m ∷ []) o'
    → (ns : List Move) × Moves c ns e × PutsMoves o ns o' × (length ns ≡ length ms + 1)
goes_more c d e o mid o' ms moves puts (m, by, put) = (
  ms ++ m ∷ [],
  moves_more c d e ms m moves by,
  puts_moves o mid o' ms (m ∷ []) puts put,
  length-append ms (m ∷ []),
)

-- a run begins with nothing
pub from_nothing : (c : BlockConnection) (ends : List EndRow) (turns : ℕ) (n : Counts) (actions : List ActionRow)
    (pieces : List PieceRow) (bytes : List ℕ) (v : Bool) (d : Course) (o : Output) → n ≡ no_counts
    → Fills (course_of (record c { marks = false }) (drop n.ends ends) turns) (output_of n actions pieces bytes) v d o
    → Fills (begun c ends turns) (output_of no_counts [] [] []) v d o
from_nothing c ends turns n actions pieces bytes v d o is fills = subst (λ (k : Counts).
    Fills (course_of (record c { marks = false }) (drop k.ends ends) turns) (output_of k actions pieces bytes) v d o)
    is fills
