-- The walk over pieces, one call after the other.
use Rattle.std.proofs.Common.{◌≡◌, ℕ, List, [], ◌∷◌, ◌++◌, map, Option, Some, None, option_map, Result, Ok, Err, refl, sym, ap, ◌∙◌}
use Rattle.std.proofs.lemmas.Option.{same_Some}
use Rattle.vm_memory_base.specs.Address.{step}
use Rattle.vm_memory_base.specs.declared.bitmap.BitmapId.TheVariants.{Space}
use Rattle.vm_memory_guest.specs.Access.{AccessFault, path, first_fault, stretches}
use Rattle.vm_memory_guest.specs.Answer.{Reach}
use Rattle.vm_memory_guest.specs.Error.{error_of}
use Rattle.vm_memory_guest.specs.Pieces.{unless_stopped, walk_of_pieces, marking, PiecesLeft, left_of}
use Rattle.vm_memory_guest.specs.Region.{Region}
use Rattle.vm_memory_guest.specs.Walk.{items_of, walk_of}
use Rattle.vm_memory_guest.specs.Window.{Window}
use Rattle.vm_memory_guest.specs.declared.region.error.GuestMemoryError.{GuestMemoryError}
use Rattle.vm_memory_guest.proofs.AccessLemmas.{gave, ends_in, ends_whole}

-- a walk over no byte
no-walk : (regions : List Region) (a : ℕ) → walk_of regions a 0 ≡ record { windows = []; fault = None }
unfolding path first_fault stretches
no-walk regions a = refl

abbrev marked_items : ℕ → ℕ → List Window → Option AccessFault → Reach AccessFault
    → List (Result Window GuestMemoryError)
marked_items space x ws fault rest = items_of (marking space x (unless_stopped ws fault rest))

-- faults that are told alike give the same items
told-alike : (space x : ℕ) (ws : List Window) (rest : Reach AccessFault) (o p : Option AccessFault)
    → option_map error_of o ≡ option_map error_of p → marked_items space x ws o rest ≡ marked_items space x ws p rest
told-alike space x ws rest None None h = refl
told-alike space x ws rest None (Some g) h = absurd (cc)
told-alike space x ws rest (Some f) None h = absurd (cc)
told-alike space x ws rest (Some f) (Some g) h =
    let windows = (marking space x (unless_stopped ws (Some f) rest)).windows in
    ap (λ (e : GuestMemoryError). map (λ (w : Window). Ok w) windows ++ Err e ∷ []) (same_Some _ _ h)

first-marked : (space x : ℕ) (w : Window) (ws : List Window) (rest : Reach AccessFault) (o : Option AccessFault)
    → marked_items space x (w ∷ ws) o rest ≡ Ok (record w { bitmap = record { id = Space space; base = x } })
    ∷ marked_items space (step x w.size) ws o rest
first-marked space x w ws rest None = refl
first-marked space x w ws rest (Some f) = refl

-- a window of the piece that is walked through
pub left-gives : (walk next : Reach AccessFault) (w : Window) (p : PiecesLeft) → items_of walk ≡ Ok w ∷ items_of next
    → items_of (left_of walk (Some p)) ≡ Ok (record w { bitmap = record { id = Space p.space; base = p.iova } })
    ∷ items_of (left_of next (Some (record p { iova = step p.iova w.size })))
left-gives walk next w p gives =
    let rest = walk_of_pieces p.regions p.pieces in
    let parts = gave walk next (Ok w) w gives refl in
    ap (λ (ws : List Window). marked_items p.space p.iova ws walk.fault rest) parts.windows
    ∙ (first-marked p.space p.iova w next.windows rest walk.fault
    ∙ ap (λ (items : List (Result Window GuestMemoryError)). Ok
    (record w { bitmap = record { id = Space p.space; base = p.iova } }) ∷ items)
    (told-alike p.space (step p.iova w.size) next.windows rest walk.fault next.fault parts.fault))

-- the piece that is walked through has nothing left
ended-fault : (space x : ℕ) (rest : Reach AccessFault) (o : Option AccessFault) → option_map error_of o ≡ None
    → marking space x (unless_stopped [] o rest) ≡ marking space x rest
ended-fault space x rest None h = refl
ended-fault space x rest (Some f) h = absurd (cc)

pub left-ends : (walk : Reach AccessFault) (p : PiecesLeft) → items_of walk ≡ []
    → left_of walk (Some p) ≡ marking p.space p.iova (walk_of_pieces p.regions p.pieces)
left-ends walk p none =
    let end = ends_whole walk none in
    ap (λ (ws : List Window). marking p.space p.iova
    (unless_stopped ws walk.fault (walk_of_pieces p.regions p.pieces))) end.windows
    ∙ ended-fault p.space p.iova (walk_of_pieces p.regions p.pieces) walk.fault end.fault

-- and no piece is left after it
pub left-none : (walk : Reach AccessFault) (p : PiecesLeft) → items_of walk ≡ []
    → walk_of_pieces p.regions p.pieces ≡ record { windows = []; fault = None } → items_of (left_of walk (Some p)) ≡ []
left-none walk p none last = ap items_of (left-ends walk p none ∙ ap (marking p.space p.iova) last)

-- an error of the piece that is walked through
stopped-items : (space x : ℕ) (rest : Reach AccessFault) (o : Option AccessFault) (e : GuestMemoryError)
    → option_map error_of o ≡ Some e → marked_items space x [] o rest ≡ Err e ∷ []
stopped-items space x rest None e h = absurd (cc)
stopped-items space x rest (Some f) e h = ap (λ (d : GuestMemoryError). Err d ∷ []) (same_Some _ _ h)

tail_of : List (Result Window GuestMemoryError) → List (Result Window GuestMemoryError)
tail_of [] = []
tail_of (x ∷ xs) = xs

nothing-behind : (ws : List Window) (o : Option AccessFault) → ws ≡ []
    → tail_of (items_of (record { windows = ws; fault = o })) ≡ []
unfolding tail_of
nothing-behind ws None none = ap (λ (vs : List Window). tail_of (items_of (record { windows = vs; fault = None }))) none
nothing-behind ws (Some f) none =
    ap (λ (vs : List Window). tail_of (items_of (record { windows = vs; fault = Some f }))) none

pub left-refuses : (walk next : Reach AccessFault) (e : GuestMemoryError) (p : PiecesLeft)
    → items_of walk ≡ Err e ∷ items_of next
    → items_of (left_of walk (Some p)) ≡ Err e ∷ items_of (left_of next (Some (record p { pieces = [] })))
unfolding tail_of
left-refuses walk next e p gives =
    let rest = walk_of_pieces p.regions p.pieces in
    let end = ends_in walk (Err e) e (items_of next) gives refl in
    let none : items_of next ≡ [] = sym (ap tail_of gives) ∙ nothing-behind walk.windows walk.fault end.windows in
    ap (λ (ws : List Window). marked_items p.space p.iova ws walk.fault rest) end.windows
    ∙ (stopped-items p.space p.iova rest walk.fault e end.fault
    ∙ ap (λ (items : List (Result Window GuestMemoryError)). Err e ∷ items)
    (sym (left-none next (record p { pieces = [] }) none refl)))

-- the next piece is walked through
pub left-next : (walk new : Reach AccessFault) (old left : PiecesLeft) → items_of walk ≡ []
    → walk_of_pieces old.regions old.pieces
    ≡ unless_stopped new.windows new.fault (walk_of_pieces left.regions left.pieces)
    → left ≡ record old { pieces = left.pieces } → left_of walk (Some old) ≡ left_of new (Some left)
left-next walk new old left none gives is =
    left-ends walk old none
    ∙ (ap (marking old.space old.iova) gives
    ∙ sym (ap (λ (p : PiecesLeft). marking p.space p.iova
    (unless_stopped new.windows new.fault (walk_of_pieces left.regions left.pieces))) is))

-- the first piece is walked through
pub left-first : (new : Reach AccessFault) (all old left : PiecesLeft) → old ≡ all
    → walk_of_pieces old.regions old.pieces
    ≡ unless_stopped new.windows new.fault (walk_of_pieces left.regions left.pieces)
    → left ≡ record old { pieces = left.pieces }
    → left_of new (Some left) ≡ marking all.space all.iova (walk_of_pieces all.regions all.pieces)
left-first new all old left same gives is =
    sym (left-next (record { windows = []; fault = None }) new old left refl gives is)
    ∙ ap (λ (p : PiecesLeft). marking p.space p.iova (walk_of_pieces p.regions p.pieces)) same

-- there is no piece
pub left-no_piece : (regions : List Region) (a : ℕ) (walk : Reach AccessFault) (all old : PiecesLeft)
    → walk ≡ walk_of regions a 0 → old ≡ all
    → walk_of_pieces old.regions old.pieces ≡ record { windows = []; fault = None }
    → walk ≡ marking all.space all.iova (walk_of_pieces all.regions all.pieces)
left-no_piece regions a walk all old empty same none =
    empty ∙ no-walk regions a
    ∙ sym (ap (λ (p : PiecesLeft). marking p.space p.iova (walk_of_pieces p.regions p.pieces)) (sym same)
    ∙ ap (marking old.space old.iova) none)
