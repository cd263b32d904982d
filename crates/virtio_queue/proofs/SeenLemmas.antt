-- What looks found makes the answer.
use Rattle.std.proofs.Common.{◌≡◌, ◌⊎◌, ◌∙◌, ℕ, List, [], ◌∷◌, Result, Ok, Err, ap, inl, inr, refl, subst, sym}
use Rattle.vm_memory_guest.specs.Window.{Window}
use Rattle.virtio_queue.specs.Looks.{Follows, Given, Saw, Seen, Step, Tree, gives, keeps, loads, room, row, saw, spot, stores, takes, word, writes}
use Rattle.virtio_queue.specs.declared.descriptor.Descriptor.{Descriptor}
use Rattle.virtio_queue.specs.declared.error.QueueError.{QueueError}
use Rattle.virtio_queue.specs.declared.error.QueueError.TheVariants as errors

-- looks of any kind found something, one after another
pub seen_of : {S T : Type 0} (look : S → (p : Step) → Result (Given p) QueueError → S → Type 0) (t : Tree T)
    (old new : S) (result : Result T QueueError) → Follows look t old result new
    → (seen : List Seen) × Follows Saw t seen result []
seen_of look (gives r) old new result (is, same) = ([], (is, refl))
seen_of look (takes p k) old new result (Ok v, mid, looked, more) =
    let (seen, rest) = seen_of look (k v) mid new result more in (saw p (Ok v) ∷ seen, (Ok v, seen, refl, rest))
seen_of look (takes p k) old new result (Err e, mid, looked, (is, same)) =
    (saw p (Err e) ∷ [], (Err e, [], refl, (is, refl)))
seen_of look (keeps t) old new result (inl more) =
    let (seen, rest) = seen_of look t old new result more in (seen, inl rest)
seen_of look (keeps t) old new result (inr (is, same)) = ([], inr (is, refl))

-- two things that one step gave are the same
abbrev number_in : Seen → Result ℕ QueueError
number_in (saw (word base offset) given) = given
number_in (saw (room base offset n) given) = given
number_in (saw (loads base offset) given) = given
number_in seen = Err errors.Memory

abbrev row_in : Seen → Result Descriptor QueueError
row_in (saw (row table i) given) = given
row_in seen = Err errors.Memory

abbrev window_in : Seen → Result Window QueueError
window_in (saw (spot access base offset) given) = given
window_in seen = Err errors.Memory

abbrev nothing_in : Seen → Result (Unit {0}) QueueError
nothing_in (saw (writes base offset bytes) given) = given
nothing_in (saw (stores base offset value) given) = given
nothing_in seen = Err errors.Memory

same_found : (p : Step) (one other : Result (Given p) QueueError) → saw p one ≡ saw p other → one ≡ other
same_found (word base offset) one other is = ap number_in is
same_found (row table i) one other is = ap row_in is
same_found (room base offset n) one other is = ap number_in is
same_found (spot access base offset) one other is = ap window_in is
same_found (writes base offset bytes) one other is = ap nothing_in is
same_found (stores base offset value) one other is = ap nothing_in is
same_found (loads base offset) one other is = ap number_in is

abbrev first_of : List Seen → Seen → Seen
first_of [] s = s
first_of (x ∷ xs) s = x

abbrev others_of : List Seen → List Seen
others_of [] = []
others_of (x ∷ xs) = xs

module _ (p : Step) (seen rest left : List Seen) (one other : Result (Given p) QueueError)
    (is : seen ≡ saw p one ∷ rest) (so : seen ≡ saw p other ∷ left) where
  one_found : one ≡ other
  one_found = same_found p one other (ap (λ (xs : List Seen). first_of xs (saw p one)) (sym is ∙ so))

  one_rest : left ≡ rest
  one_rest = ap others_of (sym so ∙ is)

-- what is found decides
pub same_seen : {T : Type 0} (t : Tree T) (seen : List Seen) (one other : Result T QueueError)
    → Follows Saw t seen one [] → Follows Saw t seen other []
    → (one ≡ other) ⊎ (one ≡ Err errors.Memory) ⊎ (other ≡ Err errors.Memory)
same_seen (gives r) seen one other (is, same) (so, also) = inl (is ∙ sym so)
same_seen (takes p k) seen one other (Ok v, rest, is, more) (Ok w, left, so, also) =
    let found = one_found p seen rest left (Ok v) (Ok w) is so in
    let same : w ≡ v = cc in
    same_seen (k v) rest one other more (subst (λ x. Follows Saw (k x) rest other []) same
    (subst (λ xs. Follows Saw (k w) xs other []) (one_rest p seen rest left (Ok v) (Ok w) is so) also))
same_seen (takes p k) seen one other (Ok v, rest, is, more) (Err e, left, so, also) =
    let found = one_found p seen rest left (Ok v) (Err e) is so in absurd (cc)
same_seen (takes p k) seen one other (Err d, rest, is, more) (Ok w, left, so, also) =
    let found = one_found p seen rest left (Err d) (Ok w) is so in absurd (cc)
same_seen (takes p k) seen one other (Err d, rest, is, more) (Err e, left, so, also) =
    let found = one_found p seen rest left (Err d) (Err e) is so in
    let same : d ≡ e = cc in inl (more.0 ∙ (ap Err same ∙ sym also.0))
same_seen (keeps t) seen one other (inl more) (inl also) = same_seen t seen one other more also
same_seen (keeps t) seen one other (inr (is, same)) also = inr (inl is)
same_seen (keeps t) seen one other (inl more) (inr (is, same)) = inr (inr is)
