-- Calls over a text, access by access: what they did so far, and how they end.
use Rattle.std.proofs.Common.{◌≡◌, ◌∙◌, ℕ, zero, suc, ◌+◌, ◌-◌, ◌<◌, ◌≤◌, ◌==◌, Bool, true, false, cond, List, [], ◌++◌, length, take, drop, Option, Some, None, option_map, Result, Ok, Err, refl, sym, ap, subst, arith, inl, inr, length-append, length-drop}
use Rattle.std.specs.Option.{MatchOption}
use Rattle.std.proofs.lemmas.Bool.{eqb-true}
use Rattle.std.proofs.lemmas.List.{drop-drop, drop-take, length-take-le}
use Rattle.std.proofs.Math.Seq.{take-append_seam}
use Rattle.vm_memory_base.specs.Table.{Table}
use Rattle.vm_memory_base.specs.declared.iotlb.Permissions.{Permissions}
use Rattle.vm_memory_guest.specs.Access.{Access, AccessFault, Reached, windows}
use Rattle.vm_memory_guest.specs.Answer.{Outcome}
use Rattle.vm_memory_guest.specs.Error.{error_of}
use Rattle.vm_memory_guest.specs.Memory.{IsOn, Memory, route}
use Rattle.vm_memory_guest.specs.Walk.{NeedsPieces}
use Rattle.vm_memory_guest.specs.Transfer.{ended}
use Rattle.vm_memory_guest.specs.Window.{span}
use Rattle.vm_memory_guest.specs.declared.region.error.GuestMemoryError.{GuestMemoryError}
use Rattle.vm_memory_guest.specs.declared.region.error.GuestMemoryError.TheVariants as errors
use Rattle.vm_memory_guest.proofs.PathLaws.{access-ends, length-access, span-windows}
use Rattle.vm_memory_device.specs.Chain.{Entry, Extends, Extent, Moves, extent_of, text_path}
use Rattle.vm_memory_device.specs.ChainText.{GoesOn, IsNext, Runs}
use Rattle.vm_memory_device.specs.Reach.{reached_by}
use Rattle.vm_memory_device.proofs.ReachLemmas.{ended_is}
use Rattle.vm_memory_device.proofs.ReachOfText.{SoFar, fault_ends, path_ends, path_stops, runs-some, runs-within, so_far_more, so_far_none}

-- ---- answers

-- an access that reached all had no fault, and one that did not had one
none_if_whole : (o : Option AccessFault) (k n : ℕ) → MatchOption o (k ≡ n) (λ f. k < n) → n ≤ k → o ≡ None
none_if_whole None k n h whole = refl
none_if_whole (Some f) k n h whole = absurd (omega arith)

some_if_short : (o : Option AccessFault) (k n : ℕ) → MatchOption o (k ≡ n) (λ f. k < n) → k < n
    → (f : AccessFault) × (o ≡ Some f)
some_if_short None k n h short = absurd (omega arith)
some_if_short (Some f) k n h short = (f, refl)

-- bytes before an access that counted some are counted with them
ended_more : {E : Type 0} (t n k : ℕ) (e : E) → Ok k ≡ ended n (Some e) → Ok (t + k) ≡ ended (t + n) (Some e)
ended_more t zero k e h = absurd (cc)
ended_more {E} t (suc n) k e h = go (t + suc n == 0) refl
  where
    go : (b : Bool) → (t + suc n == 0) ≡ b → Ok (t + k) ≡ cond b (Err e) (Ok (t + suc n))
    go true is = let none : t + suc n ≡ 0 = eqb-true (t + suc n) 0 is in absurd (omega arith)
    go false is = ap (λ j. Ok (t + j)) (ended_is (suc n) (Some e) k h)

-- an access that answers an error reached nothing, and this is its fault
failed_at_once : (k : ℕ) (o : Option AccessFault) (e : GuestMemoryError) → Err e ≡ ended k (option_map error_of o)
    → (k ≡ 0) × ((f : AccessFault) × (o ≡ Some f) × (e ≡ error_of f))
failed_at_once k None e h = absurd (cc)
failed_at_once k (Some f) e h = go (k == 0) refl h
  where
    go : (b : Bool) → (k == 0) ≡ b → Err e ≡ cond b (Err (error_of f)) (Ok k)
        → (k ≡ 0) × ((g : AccessFault) × (Some f ≡ Some g) × (e ≡ error_of g))
    go true is h = (eqb-true k 0 is, (f, refl, cc))
    go false is h = absurd (cc)

-- ---- the rest of a text

-- what is left of the front of a text
rest_is : {X : Type 0} (xs : List X) (n total : ℕ) → total ≤ n → drop total (take n xs)
    ≡ take (n - total) (drop total xs)
rest_is xs n total h =
    let all : n ≡ total + (n - total) = omega arith in
    ap (λ k. drop total (take k xs)) all ∙ drop-take total (n - total) xs

runs_rest : (a n : ℕ) (before now : List Entry) (most total : ℕ) → total ≤ most → now ≡ drop total before
    → Runs a n (take (most - total) now) → Runs a n (drop total (take most before))
runs_rest a n before now most total within place h =
    subst (λ es. Runs a n es) (ap (take (most - total)) place ∙ sym (rest_is before most total within)) h

-- ---- calls, access by access

-- an access of n bytes of a memory answered, and left what it was lent or had its effect
abbrev pub Accessed : Memory → List Table → Permissions → ℕ → ℕ → Type 0 → Type 0 → Result ℕ GuestMemoryError
    → Type 0
Accessed m tables access a n unchanged effect moved =
    let x = reached_by m tables a n access in
    Outcome errors.Memory (NeedsPieces m tables a n access)
    (ended (span (windows x.path)) (option_map error_of x.fault)) unchanged effect moved

module _ (m : Memory) (tables : List Table) (access : Permissions) (before : List Entry) (most : ℕ) where
  -- a call came so far: each access reached all, the place is after them, and this was done of what they reached
  pub record CameTo (Did : List Reached → Type 0) (total : ℕ) (at : List Entry) : Type 0 where
    pub reached : List Reached
    pub so_far : SoFar m.regions (route m tables) access (take most before) total reached
    pub within : total ≤ most
    pub place : at ≡ drop total before
    pub did : Did reached

  -- a call ended, and this was done of what it reached
  abbrev pub Ended : (List Reached → Type 0) → Result ℕ GuestMemoryError → List Entry → Type 0
  Ended Did answer left = (x : Extent) × Moves m tables access before most x answer left × Did x.path

  ended_at : (Did : List Reached → Type 0) (x : Extent) (xs : List Reached) (answer : Result ℕ GuestMemoryError)
      (left : List Entry) → Extends m tables access (take most before) x → x.path ≡ xs
      → answer ≡ ended (length xs) x.error → left ≡ drop (length xs) before → Did xs → Ended Did answer left
  ended_at Did x xs answer left reached is told place did = (
    x,
    record {
      reached = reached;
      answered = told ∙ ap (λ (ys : List Reached). ended (length ys) x.error) (sym is);
      place = place ∙ ap (λ (ys : List Reached). drop (length ys) before) (sym is);
    },
    subst Did (sym is) did,
  )

  pub came_to_none : (Did : List Reached → Type 0) → Did [] → CameTo Did 0 before
  came_to_none Did did = record {
    reached = [];
    so_far = so_far_none m.regions (route m tables) access (take most before);
    within = omega arith;
    place = refl;
    did = did;
  }

  module _ {Did : List Reached → Type 0} {total : ℕ} {at : List Entry} (c : CameTo Did total at) where
    -- nothing is left
    pub ended_whole : take (most - total) at ≡ [] → Ended Did (Ok total) at
    ended_whole none =
        let rest : drop total (take most before) ≡ [] =
        rest_is before most total c.within ∙ ap (take (most - total)) (sym c.place) ∙ none in
        let fault_is = fault_ends m.regions (route m tables) access (take most before) total c.reached c.so_far rest in
        ended_at Did (extent_of m tables access (take most before)) c.reached (Ok total) at (inl refl)
        (path_ends m.regions (route m tables) access (take most before) total c.reached c.so_far rest)
        (rw (fault_is, c.so_far.count) refl) (c.place ∙ ap (λ k. drop k before) (sym c.so_far.count)) c.did

    module _ (Does : List Reached → Type 0) (a n : ℕ) (next : IsNext a n (most - total) at) where
      abbrev here : Access
      here = reached_by m tables a n access

      pub runs_here : Runs a n (drop total (take most before))
      runs_here = runs_rest a n before at most total c.within c.place next.runs

      at_most : length here.path ≤ n
      at_most = length-access m.regions (route m tables) a n access

      place_after : (k : ℕ) (left : List Entry) → left ≡ drop k at → left ≡ drop (total + k) before
      place_after k left place = place ∙ ap (drop k) c.place ∙ drop-drop k total before

      spans : ended (span (windows here.path)) (option_map error_of here.fault)
          ≡ ended (length here.path) (option_map error_of here.fault)
      spans = ap (λ k. ended k (option_map error_of here.fault)) (span-windows here.path)

      -- the access reached all
      went_on : (count : ℕ) (left : List Entry) → count ≡ length here.path → n ≤ count → left ≡ drop count at
          → Does (c.reached ++ here.path) → CameTo Does (total + count) left
      went_on count left is whole place did =
          let len : length here.path ≡ n = omega (arith, at_most) in
          let none = none_if_whole here.fault (length here.path) n
          (access-ends m.regions (route m tables) a n access) (omega arith) in
          let reached_all = so_far_more m.regions (route m tables) access (take most before) total c.reached a n
          c.so_far runs_here none len in
          record {
            reached = c.reached ++ here.path;
            so_far = subst (λ k. SoFar m.regions (route m tables) access (take most before) (total + k)
                (c.reached ++ here.path)) (sym (is ∙ len)) reached_all;
            within = omega (arith, next.fits, c.within, is, len);
            place = place_after count left place;
            did = did;
          }

      -- the access was stopped
      stopped : (f : AccessFault) (answer : Result ℕ GuestMemoryError) (left : List Entry) → here.fault ≡ Some f
          → answer ≡ ended (total + length here.path) (Some (error_of f)) → left ≡ drop (length here.path) at
          → Does (c.reached ++ here.path) → Ended Does answer left
      stopped f answer left fault told place did =
          let is = path_stops m.regions (route m tables) access (take most before) total c.reached a n f c.so_far
          runs_here fault in
          let count : length (c.reached ++ here.path) ≡ total + length here.path =
          length-append c.reached here.path ∙ ap (λ k. k + length here.path) c.so_far.count in
          ended_at Does (extent_of m tables access (take most before)) (c.reached ++ here.path) answer left (inl refl)
          is.0 (rw (is.1, count) told)
          (place_after (length here.path) left place ∙ ap (λ k. drop k before) (sym count)) did

      -- there was no memory for it
      wanted : (answer : Result ℕ GuestMemoryError) (left : List Entry) → IsOn m
          → answer ≡ ended total (Some errors.Memory) → left ≡ at → Does c.reached → Ended Does answer left
      wanted answer left on told place did =
          let whole = extent_of m tables access (take most before) in
          let rest = text_path m.regions (route m tables) access true (drop total (take most before)) in
          let some = runs-some a n (drop total (take most before)) runs_here in
          let inside = runs-within a n (drop total (take most before)) runs_here in
          let more : total < length (take most before) =
          omega (arith, some, inside, length-drop total (take most before)) in
          let long : length whole.path ≡ total + length rest =
          ap length c.so_far.path_is ∙ length-append c.reached rest ∙ ap (λ k. k + length rest) c.so_far.count in
          let is : take total whole.path ≡ c.reached =
          ap (take total) c.so_far.path_is ∙ ap (λ k. take k (c.reached ++ rest)) (sym c.so_far.count)
          ∙ take-append_seam c.reached rest in
          ended_at Does (record { path = take total whole.path; error = Some errors.Memory }) c.reached answer left
          (inr (
            total,
            record { on = on; more = more; begins = c.so_far.begins more; reached = omega (arith, long) },
            refl,
          )) is (told ∙ ap (λ k. ended k (Some errors.Memory)) (sym c.so_far.count))
          (place ∙ c.place ∙ ap (λ k. drop k before) (sym c.so_far.count)) did

      -- the call goes on after the next access, or ends there
      pub turn : (Unchanged Effect : Type 0) (moved : Result ℕ GuestMemoryError)
          (answer : Option (Result ℕ GuestMemoryError)) (sum : ℕ) (left : List Entry)
          → Accessed m tables access a n Unchanged Effect moved → GoesOn n moved total at answer sum left
          → (Unchanged → Does c.reached) → (Effect → Does (c.reached ++ here.path))
          → MatchOption answer (CameTo Does sum left) (λ r. Ended Does r left)
      turn U E (Ok count) None sum left (told, effect) (whole, sum_is, place) stays does =
          let is = ended_is (length here.path) (option_map error_of here.fault) count (told ∙ spans) in
          subst (λ k. CameTo Does k left) (sym sum_is) (went_on count left is whole place (does effect))
      turn U E (Ok count) (Some r) sum left (told, effect) (short, r_is, place) stays does =
          let is = ended_is (length here.path) (option_map error_of here.fault) count (told ∙ spans) in
          let stop = some_if_short here.fault (length here.path) n (access-ends m.regions (route m tables) a n access)
          (omega arith) in
          stopped stop.0 r left stop.1
          (r_is ∙ ended_more total (length here.path) count (error_of stop.0)
          (told ∙ spans ∙ ap (λ o. ended (length here.path) (option_map error_of o)) stop.1))
          (place ∙ ap (λ k. drop k at) is) (does effect)
      turn U E (Err e) None sum left h goes stays does = absurd goes
      turn U E (Err e) (Some r) sum left (inl (want, on, unchanged)) (r_is, place) stays does =
          wanted r left on.0 (r_is ∙ ap (λ (d : GuestMemoryError). ended total (Some d)) want) place (stays unchanged)
      turn U E (Err e) (Some r) sum left (inr (told, effect)) (r_is, place) stays does =
          let stop = failed_at_once (length here.path) here.fault e (told ∙ spans) in
          let all : total ≡ total + length here.path = omega (arith, stop.0) in
          stopped stop.1.0 r left stop.1.1
          (r_is ∙ ap (λ (d : GuestMemoryError). ended total (Some d)) stop.1.2
          ∙ ap (λ k. ended k (Some (error_of stop.1.0))) all)
          (place ∙ ap (λ k. drop k at) (sym stop.0)) (does effect)

-- a call that goes on has moved the bytes of the access
pub goes_further : (n total sum : ℕ) (moved : Result ℕ GuestMemoryError) (at left : List Entry)
    → GoesOn n moved total at None sum left → total + n ≤ sum
goes_further n total sum (Ok count) at left (whole, sum_is, place) = omega arith
goes_further n total sum (Err e) at left goes = absurd goes

-- the part of a buffer that an access is lent
pub part_len : (total n : ℕ) (now : List ℕ) → n ≤ length now - total
    → length (take (total + n - total) (drop total now)) ≡ n
part_len total n now fits =
    let len : total + n - total ≡ n = omega arith in
    let enough : n ≤ length (drop total now) = omega (arith, length-drop total now, fits) in
    ap (λ k. length (take k (drop total now))) len ∙ length-take-le n (drop total now) enough
