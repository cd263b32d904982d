-- What calls reach of a text, access by access.
use Rattle.std.proofs.Common.{◌≡◌, ◌∙◌, ℕ, zero, suc, ◌+◌, ◌<◌, ◌≤◌, Bool, true, false, not, ◌&&◌, cond, List, [], ◌∷◌, ◌++◌, length, drop, Option, Some, None, refl, sym, ap, subst, arith, inl, inr, ◌⊎◌, length-append, length-drop, append_assoc, append-nil, add_assoc, add-zero}
use Rattle.std.specs.Option.{MatchOption}
use Rattle.std.proofs.lemmas.List.{drop-drop}
use Rattle.vm_memory_base.specs.declared.iotlb.Permissions.{Permissions}
use Rattle.vm_memory_guest.specs.Access.{Access, AccessFault, Meets, Reached, Reaches, Stops, access_of, allowed, first_fault, meets, onto, or_fault, path, refusal}
use Rattle.vm_memory_guest.specs.Memory.{Direct, Through, Route}
use Rattle.vm_memory_guest.specs.Region.{Region}
use Rattle.vm_memory_device.specs.Chain.{Entry, access_len, begins_at, meets_entry, text_path, text_fault}
use Rattle.vm_memory_device.specs.ChainText.{Runs}

-- ---- the first access of a text

-- it takes the entries up to where a segment ends
pub access_len-runs : (a n : ℕ) (es : List Entry) → Runs a n es → access_len es ≡ n
unfolding Runs access_len
access_len-runs a n [] h = absurd h
access_len-runs a zero (e ∷ es) h = absurd h
access_len-runs a (suc zero) (e ∷ es) (at, inl ends) = ap (λ b. cond b 1 (access_len es + 1)) ends
access_len-runs a (suc zero) (e ∷ es) (at, inr none) = last e.ends
  where
    last : (b : Bool) → cond b 1 (access_len es + 1) ≡ 1
    last true = refl
    last false = ap (λ rs. access_len rs + 1) none
access_len-runs a (suc (suc n)) (e ∷ es) (at, ends, more) =
    ap (λ b. cond b 1 (access_len es + 1)) ends ∙ ap (λ k. k + 1) (access_len-runs (a + 1) (suc n) es more)
    ∙ omega arith

-- some, and no more than there are
pub runs-some : (a n : ℕ) (es : List Entry) → Runs a n es → 0 < n
unfolding Runs
runs-some a n [] h = absurd h
runs-some a zero (e ∷ es) h = absurd h
runs-some a (suc n) (e ∷ es) h = omega arith

pub runs-within : (a n : ℕ) (es : List Entry) → Runs a n es → n ≤ length es
unfolding Runs
runs-within a n [] h = absurd h
runs-within a zero (e ∷ es) h = absurd h
runs-within a (suc zero) (e ∷ es) h = omega arith
runs-within a (suc (suc n)) (e ∷ es) (at, ends, more) =
    let rest : suc n ≤ length es = runs-within (a + 1) (suc n) es more in omega arith

-- after it the next one begins
pub begins-behind : (b : Bool) (a n : ℕ) (es : List Entry) → Runs a n es → n < length es → begins_at b es n ≡ true
unfolding Runs
begins-behind b a n [] h more = absurd h
begins-behind b a zero (e ∷ es) h more = absurd h
begins-behind b a (suc zero) (e ∷ es) (at, inl ends) more = ends
begins-behind b a (suc zero) (e ∷ es) (at, inr none) more =
    let empty : length es ≡ 0 = ap length none in absurd (omega arith)
begins-behind b a (suc (suc n)) (e ∷ es) (at, ends, rest) more =
    begins-behind e.ends (a + 1) (suc n) es rest (omega arith)

-- where one begins with an entry, those after it begin as in what is left from it on
pub begins-drop : (b : Bool) (es : List Entry) (t j : ℕ) → t ≤ length es → begins_at b es t ≡ true
    → begins_at b es (t + j) ≡ begins_at true (drop t es) j
begins-drop b es zero j within h =
    let none : 0 + j ≡ j = omega arith in
    ap (begins_at b es) none ∙ ap (λ c. begins_at c es j) h
begins-drop b [] (suc t) j within h = absurd (omega arith)
begins-drop b (e ∷ es) (suc t) j within h =
    let next : suc t + j ≡ suc (t + j) = omega arith in
    ap (begins_at b (e ∷ es)) next ∙ begins-drop e.ends es t j (omega arith) h

-- ---- what an address meets

-- what byte i of an access meets is what its address meets by itself
pub meets-alone : (regions : List Region) (route : Route) (a i : ℕ) → meets regions route (a + i) 0
    ≡ meets regions route a i
meets-alone regions Direct a i = rw add-zero
meets-alone regions (Through f space) a i = rw add-zero

-- one more byte of an access, and one more entry of a text
one_more : (x y : Meets) (ps qs p rest : List Reached) (f g : Option AccessFault) (o rest_fault : Option AccessFault)
    → x ≡ y → ps ≡ qs → f ≡ g
    → MatchOption o ((qs ≡ p ++ rest) × (g ≡ rest_fault)) (λ e. (qs ≡ p) × (g ≡ Some e))
    → MatchOption (or_fault y o) ((onto x ps ≡ onto y p ++ rest) × (or_fault x f ≡ rest_fault))
    (λ e. (onto x ps ≡ onto y p) × (or_fault x f ≡ Some e))
one_more x (Reaches r) ps qs p rest f g None rest_fault same paths faults h = (
  ap (λ z. onto z ps) same ∙ ap (λ (rs : List Reached). r ∷ rs) (paths ∙ h.0),
  ap (λ z. or_fault z f) same
      ∙ faults ∙ h.1,
)
one_more x (Reaches r) ps qs p rest f g (Some e) rest_fault same paths faults h = (
  ap (λ z. onto z ps) same ∙ ap (λ (rs : List Reached). r ∷ rs) (paths ∙ h.0),
  ap (λ z. or_fault z f) same
      ∙ faults ∙ h.1,
)
one_more x (Stops e) ps qs p rest f g o rest_fault same paths faults h =
    (ap (λ z. onto z ps) same, ap (λ z. or_fault z f) same)

same_goes : (o : Option AccessFault) (ps qs p rest : List Reached) (f g rest_fault : Option AccessFault) → ps ≡ qs
    → f ≡ g
    → MatchOption o ((qs ≡ p ++ rest) × (g ≡ rest_fault)) (λ e. (qs ≡ p) × (g ≡ Some e))
    → MatchOption o ((ps ≡ p ++ rest) × (f ≡ rest_fault)) (λ e. (ps ≡ p) × (f ≡ Some e))
same_goes None ps qs p rest f g rest_fault paths faults h = (paths ∙ h.0, faults ∙ h.1)
same_goes (Some e) ps qs p rest f g rest_fault paths faults h = (paths ∙ h.0, faults ∙ h.1)

module _ (regions : List Region) (route : Route) (access : Permissions) where
  -- what is reached of a text is what its first access reaches, and what is reached after it where that is all of it
  abbrev pub GoesBy : Access → ℕ → List Entry → Type 0
  GoesBy x n es = MatchOption x.fault
      ((text_path regions route access true es ≡ x.path ++ text_path regions route access true (drop n es))
      × (text_fault regions route access true es ≡ text_fault regions route access true (drop n es)))
      (λ f. (text_path regions route access true es ≡ x.path) × (text_fault regions route access true es ≡ Some f))

  -- nothing is reached of no text
  pub path-none : (b : Bool) (es : List Entry) → es ≡ [] → text_path regions route access b es ≡ []
  unfolding text_path
  path-none b [] e = refl
  path-none b (x ∷ xs) e = absurd (cc)

  pub fault-none : (b : Bool) (es : List Entry) → es ≡ [] → text_fault regions route access b es ≡ None
  unfolding text_fault
  fault-none b [] e = refl
  fault-none b (x ∷ xs) e = absurd (cc)

  same_path : (b : Bool) (es : List Entry) → (b ≡ true) ⊎ (es ≡ [])
      → text_path regions route access b es ≡ text_path regions route access true es
  same_path b es (inl e) = ap (λ c. text_path regions route access c es) e
  same_path b es (inr e) = path-none b es e ∙ sym (path-none true es e)

  same_fault : (b : Bool) (es : List Entry) → (b ≡ true) ⊎ (es ≡ [])
      → text_fault regions route access b es ≡ text_fault regions route access true es
  same_fault b es (inl e) = ap (λ c. text_fault regions route access c es) e
  same_fault b es (inr e) = fault-none b es e ∙ sym (fault-none true es e)

  -- the bytes i, i + 1, .. of an access at a that is allowed are the entries of a text
  goes_on : (a i n : ℕ) (es : List Entry) → Runs (a + i) n es
      → MatchOption (first_fault (meets regions route a) i n)
      ((text_path regions route access false es
      ≡ path (meets regions route a) i n ++ text_path regions route access true (drop n es))
      × (text_fault regions route access false es ≡ text_fault regions route access true (drop n es)))
      (λ f. (text_path regions route access false es ≡ path (meets regions route a) i n)
      × (text_fault regions route access false es ≡ Some f))
  unfolding Runs text_path text_fault path first_fault
  goes_on a i n [] h = absurd h
  goes_on a i zero (e ∷ es) h = absurd h
  goes_on a i (suc zero) (e ∷ es) (at, last) =
      one_more (meets regions route e.address 0) (meets regions route a i)
      (text_path regions route access e.ends es) (text_path regions route access true es) []
      (text_path regions route access true es)
      (text_fault regions route access e.ends es) (text_fault regions route access true es) None
      (text_fault regions route access true es)
      (ap (λ x. meets regions route x 0) at ∙ meets-alone regions route a i)
      (same_path e.ends es last) (same_fault e.ends es last) (refl, refl)
  goes_on a i (suc (suc n)) (e ∷ es) (at, ends, more) =
      one_more (meets regions route e.address 0) (meets regions route a i)
      (text_path regions route access e.ends es) (text_path regions route access false es)
      (path (meets regions route a) (i + 1) (suc n)) (text_path regions route access true (drop (suc n) es))
      (text_fault regions route access e.ends es) (text_fault regions route access false es)
      (first_fault (meets regions route a) (i + 1) (suc n)) (text_fault regions route access true (drop (suc n) es))
      (ap (λ x. meets regions route x 0) at ∙ meets-alone regions route a i)
      (ap (λ b. text_path regions route access b es) ends) (ap (λ b. text_fault regions route access b es) ends)
      (goes_on a (i + 1) (suc n) es (subst (λ x. Runs x (suc n) es) (add_assoc a i 1) more))

  first_address : (a n : ℕ) (e : Entry) (es : List Entry) → Runs a n (e ∷ es) → e.address ≡ a
  unfolding Runs
  first_address a zero e es h = absurd h
  first_address a (suc zero) e es h = h.0
  first_address a (suc (suc n)) e es h = h.0

  no_run : (a n : ℕ) → Runs a n [] → ⊥
  unfolding Runs
  no_run a n h = h

  -- the first access of a text is an access of its addresses
  pub goes_by : (a n : ℕ) (es : List Entry) → Runs a n es → GoesBy (access_of regions route a n access) n es
  unfolding text_path text_fault
  goes_by a n [] h = absurd (no_run a n h)
  goes_by a n (e ∷ es) h = go (allowed route a n access) refl
    where
      whole : Access
      whole = record { path = path (meets regions route a) 0 n; fault = first_fault (meets regions route a) 0 n }

      none : Access
      none = record { path = []; fault = Some (refusal route a n) }

      at : e.address ≡ a
      at = first_address a n e es h

      len : access_len (e ∷ es) ≡ n
      len = access_len-runs a n (e ∷ es) h

      asked : allowed route e.address (access_len (e ∷ es)) access ≡ allowed route a n access
      asked = ap (λ x. allowed route x (access_len (e ∷ es)) access) at ∙ ap (λ k. allowed route a k access) len

      met : (b : Bool) → allowed route a n access ≡ b
          → meets_entry regions route access true e es
          ≡ cond (not b) (Stops (refusal route e.address (access_len (e ∷ es)))) (meets regions route e.address 0)
      met b ok = ap (λ c. cond (true && not c) (Stops (refusal route e.address (access_len (e ∷ es))))
          (meets regions route e.address 0))
          (asked ∙ ok)

      go : (b : Bool) → allowed route a n access ≡ b → GoesBy (cond b whole none) n (e ∷ es)
      go true ok =
          let path_is : text_path regions route access true (e ∷ es) ≡ text_path regions route access false (e ∷ es) =
          ap (λ x. onto x (text_path regions route access e.ends es)) (met true ok) in
          let fault_is : text_fault regions route access true (e ∷ es) ≡ text_fault regions route access false (e ∷
          es) =
          ap (λ x. or_fault x (text_fault regions route access e.ends es)) (met true ok) in
          same_goes (first_fault (meets regions route a) 0 n)
          (text_path regions route access true (e ∷ es)) (text_path regions route access false (e ∷ es))
          (path (meets regions route a) 0 n) (text_path regions route access true (drop n (e ∷ es)))
          (text_fault regions route access true (e ∷ es)) (text_fault regions route access false (e ∷ es))
          (text_fault regions route access true (drop n (e ∷ es))) path_is fault_is
          (goes_on a 0 n (e ∷ es) (subst (λ x. Runs x n (e ∷ es)) (sym (add-zero a)) h))
      go false ok = (
        ap (λ x. onto x (text_path regions route access e.ends es)) (met false ok),
        ap (λ x. or_fault x (text_fault regions route access e.ends es)) (met false ok)
            ∙ ap (λ x. Some (refusal route x (access_len (e ∷ es)))) at ∙ ap (λ k. Some (refusal route a k)) len,
      )

  -- all of the front of a text is reached, an access begins after it, and what is reached of the text is this and
  -- what is reached of the rest
  pub record SoFar (es : List Entry) (total : ℕ) (reached : List Reached) : Type 0 where
    pub count : length reached ≡ total
    pub within : total ≤ length es
    pub begins : total < length es → begins_at true es total ≡ true
    pub path_is : text_path regions route access true es ≡ reached ++ text_path regions route access true (drop total
        es)
    pub fault_is : text_fault regions route access true es ≡ text_fault regions route access true (drop total es)

  pub so_far_none : (es : List Entry) → SoFar es 0 []
  so_far_none es = record {
    count = refl;
    within = omega arith;
    begins = λ more. refl;
    path_is = refl;
    fault_is = refl;
  }

  -- one more access reached all that it asked for
  pub so_far_more : (es : List Entry) (total : ℕ) (reached : List Reached) (a n : ℕ) → SoFar es total reached
      → Runs a n (drop total es) → (access_of regions route a n access).fault ≡ None
      → length (access_of regions route a n access).path ≡ n
      → SoFar es (total + n) (reached ++ (access_of regions route a n access).path)
  so_far_more es total reached a n h run none all =
      let p = (access_of regions route a n access).path in
      let some = runs-some a n (drop total es) run in
      let inside = runs-within a n (drop total es) run in
      let left = length-drop total es in
      let here : total < length es = omega (arith, some, inside, left) in
      let more = subst (λ o. MatchOption o
      ((text_path regions route access true (drop total es) ≡ p ++ text_path regions route access true (drop n (drop
      total es)))
      × (text_fault regions route access true (drop total es) ≡ text_fault regions route access true (drop n (drop
      total es))))
      (λ f. (text_path regions route access true (drop total es) ≡ p)
      × (text_fault regions route access true (drop total es) ≡ Some f))) none (goes_by a n (drop total es) run) in
      let far = drop-drop n total es in
      record {
        count = length-append reached p ∙ ap (λ k. k + length p) h.count ∙ ap (λ k. total + k) all;
        within = omega (arith, inside, left, h.within);
        begins = λ further. begins-drop true es total n h.within (h.begins here)
            ∙ begins-behind true a n (drop total es) run (omega (arith, left, further));
        path_is = h.path_is ∙ ap (λ ps. reached ++ ps) (more.0 ∙ ap (λ rs. p ++ text_path regions route access true
            rs) far)
            ∙ sym (append_assoc reached p (text_path regions route access true (drop (total + n) es)));
        fault_is = h.fault_is ∙ more.1 ∙ ap (text_fault regions route access true) far;
      }

  -- nothing is left
  pub path_ends : (es : List Entry) (total : ℕ) (reached : List Reached) → SoFar es total reached → drop total es ≡ []
      → text_path regions route access true es ≡ reached
  path_ends es total reached h none =
      h.path_is ∙ ap (λ ps. reached ++ ps) (path-none true (drop total es) none) ∙ append-nil reached

  pub fault_ends : (es : List Entry) (total : ℕ) (reached : List Reached) → SoFar es total reached → drop total es ≡ []
      → text_fault regions route access true es ≡ None
  fault_ends es total reached h none = h.fault_is ∙ fault-none true (drop total es) none

  -- an access did not reach all that it asked for
  pub path_stops : (es : List Entry) (total : ℕ) (reached : List Reached) (a n : ℕ) (f : AccessFault)
      → SoFar es total reached → Runs a n (drop total es) → (access_of regions route a n access).fault ≡ Some f
      → (text_path regions route access true es ≡ reached ++ (access_of regions route a n access).path)
      × (text_fault regions route access true es ≡ Some f)
  path_stops es total reached a n f h run some =
      let p = (access_of regions route a n access).path in
      let more = subst (λ o. MatchOption o
      ((text_path regions route access true (drop total es) ≡ p ++ text_path regions route access true (drop n (drop
      total es)))
      × (text_fault regions route access true (drop total es) ≡ text_fault regions route access true (drop n (drop
      total es))))
      (λ f. (text_path regions route access true (drop total es) ≡ p)
      × (text_fault regions route access true (drop total es) ≡ Some f))) some (goes_by a n (drop total es) run) in
      (h.path_is ∙ ap (λ ps. reached ++ ps) more.0, h.fault_is ∙ more.1)
