-- Where writes to a text are cut into windows.
use Rattle.std.proofs.Common.{◌≡◌, ◌⊎◌, ◌∙◌, ℕ, zero, suc, ◌+◌, ◌<◌, ◌≤◌, Bool, true, false, cond, List, [], ◌∷◌, ◌++◌, length, map, take, drop, refl, ap, subst, arith, inl, inr, length-append, length-drop, sym}
use Rattle.std.proofs.lemmas.List.{map-append}
use Rattle.vm_memory_base.specs.declared.iotlb.Permissions.{Permissions}
use Rattle.vm_memory_guest.specs.Access.{Reached, Stretch, is_cut, lengthened, stretches, window_of, windows}
use Rattle.vm_memory_guest.specs.Memory.{Route}
use Rattle.vm_memory_guest.specs.Region.{Region}
use Rattle.vm_memory_device.specs.Chain.{Entry, begins_at, entries_from, text_stretches, text_windows}
use Rattle.vm_memory_device.specs.ChainText.{Runs}
use Rattle.vm_memory_device.specs.declared.chain.Segment.{Segment}
use Rattle.vm_memory_device.proofs.ReachOfText.{SoFar, runs-some, runs-within}

abbrev alone : Reached → Stretch
alone x = record { first = x; len = 1 }

abbrev longer : Reached → Stretch → Stretch
longer x s = record { first = x; len = s.len + 1 }

-- one byte more before some stretches leaves those after them
lengthened-append : (x : Reached) (ss ts : List Stretch) → (ss ≡ [] → ⊥) → lengthened x (ss ++ ts)
    ≡ lengthened x ss ++ ts
lengthened-append x [] ts some = absurd (some refl)
lengthened-append x (s ∷ ss) ts some = go (is_cut x s.first)
  where
    go : (b : Bool) → cond b (alone x ∷ s ∷ ss ++ ts) (longer x s ∷ ss ++ ts)
        ≡ cond b (alone x ∷ s ∷ ss) (longer x s ∷ ss) ++ ts
    go true = refl
    go false = refl

lengthened-some : (x : Reached) (ss : List Stretch) → lengthened x ss ≡ [] → ⊥
lengthened-some x [] h = absurd (cc)
lengthened-some x (s ∷ ss) h = go (is_cut x s.first) h
  where
    go : (b : Bool) → cond b (alone x ∷ s ∷ ss) (longer x s ∷ ss) ≡ [] → ⊥
    go true h = absurd (cc)
    go false h = absurd (cc)

-- a byte that is the last of its segment or not, before stretches in two parts
one_more : (ends : Bool) (x : Reached) (all front behind : List Stretch) → all ≡ front ++ behind
    → (ends ≡ false → front ≡ [] → ⊥)
    → cond ends (alone x ∷ all) (lengthened x all) ≡ cond ends (alone x ∷ front) (lengthened x front) ++ behind
one_more true x all front behind e some = ap (λ (ss : List Stretch). alone x ∷ ss) e
one_more false x all front behind e some = ap (lengthened x) e ∙ lengthened-append x front behind (some refl)

-- where no segment ends before some bytes they have a stretch
some_stretch : (es : List Entry) (xs : List Reached) → begins_at false es (length xs) ≡ true → text_stretches es xs ≡ []
    → ⊥
unfolding text_stretches
some_stretch es [] h none = absurd (cc)
some_stretch [] (x ∷ xs) h none = absurd (cc)
some_stretch (e ∷ es) (x ∷ xs) h none = go e.ends none
  where
    go : (b : Bool) → cond b (alone x ∷ text_stretches es xs) (lengthened x (text_stretches es xs)) ≡ [] → ⊥
    go true h = absurd (cc)
    go false h = lengthened-some x (text_stretches es xs) h

-- where an access begins there is a cut
cut-append : (begins : Bool) (es : List Entry) (xs ys : List Reached) → begins_at begins es (length xs) ≡ true
    → text_stretches es (xs ++ ys) ≡ text_stretches es xs ++ text_stretches (drop (length xs) es) ys
unfolding text_stretches
cut-append begins es [] ys h = refl
cut-append begins [] (x ∷ xs) ys h = absurd (cc)
cut-append begins (e ∷ es) (x ∷ xs) ys h =
    one_more e.ends x (text_stretches es (xs ++ ys)) (text_stretches es xs) (text_stretches (drop (length xs) es) ys)
    (cut-append e.ends es xs ys h)
    (λ inside. some_stretch es xs (subst (λ b. begins_at b es (length xs) ≡ true) inside h))

-- the bytes of one access are cut as by themselves
cut-access : (a n : ℕ) (es : List Entry) (xs : List Reached) → Runs a n es → length xs ≤ n → text_stretches es xs
    ≡ stretches xs
unfolding Runs text_stretches stretches
cut-access a n es [] run within = refl
cut-access a n [] (x ∷ xs) run within = absurd run
cut-access a zero (e ∷ es) (x ∷ xs) run within = absurd run
cut-access a (suc zero) (e ∷ es) (x ∷ []) run within = last e.ends
  where
    last : (b : Bool) → cond b (alone x ∷ []) (alone x ∷ []) ≡ alone x ∷ []
    last true = refl
    last false = refl
cut-access a (suc zero) (e ∷ es) (x ∷ y ∷ xs) run within = absurd (omega arith)
cut-access a (suc (suc n)) (e ∷ es) (x ∷ xs) (at, ends, more) within =
    ap (λ b. cond b (alone x ∷ text_stretches es xs) (lengthened x (text_stretches es xs))) ends
    ∙ ap (lengthened x) (cut-access (a + 1) (suc n) es xs more (omega arith))

-- entries after those of the bytes do not matter
cut-take : (n : ℕ) (es : List Entry) (xs : List Reached) → length xs ≤ n → text_stretches (take n es) xs
    ≡ text_stretches es xs
unfolding text_stretches
cut-take n es [] within = refl
cut-take zero es (x ∷ xs) within = absurd (omega arith)
cut-take (suc n) [] (x ∷ xs) within = refl
cut-take (suc n) (e ∷ es) (x ∷ xs) within =
    ap (λ (ss : List Stretch). cond e.ends (alone x ∷ ss) (lengthened x ss)) (cut-take n es xs (omega arith))

text_windows-take : (n : ℕ) (es : List Entry) (xs : List Reached) → length xs ≤ n → text_windows (take n es) xs
    ≡ text_windows es xs
text_windows-take n es xs within = ap (map window_of) (cut-take n es xs within)

pub text_windows-none : (es : List Entry) → text_windows es [] ≡ []
unfolding text_stretches
text_windows-none es = refl

-- an access has its own windows after those before it
pub text_windows-more : (regions : List Region) (route : Route) (access : Permissions) (most : ℕ) (es : List Entry)
    (total : ℕ) (reached ys : List Reached) (a n : ℕ) → SoFar regions route access (take most es) total reached
    → Runs a n (drop total (take most es)) → length ys ≤ n → total + n ≤ most
    → text_windows es (reached ++ ys) ≡ text_windows es reached ++ windows ys
text_windows-more regions route access most es total reached ys a n h run within fits =
    let cut = take most es in
    let some = runs-some a n (drop total cut) run in
    let inside = runs-within a n (drop total cut) run in
    let more : total < length cut = omega (arith, some, inside, length-drop total cut) in
    let begins : begins_at true cut (length reached) ≡ true = ap (begins_at true cut) h.count ∙ h.begins more in
    sym (text_windows-take most es (reached ++ ys) (omega (arith, h.count, length-append reached ys)))
    ∙ ap (map window_of) (cut-append true cut reached ys begins
    ∙ ap (λ k. text_stretches cut reached ++ text_stretches (drop k cut) ys) h.count
    ∙ ap (λ (ss : List Stretch). text_stretches cut reached ++ ss) (cut-access a n (drop total cut) ys run within))
    ∙ map-append window_of (text_stretches cut reached) (stretches ys)
    ∙ ap (λ ws. ws ++ windows ys) (text_windows-take most es reached (omega (arith, h.count)))

-- ---- the windows of a segment

before_rest : (x : Reached) (n : ℕ) (es : List Entry) (xs ys : List Reached)
    → (length xs ≡ suc n) ⊎ ((length xs < suc n) × (ys ≡ []))
    → lengthened x (stretches xs ++ text_stretches es ys) ≡ lengthened x (stretches xs) ++ text_stretches es ys
unfolding text_stretches stretches
before_rest x n es [] ys (inl h) = absurd (omega arith)
before_rest x n es [] ys (inr h) = rw h.1 refl
before_rest x n es (y ∷ xs) ys h =
    lengthened-append x (lengthened y (stretches xs)) (text_stretches es ys) (lengthened-some y (stretches xs))

one_fewer : (k n : ℕ) (ys : List Reached) → (suc k ≡ suc n) ⊎ ((suc k < suc n) × (ys ≡ []))
    → (k ≡ n) ⊎ ((k < n) × (ys ≡ []))
one_fewer k n ys (inl h) = inl (omega arith)
one_fewer k n ys (inr h) = inr (omega (arith, h.0), h.1)

-- the bytes of a segment are cut as by themselves, and from those of the segments after it
cut-segment : (a len : ℕ) (es : List Entry) (xs ys : List Reached)
    → (length xs ≡ len) ⊎ ((length xs < len) × (ys ≡ []))
    → text_stretches (entries_from a len ++ es) (xs ++ ys) ≡ stretches xs ++ text_stretches es ys
unfolding text_stretches stretches entries_from
cut-segment a zero es [] ys h = refl
cut-segment a zero es (x ∷ xs) ys (inl h) = absurd (omega arith)
cut-segment a zero es (x ∷ xs) ys (inr h) = absurd (omega (arith, h.0))
cut-segment a (suc len) es [] ys (inl h) = absurd (omega arith)
cut-segment a (suc len) es [] ys (inr h) = rw h.1 refl
cut-segment a (suc zero) es (x ∷ []) ys h = refl
cut-segment a (suc zero) es (x ∷ y ∷ xs) ys (inl h) = absurd (omega arith)
cut-segment a (suc zero) es (x ∷ y ∷ xs) ys (inr h) = absurd (omega (arith, h.0))
cut-segment a (suc (suc len)) es (x ∷ xs) ys h =
    let rest = one_fewer (length xs) (suc len) ys h in
    ap (lengthened x) (cut-segment (a + 1) (suc len) es xs ys rest) ∙ before_rest x len es xs ys rest

pub text_windows-segment : (s : Segment) (es : List Entry) (xs ys : List Reached)
    → (length xs ≡ s.len) ⊎ ((length xs < s.len) × (ys ≡ []))
    → text_windows (entries_from s.addr.0 s.len ++ es) (xs ++ ys) ≡ windows xs ++ text_windows es ys
text_windows-segment s es xs ys h =
    ap (map window_of) (cut-segment s.addr.0 s.len es xs ys h)
    ∙ map-append window_of (stretches xs) (text_stretches es ys)
