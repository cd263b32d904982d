-- What following `next` gives is what linked descriptors tell of.
use Rattle.std.proofs.Common.{◌≡◌, ◌⊎◌, ◌∙◌, ℕ, zero, suc, ◌<◌, ◌≤◌, nat_lt, Bool, true, false, not, ◌||◌, if◌then◌else◌, List, [], ◌∷◌, length, Some, None, Result, Ok, Err, ap, inl, inr, refl, subst, sym, arith, lt-ltb, le-ltb}
use borrow.Author.Tests.{ltb-true}
use Rattle.virtio_queue.specs.Available.{Followed, entry, followed, prefixed}
use Rattle.virtio_queue.specs.Descriptor.{has_next, is_indirect, segment_of}
use Rattle.virtio_queue.specs.Linked.{AreLinked, LeadsTo, is_last, told_by}
use Rattle.virtio_queue.specs.declared.descriptor.Descriptor.{Descriptor}
use Rattle.virtio_queue.specs.declared.error.QueueError.{QueueError}
use Rattle.virtio_queue.specs.declared.error.QueueError.TheVariants as errors

module _ (descriptor : ℕ → Result Descriptor QueueError) (len : ℕ) where
  -- a turn, where a descriptor is there
  turn : (most i : ℕ) (d : Descriptor) → entry descriptor len i ≡ Ok d → followed descriptor len (suc most) i
      ≡ (if is_indirect d then Ok (record { segments = []; indirect = Some d })
      else if has_next d then prefixed (segment_of d ∷ []) (followed descriptor len most d.next)
      else Ok (record { segments = segment_of d ∷ []; indirect = None }))
  unfolding followed
  turn most i d e = rw e refl

  refused_turn : (most i : ℕ) (x : QueueError) → entry descriptor len i ≡ Err x
      → followed descriptor len (suc most) i ≡ Err x
  unfolding followed
  refused_turn most i x e = rw e refl

  last_turn : (most i : ℕ) (d : Descriptor) → entry descriptor len i ≡ Ok d → is_last d ≡ true
      → followed descriptor len (suc most) i ≡ Ok (told_by (d ∷ []))
  last_turn most i d e last = turn most i d e ∙ go (is_indirect d) (has_next d) last
    where
      go : (a b : Bool) → (a || not b) ≡ true
          → (if a then Ok (record { segments = []; indirect = Some d })
          else if b then prefixed (segment_of d ∷ []) (followed descriptor len most d.next)
          else Ok (record { segments = segment_of d ∷ []; indirect = None }))
          ≡ Ok (if a then record { segments = []; indirect = Some d }
          else record { segments = segment_of d ∷ []; indirect = None })
      go true b h = refl
      go false false h = refl
      go false true h = absurd (cc)

  next_turn : (most i : ℕ) (d : Descriptor) → entry descriptor len i ≡ Ok d → is_last d ≡ false
      → (followed descriptor len (suc most) i ≡ prefixed (segment_of d ∷ []) (followed descriptor len most d.next))
      × (is_indirect d ≡ false)
  next_turn most i d e last = let p = go (is_indirect d) (has_next d) last in (turn most i d e ∙ p.0, p.1)
    where
      go : (a b : Bool) → (a || not b) ≡ false
          → ((if a then Ok (record { segments = []; indirect = Some d })
          else if b then prefixed (segment_of d ∷ []) (followed descriptor len most d.next)
          else Ok (record { segments = segment_of d ∷ []; indirect = None }))
          ≡ prefixed (segment_of d ∷ []) (followed descriptor len most d.next)) × (a ≡ false)
      go true b h = absurd (cc)
      go false false h = absurd (cc)
      go false true h = (refl, refl)

  direct_told : (d : Descriptor) (ds : List Descriptor) → is_indirect d ≡ false
      → told_by (d ∷ ds) ≡ record { segments = segment_of d ∷ (told_by ds).segments; indirect = (told_by ds).indirect }
  direct_told d ds e = rw e refl

  -- linked descriptors, at most so many, are what is followed
  pub linked_are_followed : (most i : ℕ) (ds : List Descriptor) → AreLinked descriptor len i ds → length ds ≤ most
      → followed descriptor len most i ≡ Ok (told_by ds)
  unfolding AreLinked
  linked_are_followed most i [] h k = absurd h
  linked_are_followed zero i (d ∷ ds) h k = absurd (omega arith)
  linked_are_followed (suc most) i (d ∷ []) (e, last) k = last_turn most i d e last
  linked_are_followed (suc most) i (d ∷ x ∷ ds) (e, last, rest) k =
      let p = next_turn most i d e last in
      p.0 ∙ ap (prefixed (segment_of d ∷ [])) (linked_are_followed most d.next (x ∷ ds) rest (omega arith))
      ∙ ap Ok (sym (direct_told d (x ∷ ds) p.1))

  -- an index past the table
  past : (i : ℕ) → len ≤ i → entry descriptor len i ≡ Err errors.InvalidDescriptorIndex
  past i h = rw (le-ltb i len h) refl

  -- as many as are allowed lead to one more
  pub leads_to_loop : (most i j : ℕ) (ds : List Descriptor) → LeadsTo descriptor len i ds j → length ds ≡ most
      → j < len → followed descriptor len most i ≡ Err errors.DescriptorLoop
  unfolding LeadsTo followed
  leads_to_loop zero i j [] h k s = rw (h, lt-ltb j len s) refl
  leads_to_loop (suc most) i j [] h k s = absurd (omega (arith, k))
  leads_to_loop zero i j (d ∷ ds) h k s = absurd (omega (arith, k))
  leads_to_loop (suc most) i j (d ∷ ds) (e, last, rest) k s =
      (next_turn most i d e last).0
      ∙ ap (prefixed (segment_of d ∷ [])) (leads_to_loop most d.next j ds rest (omega (arith, k)) s)

  -- fewer lead to where no descriptor can be read
  pub leads_to_error : (most i j : ℕ) (ds : List Descriptor) (x : QueueError) → LeadsTo descriptor len i ds j
      → length ds < most → entry descriptor len j ≡ Err x → followed descriptor len most i ≡ Err x
  unfolding LeadsTo
  leads_to_error zero i j ds x h k s = absurd (omega (arith, k))
  leads_to_error (suc most) i j [] x h k s = refused_turn most i x (ap (entry descriptor len) h ∙ s)
  leads_to_error (suc most) i j (d ∷ ds) x (e, last, rest) k s =
      (next_turn most i d e last).0
      ∙ ap (prefixed (segment_of d ∷ [])) (leads_to_error most d.next j ds x rest (omega (arith, k)) s)

  pub leads_past : (most i j : ℕ) (ds : List Descriptor) → LeadsTo descriptor len i ds j → length ds ≤ most → len ≤ j
      → followed descriptor len most i ≡ Err errors.InvalidDescriptorIndex
  unfolding LeadsTo followed
  leads_past zero i j [] h k s = rw (h, le-ltb j len s) refl
  leads_past (suc most) i j [] h k s =
      refused_turn most i errors.InvalidDescriptorIndex (ap (entry descriptor len) h ∙ past j s)
  leads_past zero i j (d ∷ ds) h k s = absurd (omega (arith, k))
  leads_past (suc most) i j (d ∷ ds) (e, last, rest) k s =
      (next_turn most i d e last).0
      ∙ ap (prefixed (segment_of d ∷ [])) (leads_past most d.next j ds rest (omega (arith, k)) s)

  -- where following is refused
  abbrev Ends : ℕ → QueueError → List Descriptor → ℕ → Type 0
  Ends most x ds j = ((length ds ≡ most) × (j < len) × (x ≡ errors.DescriptorLoop))
      ⊎ ((length ds ≤ most) × (entry descriptor len j ≡ Err x))

  abbrev Leads : ℕ → ℕ → QueueError → Type 0
  Leads most i x = (ds : List Descriptor) × (j : ℕ) × LeadsTo descriptor len i ds j × Ends most x ds j

  here : (most i : ℕ) (x : QueueError) → Ends most x [] i → Leads most i x
  unfolding LeadsTo
  here most i x ends = ([], i, refl, ends)

  one_after : (most i : ℕ) (x : QueueError) (d : Descriptor) → entry descriptor len i ≡ Ok d → is_last d ≡ false
      → Leads most d.next x → Leads (suc most) i x
  unfolding LeadsTo
  one_after most i x d e last (ds, j, leads, ends) = (d ∷ ds, j, (e, last, leads), more ends)
    where
      more : Ends most x ds j → Ends (suc most) x (d ∷ ds) j
      more (inl (all, within, is)) = inl (ap suc all, within, is)
      more (inr (few, is)) = inr (omega (arith, few), is)

  no_more : (i : ℕ) (x : QueueError) → (b : Bool) → nat_lt i len ≡ b
      → ◌≡◌ {A = Result Followed QueueError}
      (if b then Err errors.DescriptorLoop else Err errors.InvalidDescriptorIndex) (Err x) → Leads 0 i x
  no_more i x true e h =
      let is : x ≡ errors.DescriptorLoop = cc in here 0 i x (inl (refl, ltb-true i len e, is))
  no_more i x false e h =
      let is : x ≡ errors.InvalidDescriptorIndex = cc in
      let outside : entry descriptor len i ≡ Err x = rw (e, is) refl in here 0 i x (inr (omega arith, outside))

  after_refused : (r : Result Followed QueueError) (d : Descriptor) (x : QueueError)
      → prefixed (segment_of d ∷ []) r ≡ Err x → r ≡ Err x
  after_refused (Ok f) d x is = absurd (cc)
  after_refused (Err y) d x is = cc

  -- a chain that is refused at its first descriptor, or after it
  module _ (most i : ℕ) (x : QueueError) (h : followed descriptor len (suc most) i ≡ Err x)
      (later : (j : ℕ) → followed descriptor len most j ≡ Err x → Leads most j x) where
    ended_refused : (d : Descriptor) → entry descriptor len i ≡ Ok d → (b : Bool) → is_last d ≡ b
        → Leads (suc most) i x
    ended_refused d e true last =
        let no : ◌≡◌ {A = Result Followed QueueError} (Ok (told_by (d ∷ []))) (Err x) =
        sym (last_turn most i d e last) ∙ h in absurd (cc)
    ended_refused d e false last =
        let behind = after_refused (followed descriptor len most d.next) d x
        (sym (next_turn most i d e last).0 ∙ h) in
        one_after most i x d e last (later d.next behind)

    met_refused : (r : Result Descriptor QueueError) → entry descriptor len i ≡ r → Leads (suc most) i x
    met_refused (Ok d) e = ended_refused d e (is_last d) refl
    met_refused (Err y) e =
        let same : ◌≡◌ {A = Result Followed QueueError} (Err y) (Err x) = sym (refused_turn most i y e) ∙ h in
        let one : y ≡ x = cc in
        here (suc most) i x (inr (omega arith, subst (λ z. entry descriptor len i ≡ Err z) one e))

  pub refused_leads : (most i : ℕ) (x : QueueError) → followed descriptor len most i ≡ Err x → Leads most i x
  unfolding followed
  refused_leads zero i x h = no_more i x (nat_lt i len) refl h
  refused_leads (suc most) i x h =
      met_refused most i x h (λ j is. refused_leads most j x is) (entry descriptor len i) refl

  -- what is followed is what some linked descriptors tell of
  abbrev Linked : ℕ → ℕ → Followed → Type 0
  Linked most i f = (ds : List Descriptor) × AreLinked descriptor len i ds × (length ds ≤ most) × (f ≡ told_by ds)

  one : (most i : ℕ) (d : Descriptor) (f : Followed) → entry descriptor len i ≡ Ok d → is_last d ≡ true
      → f ≡ told_by (d ∷ []) → Linked (suc most) i f
  unfolding AreLinked
  one most i d f e last is = (d ∷ [], (e, last), omega arith, is)

  one_more : (most i : ℕ) (d : Descriptor) (f g : Followed) → entry descriptor len i ≡ Ok d → is_last d ≡ false
      → is_indirect d ≡ false → Ok f ≡ prefixed (segment_of d ∷ []) (Ok g) → Linked most d.next g
      → Linked (suc most) i f
  unfolding AreLinked
  one_more most i d f g e last direct is ([], linked, few, told) = absurd linked
  one_more most i d f g e last direct is (x ∷ ds, linked, few, told) =
      let same : f ≡ record { segments = segment_of d ∷ g.segments; indirect = g.indirect } = cc in (
        d ∷ x ∷ ds,
        (e, last, linked),
        omega (arith, few),
        same ∙ ap (λ (h : Followed). record { segments = segment_of d ∷ h.segments; indirect = h.indirect }) told
            ∙ sym (direct_told d (x ∷ ds) direct),
      )

  -- the rest of a chain whose later part is linked
  module _ (most i : ℕ) (f : Followed) (h : followed descriptor len (suc most) i ≡ Ok f) where
    on : (d : Descriptor) → entry descriptor len i ≡ Ok d → is_last d ≡ false → is_indirect d ≡ false
        → (r : Result Followed QueueError) → followed descriptor len most d.next ≡ r
        → prefixed (segment_of d ∷ []) r ≡ Ok f
        → ((j : ℕ) (g : Followed) → followed descriptor len most j ≡ Ok g → Linked most j g) → Linked (suc most) i f
    on d e last direct (Ok g) is same later =
        one_more most i d f g e last direct (sym same) (later d.next g is)
    on d e last direct (Err x) is same later = absurd (cc)

    ended : (d : Descriptor) → entry descriptor len i ≡ Ok d → (b : Bool) → is_last d ≡ b
        → ((j : ℕ) (g : Followed) → followed descriptor len most j ≡ Ok g → Linked most j g) → Linked (suc most) i f
    ended d e true last later =
        let is : Ok f ≡ Ok (told_by (d ∷ [])) = sym h ∙ last_turn most i d e last in
        let same : f ≡ told_by (d ∷ []) = cc in one most i d f e last same
    ended d e false last later =
        let p = next_turn most i d e last in
        on d e last p.1 (followed descriptor len most d.next) refl (sym p.0 ∙ h) later

    met : (r : Result Descriptor QueueError) → entry descriptor len i ≡ r
        → ((j : ℕ) (g : Followed) → followed descriptor len most j ≡ Ok g → Linked most j g) → Linked (suc most) i f
    met (Ok d) e later = ended d e (is_last d) refl later
    met (Err x) e later =
        let same : Err x ≡ Ok f = sym (refused_turn most i x e) ∙ h in absurd (cc)

  pub followed_are_linked : (most i : ℕ) (f : Followed) → followed descriptor len most i ≡ Ok f → Linked most i f
  unfolding followed
  followed_are_linked zero i f h = none (nat_lt i len) h
    where
      none : (b : Bool) → (if b then Err errors.DescriptorLoop else Err errors.InvalidDescriptorIndex) ≡ Ok f
          → Linked zero i f
      none true h = absurd (cc)
      none false h = absurd (cc)
  followed_are_linked (suc most) i f h =
      met most i f h (entry descriptor len i) refl (λ j k is. followed_are_linked most j k is)
