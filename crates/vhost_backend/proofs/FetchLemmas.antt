-- Chains of guest addresses, byte by byte.
use Rattle.std.proofs.Common.{◌≡◌, ◌∙◌, ℕ, zero, suc, ◌+◌, ◌-◌, ◌%◌, ◌^◌, ◌<◌, ◌≤◌, Bool, true, false, not, eqb, ltb, leb, List, [], ◌∷◌, ◌++◌, length, drop, map, append_assoc, Option, Some, None, option_to_list, is_none, Result, Ok, Err, IfOk, IfSome, refl, sym, ap, subst, inl, inr, ◌⊎◌, if◌then◌else◌, arith}
use Rattle.std.proofs.lemmas.Bool.{and_parts, cases_Bool, eqb-true, leb-false, ltb-false, ltb-true}
use Rattle.std.proofs.lemmas.List.{append-nil, drop-map, length-append, length-map, map-append}
use Rattle.std.proofs.Math.Seq.{drop-append_seam}
use Rattle.std.proofs.lemmas.List.Elements.{All-cons, All-head, All-nil, All-tail}
use Rattle.std.specs.List.{All, flat_map, list_all, list_any, slice_get}
use Rattle.std.specs.Option.{option_or}
use Rattle.vm_memory_base.specs.Address.{numbers, step}
use Rattle.vm_memory_base.specs.Table.{Says}
use Rattle.vm_memory_base.specs.declared.iotlb.Permissions.{Permissions}
use Rattle.vm_memory_base.specs.declared.iotlb.Permissions.TheVariants.{Read, Write}
use Rattle.vm_memory_base.proofs.PagesLaws.{numbers-append}
use Rattle.vm_memory_device.specs.Chain.{Entry, chain_fault, entries_from, fault_after, readable, text, writable}
use Rattle.vm_memory_device.specs.declared.chain.ChainFault.{ChainFault}
use Rattle.vm_memory_device.specs.declared.chain.Segment.{Segment}
use Rattle.vhost_iotlb.specs.Kept.{IsCurrent}
use Rattle.vhost_iotlb.specs.Leads.{LeadOn, LeadsTo}
use Rattle.vhost_iotlb.specs.Taking.{AreReal, Covers, StopsAt, left}
use Rattle.vhost_iotlb.specs.declared.kept.Kept.{Kept}
use Rattle.vhost_iotlb.specs.declared.taking.Progress.{Progress}
use Rattle.vhost_iotlb.specs.declared.taking.Progress.TheVariants as progress
use Rattle.vhost_iotlb.specs.declared.taking.Want.{Want}
use Rattle.vhost_backend.specs.Fetch.{AllLead, Awaits, FetchState, GoesOn, IsFor, IsFound, IsStatusOf, IsTranslated, LeadsAs, TakesWhatCame, access_of, chain_wants, guest_chain, guest_segment, guest_segments, is_long, is_real, is_write, last_want, state_by, status_want, want}
use Rattle.vhost_backend.specs.declared.fetch.Goal.{Goal}
use Rattle.vhost_backend.specs.declared.fetch.Goal.TheVariants.{Ring, Rows, Chain, Status}
use Rattle.vhost_backend.specs.declared.fetch.State.{State}
use Rattle.vhost_backend.specs.declared.fetch.State.TheVariants as state
use Rattle.vhost_backend.specs.PageList.{capped}
use Rattle.vhost_backend.specs.Pieces.{side}

-- ---- addresses that lead to addresses

abbrev Lead : Says → Permissions → List ℕ → List ℕ → Type 0
Lead f access [] [] = Unit {0}
Lead f access [] (y ∷ ys) = ⊥
Lead f access (x ∷ xs) [] = ⊥
Lead f access (x ∷ xs) (y ∷ ys) = LeadsTo f x y access × Lead f access xs ys

Lead-append : (f : Says) (access : Permissions) (xs ys us vs : List ℕ) → Lead f access xs ys → Lead f access us vs
    → Lead f access (xs ++ us) (ys ++ vs)
Lead-append f access [] [] us vs h g = g
Lead-append f access [] (y ∷ ys) us vs h g = absurd h
Lead-append f access (x ∷ xs) [] us vs h g = absurd h
Lead-append f access (x ∷ xs) (y ∷ ys) us vs h g = (h.0, Lead-append f access xs ys us vs h.1 g)

-- N addresses that lead on
range_leads : (f : Says) (a n to : ℕ) (access : Permissions) → to + n ≤ 2 ^ 64 → LeadOn f a n to access
    → Lead f access (numbers a n) (numbers to n)
range_leads f a zero to access ends h = tt
range_leads f a (suc n) to access ends h = (
  let at : a + 0 ≡ a = omega arith in
      let there : step to 0 ≡ to = omega arith in
      rw (at, there) at (h 0 (omega arith)),
  range_leads f (a + 1) n (to + 1) access (omega arith) (λ i l.
      let at : a + 1 + i ≡ a + suc i = omega arith in
      let there : step (to + 1) i ≡ step to (suc i) = ap (λ (x : ℕ). x % 2 ^ 64) (omega arith) in
      rw (at, there) (h (suc i) (omega arith))),
)

-- ---- one side of a chain

-- whether what is written or not is of a side
abbrev is_on : Bool → Bool → Bool
is_on true writes = writes
is_on false writes = not writes

abbrev addresses_of : List Entry → List ℕ
addresses_of es = map (λ e. e.address) es

addresses_of-entries : (a n : ℕ) → addresses_of (entries_from a n) ≡ numbers a n
unfolding entries_from
addresses_of-entries a zero = refl
addresses_of-entries a (suc zero) = refl
addresses_of-entries a (suc (suc n)) = ap (λ (xs : List ℕ). a ∷ xs) (addresses_of-entries (a + 1) (suc n))

-- the addresses of a segment, if it is of a side
abbrev on_side : Bool → Bool → ℕ → ℕ → List ℕ
on_side b writes a n = if is_on b writes then numbers a n else []

abbrev segment_side : Bool → Segment → List ℕ
segment_side b s = on_side b s.writable s.addr.0 s.len

segment_text : (b : Bool) (s : Segment) (ss : List Segment)
    → addresses_of (text (side b ss)) ≡ flat_map (segment_side b) ss
    → addresses_of (entries_from s.addr.0 s.len ++ text (side b ss))
    ≡ numbers s.addr.0 s.len ++ flat_map (segment_side b) ss
segment_text b s ss rest = map-append (λ e. e.address) (entries_from s.addr.0 s.len) (text (side b ss))
    ∙ ap (λ (xs : List ℕ). xs ++ addresses_of (text (side b ss))) (addresses_of-entries s.addr.0 s.len)
    ∙ ap (λ (xs : List ℕ). numbers s.addr.0 s.len ++ xs) rest

text_side : (b : Bool) (ss : List Segment) → addresses_of (text (side b ss)) ≡ flat_map (segment_side b) ss
text_side true [] = refl
text_side false [] = refl
text_side true (s ∷ ss) = elim (cases_Bool s.writable) [
  | inl t ↦ rw t (segment_text true s ss (text_side true ss))
  | inr t ↦ rw t (text_side true ss)
]
text_side false (s ∷ ss) = elim (cases_Bool s.writable) [
  | inl t ↦ rw t (text_side false ss)
  | inr t ↦ rw t (segment_text false s ss (text_side false ss))
]

-- ---- one side of what is wanted, and of what was found

abbrev want_side : Bool → Want → List ℕ
want_side b w = on_side b (is_write w.access) w.iova w.len

abbrev kept_side : Bool → Kept → List ℕ
kept_side b k = on_side b (is_write k.access) k.base k.len

is_write-access_of : (b : Bool) → is_write (access_of b) ≡ b
is_write-access_of true = refl
is_write-access_of false = refl

-- a segment without bytes has none on either side
none_on_side : (b v : Bool) (a n : ℕ) → n ≡ 0 → on_side b v a n ≡ []
none_on_side b v a n none = rw none (elim (cases_Bool (is_on b v)) [ inl t ↦ rw t refl | inr t ↦ rw t refl ])

wants_side : (b : Bool) (ss : List Segment)
    → flat_map (want_side b) (chain_wants ss) ≡ flat_map (segment_side b) ss
wants_side b [] = refl
wants_side b (s ∷ ss) = elim (cases_Bool (ltb 0 s.len)) [
  | inl t ↦ rw (t, is_write-access_of s.writable) (ap (λ (xs : List ℕ). segment_side b s ++ xs) (wants_side b ss))
  | inr t ↦
      let none : s.len ≡ 0 = omega (arith, ltb-false 0 s.len t) in
      rw (t, none_on_side b s.writable s.addr.0 s.len none) (wants_side b ss)
]

segments_side : (b : Bool) (ks : List Kept)
    → flat_map (segment_side b) (guest_segments ks) ≡ flat_map (kept_side b) ks
segments_side b [] = refl
segments_side b (k ∷ ks) = ap (λ (xs : List ℕ). kept_side b k ++ xs) (segments_side b ks)

-- ---- wants that are read or written

abbrev ArePlain : List Want → Type 0
ArePlain [] = Unit {0}
ArePlain (w ∷ ws) = (w.access ≡ access_of (is_write w.access)) × ArePlain ws

plain_access : (b : Bool) → access_of b ≡ access_of (is_write (access_of b))
plain_access b = rw (is_write-access_of b) refl

wants_plain : (ss : List Segment) → ArePlain (chain_wants ss)
wants_plain [] = tt
wants_plain (s ∷ ss) = elim (cases_Bool (ltb 0 s.len)) [
  | inl t ↦ rw t (plain_access s.writable, wants_plain ss)
  | inr t ↦ rw t (wants_plain ss)
]

-- what is on a side is of its access
side_access : (b : Bool) (access : Permissions) → access ≡ access_of (is_write access)
    → is_on b (is_write access) ≡ true → access ≡ access_of b
side_access true access plain on = plain ∙ ap access_of on
side_access false access plain on =
    let reads : is_write access ≡ false = elim (cases_Bool (is_write access)) [
      | inl t ↦ let bad : false ≡ true = rw t at on in absurd (cc)
      | inr t ↦ t
    ] in
    plain ∙ ap access_of reads

-- ---- guest segments end at addresses

abbrev Ends : List Kept → Type 0
Ends [] = Unit {0}
Ends (k ∷ ks) = (k.base + k.len ≤ 2 ^ 64) × Ends ks

option_or-is_none : (o p : Option ChainFault) → option_or o p ≡ None → p ≡ None
option_or-is_none None p e = e
option_or-is_none (Some x) p e = absurd (cc)

ends_of : (before : List Segment) (ks : List Kept) → fault_after before (guest_segments ks) ≡ None → Ends ks
unfolding fault_after
ends_of before [] e = tt
ends_of before (k ∷ ks) e = (
  elim (cases_Bool (leb (2 ^ 64) (k.base + k.len))) [
    | inl t ↦ let bad = rw t at e in absurd (cc)
    | inr t ↦ omega (arith, leb-false (2 ^ 64) (k.base + k.len) t)
  ],
  ends_of (before ++ guest_segment k ∷ []) ks (option_or-is_none _ _ e),
)

-- ---- the bytes of what is kept lie where those lead that are wanted

-- those of a side that are left of wants, from this byte of the first one on
abbrev side_left : Bool → ℕ → List Want → List ℕ
side_left b from [] = []
side_left b from (w ∷ ws) =
    on_side b (is_write w.access) (w.iova + from) (w.len - from) ++ flat_map (want_side b) ws

all_left : (b : Bool) (ws : List Want) → side_left b 0 ws ≡ flat_map (want_side b) ws
all_left b [] = refl
all_left b (w ∷ ws) =
    let from : w.iova + 0 ≡ w.iova = omega arith in
    let len : w.len - 0 ≡ w.len = omega arith in
    rw (from, len) refl

-- a part of a side that is cut
cut_side : (b v : Bool) (a m n : ℕ) → on_side b v a (m + n) ≡ on_side b v a m ++ on_side b v (a + m) n
cut_side b v a m n = elim (cases_Bool (is_on b v)) [
  | inl t ↦ rw t (numbers-append a m n)
  | inr t ↦ rw t refl
]

kept_leads : (f : Says) (b : Bool) (k : Kept) → IsCurrent f k → k.base + k.len ≤ 2 ^ 64
    → k.access ≡ access_of (is_write k.access)
    → Lead f (access_of b) (on_side b (is_write k.access) k.iova k.len) (kept_side b k)
kept_leads f b k current ends plain = elim (cases_Bool (is_on b (is_write k.access))) [
  | inl t ↦ rw t (subst (λ (a : Permissions). Lead f a (numbers k.iova k.len) (numbers k.base k.len))
      (side_access b k.access plain t) (range_leads f k.iova k.len k.base k.access ends current))
  | inr t ↦ rw t tt
]

found_leads : (f : Says) (b : Bool) (ws : List Want) (from : ℕ) (ks : List Kept) → Covers ws from ks
    → (left ws from ks).0 ≡ [] → All (IsCurrent f) ks → Ends ks → ArePlain ws
    → Lead f (access_of b) (side_left b from ws) (flat_map (kept_side b) ks)
found_leads f b [] from [] h none current ends plain = tt
found_leads f b (w ∷ ws) from [] h none current ends plain = absurd cc
found_leads f b [] from (k ∷ ks) h none current ends plain = absurd h
found_leads f b (w ∷ ws) from (k ∷ ks) h none current ends plain =
    let part = h.0 in
    let rests = All-tail (IsCurrent f) k ks current in
    let here = subst (λ (x : ℕ). Lead f (access_of b) (on_side b (is_write k.access) x k.len) (kept_side b k)) part.0
    (kept_leads f b k (All-head (IsCurrent f) k ks current) ends.0
    (subst (λ (a : Permissions). a ≡ access_of (is_write a)) (sym part.1) plain.0)) in
    let first : Lead f (access_of b) (on_side b (is_write w.access) (w.iova + from) k.len) (kept_side b k) =
    subst (λ (a : Permissions). Lead f (access_of b) (on_side b (is_write a) (w.iova + from) k.len) (kept_side b k))
    part.1 here in
    elim (cases_Bool (eqb (from + k.len) w.len)) [
      | inl t ↦
          let ends_here = eqb-true (from + k.len) w.len t in
          let len : w.len - from ≡ k.len = omega (arith, ends_here) in
          let rest = subst (λ (xs : List ℕ). Lead f (access_of b) xs (flat_map (kept_side b) ks)) (all_left b ws)
          (found_leads f b ws 0 ks (rw t at h.1) (rw t at none) rests ends.1 plain.1) in
          rw len (Lead-append f (access_of b) (on_side b (is_write w.access) (w.iova + from) k.len) (kept_side b k)
          (flat_map (want_side b) ws) (flat_map (kept_side b) ks) first rest)
      | inr t ↦
          let rest = found_leads f b (w ∷ ws) (from + k.len) ks (rw t at h.1) (rw t at none) rests ends.1 plain in
          let on : w.iova + from + k.len ≡ w.iova + (from + k.len) = omega arith in
          let len : w.len - from ≡ k.len + (w.len - (from + k.len)) = omega (arith, part.3) in
          let cut = cut_side b (is_write w.access) (w.iova + from) k.len (w.len - (from + k.len)) in
          rw (len, cut, on, append_assoc)
          (Lead-append f (access_of b) (on_side b (is_write w.access) (w.iova + from) k.len) (kept_side b k)
          (side_left b (from + k.len) (w ∷ ws)) (flat_map (kept_side b) ks) first rest)
    ]

-- ---- texts

Lead-length : (f : Says) (access : Permissions) (xs ys : List ℕ) → Lead f access xs ys → length ys ≡ length xs
Lead-length f access [] [] h = refl
Lead-length f access [] (y ∷ ys) h = absurd h
Lead-length f access (x ∷ xs) [] h = absurd h
Lead-length f access (x ∷ xs) (y ∷ ys) h = ap suc (Lead-length f access xs ys h.1)

Lead-at : (f : Says) (access : Permissions) (es gs : List Entry) → Lead f access (addresses_of es) (addresses_of gs)
    → (k : ℕ) (x y : Entry) → slice_get es k ≡ Some x → slice_get gs k ≡ Some y → LeadsTo f x.address y.address access
Lead-at f access [] gs h k x y at there = absurd (cc)
Lead-at f access (e ∷ es) [] h k x y at there = absurd h
Lead-at f access (e ∷ es) (g ∷ gs) h zero x y at there =
    let from : e ≡ x = cc in
    let to : g ≡ y = cc in
    subst (λ (v : Entry). LeadsTo f v.address y.address access) from
    (subst (λ (v : Entry). LeadsTo f e.address v.address access) to h.0)
Lead-at f access (e ∷ es) (g ∷ gs) h (suc k) x y at there = Lead-at f access es gs h.1 k x y at there

all_lead : (f : Says) (access : Permissions) (es gs : List Entry)
    → Lead f access (addresses_of es) (addresses_of gs) → AllLead f access es gs
all_lead f access es gs h = record {
  lens = sym (length-map gs (λ e. e.address)) ∙ Lead-length f access (addresses_of es) (addresses_of gs) h
      ∙ length-map es (λ e. e.address);
  bytes = Lead-at f access es gs h;
}

-- ---- the chain that was found

abbrev IsMade : List Kept → List Segment → Type 0
IsMade ks guest = (guest ≡ guest_segments ks) × Ends ks

chain_made : (ks : List Kept) (guest ss : List Segment) (v : Option ChainFault) → ss ≡ guest_segments ks
    → chain_fault ss ≡ v → (if is_none v then Some ss else None) ≡ Some guest → IsMade ks guest
chain_made ks guest ss None made ok is =
    let same : ss ≡ guest = cc in
    (sym same ∙ made, ends_of [] ks (ap chain_fault (sym made) ∙ ok))
chain_made ks guest ss (Some x) made ok is = absurd (cc)

guest_made : (ks : List Kept) (guest : List Segment) → guest_chain ks ≡ Some guest → IsMade ks guest
guest_made ks guest is = elim (cases_Bool (list_any is_long ks)) [
  | inl t ↦ let bad = rw t at is in absurd (cc)
  | inr t ↦ chain_made ks guest (guest_segments ks) (chain_fault (guest_segments ks)) refl refl (rw t at is)
]

side_leads : (f : Says) (b : Bool) (ws : List Want) (ks : List Kept) (guest : List Segment) → IsFound ws ks
    → All (IsCurrent f) ks → ArePlain ws → IsMade ks guest
    → Lead f (access_of b) (flat_map (want_side b) ws) (addresses_of (text (side b guest)))
side_leads f b ws ks guest found current plain made =
    let there : addresses_of (text (side b guest)) ≡ flat_map (kept_side b) ks =
    text_side b guest ∙ ap (flat_map (segment_side b)) made.0 ∙ segments_side b ks in
    rw (there, ← all_left b ws) (found_leads f b ws 0 ks found.0 found.1 current made.1 plain)

pub whole_leads : (f : Says) (driver guest : List Segment) (ks : List Kept) → IsFound (chain_wants driver) ks
    → All (IsCurrent f) ks → guest_chain ks ≡ Some guest → IsTranslated f driver guest
whole_leads f driver guest ks found current is b =
    let from : addresses_of (text (side b driver)) ≡ flat_map (want_side b) (chain_wants driver) =
    text_side b driver ∙ sym (wants_side b driver) in
    all_lead f (access_of b) (text (side b driver)) (text (side b guest))
    (rw from (side_leads f b (chain_wants driver) ks guest found current (wants_plain driver) (guest_made ks guest is)))

-- ---- the status alone

-- the last address that is written, and those before it
abbrev EndsWith : List Want → List ℕ → Type 0
EndsWith [] xs = xs ≡ []
EndsWith (w ∷ ws) xs = (before : List ℕ) × (xs ≡ before ++ w.iova ∷ []) × (ws ≡ []) × (w.access ≡ Write) × (w.len ≡ 1)

-- the last byte of a range
last_number : (a n : ℕ) → 0 < n → numbers a n ≡ numbers a (n - 1) ++ (a + (n - 1)) ∷ []
last_number a n some =
    let len : n ≡ n - 1 + 1 = omega arith in
    ap (numbers a) len ∙ numbers-append a (n - 1) 1

-- no address is greater than this one, if that is an address
not_capped : (a : ℕ) → capped a + 1 < 2 ^ 64 → capped a ≡ a
not_capped a real = omega arith

segment_ends : (s : Segment) → AreReal (option_to_list (last_want s))
    → EndsWith (option_to_list (last_want s)) (segment_side true s)
segment_ends s real = elim (cases_Bool s.writable) [
  | inl t ↦ elim (cases_Bool (ltb 0 s.len)) [
    | inl some ↦
        let wanted : AreReal (want (capped (s.addr.0 + (s.len - 1))) 1 Write ∷ []) = rw (t, some) at real in
        let first = All-head (λ w. (0 < w.len) × (w.iova + w.len < 2 ^ 64)) (want (capped (s.addr.0 + (s.len - 1))) 1 Write)
        [] wanted in
        let there = not_capped (s.addr.0 + (s.len - 1)) first.1 in
        rw (t, some, there) (
          numbers s.addr.0 (s.len - 1),
          last_number s.addr.0 s.len (ltb-true 0 s.len some),
          refl,
          refl,
          refl,
        )
    | inr none ↦
        let empty : s.len ≡ 0 = omega (arith, ltb-false 0 s.len none) in
        rw (t, none, empty) refl
  ]
  | inr t ↦ rw t refl
]

status_ends : (ss : List Segment) → AreReal (option_to_list (status_want ss))
    → EndsWith (option_to_list (status_want ss)) (flat_map (segment_side true) ss)
status_ends [] real = refl
status_ends (s ∷ ss) real = step (status_want ss) (λ r. status_ends ss r) real
  where
    step : (o : Option Want) → (AreReal (option_to_list o) → EndsWith (option_to_list o) (flat_map (segment_side true) ss))
        → AreReal (option_to_list (option_or o (last_want s)))
        → EndsWith (option_to_list (option_or o (last_want s))) (segment_side true s ++ flat_map (segment_side true) ss)
    step None rest real =
        let none : flat_map (segment_side true) ss ≡ [] = rest (All-nil (λ w. (0 < w.len) × (w.iova + w.len < 2 ^ 64))) in
        rw (none, append-nil (segment_side true s)) (segment_ends s real)
    step (Some w) rest real =
        let (before, is, none, access, len) = rest real in (
          segment_side true s ++ before,
          ap (λ (xs : List ℕ). segment_side true s ++ xs) is
              ∙ sym (append_assoc (segment_side true s) before (w.iova ∷ [])),
          none,
          access,
          len,
        )

no_entries : (es : List Entry) → addresses_of es ≡ [] → es ≡ []
no_entries [] is = refl
no_entries (e ∷ es) is = absurd (cc)

leads_nothing : (f : Says) (access : Permissions) (es : List Entry) → Lead f access [] (addresses_of es) → es ≡ []
leads_nothing f access [] h = refl
leads_nothing f access (e ∷ es) h = absurd h

last_address : (es : List Entry) (before : List ℕ) (a : ℕ) → addresses_of es ≡ before ++ a ∷ []
    → addresses_of (drop (length es - 1) es) ≡ a ∷ []
last_address es before a is =
    let count : length es ≡ length before + 1 =
    sym (length-map es (λ e. e.address)) ∙ ap length is ∙ length-append before (a ∷ []) in
    let place : length es - 1 ≡ length before = omega (arith, count) in
    sym (drop-map (λ e. e.address) (length es - 1) es) ∙ ap (drop (length es - 1)) is
    ∙ ap (λ (n : ℕ). drop n (before ++ a ∷ [])) place ∙ drop-append_seam before (a ∷ [])

status_from : (f : Says) (ws : List Want) (driver guest : List Segment) (ks : List Kept)
    → EndsWith ws (flat_map (segment_side true) driver) → IsFound ws ks → All (IsCurrent f) ks → IsMade ks guest
    → IsStatusOf f driver guest
status_from f [] driver guest ks ends found current made =
    let none : text (writable driver) ≡ [] = no_entries (text (writable driver)) (text_side true driver ∙ ends) in record {
      reads = leads_nothing f Read (text (readable guest)) (side_leads f false [] ks guest found current tt made);
      writes = all_lead f Write (drop (length (text (writable driver)) - 1) (text (writable driver))) (text (writable guest))
          (rw none (side_leads f true [] ks guest found current tt made));
    }
status_from f (w ∷ []) driver guest ks ends found current made =
    let (before, is, none, access, len) = ends in
    let plain : ArePlain (w ∷ []) = rw access (refl, tt) in
    let unread : flat_map (want_side false) (w ∷ []) ≡ [] = rw access refl in
    let written : flat_map (want_side true) (w ∷ []) ≡ w.iova ∷ [] = rw (access, len) refl in record {
      reads = leads_nothing f Read (text (readable guest))
          (rw unread at (side_leads f false (w ∷ []) ks guest found current plain made));
      writes = all_lead f Write (drop (length (text (writable driver)) - 1) (text (writable driver))) (text (writable guest))
          (rw (last_address (text (writable driver)) before w.iova (text_side true driver ∙ is))
          (rw written at (side_leads f true (w ∷ []) ks guest found current plain made)));
    }
status_from f (w ∷ v ∷ ws) driver guest ks ends found current made =
    let (before, is, none, access, len) = ends in absurd (cc)

pub status_leads : (f : Says) (driver guest : List Segment) (ks : List Kept)
    → AreReal (option_to_list (status_want driver)) → IsFound (option_to_list (status_want driver)) ks
    → All (IsCurrent f) ks → guest_chain ks ≡ Some guest → IsStatusOf f driver guest
status_leads f driver guest ks real found current is =
    status_from f (option_to_list (status_want driver)) driver guest ks (status_ends driver real) found current
    (guest_made ks guest is)

-- ---- fetches

abbrev IsWanted : Want → Type 0
IsWanted w = (0 < w.len) × (w.iova + w.len < 2 ^ 64)

wanted_of : (w : Want) → is_real w ≡ true → IsWanted w
wanted_of w real =
    let parts = and_parts (ltb 0 w.len) (ltb (w.iova + w.len) (2 ^ 64)) real in
    (ltb-true 0 w.len parts.0, ltb-true (w.iova + w.len) (2 ^ 64) parts.1)

pub are_real : (ws : List Want) → list_all is_real ws ≡ true → AreReal ws
are_real [] real = All-nil IsWanted
are_real (w ∷ ws) real =
    let parts = and_parts (is_real w) (list_all is_real ws) real in
    All-cons IsWanted w ws (wanted_of w parts.0) (are_real ws parts.1)

-- it waits where it stopped
pub stops_awaits : (f : Says) (most count : ℕ) (rest : List Want × ℕ) (p : Progress) → StopsAt f most count rest p
    → Awaits (state_by p) rest
stops_awaits f most count ([], from) p stops = subst (λ (v : Progress). Awaits (state_by v) ([], from)) (sym stops) refl
stops_awaits f most count (w ∷ ws, from) progress.Whole stops = absurd stops
stops_awaits f most count (w ∷ ws, from) (progress.Misses iova access) stops = (stops.0, stops.1)
stops_awaits f most count (w ∷ ws, from) (progress.Bars iova access) stops = tt
stops_awaits f most count (w ∷ ws, from) progress.TooMany stops = tt
stops_awaits f most count (w ∷ ws, from) progress.NoMemory stops = tt

-- what the law says
abbrev pub WholeLaw : Type 0
WholeLaw = (f : Says) (driver guest : List Segment) (ks : List Kept) → IsFound (chain_wants driver) ks
    → All (IsCurrent f) ks → guest_chain ks ≡ Some guest → IsTranslated f driver guest

abbrev pub StatusLaw : Type 0
StatusLaw = (f : Says) (driver guest : List Segment) (ks : List Kept)
    → AreReal (option_to_list (status_want driver)) → IsFound (option_to_list (status_want driver)) ks
    → All (IsCurrent f) ks → guest_chain ks ≡ Some guest → IsStatusOf f driver guest

goal_leads : WholeLaw → StatusLaw → (f : Says) (goal : Goal) (ws : List Want) (ks : List Kept) (guest : List Segment)
    → IsFor goal ws → AreReal ws → IsFound ws ks → All (IsCurrent f) ks → guest_chain ks ≡ Some guest
    → LeadsAs f goal guest
goal_leads whole status f Ring ws ks guest is real found current made = tt
goal_leads whole status f Rows ws ks guest is real found current made = tt
goal_leads whole status f (Chain found_chain) ws ks guest is real found current made =
    whole f found_chain.chain guest ks (subst (λ (v : List Want). IsFound v ks) is found) current made
goal_leads whole status f (Status found_chain) ws ks guest is real found current made =
    status f found_chain.chain guest ks (subst AreReal is real) (subst (λ (v : List Want). IsFound v ks) is found) current
    made

pub chain_leads : {E : Type 0} → WholeLaw → StatusLaw → (s : State) (goal : Goal) (ws : List Want) (ks : List Kept)
    (r : Result (Option (List Segment)) E) → IsFor goal ws → AreReal ws → Covers ws 0 ks
    → Awaits s (left ws 0 ks) → IfOk r (λ chain. chain ≡ guest_chain ks)
    → IfOk r (λ chain. IfSome chain (λ guest. (f : Says) → All (IsCurrent f) ks → s ≡ state.Whole → LeadsAs f goal guest))
chain_leads whole status s goal ws ks (Err e) is real covers all made = tt
chain_leads whole status s goal ws ks (Ok None) is real covers all made = tt
chain_leads whole status s goal ws ks (Ok (Some guest)) is real covers all made = λ f current done.
    goal_leads whole status f goal ws ks guest is real (covers, subst (λ (v : State). Awaits v (left ws 0 ks)) done all) current (sym made)

-- ---- what came is taken

-- what a mapping that is there leads to, as a table's law has it
abbrev pub ComesLaw : Type 0
ComesLaw = (f : Says) (most count from to : ℕ) (w : Want) (ws : List Want) (t : Progress)
    → StopsAt f most count (w ∷ ws, from) t → LeadsTo f (w.iova + from) to w.access
    → (t ≡ progress.TooMany) ⊎ (t ≡ progress.NoMemory)

module _ (law : ComesLaw) (f : Says) (most : ℕ) (old new : FetchState) (on : GoesOn f most old new) where
  -- nothing was found
  none_came : (rest : List Want × ℕ) (p : Progress) (iova to : ℕ) (access : Permissions)
      → Awaits (state.Waits iova access) rest → LeadsTo f iova to access → StopsAt f most (length old.kept) rest p
      → new.state ≡ state_by p → (most ≤ length old.kept) ⊎ (new.state ≡ state.Begun)
  none_came ([], from) p iova to access awaits leads stops is = absurd awaits
  none_came (w ∷ ws, from) p iova to access awaits leads stops is =
      let there = subst (λ (a : Permissions). LeadsTo f (w.iova + from) to a) awaits.1
      (subst (λ (x : ℕ). LeadsTo f x to access) awaits.0 leads) in
      elim (law f most (length old.kept) from to w ws p stops there) [
        | inl many ↦ inl (subst (λ (v : Progress). StopsAt f most (length old.kept) (w ∷ ws, from) v) many stops)
        | inr memory ↦ inr (is ∙ ap state_by memory)
      ]

  more_came : (ks : List Kept) → new.kept ≡ old.kept ++ ks → (p : Progress)
      → StopsAt f most (length new.kept) (left new.wants 0 new.kept) p → new.state ≡ state_by p
      → (iova to : ℕ) (access : Permissions) → Awaits (state.Waits iova access) (left old.wants 0 old.kept)
      → LeadsTo f iova to access
      → (length old.kept < length new.kept) ⊎ ((most ≤ length old.kept) ⊎ (new.state ≡ state.Begun))
  more_came [] is p stops stands iova to access awaits leads =
      let same : new.kept ≡ old.kept = is ∙ append-nil old.kept in
      inr (none_came (left old.wants 0 old.kept) p iova to access awaits leads
      (subst (λ (ws : List Want). StopsAt f most (length old.kept) (left ws 0 old.kept) p) on.wants
      (subst (λ (ks : List Kept). StopsAt f most (length ks) (left new.wants 0 ks) p) same stops)) stands)
  more_came (k ∷ ks) is p stops stands iova to access awaits leads =
      inl (omega (arith, ap length is, length-append old.kept (k ∷ ks)))

  pub came : Awaits old.state (left old.wants 0 old.kept) → TakesWhatCame f most old new
  came awaits iova to access is leads =
      let (ks, grows, current) = on.takes in
      let (p, stops, stands) = on.stops in
      more_came ks grows p stops stands iova to access (subst (λ (v : State). Awaits v (left old.wants 0 old.kept)) is awaits)
      leads
