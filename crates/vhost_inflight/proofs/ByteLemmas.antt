-- The bytes of a region after a store, read as its fields.
use Rattle.std.proofs.Common.{◌≡◌, ℕ, ◌+◌, ◌-◌, ◌^◌, ◌<◌, ◌≤◌, ◌⊎◌, Bool, List, [], ◌∷◌, ◌++◌, length, get_or, take, drop, refl, sym, ap, ap₂, subst, ◌∙◌, inl, inr, arith, length-append, length-drop, length-set, length-take-le, get_or-set_other, get_or-set_same}
use Rattle.std.proofs.lemmas.Bool.{cases_Bool, cases_eq, cases_lt, le-leb, leb-true}
use Rattle.std.proofs.lemmas.List.{ext_get_or, get_or-append_right, get_or_append_left, get_or-take, get_or-drop}
use Rattle.std.proofs.lemmas.List.FromFn.{fill_by_all, get_or-map-range_with_len, length-map-range_with_len}
use Rattle.std.proofs.lemmas.Nat.{from_le_bytes-to_le_bytes_2, from_le_bytes-to_le_bytes_8}
use Rattle.std.proofs.Math.Seq.{drop-append_seam, take-append_seam}
use Rattle.std.specs.Prelude.{nat_le, if◌then◌else◌}
use Rattle.std.specs.Int.{w16, w64, from_le_bytes, to_le_bytes}
use Rattle.vhost_inflight.specs.Store.{store_end, stored, value_bytes}
use Rattle.vhost_inflight.specs.Split.{changed, entry_of, entry_offset, place, put}
use Rattle.vhost_inflight.specs.SplitBytes.{IsWithin, entries_in, entry_at, header_in, quad, region_of, region_with, word}
use Rattle.vhost_inflight.specs.declared.split.SplitStore.{SplitStore}
use Rattle.vhost_inflight.specs.declared.split.SplitStore.TheVariants.{Counter, InFlight, Next, LastBatchHead, UsedIdx, DescNum, Version}
use Rattle.vhost_inflight.specs.declared.split_region.SplitEntry.{SplitEntry}
use Rattle.vhost_inflight.specs.declared.split_region.SplitHeader.{SplitHeader}
use Rattle.vhost_inflight.specs.declared.store.Store.{Store}

-- ---- bytes after a store

-- so many bytes were written at a place, and no others
record Wrote (old new : List ℕ) (at : ℕ) (bytes : List ℕ) : Type 0 where
  pub len : length new ≡ length old
  pub there : take (length bytes) (drop at new) ≡ bytes
  pub before : (k : ℕ) → k < at → get_or new k 0 ≡ get_or old k 0
  pub after : (k : ℕ) → at + length bytes ≤ k → get_or new k 0 ≡ get_or old k 0

spliced_wrote : (old : List ℕ) (at : ℕ) (bytes : List ℕ) → at + length bytes ≤ length old
    → Wrote old (take at old ++ (bytes ++ drop (at + length bytes) old)) at bytes
spliced_wrote old at bytes fits =
    let front : length (take at old) ≡ at = length-take-le at old (omega arith) in
    let end : List ℕ = drop (at + length bytes) old in
    let size : length end ≡ length old - (at + length bytes) = length-drop (at + length bytes) old in
    record {
      len = simp (length-append, front, size) (omega arith);
      there = subst (λ (n : ℕ). take (length bytes) (drop n (take at old ++ (bytes ++ end))) ≡ bytes) front
          (ap (take (length bytes)) (drop-append_seam (take at old) (bytes ++ end)) ∙ take-append_seam bytes end);
      before = λ k low. get_or_append_left (take at old) (bytes ++ end) 0 k (rw front low)
          ∙ get_or-take at old k 0 low;
      after = λ k high. get_or-append_right (take at old) (bytes ++ end) at k 0 front (omega arith)
          ∙ get_or-append_right bytes end (length bytes) (k - at) 0 refl (omega arith)
          ∙ get_or-drop (at + length bytes) old (k - at - length bytes) 0
          ∙ ap (λ (n : ℕ). get_or old n 0) (omega arith);
    }

stored_wrote : (old : List ℕ) (s : Store) → store_end s ≤ length old
    → Wrote old (stored old s) s.offset (value_bytes s.value)
stored_wrote old s fits =
    rw (le-leb (store_end s) (length old) fits) (spliced_wrote old s.offset (value_bytes s.value) fits)

-- ---- fields that a store leaves alone

Apart : ℕ → ℕ → ℕ → ℕ → Type 0
Apart at n from m = (at + n ≤ from) ⊎ (from + m ≤ at)

kept_byte : (old new : List ℕ) (at : ℕ) (bytes : List ℕ) (k : ℕ) → Wrote old new at bytes
    → Apart k 1 at (length bytes) → get_or new k 0 ≡ get_or old k 0
unfolding Apart
kept_byte old new at bytes k w apart = elim apart [
  | inl low ↦ w.before k (omega arith)
  | inr high ↦ w.after k high
]

kept_part : (old new : List ℕ) (at : ℕ) (bytes : List ℕ) (k n : ℕ) → Wrote old new at bytes
    → k + n ≤ length old → Apart k n at (length bytes) → take n (drop k new) ≡ take n (drop k old)
unfolding Apart
kept_part old new at bytes k n w fits apart =
    let old_len : length (take n (drop k old)) ≡ n =
    length-take-le n (drop k old) (rw (length-drop k old) (omega arith)) in
    let new_len : length (take n (drop k new)) ≡ n =
    length-take-le n (drop k new) (rw (length-drop k new, w.len) (omega arith)) in
    ext_get_or 0 (take n (drop k new)) (take n (drop k old)) (new_len ∙ sym old_len) (λ i l.
    let small : i < n = rw new_len at l in
    let same : get_or new (k + i) 0 ≡ get_or old (k + i) 0 =
    kept_byte old new at bytes (k + i) w (elim apart [ inl low ↦ inl (omega arith) | inr high ↦ inr (omega arith) ]) in
    get_or-take n (drop k new) i 0 small ∙ get_or-drop k new i 0 ∙ same
    ∙ sym (get_or-take n (drop k old) i 0 small ∙ get_or-drop k old i 0))

kept_word : (old new : List ℕ) (at : ℕ) (bytes : List ℕ) (k : ℕ) → Wrote old new at bytes → k + 2 ≤ length old
    → Apart k 2 at (length bytes) → word new k ≡ word old k
kept_word old new at bytes k w fits apart = ap (from_le_bytes w16) (kept_part old new at bytes k 2 w fits apart)

kept_quad : (old new : List ℕ) (at : ℕ) (bytes : List ℕ) (k : ℕ) → Wrote old new at bytes → k + 8 ≤ length old
    → Apart k 8 at (length bytes) → quad new k ≡ quad old k
kept_quad old new at bytes k w fits apart = ap (from_le_bytes w64) (kept_part old new at bytes k 8 w fits apart)

-- ---- fields that a store writes

new_byte : (old new : List ℕ) (at b : ℕ) → Wrote old new at (b ∷ []) → get_or new at 0 ≡ b
new_byte old new at b w =
    let here : get_or new (at + 0) 0 ≡ b =
    sym (get_or-take 1 (drop at new) 0 0 (omega arith) ∙ get_or-drop at new 0 0)
    ∙ ap (λ (bs : List ℕ). get_or bs 0 0) w.there in
    ap (λ (k : ℕ). get_or new k 0) (omega arith) ∙ here

new_word : (old new : List ℕ) (at n : ℕ) → n < 2 ^ 16 → Wrote old new at (to_le_bytes w16 n) → word new at ≡ n
new_word old new at n small w = ap (from_le_bytes w16) w.there ∙ from_le_bytes-to_le_bytes_2 n small

new_quad : (old new : List ℕ) (at n : ℕ) → n < 2 ^ 64 → Wrote old new at (to_le_bytes w64 n) → quad new at ≡ n
new_quad old new at n small w = ap (from_le_bytes w64) w.there ∙ from_le_bytes-to_le_bytes_8 n small

-- ---- headers and entries

header_is : (a a' b b' c c' d d' : ℕ) → a ≡ a' → b ≡ b' → c ≡ c' → d ≡ d'
    → record { version = a; desc_num = b; last_batch_head = c; used_idx = d }
    ≡ (let h : SplitHeader = record { version = a'; desc_num = b'; last_batch_head = c'; used_idx = d' } in h)
header_is a a' b b' c c' d d' ea eb ec ed = rw (ea, eb, ec, ed) refl

entry_is : (a a' b b' c c' : ℕ) → a ≡ a' → b ≡ b' → c ≡ c'
    → record { in_flight = a; next = b; counter = c }
    ≡ (let e : SplitEntry = record { in_flight = a'; next = b'; counter = c' } in e)
entry_is a a' b b' c c' ea eb ec = rw (ea, eb, ec) refl

-- a store behind the header
kept_header : (old new : List ℕ) (at : ℕ) (bytes : List ℕ) → Wrote old new at bytes → 16 ≤ at → 16 ≤ length old
    → header_in new ≡ header_in old
unfolding Apart
kept_header old new at bytes w behind long =
    header_is (word new 8) (word old 8) (word new 10) (word old 10) (word new 12) (word old 12) (word new 14)
    (word old 14) (kept_word old new at bytes 8 w (omega arith) (inl (omega arith)))
    (kept_word old new at bytes 10 w (omega arith) (inl (omega arith)))
    (kept_word old new at bytes 12 w (omega arith) (inl (omega arith)))
    (kept_word old new at bytes 14 w (omega arith) (inl (omega arith)))

kept_entry : (old new : List ℕ) (at : ℕ) (bytes : List ℕ) (h : ℕ) → Wrote old new at bytes
    → entry_offset h + 16 ≤ length old → Apart (entry_offset h) 16 at (length bytes)
    → entry_at new h ≡ entry_at old h
unfolding Apart
kept_entry old new at bytes h w fits apart =
    let part : (from n : ℕ) → entry_offset h ≤ from → from + n ≤ entry_offset h + 16
    → Apart from n at (length bytes) =
    λ from n low high. elim apart [ inl before ↦ inl (omega arith) | inr after ↦ inr (omega arith) ] in
    entry_is (get_or new (entry_offset h) 0) (get_or old (entry_offset h) 0) (word new (entry_offset h + 6))
    (word old (entry_offset h + 6)) (quad new (entry_offset h + 8)) (quad old (entry_offset h + 8))
    (kept_byte old new at bytes (entry_offset h) w (part (entry_offset h) 1 (omega arith) (omega arith)))
    (kept_word old new at bytes (entry_offset h + 6) w (omega arith)
    (part (entry_offset h + 6) 2 (omega arith) (omega arith)))
    (kept_quad old new at bytes (entry_offset h + 8) w (omega arith)
    (part (entry_offset h + 8) 8 (omega arith) (omega arith)))

no_entry : SplitEntry
no_entry = record { in_flight = 0; next = 0; counter = 0 }

-- a store to the header
kept_entries : (n : ℕ) (old new : List ℕ) (at : ℕ) (bytes : List ℕ) → Wrote old new at bytes
    → at + length bytes ≤ 16 → entry_offset n ≤ length old → entries_in n new ≡ entries_in n old
unfolding Apart
kept_entries n old new at bytes w front long =
    sym (fill_by_all (entry_at new) (entries_in n old) n no_entry (length-map-range_with_len (entry_at old) 0 n)
    (λ k l. get_or-map-range_with_len (entry_at old) 0 n k k no_entry l (omega arith)
    ∙ sym (kept_entry old new at bytes k w (omega arith) (inr (omega arith)))))

-- a store to one entry
changed_entries : (n h : ℕ) (f : SplitEntry → SplitEntry) (old new : List ℕ) (at : ℕ) (bytes : List ℕ) → h < n
    → entry_offset n ≤ length old → Wrote old new at bytes → entry_offset h ≤ at
    → at + length bytes ≤ entry_offset h + 16 → entry_at new h ≡ f (entry_at old h)
    → entries_in n new ≡ changed (entries_in n old) h f
unfolding Apart no_entry
changed_entries n h f old new at bytes l long w low high is =
    let es : List SplitEntry = entries_in n old in
    let len : length es ≡ n = length-map-range_with_len (entry_at old) 0 n in
    let this : entry_of es h ≡ entry_at old h =
    get_or-map-range_with_len (entry_at old) 0 n h h no_entry l (omega arith) in
    sym (fill_by_all (entry_at new) (changed es h f) n no_entry (length-set es h (f (entry_of es h)) ∙ len)
    (λ k few. elim (cases_eq k h) [
      | inl same ↦
          rw same (get_or-set_same es h (f (entry_of es h)) no_entry (rw len l) ∙ (ap f this ∙ sym is))
      | inr other ↦
          get_or-set_other es h k (f (entry_of es h)) no_entry other
          ∙ (get_or-map-range_with_len (entry_at old) 0 n k k no_entry few (omega arith)
          ∙ sym (kept_entry old new at bytes k w (omega arith)
          (elim (cases_lt k h) [ inl below ↦ inl (omega arith) | inr above ↦ inr (omega arith) ])))
    ]))

-- ---- regions

entry_stored : (n h : ℕ) (f : SplitEntry → SplitEntry) (old new : List ℕ) (at : ℕ) (bytes : List ℕ) → h < n
    → entry_offset n ≤ length old → Wrote old new at bytes → entry_offset h ≤ at
    → at + length bytes ≤ entry_offset h + 16 → entry_at new h ≡ f (entry_at old h)
    → region_of n new ≡ record (region_of n old) { entries = changed (entries_in n old) h f }
entry_stored n h f old new at bytes l long w low high is =
    ap₂ region_with (kept_header old new at bytes w (omega arith) (omega arith))
    (changed_entries n h f old new at bytes l long w low high is)

counter_stored : (n h c : ℕ) (old new : List ℕ) → h < n → c < 2 ^ 64 → entry_offset n ≤ length old
    → Wrote old new (entry_offset h + 8) (to_le_bytes w64 c) → region_of n new ≡ put (region_of n old) (Counter h c)
unfolding Apart
counter_stored n h c old new l small long w =
    let at : ℕ = entry_offset h in
    entry_stored n h (λ e. record e { counter = c }) old new (at + 8) (to_le_bytes w64 c) l long w (omega arith)
    (omega arith)
    (entry_is (get_or new at 0) (get_or old at 0) (word new (at + 6)) (word old (at + 6)) (quad new (at + 8)) c
    (kept_byte old new (at + 8) (to_le_bytes w64 c) at w (inl (omega arith)))
    (kept_word old new (at + 8) (to_le_bytes w64 c) (at + 6) w (omega arith) (inl (omega arith)))
    (new_quad old new (at + 8) c small w))

mark_stored : (n h : ℕ) (is : Bool) (old new : List ℕ) → h < n → entry_offset n ≤ length old
    → Wrote old new (entry_offset h) ((if is then 1 else 0) ∷ [])
    → region_of n new ≡ put (region_of n old) (InFlight h is)
unfolding Apart
mark_stored n h is old new l long w =
    let at : ℕ = entry_offset h in
    let mark : ℕ = if is then 1 else 0 in
    entry_stored n h (λ e. record e { in_flight = if is then 1 else 0 }) old new at (mark ∷ []) l long w (omega arith)
    (omega arith)
    (entry_is (get_or new at 0) mark (word new (at + 6)) (word old (at + 6)) (quad new (at + 8)) (quad old (at + 8))
    (new_byte old new at mark w)
    (kept_word old new at (mark ∷ []) (at + 6) w (omega arith) (inr (omega arith)))
    (kept_quad old new at (mark ∷ []) (at + 8) w (omega arith) (inr (omega arith))))

next_stored : (n h x : ℕ) (old new : List ℕ) → h < n → x < 2 ^ 16 → entry_offset n ≤ length old
    → Wrote old new (entry_offset h + 6) (to_le_bytes w16 x) → region_of n new ≡ put (region_of n old) (Next h x)
unfolding Apart
next_stored n h x old new l small long w =
    let at : ℕ = entry_offset h in
    entry_stored n h (λ e. record e { next = x }) old new (at + 6) (to_le_bytes w16 x) l long w (omega arith)
    (omega arith)
    (entry_is (get_or new at 0) (get_or old at 0) (word new (at + 6)) x (quad new (at + 8)) (quad old (at + 8))
    (kept_byte old new (at + 6) (to_le_bytes w16 x) at w (inl (omega arith)))
    (new_word old new (at + 6) x small w)
    (kept_quad old new (at + 6) (to_le_bytes w16 x) (at + 8) w (omega arith) (inr (omega arith))))

header_stored : (n at x : ℕ) (h : SplitHeader) (old new : List ℕ) → at + 2 ≤ 16 → entry_offset n ≤ length old
    → Wrote old new at (to_le_bytes w16 x) → header_in new ≡ h
    → region_of n new ≡ region_with h (entries_in n old)
header_stored n at x h old new front long w is =
    ap₂ region_with is (kept_entries n old new at (to_le_bytes w16 x) w (omega arith) long)

last_head_stored : (n x : ℕ) (old new : List ℕ) → x < 2 ^ 16 → entry_offset n ≤ length old
    → Wrote old new 12 (to_le_bytes w16 x) → region_of n new ≡ put (region_of n old) (LastBatchHead x)
unfolding Apart
last_head_stored n x old new small long w =
    let kept : (k : ℕ) → k + 2 ≤ 16 → Apart k 2 12 2 → word new k ≡ word old k =
    λ k f a. kept_word old new 12 (to_le_bytes w16 x) k w (omega arith) a in
    header_stored n 12 x (record (header_in old) { last_batch_head = x }) old new (omega arith) long w
    (header_is (word new 8) (word old 8) (word new 10) (word old 10) (word new 12) x (word new 14) (word old 14)
    (kept 8 (omega arith) (inl (omega arith))) (kept 10 (omega arith) (inl (omega arith)))
    (new_word old new 12 x small w) (kept 14 (omega arith) (inr (omega arith))))

index_stored : (n x : ℕ) (old new : List ℕ) → x < 2 ^ 16 → entry_offset n ≤ length old
    → Wrote old new 14 (to_le_bytes w16 x) → region_of n new ≡ put (region_of n old) (UsedIdx x)
unfolding Apart
index_stored n x old new small long w =
    let kept : (k : ℕ) → k + 2 ≤ 16 → Apart k 2 14 2 → word new k ≡ word old k =
    λ k f a. kept_word old new 14 (to_le_bytes w16 x) k w (omega arith) a in
    header_stored n 14 x (record (header_in old) { used_idx = x }) old new (omega arith) long w
    (header_is (word new 8) (word old 8) (word new 10) (word old 10) (word new 12) (word old 12) (word new 14) x
    (kept 8 (omega arith) (inl (omega arith))) (kept 10 (omega arith) (inl (omega arith)))
    (kept 12 (omega arith) (inl (omega arith))) (new_word old new 14 x small w))

count_stored : (n x : ℕ) (old new : List ℕ) → x < 2 ^ 16 → entry_offset n ≤ length old
    → Wrote old new 10 (to_le_bytes w16 x) → region_of n new ≡ put (region_of n old) (DescNum x)
unfolding Apart
count_stored n x old new small long w =
    let kept : (k : ℕ) → k + 2 ≤ 16 → Apart k 2 10 2 → word new k ≡ word old k =
    λ k f a. kept_word old new 10 (to_le_bytes w16 x) k w (omega arith) a in
    header_stored n 10 x (record (header_in old) { desc_num = x }) old new (omega arith) long w
    (header_is (word new 8) (word old 8) (word new 10) x (word new 12) (word old 12) (word new 14) (word old 14)
    (kept 8 (omega arith) (inl (omega arith))) (new_word old new 10 x small w)
    (kept 12 (omega arith) (inr (omega arith))) (kept 14 (omega arith) (inr (omega arith))))

version_stored : (n x : ℕ) (old new : List ℕ) → x < 2 ^ 16 → entry_offset n ≤ length old
    → Wrote old new 8 (to_le_bytes w16 x) → region_of n new ≡ put (region_of n old) (Version x)
unfolding Apart
version_stored n x old new small long w =
    let kept : (k : ℕ) → k + 2 ≤ 16 → Apart k 2 8 2 → word new k ≡ word old k =
    λ k f a. kept_word old new 8 (to_le_bytes w16 x) k w (omega arith) a in
    header_stored n 8 x (record (header_in old) { version = x }) old new (omega arith) long w
    (header_is (word new 8) x (word new 10) (word old 10) (word new 12) (word old 12) (word new 14) (word old 14)
    (new_word old new 8 x small w) (kept 10 (omega arith) (inr (omega arith)))
    (kept 12 (omega arith) (inr (omega arith))) (kept 14 (omega arith) (inr (omega arith))))

pub field_changed : (n : ℕ) (bytes : List ℕ) (s : SplitStore) → entry_offset n ≤ length bytes → IsWithin n s
    → region_of n (stored bytes (place s)) ≡ put (region_of n bytes) s
field_changed n bytes (Counter h c) long (l, small) =
    counter_stored n h c bytes (stored bytes (place (Counter h c))) l small long
    (stored_wrote bytes (place (Counter h c)) (omega arith))
field_changed n bytes (InFlight h is) long l =
    mark_stored n h is bytes (stored bytes (place (InFlight h is))) l long
    (stored_wrote bytes (place (InFlight h is)) (omega arith))
field_changed n bytes (Next h x) long (l, small) =
    next_stored n h x bytes (stored bytes (place (Next h x))) l small long
    (stored_wrote bytes (place (Next h x)) (omega arith))
field_changed n bytes (LastBatchHead x) long small =
    last_head_stored n x bytes (stored bytes (place (LastBatchHead x))) small long
    (stored_wrote bytes (place (LastBatchHead x)) (omega arith))
field_changed n bytes (UsedIdx x) long small =
    index_stored n x bytes (stored bytes (place (UsedIdx x))) small long
    (stored_wrote bytes (place (UsedIdx x)) (omega arith))
field_changed n bytes (DescNum x) long small =
    count_stored n x bytes (stored bytes (place (DescNum x))) small long
    (stored_wrote bytes (place (DescNum x)) (omega arith))
field_changed n bytes (Version x) long small =
    version_stored n x bytes (stored bytes (place (Version x))) small long
    (stored_wrote bytes (place (Version x)) (omega arith))

-- a store that does not lie in the region changes nothing
pub length-stored : (bytes : List ℕ) (s : Store) → length (stored bytes s) ≡ length bytes
length-stored bytes s = elim (cases_Bool (nat_le (store_end s) (length bytes))) [
  | inl within ↦ (stored_wrote bytes s (leb-true (store_end s) (length bytes) within)).len
  | inr outside ↦ rw outside refl
]
