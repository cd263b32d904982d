-- Entries that are read or checked one after the other, as a loop does.
use Rattle.std.proofs.Common.{◌≡◌, ℕ, suc, ◌-◌, ◌+◌, ◌≤◌, ◌<◌, List, [], ◌∷◌, ◌++◌, length, get_or, drop, Result, Ok, Err, refl, sym, subst, ap, ◌∙◌, append_assoc, add-one, arith, drop-cons}
use Rattle.std.proofs.lemmas.List.{append-nil, drop_all}
use Rattle.std.specs.Prelude.{flat_map}
use Rattle.live_migration.specs.Header.{AreEntries, FitsFields, checked, entry_bytes, entry_in, entries_in}
use Rattle.live_migration.specs.Reading.{◌>>=◌}
use Rattle.live_migration.specs.declared.header.BlockEntry.{BlockEntry}
use Rattle.live_migration.specs.declared.refusal.Refusal.{Refusal}
use Rattle.live_migration.proofs.HeaderLemmas.{StillLeft, one_passed, one_refused}

-- what was read before, and what is still read
abbrev pub with_front : List BlockEntry → Result (List BlockEntry × List ℕ) Refusal
    → Result (List BlockEntry × List ℕ) Refusal
with_front front read = read >>= λ x. Ok (front ++ x.0, x.1)

regroup : (front : List BlockEntry) (e : BlockEntry) (read : Result (List BlockEntry × List ℕ) Refusal)
    → with_front front (read >>= λ x. Ok (e ∷ x.0, x.1)) ≡ with_front (front ++ e ∷ []) read
regroup front e (Ok x) = ap (λ (es : List BlockEntry). Ok (es, x.1)) (simp append_assoc)
regroup front e (Err f) = refl

module _ (front : List BlockEntry) (count i from left : ℕ) (bytes : List ℕ)
    (total : Result (List BlockEntry × List ℕ) Refusal) (lt : i < count)
    (so_far : with_front front (entries_in (count - i) from left bytes) ≡ total)
  where
    pub goes_on : (e : BlockEntry) (after : List ℕ) → entry_in from left bytes ≡ Ok (e, after)
        → with_front (front ++ e ∷ []) (entries_in (count - (i + 1)) (e.address + e.len) (left - e.len) after) ≡ total
    unfolding entries_in
    goes_on e after h =
        let k : count - i ≡ suc (count - (i + 1)) = omega arith in
        let rest = entries_in (count - (i + 1)) (e.address + e.len) (left - e.len) after in
        let one : with_front front (entries_in (count - i) from left bytes) ≡ with_front (front ++ e ∷ []) rest =
        rw (k, h) (regroup front e rest) in
        sym one ∙ so_far

    pub ends : (f : Refusal) → entry_in from left bytes ≡ Err f → total ≡ Err f
    unfolding entries_in
    ends f h =
        let k : count - i ≡ suc (count - (i + 1)) = omega arith in
        let one : with_front front (entries_in (count - i) from left bytes) ≡ Err f = rw (k, h) refl in
        sym so_far ∙ one

pub is_done : (front : List BlockEntry) (count i from left : ℕ) (bytes : List ℕ)
    (total : Result (List BlockEntry × List ℕ) Refusal) → count ≤ i
    → with_front front (entries_in (count - i) from left bytes) ≡ total → total ≡ Ok (front, bytes)
unfolding entries_in
is_done front count i from left bytes total le so_far =
    let k : count - i ≡ 0 = omega arith in
    let one : with_front front (entries_in (count - i) from left bytes) ≡ Ok (front, bytes) =
    rw k (ap (λ (es : List BlockEntry). Ok (es, bytes)) (append-nil front)) in
    sym so_far ∙ one

-- ---- checking entries one after the other

module _ (limit : ℕ) (es : List BlockEntry) (i from left : ℕ) (d : BlockEntry) (lt : i < length es)
    (still : StillLeft limit es from left (drop i es))
  where
    at_first : StillLeft limit es from left (get_or es i d ∷ drop (i + 1) es)
    at_first = subst (StillLeft limit es from left) (rw add-one (drop-cons es i d lt)) still

    pub passes : (y : BlockEntry) → Ok y ≡ checked from left (get_or es i d)
        → StillLeft limit es (y.address + y.len) (left - y.len) (drop (i + 1) es)
    passes y h = one_passed limit es from left (get_or es i d) (drop (i + 1) es) at_first y (sym h)

    pub refuses : (f : Refusal) → FitsFields (get_or es i d) → Err f ≡ checked from left (get_or es i d)
        → entries_in (length es) 0 limit (flat_map entry_bytes es) ≡ Err f
    refuses f fits h = one_refused limit es from left (get_or es i d) (drop (i + 1) es) at_first f fits (sym h)

pub passed_all : (limit : ℕ) (es : List BlockEntry) (i from left : ℕ) → length es ≤ i
    → StillLeft limit es from left (drop i es) → AreEntries 0 limit es
passed_all limit es i from left le still =
    (subst (StillLeft limit es from left) (drop_all i es le) still).are tt
