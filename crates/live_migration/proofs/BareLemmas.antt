-- Blocks that have only zeros from some byte on.
use Rattle.std.proofs.Common.{◌≡◌, ℕ, ◌+◌, ◌-◌, ◌*◌, ◌<◌, ◌≤◌, ◌++◌, ◌⊎◌, true, suc, List, [], ◌∷◌, length, get_or, option_map, take, drop, replicate, min, Some, refl, sym, ap, subst, ◌∙◌, inl, inr, arith}
use Rattle.std.specs.Prelude.{slice_get}
use Rattle.std.proofs.lemmas.Bool.{and_from, cases_eq, cases_lt, cond-true, cond-false, eq-eqb}
use Rattle.std.proofs.lemmas.List.{get_or-append-add, get_or-drop, get_or-replicate, get_or-take, get_or_past, length-replicate, length-take}
use Rattle.std.proofs.lemmas.Option.{get_or_from_slice_get, slice_get-map, slice_get_cases, slice_get_within}
use Rattle.vm_memory_guest.specs.Host.{Host, block_at}
use Rattle.live_migration.specs.Bare.{AreBare}
use Rattle.live_migration.specs.Frame.{ZeroPage}
use Rattle.live_migration.specs.Image.{are_zero, page_bytes, placed}
use Rattle.live_migration.specs.Placing.{Applies, HasPlaced, TellsNothing}
use Rattle.live_migration.specs.Receiving.{zeroed}
use Rattle.live_migration.specs.declared.header.BlockEntry.{BlockEntry}
use Rattle.live_migration.proofs.ImageLemmas.{get_or-placed, length-placed, is_before, is_after, is_inside}
use Rattle.live_migration.proofs.PlacingLemmas.{zeros_apply, zeros_there}

-- ---- bytes that come into a block

-- a byte past what was placed
placed_after : (at k : ℕ) (bytes image : List ℕ) → at + length bytes ≤ k
    → get_or (placed at bytes image) k 0 ≡ get_or image k 0
placed_after at k bytes image past = elim (cases_lt k (length image)) [
  | inl within ↦
      get_or-placed at bytes image k within ∙ cond-false _ _ _ (is_after at (length bytes) k past)
  | inr out ↦
      get_or_past (placed at bytes image) k 0 (omega (arith, length-placed at bytes image))
      ∙ sym (get_or_past image k 0 out)
]

zero_at : (n i : ℕ) → get_or (replicate {A = ℕ} n 0) i 0 ≡ 0
zero_at n i = elim (cases_lt i n) [
  | inl below ↦ get_or-replicate n i 0 0 below
  | inr past ↦ get_or_past (replicate n 0) i 0 (omega (arith, length-replicate {A = ℕ} n 0))
]

-- a byte that is zero stays so where zeros are placed
placed_zero : (at n k : ℕ) (image : List ℕ) → get_or image k 0 ≡ 0
    → get_or (placed at (replicate n 0) image) k 0 ≡ 0
placed_zero at n k image none = elim (cases_lt k (length image)) [
  | inr out ↦
      get_or_past (placed at (replicate n 0) image) k 0 (omega (arith, length-placed at (replicate n 0) image))
  | inl within ↦ get_or-placed at (replicate n 0) image k within ∙ elim (cases_lt k at) [
    | inl low ↦ cond-false _ _ _ (is_before at _ k low) ∙ none
    | inr high ↦ elim (cases_lt k (at + length (replicate {A = ℕ} n 0))) [
      | inl inside ↦ cond-true _ _ _ (is_inside at _ k high inside) ∙ zero_at n (k - at)
      | inr behind ↦ cond-false _ _ _ (is_after at _ k behind) ∙ none
    ]
  ]
]

module _ {B : Type 0} (base block at : ℕ) (old new : Host B) where
  apart : (j : ℕ) → (j ≡ block → ⊥) → base + j ≡ base + block → ⊥
  apart j ne e = ne (omega arith)

  -- the block is bare past the bytes that came, and the others as before
  pub bare_after : (bytes offsets next : List ℕ) → HasPlaced old new (base + block) at bytes
      → AreBare base offsets old → length next ≡ length offsets
      → ((j : ℕ) → (j ≡ block → ⊥) → get_or next j 0 ≡ get_or offsets j 0)
      → get_or offsets block 0 ≤ get_or next block 0
      → (block < length offsets → at + length bytes ≤ get_or next block 0) → AreBare base next new
  bare_after bytes offsets next has bare len others kept end = λ j k l from. elim (cases_eq j block) [
    | inl same ↦
        let here : block < length offsets = omega (arith, same) in
        let past : get_or next block 0 ≤ k = subst (λ (i : ℕ). get_or next i 0 ≤ k) same from in
        ap (λ (i : ℕ). get_or (block_at new.blocks (base + i)) k 0) same
        ∙ ap (λ (xs : List ℕ). get_or xs k 0) has.block_is
        ∙ placed_after at k bytes (block_at old.blocks (base + block)) (omega (arith, end here))
        ∙ bare block k here (omega arith)
    | inr ne ↦
        ap (λ (xs : List ℕ). get_or xs k 0) (has.others (base + j) (apart j ne))
        ∙ bare j k (omega arith) (omega (arith, others j ne))
  ]

  -- zeros leave bare what is
  pub bare_zeros : (n : ℕ) (offsets : List ℕ) → HasPlaced old new (base + block) at (replicate n 0)
      → AreBare base offsets old → AreBare base offsets new
  bare_zeros n offsets has bare = λ j k l from. elim (cases_eq j block) [
    | inl same ↦
        ap (λ (i : ℕ). get_or (block_at new.blocks (base + i)) k 0) same
        ∙ ap (λ (xs : List ℕ). get_or xs k 0) has.block_is
        ∙ placed_zero at n k (block_at old.blocks (base + block))
        (ap (λ (i : ℕ). get_or (block_at old.blocks (base + i)) k 0) (sym same) ∙ bare j k l from)
    | inr ne ↦
        ap (λ (xs : List ℕ). get_or xs k 0) (has.others (base + j) (apart j ne)) ∙ bare j k l from
  ]

-- ---- zeros that are known

all_zero : (bytes : List ℕ) → ((k : ℕ) → get_or bytes k 0 ≡ 0) → are_zero bytes ≡ true
all_zero [] h = refl
all_zero (b ∷ bs) h = and_from _ _ (eq-eqb b 0 (h 0)) (all_zero bs (λ k. h (suc k)))

-- a page of zeros where a block has only zeros tells nothing
pub bare_tells : {B : Type 0} (base block page : ℕ) (entries : List BlockEntry) (entry : BlockEntry)
    (offsets : List ℕ) (host : Host B) → AreBare base offsets host → slice_get entries block ≡ Some entry
    → block < length offsets → get_or offsets block 0 ≤ page * entry.page_size
    → TellsNothing base entries (ZeroPage block page) host
bare_tells base block page entries entry offsets host bare there within from =
    (entry, there, all_zero (page_bytes entry.page_size page (block_at host.blocks (base + block))) byte)
  where
    byte : (k : ℕ) → get_or (page_bytes entry.page_size page (block_at host.blocks (base + block))) k 0 ≡ 0
    byte k =
        let image = block_at host.blocks (base + block) in
        let start = page * entry.page_size in
        elim (cases_lt k entry.page_size) [
          | inl below ↦
              get_or-take entry.page_size (drop start image) k 0 below ∙ get_or-drop start image k 0
              ∙ bare block (start + k) within (omega arith)
          | inr past ↦
              get_or_past (take entry.page_size (drop start image)) k 0
              (omega (arith, length-take entry.page_size (drop start image)))
        ]

-- a page of zeros where a block has only zeros changes nothing
pub bare_applies : {B : Type 0} (base block page : ℕ) (entries : List BlockEntry) (entry : BlockEntry)
    (offsets : List ℕ) (host : Host B) → AreBare base offsets host → slice_get entries block ≡ Some entry
    → length (block_at host.blocks (base + block)) ≡ entry.len → block < length offsets
    → get_or offsets block 0 ≤ page * entry.page_size → page * entry.page_size < entry.len
    → Applies base entries (ZeroPage block page) host host
bare_applies base block page entries entry offsets host bare there len within from inside =
    zeros_apply base entries host host block page count entry there refl
    (zeros_there (base + block) (page * entry.page_size) (replicate count 0) host (omega (arith, zeros))
    (ap (λ (m : ℕ). replicate m 0) (sym zeros))
    (all_zero (take (length (replicate {A = ℕ} count 0)) (drop (page * entry.page_size) (block_at host.blocks (base + block))))
    (byte (length (replicate {A = ℕ} count 0)))))
    (λ told. refl)
  where
    count : ℕ
    count = min entry.page_size (length (block_at host.blocks (base + block)) - page * entry.page_size)

    zeros : length (replicate {A = ℕ} count 0) ≡ count
    zeros = length-replicate count 0

    byte : (m k : ℕ) → get_or (take m (drop (page * entry.page_size) (block_at host.blocks (base + block)))) k 0 ≡ 0
    byte m k =
        let image = block_at host.blocks (base + block) in
        let start = page * entry.page_size in
        elim (cases_lt k m) [
          | inl below ↦
              get_or-take m (drop start image) k 0 below ∙ get_or-drop start image k 0
              ∙ bare block (start + k) within (omega arith)
          | inr past ↦ get_or_past (take m (drop start image)) k 0 (omega (arith, length-take m (drop start image)))
        ]

-- ---- blocks that were made

-- a block that a header asks for is made of zeros
pub made_at : (old blocks : List (List ℕ)) (entries : List BlockEntry) (base j : ℕ) (e : BlockEntry)
    → blocks ≡ old ++ zeroed entries → (0 < length entries → base ≡ length old) → slice_get entries j ≡ Some e
    → block_at blocks (base + j) ≡ replicate e.len 0
made_at old blocks entries base j e made at there =
    let within = slice_get_within entries j e there in
    let some : 0 < length entries = omega arith in
    ap (λ (bs : List (List ℕ)). block_at bs (base + j)) made
    ∙ ap (λ (b : ℕ). block_at (old ++ zeroed entries) (b + j)) (at some)
    ∙ get_or-append-add old (zeroed entries) j []
    ∙ get_or_from_slice_get (zeroed entries) j (replicate e.len 0) []
    (slice_get-map (λ (x : BlockEntry). replicate x.len 0) entries j
    ∙ ap (option_map (λ (x : BlockEntry). replicate x.len 0)) there)

pub bare_made : {B : Type 0} (base : ℕ) (entries : List BlockEntry) (offsets : List ℕ) (old : List (List ℕ))
    (host : Host B) → host.blocks ≡ old ++ zeroed entries → (0 < length entries → base ≡ length old)
    → (offsets ≡ replicate (length entries) 0) ⊎ (offsets ≡ []) → AreBare base offsets host
bare_made base entries offsets old host made at are = λ j k l from. elim are [
  | inl zeros ↦ elim (slice_get_cases entries j).1 [
    | inl f ↦
        ap (λ (xs : List ℕ). get_or xs k 0) (made_at old host.blocks entries base j f.0 made at f.2) ∙ zero_at f.0.len k
    | inr f ↦
        absurd (let past = f.0 in omega (arith, ap length zeros, length-replicate {A = ℕ} (length entries) 0))
  ]
  | inr none ↦ absurd (omega (arith, ap length none))
]
