-- Blocks that are given back.
use Rattle.std.proofs.Common.{◌≡◌, ◌^◌, ◌<◌, ◌≤◌, ℕ, zero, suc, List, [], length, map, set, refl, sym, subst, ap, ◌∙◌, arith, length-set, false, nat_lt, slice_get, slice_index_or, Option, unwrap_or}
use Rattle.std.proofs.lemmas.List.{map-set}
use Rattle.std.proofs.lemmas.List.Elements.{All-set}
use Rattle.std.proofs.lemmas.Option.{unwrap_or-slice_get}
use Rattle.vm_memory_base.specs.Table.{Table}
use Rattle.vm_memory_guest.specs.Host.{Shape, has_bytes}
use Rattle.vm_memory_guest.specs.Inside.{IsSound}

-- a host stays sound where a block has no bytes any more
pub sound-without : {B : Type 0} (shape : Shape) (blocks : List (List ℕ)) (bitmaps spaces : List B) (tables : List Table)
    (block : ℕ) (bitmap : B) → IsSound shape blocks bitmaps spaces tables
    → IsSound (record shape { blocks = set shape.blocks block 0 }) (set blocks block []) (set bitmaps block bitmap) spaces
    tables
sound-without shape blocks bitmaps spaces tables block bitmap sound =
    let is : map length (set blocks block []) ≡ set (map length blocks) block 0 = map-set length blocks block [] in
    record {
      lengths = ap (λ (lens : List ℕ). set lens block 0) sound.lengths ∙ sym is;
      spaces_counted = sound.spaces_counted;
      tables_counted = sound.tables_counted;
      tracked = length-set bitmaps block bitmap ∙ sound.tracked ∙ sym (length-set (map length blocks) block 0)
          ∙ ap length (sym is);
      sized = rw is (All-set (λ (len : ℕ). len < 2 ^ 63) (map length blocks) block 0 (omega arith) sound.sized);
    }

-- a block has bytes where its length is not 0
pub has_bytes-none : (shape : Shape) (block : ℕ) (len : Option ℕ) → len ≡ slice_get shape.blocks block
    → unwrap_or len 0 ≤ 0 → false ≡ has_bytes shape block
has_bytes-none shape block len is small =
    none (slice_index_or shape.blocks block 0)
    (subst (λ (n : ℕ). n ≤ 0) (ap (λ (o : Option ℕ). unwrap_or o 0) is ∙ unwrap_or-slice_get shape.blocks block 0) small)
  where
    none : (n : ℕ) → n ≤ 0 → false ≡ nat_lt 0 n
    none zero h = refl
    none (suc n) h = absurd (omega (arith, h))
