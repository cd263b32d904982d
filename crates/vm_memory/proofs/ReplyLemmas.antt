-- The texts of lists.
use Rattle.std.proofs.Common.{zero, suc, lit<, arith, ◌≡◌, ◌∙◌, ℕ, ◌+◌, ◌-◌, ◌<◌, ◌^◌, false, List, [], ◌∷◌, ◌++◌, length, take, get_or, map, flat_map, refl, sym, ap}
use Rattle.std.specs.Char.{digit_value}
use Rattle.std.specs.Fmt.{digit_glyph, digits, padded_integral, format_spec}
use Rattle.std.proofs.lemmas.Fmt.{hex_byte}
use Rattle.std.proofs.lemmas.List.{flat_map_more, take_more}
use Rattle.vm_memory_base.specs.Lookup.{range_in}
use Rattle.vm_memory_base.specs.Table.{Range}
use Rattle.vm_memory_base.specs.declared.iotlb.IovaRange.{IovaRange}
use Rattle.vm_memory.specs.Texts.{spaced, text_of_range, text_of_ranges, two_digits}

-- the digits of one byte more
pub digits-more : (bytes : List ℕ) (i : ℕ) → i < length bytes → get_or bytes i 0 < 256
    → flat_map two_digits (take i bytes)
    ++ padded_integral (format_spec 32 0 4 2 (2 ^ 64 - 1)) false [] (digits 16 false (get_or bytes i 0))
    ≡ flat_map two_digits (take (i + 1) bytes)
digits-more bytes i within small =
    ap (λ t. flat_map two_digits (take i bytes) ++ t) (hex_byte false (get_or bytes i 0) small)
    ∙ flat_map_more two_digits [] (take i bytes) (get_or bytes i 0)
    ∙ ap (flat_map two_digits) (sym (take_more bytes i 0 within))

map-range_in : (ranges : List IovaRange)
    → map (λ (r : Range). text_of_range r.base r.len) (map range_in ranges)
    ≡ map (λ (r : IovaRange). text_of_range r.base.0 r.length) ranges
map-range_in [] = refl
map-range_in (r ∷ ranges) = ap (λ texts. text_of_range r.base.0 r.length ∷ texts) (map-range_in ranges)

-- the ranges of a list, as they are kept
pub text_of_ranges-map : (ranges : List IovaRange)
    → text_of_ranges (map range_in ranges) ≡ spaced (map (λ (r : IovaRange). text_of_range r.base.0 r.length) ranges)
text_of_ranges-map ranges = ap spaced (map-range_in ranges)

-- a hexadecimal digit is a letter or a decimal digit, and has its value
pub glyph-letter : (n : ℕ) → n < 16 → (44 < digit_glyph false n) × (digit_glyph false n < 128)
glyph-letter zero h = (lit< tt, lit< tt)
glyph-letter (suc zero) h = (lit< tt, lit< tt)
glyph-letter (suc (suc zero)) h = (lit< tt, lit< tt)
glyph-letter (suc (suc (suc zero))) h = (lit< tt, lit< tt)
glyph-letter (suc (suc (suc (suc zero)))) h = (lit< tt, lit< tt)
glyph-letter (suc (suc (suc (suc (suc zero))))) h = (lit< tt, lit< tt)
glyph-letter (suc (suc (suc (suc (suc (suc zero)))))) h = (lit< tt, lit< tt)
glyph-letter (suc (suc (suc (suc (suc (suc (suc zero))))))) h = (lit< tt, lit< tt)
glyph-letter (suc (suc (suc (suc (suc (suc (suc (suc zero)))))))) h = (lit< tt, lit< tt)
glyph-letter (suc (suc (suc (suc (suc (suc (suc (suc (suc zero))))))))) h = (lit< tt, lit< tt)
glyph-letter (suc (suc (suc (suc (suc (suc (suc (suc (suc (suc zero)))))))))) h = (lit< tt, lit< tt)
glyph-letter (suc (suc (suc (suc (suc (suc (suc (suc (suc (suc (suc zero))))))))))) h = (lit< tt, lit< tt)
glyph-letter (suc (suc (suc (suc (suc (suc (suc (suc (suc (suc (suc (suc zero)))))))))))) h = (lit< tt, lit< tt)
glyph-letter (suc (suc (suc (suc (suc (suc (suc (suc (suc (suc (suc (suc (suc zero))))))))))))) h = (lit< tt, lit< tt)
glyph-letter (suc (suc (suc (suc (suc (suc (suc (suc
    (suc (suc (suc (suc (suc (suc zero)))))))))))))) h = (lit< tt, lit< tt)
glyph-letter (suc (suc (suc (suc (suc (suc (suc (suc
    (suc (suc (suc (suc (suc (suc (suc zero))))))))))))))) h = (lit< tt, lit< tt)
glyph-letter (suc (suc (suc (suc (suc (suc (suc (suc
    (suc (suc (suc (suc (suc (suc (suc (suc n)))))))))))))))) h = absurd (omega arith)

pub glyph-value : (n : ℕ) → n < 16 → digit_value (digit_glyph false n) ≡ n
glyph-value zero h = refl
glyph-value (suc zero) h = refl
glyph-value (suc (suc zero)) h = refl
glyph-value (suc (suc (suc zero))) h = refl
glyph-value (suc (suc (suc (suc zero)))) h = refl
glyph-value (suc (suc (suc (suc (suc zero))))) h = refl
glyph-value (suc (suc (suc (suc (suc (suc zero)))))) h = refl
glyph-value (suc (suc (suc (suc (suc (suc (suc zero))))))) h = refl
glyph-value (suc (suc (suc (suc (suc (suc (suc (suc zero)))))))) h = refl
glyph-value (suc (suc (suc (suc (suc (suc (suc (suc (suc zero))))))))) h = refl
glyph-value (suc (suc (suc (suc (suc (suc (suc (suc (suc (suc zero)))))))))) h = refl
glyph-value (suc (suc (suc (suc (suc (suc (suc (suc (suc (suc (suc zero))))))))))) h = refl
glyph-value (suc (suc (suc (suc (suc (suc (suc (suc (suc (suc (suc (suc zero)))))))))))) h = refl
glyph-value (suc (suc (suc (suc (suc (suc (suc (suc (suc (suc (suc (suc (suc zero))))))))))))) h = refl
glyph-value (suc (suc (suc (suc (suc (suc (suc (suc (suc (suc (suc (suc (suc (suc zero)))))))))))))) h = refl
glyph-value (suc (suc (suc (suc (suc (suc (suc (suc (suc (suc (suc (suc (suc (suc (suc zero))))))))))))))) h = refl
glyph-value (suc (suc (suc (suc (suc (suc (suc (suc
    (suc (suc (suc (suc (suc (suc (suc (suc n)))))))))))))))) h = absurd (omega arith)
