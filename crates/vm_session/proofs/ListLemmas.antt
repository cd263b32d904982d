-- Lists that an output has no room for, or has.
use Rattle.std.proofs.Common.{arith, ◌≡◌, ◌∙◌, ◌+◌, ◌*◌, ◌<◌, ◌≤◌, ℕ, List, [], ◌++◌, append-nil, append_assoc, flat_map, length, take, drop, map, refl, sym, ap, ap₂, subst, inl, inr, length-append, length-take-le}
use Rattle.std.proofs.lemmas.List.{drop_all, drop-drop, length-map, take_all}
use Rattle.std.proofs.lemmas.List.Folds.{flat_map-map}
use Rattle.std.specs.Int.{w64, to_le_bytes}
use Rattle.vm_memory_base.specs.Table.{Range}
use Rattle.vm_memory_base.specs.Lookup.{range_in}
use Rattle.vm_memory_base.specs.declared.iotlb.IovaRange.{IovaRange}
use Rattle.vm_memory_base.specs.declared.iotlb.lookup.IotlbFails.{IotlbFails}
use Rattle.vm_memory_base.specs.declared.iotlb.lookup.MappedRange.{MappedRange}
use Rattle.vm_memory.specs.declared.machine.command.Reply.{Reply}
use Rattle.vm_memory.specs.declared.machine.command.Reply.TheVariants as reply
use Rattle.vm_session.specs.Answers.{bytes_of, bytes_of_pieces, bytes_of_ranges}
use Rattle.vm_session.specs.Codes.{short_of}
use Rattle.vm_session.specs.Lists.{ListsIf}
use Rattle.vm_session.specs.Session.{begins_with}
use Rattle.vm_session.specs.Words.{row_bytes}
use Rattle.vm_session.specs.declared.call.Answer.{Answer}
use Rattle.vm_session.proofs.WordLemmas.{items_length}

pub pages_length : (pages : List ℕ) → length (bytes_of (reply.Pages pages)) ≡ length pages * 8
pages_length pages = items_length (to_le_bytes w64) 8 (λ x. refl) pages

pub pieces_length : (pieces : List MappedRange) → length (bytes_of_pieces pieces) ≡ length pieces * 16
pieces_length pieces = items_length (λ p. row_bytes p.base.0 p.length) 16 (λ x. refl) pieces

pub ranges_length : (ranges : List Range) → length (bytes_of_ranges ranges) ≡ length ranges * 16
ranges_length ranges = items_length (λ r. row_bytes r.base r.len) 16 (λ x. refl) ranges

-- a list is longer than an output
pub is_short : (r : Reply) (out : List ℕ) (n : ℕ) (a : Answer) → length (bytes_of r) ≡ n → length out < n
    → a ≡ short_of n → ListsIf r out a out
is_short r out n a is short told =
    inl (subst (λ k. length out < k) (sym is) short, told ∙ ap short_of (sym is), refl)

-- two lists that fill the front of an output, each in its part
two_lists : (a b out : List ℕ) (m n : ℕ) → length a ≡ m → length b ≡ n → m + n ≤ length out
    → (a ++ drop m (take m out)) ++ (b ++ drop n (drop m out)) ≡ begins_with (a ++ b) out
two_lists a b out m n is_m is_n within =
    let none : drop m (take m out) ≡ [] =
    drop_all m (take m out) (omega (arith, length-take-le m out (omega arith))) in
    let size : length (a ++ b) ≡ m + n = length-append a b ∙ ap₂ (λ x y. x + y) is_m is_n in
    ap (λ l. (a ++ l) ++ (b ++ drop n (drop m out))) none
    ∙ ap (λ l. l ++ (b ++ drop n (drop m out))) (append-nil a)
    ∙ sym (append_assoc a b (drop n (drop m out)))
    ∙ ap₂ (λ f r. f ++ r) (sym (take_all (length out) (a ++ b) (omega (arith, size))))
    (drop-drop n m out ∙ ap (λ k. drop k out) (sym size))

abbrev rows : List IovaRange → List ℕ
rows xs = flat_map (λ r. row_bytes r.base.0 r.length) xs

rows_length : (xs : List IovaRange) → length (rows xs) ≡ length xs * 16
rows_length xs = items_length (λ r. row_bytes r.base.0 r.length) 16 (λ x. refl) xs

fails_rows : (fails : IotlbFails) (xs ys : List IovaRange) → map range_in xs ≡ fails.misses
    → map range_in ys ≡ fails.access_fails → bytes_of (reply.Fails fails) ≡ rows xs ++ rows ys
fails_rows fails xs ys misses access =
    ap₂ (λ a b. bytes_of_ranges a ++ bytes_of_ranges b) (sym misses) (sym access)
    ∙ ap₂ (λ a b. a ++ b) (flat_map-map (λ (r : Range). row_bytes r.base r.len) range_in xs)
    (flat_map-map (λ (r : Range). row_bytes r.base r.len) range_in ys)

pub fails_short : (fails : IotlbFails) (xs ys : List IovaRange) (out : List ℕ) (a : Answer)
    → map range_in xs ≡ fails.misses → map range_in ys ≡ fails.access_fails
    → length out < length xs * 16 + length ys * 16 → a ≡ short_of (length xs * 16 + length ys * 16)
    → ListsIf (reply.Fails fails) out a out
fails_short fails xs ys out a misses access short told =
    is_short (reply.Fails fails) out (length xs * 16 + length ys * 16) a
    (ap length (fails_rows fails xs ys misses access) ∙ length-append (rows xs) (rows ys)
    ∙ ap₂ (λ m n. m + n) (rows_length xs) (rows_length ys)) short told

pub fails_listed : (fails : IotlbFails) (xs ys : List IovaRange) (out : List ℕ) → map range_in xs ≡ fails.misses
    → map range_in ys ≡ fails.access_fails → length xs * 16 + length ys * 16 ≤ length out
    → ListsIf (reply.Fails fails) out (record { code = 4; count = length xs; value = length ys; address = 0 })
    ((rows xs ++ drop (length xs * 16) (take (length xs * 16) out))
    ++ (rows ys ++ drop (length ys * 16) (drop (length xs * 16) out)))
fails_listed fails xs ys out misses access within =
    let is = fails_rows fails xs ys misses access in
    let size = ap length is ∙ length-append (rows xs) (rows ys)
    ∙ ap₂ (λ m n. m + n) (rows_length xs) (rows_length ys) in
    inr (
      omega (arith, size),
      ap₂ (λ m n. record { code = 4; count = m; value = n; address = 0 })
          (sym (length-map xs range_in) ∙ ap length misses) (sym (length-map ys range_in) ∙ ap length access),
      two_lists (rows xs) (rows ys) out (length xs * 16) (length ys * 16) (rows_length xs) (rows_length ys) within
          ∙ ap (λ b. begins_with b out) (sym is),
    )
