-- Replies that differ have texts that differ.
use Rattle.std.proofs.Common.{◌≡◌, ◌≢◌, ◌∙◌, ℕ, ◌+◌, ◌/◌, ◌%◌, ◌*◌, ◌<◌, ◌^◌, Bool, true, false, nat_eq, cond, List, [], ◌∷◌, ◌++◌, append_assoc, append-nil, map, flat_map, refl, sym, ap, subst, codes, arith, lit<}
use Rattle.std.specs.Fmt.{decimal, digits, digit_glyph}
use Rattle.std.specs.List.{AllByRecursion, onto_first}
use Rattle.std.specs.Str.{bytes_eq}
use Rattle.std.specs.Str.Parse.{AllDigits, IsNumeral, digits_value}
use Rattle.std.specs.declared.io.ErrorKind.{ErrorKind}
use Rattle.std.specs.declared.io.ErrorKind.TheVariants.{Interrupted, WriteZero, UnexpectedEof, Other}
use Rattle.std.proofs.lemmas.Bool.{eq-eqb, ne_eqb}
use Rattle.std.proofs.lemmas.Bool.Decides.{nat_tests}
use Rattle.std.specs.Char.{digit_value}
use Rattle.std.proofs.lemmas.Fmt.{decimal_is_IsNumeral, digits_is_IsNumeral}
use Rattle.vm_memory_base.specs.Table.{Range}
use Rattle.vm_memory_base.specs.declared.iotlb.IovaRange.{IovaRange}
use Rattle.vm_memory_base.specs.declared.iotlb.IommuError as errors
use Rattle.vm_memory_base.specs.declared.iotlb.IommuError.TheVariants as error
use Rattle.vm_memory_base.specs.declared.iotlb.Reason.{Reason}
use Rattle.vm_memory_base.specs.declared.iotlb.Reason.TheVariants.{MissingMapping, AccessNotAllowed, NotConfigured}
use Rattle.vm_memory_base.specs.declared.iotlb.lookup.MappedRange.{MappedRange}
use Rattle.vm_memory.specs.Words.{parts_of}
use Rattle.vm_memory.specs.Texts.{CanEnd, CanFault, CanRefuse, CanTell, CanTellSetup, IsMet, text_of_setup, hexadecimal, spaced, text_of, text_of_bytes, text_of_ending, text_of_fault, text_of_kind, text_of_piece, text_of_range, text_of_ranges, text_of_reason, text_of_refusal, two_digits, after_space}
use Rattle.vm_memory.specs.declared.machine.command.Fault as faults
use Rattle.vm_memory.specs.declared.machine.command.Fault.TheVariants as fault
use Rattle.vm_memory.specs.declared.machine.command.Ending as endings
use Rattle.vm_memory.specs.declared.machine.command.Ending.TheVariants as ending
use Rattle.vm_memory.specs.declared.machine.command.Reply as replies
use Rattle.vm_memory.specs.declared.machine.command.Reply.TheVariants as reply
use Rattle.vm_memory.proofs.ReplyLemmas.{glyph-letter, glyph-value}
use Rattle.vm_memory.specs.declared.machine.setup.SetupReply as setups
use Rattle.vm_memory.specs.declared.machine.setup.SetupReply.TheVariants as setup
use Rattle.vm_memory.proofs.SpellingLemmas.{first, other_word, second}
use Rattle.vm_memory.proofs.WritingLemmas.{Apart, Letters, both, decimal-letters, in-word, no_space, parts-one, weaker}

-- ---- words of texts

parts-some : (c : ℕ) (text : List ℕ) → (p : List ℕ) × (ps : List (List ℕ)) × (parts_of c text ≡ p ∷ ps)
parts-some c [] = ([], [], refl)
parts-some c (b ∷ text) = go (nat_eq b c) (parts_of c text)
  where
    go : (t : Bool) (rest : List (List ℕ)) → (p : List ℕ) × (ps : List (List ℕ))
        × (cond t ([] ∷ rest) (onto_first b rest) ≡ p ∷ ps)
    go true rest = ([], rest, refl)
    go false [] = (b ∷ [], [], refl)
    go false (p ∷ ps) = (b ∷ p, ps, refl)

onto-append : (b : ℕ) (xs ys : List (List ℕ)) (p : List ℕ) (ps : List (List ℕ)) → xs ≡ p ∷ ps
    → onto_first b (xs ++ ys) ≡ onto_first b xs ++ ys
onto-append b xs ys p ps e =
    ap (λ l. onto_first b (l ++ ys)) e ∙ sym (ap (λ l. onto_first b l ++ ys) e)

-- the words of two texts with a space between
pub parts-append : (c : ℕ) (x y : List ℕ) → parts_of c (x ++ c ∷ y) ≡ parts_of c x ++ parts_of c y
parts-append c [] y = first _ _ _ (same c)
  where
    same : (n : ℕ) → nat_eq n n ≡ true
    same n = eq-eqb n n refl
parts-append c (b ∷ x) y =
    ap (λ l. cond (nat_eq b c) ([] ∷ l) (onto_first b l)) (parts-append c x y) ∙ go (nat_eq b c)
  where
    some : (p : List ℕ) × (ps : List (List ℕ)) × (parts_of c x ≡ p ∷ ps)
    some = parts-some c x

    go : (t : Bool) → cond t ([] ∷ (parts_of c x ++ parts_of c y)) (onto_first b (parts_of c x ++ parts_of c y))
        ≡ cond t ([] ∷ parts_of c x) (onto_first b (parts_of c x)) ++ parts_of c y
    go true = refl
    go false = onto-append b (parts_of c x) (parts_of c y) some.0 some.1 some.2

-- ---- what is read back of words

head : List (List ℕ) → List ℕ
head [] = []
head (w ∷ ws) = w

tail : List (List ℕ) → List (List ℕ)
tail [] = []
tail (w ∷ ws) = ws

decimal_back : List ℕ → ℕ
decimal_back w = digits_value 10 w

digits_back : List ℕ → ℕ
digits_back (a ∷ b ∷ ds) = digits_value 16 ds
digits_back w = 0

range_back : List ℕ → ℕ × ℕ
range_back w = let ps = parts_of 43 w in (digits_back (head ps), digits_back (head (tail ps)))

bytes_back : List ℕ → List ℕ
bytes_back (a ∷ b ∷ ds) = (digit_value a * 16 + digit_value b) ∷ bytes_back ds
bytes_back w = []

list_back : {A : Type 0} → (List ℕ → A) → List (List ℕ) → List A
list_back f [] = []
list_back f (w ∷ ws) = cond (bytes_eq w (codes "-")) [] (map f (w ∷ ws))

kind_back : List ℕ → ErrorKind
kind_back w =
    cond (bytes_eq w (codes "Interrupted")) Interrupted
    (cond (bytes_eq w (codes "WriteZero")) WriteZero (cond (bytes_eq w (codes "UnexpectedEof")) UnexpectedEof Other))

reason_back : List ℕ → Reason
reason_back w =
    cond (bytes_eq w (codes "missing")) MissingMapping
    (cond (bytes_eq w (codes "access")) AccessNotAllowed NotConfigured)

iova : ℕ × ℕ → IovaRange
iova r = record { base = record { 0 = r.0 }; length = r.1 }

refusal_back : List (List ℕ) → errors.IommuError
refusal_back ws =
    let r = iova (range_back (head (tail ws))) in
    let second_word = head (tail (tail ws)) in
    cond (bytes_eq (head ws) (codes "I1")) (error.CannotResolve r (reason_back second_word))
    (cond (bytes_eq (head ws) (codes "I2")) (error.Fragmented r (decimal_back second_word))
    (cond (bytes_eq (head ws) (codes "I3")) (error.IommuMisconfigured (reason_back (head (tail ws)))) error.Memory))

fault_back : List (List ℕ) → faults.Fault
fault_back ws =
    let name = head ws in
    let more = tail ws in
    cond (bytes_eq name (codes "G1")) (fault.InvalidGuestAddress (record { 0 = digits_back (head more) }))
    (cond (bytes_eq name (codes "G2")) (fault.IOError (kind_back (head more)))
    (cond (bytes_eq name (codes "G3"))
    (fault.PartialBuffer (decimal_back (head more)) (decimal_back (head (tail more))))
    (cond (bytes_eq name (codes "G4")) fault.InvalidBackendAddress
    (cond (bytes_eq name (codes "G5")) fault.HostAddressNotAvailable
    (cond (bytes_eq name (codes "G6")) fault.CallbackOutOfRange
    (cond (bytes_eq name (codes "G7")) fault.GuestAddressOverflow
    (cond (bytes_eq name (codes "G8")) (fault.IommuError (refusal_back more))
    (cond (bytes_eq name (codes "C1")) fault.NoMemoryRegion
    (cond (bytes_eq name (codes "C2")) fault.MemoryRegionOverlap fault.UnsortedMemoryRegions)))))))))

ending_back : List (List ℕ) → endings.Ending
ending_back ws =
    cond (bytes_eq (head ws) (codes "count")) (ending.Count (decimal_back (head (tail ws))))
    (cond (bytes_eq (head ws) (codes "ok")) ending.Done (ending.Fault (fault_back (tail ws))))

-- all words but the last two, and the last
front : List (List ℕ) → List (List ℕ)
front [] = []
front (a ∷ []) = []
front (a ∷ b ∷ []) = []
front (a ∷ b ∷ c ∷ ws) = a ∷ front (b ∷ c ∷ ws)

last : List (List ℕ) → List ℕ
last [] = []
last (a ∷ []) = a
last (a ∷ b ∷ ws) = last (b ∷ ws)

-- the words before the first that is this, and those after it
until : List ℕ → List (List ℕ) → List (List ℕ)
until w [] = []
until w (a ∷ ws) = cond (bytes_eq a w) [] (a ∷ until w ws)

beyond : List ℕ → List (List ℕ) → List (List ℕ)
beyond w [] = []
beyond w (a ∷ ws) = cond (bytes_eq a w) ws (beyond w ws)

mapped : ℕ × ℕ → MappedRange
mapped r = record { base = record { 0 = r.0 }; length = r.1 }

plain_range : ℕ × ℕ → Range
plain_range r = record { base = r.0; len = r.1 }

ranges_back : List (List ℕ) → List Range
ranges_back ws = list_back (λ w. plain_range (range_back w)) ws

reply_back : List (List ℕ) → replies.Reply
reply_back ws =
    let name = head ws in
    let more = tail ws in
    cond (bytes_eq name (codes "layout")) (reply.Layout (decimal_back (head more)))
    (cond (bytes_eq name (codes "memory")) (reply.MemoryMade (decimal_back (head more)))
    (cond (bytes_eq name (codes "ok")) reply.Done
    (cond (bytes_eq name (codes "count")) (reply.Count (decimal_back (head more)))
    (cond (bytes_eq name (codes "value")) (reply.Value (decimal_back (head more)))
    (cond (bytes_eq name (codes "true")) (reply.Truth true)
    (cond (bytes_eq name (codes "false")) (reply.Truth false)
    (cond (bytes_eq name (codes "bytes")) (reply.Bytes (bytes_back (head more)))
    (cond (bytes_eq name (codes "sent")) (reply.Sent (ending_back (front more)) (bytes_back (last more)))
    (cond (bytes_eq name (codes "pages")) (reply.Pages (list_back decimal_back more))
    (cond (bytes_eq name (codes "pieces")) (reply.Pieces (list_back (λ w. mapped (range_back w)) more))
    (cond (bytes_eq name (codes "fails")) (reply.Fails (record {
      misses = ranges_back (until (codes "access") (tail more));
      access_fails = ranges_back (beyond (codes "access") (tail more));
    }))
    (cond (bytes_eq (head more) (codes "NoSuch")) reply.NoSuch
    (cond (bytes_eq (head more) (codes "BadRange")) reply.BadRange
    (cond (bytes_eq (head more) (codes "Memory")) reply.Memory (reply.Fault (fault_back more))))))))))))))))

-- ---- numbers, ranges and bytes

decimal-word : (n : ℕ) → n < 2 ^ 64 → parts_of 32 (decimal n) ≡ decimal n ∷ []
decimal-word n h = parts-one 32 (decimal n) (no_space (decimal n) (in-word (decimal n) (decimal-letters n h)))

decimal-back : (n : ℕ) → n < 2 ^ 64 → decimal_back (decimal n) ≡ n
unfolding decimal_back
decimal-back n h = (decimal_is_IsNumeral n h).1

hex-letter : (c : ℕ) → digit_value c < 16 → (44 < c) × (c < 128)
hex-letter c h = (grind (arith, nat_tests), grind (arith, nat_tests))

hex-letters : (ds : List ℕ) → AllDigits 16 ds → Letters ds
hex-letters [] h = tt
hex-letters (c ∷ cs) h = (hex-letter c h.0, hex-letters cs h.1)

hex-digits : (n : ℕ) → n < 2 ^ 64 → IsNumeral 16 (digits 16 false n) × (digits_value 16 (digits 16 false n) ≡ n)
hex-digits n h =
    let small : n < 16 ^ 64 = omega arith in digits_is_IsNumeral 16 false (omega arith) (omega arith) n small

hexadecimal-letters : (n : ℕ) → n < 2 ^ 64 → Letters (hexadecimal n)
hexadecimal-letters n h =
    ((lit< tt, lit< tt), ((lit< tt, lit< tt), hex-letters (digits 16 false n) (hex-digits n h).0.1))

hexadecimal-back : (n : ℕ) → n < 2 ^ 64 → digits_back (hexadecimal n) ≡ n
unfolding digits_back
hexadecimal-back n h = (hex-digits n h).1

letters-word : (text : List ℕ) → Letters text → parts_of 32 text ≡ text ∷ []
letters-word text h = parts-one 32 text (no_space text (in-word text h))

no_plus : (text : List ℕ) → Letters text → Apart 43 text
no_plus text h =
    weaker (λ b. (44 < b) × (b < 128)) (λ b. nat_eq b 43 ≡ false) text
    (λ b l. let low = l.0 in ne_eqb b 43 (λ e. omega arith)) h

-- a base and a length that fit
abbrev Fits : ℕ → ℕ → Type 0
Fits base len = (base < 2 ^ 64) × (len < 2 ^ 64)

range-text : (base len : ℕ) → text_of_range base len ≡ hexadecimal base ++ 43 ∷ hexadecimal len
range-text base len = append_assoc (hexadecimal base) (43 ∷ []) (hexadecimal len)

range-back : (base len : ℕ) → Fits base len → range_back (text_of_range base len) ≡ (base, len)
unfolding range_back head tail
range-back base len h =
    let one = λ (n : ℕ) (k : n < 2 ^ 64).
    parts-one 43 (hexadecimal n) (no_plus (hexadecimal n) (hexadecimal-letters n k)) in
    let words : parts_of 43 (text_of_range base len) ≡ hexadecimal base ∷ hexadecimal len ∷ [] =
    ap (parts_of 43) (range-text base len) ∙ parts-append 43 (hexadecimal base) (hexadecimal len)
    ∙ ap (λ l. l ++ parts_of 43 (hexadecimal len)) (one base h.0) ∙ ap (λ l. hexadecimal base ∷ l) (one len h.1) in
    ap (λ ps. (digits_back (head ps), digits_back (head (tail ps)))) words
    ∙ ap (λ b. (b, digits_back (hexadecimal len))) (hexadecimal-back base h.0)
    ∙ ap (λ l. (base, l)) (hexadecimal-back len h.1)

range-letters : (base len : ℕ) → Fits base len → AllByRecursion (λ b. (32 < b) × (b < 128)) (text_of_range base len)
range-letters base len h =
    subst (AllByRecursion (λ b. (32 < b) × (b < 128))) (sym (range-text base len))
    (both (λ b. (32 < b) × (b < 128)) (hexadecimal base) (43 ∷ hexadecimal len)
    (in-word (hexadecimal base) (hexadecimal-letters base h.0))
    ((lit< tt, lit< tt), in-word (hexadecimal len) (hexadecimal-letters len h.1)))

range-word : (base len : ℕ) → Fits base len → parts_of 32 (text_of_range base len) ≡ text_of_range base len ∷ []
range-word base len h = parts-one 32 _ (no_space (text_of_range base len) (range-letters base len h))

bytes-letters : (bs : List ℕ) → AllByRecursion (λ b. b < 256) bs → Letters (flat_map two_digits bs)
bytes-letters [] h = tt
bytes-letters (b ∷ bs) h =
    let small = h.0 in
    (glyph-letter (b / 16) (omega arith), (glyph-letter (b % 16) (omega arith), bytes-letters bs h.1))

bytes-word : (bs : List ℕ) → AllByRecursion (λ b. b < 256) bs → parts_of 32 (text_of_bytes bs) ≡ text_of_bytes bs ∷ []
bytes-word [] h = refl
bytes-word (b ∷ bs) h = letters-word (flat_map two_digits (b ∷ bs)) (bytes-letters (b ∷ bs) h)

pairs-back : (bs : List ℕ) → AllByRecursion (λ b. b < 256) bs → bytes_back (flat_map two_digits bs) ≡ bs
unfolding bytes_back
pairs-back [] h = refl
pairs-back (b ∷ bs) h =
    let small = h.0 in
    let high = glyph-value (b / 16) (omega arith) in
    let low = glyph-value (b % 16) (omega arith) in
    let byte : digit_value (digit_glyph false (b / 16)) * 16 + digit_value (digit_glyph false (b % 16)) ≡ b =
    ap (λ n. n * 16 + digit_value (digit_glyph false (b % 16))) high ∙ ap (λ n. b / 16 * 16 + n) low ∙ omega arith in
    ap (λ n. n ∷ bytes_back (flat_map two_digits bs)) byte ∙ ap (λ l. b ∷ l) (pairs-back bs h.1)

bytes-back : (bs : List ℕ) → AllByRecursion (λ b. b < 256) bs → bytes_back (text_of_bytes bs) ≡ bs
unfolding bytes_back
bytes-back [] h = refl
bytes-back (b ∷ bs) h = pairs-back (b ∷ bs) h

-- ---- lists

spaced-words : (text : List ℕ) (texts : List (List ℕ)) → AllByRecursion (Apart 32) (text ∷ texts)
    → parts_of 32 (spaced (text ∷ texts)) ≡ text ∷ texts
spaced-words text [] h = ap (parts_of 32) (append-nil text) ∙ parts-one 32 text h.0
spaced-words text (other ∷ texts) h =
    parts-append 32 text (other ++ flat_map after_space texts)
    ∙ ap (λ l. l ++ parts_of 32 (other ++ flat_map after_space texts)) (parts-one 32 text h.0)
    ∙ ap (λ l. text ∷ l) (spaced-words other texts h.1)

-- values with a text of one word, which is no dash
pub record HasWord {A : Type 0} (text : A → List ℕ) (back : List ℕ → A) (x : A) : Type 0 where
  apart : Apart 32 (text x)
  some : bytes_eq (text x) (codes "-") ≡ false
  read : back (text x) ≡ x

apart-all : {A : Type 0} (text : A → List ℕ) (back : List ℕ → A) (xs : List A) → AllByRecursion (HasWord text back) xs
    → AllByRecursion (Apart 32) (map text xs)
apart-all text back [] h = tt
apart-all text back (x ∷ xs) h = (h.0.apart, apart-all text back xs h.1)

map-back : {A : Type 0} (text : A → List ℕ) (back : List ℕ → A) (xs : List A) → AllByRecursion (HasWord text back) xs
    → map back (map text xs) ≡ xs
map-back text back [] h = refl
map-back text back (x ∷ xs) h =
    ap (λ y. y ∷ map back (map text xs)) h.0.read ∙ ap (λ l. x ∷ l) (map-back text back xs h.1)

-- the words of a list, which are a dash or those of its items
list-words : {A : Type 0} (text : A → List ℕ) (back : List ℕ → A) (xs : List A)
    → AllByRecursion (HasWord text back) xs → list_back back (parts_of 32 (spaced (map text xs))) ≡ xs
unfolding list_back
list-words text back [] h = refl
list-words text back (x ∷ xs) h =
    ap (list_back back) (spaced-words (text x) (map text xs) (apart-all text back (x ∷ xs) h))
    ∙ second _ _ _ h.0.some ∙ map-back text back (x ∷ xs) h

dash_digits : (n : ℕ) → n < 2 ^ 64 → decimal n ≢ codes "-"
dash_digits n h e = let all = subst (AllDigits 10) e (decimal_is_IsNumeral n h).0.1 in let low = all.0 in omega arith

page-word : (n : ℕ) → n < 2 ^ 64 → HasWord decimal decimal_back n
page-word n h = record {
  apart = no_space (decimal n) (in-word (decimal n) (decimal-letters n h));
  some = other_word (decimal n) (codes "-") (dash_digits n h);
  read = decimal-back n h;
}

range-item : (r : Range) → Fits r.base r.len → HasWord (λ (q : Range). text_of_range q.base q.len)
    (λ w. plain_range (range_back w)) r
unfolding plain_range
range-item r h = record {
  apart = no_space (text_of_range r.base r.len) (range-letters r.base r.len h);
  some = refl;
  read = ap plain_range (range-back r.base r.len h);
}

piece-item : (p : MappedRange) → Fits p.base.0 p.length → HasWord text_of_piece (λ w. mapped (range_back w)) p
unfolding mapped
piece-item p h = record {
  apart = no_space (text_of_piece p) (range-letters p.base.0 p.length h);
  some = refl;
  read = ap mapped (range-back p.base.0 p.length h);
}

-- ---- faults and endings

spaced2 : (x y : List ℕ) → parts_of 32 ((x ++ codes " ") ++ y) ≡ parts_of 32 x ++ parts_of 32 y
spaced2 x y = ap (parts_of 32) (append_assoc x (32 ∷ []) y) ∙ parts-append 32 x y

kind-word : (kind : ErrorKind) → IsMet kind → parts_of 32 (text_of_kind kind) ≡ text_of_kind kind ∷ []
kind-word Interrupted h = refl
kind-word WriteZero h = refl
kind-word UnexpectedEof h = refl
kind-word Other h = refl
kind-word kind h = absurd h

kind-back : (kind : ErrorKind) → IsMet kind → kind_back (text_of_kind kind) ≡ kind
unfolding kind_back
kind-back Interrupted h = refl
kind-back WriteZero h = refl
kind-back UnexpectedEof h = refl
kind-back Other h = refl
kind-back kind h = absurd h

reason-word : (reason : Reason) → parts_of 32 (text_of_reason reason) ≡ text_of_reason reason ∷ []
reason-word MissingMapping = refl
reason-word AccessNotAllowed = refl
reason-word NotConfigured = refl

reason-back : (reason : Reason) → reason_back (text_of_reason reason) ≡ reason
unfolding reason_back
reason-back MissingMapping = refl
reason-back AccessNotAllowed = refl
reason-back NotConfigured = refl

refusal-back : (e : errors.IommuError) → CanRefuse e → refusal_back (parts_of 32 (text_of_refusal e)) ≡ e
unfolding refusal_back head tail iova
refusal-back (error.CannotResolve range reason) h =
    let words : parts_of 32 (text_of_refusal (error.CannotResolve range reason))
    ≡ codes "I1" ∷ text_of_range range.base.0 range.length ∷ text_of_reason reason ∷ [] =
    spaced2 (codes "I1 " ++ text_of_range range.base.0 range.length) (text_of_reason reason)
    ∙ ap (λ l. codes "I1" ∷ (l ++ parts_of 32 (text_of_reason reason))) (range-word range.base.0 range.length h)
    ∙ ap (λ l. codes "I1" ∷ text_of_range range.base.0 range.length ∷ l) (reason-word reason) in
    ap refusal_back words
    ∙ ap (λ r. error.CannotResolve (iova r) (reason_back (text_of_reason reason)))
    (range-back range.base.0 range.length h)
    ∙ ap (error.CannotResolve range) (reason-back reason)
refusal-back (error.Fragmented range length) h =
    let fits : Fits range.base.0 range.length = (h.0, h.1) in
    let words : parts_of 32 (text_of_refusal (error.Fragmented range length))
    ≡ codes "I2" ∷ text_of_range range.base.0 range.length ∷ decimal length ∷ [] =
    spaced2 (codes "I2 " ++ text_of_range range.base.0 range.length) (decimal length)
    ∙ ap (λ l. codes "I2" ∷ (l ++ parts_of 32 (decimal length))) (range-word range.base.0 range.length fits)
    ∙ ap (λ l. codes "I2" ∷ text_of_range range.base.0 range.length ∷ l) (decimal-word length h.2) in
    ap refusal_back words
    ∙ ap (λ r. error.Fragmented (iova r) (decimal_back (decimal length))) (range-back range.base.0 range.length fits)
    ∙ ap (error.Fragmented range) (decimal-back length h.2)
refusal-back (error.IommuMisconfigured reason) h =
    ap (λ l. refusal_back (codes "I3" ∷ l)) (reason-word reason) ∙ ap error.IommuMisconfigured (reason-back reason)
refusal-back error.Memory h = refl

fault-back : (f : faults.Fault) → CanFault f → fault_back (parts_of 32 (text_of_fault f)) ≡ f
unfolding fault_back head tail
fault-back (fault.InvalidGuestAddress addr) h =
    ap (λ l. fault_back (codes "G1" ∷ l)) (letters-word (hexadecimal addr.0) (hexadecimal-letters addr.0 h))
    ∙ ap (λ n. fault.InvalidGuestAddress (record { 0 = n })) (hexadecimal-back addr.0 h)
fault-back (fault.IOError kind) h =
    ap (λ l. fault_back (codes "G2" ∷ l)) (kind-word kind h) ∙ ap fault.IOError (kind-back kind h)
fault-back (fault.PartialBuffer expected completed) h =
    let words : parts_of 32 (text_of_fault (fault.PartialBuffer expected completed))
    ≡ codes "G3" ∷ decimal expected ∷ decimal completed ∷ [] =
    spaced2 (codes "G3 " ++ decimal expected) (decimal completed)
    ∙ ap (λ l. codes "G3" ∷ (l ++ parts_of 32 (decimal completed))) (decimal-word expected h.0)
    ∙ ap (λ l. codes "G3" ∷ decimal expected ∷ l) (decimal-word completed h.1) in
    ap fault_back words
    ∙ ap (λ n. fault.PartialBuffer n (decimal_back (decimal completed))) (decimal-back expected h.0)
    ∙ ap (fault.PartialBuffer expected) (decimal-back completed h.1)
fault-back fault.InvalidBackendAddress h = refl
fault-back fault.HostAddressNotAvailable h = refl
fault-back fault.CallbackOutOfRange h = refl
fault-back fault.GuestAddressOverflow h = refl
fault-back (fault.IommuError e) h = ap fault.IommuError (refusal-back e h)
fault-back fault.NoMemoryRegion h = refl
fault-back fault.MemoryRegionOverlap h = refl
fault-back fault.UnsortedMemoryRegions h = refl

ending-back : (e : endings.Ending) → CanEnd e → ending_back (parts_of 32 (text_of_ending e)) ≡ e
unfolding ending_back head tail
ending-back (ending.Count count) h =
    ap (λ l. ending_back (codes "count" ∷ l)) (decimal-word count h) ∙ ap ending.Count (decimal-back count h)
ending-back ending.Done h = refl
ending-back (ending.Fault f) h = ap ending.Fault (fault-back f h)

-- ---- replies

front-append : (ws : List (List ℕ)) (a b : List ℕ) → front (ws ++ a ∷ b ∷ []) ≡ ws
unfolding front
front-append [] a b = refl
front-append (w ∷ []) a b = refl
front-append (w ∷ v ∷ []) a b = refl
front-append (w ∷ v ∷ u ∷ ws) a b = ap (λ l. w ∷ l) (front-append (v ∷ u ∷ ws) a b)

last-append : (ws : List (List ℕ)) (a b : List ℕ) → last (ws ++ a ∷ b ∷ []) ≡ b
unfolding last
last-append [] a b = refl
last-append (w ∷ []) a b = refl
last-append (w ∷ v ∷ ws) a b = last-append (v ∷ ws) a b

-- words that are not this one
abbrev Others : List ℕ → List (List ℕ) → Type 0
Others w ws = AllByRecursion (λ a. bytes_eq a w ≡ false) ws

until-append : (w : List ℕ) (ws vs : List (List ℕ)) → Others w ws → bytes_eq w w ≡ true → until w (ws ++ w ∷ vs) ≡ ws
unfolding until
until-append w [] vs h same = first _ _ _ same
until-append w (a ∷ ws) vs h same = second _ _ _ h.0 ∙ ap (λ l. a ∷ l) (until-append w ws vs h.1 same)

beyond-append : (w : List ℕ) (ws vs : List (List ℕ)) → Others w ws → bytes_eq w w ≡ true
    → beyond w (ws ++ w ∷ vs) ≡ vs
unfolding beyond
beyond-append w [] vs h same = first _ _ _ same
beyond-append w (a ∷ ws) vs h same = second _ _ _ h.0 ∙ beyond-append w ws vs h.1 same

range-others : (rs : List Range) → Others (codes "access") (map (λ (r : Range). text_of_range r.base r.len) rs)
range-others [] = tt
range-others (r ∷ rs) = (refl, range-others rs)

abbrev AreRanges : List Range → Type 0
AreRanges rs = AllByRecursion (λ (r : Range). Fits r.base r.len) rs

items : (rs : List Range) → AreRanges rs → AllByRecursion (HasWord (λ (q : Range). text_of_range q.base q.len)
    (λ w. plain_range (range_back w))) rs
items rs h = weaker (λ (r : Range). Fits r.base r.len) _ rs range-item h

ranges-others : (rs : List Range) → AreRanges rs → Others (codes "access") (parts_of 32 (text_of_ranges rs))
ranges-others [] h = (refl, tt)
ranges-others (r ∷ rs) h =
    let text : Range → List ℕ = λ q. text_of_range q.base q.len in
    let back : List ℕ → Range = λ w. plain_range (range_back w) in
    let apart = apart-all text back (r ∷ rs) (items (r ∷ rs) h) in
    subst (Others (codes "access")) (sym (spaced-words (text r) (map text rs) apart)) (range-others (r ∷ rs))

fault-reply : (f : faults.Fault) → CanFault f → reply_back (parts_of 32 (text_of (reply.Fault f))) ≡ reply.Fault f
unfolding reply_back head tail
fault-reply (fault.InvalidGuestAddress addr) h = ap reply.Fault (fault-back (fault.InvalidGuestAddress addr) h)
fault-reply (fault.IOError kind) h = ap reply.Fault (fault-back (fault.IOError kind) h)
fault-reply (fault.PartialBuffer expected completed) h =
    let words : parts_of 32 (text_of_fault (fault.PartialBuffer expected completed))
    ≡ codes "G3" ∷ (parts_of 32 (decimal expected) ++ parts_of 32 (decimal completed)) =
    spaced2 (codes "G3 " ++ decimal expected) (decimal completed) in
    ap (λ l. reply_back (codes "error" ∷ l)) words
    ∙ ap (λ l. reply.Fault (fault_back l)) (sym words)
    ∙ ap reply.Fault (fault-back (fault.PartialBuffer expected completed) h)
fault-reply fault.InvalidBackendAddress h = ap reply.Fault (fault-back fault.InvalidBackendAddress h)
fault-reply fault.HostAddressNotAvailable h = ap reply.Fault (fault-back fault.HostAddressNotAvailable h)
fault-reply fault.CallbackOutOfRange h = ap reply.Fault (fault-back fault.CallbackOutOfRange h)
fault-reply fault.GuestAddressOverflow h = ap reply.Fault (fault-back fault.GuestAddressOverflow h)
fault-reply (fault.IommuError e) h = ap reply.Fault (fault-back (fault.IommuError e) h)
fault-reply fault.NoMemoryRegion h = ap reply.Fault (fault-back fault.NoMemoryRegion h)
fault-reply fault.MemoryRegionOverlap h = ap reply.Fault (fault-back fault.MemoryRegionOverlap h)
fault-reply fault.UnsortedMemoryRegions h = ap reply.Fault (fault-back fault.UnsortedMemoryRegions h)

reply-back : (r : replies.Reply) → CanTell r → reply_back (parts_of 32 (text_of r)) ≡ r
unfolding reply_back head tail ranges_back
reply-back (reply.Layout number) h =
    ap (λ l. reply_back (codes "layout" ∷ l)) (decimal-word number h) ∙ ap reply.Layout (decimal-back number h)
reply-back (reply.MemoryMade number) h =
    ap (λ l. reply_back (codes "memory" ∷ l)) (decimal-word number h) ∙ ap reply.MemoryMade (decimal-back number h)
reply-back reply.Done h = refl
reply-back (reply.Count count) h =
    ap (λ l. reply_back (codes "count" ∷ l)) (decimal-word count h) ∙ ap reply.Count (decimal-back count h)
reply-back (reply.Value value) h =
    ap (λ l. reply_back (codes "value" ∷ l)) (decimal-word value h) ∙ ap reply.Value (decimal-back value h)
reply-back (reply.Truth true) h = refl
reply-back (reply.Truth false) h = refl
reply-back (reply.Bytes bytes) h =
    ap (λ l. reply_back (codes "bytes" ∷ l)) (bytes-word bytes h) ∙ ap reply.Bytes (bytes-back bytes h)
reply-back (reply.Sent end taken) h =
    let words : parts_of 32 (text_of (reply.Sent end taken))
    ≡ codes "sent" ∷ (parts_of 32 (text_of_ending end) ++ codes "taken" ∷ text_of_bytes taken ∷ []) =
    ap (parts_of 32) (append_assoc (codes "sent " ++ text_of_ending end) (codes " taken ") (text_of_bytes taken))
    ∙ ap (λ l. codes "sent" ∷ l) (parts-append 32 (text_of_ending end) (codes "taken " ++ text_of_bytes taken))
    ∙ ap (λ l. codes "sent" ∷ (parts_of 32 (text_of_ending end) ++ codes "taken" ∷ l)) (bytes-word taken h.1) in
    let ws = parts_of 32 (text_of_ending end) in
    ap reply_back words
    ∙ ap (λ l. reply.Sent (ending_back l) (bytes_back (last (ws ++ codes "taken" ∷ text_of_bytes taken ∷ []))))
    (front-append ws (codes "taken") (text_of_bytes taken))
    ∙ ap (λ l. reply.Sent (ending_back ws) (bytes_back l)) (last-append ws (codes "taken") (text_of_bytes taken))
    ∙ ap (λ e. reply.Sent e (bytes_back (text_of_bytes taken))) (ending-back end h.0)
    ∙ ap (reply.Sent end) (bytes-back taken h.1)
reply-back (reply.Pages pages) h =
    ap reply.Pages (list-words decimal decimal_back pages (weaker (λ n. n < 2 ^ 64) _ pages page-word h))
reply-back (reply.Pieces pieces) h =
    ap reply.Pieces (list-words text_of_piece (λ w. mapped (range_back w)) pieces
    (weaker (λ (p : MappedRange). Fits p.base.0 p.length) _ pieces piece-item h))
reply-back (reply.Fails fails) h =
    let m = text_of_ranges fails.misses in
    let a = text_of_ranges fails.access_fails in
    let words : parts_of 32 (text_of (reply.Fails fails))
    ≡ codes "fails" ∷ codes "misses" ∷ (parts_of 32 m ++ codes "access" ∷ parts_of 32 a) =
    ap (parts_of 32) (append_assoc (codes "fails misses " ++ m) (codes " access ") a)
    ∙ ap (λ l. codes "fails" ∷ codes "misses" ∷ l) (parts-append 32 m (codes "access " ++ a)) in
    let others = ranges-others fails.misses h.0 in
    let text = λ (q : Range). text_of_range q.base q.len in
    let back = λ (w : List ℕ). plain_range (range_back w) in
    ap reply_back words
    ∙ ap (λ l. reply.Fails (record {
      misses = list_back back l;
      access_fails = list_back back (beyond (codes "access") (parts_of 32 m ++ codes "access" ∷ parts_of 32 a));
    })) (until-append (codes "access") (parts_of 32 m) (parts_of 32 a) others refl)
    ∙ ap (λ l. reply.Fails (record { misses = list_back back (parts_of 32 m); access_fails = list_back back l }))
    (beyond-append (codes "access") (parts_of 32 m) (parts_of 32 a) others refl)
    ∙ ap (λ l. reply.Fails (record { misses = l; access_fails = list_back back (parts_of 32 a) }))
    (list-words text back fails.misses (items fails.misses h.0))
    ∙ ap (λ l. reply.Fails (record { misses = fails.misses; access_fails = l }))
    (list-words text back fails.access_fails (items fails.access_fails h.1))
reply-back (reply.Fault f) h = fault-reply f h
reply-back reply.NoSuch h = refl
reply-back reply.BadRange h = refl
reply-back reply.Memory h = refl

-- replies of one text are one
pub same_reply : (r s : replies.Reply) → CanTell r → CanTell s → text_of r ≡ text_of s → r ≡ s
same_reply r s h k e = sym (reply-back r h) ∙ ap (λ t. reply_back (parts_of 32 t)) e ∙ reply-back s k

-- ---- setup lines
setup_back : List (List ℕ) → setups.SetupReply
setup_back ws =
    let name = head ws in
    let more = head (tail ws) in
    cond (bytes_eq name (codes "block")) (setup.BlockMade (decimal_back more))
    (cond (bytes_eq name (codes "space")) (setup.SpaceMade (decimal_back more))
    (cond (bytes_eq name (codes "table")) (setup.TableMade (decimal_back more))
    (cond (bytes_eq name (codes "region")) (setup.RegionMade (decimal_back more))
    (cond (bytes_eq name (codes "translator")) (setup.TranslatorMade (decimal_back more))
    (cond (bytes_eq more (codes "M1")) setup.InvalidSize
    (cond (bytes_eq more (codes "F3")) setup.InvalidRegion
    (cond (bytes_eq more (codes "NoSuch")) setup.NoSuch setup.Memory)))))))

setup-back : (r : setups.SetupReply) → CanTellSetup r → setup_back (parts_of 32 (text_of_setup r)) ≡ r
unfolding setup_back head tail
setup-back (setup.BlockMade n) h =
    ap (λ l. setup_back (codes "block" ∷ l)) (decimal-word n h) ∙ ap setup.BlockMade (decimal-back n h)
setup-back (setup.SpaceMade n) h =
    ap (λ l. setup_back (codes "space" ∷ l)) (decimal-word n h) ∙ ap setup.SpaceMade (decimal-back n h)
setup-back (setup.TableMade n) h =
    ap (λ l. setup_back (codes "table" ∷ l)) (decimal-word n h) ∙ ap setup.TableMade (decimal-back n h)
setup-back (setup.RegionMade n) h =
    ap (λ l. setup_back (codes "region" ∷ l)) (decimal-word n h) ∙ ap setup.RegionMade (decimal-back n h)
setup-back (setup.TranslatorMade n) h =
    ap (λ l. setup_back (codes "translator" ∷ l)) (decimal-word n h) ∙ ap setup.TranslatorMade (decimal-back n h)
setup-back setup.InvalidSize h = refl
setup-back setup.InvalidRegion h = refl
setup-back setup.NoSuch h = refl
setup-back setup.Memory h = refl

pub same_setup_reply : (r s : setups.SetupReply) → CanTellSetup r → CanTellSetup s → text_of_setup r ≡ text_of_setup s
    → r ≡ s
same_setup_reply r s h k e =
    sym (setup-back r h) ∙ ap (λ t. setup_back (parts_of 32 t)) e ∙ setup-back s k
