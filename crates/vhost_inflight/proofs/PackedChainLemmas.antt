-- Lists of entries: how often one stands there, how they are linked, and the chains that they make.
use Rattle.std.proofs.Common.{◌≡◌, ℕ, zero, suc, ◌+◌, ◌-◌, ◌<◌, ◌≤◌, Bool, true, false, List, [], ◌∷◌, ◌++◌, length, get_or, set, Option, Some, None, refl, sym, ap, subst, ◌∙◌, inl, inr, arith, get_or-set_other}
use Rattle.std.proofs.lemmas.Bool.{cases_Bool, cases_eq, eq-eqb, ne_eqb, le-ltb, or_from}
use Rattle.std.proofs.lemmas.List.Sums.{sum_by-cons}
use Rattle.std.specs.Prelude.{map, nat_lt, ◌==◌}
use Rattle.vhost_inflight.specs.Packed.{copy_of, entry_of}
use Rattle.vhost_inflight.specs.PackedStart.{chain_fault, chain_of, chains_fault, copies_of, free_list, is_among, last_of, nodes_of, num_of, or_else, repeats, seen_too, slots_of, walk}
use Rattle.vhost_inflight.specs.declared.packed_region.PackedCopy.{PackedCopy}
use Rattle.vhost_inflight.specs.declared.packed_region.PackedEntry.{PackedEntry}
use Rattle.vhost_inflight.specs.declared.packed_error.PackedStartError.{PackedStartError}
use Rattle.vhost_inflight.proofs.PackedStartLemmas.{one_if}

-- ---- how often

-- how often an entry is in a list
abbrev pub uses : ℕ → List ℕ → ℕ
uses e [] = 0
uses e (x ∷ xs) = one_if (x == e) + uses e xs

pub uses-append : (e : ℕ) (xs ys : List ℕ) → uses e (xs ++ ys) ≡ uses e xs + uses e ys
uses-append e [] ys = omega arith
uses-append e (x ∷ xs) ys = let rest = uses-append e xs ys in omega arith

pub uses_here : (x : ℕ) (xs : List ℕ) → uses x (x ∷ xs) ≡ 1 + uses x xs
uses_here x xs = let one : one_if (x == x) ≡ 1 = ap one_if (eq-eqb x x refl) in omega arith

pub uses_other : (e x : ℕ) (xs : List ℕ) → (e ≡ x → ⊥) → uses e (x ∷ xs) ≡ uses e xs
uses_other e x xs ne = let none : one_if (x == e) ≡ 0 = ap one_if (ne_eqb x e (λ h. ne (sym h))) in omega arith

pub uses_more : (e x : ℕ) (xs : List ℕ) → 0 < uses e xs → 0 < uses e (x ∷ xs)
uses_more e x xs some = omega arith

pub among_uses : (e : ℕ) (xs : List ℕ) → is_among e xs ≡ true → 0 < uses e xs
among_uses e [] a = absurd cc
among_uses e (x ∷ xs) a = elim (cases_eq x e) [
  | inl is ↦ let one : one_if (x == e) ≡ 1 = ap one_if (eq-eqb x e is) in omega arith
  | inr isnt ↦
      let later : is_among e xs ≡ true = rw (ne_eqb x e isnt) at a in
      let some = among_uses e xs later in omega arith
]

pub uses_among : (e : ℕ) (xs : List ℕ) → uses e xs ≡ 0 → is_among e xs ≡ false
uses_among e xs none = elim (cases_Bool (is_among e xs)) [
  | inl is ↦ absurd (let some = among_uses e xs is in omega arith)
  | inr isnt ↦ isnt
]

pub uses_last : (x : ℕ) (xs : List ℕ) → 0 < uses (last_of x xs) (x ∷ xs)
uses_last x [] = let one = uses_here x [] in omega arith
uses_last x (y ∷ ys) = uses_more (last_of y ys) x (y ∷ ys) (uses_last y ys)

pub last_of-push : (x y : ℕ) (xs : List ℕ) → last_of x (xs ++ y ∷ []) ≡ y
last_of-push x y [] = refl
last_of-push x y (z ∷ zs) = last_of-push z y zs

-- ---- links

-- from an entry along a list to an end
abbrev pub Links : List PackedEntry → ℕ → List ℕ → ℕ → Type 0
Links es h [] end = h ≡ end
Links es h (x ∷ xs) end = (h ≡ x) × Links es (entry_of es x).next xs end

-- from an entry along a list
abbrev pub Path : List PackedEntry → ℕ → List ℕ → Type 0
Path es x [] = Unit {0}
Path es x (y ∷ ys) = ((entry_of es x).next ≡ y) × Path es y ys

pub links-same : (es fs : List PackedEntry) (h : ℕ) (xs : List ℕ) (end : ℕ)
    → ((e : ℕ) → 0 < uses e xs → (entry_of fs e).next ≡ (entry_of es e).next) → Links es h xs end → Links fs h xs end
links-same es fs h [] end same l = l
links-same es fs h (x ∷ xs) end same (first, rest) = (
  first,
  (let e : (entry_of fs x).next ≡ (entry_of es x).next =
      same x (let one = uses_here x xs in omega arith) in
      rw e (links-same es fs (entry_of es x).next xs end (λ e u. same e (uses_more e x xs u)) rest)),
)

pub links-push : (es : List PackedEntry) (h : ℕ) (xs : List ℕ) (m end : ℕ) → Links es h xs m
    → (entry_of es m).next ≡ end → Links es h (xs ++ m ∷ []) end
links-push es h [] m end l next = (l, next)
links-push es h (x ∷ xs) m end (first, rest) next =
    (first, links-push es (entry_of es x).next xs m end rest next)

pub links-path : (es : List PackedEntry) (h x : ℕ) (xs : List ℕ) (end : ℕ) → Links es h (x ∷ xs) end → Path es x xs
links-path es h x [] end l = tt
links-path es h x (y ∷ ys) end (first, rest) =
    (rest.0, links-path es (entry_of es x).next y ys end rest)

pub path-kept : (es fs : List PackedEntry) (x : ℕ) (xs : List ℕ)
    → ((e : ℕ) → 0 < uses e (x ∷ xs) → (e ≡ last_of x xs → ⊥) → (entry_of fs e).next ≡ (entry_of es e).next)
    → ((e : ℕ) → uses e (x ∷ xs) ≤ 1) → Path es x xs → Path fs x xs
path-kept es fs x [] same once p = tt
path-kept es fs x (y ∷ ys) same once (first, rest) =
    let one : uses x (x ∷ y ∷ ys) ≡ 1 + uses x (y ∷ ys) = uses_here x (y ∷ ys) in
    let apart : x ≡ last_of y ys → ⊥ =
    λ e. let more : 0 < uses x (y ∷ ys) = subst (λ (z : ℕ). 0 < uses z (y ∷ ys)) (sym e) (uses_last y ys) in let o = once x in absurd (omega arith) in (
      same x (omega arith) apart ∙ first,
      path-kept es fs y ys (λ e u ne. same e (uses_more e x (y ∷ ys) u) ne)
          (λ e. let o = once e in omega arith) rest,
    )

pub path-links : (es : List PackedEntry) (x : ℕ) (xs : List ℕ) (free : List ℕ) (end : ℕ) → Path es x xs
    → Links es (entry_of es (last_of x xs)).next free end → Links es x ((x ∷ xs) ++ free) end
path-links es x [] free end p l = (refl, l)
path-links es x (y ∷ ys) free end (first, rest) l = (refl, rw first (path-links es y ys free end rest l))

pub walk-path : (es : List PackedEntry) (x : ℕ) (xs : List ℕ) → Path es x xs
    → walk es (suc (length xs)) x ≡ x ∷ xs
walk-path es x [] p = refl
walk-path es x (y ∷ ys) (first, rest) =
    ap (λ (zs : List ℕ). x ∷ zs) (rw first (walk-path es y ys rest))

pub free_list-links : (es : List PackedEntry) (xs : List ℕ) (n h : ℕ) → Links es h xs (length es) → length xs ≤ n
    → ((e : ℕ) → 0 < uses e xs → e < length es) → free_list es n h ≡ Some xs
free_list-links es [] zero h l few inside = rw (eq-eqb h (length es) l) refl
free_list-links es [] (suc n) h l few inside = rw (eq-eqb h (length es) l) refl
free_list-links es (x ∷ xs) zero h l few inside = absurd (omega arith)
free_list-links es (x ∷ xs) (suc n) h (first, rest) few inside =
    let here : x < length es = inside x (let one = uses_here x xs in omega arith) in
    let later : free_list es n (entry_of es x).next ≡ Some xs =
    free_list-links es xs n (entry_of es x).next rest (omega arith) (λ e u. inside e (uses_more e x xs u)) in
    rw first (rw (ne_eqb x (length es) (omega arith), le-ltb (length es) x (omega arith), later) refl)

-- ---- what was seen

pub repeats_none : (seen : List Bool) (xs : List ℕ) → ((e : ℕ) → 0 < uses e xs → get_or seen e true ≡ false)
    → ((e : ℕ) → uses e xs ≤ 1) → repeats seen xs ≡ false
repeats_none seen [] free once = refl
repeats_none seen (x ∷ xs) free once =
    or_from (get_or seen x true) (repeats (set seen x true) xs)
    (free x (let one = uses_here x xs in omega arith))
    (repeats_none (set seen x true) xs
    (λ e u. let apart : e ≡ x → ⊥ = λ is.
    let one = uses_here x xs in let o = once x in let v : 0 < uses x xs = rw (sym is) u in absurd (omega arith) in
    get_or-set_other seen x e true true apart ∙ free e (uses_more e x xs u))
    (λ e. let o = once e in omega arith))

pub seen-kept : (seen : List Bool) (xs : List ℕ) (e : ℕ) → uses e xs ≡ 0
    → get_or (seen_too seen xs) e true ≡ get_or seen e true
seen-kept seen [] e none = refl
seen-kept seen (x ∷ xs) e none =
    let apart : e ≡ x → ⊥ = λ is.
    let one : uses x (x ∷ xs) ≡ 1 + uses x xs = uses_here x xs in
    let v : uses x (x ∷ xs) ≡ 0 = subst (λ (z : ℕ). uses z (x ∷ xs) ≡ 0) is none in absurd (omega arith) in
    seen-kept (set seen x true) xs e (omega arith) ∙ get_or-set_other seen x e true true apart

-- ---- chains

-- a chain in flight: its entries, of which there is a first one, and its descriptors
pub record Chain : Type 0 where
  pub head : ℕ
  pub rest : List ℕ
  pub copies : List PackedCopy

abbrev pub nodes : Chain → List ℕ
nodes c = c.head ∷ c.rest

pub record IsChain (es : List PackedEntry) (c : Chain) : Type 0 where
  pub num : num_of es c.head ≡ suc (length c.rest)
  pub path : Path es c.head c.rest
  pub last : (entry_of es c.head).last ≡ last_of c.head c.rest
  pub copied : copies_of es (c.head ∷ c.rest) ≡ c.copies

abbrev pub AllChains : List PackedEntry → List Chain → Type 0
AllChains es [] = Unit {0}
AllChains es (c ∷ cs) = IsChain es c × AllChains es cs

abbrev pub all_nodes : List Chain → List ℕ
all_nodes [] = []
all_nodes (c ∷ cs) = (c.head ∷ c.rest) ++ all_nodes cs

abbrev pub heads : List Chain → List ℕ
heads [] = []
heads (c ∷ cs) = c.head ∷ heads cs

abbrev pub copies : List Chain → List (List PackedCopy)
copies [] = []
copies (c ∷ cs) = c.copies ∷ copies cs

abbrev pub slots : List Chain → ℕ
slots [] = 0
slots (c ∷ cs) = suc (length c.rest) + slots cs

pub uses-all : (e : ℕ) (c : Chain) (cs : List Chain)
    → uses e (all_nodes (c ∷ cs)) ≡ uses e (nodes c) + uses e (all_nodes cs)
uses-all e c cs = uses-append e (c.head ∷ c.rest) (all_nodes cs)

pub copies-same : (es fs : List PackedEntry) (xs : List ℕ)
    → ((e : ℕ) → 0 < uses e xs → copy_of (entry_of fs e) ≡ copy_of (entry_of es e))
    → copies_of fs xs ≡ copies_of es xs
copies-same es fs [] same = refl
copies-same es fs (x ∷ xs) same =
    let first = same x (let one = uses_here x xs in omega arith) in
    let rest = copies-same es fs xs (λ e u. same e (uses_more e x xs u)) in cc

-- what a chain is, of an entry
pub record Same (e f : PackedEntry) : Type 0 where
  pub num : f.num ≡ e.num
  pub last : f.last ≡ e.last
  pub copied : copy_of f ≡ copy_of e

pub chain-kept : (es fs : List PackedEntry) (c : Chain)
    → ((e : ℕ) → 0 < uses e (nodes c) → Same (entry_of es e) (entry_of fs e))
    → ((e : ℕ) → 0 < uses e (nodes c) → (e ≡ last_of c.head c.rest → ⊥)
    → (entry_of fs e).next ≡ (entry_of es e).next)
    → ((e : ℕ) → uses e (nodes c) ≤ 1) → IsChain es c → IsChain fs c
chain-kept es fs c same next once s =
    let here = same c.head (let one = uses_here c.head c.rest in omega arith) in
    record {
      num = here.num ∙ s.num;
      path = path-kept es fs c.head c.rest next once s.path;
      last = here.last ∙ s.last;
      copied = copies-same es fs (c.head ∷ c.rest) (λ e u. (same e u).copied) ∙ s.copied;
    }

same_entry : (e f : PackedEntry) → f ≡ e → Same e f
same_entry e f is = record {
  num = ap (λ (x : PackedEntry). x.num) is;
  last = ap (λ (x : PackedEntry). x.last) is;
  copied = ap (λ (x : PackedEntry). copy_of x) is;
}

-- chains whose entries all stay
pub all-same : (es fs : List PackedEntry) (cs : List Chain)
    → ((e : ℕ) → 0 < uses e (all_nodes cs) → entry_of fs e ≡ entry_of es e)
    → ((e : ℕ) → uses e (all_nodes cs) ≤ 1) → AllChains es cs → AllChains fs cs
all-same es fs [] same once s = tt
all-same es fs (c ∷ cs) same once (first, rest) = (
  chain-kept es fs c
      (λ e u. same_entry (entry_of es e) (entry_of fs e) (same e (let a = uses-all e c cs in omega arith)))
      (λ e u ne. ap (λ (x : PackedEntry). x.next) (same e (let a = uses-all e c cs in omega arith)))
      (λ e. let o = once e in let a = uses-all e c cs in omega arith) first,
  all-same es fs cs (λ e u. same e (let a = uses-all e c cs in omega arith))
      (λ e. let o = once e in let a = uses-all e c cs in omega arith) rest,
)

pub heads_used : (e : ℕ) (cs : List Chain) → is_among e (heads cs) ≡ true → 0 < uses e (all_nodes cs)
heads_used e [] a = absurd cc
heads_used e (c ∷ cs) a =
    let all = uses-all e c cs in
    elim (cases_eq c.head e) [
      | inl is ↦
          let one : uses c.head (c.head ∷ c.rest) ≡ 1 + uses c.head c.rest = uses_here c.head c.rest in
          let here : uses e (c.head ∷ c.rest) ≡ 1 + uses e c.rest =
          subst (λ (z : ℕ). uses z (c.head ∷ c.rest) ≡ 1 + uses z c.rest) is one in omega arith
      | inr isnt ↦
          let later : is_among e (heads cs) ≡ true = rw (ne_eqb c.head e isnt) at a in
          let some = heads_used e cs later in omega arith
    ]

pub nodes_of-chain : (es : List PackedEntry) (c : Chain) → IsChain es c → nodes_of es c.head ≡ c.head ∷ c.rest
nodes_of-chain es c s = rw s.num (walk-path es c.head c.rest s.path)

pub chain_of-chain : (es : List PackedEntry) (c : Chain) → IsChain es c → chain_of es c.head ≡ c.copies
chain_of-chain es c s = ap (λ (xs : List ℕ). copies_of es xs) (nodes_of-chain es c s) ∙ s.copied

pub copies-heads : (es : List PackedEntry) (cs : List Chain) → AllChains es cs
    → map (chain_of es) (heads cs) ≡ copies cs
copies-heads es [] s = refl
copies-heads es (c ∷ cs) (first, rest) =
    let here = chain_of-chain es c first in let later = copies-heads es cs rest in cc

pub length-copied : (es : List PackedEntry) (c : Chain) → IsChain es c → length c.copies ≡ suc (length c.rest)
length-copied es c s = sym (ap length s.copied) ∙ len (c.head ∷ c.rest)
  where
    len : (xs : List ℕ) → length (copies_of es xs) ≡ length xs
    len [] = refl
    len (x ∷ xs) = ap (λ (n : ℕ). suc n) (len xs)

pub slots_of-heads : (es : List PackedEntry) (cs : List Chain) → AllChains es cs → slots_of es (heads cs) ≡ slots cs
slots_of-heads es [] s = refl
slots_of-heads es (c ∷ cs) (first, rest) =
    let later = slots_of-heads es cs rest in
    sum_by-cons (num_of es) c.head (heads cs) ∙ (let n = first.num in omega arith)

-- chains that are in order have no fault
pub chains_none : (es : List PackedEntry) (seen : List Bool) (room : ℕ) (cs : List Chain) → AllChains es cs
    → slots cs ≤ room → ((e : ℕ) → 0 < uses e (all_nodes cs) → get_or seen e true ≡ false)
    → ((e : ℕ) → uses e (all_nodes cs) ≤ 1) → chains_fault es seen room (heads cs) ≡ None
chains_none es seen room [] s few free once = refl
chains_none es seen room (c ∷ cs) (first, rest) few free once =
    let own : nodes_of es c.head ≡ c.head ∷ c.rest = nodes_of-chain es c first in
    let number : num_of es c.head ≡ suc (length c.rest) = first.num in
    let clean : repeats seen (nodes_of es c.head) ≡ false =
    rw own (repeats_none seen (c.head ∷ c.rest)
    (λ e u. free e (let a = uses-all e c cs in omega arith))
    (λ e. let o = once e in let a = uses-all e c cs in omega arith)) in
    let end : last_of c.head (nodes_of es c.head) ≡ (entry_of es c.head).last =
    rw own (sym first.last) in
    let some : (num_of es c.head == 0) ≡ false = ne_eqb (num_of es c.head) 0 (λ z. absurd (omega arith)) in
    let fits : nat_lt room (num_of es c.head) ≡ false = le-ltb room (num_of es c.head) (omega arith) in
    let none : chain_fault es seen room c.head ≡ None =
    rw (some, fits, clean, eq-eqb (last_of c.head (nodes_of es c.head)) (entry_of es c.head).last end) refl in
    let later : chains_fault es (seen_too seen (nodes_of es c.head)) (room - num_of es c.head) (heads cs) ≡ None =
    chains_none es (seen_too seen (nodes_of es c.head)) (room - num_of es c.head) cs rest (omega arith)
    (λ e u. rw own (let o = once e in let a = uses-all e c cs in
    seen-kept seen (c.head ∷ c.rest) e (omega arith) ∙ free e (omega arith)))
    (λ e. let o = once e in let a = uses-all e c cs in omega arith) in
    ap (λ (o : Option PackedStartError). or_else o (chains_fault es (seen_too seen (nodes_of es c.head))
    (room - num_of es c.head) (heads cs))) none ∙ later

-- ---- a chain among others

pub record Among (h : ℕ) (cs : List Chain) : Type 0 where
  pub before : List Chain
  pub chain : Chain
  pub after : List Chain
  pub whole : cs ≡ before ++ chain ∷ after
  pub head : chain.head ≡ h

pub find_chain : (h : ℕ) (cs : List Chain) → is_among h (heads cs) ≡ true → Among h cs
find_chain h [] a = absurd cc
find_chain h (c ∷ cs) a = elim (cases_eq c.head h) [
  | inl is ↦ record { before = []; chain = c; after = cs; whole = refl; head = is }
  | inr isnt ↦
      let later : is_among h (heads cs) ≡ true = rw (ne_eqb c.head h isnt) at a in
      let found = find_chain h cs later in
      record {
        before = c ∷ found.before;
        chain = found.chain;
        after = found.after;
        whole = ap (λ (xs : List Chain). c ∷ xs) found.whole;
        head = found.head;
      }
]

pub heads-append : (xs ys : List Chain) → heads (xs ++ ys) ≡ heads xs ++ heads ys
heads-append [] ys = refl
heads-append (x ∷ xs) ys = ap (λ (zs : List ℕ). x.head ∷ zs) (heads-append xs ys)

pub copies-append : (xs ys : List Chain) → copies (xs ++ ys) ≡ copies xs ++ copies ys
copies-append [] ys = refl
copies-append (x ∷ xs) ys = ap (λ (zs : List (List PackedCopy)). x.copies ∷ zs) (copies-append xs ys)

pub slots-append : (xs ys : List Chain) → slots (xs ++ ys) ≡ slots xs + slots ys
slots-append [] ys = omega arith
slots-append (x ∷ xs) ys = let rest = slots-append xs ys in omega arith

pub uses_all-append : (e : ℕ) (xs ys : List Chain)
    → uses e (all_nodes (xs ++ ys)) ≡ uses e (all_nodes xs) + uses e (all_nodes ys)
uses_all-append e [] ys = omega arith
uses_all-append e (x ∷ xs) ys =
    let rest = uses_all-append e xs ys in let a = uses-all e x (xs ++ ys) in let b = uses-all e x xs in omega arith

pub chains-append : (es : List PackedEntry) (xs ys : List Chain) → AllChains es xs → AllChains es ys
    → AllChains es (xs ++ ys)
chains-append es [] ys s t = t
chains-append es (x ∷ xs) ys (first, rest) t = (first, chains-append es xs ys rest t)

pub chains-parts : (es : List PackedEntry) (xs ys : List Chain) → AllChains es (xs ++ ys)
    → AllChains es xs × AllChains es ys
chains-parts es [] ys s = (tt, s)
chains-parts es (x ∷ xs) ys (first, rest) =
    let parts = chains-parts es xs ys rest in ((first, parts.0), parts.1)
