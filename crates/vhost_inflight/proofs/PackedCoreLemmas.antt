-- The entries of a region: which are free, and which chains are in flight.
use Rattle.std.proofs.Common.{◌≡◌, ℕ, suc, ◌+◌, ◌^◌, ◌<◌, ◌≤◌, Bool, true, false, ◌&&◌, ◌||◌, List, [], ◌∷◌, ◌++◌, length, None, refl, sym, ap, subst, ◌∙◌, inl, inr, arith, length-append, length-set}
use Rattle.std.proofs.lemmas.List.{get_or-replicate, get_or_past}
use Rattle.std.proofs.lemmas.Bool.{and_left, and_right, cases_Bool, cases_lt, cases_eq, eq-eqb, ne_eqb, eqb-true, lt-leb, or_cases, or_right}
use Rattle.std.specs.Prelude.{nat_lt, nat_le, replicate, ◌==◌}
use Rattle.std.specs.List.{list_any}
use Rattle.vhost_inflight.specs.Packed.{changed, copy_of, counter_of, entry_of, is_in_flight, no_entry}
use Rattle.vhost_inflight.specs.PackedStart.{IsInFlight, Rises, chains_fault, cleared, copies_of, entries_fault, free_seen, greatest, is_among, last_of, num_of}
use Rattle.vhost_inflight.specs.declared.packed_region.PackedCopy.{PackedCopy}
use Rattle.vhost_inflight.specs.declared.packed_region.PackedEntry.{PackedEntry}
use Rattle.vhost_inflight.proofs.PackedEntryLemmas.{among-append, any-changed, any_none, kept_field, most-above, most-below, other_entry, among-left_out, among-put_in, rises-append, rises-left_out, rises-same, this_entry}
use Rattle.vhost_inflight.proofs.PackedChainLemmas.{AllChains, Chain, IsChain, Links, Path, all-same, all_nodes, chain-kept, chains-append, chains-parts, chains_none, heads, heads-append, heads_used, links-same, nodes, path-links, seen-kept, slots, slots-append, uses, uses-all, uses-append, uses_all-append, uses_here, uses_last, uses_more, uses_other}

-- what never changes: the region's descriptors, the ring's, and how many slots were used before
pub record Given : Type 0 where
  pub descriptors : ℕ
  pub size : ℕ
  pub began : ℕ
  pub some : 0 < size
  pub fits : size ≤ descriptors
  pub small : descriptors < 2 ^ 16

-- each entry is free or of one chain. What is free may be marked as in flight
pub record Core (g : Given) (es : List PackedEntry) (head popped : ℕ) (free : List ℕ) (cs : List Chain) : Type 0 where
  pub len : length es ≡ g.descriptors
  pub links : Links es head free g.descriptors
  pub once : (e : ℕ) → uses e free + uses e (all_nodes cs) ≤ 1
  pub inside : (e : ℕ) → 0 < uses e free + uses e (all_nodes cs) → e < g.descriptors
  pub room : length free + slots cs ≡ g.descriptors
  pub chains : AllChains es cs
  pub marks : (e : ℕ) → uses e free ≡ 0 → is_in_flight es e ≡ is_among e (heads cs)
  pub bits : list_any (λ e. nat_lt 1 e.in_flight) es ≡ false
  pub order : Rises es (heads cs)
  pub counts : (e : ℕ) → is_among e (heads cs) ≡ true → counter_of es e ≤ popped

pub core-more : (g : Given) (es : List PackedEntry) (head popped more : ℕ) (free : List ℕ) (cs : List Chain)
    → popped ≤ more → Core g es head popped free cs → Core g es head more free cs
core-more g es head popped more free cs l s = record {
  len = s.len;
  links = s.links;
  once = s.once;
  inside = s.inside;
  room = s.room;
  chains = s.chains;
  marks = s.marks;
  bits = s.bits;
  order = s.order;
  counts = λ e a. let c = s.counts e a in omega arith;
}

-- a free entry is changed, but where it leads
pub core_free : (g : Given) (es : List PackedEntry) (head popped : ℕ) (free : List ℕ) (cs : List Chain) (i : ℕ)
    (f : PackedEntry → PackedEntry) → ((e : PackedEntry) → (f e).next ≡ e.next)
    → ((e : PackedEntry) → nat_lt 1 e.in_flight ≡ false → nat_lt 1 (f e).in_flight ≡ false) → 0 < uses i free
    → Core g es head popped free cs → Core g (changed es i f) head popped free cs
core_free g es head popped free cs i f next bits at s =
    let apart : (e : ℕ) → 0 < uses e (all_nodes cs) → e ≡ i → ⊥ =
    λ e u is. let v : 0 < uses i (all_nodes cs) = rw (sym is) u in let o = s.once i in absurd (omega arith) in
    let others : (e : ℕ) → 0 < uses e (all_nodes cs) → entry_of (changed es i f) e ≡ entry_of es e =
    λ e u. other_entry f es i e (apart e u) in
    let counter : (e : ℕ) → is_among e (heads cs) ≡ true → counter_of (changed es i f) e ≡ counter_of es e =
    λ e a. ap (λ (x : PackedEntry). x.counter) (others e (heads_used e cs a)) in
    record {
      len = length-set es i (f (entry_of es i)) ∙ s.len;
      links = links-same es (changed es i f) head free g.descriptors (λ e u. kept_field (λ x. x.next) f next es i e) s.links;
      once = s.once;
      inside = s.inside;
      room = s.room;
      chains = all-same es (changed es i f) cs others (λ e. let o = s.once e in omega arith) s.chains;
      marks = λ e none.
          let ne : e ≡ i → ⊥ = λ is. let v : uses i free ≡ 0 = rw is at none in absurd (omega arith) in
          ap (λ (x : PackedEntry). x.in_flight == 1) (other_entry f es i e ne) ∙ s.marks e none;
      bits = any-changed (λ e. nat_lt 1 e.in_flight) f bits es i s.bits;
      order = rises-same es (changed es i f) (heads cs) counter s.order;
      counts = λ e a. rw (counter e a) (s.counts e a);
    }

-- ---- the marks of what is free

pub core_cleared : (g : Given) (es : List PackedEntry) (head popped : ℕ) (free : List ℕ) (cs : List Chain) (xs : List ℕ)
    → ((e : ℕ) → 0 < uses e xs → 0 < uses e free) → Core g es head popped free cs
    → Core g (cleared es xs) head popped free cs
core_cleared g es head popped free cs [] all s = s
core_cleared g es head popped free cs (x ∷ xs) all s =
    core_cleared g (changed es x (λ e. record e { in_flight = 0 })) head popped free cs xs
    (λ e u. all e (uses_more e x xs u))
    (core_free g es head popped free cs x (λ e. record e { in_flight = 0 }) (λ e. refl) (λ e none. refl)
    (all x (let one = uses_here x xs in omega arith)) s)

stays_off : (es : List PackedEntry) (xs : List ℕ) (e : ℕ) → is_in_flight es e ≡ false
    → is_in_flight (cleared es xs) e ≡ false
stays_off es [] e off = off
stays_off es (x ∷ xs) e off =
    let f : PackedEntry → PackedEntry = λ e. record e { in_flight = 0 } in
    stays_off (changed es x f) xs e (elim (cases_eq e x) [
      | inl is ↦ elim (cases_lt x (length es)) [
        | inl l ↦ rw is (ap (λ (y : PackedEntry). y.in_flight == 1) (this_entry f es x l))
        | inr past ↦ rw is (ap (λ (y : PackedEntry). y.in_flight == 1)
            (get_or_past (changed es x f) x no_entry
            (let n = length-set es x (f (entry_of es x)) in omega arith)))
      ]
      | inr isnt ↦ ap (λ (y : PackedEntry). y.in_flight == 1) (other_entry f es x e isnt) ∙ off
    ])

pub cleared_off : (es : List PackedEntry) (xs : List ℕ) (e : ℕ) → 0 < uses e xs → is_in_flight (cleared es xs) e ≡ false
cleared_off es [] e u = absurd (omega arith)
cleared_off es (x ∷ xs) e u =
    let f : PackedEntry → PackedEntry = λ e. record e { in_flight = 0 } in
    elim (cases_eq e x) [
      | inl is ↦ stays_off (changed es x f) xs e (elim (cases_lt x (length es)) [
        | inl l ↦ rw is (ap (λ (y : PackedEntry). y.in_flight == 1) (this_entry f es x l))
        | inr past ↦ rw is (ap (λ (y : PackedEntry). y.in_flight == 1)
            (get_or_past (changed es x f) x no_entry
            (let n = length-set es x (f (entry_of es x)) in omega arith)))
      ])
      | inr isnt ↦ cleared_off (changed es x f) xs e (let o = uses_other e x xs isnt in omega arith)
    ]

-- after a start exactly the heads are marked
pub exact : (g : Given) (es : List PackedEntry) (head popped : ℕ) (free : List ℕ) (cs : List Chain)
    → Core g es head popped free cs → (e : ℕ) → is_among e (heads cs) ≡ is_in_flight (cleared es free) e
exact g es head popped free cs s e =
    let t = core_cleared g es head popped free cs free (λ e u. u) s in
    elim (cases_lt 0 (uses e free)) [
      | inl some ↦
          let none : is_among e (heads cs) ≡ false = elim (cases_Bool (is_among e (heads cs))) [
            | inl is ↦ absurd (let u = heads_used e cs is in let o = s.once e in omega arith)
            | inr isnt ↦ isnt
          ] in
          none ∙ sym (cleared_off es free e some)
      | inr none ↦ sym (t.marks e (omega arith))
    ]

pub in_flight : (g : Given) (es : List PackedEntry) (head popped : ℕ) (free : List ℕ) (cs : List Chain)
    → Core g es head popped free cs → IsInFlight (cleared es free) (heads cs)
in_flight g es head popped free cs s = record {
  each = exact g es head popped free cs s;
  order = (core_cleared g es head popped free cs free (λ e u. u) s).order;
}

-- ---- nothing is wrong

pub no_entries_fault : (g : Given) (es : List PackedEntry) (head popped : ℕ) (free : List ℕ) (cs : List Chain)
    → popped < 2 ^ 63 → Core g es head popped free cs → entries_fault es (cleared es free) ≡ None
no_entries_fault g es head popped free cs few s =
    let fs : List PackedEntry = cleared es free in
    let t = core_cleared g es head popped free cs free (λ e u. u) s in
    let counts : list_any (λ e. (e.in_flight == 1) && nat_le (2 ^ 63) e.counter) fs ≡ false =
    any_none (λ e. (e.in_flight == 1) && nat_le (2 ^ 63) e.counter) fs
    (λ e. elim (cases_Bool (is_in_flight fs e)) [
      | inl on ↦
          and_right (is_in_flight fs e) (nat_le (2 ^ 63) (counter_of fs e))
          (lt-leb (2 ^ 63) (counter_of fs e)
          (let c = t.counts e (exact g es head popped free cs s e ∙ on) in omega arith))
      | inr off ↦ and_left (is_in_flight fs e) (nat_le (2 ^ 63) (counter_of fs e)) off
    ]) in
    rw (s.bits, counts) refl

pub no_chains_fault : (g : Given) (es : List PackedEntry) (head popped room : ℕ) (free : List ℕ) (cs : List Chain)
    → slots cs ≤ room → Core g es head popped free cs
    → chains_fault (cleared es free) (free_seen g.descriptors free) room (heads cs) ≡ None
no_chains_fault g es head popped room free cs few s =
    let t = core_cleared g es head popped free cs free (λ e u. u) s in
    chains_none (cleared es free) (free_seen g.descriptors free) room cs t.chains few
    (λ e u. let o = s.once e in
    let l : e < g.descriptors = s.inside e (omega arith) in
    seen-kept (replicate g.descriptors false) free e (omega arith)
    ∙ get_or-replicate g.descriptors e false true l)
    (λ e. let o = s.once e in omega arith)

-- the greatest count is one of a head in flight
pub greatest_bounds : (g : Given) (es : List PackedEntry) (head popped : ℕ) (free : List ℕ) (cs : List Chain)
    → Core g es head popped free cs
    → ((e : ℕ) → is_among e (heads cs) ≡ true → counter_of (cleared es free) e ≤ greatest (cleared es free))
    × (greatest (cleared es free) ≤ popped)
greatest_bounds g es head popped free cs s =
    let fs : List PackedEntry = cleared es free in
    let t = core_cleared g es head popped free cs free (λ e u. u) s in (
      (λ e a. most-above 0 fs e (sym (exact g es head popped free cs s e) ∙ a)),
      most-below 0 popped fs (omega arith) (λ e is. t.counts e (exact g es head popped free cs s e ∙ is)),
    )

-- ---- a chain is popped

or_no : (a b : Bool) → b ≡ false → (a || b) ≡ a
or_no true b none = refl
or_no false b none = none

pub no_head : (e : ℕ) (cs : List Chain) → uses e (all_nodes cs) ≡ 0 → is_among e (heads cs) ≡ false
no_head e cs none = elim (cases_Bool (is_among e (heads cs))) [
  | inl is ↦ absurd (let u = heads_used e cs is in omega arith)
  | inr isnt ↦ isnt
]

pub core_popped : (g : Given) (es : List PackedEntry) (head popped next : ℕ) (ys rest : List ℕ) (ds : List PackedCopy)
    (cs : List Chain) → Core g es head popped ((head ∷ ys) ++ rest) cs → Links es next rest g.descriptors
    → num_of es head ≡ suc (length ys) → Path es head ys → (entry_of es head).last ≡ last_of head ys
    → copies_of es (head ∷ ys) ≡ ds
    → ((e : ℕ) → 0 < uses e ((head ∷ ys) ++ rest) → (e ≡ head → ⊥) → is_in_flight es e ≡ false)
    → is_in_flight es head ≡ true
    → ((e : ℕ) → is_among e (heads cs) ≡ true → counter_of es e < counter_of es head)
    → counter_of es head ≤ popped + length ds
    → Core g es next (popped + length ds) rest (cs ++ record { head = head; rest = ys; copies = ds } ∷ [])
core_popped g es head popped next ys rest ds cs s links num path last copied off on above bound =
    let c : Chain = record { head = head; rest = ys; copies = ds } in
    let free : List ℕ = (head ∷ ys) ++ rest in
    let all : List Chain = cs ++ c ∷ [] in
    let is : IsChain es c = record { num = num; path = path; last = last; copied = copied } in
    let parts : (e : ℕ) → uses e free ≡ uses e (head ∷ ys) + uses e rest = λ e. uses-append e (head ∷ ys) rest in
    let total : (e : ℕ) → uses e (all_nodes all) ≡ uses e (all_nodes cs) + uses e (head ∷ ys) =
    λ e. let a = uses_all-append e cs (c ∷ []) in let b = uses-all e c [] in omega arith in
    let names : heads all ≡ heads cs ++ head ∷ [] = heads-append cs (c ∷ []) in
    let member : (e : ℕ) → is_among e (heads all) ≡ (is_among e (heads cs) || (head == e)) =
    λ e. ap (λ (xs : List ℕ). is_among e xs) names ∙ among-append e head (heads cs) in
    let first : 0 < uses head (head ∷ ys) = let one = uses_here head ys in omega arith in
    record {
      len = s.len;
      links = links;
      once = λ e. let o = s.once e in let p = parts e in let t = total e in omega arith;
      inside = λ e u. let p = parts e in let t = total e in s.inside e (omega arith);
      room =
          let r : length ((head ∷ ys) ++ rest) + slots cs ≡ g.descriptors = s.room in
          let l : length ((head ∷ ys) ++ rest) ≡ length (head ∷ ys) + length rest = length-append (head ∷ ys) rest in
          let m = slots-append cs (c ∷ []) in omega arith;
      chains = chains-append es cs (c ∷ []) s.chains (is, tt);
      marks = λ e none. let p = parts e in elim (cases_eq e head) [
        | inl is ↦
            ap (λ (k : ℕ). is_in_flight es k) is
            ∙ (on ∙ sym (member e ∙ or_right (is_among e (heads cs)) (head == e) (eq-eqb head e (sym is))))
        | inr isnt ↦
            let old : is_among e (heads all) ≡ is_among e (heads cs) =
            member e ∙ or_no (is_among e (heads cs)) (head == e) (ne_eqb head e (λ h. isnt (sym h))) in
            elim (cases_lt 0 (uses e (head ∷ ys))) [
              | inl here ↦
                  let u : 0 < uses e ((head ∷ ys) ++ rest) = omega arith in
                  let o = s.once e in
                  off e u isnt ∙ sym (old ∙ no_head e cs (omega arith))
              | inr gone ↦ s.marks e (omega arith) ∙ sym old
            ]
      ];
      bits = s.bits;
      order = rw names (rises-append es (heads cs) head
          (λ k a. let up = above k a in let u = heads_used k cs a in
          let l = s.inside k (omega arith) in let small = g.small in omega arith) s.order);
      counts = λ e a. elim (or_cases (is_among e (heads cs)) (head == e) (sym (member e) ∙ a)) [
        | inl old ↦ let b = s.counts e old in omega arith
        | inr new ↦ rw (sym (eqb-true head e new)) bound
      ];
    }

-- ---- a chain is returned

-- one of several chains is left out
pub record Split (g : Given) (es : List PackedEntry) (head popped : ℕ) (free : List ℕ) (before : List Chain) (c : Chain)
    (after : List Chain) : Type 0 where
  pub uses : (e : ℕ) → uses e (all_nodes (before ++ c ∷ after))
      ≡ uses e (nodes c) + uses e (all_nodes (before ++ after))
  pub slots : slots (before ++ c ∷ after) ≡ suc (length c.rest) + slots (before ++ after)

pub split_of : (g : Given) (es : List PackedEntry) (head popped : ℕ) (free : List ℕ) (before : List Chain) (c : Chain)
    (after : List Chain) → Split g es head popped free before c after
split_of g es head popped free before c after = record {
  uses = λ e. let a = uses_all-append e before (c ∷ after) in let b = uses-all e c after in
      let d = uses_all-append e before after in omega arith;
  slots = let a = slots-append before (c ∷ after) in let b = slots-append before after in omega arith;
}

pub heads-left_out : (e : ℕ) (before : List Chain) (c : Chain) (after : List Chain) → (e ≡ c.head → ⊥)
    → is_among e (heads (before ++ c ∷ after)) ≡ is_among e (heads (before ++ after))
heads-left_out e before c after ne =
    ap (λ (xs : List ℕ). is_among e xs) (heads-append before (c ∷ after))
    ∙ (among-left_out e c.head (heads before) (heads after) ne
    ∙ ap (λ (xs : List ℕ). is_among e xs) (sym (heads-append before after)))

pub heads-put_in : (e : ℕ) (before : List Chain) (c : Chain) (after : List Chain)
    → is_among e (heads (before ++ after)) ≡ true → is_among e (heads (before ++ c ∷ after)) ≡ true
heads-put_in e before c after a =
    ap (λ (xs : List ℕ). is_among e xs) (heads-append before (c ∷ after))
    ∙ among-put_in e c.head (heads before) (heads after)
    (ap (λ (xs : List ℕ). is_among e xs) (sym (heads-append before after)) ∙ a)

-- the chain's last entry leads elsewhere
pub core_linked : (g : Given) (es : List PackedEntry) (head popped : ℕ) (free : List ℕ) (before : List Chain) (c : Chain)
    (after : List Chain) (next : ℕ) → Core g es head popped free (before ++ c ∷ after)
    → Core g (changed es (last_of c.head c.rest) (λ e. record e { next = next })) head popped free (before ++ c ∷ after)
core_linked g es head popped free before c after next s =
    let f : PackedEntry → PackedEntry = λ e. record e { next = next } in
    let l : ℕ = last_of c.head c.rest in
    let cs : List Chain = before ++ c ∷ after in
    let fs : List PackedEntry = changed es l f in
    let at_last : 0 < uses l (nodes c) = uses_last c.head c.rest in
    let split = split_of g es head popped free before c after in
    let parts = chains-parts es before (c ∷ after) s.chains in
    let whole : (e : ℕ) → uses e (all_nodes cs)
    ≡ uses e (all_nodes before) + (uses e (nodes c) + uses e (all_nodes after)) =
    λ e. let a = uses_all-append e before (c ∷ after) in let b = uses-all e c after in omega arith in
    let others : (e : ℕ) → (e ≡ l → ⊥) → entry_of fs e ≡ entry_of es e =
    λ e ne. other_entry f es l e ne in
    let counter : (e : ℕ) → counter_of fs e ≡ counter_of es e =
    λ e. kept_field (λ x. x.counter) f (λ x. refl) es l e in
    record {
      len = length-set es l (f (entry_of es l)) ∙ s.len;
      links = links-same es fs head free g.descriptors
          (λ e u. ap (λ (x : PackedEntry). x.next) (others e (λ is.
          let v : 0 < uses l free = rw (sym is) u in
          let o = s.once l in let w = whole l in absurd (omega arith)))) s.links;
      once = s.once;
      inside = s.inside;
      room = s.room;
      chains = chains-append fs before (c ∷ after)
          (all-same es fs before
          (λ e u. others e (λ is. let v : 0 < uses l (all_nodes before) = rw (sym is) u in
          let o = s.once l in let w = whole l in absurd (omega arith)))
          (λ e. let o = s.once e in let w = whole e in omega arith) parts.0) (
            chain-kept es fs c
                (λ e u. record {
                  num = kept_field (λ x. x.num) f (λ x. refl) es l e;
                  last = kept_field (λ x. x.last) f (λ x. refl) es l e;
                  copied = kept_field (λ x. copy_of x) f (λ x. refl) es l e;
                })
                (λ e u ne. ap (λ (x : PackedEntry). x.next) (others e ne))
                (λ e. let o = s.once e in let w = whole e in omega arith) parts.1.0,
            all-same es fs after
                (λ e u. others e (λ is. let v : 0 < uses l (all_nodes after) = rw (sym is) u in
                let o = s.once l in let w = whole l in absurd (omega arith)))
                (λ e. let o = s.once e in let w = whole e in omega arith) parts.1.1,
          );
      marks = λ e none. kept_field (λ x. x.in_flight == 1) f (λ x. refl) es l e ∙ s.marks e none;
      bits = any-changed (λ e. nat_lt 1 e.in_flight) f (λ e none. none) es l s.bits;
      order = rises-same es fs (heads cs) (λ k a. counter k) s.order;
      counts = λ e a. rw (counter e) (s.counts e a);
    }

-- it is free, in front of what was free
pub core_returned : (g : Given) (es : List PackedEntry) (head popped : ℕ) (free : List ℕ) (before : List Chain)
    (c : Chain) (after : List Chain) → (entry_of es (last_of c.head c.rest)).next ≡ head
    → Core g es head popped free (before ++ c ∷ after)
    → Core g es c.head popped ((c.head ∷ c.rest) ++ free) (before ++ after)
core_returned g es head popped free before c after next s =
    let split = split_of g es head popped free before c after in
    let parts = chains-parts es before (c ∷ after) s.chains in
    let cs : List Chain = before ++ c ∷ after in
    let all : (e : ℕ) → uses e ((c.head ∷ c.rest) ++ free) ≡ uses e (c.head ∷ c.rest) + uses e free =
    λ e. uses-append e (c.head ∷ c.rest) free in
    let names : heads cs ≡ heads before ++ (c.head ∷ heads after) = heads-append before (c ∷ after) in
    let less : heads (before ++ after) ≡ heads before ++ heads after = heads-append before after in
    let first : 0 < uses c.head (c.head ∷ c.rest) = let one = uses_here c.head c.rest in omega arith in
    record {
      len = s.len;
      links = path-links es c.head c.rest free g.descriptors parts.1.0.path (rw next s.links);
      once = λ e. let o = s.once e in let u = split.uses e in let a = all e in omega arith;
      inside = λ e u. let v = split.uses e in let a = all e in s.inside e (omega arith);
      room =
          let r = s.room in let l = length-append (c.head ∷ c.rest) free in let v = split.slots in
          omega arith;
      chains = chains-append es before after parts.0 parts.1.1;
      marks = λ e none.
          let a = all e in
          s.marks e (omega arith)
          ∙ heads-left_out e before c after (λ is. let v : uses c.head ((c.head ∷ c.rest) ++ free) ≡ 0 =
          subst (λ (z : ℕ). uses z ((c.head ∷ c.rest) ++ free) ≡ 0) is none in
          let b = all c.head in absurd (omega arith));
      bits = s.bits;
      order = rw less (rises-left_out es c.head (heads before) (heads after) (rw names at s.order));
      counts = λ e a. s.counts e (heads-put_in e before c after a);
    }
