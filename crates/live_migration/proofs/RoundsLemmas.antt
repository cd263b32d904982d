-- No page is lost: what each event keeps.
use Rattle.std.proofs.Common.{◌≡◌, ℕ, ◌+◌, ◌*◌, ◌/◌, ◌<◌, ◌≤◌, ◌==◌, ◌↔◌, Bool, true, false, leb, eqb, List, [], ◌∷◌, ◌++◌, take, drop, length, get_or, replicate, Some, Contains, refl, sym, ap, subst, ◌∙◌, inl, inr, arith, zero-add}
use Rattle.std.proofs.lemmas.Bool.{cases_lt, cases_Bool, cond-true, cond-false, cond_both, leb-false, lt-leb, le-leb, eqb-true, eqb-false, eq-eqb, and_parts, and_cases, and_left, and_right, or_parts, or_from, and_from, true≢false, false_from_ne_true}
use Rattle.std.proofs.lemmas.Cmp.{nat_eq_equiv}
use Rattle.std.proofs.lemmas.Grind.{div_ceil_times}
use Rattle.std.proofs.lemmas.List.{ext_get_or, get_or-replicate, get_or_past, nil_from_length, take-append-drop, length-replicate}
use Rattle.std.proofs.lemmas.List.Folds.{list_any-append, list_any_at}
use Rattle.std.proofs.lemmas.Map.Views.{list_any-from_Contains}
use Rattle.std.proofs.lemmas.Nat.{div_below}
use Rattle.std.specs.Int.{div_ceil}
use Rattle.std.specs.List.{list_any, flat_map}
use Rattle.vm_memory_base.specs.Address.{numbers}
use Rattle.vm_memory_base.specs.Pages.{Pages, is_dirty_at, dirty_pages}
use Rattle.live_migration.specs.Frame.{Message}
use Rattle.live_migration.specs.Image.{arrived, copied}
use Rattle.live_migration.specs.Rounds.{Source, Ends, Event, Write, Harvest, Copy, Send, EndRound, size_of, taken, clean, may_harvest, after_harvest, after_copy, after_send, is_round_over, after_round, after, IsWritten, May, IsStill, story, AllMay, AllStill, IsBeginning, is_fresh, is_due, waits, is_batched, IsEqual, IsKept, IsThrough}
use Rattle.live_migration.proofs.ImageLemmas.{length-numbers, get_or-numbers, length-arrived, arrived-append, stays_arrived, pages_arrive, others_arrive}

-- the dirty pages are listed
abbrev pub AreListed : Type 0
AreListed = (p : Pages) (page : ℕ) → Contains (dirty_pages (Some p)) page ↔ (get_or p.flags page false ≡ true)

-- what is true of one block, with the messages that wait to be sent: a page that is neither due nor waits to be copied
-- will have arrived with them
pub record IsFollowed (block : ℕ) (x : Source) (image : List ℕ) (batch : List Message) (fresh : Bool)
    (waiting : ℕ → Bool) : Type 0 where
  pub sized : 0 < x.pages.page_size
  pub len : length image ≡ length x.bytes
  pub same : (k : ℕ) → k < length x.bytes → fresh ≡ false → get_or x.pages.flags (k / x.pages.page_size) false ≡ false
      → waiting (k / x.pages.page_size) ≡ false
      → get_or (arrived x.pages.page_size block batch image) k 0 ≡ get_or x.bytes k 0

abbrev pub Follows : Ends → ℕ → Type 0
Follows s block =
    IsFollowed block (s.sources block) (s.images block) s.batch (is_fresh s block) (λ page. waits s block page)

-- ---- writes

written_follows : (block : ℕ) (x y : Source) (image : List ℕ) (batch : List Message) (fresh : Bool)
    (waiting : ℕ → Bool) → IsWritten x y → IsFollowed block x image batch fresh waiting
    → IsFollowed block y image batch fresh waiting
written_follows block x y image batch fresh waiting w f = record {
  sized = rw w.size f.sized;
  len = f.len ∙ sym w.len;
  same = λ k l old clean_now idle.
      let within : k < length x.bytes = omega (arith, w.len) in
      let was_clean : is_dirty_at (Some x.pages) k ≡ false =
      false_from_ne_true _ (λ dirty. true≢false (sym (w.dirt k dirty) ∙ clean_now)) in
      let was_idle : waiting (k / x.pages.page_size) ≡ false =
      ap (λ (size : ℕ). waiting (k / size)) (sym w.size) ∙ idle in
      ap (λ (size : ℕ). get_or (arrived size block batch image) k 0) w.size
      ∙ f.same k within old was_clean was_idle
      ∙ sym (w.bytes k within clean_now);
}

-- ---- harvests

any_number : (n page : ℕ) → page < n → list_any (λ (p : ℕ). page == p) (numbers 0 n) ≡ true
any_number n page l =
    list_any_at (λ (p : ℕ). page == p) (numbers 0 n) page 0 (omega (arith, length-numbers 0 n))
    (eq-eqb page _ (sym (get_or-numbers 0 n page 0 l ∙ zero-add page)))

module _ (are_listed : AreListed) where
  any_dirty : (p : Pages) (page : ℕ) → get_or p.flags page false ≡ true
      → list_any (λ (q : ℕ). page == q) (dirty_pages (Some p)) ≡ true
  any_dirty p page e = list_any-from_Contains nat_eq_equiv page (dirty_pages (Some p)) ((are_listed p page).1 e)

  taken_all : (round : ℕ) (x : Source) (k : ℕ) → 0 < x.pages.page_size → k < length x.bytes
      → list_any (λ (p : ℕ). k / x.pages.page_size == p) (taken round x) ≡ false
      → ((round == 0) ≡ false) × (get_or x.pages.flags (k / x.pages.page_size) false ≡ false)
  taken_all round x k some l none =
      elim (cases_Bool (eqb round 0)) [
        | inl first ↦
            let all : list_any (λ (p : ℕ). k / x.pages.page_size == p)
            (numbers 0 (div_ceil (length x.bytes) x.pages.page_size)) ≡ false =
            ap (λ (ps : List ℕ). list_any (λ (p : ℕ). k / x.pages.page_size == p) ps)
            (sym (cond-true _ _ _ first)) ∙ none in
            let size = x.pages.page_size in
            let times : length x.bytes ≤ div_ceil (length x.bytes) size * size =
            (div_ceil_times (length x.bytes) size some).0 in
            let below : k / size < div_ceil (length x.bytes) size = div_below k size _ some (omega arith) in
            absurd (true≢false (sym (any_number _ (k / size) below) ∙ all))
        | inr later ↦
            let some_page : list_any (λ (p : ℕ). k / x.pages.page_size == p) (dirty_pages (Some x.pages)) ≡ false =
            ap (λ (ps : List ℕ). list_any (λ (p : ℕ). k / x.pages.page_size == p) ps)
            (sym (cond-false _ _ _ later)) ∙ none in (
              later,
              false_from_ne_true _
                  (λ dirty. true≢false (sym (any_dirty x.pages (k / x.pages.page_size) dirty) ∙ some_page)),
            )
      ]

  harvested_follows : (s : Ends) (block : ℕ) → may_harvest s ≡ true → Follows s block
      → Follows (after_harvest s) block
  harvested_follows s block may f =
      let idle : s.waiting ≡ [] = nil_from_length s.waiting (eqb-true _ _ (and_parts _ _ may).0) in
      let never : (page : ℕ) → waits s block page ≡ false =
      λ page. and_right _ _ (ap (λ (ps : List ℕ). list_any (λ (p : ℕ). page == p) ps) idle) in
      cond_both (eqb block s.turn) (clean (s.sources s.turn)) (s.sources block)
      (λ x. IsFollowed block x (s.images block) s.batch (is_fresh (after_harvest s) block)
      (λ page. waits (after_harvest s) block page))
      (λ own. harvested own never)
      (λ other. passed other never)
    where
      harvested : eqb block s.turn ≡ true → ((page : ℕ) → waits s block page ≡ false)
          → IsFollowed block (clean (s.sources s.turn)) (s.images block) s.batch (is_fresh (after_harvest s) block)
          (λ page. waits (after_harvest s) block page)
      harvested own never =
          let here : block ≡ s.turn = eqb-true _ _ own in
          let g : IsFollowed block (s.sources s.turn) (s.images block) s.batch (is_fresh s block)
          (λ page. waits s block page) =
          subst (λ (b : ℕ). IsFollowed block (s.sources b) (s.images block) s.batch (is_fresh s block)
          (λ page. waits s block page)) here f in
          record {
            sized = g.sized;
            len = g.len;
            same = λ k l old clean_now idle_now.
                let size = (s.sources s.turn).pages.page_size in
                let none : list_any (λ (p : ℕ). k / size == p) (taken s.round (s.sources s.turn)) ≡ false =
                elim (and_cases _ _ idle_now) [
                  | inl ne ↦ absurd (true≢false (sym (eq-eqb _ _ (sym here)) ∙ ne))
                  | inr e ↦ e
                ] in
                let t = taken_all s.round (s.sources s.turn) k g.sized l none in
                g.same k l (and_left _ _ t.0) t.1 (never (k / size));
          }

      passed : eqb block s.turn ≡ false → ((page : ℕ) → waits s block page ≡ false)
          → IsFollowed block (s.sources block) (s.images block) s.batch (is_fresh (after_harvest s) block)
          (λ page. waits (after_harvest s) block page)
      passed other never = record {
        sized = f.sized;
        len = f.len;
        same = λ k l old clean_now idle_now.
            let was_old : is_fresh s block ≡ false =
            elim (and_cases (s.round == 0) (leb (s.turn + 1) block) old) [
              | inl later ↦ and_left (s.round == 0) (leb s.turn block) later
              | inr e ↦ and_right (s.round == 0) (leb s.turn block)
                  (let before : block < s.turn + 1 = leb-false (s.turn + 1) block e in
                  let ne : block ≡ s.turn → ⊥ = eqb-false block s.turn other in
                  lt-leb s.turn block (elim (cases_lt block s.turn) [
                    | inl less ↦ less
                    | inr more ↦ absurd (ne (omega arith))
                  ]))
            ] in
            f.same k l was_old clean_now (never (k / (s.sources block).pages.page_size));
      }

-- ---- copies

copied_follows : (n : ℕ) (s : Ends) (block : ℕ) → Follows s block → Follows (after_copy n s) block
copied_follows n s block f = record {
  sized = f.sized;
  len = f.len;
  same = λ k l old clean_now idle_now.
      elim (cases_Bool (eqb s.last block)) [
        | inl own ↦ copied_own k l old clean_now idle_now own
        | inr other ↦
            ap (λ (x : List ℕ). get_or x k 0) (arrived-append size block s.batch new (s.images block))
            ∙ ap (λ (x : List ℕ). get_or x k 0)
            (others_arrive size (size_of s s.last) block s.last (s.sources s.last).bytes (take n s.waiting) mid other)
            ∙ f.same k l old clean_now (and_left _ _ other)
      ];
}
  where
    size : ℕ
    size = size_of s block

    new : List Message
    new = flat_map (copied (size_of s s.last) s.last (s.sources s.last).bytes) (take n s.waiting)

    mid : List ℕ
    mid = arrived (size_of s block) block s.batch (s.images block)

    copied_own : (k : ℕ) → k < length (s.sources block).bytes → is_fresh s block ≡ false
        → get_or (s.sources block).pages.flags (k / size_of s block) false ≡ false
        → waits (after_copy n s) block (k / size_of s block) ≡ false → eqb s.last block ≡ true
        → get_or (arrived (size_of s block) block (after_copy n s).batch (s.images block)) k 0
        ≡ get_or (s.sources block).bytes k 0
    copied_own k l old clean_now idle_now own =
        let ps = take n s.waiting in
        let bytes = (s.sources block).bytes in
        let here : s.last ≡ block = eqb-true _ _ own in
        let test : ℕ → Bool = λ p. k / size_of s block == p in
        let same_block : flat_map (copied (size_of s s.last) s.last (s.sources s.last).bytes) ps
        ≡ flat_map (copied (size_of s block) block bytes) ps =
        ap (λ (b : ℕ). flat_map (copied (size_of s b) b (s.sources b).bytes) ps) here in
        let len : length (arrived (size_of s block) block s.batch (s.images block)) ≡ length bytes =
        length-arrived (size_of s block) block s.batch (s.images block) ∙ f.len in
        let rest_none : list_any test (drop n s.waiting) ≡ false = elim (and_cases _ _ idle_now) [
          | inl ne ↦ absurd (true≢false (sym own ∙ ne))
          | inr e ↦ e
        ] in
        let none : list_any test ps ≡ false → list_any test s.waiting ≡ false = λ e.
        ap (list_any test) (sym (take-append-drop n s.waiting))
        ∙ list_any-append test ps (drop n s.waiting) ∙ or_from _ _ e rest_none in
        ap (λ (ms : List Message). get_or (arrived (size_of s block) block (s.batch ++ ms) (s.images block)) k 0)
        same_block
        ∙ ap (λ (x : List ℕ). get_or x k 0) (arrived-append (size_of s block) block s.batch _ (s.images block))
        ∙ pages_arrive (size_of s block) block k f.sized bytes l ps
        (arrived (size_of s block) block s.batch (s.images block)) len
        ∙ elim (cases_Bool (list_any test ps)) [
          | inl e ↦ cond-true _ _ _ e
          | inr e ↦ cond-false _ _ _ e ∙ f.same k l old clean_now (and_right _ _ (none e))
        ]

-- ---- sends, and the end of a round

sent_follows : (s : Ends) (block : ℕ) → Follows s block → Follows (after_send s) block
unfolding arrived
sent_follows s block f = record {
  sized = f.sized;
  len = length-arrived (size_of s block) block s.batch (s.images block) ∙ f.len;
  same = f.same;
}

round_follows : (s : Ends) (block : ℕ) → block < s.count → is_round_over s ≡ true → Follows s block
    → Follows (after_round s) block
round_follows s block l over f =
    let all : s.turn ≡ s.count = eqb-true _ _ (and_parts _ _ over).0 in
    record {
      sized = f.sized;
      len = f.len;
      same = λ k within old.
          f.same k within (and_right (s.round == 0) (leb s.turn block) (lt-leb s.turn block (omega arith)));
    }

-- ---- each event, and all of them

same_count : (e : Event) (s : Ends) → (after e s).count ≡ s.count
same_count (Write block x) s = refl
same_count Harvest s = cond_both (may_harvest s) (after_harvest s) s (λ t. t.count ≡ s.count) (λ e. refl) (λ e. refl)
same_count (Copy n) s = refl
same_count Send s = refl
same_count EndRound s = cond_both (is_round_over s) (after_round s) s (λ t. t.count ≡ s.count) (λ e. refl) (λ e. refl)

module _ (are_listed : AreListed) where
  after_follows : (e : Event) (s : Ends) (block : ℕ) → block < s.count → May e s → Follows s block
      → Follows (after e s) block
  after_follows (Write b x) s block l may f =
      cond_both (eqb block b) x (s.sources block)
      (λ y. IsFollowed block y (s.images block) s.batch (is_fresh s block) (λ page. waits s block page))
      (λ own. written_follows block (s.sources block) x (s.images block) s.batch (is_fresh s block)
      (λ page. waits s block page)
      (subst (λ (j : ℕ). IsWritten (s.sources j) x) (sym (eqb-true block b own)) may) f)
      (λ other. f)
  after_follows Harvest s block l may f =
      cond_both (may_harvest s) (after_harvest s) s (λ t. Follows t block)
      (λ e. harvested_follows are_listed s block e f) (λ e. f)
  after_follows (Copy n) s block l may f = copied_follows n s block f
  after_follows Send s block l may f = sent_follows s block f
  after_follows EndRound s block l may f =
      cond_both (is_round_over s) (after_round s) s (λ t. Follows t block) (λ e. round_follows s block l e f) (λ e. f)

  pub story_follows : (es : List Event) (s : Ends) (block : ℕ) → block < s.count → AllMay es s → Follows s block
      → Follows (story es s) block
  unfolding story AllMay
  story_follows [] s block l may f = f
  story_follows (e ∷ es) s block l may f =
      story_follows es (after e s) block (subst (λ (n : ℕ). block < n) (sym (same_count e s)) l) may.1
      (after_follows e s block l may.0 f)

pub story_count : (es : List Event) (s : Ends) → (story es s).count ≡ s.count
unfolding story
story_count [] s = refl
story_count (e ∷ es) s = story_count es (after e s) ∙ same_count e s

pub beginning_follows : (s : Ends) (block : ℕ) → IsBeginning s → block < s.count → Follows s block
beginning_follows s block b l = record {
  sized = b.sized block l;
  len = b.long block l;
  same = λ k within old.
      let fresh : is_fresh s block ≡ true =
      and_from _ _ (eq-eqb _ _ b.round) (le-leb _ _ (omega (arith, b.turn))) in
      absurd (true≢false (sym fresh ∙ old));
}

-- a page that is followed is kept
pub kept_from_follows : (s : Ends) (block page : ℕ) → Follows s block → IsKept s block page
kept_from_follows s block page f =
    elim (cases_Bool (is_due s block page)) [
      | inl due ↦ inl due
      | inr not_due ↦ elim (cases_Bool (waits s block page)) [
        | inl waiting ↦ inr (inl waiting)
        | inr idle ↦ elim (cases_Bool (is_batched s block page)) [
          | inl batched ↦ inr (inr (inl batched))
          | inr none ↦ inr (inr (inr (λ k l here. equal not_due idle none k l here)))
        ]
      ]
    ]
  where
    equal : is_due s block page ≡ false → waits s block page ≡ false → is_batched s block page ≡ false
        → IsEqual s block page
    equal not_due idle none k l here =
        let parts = or_parts (is_fresh s block) (get_or (s.sources block).pages.flags page false) not_due in
        let size = size_of s block in
        let flag : get_or (s.sources block).pages.flags (k / size) false ≡ false =
        ap (λ (p : ℕ). get_or (s.sources block).pages.flags p false) here ∙ parts.1 in
        let idle_here : waits s block (k / size) ≡ false = ap (λ (p : ℕ). waits s block p) here ∙ idle in
        let within : k < length (s.images block) = omega (arith, f.len) in
        sym (stays_arrived size block page k f.sized here s.batch (s.images block) within none)
        ∙ f.same k l parts.0 flag idle_here

-- ---- rounds while no block is written

-- no page of a block that was harvested in this round is dirty
abbrev pub IsCleared : Ends → Type 0
IsCleared s = (block page : ℕ) → block < s.turn → get_or (s.sources block).pages.flags page false ≡ false

pub none_set : (n page : ℕ) → get_or (replicate n false) page false ≡ false
none_set n page = elim (cases_lt page n) [
  | inl below ↦ get_or-replicate n page false false below
  | inr past ↦ get_or_past (replicate n false) page false (omega (arith, length-replicate n false))
]

harvest_clears : (s : Ends) → IsCleared s → IsCleared (after_harvest s)
harvest_clears s cleared block page l =
    cond_both (eqb block s.turn) (clean (s.sources s.turn)) (s.sources block)
    (λ x. get_or x.pages.flags page false ≡ false)
    (λ own. none_set (length (s.sources s.turn).pages.flags) page)
    (λ other. cleared block page (elim (cases_lt block s.turn) [
      | inl less ↦ less
      | inr more ↦ absurd (eqb-false block s.turn other (omega arith))
    ]))

still_clears : (e : Event) (s : Ends) → IsStill e → IsCleared s → IsCleared (after e s)
still_clears (Write block x) s still cleared = absurd still
still_clears Harvest s still cleared =
    cond_both (may_harvest s) (after_harvest s) s (λ t. IsCleared t) (λ e. harvest_clears s cleared) (λ e. cleared)
still_clears (Copy n) s still cleared = cleared
still_clears Send s still cleared = cleared
still_clears EndRound s still cleared =
    cond_both (is_round_over s) (after_round s) s (λ t. IsCleared t)
    (λ e block page l. absurd (omega arith)) (λ e. cleared)

pub still_story_clears : (es : List Event) (s : Ends) → AllStill es → IsCleared s → IsCleared (story es s)
unfolding story AllStill
still_story_clears [] s still cleared = cleared
still_story_clears (e ∷ es) s still cleared =
    still_story_clears es (after e s) still.1 (still_clears e s still.0 cleared)

pub through_equal : (s : Ends) (block : ℕ) → Follows s block → IsCleared s → IsThrough s → block < s.count
    → s.images block ≡ (s.sources block).bytes
unfolding arrived
through_equal s block f cleared through l =
    let size = size_of s block in
    let turned : s.turn ≡ s.count = through.turn in
    let old : is_fresh s block ≡ false =
    and_right (s.round == 0) (leb s.turn block) (lt-leb s.turn block (omega arith)) in
    let all : arrived size block s.batch (s.images block) ≡ s.images block =
    ap (λ (ms : List Message). arrived size block ms (s.images block)) through.batch in
    ext_get_or 0 (s.images block) (s.sources block).bytes f.len (λ k within.
    ap (λ (x : List ℕ). get_or x k 0) (sym all)
    ∙ f.same k (omega (arith, f.len)) old (cleared block (k / size) (omega arith))
    (and_right (s.last == block) _ (ap (λ (ps : List ℕ). list_any (λ p. k / size == p) ps) through.waiting)))
