-- What stays as it is once a round was gone through while nothing was written.
use Rattle.std.proofs.Common.{◌≡◌, ℕ, suc, ◌+◌, ◌<◌, Bool, true, false, eqb, List, [], ◌∷◌, ◌++◌, length, get_or, drop, take, refl, ap, ◌∙◌, arith}
use Rattle.std.specs.List.{flat_map}
use Rattle.std.proofs.lemmas.Bool.{and_parts, cond-false, cond_both, ne_eqb, eqb-true, ltb-true}
use Rattle.std.proofs.lemmas.List.{append-nil, drop_all, take_all}
use Rattle.vm_memory_base.specs.Pages.{dirty_from}
use Rattle.live_migration.specs.Frame.{Message}
use Rattle.live_migration.specs.Image.{arrived, copied}
use Rattle.live_migration.specs.Rounds.{AllStill, Copy, EndRound, Ends, Event, Harvest, IsStill, Send, Write, after, after_copy, after_harvest, after_round, after_send, clean, is_round_over, may_harvest, size_of, story}
use Rattle.live_migration.proofs.RoundsLemmas.{none_set}

-- nothing is dirty, nothing waits, and the two ends are equal, after the first round
pub record IsSettled (s : Ends) : Type 0 where
  pub later : 0 < s.round
  pub waiting : s.waiting ≡ []
  pub batch : s.batch ≡ []
  pub clear : (block page : ℕ) → block < s.count → get_or (s.sources block).pages.flags page false ≡ false
  pub equal : (block : ℕ) → block < s.count → s.images block ≡ (s.sources block).bytes

none_dirty : (flags : List Bool) (page : ℕ) → ((i : ℕ) → get_or flags i false ≡ false) → dirty_from page flags ≡ []
none_dirty [] page clear = refl
none_dirty (dirty ∷ flags) page clear =
    cond-false dirty (page ∷ dirty_from (page + 1) flags) (dirty_from (page + 1) flags) (clear 0)
    ∙ none_dirty flags (page + 1) (λ i. clear (suc i))

turn_below : (s : Ends) → may_harvest s ≡ true → s.turn < s.count
turn_below s may = ltb-true s.turn s.count (and_parts _ _ may).1

settled_harvest : (s : Ends) → s.turn < s.count → IsSettled s → IsSettled (after_harvest s)
settled_harvest s l f =
    let later = f.later in
    let x = s.sources s.turn in
    record {
      later = f.later;
      waiting = cond-false _ _ _ (ne_eqb s.round 0 (λ e. omega arith))
          ∙ none_dirty x.pages.flags 0 (λ i. f.clear s.turn i l);
      batch = f.batch;
      clear = λ block page k.
          cond_both (eqb block s.turn) (clean x) (s.sources block) (λ y. get_or y.pages.flags page false ≡ false)
          (λ own. none_set (length x.pages.flags) page) (λ other. f.clear block page k);
      equal = λ block k.
          cond_both (eqb block s.turn) (clean x) (s.sources block) (λ y. s.images block ≡ y.bytes)
          (λ own. f.equal block k ∙ ap (λ (b : ℕ). (s.sources b).bytes) (eqb-true block s.turn own))
          (λ other. f.equal block k);
    }

settled_copy : (n : ℕ) (s : Ends) → IsSettled s → IsSettled (after_copy n s)
settled_copy n s f =
    let copy = λ (ps : List ℕ). flat_map (copied (size_of s s.last) s.last (s.sources s.last).bytes) (take n ps) in
    record {
      later = f.later;
      waiting = ap (drop n) f.waiting ∙ drop_all n [] (omega arith);
      batch = ap (λ (ps : List ℕ). s.batch ++ copy ps) f.waiting
          ∙ ap (λ (ps : List ℕ). s.batch ++ flat_map (copied (size_of s s.last) s.last (s.sources s.last).bytes) ps)
          (take_all n [] (omega arith))
          ∙ append-nil s.batch ∙ f.batch;
      clear = f.clear;
      equal = f.equal;
    }

settled_send : (s : Ends) → IsSettled s → IsSettled (after_send s)
unfolding arrived
settled_send s f = record {
  later = f.later;
  waiting = f.waiting;
  batch = refl;
  clear = f.clear;
  equal = λ block k.
      ap (λ (ms : List Message). arrived (size_of s block) block ms (s.images block)) f.batch ∙ f.equal block k;
}

settled_round : (s : Ends) → IsSettled s → IsSettled (after_round s)
settled_round s f = record {
  later = omega arith;
  waiting = f.waiting;
  batch = f.batch;
  clear = f.clear;
  equal = f.equal;
}

settled_after : (e : Event) (s : Ends) → IsStill e → IsSettled s → IsSettled (after e s)
settled_after (Write block x) s still f = absurd still
settled_after Harvest s still f =
    cond_both (may_harvest s) (after_harvest s) s IsSettled (λ may. settled_harvest s (turn_below s may) f) (λ e. f)
settled_after (Copy n) s still f = settled_copy n s f
settled_after Send s still f = settled_send s f
settled_after EndRound s still f =
    cond_both (is_round_over s) (after_round s) s IsSettled (λ e. settled_round s f) (λ e. f)

pub settled_story : (es : List Event) (s : Ends) → AllStill es → IsSettled s → IsSettled (story es s)
unfolding story AllStill
settled_story [] s still f = f
settled_story (e ∷ es) s still f = settled_story es (after e s) still.1 (settled_after e s still.0 f)
