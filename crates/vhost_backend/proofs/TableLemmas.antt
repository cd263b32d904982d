-- What holds of a back end holds still after a change of the table, after its memory was lost and after a reply on the
-- channel, if it makes nothing of what is kept and fetched for rings, of kicks, and of what is asked on the channel.
use Rattle.std.proofs.Common.{◌≡◌, ℕ, zero, suc, ◌&&◌, ◌==◌, not, Bool, true, false, if◌then◌else◌, List, length, Option, Some, None, Result, Ok, Err, IsSomeAnd, MatchBool, MatchOption, MatchResult, refl, sym, subst}
use Rattle.std.specs.List.{slice_get, slice_set}
use Rattle.std.specs.declared.alloc.AllocError.{AllocError}
use Rattle.vm_memory_base.specs.Table.{Says, Table, says}
use Rattle.vm_memory_base.specs.declared.iotlb.Permissions.{Permissions}
use Rattle.vhost_iotlb.specs.declared.kept.Change.{Change}
use Rattle.vhost_backend.specs.Behind.{with_reach}
use Rattle.vhost_backend.specs.BlockBackend.{reply_for, refused_one}
use Rattle.vhost_backend.specs.BlockQueue.{BlockQueueState}
use Rattle.vhost_backend.specs.BlockTable.{AfterChange, ChangesBy, ChangesTable, Resumed, asked_by, asked_for, memory_lost, settled_by, settled_to}
use Rattle.vhost_backend.specs.Questions.{QuestionsState, stale, wanted}
use Rattle.vhost_backend.specs.Reach.{Changes, ReachState, ResumesFetch, cleared, refused}
use Rattle.vhost_backend.specs.RingMemory.{MemoryStep, Returned}
use Rattle.vhost_backend.specs.TableUse.{ChangesAll, ChangesAt, ChangesTo, ResumesAt, ResumesTo, awaited, in_use, kicked_if, kicked_to, lost_at, lost_to, refused_at}
use Rattle.vhost_backend.specs.declared.block_backend.BlockBackend.{BlockBackend}
use Rattle.vhost_backend.specs.declared.questions.SentMiss.{SentMiss}

module _ (P : BlockBackend → Type 0)
    (asks : (w : BlockBackend) (q : QuestionsState) → P w → P (record w { questions = q }))
    (kicks : (w : BlockBackend) (ks : List Bool) → P w → P (record w { kicks = ks }))
    (reaches : (w : BlockBackend) (n : ℕ) (q : BlockQueueState) (r : ReachState) → slice_get w.queues n ≡ Some q → P w
    → P (record w { queues = slice_set w.queues n (with_reach q r) })) where
  -- ---- what is asked

  asked_kept : (w : BlockBackend) (ring : ℕ) (o : Option (ℕ × Permissions)) → P w → P (asked_by w ring o)
  asked_kept w ring None p = p
  asked_kept w ring (Some t) p =
      asks w (wanted w.questions (record { ring = ring; iova = t.0; access = t.1 })) p

  pub asking_kept : (w : BlockBackend) (ring : ℕ) → P w → P (asked_for w ring)
  asking_kept w ring p = asked_kept w ring (awaited (slice_get w.queues ring)) p

  settle_kept : (w : BlockBackend) (ring : ℕ) (o : Option (ℕ × Permissions)) → P w → P (settled_by w ring o)
  settle_kept w ring None p = asks w (stale w.questions ring) p
  settle_kept w ring (Some t) p = p

  settled_kept : (n : ℕ) (w : BlockBackend) → P w → P (settled_to n w)
  settled_kept zero w p = p
  settled_kept (suc n) w p = settle_kept (settled_to n w) n (awaited (slice_get (settled_to n w).queues n))
      (settled_kept n w p)

  -- ---- queues and kicks that are as they were, or others

  moved : (w : BlockBackend) (qs qs' : List BlockQueueState) (ks ks' : List Bool) → qs' ≡ qs → ks' ≡ ks
      → P (record w { queues = qs; kicks = ks }) → P (record w { queues = qs'; kicks = ks' })
  moved w qs qs' ks ks' same still p = subst (λ l. P (record w { queues = l; kicks = ks' })) (sym same)
      (subst (λ l. P (record w { queues = qs; kicks = l })) (sym still) p)

  -- those that a back end has
  own : (w : BlockBackend) → P w → P (record w { queues = w.queues; kicks = w.kicks })
  own w p = kicks w w.kicks p

  set_kept : (w : BlockBackend) (n : ℕ) (q : BlockQueueState) (r : ReachState) (ks : List Bool)
      → slice_get w.queues n ≡ Some q → P w
      → P (record w { queues = slice_set w.queues n (with_reach q r); kicks = ks })
  set_kept w n q r ks found p = kicks (record w { queues = slice_set w.queues n (with_reach q r) }) ks
      (reaches w n q r found p)

  -- ---- the memory is lost

  lost_one_kept : (w : BlockBackend) (n : ℕ) (o : Option BlockQueueState) → slice_get w.queues n ≡ o → P w
      → P (record w { queues = lost_at w.queues n o })
  lost_one_kept w n None found p = own w p
  lost_one_kept w n (Some q) found p = reaches w n q (cleared q.reach) found p

  lost_kept : (w : BlockBackend) (n : ℕ) → P w → P (record w { queues = lost_to n w.queues })
  lost_kept w zero p = own w p
  lost_kept w (suc n) p = let v : BlockBackend = record w { queues = lost_to n w.queues } in
      lost_one_kept v n (slice_get v.queues n) refl (lost_kept w n p)

  pub memory_kept : (w : BlockBackend) → P w → P (memory_lost w)
  memory_kept w p =
      let n = length w.queues in
      let ks = kicked_to n w.queues w.kicks in
      let left : BlockBackend = record w { queues = lost_to n w.queues; kicks = ks } in
      settled_kept (length left.queues) left
      (kicks (record w { queues = lost_to n w.queues }) ks (lost_kept w n p))

  -- ---- a reply on the channel

  refused_kept : (w : BlockBackend) (ring : ℕ) → P w
      → P (record w { queues = refused_at w.queues ring (slice_get w.queues ring) })
  refused_kept w ring p = go (slice_get w.queues ring) refl
    where
      go : (o : Option BlockQueueState) → slice_get w.queues ring ≡ o
          → P (record w { queues = refused_at w.queues ring o })
      go None found = own w p
      go (Some q) found = reaches w ring q (refused q.reach) found p

  pub reply_kept : (w : BlockBackend) (one : SentMiss) (value : ℕ) → P w → P (reply_for w one value)
  reply_kept w one value p = kicks (refused_one w one value) (slice_set (refused_one w one value).kicks one.ring true)
      (go (one.is_awaited && not (value == 0)))
    where
      go : (v : Bool) → P (if v then record w { queues = refused_at w.queues one.ring (slice_get w.queues one.ring) }
          else w)
      go true = refused_kept w one.ring p
      go false = p

  -- ---- what waits goes on

  resumed_at : (f : Says) (n : ℕ) (w : BlockBackend) (qs : List BlockQueueState) (ks : List Bool)
      → ResumesAt f n w.queues w.kicks qs ks → P w → P (record w { queues = qs; kicks = ks })
  resumed_at f n w qs ks is p = go (slice_get w.queues n) refl is
    where
      go : (o : Option BlockQueueState) → slice_get w.queues n ≡ o
          → MatchOption o ((qs ≡ w.queues) × (ks ≡ w.kicks))
          (λ q. (can : Bool) × (r : ReachState) × ResumesFetch f (length q.asked) q.reach can r
          × (qs ≡ slice_set w.queues n (with_reach q r)) × (ks ≡ kicked_if can w.kicks n))
          → P (record w { queues = qs; kicks = ks })
      go None found (same, still) = moved w w.queues qs w.kicks ks same still (own w p)
      go (Some q) found (can, r, goes, set, kicked) =
          moved w (slice_set w.queues n (with_reach q r)) qs (kicked_if can w.kicks n) ks set kicked
          (set_kept w n q r (kicked_if can w.kicks n) found p)

  resumed_to : (f : Says) (n : ℕ) (w : BlockBackend) (qs : List BlockQueueState) (ks : List Bool)
      → ResumesTo f n w.queues w.kicks qs ks → P w → P (record w { queues = qs; kicks = ks })
  resumed_to f zero w qs ks (same, still) p = moved w w.queues qs w.kicks ks same still (own w p)
  resumed_to f (suc n) w qs ks (mid, mid_kicks, first, rest) p =
      resumed_at f n (record w { queues = mid; kicks = mid_kicks }) qs ks rest
      (resumed_to f n w mid mid_kicks first p)

  resumed_kept : (f : Says) (w w' : BlockBackend) → Resumed f w w' → P w → P w'
  resumed_kept f w w' (qs, ks, resumes, is) p = subst P (sym is) (settled_kept (length qs)
      (record w { queues = qs; kicks = ks }) (resumed_to f (length w.queues) w qs ks resumes p))

  -- ---- a change

  module _ {H : Type 0} (step : H → (s : MemoryStep) → Returned s → H → Type 0) where
    changed_at : (c : Change) (n : ℕ) (w : BlockBackend) (old : H) (done : Result (Unit {0}) AllocError)
        (qs : List BlockQueueState) (ks : List Bool) (new : H)
        → ChangesAt step c n w.queues w.kicks old done qs ks new → P w → P (record w { queues = qs; kicks = ks })
    changed_at c n w old (Ok done) qs ks new is p = go (slice_get w.queues n) refl is
      where
        go : (o : Option BlockQueueState) → slice_get w.queues n ≡ o
            → MatchOption o ((qs ≡ w.queues) × (ks ≡ w.kicks) × (new ≡ old))
            (λ q. (had : Bool) × (r : ReachState) × Changes step c q.reach old (Ok had) r new
            × (qs ≡ slice_set w.queues n (with_reach q r)) × (ks ≡ kicked_if had w.kicks n))
            → P (record w { queues = qs; kicks = ks })
        go None found (same, still, quiet) = moved w w.queues qs w.kicks ks same still (own w p)
        go (Some q) found (had, r, changes, set, kicked) =
            moved w (slice_set w.queues n (with_reach q r)) qs (kicked_if had w.kicks n) ks set kicked
            (set_kept w n q r (kicked_if had w.kicks n) found p)
    changed_at c n w old (Err e) qs ks new is p = go (slice_get w.queues n) refl is
      where
        go : (o : Option BlockQueueState) → slice_get w.queues n ≡ o
            → IsSomeAnd o (λ q. (r : ReachState) × Changes step c q.reach old (Err e) r new
            × (qs ≡ slice_set w.queues n (with_reach q r)) × (ks ≡ w.kicks))
            → P (record w { queues = qs; kicks = ks })
        go None found none = absurd none
        go (Some q) found (r, changes, set, kicked) =
            moved w (slice_set w.queues n (with_reach q r)) qs w.kicks ks set kicked
            (set_kept w n q r w.kicks found p)

    changed_to : (c : Change) (n : ℕ) (w : BlockBackend) (old : H) (qs : List BlockQueueState) (ks : List Bool) (new : H)
        → ChangesTo step c n w.queues w.kicks old qs ks new → P w → P (record w { queues = qs; kicks = ks })
    changed_to c zero w old qs ks new (same, still, quiet) p = moved w w.queues qs w.kicks ks same still (own w p)
    changed_to c (suc n) w old qs ks new (mid, mid_kicks, between, first, rest) p =
        changed_at c n (record w { queues = mid; kicks = mid_kicks }) between (Ok tt) qs ks new rest
        (changed_to c n w old mid mid_kicks between first p)

    changed_all : (c : Change) (w : BlockBackend) (old : H) (done : Result (Unit {0}) AllocError)
        (qs : List BlockQueueState) (ks : List Bool) (new : H)
        → ChangesAll step c w.queues w.kicks old done qs ks new → P w → P (record w { queues = qs; kicks = ks })
    changed_all c w old (Ok done) qs ks new is p = changed_to c (length w.queues) w old qs ks new is p
    changed_all c w old (Err e) qs ks new (n, mid, mid_kicks, between, first, rest) p =
        changed_at c n (record w { queues = mid; kicks = mid_kicks }) between (Err e) qs ks new rest
        (changed_to c n w old mid mid_kicks between first p)

    change_kept : (o : Option Change) (w : BlockBackend) (t : Table) (old : H) (is : Bool) (w' : BlockBackend) (t' : Table)
        (new : H) → ChangesBy step o w t old is w' t' new → P w → P w'
    change_kept None w t old is w' t' new (was, same, still, quiet) p = subst P (sym same) p
    change_kept (Some c) w t old is w' t' new changes p = go (in_use c w.queues) changes
      where
        after : (v : BlockBackend) (is : Bool) → MatchBool is (Resumed (says t') v w') (w' ≡ v) → P v → P w'
        after v true resumes p = resumed_kept (says t') v w' resumes p
        after v false same p = subst P (sym same) p

        ends : (qs : List BlockQueueState) (ks : List Bool) (done : Result (Unit {0}) AllocError) → MatchResult done
            (λ it. AfterChange c (record w { queues = qs; kicks = ks }) t is w' t')
            (λ e. (is ≡ false) × (w' ≡ record w { queues = qs; kicks = ks }) × (t' ≡ t))
            → P (record w { queues = qs; kicks = ks }) → P w'
        ends qs ks (Ok done) (applies, rest) p = after (record w { queues = qs; kicks = ks }) is rest p
        ends qs ks (Err e) (was, same, still) p = subst P (sym same) p

        go : (v : Bool) → MatchBool v ((is ≡ false) × (w' ≡ w) × (t' ≡ t) × (new ≡ old))
            ((done : Result (Unit {0}) AllocError) × (qs : List BlockQueueState) × (ks : List Bool)
            × ChangesAll step c w.queues w.kicks old done qs ks new
            × MatchResult done (λ it. AfterChange c (record w { queues = qs; kicks = ks }) t is w' t')
            (λ e. (is ≡ false) × (w' ≡ record w { queues = qs; kicks = ks }) × (t' ≡ t))) → P w'
        go true (was, same, still, quiet) = subst P (sym same) p
        go false (done, qs, ks, all, rest) = ends qs ks done rest (changed_all c w old done qs ks new all p)

    pub table_kept : (w : BlockBackend) (t : Table) (old : H) (is : Bool) (w' : BlockBackend) (t' : Table) (new : H)
        → ChangesTable step w t old is w' t' new → P w → P w'
    table_kept w t old is w' t' new changes p = change_kept w.change w t old is w' t' new changes p
