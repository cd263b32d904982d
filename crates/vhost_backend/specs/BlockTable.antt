-- A change of the table that translates the addresses of rings, and what it makes of a back end.
use Rattle.std.specs.Prelude.{◌≡◌, ◌⊎◌, ℕ, zero, suc, ◌&&◌, Bool, true, false, List, length, slice_get, slice_set, Option, Some, None, Result, MatchBool, MatchResult}
use Rattle.std.specs.declared.alloc.AllocError.{AllocError}
use Rattle.vm_memory_base.specs.Table as table
use Rattle.vm_memory_base.specs.Table.{Says, Table, changed, says}
use Rattle.vm_memory_base.specs.declared.iotlb.Permissions.{Permissions}
use Rattle.vhost_iotlb.specs.Kept.{event_of}
use Rattle.vhost_iotlb.specs.declared.kept.Change.{Change}
use Rattle.vhost_iotlb.specs.declared.kept.Change.TheVariants.{Map, Unmap}
use Rattle.vhost_user.specs.Features.{has, reply_ack}
use Rattle.vhost_backend.specs.BlockQueue.{BlockQueueState}
use Rattle.vhost_backend.specs.Questions.{stale, wanted}
use Rattle.vhost_backend.specs.RingMemory.{MemoryStep, Returned}
use Rattle.vhost_backend.specs.TableUse.{ChangesAll, ResumesTo, awaited, in_use, kicked_to, lost_to}
use Rattle.vhost_backend.specs.declared.block_backend.BlockBackend.{BlockBackend}

-- whether a mapping that is missed can be asked for: on a channel, and if the front end replies there
abbrev pub can_ask : BlockBackend → Bool
can_ask w = w.channel && has w.backend.connection.protocol_features reply_ack

abbrev pub asked_by : BlockBackend → ℕ → Option (ℕ × Permissions) → BlockBackend
asked_by w ring None = w
asked_by w ring (Some t) =
    record w { questions = wanted w.questions (record { ring = ring; iova = t.0; access = t.1 }) }

-- a ring that waits for a mapping asks for it
abbrev pub asked_for : BlockBackend → ℕ → BlockBackend
asked_for w ring = asked_by w ring (awaited (slice_get w.queues ring))

abbrev pub settled_by : BlockBackend → ℕ → Option (ℕ × Permissions) → BlockBackend
settled_by w ring None = record w { questions = stale w.questions ring }
settled_by w ring (Some t) = w

-- of the first rings those that wait for nothing need no reply
abbrev pub settled_to : ℕ → BlockBackend → BlockBackend
settled_to zero w = w
settled_to (suc n) w = let w' = settled_to n w in settled_by w' n (awaited (slice_get w'.queues n))

abbrev pub settled : BlockBackend → BlockBackend
settled w = settled_to (length w.queues) w

-- a ring that waited for a mapping and waits no more, as it lies elsewhere, is looked at, and needs no reply
abbrev pub freed_by : BlockBackend → ℕ → Option (ℕ × Permissions) → Option (ℕ × Permissions) → BlockBackend
freed_by w ring None after = w
freed_by w ring (Some t) None =
    record w { kicks = slice_set w.kicks ring true; questions = stale w.questions ring }
freed_by w ring (Some t) (Some u) = w

-- nothing is kept or fetched for a ring any more. One that waits is looked at
abbrev pub memory_lost : BlockBackend → BlockBackend
memory_lost w = settled (record w {
  queues = lost_to (length w.queues) w.queues;
  kicks = kicked_to (length w.queues) w.queues w.kicks;
})

-- a table is changed, or an allocation fails. If a part of a range cannot be unmapped for that, all is
abbrev pub AppliesTo : Change → Table → Bool → Table → Type 0
AppliesTo c t false t' = (t' ≡ t)
AppliesTo (Unmap iova len) t true t' =
    (t' ≡ changed (event_of (Unmap iova len)) t) ⊎ (t' ≡ changed table.InvalidateAll t)
AppliesTo (Map iova to len permissions) t true t' = t' ≡ changed (event_of (Map iova to len permissions)) t

-- what waits goes on by it
abbrev pub Resumed : Says → BlockBackend → BlockBackend → Type 0
Resumed f w w' = (qs : List BlockQueueState) × (kicks : List Bool)
    × ResumesTo f (length w.queues) w.queues w.kicks qs kicks × (w' ≡ settled (record w { queues = qs; kicks = kicks }))

abbrev pub AfterChange : Change → BlockBackend → Table → Bool → BlockBackend → Table → Type 0
AfterChange c w t is w' t' = AppliesTo c t is t' × MatchBool is (Resumed (says t') w w') (w' ≡ w)

module _ {H : Type 0} (step : H → (s : MemoryStep) → Returned s → H → Type 0) where
  -- what rings have of it is forgotten if that leads elsewhere, then the table is changed, and then what waits goes on.
  -- Nothing is done if something that is under way leads elsewhere by it
  abbrev pub ChangesBy : Option Change → BlockBackend → Table → H → Bool → BlockBackend → Table → H → Type 0
  ChangesBy None w t old is w' t' new = (is ≡ false) × (w' ≡ w) × (t' ≡ t) × (new ≡ old)
  ChangesBy (Some c) w t old is w' t' new = MatchBool (in_use c w.queues)
      ((is ≡ false) × (w' ≡ w) × (t' ≡ t) × (new ≡ old))
      ((done : Result (Unit {0}) AllocError) × (qs : List BlockQueueState) × (kicks : List Bool)
      × ChangesAll step c w.queues w.kicks old done qs kicks new
      × MatchResult done (λ it. AfterChange c (record w { queues = qs; kicks = kicks }) t is w' t')
      (λ e. (is ≡ false) × (w' ≡ record w { queues = qs; kicks = kicks }) × (t' ≡ t)))

  abbrev pub ChangesTable : BlockBackend → Table → H → Bool → BlockBackend → Table → H → Type 0
  ChangesTable w t old is w' t' new = ChangesBy w.change w t old is w' t' new
