-- What messages make of a table, as a run of a machine's commands.
use Rattle.std.proofs.Common.{◌≡◌, Bool, true, false, eqb, ℕ, List, [], ◌∷◌, ◌++◌, Option, Some, Result, refl, sym, ap, subst, ◌∙◌, inl, inr}
use Rattle.std.proofs.lemmas.Bool.{cond-true, eq-eqb}
use Rattle.vm_memory_base.specs.Pages.{PageSet}
use Rattle.vm_memory_base.specs.Table as table
use Rattle.vm_memory_base.specs.Table.{Table, TableEvent, events_of, overruns}
use Rattle.vm_memory_guest.specs.Host.{Host}
use Rattle.vm_memory.specs.Commands.{table_call}
use Rattle.vm_memory.specs.History.{table_calls, table_events}
use Rattle.vm_memory.specs.Machine.{Step, Run}
use Rattle.vm_memory.specs.State.{State}
use Rattle.vm_memory.specs.Tables.{changed_table, changes}
use Rattle.vm_memory.specs.declared.machine.command.Reply.{Reply}
use Rattle.vm_memory.specs.declared.machine.command.Reply.TheVariants as reply
use Rattle.vhost_iotlb.specs.Changes.{Applies, Changes, Handles}
use Rattle.vhost_iotlb.specs.declared.table.Refusal.{Refusal}
use Rattle.vhost_message.specs.declared.iotlb.IotlbMessage.{IotlbMessage}
use Rattle.vhost_message.specs.declared.regions.MemoryRegion.{MemoryRegion}
use Rattle.vhost_iotlb.proofs.CallLemmas.{IsCall, MadeOf, made_of}
use Rattle.vm_session.specs.Commands.{all_done, command_of, commands_of, done_by}

-- a change of a table that is there, in a range that ends at an address
change_is : (number iova len : ℕ) (call : TableEvent) (old new : Host PageSet) → overruns iova len ≡ false
    → Changes number call old new → (reply.Done, new) ≡ changes old number iova len call
change_is number iova len call old new fits c =
    ap (λ (h : Host PageSet). (reply.Done, h)) c.left
    ∙ sym (ap (λ (o : Option Table). changed_table old number o (overruns iova len) call) c.there
    ∙ ap (λ (b : Bool). changed_table old number (Some c.before) b call) fits)

-- a call is a step
step : (number : ℕ) (call : TableEvent) (s : State) (old new : Host PageSet) → IsCall call
    → Changes number call old new
    → Step (record s { host = old }) (command_of number call) reply.Done (record s { host = new })
step number (table.Set iova to len perm) s old new fits c =
    inl (ap (λ (p : Reply × Host PageSet). (p.0, record s { host = p.1 }))
    (change_is number iova len (table.Set iova to len perm) old new fits c))
step number (table.Invalidate iova len) s old new fits c =
    inl (ap (λ (p : Reply × Host PageSet). (p.0, record s { host = p.1 }))
    (change_is number iova len (table.Invalidate iova len) old new fits c))
step number table.InvalidateAll s old new fits c =
    inl (ap (λ (p : Reply × Host PageSet). (p.0, record s { host = p.1 }))
    (change_is number 0 0 table.InvalidateAll old new refl c))
step number (table.Evict iova len) s old new fits c = absurd fits

-- a list of calls is a run
abbrev RunsBy : ℕ → State → List TableEvent → Host PageSet → Host PageSet → Type 0
RunsBy number s calls old new =
    Run (record s { host = old }) (commands_of number calls) (all_done calls) (record s { host = new })

module _ (number : ℕ) (regions : List MemoryRegion) (s : State) where
  pub run_of : (m : IotlbMessage) (answer : Result (Unit {0}) Refusal) (calls : List TableEvent)
      (old new : Host PageSet) → Applies number regions m answer calls old new → RunsBy number s calls old new
  run_of m answer calls old new h = elim (made_of number regions m answer calls old new h) [
    | inl none ↦ subst (λ (cs : List TableEvent). RunsBy number s cs old new) (sym none.0)
        (ap (λ (host : Host PageSet). record s { host = host }) none.1)
    | inr one ↦ (subst (λ (cs : List TableEvent). RunsBy number s cs old new) (sym one.made) (
      record s { host = new },
      step number one.call s old new one.is_call one.changes,
      refl,
    ))
  ]

-- ---- the calls of the table that the commands make

abbrev calls_again : ℕ → List TableEvent → List TableEvent
calls_again number calls = table_calls number (commands_of number calls) (all_done calls)

own_number : (number : ℕ) → eqb number number ≡ true
own_number number = eq-eqb number number refl

call_again : (number : ℕ) (call : TableEvent) → IsCall call
    → table_call number (command_of number call) (done_by call) ≡ call ∷ []
call_again number (table.Set iova to len perm) is =
    cond-true (eqb number number) (table.Set iova to len perm ∷ []) [] (own_number number)
call_again number (table.Invalidate iova len) is =
    cond-true (eqb number number) (table.Invalidate iova len ∷ []) [] (own_number number)
call_again number table.InvalidateAll is =
    cond-true (eqb number number) (table.InvalidateAll ∷ []) [] (own_number number)
call_again number (table.Evict iova len) is = absurd is

module _ (number : ℕ) (regions : List MemoryRegion) where
  calls_are : (ms : List IotlbMessage) (calls : List TableEvent) (old new : Host PageSet)
      → Handles number regions ms calls old new → calls_again number calls ≡ calls
  calls_are [] calls old new h =
      subst (λ (cs : List TableEvent). calls_again number cs ≡ cs) (sym h.0) refl
  calls_are (m ∷ ms) calls old new h =
      subst (λ (cs : List TableEvent). calls_again number cs ≡ cs) (sym h.7)
      (first h.1 h.2 h.3 h.4 (made_of number regions m h.0 h.1 h.3 h.4 h.6) (calls_are ms h.2 h.4 new h.8))
    where
      first : (made rest : List TableEvent) (before after : Host PageSet) → MadeOf number regions m made before after
          → calls_again number rest ≡ rest → calls_again number (made ++ rest) ≡ made ++ rest
      first made rest before after by later = elim by [
        | inl none ↦
            subst (λ (cs : List TableEvent). calls_again number (cs ++ rest) ≡ cs ++ rest) (sym none.0) later
        | inr one ↦ (subst (λ (cs : List TableEvent). calls_again number (cs ++ rest) ≡ cs ++ rest) (sym one.made)
            (ap (λ (cs : List TableEvent). cs ++ calls_again number rest) (call_again number one.call one.is_call)
            ∙ ap (λ (cs : List TableEvent). one.call ∷ cs) later))
      ]

  pub events_are : (ms : List IotlbMessage) (calls : List TableEvent) (old new : Host PageSet) (t : Table)
      → Handles number regions ms calls old new
      → table_events number t (commands_of number calls) (all_done calls) ≡ events_of calls t
  events_are ms calls old new t h = ap (λ (cs : List TableEvent). events_of cs t) (calls_are ms calls old new h)
