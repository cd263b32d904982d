-- `into_raw_box` gives the box's pointer. Assumes `Logic`.
use Rattle.std.proofs.Common.{◌≡◌, ◌∙◌, List, [], ◌∷◌, ◌++◌, Option, Some, None, IsSome, refl, sym, ap, subst}
use mir.Raw.{raw as bare}
use mir.Val.{Val, vptr}
use base.Logic.{SProp, ent, emp, never, fst∗, id⊢}
use types.Logic.{sem}
use contract.Monad.{fact, fact_i}
use contract.Running.{tables}
use prog.Wp.{WpFn}
use types.Kit.{‵, raw, ◌⊛◌, ◌$◌, ◌∵◌, !, qed, by, move, keep, use0, split, suffices, rewrite, fsplit, fjoin}
use types.Part.{whole, sub, agg}
use types.Run.{stop, fld, of_opd, no_more, and_then, returns, enter}
use types.ByLocal.{alloc_all, pass_all, free_all, look_at, get, get_in, sets}
use denote.RattleType.{RattleType, owns}
use denote.Memory.{lone}
use denote.RawPtr.{block_ptr, null_ptr, in_a_block}
use denote.Signature.{types_at, plain}
use denote.Steps.{nothing, heard}
use denote.Triple.Entry.{alive}
use denote.Triple.Walked.{Stays, stay_dropped, walk_of}
use Rattle.core.proofs.alloc.Calls.{Goes-blank}
use Rattle.std.proofs.raw_atomic.Walks.{proved_at, leaves}
use Rattle.std.proofs.alloc.Global.TheLaws.{the_row_laws}
use Rattle.std.specs.Box.Ownership.{box_owns}
use Rattle.std.specs.contracts.impls.GlobalAllocator.TheImpl
use Rattle.libc.specs.Heap.{chunk}
use Rattle.vhost_backend.specs.declared.block_connection.BlockConnection.{BlockConnection}
use Rattle.vhost_backend.specs.contracts.block_connection.BlockConnection as row
use Rattle.vm_memory_c.specs.BlockHandle.{block_owns}
use Rattle.vm_memory_c.proofs.BlockValues.{BlockHandle, Z, word, block_out}
use Rattle.vm_memory_c.proofs.Values.{both, raw_box_good, raw_box_in}
use Rattle.vm_memory_c.specs.contracts.block_handle.BlockHandle.into_raw_box.{ended, clauses}
use Rattle.vm_memory_c.specs.contracts.block_handle.BlockHandle.into_raw_box.Key.{name as #self}
use Rattle.vm_memory_c.proofs.block_handle.BlockHandle.into_raw_box.Statement.{statement}
use Rattle.vm_memory_c.proofs.block_handle.BlockHandle.into_raw_box.Code as code

some_of : (o : Option BlockConnection) → IsSome o → (s : BlockConnection) × (o ≡ Some s)
some_of (Some s) h = (s, refl)
some_of None h = absurd (no h)
  where
    no : IsSome {T = BlockConnection} None → ⊥
    no e = cc

pub into_raw_box_spec : {M : Type 1} → statement M
into_raw_box_spec 𝓤 𝓛 𝓜 𝓡 wired =
    let H = 𝓛.H in let 𝓣 = tables 𝓤 H 𝓜 𝓡 𝓡.env in let R : RattleType = row.the_row in let g = TheImpl.ghosts in
    let En = ended in let c = clauses 𝓛 𝓜.mem 𝓡.returns in let fn = code.function in
    let hs : Stays En.signature.params En.kept = (stay_dropped (plain (λ _. BlockHandle)) En.kept.0, tt) in
    proved_at 𝓛 En hs c 𝓜 𝓡 (Goes-blank 𝓛 0 (plain (λ _. BlockHandle)) En.kept.0 (λ κs x f. tt), tt) #self fn
    (code.unfolded 𝓤 H 𝓜 𝓡 wired) (λ z are.
    let d = z.0.3.0 in let Post : Val → SProp 𝓤 = (walk_of 𝓛 En hs c).post z in let Run : List Val →
    SProp 𝓤 = λ ws. WpFn 𝓤 H 𝓣.C 𝓣.Λ fn ws Post in
    qed 𝓛 ((raw (alive 𝓛 En.signature z.0.0 z.0.1) ⊛ ‵ (owns (types_at En.signature.params z.0.0) z.0.3 z.0.4)) ∷
    raw (fact 𝓤 (IsSome d.state)) ∷ []) ∵
    move ! (1 ∷ []) $ heard ! (IsSome d.state) (λ is_open.
    let s = some_of d.state is_open in
    split ! $ move ! (1 ∷ []) $ fsplit ! $ block_out ! d z.0.4.0 (λ h ws fits.
    rewrite ! 0 (λ (o : Option BlockConnection). ‵ (block_owns d.at o)) s.1 refl $
    in_a_block ! d.at (λ p. box_owns chunk R p s.0) (fst∗ 𝓤 (never 𝓤) (sem 𝓛 (chunk (bare (lone R.mir)) null_ptr)))
    (λ b o e.
    let w : Val = both (vptr b o) h in let typed = raw_box_good R Z the_row_laws g b o h fits in
    suffices ! (Run (w ∷ [])) (subst (λ (us : List Val). ent 𝓤 (Run (w ∷
    [])) (Run us)) (sym ((λ i. ws i ++ []) ∙ ap (λ p. word p h ∷ []) e)) (id⊢ 𝓤 (Run (w ∷ [])))) $
    enter ! 𝓣.C 𝓣.Λ fn (w ∷ []) Post $ alloc_all ! (λ l. pass_all ! refl (typed, tt) $
    sets ! (of_opd ! (get_in ! (fld ! refl (stop !)) (sub ! 0 refl (whole !)))) refl (tt, tt) $
    sets ! (of_opd ! (get_in ! (fld ! refl (stop !)) (sub ! 1 refl (whole !)))) refl fits $
    sets ! (of_opd ! (get ! refl)) refl (tt, tt) $
    sets ! (agg ! (and_then ! (get ! refl) (and_then ! (get ! refl) (no_more !)))) refl typed $
    returns ! (look_at ! 0 refl) $ free_all ! refl $ raw_box_in R Z the_row_laws g ! b o h d.alloc s.0 $
    use0 𝓛 (raw (fact 𝓤 (Some s.0 ≡ d.state))) (fact_i 𝓤 (Some s.0 ≡ d.state) (emp 𝓤) (sym s.1)) $ nothing ! $
    nothing ! $ fjoin ! $
    keep ! (4 ∷ 0 ∷ 2 ∷ 1 ∷ []) $
    by ! (leaves 𝓛 En hs c z w (record { at = block_ptr b o; alloc = d.alloc; value = s.0 }) (tt, tt) (
      tt,
      tt,
    )))))))
