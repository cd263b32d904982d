-- The machine values of the handle of a block device's connection. Assumes `Logic`.
use Rattle.std.proofs.Common.{◌≡◌, List, [], ◌∷◌, ◌++◌, Option, refl, subst}
use seplogic.Ra.Ura.{Ura}
use mir.Val.{Val, vstruct, of_list}
use types.Logic.{Logic}
use types.Kit.{Item, Goal, Seq, Step, step, ‵, ◌$◌, move, drop, fsplit, fjoin, fpick, fpack, feq_i, feq_l}
use denote.RattleType.{RattleType, Valss}
use denote.Builtin.{RawPtr}
use denote.Param.{layout}
use denote.RawPtr.{Ptr, ptr_val}
use denote.Steps.{nothing}
use denote.Struct.Struct.{within}
use denote.Struct.Owning.{shape}
use mir.Syntax.{impl, tnil, dnil}
use Rattle.core.proofs.alloc.Calls.{Al, handle_tells}
use Rattle.core.proofs.cell.Inside.{Good}
use Rattle.std.specs.contracts.alloc.Global
use Rattle.std.proofs.alloc.Global.TheLaws.{the_row_laws}
use Rattle.std.specs.contracts.impls.GlobalAllocator.TheImpl
use Rattle.vhost_backend.specs.declared.block_connection.BlockConnection.{BlockConnection}
use Rattle.vm_memory_c.specs.BlockHandle.{block_owns}
use Rattle.vm_memory_c.specs.contracts.block_handle.BlockHandle as block_handle

abbrev pub BlockHandle : RattleType
BlockHandle = block_handle.the_row

abbrev pub Z : RattleType
Z = Global.the_row

abbrev pub al : Al
al = record { row = Z; laws = the_row_laws; g = TheImpl.ghosts; d = impl [] tnil dnil; drops = impl [] tnil dnil }

abbrev pub word : Ptr → Val → Val
word p h = vstruct (of_list (ptr_val p ∷ h ∷ []))

module _ {M : Type 1} {𝓤 : Ura M} {𝓛 : Logic 𝓤} {K : Type 0} {Γ : List (Item 𝓤)} {G : Goal 𝓤 𝓛.H} where
  pub block_out : K → (d : BlockHandle.Denot) (vs : List Val)
      → ((h : Val) → vs ≡ word d.at h ∷ [] → Good (layout Z) h
      → Seq K 𝓛 (‵ (block_owns d.at d.state) ∷ ‵ (Z.own_val d.alloc (h ∷ [])) ∷ Γ) G)
      → Seq K 𝓛 (‵ (BlockHandle.own_val d vs) ∷ Γ) G
  block_out t d vs k =
      fsplit t $ fpick t (λ vss. fsplit t $ feq_l t (λ ev. fsplit t $ feq_l t (λ ep. fsplit t $
      handle_tells al t d.alloc vss.1.0 (λ h ea fits. move t (1 ∷ []) $ drop t $ move t (1 ∷ []) $ k h
      (subst (λ (ws : List Val). vs ≡ vstruct (of_list (ptr_val d.at ∷ (ws ++ []))) ∷ []) ea
      (subst (λ (ps : List Val). vs ≡ vstruct (of_list (ps ++ (vss.1.0 ++ []))) ∷ []) ep ev)) fits))))

  pub block_in : K → (p : Ptr) (h : Val) (a : Z.Denot) (x : Option BlockConnection)
      → Step K 𝓛 (‵ (BlockHandle.own_val (record { at = p; alloc = a; state = x }) (word p h ∷ [])) ∷ Γ) G
      (‵ (block_owns p x) ∷ ‵ (Z.own_val a (h ∷ [])) ∷ Γ) G
  block_in t p h a x = step (λ s. let v : Val = word p h in
      nothing t $ move t (2 ∷ 0 ∷ []) $ fjoin t $ feq_i t (List Val) (ptr_val p ∷ []) (ptr_val p ∷ []) refl $ fjoin t $
      feq_i t (List Val) (v ∷ []) (v ∷ []) refl $ fjoin t $
      fpack t (Valss (RawPtr ∷ Z ∷ [])) (within (shape block_handle.the_type) (p, (((tt, tt), tt), tt)) (v ∷
      [])) (ptr_val p ∷ [], (h ∷ [], tt)) $
      fjoin t $ s)
