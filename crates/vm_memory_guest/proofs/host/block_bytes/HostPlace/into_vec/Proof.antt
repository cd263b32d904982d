-- `into_vec` makes a list of the bytes of a place, which frees nothing. Assumes `Logic`.
use Rattle.std.proofs.Common.{◌≡◌, ℕ, ◌<◌, ◌^◌, List, [], ◌∷◌, ◌++◌, length, refl, sym, ap, subst, w64, Vec}
use base.Fraction.{full_share}
use lib.Dec.{T}
use mir.Val.{Val, vptr, vint, vstruct, of_list, has_ty, WT}
use base.Fml.{ftrue, fsep, feq}
use base.Logic.{SProp, ent, emp, id⊢}
use contract.Monad.{fact, fact_i}
use contract.Running.{tables}
use prog.Wp.{WpFn}
use types.Kit.{some, later, given, await, learn, pick, ‵, raw, ◌⊛◌, at_ret, ◌$◌, ◌∵◌, !, qed, by, move, keep, drop, use0, use1, split, suffices, rewrite, fsplit, fjoin, fpick, feq_i, feq_l, flt_l}
use types.Part.{whole, sub}
use types.Run.{stop, fld, of_opd, no_more, and_then, first, blocks, exec, returns, enter}
use types.ByLocal.{lands_last, alloc_all, pass_all, free_all, look_at, get, get_in, sets, env}
use denote.Array.{Array}
use denote.Builtin.{u8}
use denote.Param.{layout}
use denote.RattleType.{RattleType, owns}
use denote.RawPtr.{Ptr, block_ptr, ptr_val, lies_at, in_a_block}
use denote.RawPtr.Bytes.{bytes, bytes_apart, bytes_whole}
use denote.Triple.Call.{calls_at_last}
use Rattle.core.proofs.atomic.Steps.{fm}
use Rattle.std_alloc.proofs.vec.lodge.Met.{met}
use Rattle.std_alloc.specs.declared.vec.lodged.Lodged.{Lodged}
use Rattle.vm_memory_guest.proofs.Lodging.{run_owns, byte_laws, at_lodge, Lodges, lodge_goes, lodge_gives, IsLodged, Housed, housed-laws}
use denote.Signature.{types_at, plain}
use denote.Steps.{nothing, only}
use denote.Triple.Entry.{alive}
use denote.Triple.Walked.{Stays, stay_dropped, walk_of}
use mir.Syntax.{impl, tnil, dnil}
use Rattle.core.proofs.cell.Inside.{Good}
use Rattle.core.proofs.alloc.Calls.{Al, Goes-blank, handle_tells}
use Rattle.std.proofs.raw_atomic.Walks.{proved_at, leaves}
use Rattle.vm_memory_guest.specs.contracts.host.block_bytes.HostPlace as place
use Rattle.vm_memory_guest.specs.contracts.host.block_bytes.HostPlace.into_vec.{ended, clauses}
use Rattle.vm_memory_guest.specs.contracts.host.block_bytes.HostPlace.into_vec.Key.{name as #self}
use Rattle.vm_memory_guest.proofs.host.block_bytes.HostPlace.into_vec.Statement.{statement}
use Rattle.vm_memory_guest.proofs.host.block_bytes.HostPlace.into_vec.Code as code

abbrev Place : RattleType
Place = place.the_row

abbrev al : Al
al = record { row = Housed; laws = housed-laws; g = record { dealloc_token = λ a τ p. ftrue }; d = impl [] tnil dnil; drops = impl [] tnil dnil }

pub into_vec_spec : {M : Type 1} → statement M
into_vec_spec 𝓤 𝓛 𝓜 𝓡 wired =
    let H = 𝓛.H in let 𝓣 = tables 𝓤 H 𝓜 𝓡 𝓡.env in
    let En = ended in let c = clauses 𝓛 𝓜.mem 𝓡.returns in let fn = code.function in
    let hs : Stays En.signature.params En.kept = (stay_dropped (plain (λ _. Place)) En.kept.0, tt) in
    proved_at 𝓛 En hs c 𝓜 𝓡 (Goes-blank 𝓛 0 (plain (λ _. Place)) En.kept.0 (λ κs x f. tt), tt) #self fn
    (code.unfolded 𝓤 H 𝓜 𝓡 wired) (λ z are.
    let d = z.0.3.0 in let xs = d.bytes in
    let Gives : Vec ℕ Lodged → Type 0 = λ r. (r.items ≡ xs) × (0 < length r.items) × (length r.items < 2 ^ 63) in let Post : Val → SProp 𝓤 = (walk_of 𝓛 En hs c).post z in
    let Run : List Val → SProp 𝓤 = λ ws. WpFn 𝓤 H 𝓣.C 𝓣.Λ fn ws Post in
    qed 𝓛 ((raw (alive 𝓛 En.signature z.0.0 z.0.1) ⊛ ‵ (owns (types_at En.signature.params z.0.0) z.0.3 z.0.4)) ∷
    ‵ ftrue ∷ []) ∵
    move ! (1 ∷ []) $ drop ! $ split ! $ move ! (1 ∷ []) $ fsplit ! $
    -- [the place; nothing; the token]
    fsplit ! $ fpick ! (λ vss. fsplit ! $ feq_l ! (λ ev. fsplit ! $ feq_l ! (λ ep. fsplit ! $
    fsplit ! $ feq_l ! (λ en. flt_l ! (λ fits. drop ! $
    in_a_block ! d.at (λ p. lies_at (Array u8 d.len) full_share p xs) (id⊢ 𝓤 _) (λ b o e.
    let w : Val = vstruct (of_list (vptr b o ∷ vint w64 d.len ∷ [])) in
    let typed : T (has_ty (layout Place) w) × WT w = (tt, (tt, (record { fits = fits }, tt))) in
    let spelt : z.0.4.0 ≡ w ∷ [] = subst (λ (p : Ptr). z.0.4.0 ≡ vstruct (of_list (ptr_val p ∷ vint w64 d.len ∷ [])) ∷ []) e
    (subst (λ (ns : List Val). z.0.4.0 ≡ vstruct (of_list (ptr_val d.at ∷ (ns ++ []))) ∷ []) en
    (subst (λ (ps : List Val). z.0.4.0 ≡ vstruct (of_list (ps ++ (vss.1.0 ++ []))) ∷ []) ep ev)) in
    suffices ! (Run (w ∷ [])) (subst (λ (us : List Val). ent 𝓤 (Run (w ∷ [])) (Run us)) (sym (λ i. spelt i ++ []))
    (id⊢ 𝓤 (Run (w ∷ [])))) $
    enter ! 𝓣.C 𝓣.Λ fn (w ∷ []) Post $ alloc_all ! (λ l. pass_all ! refl (typed, tt) $
    -- [the bytes; nothing; the token; the locals]
    sets ! (of_opd ! (get_in ! (fld ! refl (stop !)) (sub ! 0 refl (whole !)))) refl (tt, tt) $
    sets ! (of_opd ! (get_in ! (fld ! refl (stop !)) (sub ! 1 refl (whole !)))) refl (tt, record { fits = fits }) $
    use1 𝓛 (‵ (fsep (feq ℕ (length xs) d.len) (bytes full_share xs b o))) (bytes_apart 𝓛 full_share d.len xs b o) $
    fsplit ! $ feq_l ! (λ el. feq_i ! ℕ (length xs) (length xs) refl $ fjoin ! $
    use1 𝓛 (‵ (run_owns (block_ptr b o) xs)) (bytes_whole 𝓛 full_share (length xs) xs b o) $
    let y = at_lodge 𝓛 𝓜.mem 𝓡.returns b o d.len xs in
    use1 𝓛 (raw ((Lodges 𝓛 𝓜.mem 𝓡.returns).pre y)) (lodge_goes 𝓛 𝓜.mem 𝓡.returns b o d.len xs el d.some d.small) $
    first ! $ blocks ! $
    calls_at_last ! (fm 𝓛 𝓜 𝓡) (Lodges 𝓛 𝓜.mem 𝓡.returns) (met 𝓤 𝓛 𝓜 𝓡 (code.calls-std_alloc::vec::lodge 𝓡.env wired) u8 byte_laws) y
    (and_then ! (get ! refl) (and_then ! (get ! refl) (and_then ! (get ! refl) (no_more !)))) (λ v.
    use1 𝓛 (later (some (λ (r : Vec ℕ Lodged). given (IsLodged 𝓛 𝓜.mem 𝓡.returns b o d.len xs r) (‵ (Housed.own_val r (v ∷ []))))))
    (lodge_gives 𝓛 𝓜.mem 𝓡.returns b o d.len xs v) $ await ! tt $ pick ! (λ r. learn ! (λ is. handle_tells al ! r (v ∷ []) (λ u same good.
    let fine : Good (layout Housed) v = subst (Good (layout Housed)) (sym (ap only same)) good in
    rewrite ! 0 (λ w. ‵ (Housed.own_val r (w ∷ []))) (sym (ap only same)) refl $ lands_last ! refl fine $
    exec ! 𝓣.C 𝓣.Λ (env fn.locals l) code.Mir.t-4 (at_ret _ Post) $ sets ! (of_opd ! (get ! refl)) refl fine $
    -- [the list; nothing; the token; the locals]
    returns ! (look_at ! 0 refl) $ free_all ! refl $
    use0 𝓛 (raw (fact 𝓤 (Gives r))) (fact_i 𝓤 (Gives r) (emp 𝓤) (is.0, rw (ap length is.0, el) d.some, rw (ap length is.0, el) d.small)) $ nothing ! $ nothing ! $ fjoin ! $
    keep ! (4 ∷ 0 ∷ 2 ∷ 1 ∷ []) $
    by ! (leaves 𝓛 En hs c z v r (tt, tt) (tt, tt)))))))))))))))
