-- `into_raw_box` gives the pointer back, with the allocator that it is handed.
use Rattle.std.proofs.Common.{◌≡◌, List, [], ◌∷◌, ◌++◌, refl, sym, subst, Some}
use Rattle.std.specs.Prelude.{IsSome}
use mir.Syntax.{impl, tnil, dnil}
use mir.Val.{Val}
use base.Logic.{SProp, ent, emp, id⊢}
use base.Fml.{ftrue}
use prog.Wp.{WpFn}
use types.Kit.{‵, raw, ◌⊛◌, ◌$◌, ◌∵◌, !, qed, by, move, keep, split, fsplit, fjoin, suffices, use0}
use types.Run.{stop, fld, of_opd, no_more, and_then, returns, enter}
use types.ByLocal.{alloc_all, pass_all, free_all, look_at, get, get_in, sets}
use types.Part.{agg, sub, whole}
use contract.Monad.{fact, fact_i}
use contract.Running.{tables}
use denote.Exit.{yes}
use denote.RattleType.{RattleType, owns}
use denote.Signature.{types_at, plain}
use denote.RawPtr.{Ptr, block_ptr}
use denote.Param.{layout}
use denote.Steps.{nothing, heard}
use denote.Triple.Walked.{Stays, stay_dropped, walk_of, Goes-dropped}
use Rattle.core.proofs.alloc.Calls.{Al, handle_tells}
use Rattle.std.proofs.raw_atomic.Walks.{proved_at, leaves}
use Rattle.std.specs.contracts.alloc.Global as heap
use Rattle.std.proofs.alloc.Global.TheLaws as heap_laws
use Rattle.std.specs.contracts.impls.GlobalAllocator.TheImpl.{ghosts}
use Rattle.raw_box.proofs.Words.{words, fits}
use Rattle.raw_box.proofs.Setting.{taken_in}
use Rattle.onu_cell.proofs.Values.{lone, handle_out, some_out}
use Rattle.onu_unit.specs.contracts.unit.Unit as unit
use Rattle.onu_cell.specs.contracts.handle.Handle as handle
use Rattle.onu_cell.specs.contracts.handle.Handle.into_raw_box as f
use Rattle.onu_cell.proofs.handle.Handle.into_raw_box.Statement.{statement}
use Rattle.onu_cell.proofs.handle.Handle.into_raw_box.Code as code

abbrev al : Al
al = record { row = heap.the_row; laws = heap_laws.the_row_laws; g = ghosts; d = impl [] tnil dnil; drops = impl [] tnil dnil }

pub into_raw_box_spec : {M : Type 1} → statement M
into_raw_box_spec 𝓤 𝓛 𝓜 𝓡 wired =
    let H = 𝓛.H in let 𝓣 = tables 𝓤 H 𝓜 𝓡 𝓡.env in let R : RattleType = unit.the_row in let Z : RattleType = heap.the_row in let LZ = heap_laws.the_row_laws in
    let En = f.ended in let c = f.clauses 𝓛 𝓜.mem 𝓡.returns in let fn = code.function in
    let hs : Stays En.signature.params En.kept = (stay_dropped (plain (λ _. handle.the_row)) yes, (stay_dropped (plain (λ _. Z)) yes, tt)) in
    proved_at 𝓛 En hs c 𝓜 𝓡 (Goes-dropped 𝓛 0 (plain (λ _. handle.the_row)) yes (λ κs x f. refl), (Goes-dropped 𝓛 0 (plain (λ _. Z)) yes (λ κs x f. refl), tt))
    f.Key.name fn (code.unfolded 𝓤 H 𝓜 𝓡 wired) (λ z are.
    let κs = z.0.0 in let d = z.0.3.0 in let a = z.0.3.1.0 in let Post : Val → SProp 𝓤 = (walk_of 𝓛 En hs c).post z in let Run : List Val → SProp 𝓤 = λ ws. WpFn 𝓤 H 𝓣.C 𝓣.Λ fn ws Post in
    qed 𝓛 ((‵ ftrue ⊛ ‵ (owns (types_at En.signature.params κs) z.0.3 z.0.4)) ∷ raw (fact 𝓤 (IsSome d.held)) ∷ []) ∵ move ! (1 ∷ []) $ heard ! (IsSome d.held) (λ is.
    split ! $ move ! (1 ∷ []) $ fsplit ! $ handle_out ! d.at d.held z.0.4.0 (λ ws. some_out ! d.at d.held is (λ x b o held at.
    move ! (1 ∷ []) $ fsplit ! $ handle_tells al ! a z.0.4.1.0 (λ h us good. move ! (0 ∷ 2 ∷ []) $
    -- [the allocator; the box; no more parameters; the tokens]
    let p : Val = lone (block_ptr b o) in let made = fits (layout Z) (block_ptr b o) h good in
    let is_p : z.0.4.0 ≡ p ∷ [] = subst (λ (q : Ptr). z.0.4.0 ≡ lone q ∷ []) at ws in
    suffices ! (Run (p ∷ h ∷ [])) (subst (λ (ps : List Val). ent 𝓤 (Run (p ∷ h ∷ [])) (Run ps)) (sym (λ i. is_p i ++ (us i ++ []))) (id⊢ 𝓤 (Run (p ∷ h ∷ [])))) $
    enter ! 𝓣.C 𝓣.Λ fn (p ∷ h ∷ []) Post $ alloc_all ! (λ l. pass_all ! refl ((tt, (tt, tt)), (good, tt)) $
    sets ! (of_opd ! (get_in ! (fld ! refl (stop !)) (sub ! 0 refl (whole !)))) refl (tt, tt) $
    sets ! (agg ! (and_then ! (get ! refl) (and_then ! (get ! refl) (no_more !)))) refl made $
    taken_in R Z LZ ghosts ! (block_ptr b o) h a x $
    use0 𝓛 (raw (fact 𝓤 (d.held ≡ Some x))) (fact_i 𝓤 (d.held ≡ Some x) (emp 𝓤) held) $ nothing ! $ nothing ! $ fjoin ! $ nothing ! $ fjoin ! $
    returns ! (look_at ! 0 refl) $ free_all ! refl $ keep ! (4 ∷ 0 ∷ 2 ∷ 1 ∷ []) $
    by ! (leaves 𝓛 En hs c z (words (block_ptr b o) h) (record { at = block_ptr b o; alloc = a; value = x }) (tt, (tt, tt)) (tt, (tt, tt)))))))))
