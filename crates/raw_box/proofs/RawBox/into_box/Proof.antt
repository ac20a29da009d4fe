-- `into_box` hands its address and its handle to `from_raw`, with what it owns behind the address.
use Rattle.std.proofs.Common.{◌≡◌, List, [], ◌∷◌, ◌++◌, refl}
use seplogic.Ra.Ura.{Ura}
use mir.Syntax.{Dict}
use mir.MapTy.{inst_fn}
use mir.Val.{Val}
use base.Logic.{SProp, id⊢}
use base.Fml.{ftrue}
use contract.BorrowLft.{◌⊑◌}
use contract.Monad.{fact}
use contract.Running.{Running, tables}
use prog.Model.{Model}
use prog.Wp.{WpFn}
use types.Logic.{Logic}
use types.Kit.{Item, Goal, Soaks, Seq, Sq, Step, step, ‵, raw, ◌⊛◌, some, later, prop, at_ret, ◌$◌, ◌∵◌, !, qed, done, move, drop, use1, split, split3, join, fsplit, fjoin, pick, await, feq_i, regoal, suffices, group}
use types.Run.{stop, fld, of_opd, no_more, and_then, first, blocks, exec, returns, enter}
use types.ByLocal.{alloc_all, pass_all, free_all, look_at, get, get_in, sets, lands_last, env}
use types.Part.{sub, whole}
use denote.Exit.{no}
use denote.Laws.{Is, shows}
use denote.RattleType.{RattleType, owns}
use denote.RawPtr.{Ptr, rawptr_vals}
use denote.Signature.{plain}
use denote.Steps.{nothing, heard, peeks}
use denote.Param.{layout}
use denote.Param.Laws.{Laws, param_laws}
use denote.Triple.Call.{calls_at_last}
use denote.Triple.Clauses.{Clauses, Ended, Lasts, lasts}
use denote.Triple.Spec.{triple_of}
use denote.Triple.Statement.{Contract}
use denote.Triple.Table.{framed}
use denote.Triple.Walked.{Stays, stay_dropped, walk_of, says, ends_at}
use Rattle.core.specs.declared.alloc.Allocator.{Ghosts}
use Rattle.core.proofs.alloc.Calls.{Goes-blank}
use Rattle.core.proofs.alloc.Shapes.{after}
use Rattle.core.proofs.cell.Inside.{Good}
use Rattle.std.proofs.raw_atomic.Walks.{proved_at}
use Rattle.std_alloc.specs.Box.Ownership.{box_owns}
use Rattle.std_alloc.specs.contracts.boxed.Box.from_raw as together
use Rattle.std_alloc.proofs.boxed.Box.from_raw.Met.{met}
use Rattle.raw_box.proofs.Words.{address, fits}
use Rattle.raw_box.proofs.Setting.{Value, Handle, Whole, Taken, passed, tokens, whole_typed, taken_out}
use Rattle.raw_box.specs.contracts.RawBox.into_box as f
use Rattle.raw_box.proofs.RawBox.into_box.Statement.{statement}
use Rattle.raw_box.proofs.RawBox.into_box.Code as code

module _ (T A : RattleType) (g : Ghosts A.Denot) (d dx dd : Dict) where
  abbrev ended : Ended
  ended = f.ended T A g d dx dd

  -- nothing is left of the `RawBox`
  abbrev stays : Stays ended.signature.params ended.kept
  stays = (stay_dropped (plain (λ _. Taken (Value T) (Handle A) g)) no, tt)

module _ {M : Type 1} {𝓤 : Ura M} (𝓛 : Logic 𝓤) (𝓜 : Model 𝓤 𝓛.H) (𝓡 : Running 𝓤 𝓛.H 𝓜)
    (T A : RattleType) (LA : Laws A) (g : Ghosts A.Denot) (d dx dd : Dict) where
  abbrev clauses : Clauses 𝓤 (ended T A g d dx dd)
  clauses = f.clauses T A g d dx dd 𝓛 𝓜.mem 𝓡.returns

  abbrev Ours : Contract 𝓤
  Ours = walk_of 𝓛 (ended T A g d dx dd) (stays T A g d dx dd) clauses

  abbrev Call : Contract 𝓤
  Call = triple_of 𝓛 (together.signature T A g d dd) (together.spec T A g d dd 𝓛 𝓜.mem 𝓡.returns)

  module _ (y : Ours.Ghost) where
    abbrev held : Item 𝓤
    held = tokens y.0.0 y.0.1

    -- both types outlive the call
    abbrev outlives : Item 𝓤
    outlives = raw (fact 𝓤 (y.0.0.0 ⊑ T.lives)) ⊛ raw (fact 𝓤 (y.0.0.1.0 ⊑ A.lives)) ⊛ ‵ ftrue

    abbrev at : Ptr
    at = y.0.3.0.at

    abbrev allocator : A.Denot
    allocator = y.0.3.0.alloc

    abbrev value : T.Denot
    value = y.0.3.0.value

    abbrev owned : Item 𝓤
    owned = ‵ (box_owns (g.dealloc_token allocator) (Value T) at value)

    -- the call is handed the handle, then the address
    abbrev handing : Val → Call.Ghost
    handing h = ((y.0.0, y.0.1, tt, (allocator, (at, tt)), (h ∷ [], (rawptr_vals at, tt))), value)

    -- the call's post, as it stands in the callee's contract
    abbrev given_back : Val → Val → Item 𝓤
    given_back h u =
        let E = together.ended T A g d dd in let args = (handing h).0.3 in
        later (some (λ (r : (Whole T A g).Denot). (held ⊛ ‵ ((Whole T A g).own_val r (u ∷ []))) ⊛
        some (λ (ls : Lasts E y.0.0 args). ‵ (lasts E y.0.0 args ls) ⊛ (raw (fact 𝓤 (r.value ≡ value)) ⊛ raw (fact 𝓤 (r.alloc ≡ allocator))))))

    module _ {K : Type 0} {Γ : List (Item 𝓤)} {G : Goal 𝓤 𝓛.H} where
      -- what the call asks is what we own, with the tokens
      hands_over : K → (h : Val)
          → Step K 𝓛 (raw (Call.pre (handing h)) ∷ Γ) G (‵ (A.own_val allocator (h ∷ [])) ∷ owned ∷ held ∷ outlives ∷ Γ) G
      hands_over t h = step (λ rest.
          move t (3 ∷ []) $ split3 t $ move t (2 ∷ []) $ drop t $
          -- [the two bounds; the handle; the value; the tokens]
          move t (0 ∷ 1 ∷ 3 ∷ []) $ group t 3 $
          nothing t $ feq_i t (List Val) (rawptr_vals at) (rawptr_vals at) refl $ fjoin t $ move t (2 ∷ 0 ∷ []) $ fjoin t $
          -- [the parameters; what is required; the tokens]
          move t (2 ∷ 0 ∷ []) $ join t $ join t $ use1 𝓛 (raw (Call.pre (handing h))) (id⊢ 𝓤 _) $ rest)

      -- the call gives a box of our value, which is one machine value
      comes_together : K → Soaks G → (h u : Val)
          → ((r : (Whole T A g).Denot) → r.value ≡ value → Good (layout (Whole T A g)) u
          → Seq K 𝓛 (‵ ((Whole T A g).own_val r (u ∷ [])) ∷ held ∷ Γ) G)
          → Seq K 𝓛 (raw (Call.post (handing h) u) ∷ Γ) G
      comes_together t soaks h u next =
          use1 𝓛 (given_back h u) (id⊢ 𝓤 _) $ await t soaks $ pick t (λ r. split t $ split t $
          -- [the tokens; the box; what the contract says]
          move t (2 ∷ []) $ pick t (λ ls. split t $ drop t $ split t $ heard t (r.value ≡ value) (λ same. drop t $ move t (1 ∷ []) $
          peeks t (Whole T A g) (Is (Whole T A g)) (shows 𝓛 (Whole T A g)) r (u ∷ []) (λ is. next r same (whole_typed T A 𝓛 LA g r (u ∷ []) is).0))))

    -- a box of our value is the one that is promised
    ends : (u : Val) (r : (Whole T A g).Denot) → r.value ≡ value → Sq 𝓛 (‵ ((Whole T A g).own_val r (u ∷ [])) ∷ held ∷ []) (prop (Ours.post y u))
    ends u r same =
        suffices ! _ (ends_at 𝓛 (ended T A g d dx dd) (stays T A g d dx dd) clauses y u r ((tt, (tt, tt)), tt) (tt, tt)) $ says ! same $
        nothing ! $ nothing ! $ join ! $ move ! (2 ∷ 0 ∷ 1 ∷ []) $ group ! 3 $ done !

pub into_box_spec : {M : Type 1} → statement M
into_box_spec 𝓤 𝓛 𝓜 𝓡 wired T A L LA g d dx dd allocator glue glued =
    let 𝓣 = tables 𝓤 𝓛.H 𝓜 𝓡 𝓡.env in
    let E = ended T A g d dx dd in
    let S = stays T A g d dx dd in
    let c = clauses 𝓛 𝓜 𝓡 T A LA g d dx dd in
    let fn = inst_fn (passed T A d dx dd) code.function in
    let raw_row = Taken (Value T) (Handle A) g in
    proved_at 𝓛 E S c 𝓜 𝓡 (Goes-blank 𝓛 2 (plain (λ _. raw_row)) no (λ κs x w. tt), tt) (f.Key.name (passed T A d dx dd)) fn
    (code.unfolded 𝓤 𝓛.H 𝓜 𝓡 wired (T, (A, tt)) d dx dd) (λ y are.
    let v = y.0.3.0 in let vs = y.0.4.0 in
    let k = Call 𝓛 𝓜 𝓡 T A LA g d dx dd in
    let Post : Val → SProp 𝓤 = (Ours 𝓛 𝓜 𝓡 T A LA g d dx dd).post y in
    qed 𝓛 ((held 𝓛 𝓜 𝓡 T A LA g d dx dd y ⊛ ‵ (owns (raw_row ∷ []) y.0.3 y.0.4)) ∷ outlives 𝓛 𝓜 𝓡 T A LA g d dx dd y ∷ []) ∵
    split ! $ move ! (1 ∷ []) $ fsplit ! $ move ! (1 ∷ []) $ drop ! $
    taken_out (Value T) (Handle A) (param_laws 1 A LA) g ! v vs (λ h is good.
    hands_over 𝓛 𝓜 𝓡 T A LA g d dx dd y ! h $
    regoal ! (λ (us : List Val). prop (WpFn 𝓤 𝓛.H 𝓣.C 𝓣.Λ fn (us ++ []) Post)) is refl $
    enter ! _ _ _ _ _ $ alloc_all ! (λ l. pass_all ! refl (fits (layout A) v.at h good, tt) $
    sets ! (of_opd ! (get_in ! (fld ! refl (stop !)) (sub ! 0 refl (whole !)))) refl (address v.at) $
    sets ! (of_opd ! (get_in ! (fld ! refl (stop !)) (sub ! 1 refl (whole !)))) refl good $
    first ! $ blocks ! $ sets ! (of_opd ! (get ! refl)) refl good $
    calls_at_last ! (framed 𝓤 𝓛.H 𝓜 𝓣) k
    (met 𝓤 𝓛 𝓜 𝓡 (code.calls-std_alloc::boxed::Box::from_raw 𝓡.env wired) T A L LA g d dd allocator glued)
    (handing 𝓛 𝓜 𝓡 T A LA g d dx dd y h) (and_then ! (get ! refl) (and_then ! (get ! refl) (no_more !))) (λ u.
    comes_together 𝓛 𝓜 𝓡 T A LA g d dx dd y ! tt h u (λ r same made.
    -- [the box; the tokens; the locals]
    lands_last ! refl made $
    exec ! 𝓣.C 𝓣.Λ (env fn.locals l) (after 3 fn.body) (at_ret _ Post) $
    sets ! (of_opd ! (get ! refl)) refl made $
    returns ! (look_at ! 0 refl) $ free_all ! refl $ ends 𝓛 𝓜 𝓡 T A LA g d dx dd y u r same)))))
