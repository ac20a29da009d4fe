-- `of` asks of its box what `into_raw_with_allocator` asks, and makes a `RawBox` of the pair that this gives.
use Rattle.std.proofs.Common.{◌≡◌, List, [], ◌∷◌, ◌++◌, refl, ap}
use seplogic.Ra.Ura.{Ura}
use mir.Syntax.{Dict}
use mir.MapTy.{inst_fn}
use mir.Val.{Val}
use base.Logic.{SProp, id⊢}
use contract.Monad.{fact}
use contract.Running.{Running, tables}
use prog.Model.{Model}
use prog.Wp.{WpFn}
use types.Logic.{Logic}
use types.Kit.{Item, Goal, Soaks, Seq, Sq, ‵, raw, ◌⊛◌, some, later, prop, ◌$◌, ◌∵◌, !, qed, done, move, drop, use1, split, join, pick, await, rewrite, regoal, suffices, group}
use types.Run.{stop, fld, of_opd, no_more, and_then, returns, enter}
use types.ByLocal.{alloc_all, pass_all, free_all, look_at, get, get_in, sets, lands_as}
use types.Part.{agg, sub, whole}
use denote.Exit.{no}
use denote.RattleType.{RattleType}
use denote.RawPtr.{Ptr, RawPtr}
use denote.Signature.{plain}
use denote.Steps.{nothing, heard, only}
use denote.Param.{layout}
use denote.Param.Laws.{Laws, param_laws}
use denote.Struct.Tuple.{Tuple}
use denote.Triple.Call.{calls_at}
use denote.Triple.Clauses.{Clauses, Ended, Lasts, lasts}
use denote.Triple.Spec.{triple_of}
use denote.Triple.Statement.{Contract}
use denote.Triple.Table.{framed}
use denote.Triple.Walked.{Stays, stay_dropped, walk_of, says, ends_at}
use Rattle.core.specs.declared.alloc.Allocator.{Ghosts}
use Rattle.core.proofs.alloc.Calls.{Goes-blank}
use Rattle.core.proofs.cell.Inside.{Good, one}
use Rattle.std.proofs.raw_atomic.Walks.{proved_at}
use Rattle.std_alloc.specs.Box.Ownership.{box_owns}
use Rattle.std_alloc.specs.contracts.boxed.Box.into_raw_with_allocator as apart
use Rattle.std_alloc.proofs.boxed.Box.into_raw_with_allocator.Met.{met}
use Rattle.raw_box.proofs.Words.{words, address, fits, opened}
use Rattle.raw_box.proofs.Setting.{Value, Handle, Whole, passed, tokens, whole_typed, taken_in}
use Rattle.raw_box.specs.contracts.RawBox.of as f
use Rattle.raw_box.proofs.RawBox.of.Statement.{statement}
use Rattle.raw_box.proofs.RawBox.of.Code as code

module _ (T A : RattleType) (g : Ghosts A.Denot) (d dx dd : Dict) where
  abbrev ended : Ended
  ended = f.ended T A g d dx dd

  -- nothing is left of the box
  abbrev stays : Stays ended.signature.params ended.kept
  stays = (stay_dropped (plain (λ _. Whole T A g)) no, tt)

module _ {M : Type 1} {𝓤 : Ura M} (𝓛 : Logic 𝓤) (𝓜 : Model 𝓤 𝓛.H) (𝓡 : Running 𝓤 𝓛.H 𝓜)
    (T A : RattleType) (LA : Laws A) (g : Ghosts A.Denot) (d dx dd : Dict) where
  abbrev clauses : Clauses 𝓤 (ended T A g d dx dd)
  clauses = f.clauses T A g d dx dd 𝓛 𝓜.mem 𝓡.returns

  abbrev Ours : Contract 𝓤
  Ours = walk_of 𝓛 (ended T A g d dx dd) (stays T A g d dx dd) clauses

  abbrev Call : Contract 𝓤
  Call = triple_of 𝓛 (apart.signature T A g d dd dx) (apart.spec T A g d dd dx 𝓛 𝓜.mem 𝓡.returns)

  module _ (y : Ours.Ghost) where
    abbrev held : Item 𝓤
    held = tokens y.0.0 y.0.1

    -- the call is handed our own box, at its machine values
    abbrev handing : List Val → Call.Ghost
    handing vs = ((y.0.0, y.0.1, tt, (y.0.3.0, tt), (vs, tt)), tt)

    abbrev allocator : A.Denot
    allocator = y.0.3.0.alloc

    abbrev value : T.Denot
    value = y.0.3.0.value

    -- what is owned at an address once the box is apart
    abbrev owned_at : Ptr → Item 𝓤
    owned_at p = ‵ (box_owns (g.dealloc_token allocator) (Value T) p value)

    -- the call's post, as it stands in the callee's contract
    abbrev given_back : Val → Item 𝓤
    given_back u =
        let E = apart.ended T A g d dd dx in
        later (some (λ (r : Ptr × A.Denot). (held ⊛ ‵ ((Tuple (RawPtr ∷ Handle A ∷ [])).own_val r (u ∷ []))) ⊛
        some (λ (ls : Lasts E y.0.0 y.0.3). ‵ (lasts E y.0.0 y.0.3 ls) ⊛ (raw (fact 𝓤 (r.1 ≡ allocator)) ⊛ owned_at r.0))))

    -- the call gives an address beside our allocator's handle
    comes_apart : {K : Type 0} {Γ : List (Item 𝓤)} {G : Goal 𝓤 𝓛.H} → K → Soaks G → (vs : List Val) (u : Val)
        → ((p : Ptr) (h : Val) → u ≡ words p h → Good (layout A) h → Seq K 𝓛 (‵ (A.own_val allocator (h ∷ [])) ∷ owned_at p ∷ held ∷ Γ) G)
        → Seq K 𝓛 (raw (Call.post (handing vs) u) ∷ Γ) G
    comes_apart t soaks vs u next =
        use1 𝓛 (given_back u) (id⊢ 𝓤 _) $ await t soaks $ pick t (λ r. split t $ split t $
        -- [the tokens; the pair; what the contract says]
        move t (2 ∷ []) $ pick t (λ ls. split t $ drop t $ split t $ heard t (r.1 ≡ allocator) (λ same.
        -- [what is owned at the address; the tokens; the pair]
        move t (2 ∷ []) $ opened (Handle A) (param_laws 1 A LA) t r.0 r.1 (u ∷ []) (λ h is good.
        rewrite t 0 (λ (a : A.Denot). ‵ (A.own_val a (h ∷ []))) same refl $ next r.0 h (ap only is) good))))

    -- the address and the handle, as they come, are the `RawBox` that is promised
    ends : (p : Ptr) (h : Val) → Sq 𝓛 (‵ (A.own_val allocator (h ∷ [])) ∷ owned_at p ∷ held ∷ []) (prop (Ours.post y (words p h)))
    ends p h =
        taken_in (Value T) (Handle A) (param_laws 1 A LA) g ! p h allocator value $
        suffices ! _ (ends_at 𝓛 (ended T A g d dx dd) (stays T A g d dx dd) clauses y (words p h)
        (record { at = p; alloc = allocator; value = value }) ((tt, (tt, tt)), tt) (tt, tt)) $ says ! refl $
        nothing ! $ nothing ! $ join ! $ move ! (2 ∷ 0 ∷ 1 ∷ []) $ group ! 3 $ done !

pub of_spec : {M : Type 1} → statement M
of_spec 𝓤 𝓛 𝓜 𝓡 wired T A L LA g d dx dd allocator glue glued =
    let 𝓣 = tables 𝓤 𝓛.H 𝓜 𝓡 𝓡.env in
    let E = ended T A g d dx dd in
    let S = stays T A g d dx dd in
    let c = clauses 𝓛 𝓜 𝓡 T A LA g d dx dd in
    let fn = inst_fn (passed T A d dx dd) code.function in
    proved_at 𝓛 E S c 𝓜 𝓡 (Goes-blank 𝓛 2 (plain (λ _. Whole T A g)) no (λ κs x w. tt), tt) (f.Key.name (passed T A d dx dd)) fn
    (code.unfolded 𝓤 𝓛.H 𝓜 𝓡 wired (T, (A, tt)) d dx dd) (λ y are.
    let v = y.0.3.0 in let vs = y.0.4.0 in
    let box = one (layout (Whole T A g)) vs (whole_typed T A 𝓛 LA g v vs are.0) in
    let k = Call 𝓛 𝓜 𝓡 T A LA g d dx dd in
    let ask = handing 𝓛 𝓜 𝓡 T A LA g d dx dd y in
    let Post : Val → SProp 𝓤 = (Ours 𝓛 𝓜 𝓡 T A LA g d dx dd).post y in
    -- our own entry is the call's, once the box is the one machine value that it is
    qed 𝓛 (raw (k.pre (ask vs)) ∷ []) ∵
    rewrite ! 0 (λ (us : List Val). raw (k.pre (ask us))) box.1 refl $
    regoal ! (λ (us : List Val). prop (WpFn 𝓤 𝓛.H 𝓣.C 𝓣.Λ fn (us ++ []) Post)) box.1 refl $
    enter ! _ _ _ _ _ $ alloc_all ! (λ l. pass_all ! refl (box.2, tt) $
    sets ! (of_opd ! (get ! refl)) refl box.2 $
    calls_at ! (framed 𝓤 𝓛.H 𝓜 𝓣) k
    (met 𝓤 𝓛 𝓜 𝓡 (code.calls-std_alloc::boxed::Box::into_raw_with_allocator 𝓡.env wired) T A L LA g d dd dx allocator glued glue)
    (ask (box.0 ∷ [])) (and_then ! (get ! refl) (no_more !)) (λ u.
    comes_apart 𝓛 𝓜 𝓡 T A LA g d dx dd y ! tt (box.0 ∷ []) u (λ p h is good.
    -- [the handle; what is owned at the address; the tokens; the locals]
    lands_as ! is refl (fits (layout A) p h good) $
    sets ! (of_opd ! (get_in ! (fld ! refl (stop !)) (sub ! 0 refl (whole !)))) refl (address p) $
    sets ! (of_opd ! (get_in ! (fld ! refl (stop !)) (sub ! 1 refl (whole !)))) refl good $
    sets ! (of_opd ! (get ! refl)) refl good $
    sets ! (agg ! (and_then ! (get ! refl) (and_then ! (get ! refl) (no_more !)))) refl (fits (layout A) p h good) $
    returns ! (look_at ! 0 refl) $ free_all ! refl $ ends 𝓛 𝓜 𝓡 T A LA g d dx dd y p h))))
