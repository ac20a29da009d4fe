-- A struct of an address and an allocator's handle, as the machine stores it. A box, a `RawBox` and a pair of both are such structs.
--     words p h            the machine value of the address p beside the handle's value h
--     address, fits        an address has its type, and so has `words p h` where h has its own
--     Pair                 such a struct, at a handle's type Z that is known by its laws alone
--     alone                what a handle owns is owned at one machine value, of its type
--     opened, closed       a `Pair` is taken apart into what its handle owns, and is made again
-- The address is never followed here, so it need not lie in a block. Assumes `Logic`.
use Rattle.std.proofs.Common.{◌≡◌, List, [], ◌∷◌, ◌++◌, refl, ◌∙◌, lit<}
use seplogic.Ra.Ura.{Ura}
use mir.Syntax.{Ty, ty_ptr, ty_struct}
use mir.Val.{Val, vstruct, of_list}
use types.Logic.{Logic}
use types.Kit.{Item, Goal, Seq, Step, step, ‵, ◌$◌, move, drop, fsplit, fjoin, fpick, fpack, feq_i, feq_l, rewrite}
use denote.RattleType.{RattleType, Valss}
use denote.Laws.{Is, shows}
use denote.RawPtr.{Ptr, RawPtr, block_ptr, null_ptr, ptr_val, rawptr_vals}
use denote.Steps.{nothing, peeks}
use denote.Param.{layout, param}
use denote.Param.Laws.{Laws, param_laws}
use denote.Struct.Struct.{Struct, within, as_fields, to_tys}
use Rattle.core.proofs.cell.Inside.{Good, one}

abbrev pub words : Ptr → Val → Val
words p h = vstruct (of_list (ptr_val p ∷ h ∷ []))

pub address : (p : Ptr) → Good ty_ptr (ptr_val p)
address (block_ptr b o) = (tt, tt)
address null_ptr = (tt, record { fits = lit< tt })

-- of a struct's name, a value's type asks nothing
pub fits : (τ : Ty) (p : Ptr) (h : Val) → Good τ h → Good (ty_struct [] (to_tys (ty_ptr ∷ τ ∷ []))) (words p h)
fits τ p h good = as_fields (ty_ptr ∷ τ ∷ []) (ptr_val p ∷ h ∷ []) (address p, (good, tt))

module _ (Z : RattleType) (L : Laws Z) where
  abbrev pub Pair : RattleType
  Pair = Struct (record { name = []; args = []; types = []; fields = RawPtr ∷ Z ∷ [] })

  module _ {M : Type 1} {𝓤 : Ura M} {𝓛 : Logic 𝓤} {K : Type 0} {Γ : List (Item 𝓤)} {G : Goal 𝓤 𝓛.H} where
    alone : K → (a : Z.Denot) (vs : List Val) → ((h : Val) → vs ≡ h ∷ [] → Good (layout Z) h → Seq K 𝓛 (‵ (Z.own_val a (h ∷ [])) ∷ Γ) G) → Seq K 𝓛 (‵ (Z.own_val a vs) ∷ Γ) G
    alone t a vs next =
        peeks t (param 0 Z) (Is (param 0 Z)) (shows 𝓛 (param 0 Z)) a vs (λ is.
        let h = one (layout Z) vs (((param_laws 0 Z L).lawful 𝓛).typed a vs is) in
        rewrite t 0 (λ (us : List Val). ‵ (Z.own_val a us)) h.1 refl $ next h.0 h.1 h.2)

    pub opened : K → (p : Ptr) (a : Z.Denot) (vs : List Val)
        → ((h : Val) → vs ≡ words p h ∷ [] → Good (layout Z) h → Seq K 𝓛 (‵ (Z.own_val a (h ∷ [])) ∷ Γ) G)
        → Seq K 𝓛 (‵ (Pair.own_val (p, (a, tt)) vs) ∷ Γ) G
    opened t p a vs next =
        fpick t (λ parts. fsplit t $ feq_l t (λ whole. fsplit t $ feq_l t (λ first. fsplit t $ move t (1 ∷ []) $ drop t $
        alone t a parts.1.0 (λ h second good.
        next h (whole ∙ (λ i. vstruct (of_list (first i ++ (second i ++ []))) ∷ [])) good))))

    pub closed : K → (p : Ptr) (a : Z.Denot) (h : Val) → Step K 𝓛 (‵ (Pair.own_val (p, (a, tt)) (words p h ∷ [])) ∷ Γ) G (‵ (Z.own_val a (h ∷ [])) ∷ Γ) G
    closed t p a h = step (λ rest.
        nothing t $ move t (1 ∷ 0 ∷ []) $ fjoin t $
        feq_i t (List Val) (ptr_val p ∷ []) (rawptr_vals p) refl $ fjoin t $
        feq_i t (List Val) (words p h ∷ []) (words p h ∷ []) refl $ fjoin t $
        fpack t (Valss (RawPtr ∷ Z ∷ [])) (within (record { name = []; args = []; types = []; fields = RawPtr ∷ Z ∷ [] }) (p, (a, tt)) (words p h ∷ [])) (rawptr_vals p, (h ∷ [], tt)) $ rest)
