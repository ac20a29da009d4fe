-- What both functions are about: a value's type T, an allocator's type A, and what a caller passes for both. Assumes `Logic`.
--     Value, Handle        the two types, as the code has them
--     Whole, Taken         a box, and a `RawBox`
--     passed               what the code is given for its type parameters
--     tokens               the tokens of the lifetimes of T and of A
--     whole_typed          a box is one machine value, of its type
--     taken_out, taken_in  what a `RawBox` owns: its handle, and the value with the right to free its block
use Rattle.std.proofs.Common.{◌≡◌, List, [], ◌∷◌}
use seplogic.Ra.Ura.{Ura}
use mir.Syntax.{Args, Dict, a_type, dcons, dnil}
use mir.Val.{Val}
use base.Fml.{flft, ftrue}
use contract.Lifetimes.{Lfts, Shares}
use types.Logic.{Logic}
use types.Kit.{Item, Goal, Seq, Step, step, ‵, ◌⊛◌, ◌$◌, fsplit, fjoin}
use denote.RattleType.{RattleType}
use denote.Laws.{Is, Typed}
use denote.RawPtr.{Ptr, rawptr_Lawful}
use denote.Param.{layout, bounded, param}
use denote.Param.Laws.{Laws, param_laws}
use denote.Struct.Owning.{shape}
use denote.Struct.Struct.{Struct-Lawful}
use Rattle.core.specs.declared.alloc.Allocator.{Ghosts}
use Rattle.core.proofs.cell.Inside.{Good}
use Rattle.std_alloc.specs.Box.Ownership.{box_owns}
use Rattle.std_alloc.specs.contracts.boxed.Box as boxed
use Rattle.raw_box.specs.contracts.RawBox as raw_box
use Rattle.raw_box.proofs.Words.{words, opened, closed}

abbrev pub Taken : (R Z : RattleType) → Ghosts Z.Denot → RattleType
Taken R Z g = raw_box.the_row R Z g

module _ (R Z : RattleType) (L : Laws Z) (g : Ghosts Z.Denot) where
  module _ {M : Type 1} {𝓤 : Ura M} {𝓛 : Logic 𝓤} {K : Type 0} {Γ : List (Item 𝓤)} {G : Goal 𝓤 𝓛.H} where
    pub taken_out : K → (raw : (Taken R Z g).Denot) (vs : List Val)
        → ((h : Val) → vs ≡ words raw.at h ∷ [] → Good (layout Z) h
        → Seq K 𝓛 (‵ (Z.own_val raw.alloc (h ∷ [])) ∷ ‵ (box_owns (g.dealloc_token raw.alloc) R raw.at raw.value) ∷ Γ) G)
        → Seq K 𝓛 (‵ ((Taken R Z g).own_val raw vs) ∷ Γ) G
    taken_out t raw vs next = fsplit t $ opened Z L t raw.at raw.alloc vs next

    pub taken_in : K → (p : Ptr) (h : Val) (a : Z.Denot) (x : R.Denot)
        → Step K 𝓛 (‵ ((Taken R Z g).own_val (record { at = p; alloc = a; value = x }) (words p h ∷ [])) ∷ Γ) G
        (‵ (Z.own_val a (h ∷ [])) ∷ ‵ (box_owns (g.dealloc_token a) R p x) ∷ Γ) G
    taken_in t p h a x = step (λ rest. closed Z L t p a h $ fjoin t $ rest)

abbrev pub Value : RattleType → RattleType
Value T = param 0 T

abbrev pub Handle : RattleType → RattleType
Handle A = param 1 A

module _ {M : Type 1} {𝓤 : Ura M} where
  abbrev pub tokens : Lfts 2 → Shares 2 → Item 𝓤
  tokens κs qs = ‵ (flft κs.0 qs.0) ⊛ ‵ (flft κs.1.0 qs.1.0) ⊛ ‵ ftrue

module _ (T A : RattleType) where
  abbrev pub passed : Dict → Dict → Dict → Args
  passed d dx dd = bounded (a_type ∷ a_type ∷ []) (T, (A, tt)) (dcons d (dcons dx (dcons dd dnil)))

  abbrev pub Whole : Ghosts A.Denot → RattleType
  Whole g = boxed.the_row (Value T) (Handle A) g

  pub whole_typed : {M : Type 1} {𝓤 : Ura M} (𝓛 : Logic 𝓤) (LA : Laws A) (g : Ghosts A.Denot) (b : (Whole g).Denot) (vs : List Val)
      → Is (Whole g) b vs → Typed (layout (Whole g) ∷ []) vs
  whole_typed 𝓛 LA g b vs is =
      (Struct-Lawful 𝓛 (shape (boxed.the_type (Value T) (Handle A) g)) (rawptr_Lawful 𝓛, ((param_laws 1 A LA).lawful 𝓛, tt))).typed (b.ptr, (b.alloc, tt)) vs is.0
