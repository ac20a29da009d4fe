-- The machine value of a `Handle`. Assumes `Logic`.
use Rattle.std.proofs.Common.{◌≡◌, ℕ, List, [], ◌∷◌, ◌++◌, Bool, true, false, Option, Some, None, refl, subst}
use seplogic.Ra.Ura.{Ura}
use mir.Val.{Val, vstruct, vcons, vnil, of_list}
use base.Logic.{never, fst∗}
use types.Logic.{Logic, sem}
use types.Kit.{Item, Goal, Seq, Step, step, ‵, ◌$◌, drop, fsplit, fjoin, fpick, fpack, feq_i, feq_l}
use denote.RattleType.{Valss}
use denote.Builtin.{RawPtr}
use denote.RawPtr.{Ptr, block_ptr, null_ptr, ptr_val, in_a_block}
use denote.Memory as memory
use mir.Raw.{raw as bare}
use Rattle.std.specs.Prelude.{IsSome}
use Rattle.std_alloc.specs.Box.Ownership.{box_owns}
use Rattle.onu_unit.specs.contracts.unit.Unit as unit
use denote.Steps.{nothing}
use Rattle.mib_upload.specs.Upload.{DeskState}
use denote.Struct.Struct.{within}
use denote.Struct.Owning.{shape}
use Rattle.onu_cell.specs.Holds.{frees, holds}
use Rattle.onu_cell.specs.contracts.handle.Handle as handle

abbrev IsFalse : Bool → Type 0
IsFalse false = Unit {0}
IsFalse true = ⊥

-- a pointer as the one field of a struct
abbrev pub lone : Ptr → Val
lone p = vstruct (vcons (ptr_val p) vnil)

module _ {M : Type 1} {𝓤 : Ura M} {𝓛 : Logic 𝓤} {K : Type 0} {Γ : List (Item 𝓤)} {G : Goal 𝓤 𝓛.H} where
  pub handle_in : K → (p : Ptr) (held : Option DeskState)
      → Step K 𝓛 (‵ (handle.the_row.own_val (record { at = p; held = held }) (lone p ∷ [])) ∷ Γ) G (‵ (holds p held) ∷ Γ) G
  handle_in t p held = step (λ s.
      nothing t $ feq_i t (List Val) (ptr_val p ∷ []) (ptr_val p ∷ []) refl $ fjoin t $ feq_i t (List Val) (lone p ∷ []) (lone p ∷ []) refl $ fjoin t $
      fpack t (Valss (RawPtr ∷ [])) (within (shape handle.the_type) (p, tt) (lone p ∷ [])) (ptr_val p ∷ [], tt) $ fjoin t $ s)

  pub handle_out : K → (p : Ptr) (held : Option DeskState) (vs : List Val) → (vs ≡ lone p ∷ [] → Seq K 𝓛 (‵ (holds p held) ∷ Γ) G)
      → Seq K 𝓛 (‵ (handle.the_row.own_val (record { at = p; held = held }) vs) ∷ Γ) G
  handle_out t p held vs k =
      fsplit t $ fpick t (λ vss. fsplit t $ feq_l t (λ ev. fsplit t $ feq_l t (λ ep. drop t $
      k (subst (λ (ps : List Val). vs ≡ vstruct (of_list (ps ++ [])) ∷ []) ep ev))))

  -- what is held lies in a block
  pub some_out : K → (p : Ptr) (held : Option DeskState) → IsSome held
      → ((x : DeskState) (b o : ℕ) → held ≡ Some x → p ≡ block_ptr b o → Seq K 𝓛 (‵ (box_owns frees unit.the_row (block_ptr b o) x) ∷ Γ) G)
      → Seq K 𝓛 (‵ (holds p held) ∷ Γ) G
  some_out t p None is k = absurd (subst IsFalse is tt)
  some_out t p (Some x) is k =
      in_a_block t p (λ q. box_owns frees unit.the_row q x) (fst∗ 𝓤 (never 𝓤) (sem 𝓛 (frees (bare (memory.lone unit.the_row.mir)) null_ptr))) (λ b o e. k x b o refl e)
