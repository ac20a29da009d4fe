-- The edges of a graph.
use Rattle.std.proofs.Common.{◌≡◌, ℕ, zero, suc, ◌+◌, ◌<◌, ◌≤◌, Bool, true, false, List, [], ◌∷◌, ◌++◌, Option, Some, None, drop, get_or, length, take, refl, ap, sym, ◌∙◌, append_assoc, arith}
use Rattle.std.specs.Prelude.{is_none, slice_get}
use Rattle.std.proofs.lemmas.List.{drop_more, take_all}
use Rattle.managed_entity.specs.Instance.{Instance}
use Rattle.mib_state.specs.Entities.{Entities, find}
use Rattle.explain_findings.specs.declared.graph.NodeKind.TheVariants as kind
use Rattle.explain_findings.specs.Reach.{priorities}
use Rattle.explain_findings.specs.Findings.{is_number}
use Rattle.explain_findings.specs.Graph.{begins_with, node, priorities_from, priorities_to, priority_edge_by}

-- ---- the priorities whose pointers are the same

module _ (x p : ℕ) (os : List (Option ℕ)) (within : p < length os) where
  pub step_in : true ≡ is_number x (get_or os p None) → priorities_from x p (drop p os) ≡ p ∷ priorities_from x (p + 1) (drop (p + 1) os)
  step_in is = rw (drop_more os p None within, ← is) refl

  pub step_out : false ≡ is_number x (get_or os p None) → priorities_from x p (drop p os) ≡ priorities_from x (p + 1) (drop (p + 1) os)
  step_out is = rw (drop_more os p None within, ← is) refl

-- one more at the end is one less in front of the rest
pub moved : (list : List ℕ) (p : ℕ) (rest all front : List ℕ) → list ++ all ≡ front → all ≡ p ∷ rest → (list ++ p ∷ []) ++ rest ≡ front
moved list p rest all front is more = append_assoc list (p ∷ []) rest ∙ ap (λ (l : List ℕ). list ++ l) (sym more) ∙ is

-- ---- the priorities in order

pub at_priority_place : (p : ℕ) → p < 8 → slice_get priorities p ≡ Some p
at_priority_place zero small = refl
at_priority_place (suc zero) small = refl
at_priority_place (suc (suc zero)) small = refl
at_priority_place (suc (suc (suc zero))) small = refl
at_priority_place (suc (suc (suc (suc zero)))) small = refl
at_priority_place (suc (suc (suc (suc (suc zero))))) small = refl
at_priority_place (suc (suc (suc (suc (suc (suc zero)))))) small = refl
at_priority_place (suc (suc (suc (suc (suc (suc (suc zero))))))) small = refl
at_priority_place (suc (suc (suc (suc (suc (suc (suc (suc p)))))))) small = absurd (omega arith)

pub all_priorities : (p : ℕ) → 8 ≤ p → take p priorities ≡ priorities
all_priorities p past = take_all p priorities past

-- ---- an edge

pub edge_is : (e : Entities) (m : Instance) (p pointer : ℕ) (items : List ℕ) (missing : Bool) → items ≡ priorities_to m pointer → begins_with p items ≡ true
    → missing ≡ is_none (find pointer e.interworks)
    → Some (record { from = node kind.Mapper m.number; to = node kind.Interwork pointer; priorities = record { items = items }; is_missing = missing }) ≡ priority_edge_by e m p (Some pointer)
edge_is e m p pointer items missing are first gone =
    let begins : begins_with p (priorities_to m pointer) ≡ true = ap (begins_with p) (sym are) ∙ first in
    rw (begins, are, gone) refl

pub no_edge : (e : Entities) (m : Instance) (p pointer : ℕ) (items : List ℕ) → items ≡ priorities_to m pointer → begins_with p items ≡ false
    → None ≡ priority_edge_by e m p (Some pointer)
no_edge e m p pointer items are first =
    let begins : begins_with p (priorities_to m pointer) ≡ false = ap (begins_with p) (sym are) ∙ first in
    rw begins refl
