-- What is told of the configurations between, taken together.
use Rattle.std.proofs.Common.{◌≡◌, ◌∙◌, ◌<◌, ◌≤◌, ◌+◌, ◌⊎◌, ℕ, Bool, true, List, length, inl, inr, subst, sym, arith}
use Rattle.std.proofs.lemmas.Bool.{cases_lt}
use Rattle.omci_msg.specs.declared.Request.{Request}
use Rattle.mib_state.specs.Entities.{Entities}
use Rattle.mib_state.specs.After.{after_from}
use Rattle.migration_check.specs.declared.aim.Aim.{Aim}
use Rattle.migration_check.specs.Migration.{AreHitless, AreHitlessAt, DoLead, IsHitlessAt, IsMigration, Reaches, all_accepted, version}
use Rattle.migration_check.specs.Telling.{Tells}
use Rattle.migration_check.proofs.Told.{yes}

-- none is torn up to one more
pub further : (e : Entities) (requests : List Request) (g here : Entities) (port place : ℕ)
    → ((count : ℕ) → 0 < count → count ≤ place → IsHitlessAt e (version e requests count) g port) → here ≡ version e requests (place + 1)
    → IsHitlessAt e here g port → (count : ℕ) → 0 < count → count ≤ place + 1 → IsHitlessAt e (version e requests count) g port
further e requests g here port place before at whole count some upto = by_case (cases_lt count (place + 1))
  where
    by_case : (count < place + 1) ⊎ (place + 1 ≤ count) → IsHitlessAt e (version e requests count) g port
    by_case (inl less) = before count some (omega (arith, less))
    by_case (inr least) =
        let last : place + 1 ≡ count = omega (arith, least, upto) in
        subst (λ (n : ℕ). IsHitlessAt e (version e requests n) g port) last (subst (λ (f : Entities). IsHitlessAt e f g port) at whole)

-- one that is torn
pub torn_there : (e : Entities) (requests : List Request) (g here : Entities) (port place : ℕ) → here ≡ version e requests (place + 1)
    → place + 1 < length requests → (IsHitlessAt e here g port → ⊥) → AreHitlessAt e requests g port → ⊥
torn_there e requests g here port place at within torn all =
    torn (subst (λ (f : Entities). IsHitlessAt e f g port) (sym at) (all (place + 1) (omega arith) within))

-- requests that lead there
pub lead : (aim : Aim) (e end : Entities) (requests : List Request) (f : Entities) (accepted : Bool) → accepted ≡ all_accepted e requests → accepted ≡ true
    → end ≡ after_from e requests → Reaches aim end f → DoLead aim e requests f
lead aim e end requests f accepted is all left reached = record {
  accepted = sym is ∙ all;
  end = subst (λ (s : Entities). Reaches aim s f) left reached;
}

-- all that makes a migration
pub migration : (aim : Aim) (e start end : Entities) (requests : List Request) (f : Entities) (whole : Bool) → start ≡ e → end ≡ after_from start requests
    → DoLead aim start requests f → whole ≡ true → Tells whole (AreHitless e requests end) → IsMigration aim e requests f
migration aim e start end requests f whole at left leads fine told =
    let there : end ≡ after_from e requests = subst (λ (s : Entities). end ≡ after_from s requests) at left in
    record {
      lead = subst (λ (s : Entities). DoLead aim s requests f) at leads;
      hitless = subst (λ (s : Entities). AreHitless e requests s) there (yes whole (AreHitless e requests end) fine told);
    }
