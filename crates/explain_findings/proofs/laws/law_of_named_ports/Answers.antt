-- A port that has a mapper or a table is named.
use Rattle.std.proofs.Common.{◌≡◌, ◌==◌, ℕ, true, List, Option, Some, None, refl, subst}
use Rattle.std.specs.Prelude.{Contains}
use Rattle.std.proofs.lemmas.Bool.{eqb-true}
use Rattle.std.proofs.lemmas.List.Folds.{Any-from_list_any}
use Rattle.mib_state.specs.Entities.{Entities}
use Rattle.mib_state.specs.Attached.{mapper_of_port, table_of_port}
use Rattle.frame_meaning.specs.Meaning.{mapper_at, table_at}
use Rattle.explain_findings.specs.Reach.{ports}
use Rattle.explain_findings.proofs.Lists.{has}
use Rattle.explain_findings.proofs.Reaching.{port_of_a_mapper, port_of_a_table}
use Rattle.explain_findings.proofs.laws.law_of_named_ports.Goals as goal

contained : (xs : List ℕ) (n : ℕ) → has xs n ≡ true → Contains xs n
contained xs n among =
    let found = Any-from_list_any (λ m. m == n) xs among in
    subst (λ (m : ℕ). Contains xs m) (eqb-true found.1 n found.4) (found.0, found.2, found.3)

no_mapper : (e : Entities) (q : ℕ) → (Contains (ports e) q → ⊥) → mapper_of_port e q ≡ None
no_mapper e q unnamed = by_case (mapper_of_port e q) refl
  where
    by_case : (o : Option ℕ) → mapper_of_port e q ≡ o → mapper_of_port e q ≡ None
    by_case None is = is
    by_case (Some n) is = absurd (unnamed (contained (ports e) q (port_of_a_mapper e q n is)))

no_table : (e : Entities) (q : ℕ) → (Contains (ports e) q → ⊥) → table_of_port e q ≡ None
no_table e q unnamed = by_case (table_of_port e q) refl
  where
    by_case : (o : Option ℕ) → table_of_port e q ≡ o → table_of_port e q ≡ None
    by_case None is = is
    by_case (Some n) is = absurd (unnamed (contained (ports e) q (port_of_a_table e q n is)))

no_mapper_at : (e : Entities) (q : ℕ) → (Contains (ports e) q → ⊥) → mapper_at e q ≡ None
unfolding mapper_at
no_mapper_at e q unnamed = rw (no_mapper e q unnamed) refl

no_table_at : (e : Entities) (q : ℕ) → (Contains (ports e) q → ⊥) → table_at e q ≡ None
unfolding table_at
no_table_at e q unnamed = rw (no_table e q unnamed) refl

pub returns : goal.returns
returns c = record { tables = no_table_at; mappers = no_mapper_at }
