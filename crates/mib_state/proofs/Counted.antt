-- What a change of one class leaves of the entities.
use Rattle.std.proofs.Common.{◌≡◌, ℕ, List, true, false, nat_eq, Result, Ok, Err, is_ok, [], ◌∷◌, refl}
use mathlib.Core.Bool.{false≢true}
use Rattle.managed_entity.specs.declared.refusal.Refusal.{Refusal}
use Rattle.mib_state.specs.Entities.{Entities, onu_data, sync_of, instances_of, with_instances}
use Rattle.managed_entity.specs.Instance.{Instance}
use Rattle.managed_entity.specs.Answer.{outcome_of, left_by}
use Rattle.mib_state.specs.Step.{counted, next_sync}

pub outcome_of_counted : (e : Entities) (class : ℕ) (r : Result (List Instance) Refusal) → outcome_of (counted e class r) ≡ outcome_of r
outcome_of_counted e class (Ok instances) = refl
outcome_of_counted e class (Err refusal) = refl

pub is_ok_counted : (e : Entities) (class : ℕ) (r : Result (List Instance) Refusal) → is_ok (counted e class r) ≡ is_ok r
is_ok_counted e class (Ok instances) = refl
is_ok_counted e class (Err refusal) = refl

-- a change of another class than ONU data, 2, that isn't refused is counted
pub left_by_counted : (e : Entities) (class : ℕ) (r : Result (List Instance) Refusal) → nat_eq class 2 ≡ false → is_ok r ≡ true
    → left_by e (counted e class r) ≡ record (with_instances e class (left_by (instances_of e class) r)) { sync = next_sync e.sync }
left_by_counted e class (Ok l) other h = rw other refl
left_by_counted e class (Err refusal) other h = absurd (false≢true h)

-- a Set of ONU data leaves its sync, and counts nothing
pub left_by_sync : (e : Entities) (r : Result (List Instance) Refusal)
    → left_by e (counted e 2 r) ≡ record e { sync = sync_of (left_by (onu_data e.sync ∷ []) r) }
left_by_sync e (Ok l) = refl
left_by_sync e (Err refusal) = refl

pub ruleset counts = (outcome_of_counted, is_ok_counted, left_by_counted, left_by_sync)
