-- A Set of ONU data writes the sync.
use Rattle.std.proofs.Common.{◌≡◌, ℕ, List, [], ◌∷◌, Result, Ok, Err, is_ok, true, refl, sym, ap, subst, ◌∙◌}
use Rattle.managed_entity.specs.declared.attribute.Attribute.{Attribute}
use Rattle.managed_entity.specs.declared.refusal.Refusal.{Refusal}
use Rattle.managed_entity.specs.Instance.{Instance}
use Rattle.mib_state.specs.Entities.{onu_data, sync_of}
use Rattle.managed_entity.specs.Answer.{left_by}
use Rattle.mib_state.specs.Step.{replaced, set_in}
use Rattle.managed_entity.specs.Set.{set_instance}
use Rattle.mib_state.proofs.Setting.{is_ok_replaced}

sync_left : (old new : ℕ) (r : Result Instance Refusal) → onu_data new ≡ left_by (onu_data old) r
    → new ≡ sync_of (left_by (onu_data old ∷ []) (replaced (onu_data old ∷ []) r))
sync_left old new (Ok i) is = subst (λ (x : Instance). new ≡ sync_of (left_by (onu_data old ∷ []) (replaced (onu_data old ∷ []) (Ok x)))) is refl
sync_left old new (Err refusal) is = ap (λ (x : Instance). sync_of (x ∷ [])) is

module _ (layout : List Attribute) (mask : ℕ) (bytes : List ℕ) (old : ℕ) where
  -- a Set in the class that isn't refused is none of its instance
  pub sync_accepted : is_ok (set_in layout 0 mask bytes (onu_data old ∷ [])) ≡ true → is_ok (set_instance layout mask bytes (onu_data old)) ≡ true
  unfolding set_in
  sync_accepted h = sym (is_ok_replaced (onu_data old ∷ []) (set_instance layout mask bytes (onu_data old))) ∙ h

  -- the sync that it leaves
  pub sync_written : (new : ℕ) → onu_data new ≡ left_by (onu_data old) (set_instance layout mask bytes (onu_data old))
      → new ≡ sync_of (left_by (onu_data old ∷ []) (set_in layout 0 mask bytes (onu_data old ∷ [])))
  unfolding set_in
  sync_written new is = sync_left old new (set_instance layout mask bytes (onu_data old)) is
