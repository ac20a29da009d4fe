-- The parts of a treatment as the code has them.
use Rattle.std.proofs.Common.{◌≡◌, ℕ, suc, ◌-◌, ◌≤◌, List, [], ◌∷◌, Option, length, get_or, refl, ap, arith}
use Rattle.tag_view.specs.Tag.{TagFields}
use Rattle.vlan_rule.specs.declared.settings.TableSettings.{TableSettings}
use Rattle.vlan_rule.specs.declared.treatment.Treatment.{Treatment}
use Rattle.vlan_rule.specs.Meaning.{treatment_of}
use Rattle.treatment.specs.Treatment.{inner_of, treated, treated_by}

-- the last tag is the inner one
pub last_is_inner : (tags : List TagFields) (d : TagFields) → 1 ≤ length tags → get_or tags (length tags - 1) d ≡ inner_of tags
last_is_inner [] d some = absurd (omega arith)
last_is_inner (tag ∷ []) d some = refl
last_is_inner (tag ∷ next ∷ rest) d some =
    let place : length (tag ∷ next ∷ rest) - 1 ≡ suc (length (next ∷ rest) - 1) = omega arith in
    rw place (last_is_inner (next ∷ rest) d (omega arith))

-- an entry treats a frame as its treatment does
pub treated_entry : (entry : List ℕ) (by : Treatment) (settings : TableSettings) (tags : List TagFields) (dscp : Option ℕ)
    → by ≡ treatment_of entry → treated_by by settings tags dscp ≡ treated entry settings tags dscp
unfolding treated
treated_entry entry by settings tags dscp is = ap (λ (t : Treatment). treated_by t settings tags dscp) is
