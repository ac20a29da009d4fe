-- The table by which every frame keeps its tags.
use Rattle.std.proofs.Common.{◌≡◌, ◌≤◌, ℕ, List, [], ◌∷◌, Ok, length, refl, arith}
use Rattle.tag_view.specs.Tag.{TagFields}
use Rattle.tag_view.specs.Frame.{Reading}
use Rattle.vlan_rule.specs.Choice.{choice, matches}
use Rattle.vlan_rule.specs.Entry.{key_of, kind_of, number_of, value_of}
use Rattle.vlan_rule.specs.Meaning.{ethertype_of, filter_of, rank_of, treatment_of}
use Rattle.treatment.specs.Treatment.{treated, treated_by}
use Rattle.frame_meaning.specs.Meaning.{entry_for, tags_by}
use Rattle.port_plan.specs.Plan.{transparent}

-- by the number of tags, for each of which there is an entry
kept : (addresses : List ℕ) (tags : List TagFields) (rest : List ℕ) → length tags ≤ 2 → tags_by transparent (record { addresses = addresses; tags = tags; rest = rest }) ≡ Ok tags
unfolding tags_by entry_for choice matches filter_of ethertype_of rank_of key_of kind_of value_of number_of treated treated_by treatment_of
kept addresses [] rest few = refl
kept addresses (tag ∷ []) rest few = refl
kept addresses (outer ∷ inner ∷ []) rest few = refl
kept addresses (outer ∷ inner ∷ third ∷ tags) rest few = absurd (omega arith)

-- a frame keeps its tags
pub transparent_tags : (frame : Reading) → length frame.tags ≤ 2 → tags_by transparent frame ≡ Ok frame.tags
transparent_tags frame few = kept frame.addresses frame.tags frame.rest few
