-- The tags that a frame leaves with, and where each comes from (ITU-T G.988, clause 9.3.13).
use Rattle.std.specs.Prelude.{◌≡◌, ℕ, ◌+◌, List, [], ◌∷◌, ◌++◌, All, IfSome, Option, Some, None, drop, length, map, min, option_map, slice_get}
use Rattle.tag_view.specs.Tag.{TagFields}
use Rattle.vlan_rule.specs.declared.settings.TableSettings.{TableSettings}
use Rattle.vlan_rule.specs.declared.treatment.AddedTag.{AddedTag}
use Rattle.vlan_rule.specs.declared.treatment.Retag.{Retag}
use Rattle.vlan_rule.specs.declared.treatment.Treatment.{Treatment}
use Rattle.vlan_rule.specs.declared.treatment.Treatment.TheVariants as treatment
use Rattle.vlan_rule.specs.Meaning.{treatment_of}
use Rattle.treatment.specs.Treatment.{tag_from, treated}
use Rattle.explain.specs.declared.outgoing.TagOrigin.{TagOrigin}
use Rattle.explain.specs.declared.outgoing.TagOrigin.TheVariants.{Added, Received}
use Rattle.explain.specs.declared.outgoing.OutgoingTag.{OutgoingTag}

-- the tag that is added, if one is
abbrev pub added_by : Option AddedTag → TableSettings → List TagFields → Option ℕ → List OutgoingTag
added_by None settings tags dscp = []
added_by (Some added) settings tags dscp = record { tag = tag_from added settings tags dscp; origin = Added added } ∷ []

-- received tags, of which the first is that at place i
abbrev pub kept_from : ℕ → List TagFields → List OutgoingTag
kept_from i [] = []
kept_from i (tag ∷ rest) = record { tag = tag; origin = Received i } ∷ kept_from (i + 1) rest

-- the received tags without as many of the first as are to be removed, or as there are
abbrev pub kept_after : ℕ → List TagFields → List OutgoingTag
kept_after remove tags = let gone = min remove (length tags) in kept_from gone (drop gone tags)

-- the added outer tag, the added inner tag, and what is left of the received ones
abbrev pub retagged_by : Retag → TableSettings → List TagFields → Option ℕ → List OutgoingTag
retagged_by retag settings tags dscp =
    (added_by retag.outer settings tags dscp ++ added_by retag.inner settings tags dscp) ++ kept_after retag.remove tags

-- the tags by a treatment; None where the frame is dropped
abbrev pub outgoing_by : Treatment → TableSettings → List TagFields → Option ℕ → Option (List OutgoingTag)
outgoing_by treatment.Discard settings tags dscp = None
outgoing_by (treatment.Retag retag) settings tags dscp = Some (retagged_by retag settings tags dscp)

-- the tags by an entry of a table
unfoldable pub outgoing : List ℕ → TableSettings → List TagFields → Option ℕ → Option (List OutgoingTag)
outgoing entry settings tags dscp = outgoing_by (treatment_of entry) settings tags dscp

-- the tags without where they come from
abbrev pub plain : List OutgoingTag → List TagFields
plain outgoing = map (λ o. o.tag) outgoing

-- ---- law

-- a tag is what its origin says: made as the rule's treatment says, or the received tag at the place
abbrev pub IsFrom : TableSettings → List TagFields → Option ℕ → TagFields → TagOrigin → Type 0
IsFrom settings tags dscp tag (Added added) = tag ≡ tag_from added settings tags dscp
IsFrom settings tags dscp tag (Received place) = slice_get tags place ≡ Some tag

-- the tags by an entry are those that it treats the frame to, and each is what its origin says; so are those of a frame that
-- leaves as it came
pub record HasTrueOrigins : Type 0 where
  pub treated : (entry : List ℕ) (settings : TableSettings) (tags : List TagFields) (dscp : Option ℕ)
      → option_map plain (outgoing entry settings tags dscp) ≡ treated entry settings tags dscp
  pub origins : (entry : List ℕ) (settings : TableSettings) (tags : List TagFields) (dscp : Option ℕ)
      → IfSome (outgoing entry settings tags dscp) (All (λ o. IsFrom settings tags dscp o.tag o.origin))
  pub unchanged : (tags : List TagFields) → plain (kept_after 0 tags) ≡ tags
  pub received : (settings : TableSettings) (tags : List TagFields) (dscp : Option ℕ)
      → All (λ o. IsFrom settings tags dscp o.tag o.origin) (kept_after 0 tags)
