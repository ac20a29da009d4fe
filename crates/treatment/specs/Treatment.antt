-- What becomes of a frame's tags (ITU-T G.988, 9.3.13, the treatment fields of an entry). Tags are the
-- received ones, the outermost first; the DSCP is the frame's, if it has one.
use Rattle.std.specs.Prelude.{ℕ, Bool, true, false, List, [], ◌∷◌, ◌++◌, Option, Some, None, drop, length, min}
use Rattle.tag_view.specs.Tag.{TagFields, customer_tpid, missing_tag}
use Rattle.tag_view.specs.Dscp.{group_of}
use Rattle.vlan_rule.specs.declared.settings.TableSettings.{TableSettings}
use Rattle.vlan_rule.specs.declared.treatment.PrioritySource.{PrioritySource}
use Rattle.vlan_rule.specs.declared.treatment.PrioritySource.TheVariants as from_priority
use Rattle.vlan_rule.specs.declared.treatment.VidSource.{VidSource}
use Rattle.vlan_rule.specs.declared.treatment.VidSource.TheVariants as from_vid
use Rattle.vlan_rule.specs.declared.treatment.TpidSource.{TpidSource}
use Rattle.vlan_rule.specs.declared.treatment.TpidSource.TheVariants as from_tpid
use Rattle.vlan_rule.specs.declared.treatment.EligibleSource.{EligibleSource}
use Rattle.vlan_rule.specs.declared.treatment.EligibleSource.TheVariants as from_eligible
use Rattle.vlan_rule.specs.declared.treatment.AddedTag.{AddedTag}
use Rattle.vlan_rule.specs.declared.treatment.Retag.{Retag}
use Rattle.vlan_rule.specs.declared.treatment.Treatment.{Treatment}
use Rattle.vlan_rule.specs.declared.treatment.Treatment.TheVariants as treatment
use Rattle.vlan_rule.specs.Meaning.{treatment_of}

-- ---- what is copied

-- the outer tag: the first
abbrev pub outer_of : List TagFields → TagFields
outer_of [] = missing_tag
outer_of (tag ∷ rest) = tag

-- the inner tag: the last, which of one tag is that tag
abbrev pub inner_of : List TagFields → TagFields
inner_of [] = missing_tag
inner_of (tag ∷ []) = tag
inner_of (tag ∷ next ∷ rest) = inner_of (next ∷ rest)

-- the priority that a mapping has for a DSCP; without a DSCP it is 0
abbrev pub dscp_priority : List ℕ → Option ℕ → ℕ
dscp_priority map None = 0
dscp_priority map (Some dscp) = group_of map dscp

-- ---- the parts of an added tag

abbrev pub priority_from : PrioritySource → TableSettings → List TagFields → Option ℕ → ℕ
priority_from (from_priority.Fixed priority) settings tags dscp = priority
priority_from from_priority.Inner settings tags dscp = (inner_of tags).pcp
priority_from from_priority.Outer settings tags dscp = (outer_of tags).pcp
priority_from from_priority.Dscp settings tags dscp = dscp_priority settings.dscp_map.0 dscp

abbrev pub vid_from : VidSource → List TagFields → ℕ
vid_from (from_vid.Fixed vid) tags = vid
vid_from from_vid.Inner tags = (inner_of tags).vid
vid_from from_vid.Outer tags = (outer_of tags).vid

abbrev pub tpid_from : TpidSource → TableSettings → List TagFields → ℕ
tpid_from from_tpid.Inner settings tags = (inner_of tags).tpid
tpid_from from_tpid.Outer settings tags = (outer_of tags).tpid
tpid_from from_tpid.Output settings tags = settings.output_tpid
tpid_from from_tpid.Standard settings tags = customer_tpid

abbrev pub eligible_from : EligibleSource → List TagFields → Bool
eligible_from from_eligible.Inner tags = (inner_of tags).dei
eligible_from from_eligible.Outer tags = (outer_of tags).dei
eligible_from from_eligible.Clear tags = false
eligible_from from_eligible.Set tags = true

abbrev pub tag_from : AddedTag → TableSettings → List TagFields → Option ℕ → TagFields
tag_from added settings tags dscp =
    record {
      tpid = tpid_from added.tpid settings tags;
      pcp = priority_from added.priority settings tags dscp;
      dei = eligible_from added.eligible tags;
      vid = vid_from added.vid tags;
    }

-- the tag that is added, if one is
abbrev pub addition_from : Option AddedTag → TableSettings → List TagFields → Option ℕ → List TagFields
addition_from None settings tags dscp = []
addition_from (Some added) settings tags dscp = tag_from added settings tags dscp ∷ []

-- the tags that are added, the outer one first
abbrev pub additions_from : Retag → TableSettings → List TagFields → Option ℕ → List TagFields
additions_from retag settings tags dscp =
    addition_from retag.outer settings tags dscp ++ addition_from retag.inner settings tags dscp

-- ---- the tags that a frame leaves with

-- the received tags without as many of the first as are to be removed, or as there are
abbrev pub left_of : ℕ → List TagFields → List TagFields
left_of remove tags = drop (min remove (length tags)) tags

-- the tags by a treatment: the added outer tag, the added inner tag, and what is left of the received
-- ones; None where the frame is dropped
unfoldable pub treated_by : Treatment → TableSettings → List TagFields → Option ℕ → Option (List TagFields)
treated_by treatment.Discard settings tags dscp = None
treated_by (treatment.Retag retag) settings tags dscp =
    Some (additions_from retag settings tags dscp ++ left_of retag.remove tags)

-- the tags by an entry of the table
unfoldable pub treated : List ℕ → TableSettings → List TagFields → Option ℕ → Option (List TagFields)
treated entry settings tags dscp = treated_by (treatment_of entry) settings tags dscp
