-- How the word of an outgoing tag is made of four sources: what is fixed of it, the word of the first
-- received tag, that of the last one, and the priority of the DSCP. Each source has a mask as a tag, all
-- ones in the fields that are its own.
use Rattle.std.specs.Prelude.{ℕ, Bool, true, false, bit_and, bit_or}
use Rattle.tag_view.specs.Tag.{TagFields, customer_tpid}
use Rattle.tag_view.specs.Word.{word_of}
use Rattle.vlan_rule.specs.declared.settings.TableSettings.{TableSettings}
use Rattle.vlan_rule.specs.declared.treatment.PrioritySource.{PrioritySource}
use Rattle.vlan_rule.specs.declared.treatment.PrioritySource.TheVariants as from_priority
use Rattle.vlan_rule.specs.declared.treatment.VidSource.{VidSource}
use Rattle.vlan_rule.specs.declared.treatment.VidSource.TheVariants as from_vid
use Rattle.vlan_rule.specs.declared.treatment.TpidSource.{TpidSource}
use Rattle.vlan_rule.specs.declared.treatment.TpidSource.TheVariants as from_tpid
use Rattle.vlan_rule.specs.declared.treatment.EligibleSource.{EligibleSource}
use Rattle.vlan_rule.specs.declared.treatment.EligibleSource.TheVariants as from_eligible
use Rattle.vlan_rule.specs.declared.treatment.AddedTag.{AddedTag}
use Rattle.treatment.specs.declared.mix.Mix.{Mix}

-- the word that a mix makes; the marking is a priority where a tag has it
abbrev pub mixed : Mix → ℕ → ℕ → ℕ → ℕ
mixed mix first last marking =
    bit_or (bit_or (bit_or mix.fixed (bit_and first mix.outer)) (bit_and last mix.inner)) (bit_and marking mix.dscp)

-- ---- what is fixed

abbrev pub fixed_tpid : TableSettings → TpidSource → ℕ
fixed_tpid settings from_tpid.Inner = 0
fixed_tpid settings from_tpid.Outer = 0
fixed_tpid settings from_tpid.Output = settings.output_tpid
fixed_tpid settings from_tpid.Standard = customer_tpid

abbrev pub fixed_priority : PrioritySource → ℕ
fixed_priority (from_priority.Fixed priority) = priority
fixed_priority from_priority.Inner = 0
fixed_priority from_priority.Outer = 0
fixed_priority from_priority.Dscp = 0

abbrev pub fixed_eligible : EligibleSource → Bool
fixed_eligible from_eligible.Inner = false
fixed_eligible from_eligible.Outer = false
fixed_eligible from_eligible.Clear = false
fixed_eligible from_eligible.Set = true

abbrev pub fixed_vid : VidSource → ℕ
fixed_vid (from_vid.Fixed vid) = vid
fixed_vid from_vid.Inner = 0
fixed_vid from_vid.Outer = 0

abbrev pub fixed_part : TableSettings → AddedTag → TagFields
fixed_part settings added =
    record { tpid = fixed_tpid settings added.tpid; pcp = fixed_priority added.priority; dei = fixed_eligible added.eligible; vid = fixed_vid added.vid }

-- ---- what is copied from the outer tag

abbrev pub outer_tpid : TpidSource → ℕ
outer_tpid from_tpid.Inner = 0
outer_tpid from_tpid.Outer = 0xffff
outer_tpid from_tpid.Output = 0
outer_tpid from_tpid.Standard = 0

abbrev pub outer_priority : PrioritySource → ℕ
outer_priority (from_priority.Fixed priority) = 0
outer_priority from_priority.Inner = 0
outer_priority from_priority.Outer = 7
outer_priority from_priority.Dscp = 0

abbrev pub outer_eligible : EligibleSource → Bool
outer_eligible from_eligible.Inner = false
outer_eligible from_eligible.Outer = true
outer_eligible from_eligible.Clear = false
outer_eligible from_eligible.Set = false

abbrev pub outer_vid : VidSource → ℕ
outer_vid (from_vid.Fixed vid) = 0
outer_vid from_vid.Inner = 0
outer_vid from_vid.Outer = 0xfff

abbrev pub outer_mask : AddedTag → TagFields
outer_mask added =
    record { tpid = outer_tpid added.tpid; pcp = outer_priority added.priority; dei = outer_eligible added.eligible; vid = outer_vid added.vid }

-- ---- what is copied from the inner tag

abbrev pub inner_tpid : TpidSource → ℕ
inner_tpid from_tpid.Inner = 0xffff
inner_tpid from_tpid.Outer = 0
inner_tpid from_tpid.Output = 0
inner_tpid from_tpid.Standard = 0

abbrev pub inner_priority : PrioritySource → ℕ
inner_priority (from_priority.Fixed priority) = 0
inner_priority from_priority.Inner = 7
inner_priority from_priority.Outer = 0
inner_priority from_priority.Dscp = 0

abbrev pub inner_eligible : EligibleSource → Bool
inner_eligible from_eligible.Inner = true
inner_eligible from_eligible.Outer = false
inner_eligible from_eligible.Clear = false
inner_eligible from_eligible.Set = false

abbrev pub inner_vid : VidSource → ℕ
inner_vid (from_vid.Fixed vid) = 0
inner_vid from_vid.Inner = 0xfff
inner_vid from_vid.Outer = 0

abbrev pub inner_mask : AddedTag → TagFields
inner_mask added =
    record { tpid = inner_tpid added.tpid; pcp = inner_priority added.priority; dei = inner_eligible added.eligible; vid = inner_vid added.vid }

-- ---- what is the priority of the DSCP

abbrev pub dscp_priority_mask : PrioritySource → ℕ
dscp_priority_mask (from_priority.Fixed priority) = 0
dscp_priority_mask from_priority.Inner = 0
dscp_priority_mask from_priority.Outer = 0
dscp_priority_mask from_priority.Dscp = 7

abbrev pub dscp_mask : AddedTag → TagFields
dscp_mask added = record { tpid = 0; pcp = dscp_priority_mask added.priority; dei = false; vid = 0 }

-- ---- the mix that makes an added tag

unfoldable pub mix_of : TableSettings → AddedTag → Mix
mix_of settings added =
    record {
      fixed = word_of (fixed_part settings added);
      outer = word_of (outer_mask added);
      inner = word_of (inner_mask added);
      dscp = word_of (dscp_mask added);
    }
