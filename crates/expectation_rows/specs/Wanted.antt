-- The tags with which frames are to leave, as an entry of a table changes them (ITU-T G.988, clause 9.3.13, the treatment fields).
use Rattle.std.specs.Prelude.{ℕ, Option, Some, None, if◌then◌else◌, ◌==◌, min}
use Rattle.std.specs.Option.{option_map}
use Rattle.tag_view.specs.Tag.{customer_tpid}
use Rattle.vlan_rule.specs.declared.settings.TableSettings.{TableSettings}
use Rattle.vlan_rule.specs.declared.treatment.AddedTag.{AddedTag}
use Rattle.vlan_rule.specs.declared.treatment.Retag.{Retag}
use Rattle.vlan_rule.specs.declared.treatment.TpidSource.{TpidSource}
use Rattle.vlan_rule.specs.declared.treatment.TpidSource.TheVariants as tpid
use Rattle.frame_rows.specs.Row.{keep}
use Rattle.frame_expectation.specs.declared.wanted.WantedTag.{WantedTag}
use Rattle.frame_expectation.specs.declared.wanted.WantedTreatment.{WantedTreatment}
use Rattle.frame_expectation.specs.declared.wanted.WantedTreatment.TheVariants as treatment

-- where a TPID that is named comes from, of frames whose outer and inner tag have these
abbrev pub source_for : ℕ → TableSettings → ℕ → ℕ → Option TpidSource
source_for number settings outer inner =
    if number == customer_tpid then Some tpid.Standard
    else (if number == settings.output_tpid then Some tpid.Output
    else (if number == outer then Some tpid.Outer
    else (if number == inner then Some tpid.Inner
    else None)))

-- an added tag with a TPID that is named, if one is
abbrev pub added_with : AddedTag → Option ℕ → TableSettings → ℕ → ℕ → Option AddedTag
added_with added None settings outer inner = Some added
added_with added (Some number) settings outer inner =
    option_map (λ source. record added { tpid = source }) (source_for number settings outer inner)

-- the tag that is added, if one is wanted
abbrev pub slot_for : Option WantedTag → TableSettings → ℕ → ℕ → Option (Option AddedTag)
slot_for None settings outer inner = Some None
slot_for (Some wanted) settings outer inner = option_map (λ added. Some added) (added_with wanted.added wanted.tpid settings outer inner)

abbrev pub retag_with : ℕ → Option (Option AddedTag) → Option (Option AddedTag) → Option Retag
retag_with remove (Some outer) (Some inner) = Some (record { remove = min remove 2; outer = outer; inner = inner })
retag_with remove (Some outer) None = None
retag_with remove None inner = None

-- how the tags of frames change whose outer and inner tag have these TPIDs, of which none counts where any are wanted; None where some are wanted
-- that no entry gives
abbrev pub retag_for : WantedTreatment → TableSettings → ℕ → ℕ → Option Retag
retag_for treatment.Any settings outer inner = Some keep
retag_for treatment.Unchanged settings outer inner = Some keep
retag_for (treatment.Retag wanted) settings outer inner =
    retag_with wanted.remove (slot_for wanted.outer settings outer inner) (slot_for wanted.inner settings outer inner)
