-- What is wanted of a frame: how it ends, and with which bytes it leaves (ITU-T G.988, clause 9.3.13, the treatment fields of an entry).
use Rattle.std.specs.Prelude.{ℕ, Bool, true, false, ◌&&◌, ◌==◌, List, [], ◌∷◌, ◌++◌, Option, Some, None, replicate}
use Rattle.std.specs.Str.{bytes_eq}
use Rattle.tag_view.specs.Tag.{TagFields, customer_tpid, tag_bytes}
use Rattle.tag_view.specs.Frame.{Reading, frame_bytes}
use Rattle.tag_view.specs.Dscp.{dscp_of}
use Rattle.vlan_rule.specs.declared.settings.TableSettings.{TableSettings}
use Rattle.treatment.specs.Treatment.{left_of, tag_from}
use Rattle.frame_meaning.specs.declared.verdict.Verdict.{Verdict}
use Rattle.frame_meaning.specs.declared.verdict.Verdict.TheVariants.{Forward, Drop}
use Rattle.frame_meaning.specs.Meaning.{Table}
use Rattle.frame_meaning.specs.Reason.{number_of_reason}
use Rattle.frame_expectation.specs.declared.wanted.WantedEnding.{WantedEnding}
use Rattle.frame_expectation.specs.declared.wanted.WantedEnding.TheVariants as ending
use Rattle.frame_expectation.specs.declared.wanted.WantedTag.{WantedTag}
use Rattle.frame_expectation.specs.declared.wanted.WantedRetag.{WantedRetag}
use Rattle.frame_expectation.specs.declared.wanted.WantedTreatment.{WantedTreatment}
use Rattle.frame_expectation.specs.declared.wanted.WantedTreatment.TheVariants as treatment

-- ---- how it ends

-- a frame ends as is wanted
abbrev pub ends_as : WantedEnding → Verdict → Bool
ends_as ending.Any verdict = true
ends_as ending.Leave (Forward gem frame) = true
ends_as ending.Leave (Drop reason) = false
ends_as ending.Dropped (Forward gem frame) = false
ends_as ending.Dropped (Drop reason) = true
ends_as (ending.DroppedFor wanted) (Forward gem frame) = false
ends_as (ending.DroppedFor wanted) (Drop reason) = number_of_reason reason == number_of_reason wanted
ends_as (ending.Gem wanted) (Forward gem frame) = gem == wanted
ends_as (ending.Gem wanted) (Drop reason) = false

-- ---- with which tags

-- a tag with another TPID, where one is named
abbrev pub with_tpid : Option ℕ → TagFields → TagFields
with_tpid None tag = tag
with_tpid (Some tpid) tag = record tag { tpid = tpid }

-- a tag that is wanted: the one that an entry adds, but for a TPID that is named
abbrev pub tag_wanted : WantedTag → TableSettings → List TagFields → Option ℕ → TagFields
tag_wanted wanted settings tags dscp = with_tpid wanted.tpid (tag_from wanted.added settings tags dscp)

abbrev pub added_wanted : Option WantedTag → TableSettings → List TagFields → Option ℕ → List TagFields
added_wanted None settings tags dscp = []
added_wanted (Some wanted) settings tags dscp = tag_wanted wanted settings tags dscp ∷ []

-- the tags with which a frame is to leave: the added outer tag, the added inner tag, and what is left of those that it came with
abbrev pub tags_wanted : WantedRetag → TableSettings → List TagFields → Option ℕ → List TagFields
tags_wanted wanted settings tags dscp =
    (added_wanted wanted.outer settings tags dscp ++ added_wanted wanted.inner settings tags dscp) ++ left_of wanted.remove tags

-- the settings that tags are added with at a port: those of its table, or without one those that a table has after Create
abbrev pub created_settings : TableSettings
created_settings = record { input_tpid = customer_tpid; output_tpid = customer_tpid; dscp_map = record { 0 = replicate 24 0 } }

abbrev pub settings_by : Option Table → TableSettings
settings_by None = created_settings
settings_by (Some table) = table.settings

-- ---- with which bytes

-- the bytes with which a frame is to leave, if any are wanted: those with which it came, or what the treatment makes of it
abbrev pub bytes_wanted : WantedTreatment → TableSettings → List ℕ → Reading → Option (List ℕ)
bytes_wanted treatment.Any settings bytes frame = None
bytes_wanted treatment.Unchanged settings bytes frame = Some bytes
bytes_wanted (treatment.Retag wanted) settings bytes frame =
    Some (frame_bytes (record frame { tags = tags_wanted wanted settings frame.tags (dscp_of frame.rest) }))

-- a frame leaves with exactly these bytes, if any are wanted
abbrev pub leaves_with : Option (List ℕ) → Verdict → Bool
leaves_with None verdict = true
leaves_with (Some wanted) (Forward gem frame) = bytes_eq (frame_bytes frame) wanted
leaves_with (Some wanted) (Drop reason) = false

-- ---- compared tag by tag

-- two lists of tags have the same bytes, tag by tag
abbrev pub tags_alike : List TagFields → List TagFields → Bool
tags_alike [] [] = true
tags_alike [] (tag ∷ rest) = false
tags_alike (tag ∷ rest) [] = false
tags_alike (tag ∷ rest) (other ∷ others) = bytes_eq (tag_bytes tag) (tag_bytes other) && tags_alike rest others
