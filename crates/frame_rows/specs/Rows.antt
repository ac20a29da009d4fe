-- What the managed entities mean for the frames that come in at a port, as rows.
use Rattle.std.specs.Prelude.{◌≡◌, ◌<◌, ◌^◌, ℕ, ◌+◌, List, [], ◌∷◌, ◌++◌, if◌then◌else◌, All, Option, Some, None, Result, Ok, Err, map, ok_or, replicate}
use Rattle.std.specs.Option.{option_map}
use Rattle.tag_view.specs.Tag.{customer_tpid}
use Rattle.vlan_rule.specs.declared.settings.TableSettings.{TableSettings}
use Rattle.vlan_rule.specs.declared.filter.EthertypeFilter.TheVariants as ethertype
use Rattle.vlan_rule.specs.declared.filter.Filter.{Filter}
use Rattle.vlan_rule.specs.declared.filter.Filter.TheVariants as filter
use Rattle.vlan_rule.specs.declared.treatment.Retag.{Retag}
use Rattle.vlan_rule.specs.declared.treatment.Treatment.{Treatment}
use Rattle.vlan_rule.specs.declared.treatment.Treatment.TheVariants as treatment
use Rattle.vlan_rule.specs.Meaning.{ethertype_of, filter_of, treatment_of}
use Rattle.vlan_rule.specs.Choice.{entry_at}
use Rattle.treatment.specs.Compiled.{takes_dscp}
use Rattle.pmapper.specs.Mapper.{Unmarked}
use Rattle.mib_state.specs.Entities.{Entities}
use Rattle.frame_meaning.specs.declared.reason.Reason.{Reason}
use Rattle.frame_meaning.specs.declared.reason.Reason.TheVariants.{NoRule, RuleDiscard, NoMapper}
use Rattle.frame_meaning.specs.Meaning.{Table, found_then, gem_port_of, input_tpid_of, mapper_at, table_at, unmarked_at}
use Rattle.explain.specs.Order.{tried_order}
use Rattle.frame_rows.specs.declared.class.Use.TheVariants.{NoTable, Entry, NoEntry}
use Rattle.frame_rows.specs.declared.class.Ending.{Ending}
use Rattle.frame_rows.specs.declared.class.Ending.TheVariants.{Gem, Dropped}
use Rattle.frame_rows.specs.declared.row.Ends.{Ends}
use Rattle.frame_rows.specs.declared.row.Ends.TheVariants as ends
use Rattle.frame_rows.specs.declared.row.Row.{Row}
use Rattle.frame_rows.specs.declared.source.DscpSource.{DscpSource}
use Rattle.frame_rows.specs.Source.{kept_source, treated_source}
use Rattle.frame_rows.specs.Row.{asks_of, class_by, first_cut_row, keep, runt_row, second_cut_row, tags_of}
use Rattle.frame_rows.specs.Field.{values_of}
use Rattle.frame_rows.specs.Class.{class_of}

-- ---- endings

abbrev pub ending_by : Result ℕ Reason → Ending
ending_by (Ok gem) = Gem gem
ending_by (Err reason) = Dropped reason

-- how the frames of a priority end that leave a port
abbrev pub ending_at : Entities → ℕ → ℕ → Ending
ending_at e port priority =
    ending_by (found_then (ok_or (mapper_at e port) NoMapper) (λ mapper. gem_port_of e mapper priority))

abbrev pub endings_at : Entities → ℕ → List Ending
endings_at e port = map (ending_at e port) (0 ∷ 1 ∷ 2 ∷ 3 ∷ 4 ∷ 5 ∷ 6 ∷ 7 ∷ [])

-- ---- rows

abbrev pub fault_rows : ℕ → List Row
fault_rows input = runt_row ∷ first_cut_row input ∷ second_cut_row input ∷ []

-- the filters that admit the frames with each number of tags
abbrev pub by_count : List Filter
by_count = filter.NoTag ∷ filter.OneTagDefault ∷ filter.TwoTagDefault ∷ []

abbrev pub kept_ends : Option Unmarked → ℕ → Ends
kept_ends None tags = ends.Dropped NoMapper
kept_ends (Some unmarked) tags = ends.ByPriority (kept_source unmarked tags)

abbrev pub kept_row : Option Unmarked → Filter → Row
kept_row unmarked f =
    record {
      used = NoTable;
      ends = kept_ends unmarked (tags_of f);
      asks = asks_of f ethertype.Any customer_tpid;
      tags = tags_of f;
      retag = keep;
      marking = None;
    }

abbrev pub kept_rows : Option Unmarked → List Row
kept_rows unmarked = map (kept_row unmarked) by_count

abbrev pub unmatched_row : ℕ → Filter → Row
unmatched_row input f =
    record {
      used = NoEntry;
      ends = ends.Dropped NoRule;
      asks = asks_of f ethertype.Any input;
      tags = tags_of f;
      retag = keep;
      marking = None;
    }

abbrev pub unmatched_rows : ℕ → List Row
unmatched_rows input = map (unmatched_row input) by_count

abbrev pub treated_ends : Treatment → TableSettings → Option Unmarked → ℕ → Ends
treated_ends treatment.Discard settings unmarked tags = ends.Dropped RuleDiscard
treated_ends (treatment.Retag retag) settings None tags = ends.Dropped NoMapper
treated_ends (treatment.Retag retag) settings (Some unmarked) tags = ends.ByPriority (treated_source retag settings unmarked tags)

-- how the tags change by a treatment
abbrev pub retag_of : Treatment → Retag
retag_of treatment.Discard = keep
retag_of (treatment.Retag retag) = retag

-- the DSCP that gives an added tag its priority, behind so many tags
abbrev pub marking_of : Treatment → TableSettings → ℕ → Option DscpSource
marking_of by settings tags = if takes_dscp by then Some (record { tags = tags; map = settings.dscp_map; without = 0 }) else None

-- that of an entry with a number
abbrev pub entry_row : Table → Option Unmarked → ℕ → List ℕ → Row
entry_row table unmarked number entry =
    record {
      used = Entry number;
      ends = treated_ends (treatment_of entry) table.settings unmarked (tags_of (filter_of entry));
      asks = asks_of (filter_of entry) (ethertype_of entry) table.settings.input_tpid;
      tags = tags_of (filter_of entry);
      retag = retag_of (treatment_of entry);
      marking = marking_of (treatment_of entry) table.settings (tags_of (filter_of entry));
    }

-- those of the entries at some places, of which the first has this number
abbrev pub entry_rows : Table → Option Unmarked → ℕ → List ℕ → List Row
entry_rows table unmarked number [] = []
entry_rows table unmarked number (place ∷ rest) =
    entry_row table unmarked number (entry_at table.entries place) ∷ entry_rows table unmarked (number + 1) rest

abbrev pub table_rows : Option Table → Option Unmarked → List Row
table_rows None unmarked = kept_rows unmarked
table_rows (Some table) unmarked =
    entry_rows table unmarked 0 (tried_order table.entries) ++ unmatched_rows table.settings.input_tpid

abbrev pub rows_by : Option Table → Option Unmarked → List Row
rows_by table unmarked = fault_rows (input_tpid_of table) ++ table_rows table unmarked

-- the rows of a port
abbrev pub rows_of : Entities → ℕ → List Row
rows_of e port = rows_by (table_at e port) (option_map unmarked_at (mapper_at e port))

-- the settings that tags are added with: without a table none is
abbrev pub no_settings : TableSettings
no_settings = record { input_tpid = customer_tpid; output_tpid = customer_tpid; dscp_map = record { 0 = replicate 24 0 } }

abbrev pub settings_by : Option Table → TableSettings
settings_by None = no_settings
settings_by (Some table) = table.settings

abbrev pub settings_at : Entities → ℕ → TableSettings
settings_at e port = settings_by (table_at e port)

-- a row says which DSCP its treatment asks for, by these settings
abbrev pub IsMarked : TableSettings → Row → Type 0
IsMarked settings row = row.marking ≡ marking_of (treatment.Retag row.retag) settings row.tags

-- ---- what rows mean

-- the class of each frame is that of the first row that asks nothing else
pub record Mean (e : Entities) (port : ℕ) (endings : List Ending) (rows : List Row) : Type 0 where
  pub class : (bytes : List ℕ) → All (λ b. b < 2 ^ 8) bytes → class_by endings rows (values_of bytes) ≡ Some (class_of e port bytes)
