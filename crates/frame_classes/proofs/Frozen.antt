-- The tags with which frames leave, where the priority of their DSCP is held.
use Rattle.std.proofs.Common.{ℕ, List, ◌++◌, Option, drop}
use Rattle.tag_view.specs.Tag.{TagFields}
use Rattle.vlan_rule.specs.declared.settings.TableSettings.{TableSettings}
use Rattle.treatment.specs.Treatment.{additions_from, left_of}
use Rattle.frame_rows.specs.declared.field.Values.{Values}
use Rattle.frame_rows.specs.declared.row.Row.{Row}
use Rattle.frame_rows.specs.Sight.{slots}

-- with this DSCP it is `leaving`
abbrev pub frozen : TableSettings → ℕ → Row → Option ℕ → Values → List TagFields
frozen settings count row dscp values =
    (additions_from row.retag settings (slots row.tags values) dscp ++ left_of row.retag.remove (slots row.tags values))
    ++ drop row.tags (slots count values)
