-- Rows that some frame may have beside a row of one use.
use Rattle.std.specs.Prelude.{ℕ, Bool, true, not, ◌&&◌, ◌==◌, List, filter, nat_le}
use Rattle.std.specs.List.{list_all, list_any}
use Rattle.frame_rows.specs.declared.ask.Ask.{Ask}
use Rattle.frame_rows.specs.declared.ask.Ask.TheVariants.{Any, Exactly, Between, TagType, NoTagType, Ethertype}
use Rattle.frame_rows.specs.declared.class.Use.{Use}
use Rattle.frame_rows.specs.declared.row.Row.{Row}
use Rattle.frame_rows.specs.Field.{fields}
use Rattle.frame_rows.specs.Row.{ask_at}
use Rattle.frame_rows.specs.Sight.{Side}
use Rattle.frame_classes.specs.Told.{same_use}

-- some value may be as both ask: where this says no, none is
abbrev pub may_meet : Ask → Ask → Bool
may_meet (Exactly value) (Exactly other) = value == other
may_meet (Between least most) (Between least' most') = nat_le least most' && nat_le least' most
may_meet (TagType input filter) (NoTagType input' type) = not (input == input')
may_meet (NoTagType input type) (TagType input' filter) = not (input == input')
may_meet _ _ = true

-- some frame may be as both rows ask
abbrev pub rows_meet : Row → Row → Bool
rows_meet row other = list_all (λ field. may_meet (ask_at row field) (ask_at other field)) fields

-- some frame may be as a row asks, and as one of a use does
abbrev pub meets_use : List Row → Use → Row → Bool
meets_use rows used row = list_any (λ other. same_use other.used used && rows_meet row other) rows

-- a side, and of its rows those that a frame may have for which some rows use this
abbrev pub met : List Row → Use → Side → Side
met rows used side = record side { rows = filter (meets_use rows used) side.rows }
