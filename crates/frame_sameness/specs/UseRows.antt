-- Rows whose frames leave with a tag that says what the table uses for them.
use Rattle.std.specs.Prelude.{ℕ, ◌+◌, ◌*◌, Bool, Some, None, if◌then◌else◌, map, replicate}
use Rattle.vlan_rule.specs.declared.treatment.PrioritySource.TheVariants as from_priority
use Rattle.vlan_rule.specs.declared.treatment.VidSource.TheVariants as from_vid
use Rattle.vlan_rule.specs.declared.treatment.TpidSource.TheVariants as from_tpid
use Rattle.vlan_rule.specs.declared.treatment.EligibleSource.TheVariants as from_eligible
use Rattle.vlan_rule.specs.declared.treatment.Retag.{Retag}
use Rattle.frame_rows.specs.declared.class.Ending.TheVariants.{Gem}
use Rattle.frame_rows.specs.declared.class.Use.{Use}
use Rattle.frame_rows.specs.declared.class.Use.TheVariants.{Unread, NoTable, Entry, NoEntry}
use Rattle.frame_rows.specs.declared.field.Field.TheVariants.{Length}
use Rattle.frame_rows.specs.declared.row.Ends.TheVariants as ends
use Rattle.frame_rows.specs.declared.row.Row.{Row}
use Rattle.frame_rows.specs.declared.source.Source.TheVariants.{Fixed}
use Rattle.frame_rows.specs.Fits.{asks_long}
use Rattle.frame_rows.specs.Row.{ask_at}
use Rattle.frame_rows.specs.Sight.{Side}

-- a number of each use's own
abbrev pub use_code : Use → ℕ
use_code Unread = 0
use_code NoTable = 1
use_code NoEntry = 2
use_code (Entry number) = 3 + number

-- the tag of a use goes before the others
abbrev pub use_retag : Use → Retag
use_retag used =
    record {
      remove = 0;
      outer = None;
      inner = Some (record { priority = from_priority.Fixed 0; vid = from_vid.Fixed (use_code used); tpid = from_tpid.Standard; eligible = from_eligible.Clear });
    }

-- the frames of a row have the tags that it reads, and a type behind them
abbrev pub is_long : Row → Bool
is_long row = asks_long (14 + 4 * row.tags) (ask_at row Length)

-- a row of the same frames, which leave with the tag of its use
abbrev pub use_row : Row → Row
use_row row =
    if is_long row then record {
      used = row.used;
      ends = ends.ByPriority (Fixed 0);
      asks = row.asks;
      tags = row.tags;
      retag = use_retag row.used;
      marking = None;
    } else row

-- such rows of a side, which all leave by one GEM port
abbrev pub use_side : Side → Side
use_side side = record { settings = side.settings; endings = replicate 8 (Gem 0); rows = map use_row side.rows }
