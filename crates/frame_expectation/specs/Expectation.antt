-- What is expected of the frames that come in at a port: which frames an expectation speaks of, and which of them meet it.
use Rattle.std.specs.Prelude.{ℕ, Bool, false, ◌&&◌, List, Option, Result, Ok, Err}
use Rattle.tag_view.specs.Frame.{Reading, reading_of}
use Rattle.mib_state.specs.Entities.{Entities}
use Rattle.frame_meaning.specs.declared.reason.Reason.{Reason}
use Rattle.frame_meaning.specs.declared.verdict.Verdict.{Verdict}
use Rattle.frame_meaning.specs.Meaning.{Table, input_tpid_of, meaning, read_at, table_at}
use Rattle.frame_expectation.specs.declared.expectation.Expectation.{Expectation}
use Rattle.frame_expectation.specs.declared.filter.FrameFilter.{FrameFilter}
use Rattle.frame_expectation.specs.Filter.{is_as}
use Rattle.frame_expectation.specs.Wanted.{bytes_wanted, ends_as, leaves_with, settings_by}

-- a frame that is read is as the filter asks; one that can't be read is not
abbrev pub admits_read : FrameFilter → Result Reading Reason → Bool
admits_read filter (Ok frame) = is_as filter frame
admits_read filter (Err reason) = false

-- a frame can be read at the port, by the input TPID of its table, and is as the filter asks
unfoldable pub admits : Entities → Expectation → List ℕ → Bool
admits e expected bytes = admits_read expected.filter (read_at (table_at e expected.port) bytes)

-- a frame ends as is wanted, by a table, and leaves with the bytes that are wanted, if any are
abbrev pub meets_by : Expectation → Option Table → List ℕ → Verdict → Bool
meets_by expected table bytes verdict =
    ends_as expected.ending verdict
    && leaves_with (bytes_wanted expected.treatment (settings_by table) bytes (reading_of (input_tpid_of table) bytes)) verdict

-- what becomes of a frame is as is wanted
unfoldable pub meets : Entities → Expectation → List ℕ → Bool
meets e expected bytes = meets_by expected (table_at e expected.port) bytes (meaning e expected.port bytes)
