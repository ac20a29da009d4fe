-- The words that the program knows, as clap reads them.
use Rattle.std.specs.Prelude.{true, Some, codes, pos}
use Rattle.std.specs.Prelude.{◌≡◌, IfOk, Result, false}
use Rattle.std.specs.declared.alloc.AllocError.{AllocError}
use Rattle.clap.specs.Words.{App, Rule, Text, app_of, new_app, new_rule, with_rule, with_subcommand}
use Rattle.clap.specs.declared.builder.command.Command.{Command}
use Rattle.clap.specs.declared.builder.command.Command.TheViews.{out-Command as fields_of}
use Rattle.clap.specs.declared.builder.action.ArgAction.TheVariants.{Append, Set, SetTrue}
use Rattle.clap.specs.declared.builder.value_parser.ValueParser.{ValueParser}
use Rattle.clap.specs.declared.builder.value_parser.ValueParser.TheVariants.{NonEmptyString, Signed, String as AnyString}
use Rattle.run_settings.specs.Settings.{batch_limit, lane_limit}

-- a command that knows these words and no option that goes for its subcommands too, where there was memory to make it
abbrev pub IsCommand : Result Command AllocError → App → Type 0
IsCommand made app = IfOk made (λ command. (app_of command ≡ app) × ((fields_of command).has_globals ≡ false))

-- a required option with a value
abbrev pub valued : Text → ValueParser → Rule
valued name parser = record (new_rule name) {
  long = Some name;
  action = Some Set;
  value_names = 1;
  parser = Some parser;
  required = true;
}

-- an option that names a file
abbrev pub file : Text → Rule
file name = valued name NonEmptyString

-- the file with a trace, which no option's name stands before
abbrev pub trace : Rule
trace = record (new_rule (codes "trace")) {
  action = Some Set;
  value_names = 1;
  parser = Some NonEmptyString;
  required = true;
}

-- the files with traces, at least one
abbrev pub traces : Rule
traces = record (new_rule (codes "trace")) {
  action = Some Append;
  value_names = 1;
  parser = Some NonEmptyString;
  required = true;
}

-- an option without a value
abbrev pub flag : Text → Rule
flag name = record (new_rule name) { long = Some name; action = Some SetTrue }

abbrev pub port : Rule
port = valued (codes "port") (Signed (pos 0) (pos 65535))

abbrev pub after : Rule
after = flag (codes "after")

abbrev pub json : Rule
json = flag (codes "json")

-- an option with a value that may be left out
abbrev pub optional : Text → ValueParser → Rule
optional name parser = record (new_rule name) {
  long = Some name;
  action = Some Set;
  value_names = 1;
  parser = Some parser;
}

abbrev pub lanes : Rule
lanes = optional (codes "lanes") (Signed (pos 1) (pos lane_limit))

abbrev pub batch : Rule
batch = optional (codes "batch") (Signed (pos 1) (pos batch_limit))

-- a file that is written, or standard output
abbrev pub out : Rule
out = optional (codes "out") NonEmptyString

abbrev pub dropped : Rule
dropped = optional (codes "dropped") NonEmptyString

abbrev pub verdicts : Rule
verdicts = optional (codes "verdicts") NonEmptyString

-- the number of a line, or of a frame
abbrev pub numbered : Text → Rule
numbered name = optional name (Signed (pos 1) (pos 4294967295))

abbrev pub until : Rule
until = numbered (codes "until")

abbrev pub strict : Rule
strict = flag (codes "strict")

-- an option with a value that may be given several times
abbrev pub several : Text → Rule
several name = record (new_rule name) {
  long = Some name;
  action = Some Append;
  value_names = 1;
  parser = Some NonEmptyString;
}

-- a number of milliseconds
abbrev pub milliseconds : Text → Rule
milliseconds name = optional name (Signed (pos 0) (pos 4294967295))

-- the bytes of a frame, which no option's name stands before, and which may be left out
abbrev pub bytes : Rule
bytes = record (new_rule (codes "bytes")) {
  action = Some Set;
  value_names = 1;
  parser = Some AnyString;
}

abbrev pub modelled : Rule
modelled = flag (codes "modelled")

abbrev pub unordered : Rule
unordered = flag (codes "unordered")

abbrev pub allow_strays : Rule
allow_strays = flag (codes "allow-strays")

abbrev pub padded : Rule
padded = flag (codes "padded")

abbrev pub allow_unfinished : Rule
allow_unfinished = flag (codes "allow-unfinished")

abbrev pub repeats : Rule
repeats = flag (codes "repeats")

-- a script that is carried out before the history
abbrev pub start : Rule
start = optional (codes "start") NonEmptyString

-- how many deviations are listed
abbrev pub most : Rule
most = numbered (codes "most")

-- whether the coverage is listed
abbrev pub coverage : Rule
coverage = flag (codes "coverage")

-- a file with a history, which may be left out
abbrev pub history : Rule
history = record (new_rule (codes "history")) {
  action = Some Set;
  value_names = 1;
  parser = Some NonEmptyString;
}

-- a file with a script, which may be left out
abbrev pub script : Rule
script = record (new_rule (codes "script")) {
  action = Some Set;
  value_names = 1;
  parser = Some NonEmptyString;
}

-- the same, of which there may be several
abbrev pub scripts : Rule
scripts = record (new_rule (codes "script")) {
  action = Some Append;
  value_names = 1;
  parser = Some NonEmptyString;
}

abbrev pub replay : App
replay = with_rule (with_rule (new_app (codes "replay")) json) script

-- what names the two files and a port
abbrev pub over_files : Text → App
over_files name = with_rule (with_rule (with_rule (new_app name) trace) (file (codes "frames"))) port

-- what says how frames are forwarded
abbrev pub on_lanes : App
on_lanes = with_rule (with_rule (with_rule (over_files (codes "run")) lanes) batch) after

abbrev pub run : App
run = with_rule (with_rule on_lanes until) json

-- what names the files that are written
abbrev pub to_files : App
to_files = with_rule (with_rule (with_rule (over_files (codes "forward")) out) dropped) verdicts

abbrev pub forward : App
forward = with_rule (with_rule (with_rule to_files until) strict) json

abbrev pub source : Rule
source = flag (codes "source")

abbrev pub decode : App
decode = with_rule (with_rule (with_rule (new_app (codes "decode")) source) json) scripts

-- what names a trace, how far it is read, and whether each message has to be carried out
abbrev pub over_trace : Text → App
over_trace name = with_rule (with_rule (with_rule (new_app name) trace) until) strict

-- what names several, and how each is read; and whether objects are shown
abbrev pub over_traces : Text → App
over_traces name = with_rule (with_rule (with_rule (with_rule (new_app name) traces) until) strict) json

abbrev pub mib : App
mib = over_traces (codes "mib")

abbrev pub rules : App
rules = with_rule (over_traces (codes "rules")) port

-- whether each entry is shown that fails
abbrev pub all : Rule
all = flag (codes "all")

-- what names a frame by its bytes
abbrev pub of_bytes : App
of_bytes = with_rule (with_rule (with_rule (with_rule (over_trace (codes "explain")) json) port) all) bytes

abbrev pub explain : App
explain = with_rule (with_rule of_bytes (optional (codes "frames") NonEmptyString)) (numbered (codes "frame"))

abbrev pub lint : App
lint = with_rule (with_rule (over_traces (codes "lint")) (several (codes "ignore"))) (optional (codes "fail-on") NonEmptyString)

-- a port that may be left out
abbrev pub any_port : Rule
any_port = optional (codes "port") (Signed (pos 0) (pos 65535))

abbrev pub graph : App
graph = with_rule (over_trace (codes "graph")) any_port

-- how many bytes a frame has at least
abbrev pub least : Rule
least = optional (codes "least") (Signed (pos 0) (pos 9989))

-- what picks the frames that are listed
abbrev pub of_frames : App
of_frames = with_rule (with_rule (over_trace (codes "cover")) any_port) least

abbrev pub cover : App
cover = with_rule (with_rule (with_rule of_frames (flag (codes "script"))) out) json

-- the line behind which the first of two configurations stands, or none of a trace
abbrev pub beginning : ValueParser
beginning = Signed (pos 0) (pos 4294967295)

-- what names two configurations
abbrev pub of_sides : App
of_sides = with_rule (with_rule (over_trace (codes "diff")) (optional (codes "from") beginning)) (optional (codes "to") NonEmptyString)

abbrev pub diff : App
diff = with_rule (with_rule (with_rule of_sides any_port) least) json

-- what names a change
abbrev pub of_change : App
of_change = with_rule (over_trace (codes "hitless")) (valued (codes "from") beginning)

abbrev pub hitless : App
hitless = with_rule (with_rule (with_rule of_change any_port) least) json

-- a file with expectations, which may be left out
abbrev pub expectations : Rule
expectations = record (new_rule (codes "expectations")) {
  action = Some Set;
  value_names = 1;
  parser = Some NonEmptyString;
}

-- what names versions
abbrev pub by_versions : App
by_versions = with_rule (over_trace (codes "expect")) (optional (codes "from") beginning)

abbrev pub expect : App
expect = with_rule (with_rule (with_rule by_versions least) json) expectations

-- the identifier of the first message
abbrev pub identifier : Rule
identifier = optional (codes "id") (Signed (pos 0) (pos 65535))

-- what names two configurations between which a way is looked for
abbrev pub between_sides : App
between_sides = with_rule (with_rule (over_trace (codes "migrate")) (optional (codes "from") beginning)) (optional (codes "to") NonEmptyString)

-- and what says which
abbrev pub by_wants : App
by_wants = with_rule (with_rule (with_rule between_sides (flag (codes "leave"))) identifier) (flag (codes "no-ties"))

abbrev pub migrate : App
migrate = with_rule by_wants json

-- what says how a history is judged
abbrev pub by_settings : App
by_settings =
    with_rule (with_rule (with_rule (with_rule (with_rule (new_app (codes "judge")) modelled) unordered) allow_strays) padded) allow_unfinished

-- and what of it
abbrev pub by_wishes : App
by_wishes = with_rule (with_rule (with_rule (with_rule by_settings repeats) start) all) most

-- and of every frame
abbrev pub by_frames : App
by_frames = with_rule (with_rule by_wishes coverage) least

abbrev pub judge : App
judge = with_rule (with_rule by_frames json) history

-- a file with a text in words, which may be left out
abbrev pub text : Rule
text = record (new_rule (codes "text")) {
  action = Some Set;
  value_names = 1;
  parser = Some NonEmptyString;
}

abbrev pub encode : App
encode = with_rule (with_rule (new_app (codes "encode")) identifier) text

-- what names captures
abbrev pub of_captures : App
of_captures =
    with_rule (with_rule (with_rule (new_app (codes "record")) (several (codes "omci"))) (several (codes "into"))) (several (codes "out-of"))

-- what says which types begin a tag, and how long is waited
abbrev pub by_times : App
by_times =
    with_rule (with_rule (with_rule (with_rule (with_rule of_captures (several (codes "tpid"))) (milliseconds (codes "wait"))) (milliseconds (codes "lost")))
    (flag (codes "late"))) (flag (codes "early"))

-- what says how the frames of captures are read
abbrev pub by_captures : App
by_captures = with_rule (with_rule (with_rule by_times (several (codes "skew"))) (flag (codes "fcs"))) (flag (codes "padded"))

abbrev pub recording : App
recording = with_rule (with_rule (with_rule by_captures (flag (codes "sources"))) out) (flag (codes "strict"))

-- the program alone, which shows its help where no word follows
abbrev pub alone : App
alone = record (new_app (codes "onuctl")) {
  top = record (new_app (codes "onuctl")).top { has_version = true; subcommand_required = true; arg_required_else_help = true };
}

-- what answers and forwards
abbrev pub with_doing : App → App
with_doing app = with_subcommand (with_subcommand app replay.top) run.top

-- what looks inside
abbrev pub with_looking : App → App
with_looking app = with_subcommand (with_subcommand (with_subcommand (with_subcommand app decode.top) mib.top) rules.top) explain.top

-- what judges, makes captures and reads them, and what makes scripts
abbrev pub with_captures : App → App
with_captures app = with_subcommand (with_subcommand (with_subcommand (with_subcommand app judge.top) forward.top) recording.top) encode.top

-- what is suspect in entities, and how they point to each other
abbrev pub with_pictures : App → App
with_pictures app = with_subcommand (with_subcommand app lint.top) graph.top

-- what says what becomes of every frame
abbrev pub with_frames : App → App
with_frames app =
    with_subcommand (with_subcommand (with_subcommand (with_subcommand (with_subcommand app cover.top) diff.top) hitless.top) expect.top) migrate.top

abbrev pub onuctl : App
onuctl = with_frames (with_pictures (with_captures (with_looking (with_doing alone))))
