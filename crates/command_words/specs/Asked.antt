-- What the words ask for.
use Rattle.std.specs.Prelude.{◌≡◌, ◌≢◌, ◌≢◌, ◌≤◌, ◌&&◌, ℕ, Bool, true, false, not, is_some, List, [], Option, Some, None, codes, map, option_map, unwrap_or}
use Rattle.std.specs.Borrow.{Bor}
use Rattle.std.specs.Str.{bytes_eq}
use Rattle.std.specs.Str.Parse.{IsNumeral, digits_value, without_leading_plus}
use Rattle.clap.specs.Words.{Row, Text, all_of, first_of, one_of}
use Rattle.run_settings.specs.Settings.{default_batch, default_lanes}
use Rattle.command_words.specs.declared.words.RunWords.{RunWords}
use Rattle.command_words.specs.declared.words.MibWords.{MibWords}
use Rattle.command_words.specs.declared.words.RulesWords.{RulesWords}
use Rattle.command_words.specs.declared.words.ExplainWords.{ExplainWords}
use Rattle.command_words.specs.declared.words.JudgeWords.{JudgeWords}
use Rattle.command_words.specs.declared.words.FrameWords.{FrameWords}
use Rattle.command_words.specs.declared.words.FrameWords.TheVariants.{Bytes, Captured}
use Rattle.command_words.specs.declared.words.TraceWords.{TraceWords}
use Rattle.command_words.specs.declared.words.TracesWords.{TracesWords}
use Rattle.command_words.specs.declared.words.ForwardWords.{ForwardWords}
use Rattle.command_words.specs.declared.words.RecordWords.{RecordWords}
use Rattle.command_words.specs.declared.words.ReplayWords.{ReplayWords}
use Rattle.command_words.specs.declared.words.LintWords.{LintWords}
use Rattle.command_words.specs.declared.words.CoverWords.{CoverWords}
use Rattle.command_words.specs.declared.words.DiffWords.{DiffWords}
use Rattle.command_words.specs.declared.words.HitlessWords.{HitlessWords}
use Rattle.command_words.specs.declared.expecting.ExpectWords.{ExpectWords}
use Rattle.command_words.specs.declared.migrating.MigrateWords.{MigrateWords}
use Rattle.command_words.specs.declared.words.GraphWords.{GraphWords}
use Rattle.command_words.specs.declared.words.DecodeWords.{DecodeWords}
use Rattle.command_words.specs.declared.words.EncodeWords.{EncodeWords}
use Rattle.command_words.specs.declared.words.Words.{Words}
use Rattle.command_words.specs.declared.words.Words.TheVariants.{Replay, Run, Decode, Mib, Rules, Explain, Judge, Forward, Record, Encode, Lint, Graph, Cover, Diff, Hitless, Expect, Migrate}

-- the value of an option is a number in decimal digits
pub record IsNumber (name : Text) (rows : List Row) (n : ℕ) : Type 0 where
  pub text : Text
  pub value : one_of name rows ≡ Some text
  pub numeral : IsNumeral 10 (without_leading_plus text)
  pub number : n ≡ digits_value 10 (without_leading_plus text)

-- the same of an option that may be left out
abbrev pub IsOptionalNumber : Text → List Row → Option ℕ → Type 0
IsOptionalNumber name rows None = first_of name rows ≡ None
IsOptionalNumber name rows (Some n) = IsNumber name rows n

-- the number of such an option, or this one where it is left out
pub record IsNumberOr (default : ℕ) (name : Text) (rows : List Row) (n : ℕ) : Type 0 where
  pub given : Option ℕ
  pub value : IsOptionalNumber name rows given
  pub number : n ≡ unwrap_or given default

-- whether an option without a value is given
pub record IsFlag (name : Text) (rows : List Row) (given : Bool) : Type 0 where
  pub with : one_of name rows ≡ Some (codes "true") → given ≡ true
  pub without : one_of name rows ≡ Some (codes "false") → given ≡ false

-- those behind `replay`
pub record IsReplay (rows : List Row) (words : ReplayWords) : Type 0 where
  pub file : first_of (codes "script") rows ≡ option_map (λ (name : _). name.now) words.file
  pub json : IsFlag (codes "json") rows words.json

-- the values of the options behind `run`
pub record IsRun (rows : List Row) (words : RunWords) : Type 0 where
  pub trace : first_of (codes "trace") rows ≡ Some words.trace.now
  pub frames : first_of (codes "frames") rows ≡ Some words.frames.now
  pub port : IsNumber (codes "port") rows words.settings.port
  pub until : IsOptionalNumber (codes "until") rows words.until
  pub lanes : IsNumberOr default_lanes (codes "lanes") rows words.settings.lanes
  pub batch : IsNumberOr default_batch (codes "batch") rows words.settings.batch
  pub after : IsFlag (codes "after") rows words.settings.after
  pub json : IsFlag (codes "json") rows words.json

-- which messages are applied
pub record IsTrace (rows : List Row) (words : TraceWords) : Type 0 where
  pub file : first_of (codes "trace") rows ≡ Some words.file.now
  pub until : IsOptionalNumber (codes "until") rows words.until
  pub strict : IsFlag (codes "strict") rows words.strict

-- the texts of what may be given several times, in order
abbrev pub texts_given : Option (List Text) → List Text
texts_given None = []
texts_given (Some texts) = texts

abbrev pub AreTexts : Text → List Row → List (Bor Text) → Type 0
AreTexts name rows texts = map (λ (text : Bor Text). text.now) texts ≡ texts_given (all_of name rows)

-- the same of several files, at least one
pub record IsTraces (rows : List Row) (words : TracesWords) : Type 0 where
  pub files : AreTexts (codes "trace") rows words.files.items
  pub some : words.files.items ≢ []
  pub until : IsOptionalNumber (codes "until") rows words.until
  pub strict : IsFlag (codes "strict") rows words.strict

-- those behind `mib`
pub record IsMib (rows : List Row) (words : MibWords) : Type 0 where
  pub traces : IsTraces rows words.traces
  pub json : IsFlag (codes "json") rows words.json

-- those behind `rules`
pub record IsRules (rows : List Row) (words : RulesWords) : Type 0 where
  pub traces : IsTraces rows words.traces
  pub port : IsNumber (codes "port") rows words.port
  pub json : IsFlag (codes "json") rows words.json

-- the frame is given by its bytes alone, or by a capture and its number there
abbrev pub IsFrame : List Row → FrameWords → Type 0
IsFrame rows (Bytes digits) =
    (first_of (codes "bytes") rows ≡ Some digits.now)
    × (first_of (codes "frames") rows ≡ None)
    × (first_of (codes "frame") rows ≡ None)
IsFrame rows (Captured file number) =
    (first_of (codes "bytes") rows ≡ None)
    × (first_of (codes "frames") rows ≡ Some file.now)
    × IsNumber (codes "frame") rows number

-- those behind `explain`
pub record IsExplain (rows : List Row) (words : ExplainWords) : Type 0 where
  pub trace : IsTrace rows words.trace
  pub port : IsNumber (codes "port") rows words.port
  pub all : IsFlag (codes "all") rows words.all
  pub json : IsFlag (codes "json") rows words.json
  pub frame : IsFrame rows words.frame

-- how many deviations are listed where nothing says it
abbrev pub most_listed : ℕ
most_listed = 100

-- whether all deviations are asked for
abbrev pub is_true : Option Text → Bool
is_true (Some text) = bytes_eq text (codes "true")
is_true None = false

abbrev pub asks_for_all : List Row → Bool
asks_for_all rows = is_true (first_of (codes "all") rows)

-- how many deviations are listed at most: where all are asked for so many as `most` says; else none, and `most` isn't given
abbrev pub IsListed : List Row → Option ℕ → Type 0
IsListed rows (Some n) = (asks_for_all rows ≡ true) × IsNumberOr most_listed (codes "most") rows n
IsListed rows None = (asks_for_all rows ≡ false) × (first_of (codes "most") rows ≡ None)

-- whether the coverage is asked for, and whether frames are judged each by itself
abbrev pub asks_for_coverage : List Row → Bool
asks_for_coverage rows = is_true (first_of (codes "coverage") rows)

abbrev pub asks_for_each : List Row → Bool
asks_for_each rows = is_true (first_of (codes "unordered") rows)

-- how many bytes a frame has at least whose class is listed as tried or not: where the coverage is asked for so many as `least` says; else
-- none, and `least` isn't given. The coverage isn't asked for where frames are judged each by itself
abbrev pub IsCoverage : List Row → Option ℕ → Type 0
IsCoverage rows (Some n) = (asks_for_coverage rows ≡ true) × (asks_for_each rows ≡ false) × IsNumberOr 0 (codes "least") rows n
IsCoverage rows None = (asks_for_coverage rows ≡ false) × (first_of (codes "least") rows ≡ None)

-- those behind `judge`
pub record IsJudge (rows : List Row) (words : JudgeWords) : Type 0 where
  pub file : first_of (codes "history") rows ≡ option_map (λ (name : _). name.now) words.file
  pub modelled : IsFlag (codes "modelled") rows words.modelled
  pub unordered : IsFlag (codes "unordered") rows words.unordered
  pub allow_strays : IsFlag (codes "allow-strays") rows words.allow_strays
  pub padded : IsFlag (codes "padded") rows words.padded
  pub repeats : IsFlag (codes "repeats") rows words.repeats
  pub start : first_of (codes "start") rows ≡ option_map (λ (name : _). name.now) words.start
  pub listed : IsListed rows words.listed
  pub coverage : IsCoverage rows words.coverage
  pub allow_unfinished : IsFlag (codes "allow-unfinished") rows words.allow_unfinished
  pub json : IsFlag (codes "json") rows words.json

-- those behind `forward`
pub record IsForward (rows : List Row) (words : ForwardWords) : Type 0 where
  pub trace : IsTrace rows words.trace
  pub frames : first_of (codes "frames") rows ≡ Some words.frames.now
  pub port : IsNumber (codes "port") rows words.port
  pub out : first_of (codes "out") rows ≡ option_map (λ (name : _). name.now) words.out
  pub dropped : first_of (codes "dropped") rows ≡ option_map (λ (name : _). name.now) words.dropped
  pub verdicts : first_of (codes "verdicts") rows ≡ option_map (λ (name : _). name.now) words.verdicts
  pub json : IsFlag (codes "json") rows words.json

-- whether frames are said to be on their way as captures began
abbrev pub asks_for_late : List Row → Bool
asks_for_late rows = is_true (first_of (codes "late") rows)

-- whether they were, where it is said too when a frame is lost
abbrev pub IsLate : List Row → Option ℕ → Bool → Type 0
IsLate rows lost late = (late ≡ asks_for_late rows) × ((not (is_some lost) && late) ≡ false)

-- those behind `record`
pub record IsRecord (rows : List Row) (words : RecordWords) : Type 0 where
  pub omci : AreTexts (codes "omci") rows words.omci.items
  pub into : AreTexts (codes "into") rows words.into.items
  pub out_of : AreTexts (codes "out-of") rows words.out_of.items
  pub tpids : AreTexts (codes "tpid") rows words.tpids.items
  pub wait : IsOptionalNumber (codes "wait") rows words.wait
  pub lost : IsOptionalNumber (codes "lost") rows words.lost
  pub late : IsLate rows words.lost words.late
  pub early : IsFlag (codes "early") rows words.early
  pub skews : AreTexts (codes "skew") rows words.skews.items
  pub fcs : IsFlag (codes "fcs") rows words.fcs
  pub padded : IsFlag (codes "padded") rows words.padded
  pub sources : IsFlag (codes "sources") rows words.sources
  pub out : first_of (codes "out") rows ≡ option_map (λ (name : _). name.now) words.out
  pub strict : IsFlag (codes "strict") rows words.strict

-- those behind `decode`
pub record IsDecode (rows : List Row) (words : DecodeWords) : Type 0 where
  pub files : AreTexts (codes "script") rows words.files.items
  pub source : IsFlag (codes "source") rows words.source
  pub json : IsFlag (codes "json") rows words.json

-- those behind `lint`
pub record IsLint (rows : List Row) (words : LintWords) : Type 0 where
  pub traces : IsTraces rows words.traces
  pub ignored : AreTexts (codes "ignore") rows words.ignored.items
  pub fail_on : first_of (codes "fail-on") rows ≡ option_map (λ (name : _). name.now) words.fail_on
  pub json : IsFlag (codes "json") rows words.json

-- those behind `graph`
pub record IsGraph (rows : List Row) (words : GraphWords) : Type 0 where
  pub trace : IsTrace rows words.trace
  pub port : IsOptionalNumber (codes "port") rows words.port

-- those behind `cover`
pub record IsCover (rows : List Row) (words : CoverWords) : Type 0 where
  pub trace : IsTrace rows words.trace
  pub port : IsOptionalNumber (codes "port") rows words.port
  pub least : IsOptionalNumber (codes "least") rows words.least
  pub script : IsFlag (codes "script") rows words.script
  pub json : IsFlag (codes "json") rows words.json
  pub out : first_of (codes "out") rows ≡ option_map (λ (name : _). name.now) words.out

-- a line is not behind another, or that one is the last
abbrev pub IsNotBehind : Option ℕ → ℕ → Type 0
IsNotBehind None from = Unit {0}
IsNotBehind (Some until) from = from ≤ until

-- two configurations are named: by a trace of its own for the one after; or by a line of the only trace for the one before, which is not
-- behind that for the one after
abbrev pub AreSides : Option (Bor Text) → Option ℕ → Option ℕ → Type 0
AreSides (Some to) from until = Unit {0}
AreSides None None until = ⊥
AreSides None (Some from) until = IsNotBehind until from

-- those behind `diff`
pub record IsDiff (rows : List Row) (words : DiffWords) : Type 0 where
  pub trace : IsTrace rows words.trace
  pub from : IsOptionalNumber (codes "from") rows words.from
  pub to : first_of (codes "to") rows ≡ option_map (λ (name : _). name.now) words.to
  pub sides : AreSides words.to words.from words.trace.until
  pub port : IsOptionalNumber (codes "port") rows words.port
  pub least : IsOptionalNumber (codes "least") rows words.least
  pub json : IsFlag (codes "json") rows words.json

-- those behind `hitless`
pub record IsHitless (rows : List Row) (words : HitlessWords) : Type 0 where
  pub trace : IsTrace rows words.trace
  pub from : IsNumber (codes "from") rows words.from
  pub order : IsNotBehind words.trace.until words.from
  pub port : IsOptionalNumber (codes "port") rows words.port
  pub least : IsOptionalNumber (codes "least") rows words.least
  pub json : IsFlag (codes "json") rows words.json

-- a line that may be left out is not behind another
abbrev pub AreInOrder : Option ℕ → Option ℕ → Type 0
AreInOrder until None = Unit {0}
AreInOrder until (Some from) = IsNotBehind until from

-- those behind `expect`
pub record IsExpect (rows : List Row) (words : ExpectWords) : Type 0 where
  pub trace : IsTrace rows words.trace
  pub from : IsOptionalNumber (codes "from") rows words.from
  pub order : AreInOrder words.trace.until words.from
  pub file : first_of (codes "expectations") rows ≡ option_map (λ (name : _). name.now) words.file
  pub least : IsOptionalNumber (codes "least") rows words.least
  pub json : IsFlag (codes "json") rows words.json

-- those behind `migrate`
pub record IsMigrate (rows : List Row) (words : MigrateWords) : Type 0 where
  pub trace : IsTrace rows words.trace
  pub from : IsOptionalNumber (codes "from") rows words.from
  pub to : first_of (codes "to") rows ≡ option_map (λ (name : _). name.now) words.to
  pub sides : AreSides words.to words.from words.trace.until
  pub leave : IsFlag (codes "leave") rows words.leave
  pub identifier : IsOptionalNumber (codes "id") rows words.identifier
  pub no_ties : IsFlag (codes "no-ties") rows words.no_ties
  pub json : IsFlag (codes "json") rows words.json

-- those behind `encode`
pub record IsEncode (rows : List Row) (words : EncodeWords) : Type 0 where
  pub file : first_of (codes "text") rows ≡ option_map (λ (name : _). name.now) words.file
  pub identifier : IsOptionalNumber (codes "id") rows words.identifier

-- what a subcommand asks for, by its name and the values of its options
abbrev pub IsAskedBy : Option (Text × List Row) → Words → Type 0
IsAskedBy None words = ⊥
IsAskedBy (Some (name, rows)) (Replay words) = (name ≡ codes "replay") × IsReplay rows words
IsAskedBy (Some (name, rows)) (Run words) = (name ≡ codes "run") × IsRun rows words
IsAskedBy (Some (name, rows)) (Decode words) = (name ≡ codes "decode") × IsDecode rows words
IsAskedBy (Some (name, rows)) (Mib words) = (name ≡ codes "mib") × IsMib rows words
IsAskedBy (Some (name, rows)) (Rules words) = (name ≡ codes "rules") × IsRules rows words
IsAskedBy (Some (name, rows)) (Explain words) = (name ≡ codes "explain") × IsExplain rows words
IsAskedBy (Some (name, rows)) (Judge words) = (name ≡ codes "judge") × IsJudge rows words
IsAskedBy (Some (name, rows)) (Forward words) = (name ≡ codes "forward") × IsForward rows words
IsAskedBy (Some (name, rows)) (Record words) = (name ≡ codes "record") × IsRecord rows words
IsAskedBy (Some (name, rows)) (Encode words) = (name ≡ codes "encode") × IsEncode rows words
IsAskedBy (Some (name, rows)) (Lint words) = (name ≡ codes "lint") × IsLint rows words
IsAskedBy (Some (name, rows)) (Graph words) = (name ≡ codes "graph") × IsGraph rows words
IsAskedBy (Some (name, rows)) (Cover words) = (name ≡ codes "cover") × IsCover rows words
IsAskedBy (Some (name, rows)) (Diff words) = (name ≡ codes "diff") × IsDiff rows words
IsAskedBy (Some (name, rows)) (Hitless words) = (name ≡ codes "hitless") × IsHitless rows words
IsAskedBy (Some (name, rows)) (Expect words) = (name ≡ codes "expect") × IsExpect rows words
IsAskedBy (Some (name, rows)) (Migrate words) = (name ≡ codes "migrate") × IsMigrate rows words

-- all but what names files or options several times
abbrev pub HasNoList : Words → Type 0
HasNoList (Replay words) = Unit {0}
HasNoList (Run words) = Unit {0}
HasNoList (Decode words) = ⊥
HasNoList (Mib words) = ⊥
HasNoList (Rules words) = ⊥
HasNoList (Explain words) = Unit {0}
HasNoList (Judge words) = Unit {0}
HasNoList (Forward words) = Unit {0}
HasNoList (Record words) = ⊥
HasNoList (Encode words) = Unit {0}
HasNoList (Lint words) = ⊥
HasNoList (Graph words) = Unit {0}
HasNoList (Cover words) = Unit {0}
HasNoList (Diff words) = Unit {0}
HasNoList (Hitless words) = Unit {0}
HasNoList (Expect words) = Unit {0}
HasNoList (Migrate words) = Unit {0}

-- what shows where the frames of a port go
abbrev pub IsLook : Words → Type 0
IsLook (Replay words) = ⊥
IsLook (Run words) = ⊥
IsLook (Decode words) = ⊥
IsLook (Mib words) = ⊥
IsLook (Rules words) = ⊥
IsLook (Explain words) = Unit {0}
IsLook (Judge words) = ⊥
IsLook (Forward words) = ⊥
IsLook (Record words) = ⊥
IsLook (Encode words) = ⊥
IsLook (Lint words) = ⊥
IsLook (Graph words) = Unit {0}
IsLook (Cover words) = Unit {0}
IsLook (Diff words) = Unit {0}
IsLook (Hitless words) = Unit {0}
IsLook (Expect words) = Unit {0}
IsLook (Migrate words) = Unit {0}
