-- What the judgement of a history says by its number and its line.
use Rattle.std.specs.Prelude.{◌≡◌, ◌<◌, ◌⊎◌, ℕ, ◌+◌, ◌/◌, ◌%◌, ◌^◌, ℤ, pos, Bool, true, false, ◌||◌, ◌==◌, nat_lt, if◌then◌else◌, List, [], ◌∷◌, Option, Some, None, Ok, Err, is_some, length}
use Rattle.omci_msg.specs.declared.request.Request.{Request}
use Rattle.script_trace.specs.Script.{first_bad}
use Rattle.script_trace.specs.Trace.{requests_of}
use Rattle.bench_history.specs.History.{history_of, is_ended}
use Rattle.bench_history.specs.declared.event.Event.{Event}
use Rattle.onu_cell.specs.Numbers.{bad_flags, bad_line, bad_start, no_memory, small}
use Rattle.bench_judge.specs.Deviations.{AreFindings}
use Rattle.bench_judge.specs.Evidence.{IsEvidence, passes}
use Rattle.bench_judge.specs.Explained.{IsExplained}
use Rattle.bench_judge.specs.Judged.{IsFirstUnexplained, IsJudgement}
use Rattle.bench_judge.specs.Terms.{Terms, ground_in}
use Rattle.bench_judge.specs.declared.judgement.Deviation.{Deviation}
use Rattle.bench_judge.specs.declared.judgement.Evidence.TheVariants.{Judged, NoFrame, Nothing}
use Rattle.bench_judge.specs.declared.judgement.Findings.TheVariants as findings
use Rattle.bench_judge.specs.declared.judgement.Judgement.{Judgement}
use Rattle.bench_judge.specs.declared.judgement.Judgement.TheVariants.{Explained, Deviates}
use Rattle.bench_judge.specs.declared.settings.JudgeSettings.{JudgeSettings}
use Rattle.onu_texts.specs.Room.{IsWrittenUpTo, Refuses}
use Rattle.onu_texts.specs.declared.judging.Found.{Found}
use Rattle.onu_texts.specs.declared.judging.Found.TheVariants.{First, Listed, Covered}
use Rattle.onu_texts.specs.declared.judging.Said.{Said}

-- whether a binary digit of flags is 1, by its place from the lowest
abbrev pub has_flag : ℕ → ℕ → Bool
has_flag flags place = flags / 2 ^ place % 2 == 1

-- the lowest four: modelled classes only, each frame by itself, strays, padded frames; the next one is no setting, the one above it is
-- repeats, and the rest have no meaning
unfoldable pub settings_in : ℕ → Option JudgeSettings
settings_in flags =
    if nat_lt flags 64 then Some (record { modelled = has_flag flags 0; repeats = has_flag flags 5; unordered = has_flag flags 1; strays = has_flag flags 2; padded = has_flag flags 3 })
    else None

-- whether a history may pass without a line that ends it
abbrev pub may_be_unfinished : ℕ → Bool
may_be_unfinished flags = has_flag flags 4

-- it holds of the settings, if there are some
abbrev pub By : Option JudgeSettings → (JudgeSettings → Type 0) → Type 0
By None Holds = ⊥
By (Some settings) Holds = Holds settings

-- what a history is judged upon: the settings, and the requests that were carried out before it
abbrev pub upon : List Request → JudgeSettings → Terms
upon start settings = record { settings = settings; start = start }

-- the lines of a history are events that are explained
pub record IsExplainedHistory (start : List Request) (history : List ℕ) (settings : JudgeSettings) : Type 0 where
  pub events : List Event
  pub read : history_of history ≡ Ok events
  pub explained : IsExplained (upon start settings) events

-- and something of them was judged, up to a line that ends them, unless they may be unfinished
pub record IsPass (unfinished : Bool) (start : List Request) (history : List ℕ) (settings : JudgeSettings) : Type 0 where
  pub so : IsExplainedHistory start history settings
  pub evidence : IsEvidence (ground_in (upon start settings)) so.events Judged
  pub finished : is_ended so.events || unfinished ≡ true

-- or nothing of them was judged, or no line ends them
pub record IsNoPass (unfinished : Bool) (start : List Request) (history : List ℕ) (settings : JudgeSettings) : Type 0 where
  pub so : IsExplainedHistory start history settings
  pub why : IsEvidence (ground_in (upon start settings)) so.events NoFrame
      ⊎ IsEvidence (ground_in (upon start settings)) so.events Nothing
      ⊎ (is_ended so.events || unfinished ≡ false)

-- a line of a history is the first that isn't explained with those before it
pub record DeviatesAt (start : List Request) (history : List ℕ) (line : ℕ) (settings : JudgeSettings) : Type 0 where
  pub events : List Event
  pub read : history_of history ≡ Ok events
  pub place : ℕ
  pub names : line ≡ place + 1
  pub first : IsFirstUnexplained (upon start settings) events place

-- ---- what is found

-- a finding of a history: its judgement; or deviations, of which at least one was to be listed
abbrev pub IsFoundIn : JudgeSettings → List Request → List ℕ → Found → Type 0
IsFoundIn settings start history (First judgement) = IsJudgement settings start history judgement
IsFoundIn settings start history (Covered judgement stretches) = IsJudgement settings start history judgement
IsFoundIn settings start history (Listed deviations) = (most : ℕ) × (0 < most) × AreFindings settings start most history (findings.Deviates deviations)

-- the line of the first of some deviations
abbrev pub first_line : List Deviation → ℕ
first_line [] = 0
first_line (deviation ∷ rest) = deviation.line

-- the number of an explanation, by whether it is a pass
abbrev pub number_of : Bool → ℤ
number_of passed = if passed then pos 1 else pos 2

-- the number of a judgement, and the line that it names
abbrev pub said_of_judgement : Bool → Judgement → ℤ × ℕ
said_of_judgement unfinished (Explained explanation) = (number_of (passes unfinished explanation), 0)
said_of_judgement unfinished (Deviates deviation) = (pos 0, deviation.line)

-- the same of a finding
abbrev pub said_of : Bool → Found → ℤ × ℕ
said_of unfinished (First judgement) = said_of_judgement unfinished judgement
said_of unfinished (Covered judgement stretches) = said_of_judgement unfinished judgement
said_of unfinished (Listed deviations) = (pos 0, first_line deviations.list.items)

-- what the number and the line of a finding say of a history: it passes, or is explained so far, or deviates at that line
abbrev pub Says : Bool → JudgeSettings → List Request → List ℕ → ℤ → ℕ → Type 0
Says unfinished settings start history number line =
    ((number ≡ pos 1) × (line ≡ 0) × IsPass unfinished start history settings)
    ⊎ ((number ≡ pos 2) × (line ≡ 0) × IsNoPass unfinished start history settings)
    ⊎ ((number ≡ pos 0) × DeviatesAt start history line settings)

abbrev pub IsSaidOf : Bool → JudgeSettings → List Request → List ℕ → Said → Type 0
IsSaidOf unfinished settings start history said = Says unfinished settings start history said.number said.line

-- ---- in a room

-- the number of a judgement: of its finding; or the room is too small, a request for memory was refused, a line is bad, or the flags
-- have no meaning
abbrev pub IsJudgeNumber : ℤ → Type 0
IsJudgeNumber number =
    (number ≡ pos 1) ⊎ (number ≡ pos 2) ⊎ (number ≡ pos 0) ⊎ (number ≡ small) ⊎ (number ≡ no_memory) ⊎ (number ≡ bad_line) ⊎ (number ≡ bad_flags)

-- the line that a judgement names where no number tells it: none where each line is explained or a request for memory was refused; that
-- of the finding where the room is too small; without settings nothing is said
pub record NamesLine (settings : Option JudgeSettings) (start : List Request) (history : List ℕ) (number : ℤ) (before line : ℕ) : Type 0 where
  pub yes : number ≡ pos 1 → line ≡ 0
  pub so_far : number ≡ pos 2 → line ≡ 0
  pub found : number ≡ small → ((line ≡ 0) × By settings (IsExplainedHistory start history)) ⊎ By settings (DeviatesAt start history line)
  pub none : number ≡ no_memory → line ≡ 0
  pub flags : number ≡ bad_flags → line ≡ before

-- how many bytes a judgement is said to have, by the number
abbrev pub SaysJudged : ℤ → List ℕ → ℕ → ℕ → Type 0
SaysJudged number room before written =
    (number ≡ bad_flags → written ≡ before) × (number ≡ no_memory → written ≡ 0) × (number ≡ bad_line → written ≡ 0) × (number ≡ small → length room < written)

-- the judgement of a history in a room, where these requests were carried out before its first line: its number, how many bytes it is said
-- to have, and the line that it names
pub record JudgesInto (start : List Request) (flags : ℕ) (history room after : List ℕ) (result : ℤ) (written_before written line_before line : ℕ) : Type 0 where
  pub passes : result ≡ pos 1 → By (settings_in flags) (IsPass (may_be_unfinished flags) start history)
  pub explained : result ≡ pos 2 → By (settings_in flags) (IsNoPass (may_be_unfinished flags) start history)
  pub deviates : result ≡ pos 0 → By (settings_in flags) (DeviatesAt start history line)
  pub bad : result ≡ bad_line → history_of history ≡ Err line
  pub no_settings : settings_in flags ≡ None → result ≡ bad_flags
  pub yes : result ≡ pos 1 → IsWrittenUpTo written room after
  pub so_far : result ≡ pos 2 → IsWrittenUpTo written room after
  pub no : result ≡ pos 0 → IsWrittenUpTo written room after
  pub number : IsJudgeNumber result
  pub names : NamesLine (settings_in flags) start history result line_before line
  pub says : SaysJudged result room written_before written
  pub kept : Refuses result → after ≡ room

-- ---- behind a script

-- a line of the script is bad, this one first, and nothing is judged
pub record HasBadStart (script : List ℕ) (flags : ℕ) (room after : List ℕ) (result : ℤ) (written line : ℕ) : Type 0 where
  pub number : result ≡ bad_start
  pub names : first_bad None script ≡ Some line
  pub settings : is_some (settings_in flags) ≡ true
  pub says : written ≡ 0
  pub kept : after ≡ room

-- the requests of the script, no line of which is bad, were carried out before the history, which is judged; without settings or memory
-- nothing is said of the script
pub record JudgesUpon (script : List ℕ) (flags : ℕ) (history room after : List ℕ) (result : ℤ) (written_before written line_before line : ℕ) : Type 0 where
  pub good : (first_bad None script ≡ None) ⊎ (result ≡ no_memory) ⊎ (result ≡ bad_flags)
  pub judges : JudgesInto (requests_of script) flags history room after result written_before written line_before line

-- the judgement of a history behind a script in a room
abbrev pub JudgesBehind : List ℕ → ℕ → List ℕ → List ℕ → List ℕ → ℤ → ℕ → ℕ → ℕ → ℕ → Type 0
JudgesBehind script flags history room after result written_before written line_before line =
    HasBadStart script flags room after result written line
    ⊎ JudgesUpon script flags history room after result written_before written line_before line
