-- Every line that no right unit explains.
use Rattle.std.specs.Prelude.{◌≡◌, ◌<◌, ◌≤◌, ℕ, Bool, true, false, List, [], ◌∷◌, Some, Ok, length, slice_get, slice_set}
use Rattle.omci_msg.specs.declared.request.Request.{Request}
use Rattle.bench_history.specs.History.{history_of}
use Rattle.bench_history.specs.declared.event.Event.{Event}
use Rattle.bench_history.specs.declared.event.Event.TheVariants.{Replied, Excused, Nothing}
use Rattle.bench_judge.specs.Terms.{Terms}
use Rattle.bench_judge.specs.Explained.{IsExplained}
use Rattle.bench_judge.specs.Judged.{IsDeviation, IsExplanation}
use Rattle.bench_judge.specs.declared.judgement.Deviation.{Deviation}
use Rattle.bench_judge.specs.declared.judgement.Deviations.{Deviations}
use Rattle.bench_judge.specs.declared.judgement.Findings.{Findings}
use Rattle.bench_judge.specs.declared.judgement.Findings.TheVariants.{Explained, Deviates}
use Rattle.bench_judge.specs.declared.settings.JudgeSettings.{JudgeSettings}

-- what a line claims that isn't explained, taken back: a wrong reply is taken for the answer to the nearest request that it can answer, and
-- any other line says nothing
abbrev pub taken_back : Event → Event
taken_back (Replied reply) = Excused reply
taken_back event = Nothing

-- others are events of which what the one at a place claims is taken back
pub record AreWithout (events : List Event) (place : ℕ) (others : List Event) : Type 0 where
  pub event : Event
  pub at : slice_get events place ≡ Some event
  pub rest : others ≡ slice_set events place (taken_back event)

-- whether events aren't explained
abbrev pub IsMore : Terms → List Event → Bool → Type 0
IsMore terms events true = ¬ (IsExplained terms events)
IsMore terms events false = IsExplained terms events

-- deviations of events: the first line that isn't explained, and then those of the events without what it claims; and whether behind the
-- last of them more lines aren't explained
abbrev pub AreDeviations : Terms → List Event → List Deviation → Bool → Type 0
AreDeviations terms events [] more = IsMore terms events more
AreDeviations terms events (d ∷ rest) more =
    (first : IsDeviation terms events d)
    × ((others : List Event) → AreWithout events first.place others → AreDeviations terms others rest more)

-- the line of each comes behind those of the ones before it
abbrev pub AreAscending : List Deviation → Type 0
AreAscending list =
    (j k : ℕ) (one other : Deviation) → slice_get list j ≡ Some one → slice_get list k ≡ Some other → j < k → one.line < other.line

-- what is found of events that aren't explained, where at most so many deviations are looked for: all there are, or the first so many
pub record AreFound (terms : Terms) (most : ℕ) (events : List Event) (found : Deviations) : Type 0 where
  pub unexplained : ¬ (IsExplained terms events)
  pub deviations : AreDeviations terms events found.list.items found.more
  pub ascend : AreAscending found.list.items
  pub within : length found.list.items ≤ most
  pub cut : found.more ≡ true → length found.list.items ≡ most

-- what is found of events
abbrev pub IsFindings : Terms → ℕ → List Event → Findings → Type 0
IsFindings terms most events (Explained explanation) = IsExplanation terms events explanation
IsFindings terms most events (Deviates found) = AreFound terms most events found

-- what is found of a history, where these requests were carried out before its first line
pub record AreFindings (settings : JudgeSettings) (start : List Request) (most : ℕ) (text : List ℕ) (findings : Findings) : Type 0 where
  pub events : List Event
  pub read : history_of text ≡ Ok events
  pub found : IsFindings (record { settings = settings; start = start }) most events findings
