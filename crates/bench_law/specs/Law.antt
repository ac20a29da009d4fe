-- The law that no right unit is accused.
use Rattle.std.specs.Prelude.{◌≡◌, ℕ, true, false, List, Some, Ok, slice_get, take}
use Rattle.omci_msg.specs.declared.request.Request.{Request}
use Rattle.bench_history.specs.History.{history_of}
use Rattle.bench_history.specs.declared.event.Event.{Event}
use Rattle.bench_history.specs.declared.event.Event.TheVariants.{Sent}
use Rattle.bench_answers.specs.Asked.{is_repeat}
use Rattle.bench_judge.specs.Explained.{IsExplained}
use Rattle.bench_judge.specs.Judged.{IsJudgement}
use Rattle.bench_judge.specs.Deviations.{AreFindings}
use Rattle.bench_judge.specs.declared.judgement.Findings.{Findings}
use Rattle.bench_judge.specs.declared.judgement.Findings.TheVariants as findings
use Rattle.bench_judge.specs.declared.judgement.Judgement.{Judgement}
use Rattle.bench_judge.specs.declared.judgement.Judgement.TheVariants.{Explained, Deviates}
use Rattle.bench_judge.specs.declared.settings.JudgeSettings.{JudgeSettings}
use Rattle.bench_law.specs.Steps.{Step, shown}
use Rattle.bench_law.specs.Observation.{IsObservation}

-- no message has the bytes of the one before it
abbrev pub HasNoRepeat : List Event → Type 0
HasNoRepeat lines = (i : ℕ) (message : List ℕ) → slice_get lines i ≡ Some (Sent message) → is_repeat true (take i lines) message ≡ false

-- settings allow what an observation of these lines needs: each one that it needs is set. Where they mean repeats and it doesn't, there is
-- none: a message that is sent twice in a row may be carried out twice by the one, and is carried out once by the other
pub record Allow (settings needed : JudgeSettings) (lines : List Event) : Type 0 where
  pub modelled : needed.modelled ≡ true → settings.modelled ≡ true
  pub repeats : needed.repeats ≡ true → settings.repeats ≡ true
  pub unrepeated : needed.repeats ≡ false → settings.repeats ≡ true → HasNoRepeat lines
  pub unordered : needed.unordered ≡ true → settings.unordered ≡ true
  pub strays : needed.strays ≡ true → settings.strays ≡ true
  pub padded : needed.padded ≡ true → settings.padded ≡ true

-- the history that an observation shows is explained, by all settings that allow what it needs, where the same script comes first
abbrev pub NoRightUnitIsAccused : Type 0
NoRightUnitIsAccused = (lanes : ℕ) (needed settings : JudgeSettings) (start : List Request) (steps : List Step)
    → IsObservation lanes (record { settings = needed; start = start }) steps → Allow settings needed (shown steps)
    → IsExplained (record { settings = settings; start = start }) (shown steps)

-- a judgement finds no deviation
abbrev pub FindsNone : Judgement → Type 0
FindsNone (Explained e) = Unit {0}
FindsNone (Deviates d) = ⊥

-- so no judgement of a text that reads as this history finds one
abbrev pub NoDeviationIsFound : Type 0
NoDeviationIsFound = (lanes : ℕ) (needed settings : JudgeSettings) (start : List Request) (steps : List Step) (text : List ℕ) (judgement : Judgement)
    → IsObservation lanes (record { settings = needed; start = start }) steps → Allow settings needed (shown steps) → history_of text ≡ Ok (shown steps)
    → IsJudgement settings start text judgement → FindsNone judgement

-- findings list no deviation
abbrev pub ListsNone : Findings → Type 0
ListsNone (findings.Explained e) = Unit {0}
ListsNone (findings.Deviates d) = ⊥

-- nor does a list of deviations of it, however many are looked for
abbrev pub NoDeviationIsListed : Type 0
NoDeviationIsListed =
    (lanes : ℕ) (needed settings : JudgeSettings) (start : List Request) (steps : List Step) (text : List ℕ) (most : ℕ) (found : Findings)
    → IsObservation lanes (record { settings = needed; start = start }) steps → Allow settings needed (shown steps) → history_of text ≡ Ok (shown steps)
    → AreFindings settings start most text found → ListsNone found
