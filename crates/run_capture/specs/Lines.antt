-- The lines of a run: how many requests were accepted, the version of each batch, and the figures of all verdicts.
use Rattle.std.specs.Prelude.{ℕ, ◌+◌, ◌-◌, ◌==◌, min, List, [], ◌∷◌, ◌++◌, length, if◌then◌else◌, codes}
use Rattle.std.specs.Fmt.{decimal}
use Rattle.std.specs.List.{flat_map, range_with_len}
use Rattle.omci_msg.specs.declared.request.Request.{Request}
use Rattle.frame_meaning.specs.Reason.{number_of_reason}
use Rattle.frame_meaning.specs.declared.reason.Reason.{Reason}
use Rattle.frame_meaning.specs.declared.reason.Reason.TheVariants.{Runt, CutTag, NoRule, RuleDiscard, NoMapper, NullPointer, NoInterwork, NoGem, Direction}
use Rattle.frame_meaning.specs.declared.verdict.Verdict.{Verdict}
use Rattle.frame_stats.specs.Figures.{Figure, Frames, Bytes, DropsFor, FramesTo, figure, gem_ports}
use Rattle.run_lanes.specs.Run.{verdicts_from}
use Rattle.run_settings.specs.declared.settings.RunSettings.{RunSettings}

-- ---- one line

-- words and a number
abbrev pub number_line : List ℕ → ℕ → List ℕ
number_line words n = words ++ decimal n ++ 10 ∷ []

abbrev pub accepted_line : ℕ → List ℕ
accepted_line a = number_line (codes "accepted ") a

-- batch k is of this version and has n frames
abbrev pub batch_line : ℕ → ℕ → ℕ → List ℕ
batch_line k version n = codes "batch " ++ decimal k ++ codes " version " ++ decimal version ++ codes " frames " ++ decimal n ++ 10 ∷ []

-- a count of what has this number; a count of 0 has no line
abbrev pub count_line : List ℕ → ℕ → ℕ → List ℕ
count_line word number count = if count == 0 then [] else word ++ decimal number ++ 32 ∷ [] ++ decimal count ++ 10 ∷ []

-- ---- the batches

-- those from batch k on, by their versions, where so many frames are left for batches of a size
abbrev pub batch_lines_from : ℕ → ℕ → ℕ → List ℕ → List ℕ
batch_lines_from k size left [] = []
batch_lines_from k size left (version ∷ versions) = batch_line k version (min size left) ++ batch_lines_from (k + 1) size (left - size) versions

-- ---- the figures

-- the reasons by their numbers, 1 to 9
abbrev pub reasons : List Reason
reasons = Runt ∷ CutTag ∷ NoRule ∷ RuleDiscard ∷ NoMapper ∷ NullPointer ∷ NoInterwork ∷ NoGem ∷ Direction ∷ []

-- the frames that are dropped, reason by reason
unfoldable pub drop_lines : (Figure → ℕ) → List ℕ
drop_lines of = flat_map (λ reason. count_line (codes "drop ") (number_of_reason reason) (of (DropsFor reason))) reasons

-- those that leave by the n GEM ports from this one on, port by port
abbrev pub gem_lines_from : ℕ → ℕ → (Figure → ℕ) → List ℕ
gem_lines_from port n of = flat_map (λ gem. count_line (codes "gem ") gem (of (FramesTo gem))) (range_with_len port n)

-- those that leave by any
unfoldable pub gem_lines : (Figure → ℕ) → List ℕ
gem_lines of = gem_lines_from 0 gem_ports of

abbrev pub figure_lines : (Figure → ℕ) → List ℕ
figure_lines of = number_line (codes "frames ") (of Frames) ++ number_line (codes "bytes ") (of Bytes) ++ drop_lines of ++ gem_lines of

-- the figures of verdicts
abbrev pub total_lines : List Verdict → List ℕ
total_lines verdicts = figure_lines (λ f. figure f verdicts)

-- ---- a run

-- all its lines, where these requests were accepted and these are the versions of the batches
abbrev pub run_lines : List Request → RunSettings → List (List ℕ) → List ℕ → List ℕ
run_lines requests s frames versions =
    accepted_line (length requests)
    ++ batch_lines_from 0 s.batch (length frames) versions
    ++ total_lines (verdicts_from requests s.port s.batch frames versions)
