-- What is made of a run is its output.
use Rattle.std.proofs.Common.{◌≡◌, ◌++◌, ℕ, List, length, ap, ◌∙◌, refl}
use Rattle.std.proofs.Math.Path.{fun_ext}
use Rattle.omci_msg.specs.declared.Request.{Request}
use Rattle.frame_meaning.specs.declared.verdict.Verdict.{Verdict}
use Rattle.frame_stats.specs.Figures.{counted}
use Rattle.frame_stats.specs.declared.counts.Counts.{Counts}
use Rattle.run_lanes.specs.Run.{IsRun, verdicts_from}
use Rattle.run_settings.specs.declared.settings.RunSettings.{RunSettings}
use Rattle.run_capture.specs.Lines.{accepted_line, batch_lines_from, figure_lines, total_lines}
use Rattle.run_capture.specs.Outcome.{IsOutputOver}

module _ (requests : List Request) (frames : List (List ℕ)) (s : RunSettings) (out versions : List ℕ) (counts : Counts) (many length_of : ℕ) where
  -- the lines that were made, by the counts
  abbrev pub made : List ℕ
  made = accepted_line many ++ batch_lines_from 0 s.batch length_of versions ++ figure_lines (counted counts)

  pub output : IsRun requests s frames versions counts → many ≡ length requests → length_of ≡ length frames → out ≡ made → IsOutputOver requests frames s out
  output run count size is =
      let verdicts : List Verdict = verdicts_from requests s.port s.batch frames versions in
      let totals : figure_lines (counted counts) ≡ total_lines verdicts = ap figure_lines (fun_ext run.counts_are.figures) in
      record {
        versions = versions;
        many = run.many;
        admissible = run.admissible;
        lines = is ∙ rw (count, size, totals) refl;
      }
