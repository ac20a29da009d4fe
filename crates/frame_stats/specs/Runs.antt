-- How frames are counted port by port on the way: runs, each of frames that left by one GEM port and aren't in the map yet.
use Rattle.std.specs.Prelude.{ℕ, ◌==◌, List, if◌then◌else◌}
use Rattle.std.specs.List.{sum_by}
use Rattle.frame_stats.specs.declared.run.Run.{Run}

-- the frames of a port in runs
abbrev pub in_runs : ℕ → List Run → ℕ
in_runs port runs = sum_by (λ run. if run.port == port then run.frames else 0) runs
