use Rattle.std.proofs.Common.{sym}
use Rattle.frame_stats.specs.Figures.{counted}
use Rattle.run_capture.proofs.lines.put_gems.Goals as goal

pub returns : goal.returns
returns c = c.in_ok-put_entries.ensures (counted c.args.counts.now) (λ port. sym (c.in_ok-ports.ensures.counted port))
