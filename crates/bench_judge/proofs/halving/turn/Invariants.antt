use Rattle.std.proofs.Common.{◌<◌, ◌≤◌, ◌-◌, take}
use Rattle.bench_judge.specs.Cut.{HasChoice}
use Rattle.bench_judge.specs.Terms.{ground_in, terms_of}
use Rattle.bench_judge.proofs.halving.turn.Given as goal

abbrev pub invariant-loop-high : goal.invariant-loop-high
invariant-loop-high g l = record {
  apart : l.low < l.high;
  within : l.high ≤ l.walk.walked;
  some : 0 < l.step;
  low : HasChoice (ground_in (terms_of l.terms)) l.terms.settings.padded l.terms.settings.unordered (take l.low l.events);
  high : ¬ (HasChoice (ground_in (terms_of l.terms)) l.terms.settings.padded l.terms.settings.unordered (take l.high l.events));
}

abbrev pub decreases-loop-high : goal.decreases-loop-high
decreases-loop-high g l = l.high - l.low
