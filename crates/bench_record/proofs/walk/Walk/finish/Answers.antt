use Rattle.std.proofs.Common.{◌∙◌, ◌++◌, ℕ, List, ap}
use Rattle.bench_record.specs.Index.{passed_shown}
use Rattle.bench_record.specs.Moments.{Timed}
use Rattle.bench_record.specs.Recorded.{losses}
use Rattle.bench_record.specs.declared.passed.Passed.{Passed}
use Rattle.bench_record.proofs.walk.Walk.finish.Goals as goal

pub returns-clause-events : goal.returns-clause-events
returns-clause-events c = λ captures since seen are is.
    c.in_ok-lose.ensures.events captures seen.frames are is.sent is.doubts
    ∙ ap (λ (events : List Timed). events ++ losses c.args.given.now.settings.lost captures c.args.self.hidden.items seen.frames) is.events
    ∙ ap (λ (hidden : List ℕ). seen.events ++ losses c.args.given.now.settings.lost captures hidden seen.frames) is.hidden

pub returns-clause-passed : goal.returns-clause-passed
returns-clause-passed c = λ since seen is. ap (λ (passed : Passed). passed_shown passed) c.in_ok-lose.ensures.passed ∙ is.passed
