use Rattle.std.proofs.Common.{◌∙◌, refl}
use Rattle.bench_coverage.proofs.Ready.{next_before, next_first, next_here}
use Rattle.bench_coverage.proofs.passage.Passage.follow.Goals as goal

pub returns-clause-passes : goal.returns-clause-passes
returns-clause-passes c =
    let old = c.args.self.now in
    let passes = c.requires.passes in
    let q = c.args.request.now in
    let at = c.requires.next in
    let went = c.in_ok-same.ensures in
    record {
      inside =
          next_first old passes q at old.states.before.entities _ c.in_ok-same.same c.first_of_next-self.result refl refl went.same
          c.first_of_next-self.ensures;
      before = went.before ∙ next_before old passes q at;
      here = went.here ∙ next_here old passes q at;
    }
