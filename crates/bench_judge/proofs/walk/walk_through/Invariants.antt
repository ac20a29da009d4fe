use Rattle.bench_judge.specs.Doubt.{IsLatest}
use Rattle.bench_judge.specs.Scene.{IsScene}
use Rattle.bench_judge.specs.Terms.{terms_of}
use Rattle.bench_judge.proofs.walk.walk_through.Given as goal

-- what is kept is that of the events so far
abbrev pub invariant-loop-place : goal.invariant-loop-place
invariant-loop-place g l = record {
  scene : IsScene (terms_of l.terms) l.events l.place l.scene;
  latest : IsLatest l.scene.answers.asking.requests.items l.latest;
}
