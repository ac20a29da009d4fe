use Rattle.std.proofs.Common.{◌≡◌, take}
use Rattle.bench_judge.proofs.runs.tags_of.Given as goal

abbrev pub invariant-loop-tag : goal.invariant-loop-tag
invariant-loop-tag l = l.kept.items ≡ take l.tag-index l.tags
