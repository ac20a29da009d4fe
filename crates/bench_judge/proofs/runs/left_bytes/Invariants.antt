use Rattle.std.proofs.Common.{◌≡◌, ◌++◌, take}
use Rattle.std.specs.List.{flat_map}
use Rattle.tag_view.specs.Tag.{tag_bytes}
use Rattle.bench_judge.proofs.runs.left_bytes.Given as goal

abbrev pub invariant-loop-tag : goal.invariant-loop-tag
invariant-loop-tag l = l.bytes.items ≡ take 12 l.sent ++ flat_map tag_bytes (take l.tag-index l.leaving.tags.items)
