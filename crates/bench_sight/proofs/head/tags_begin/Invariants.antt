use Rattle.std.proofs.Common.{◌≡◌, ◌++◌, take}
use Rattle.std.specs.List.{flat_map}
use Rattle.tag_view.specs.Tag.{tag_bytes}
use Rattle.bench_sight.proofs.head.tags_begin.Given as goal

abbrev pub invariant-loop-tag : goal.invariant-loop-tag
invariant-loop-tag l = l.bytes ≡ flat_map tag_bytes (take l.tag-index l.tags) ++ l.rest
