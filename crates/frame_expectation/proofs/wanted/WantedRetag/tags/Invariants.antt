-- What is passed of the tags that are left stands behind those that are added.
use Rattle.std.proofs.Common.{◌≡◌, ◌++◌, take}
use Rattle.frame_expectation.proofs.wanted.WantedRetag.tags.Given as goal

abbrev pub invariant-loop-tag : goal.invariant-loop-tag
invariant-loop-tag l = l.tags.items ≡ l.initial.tags.items ++ take l.tag-index l.left
