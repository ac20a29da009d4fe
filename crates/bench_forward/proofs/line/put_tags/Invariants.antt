use Rattle.std.proofs.Common.{◌≡◌, ◌≤◌, ◌+◌, ◌*◌, ◌++◌, take}
use Rattle.std.specs.List.{flat_map}
use Rattle.arrayvec.specs.ArrayVec.{array_vec_len}
use Rattle.bench_forward.specs.Lines.{tag_words}
use Rattle.bench_forward.proofs.line.put_tags.Given as goal

abbrev pub invariant-loop-tag : goal.invariant-loop-tag
invariant-loop-tag l = record {
  items : l.line.items ≡ l.fn.line.items ++ flat_map tag_words (take l.tag-index l.tags);
  len : array_vec_len l.line ≤ array_vec_len l.fn.line + 21 * l.tag-index;
}
