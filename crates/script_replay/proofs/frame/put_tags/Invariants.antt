use Rattle.std.proofs.Common.{◌≡◌, ◌+◌, ◌*◌, ◌≤◌, ◌++◌, take, vec_len, vec_capacity}
use Rattle.std.specs.List.{flat_map}
use Rattle.hex.specs.Hex.{encode_lower}
use Rattle.tag_view.specs.Tag.{tag_bytes}
use Rattle.script_replay.proofs.frame.put_tags.Given as goal

abbrev pub invariant-loop-tag : goal.invariant-loop-tag
invariant-loop-tag l = record {
  items : l.answers.items ≡ l.fn.answers.items ++ encode_lower (flat_map tag_bytes (take l.tag-index l.tags));
  len : vec_len l.answers ≡ vec_len l.fn.answers + 8 * l.tag-index;
  capacity : vec_capacity l.fn.answers ≤ vec_capacity l.answers;
}
