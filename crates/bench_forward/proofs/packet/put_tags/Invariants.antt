use Rattle.std.proofs.Common.{◌≡◌, ◌+◌, ◌*◌, ◌++◌, take}
use Rattle.std.specs.List.{flat_map}
use Rattle.arrayvec.specs.ArrayVec.{array_vec_len}
use Rattle.tag_view.specs.Tag.{tag_bytes}
use Rattle.bench_forward.proofs.packet.put_tags.Given as goal

abbrev pub invariant-loop-tag : goal.invariant-loop-tag
invariant-loop-tag l = record {
  items : l.bytes.items ≡ l.fn.bytes.items ++ flat_map tag_bytes (take l.tag-index l.tags);
  len : array_vec_len l.bytes ≡ array_vec_len l.fn.bytes + 4 * l.tag-index;
}
