use Rattle.std.proofs.Common.{◌≡◌, ◌+◌, ◌-◌, ◌*◌, ◌≤◌, ◌++◌, length, take, vec_len, vec_capacity}
use Rattle.std.specs.List.{flat_map}
use Rattle.tag_view.specs.Tag.{tag_bytes}
use Rattle.frame_meaning.proofs.out_frame.OutFrame.append_to.Given as goal

abbrev pub invariant-each_tag : goal.invariant-each_tag
invariant-each_tag l = record {
  appended : l.bytes.items ≡ (l.fn.bytes.items ++ l.self.addresses) ++ flat_map tag_bytes (take l.tag-index l.tag-items);
  room : vec_len l.bytes + 4 * (length l.tag-items - l.tag-index) + length l.self.rest ≤ vec_capacity l.bytes;
}
