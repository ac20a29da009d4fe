-- The DSCPs passed have their priorities, and behind all of them stands the default.
use Rattle.std.proofs.Common.{◌≡◌, ◌<◌, ◌%◌, ℕ, length}
use Rattle.std.specs.Prelude.{slice_index}
use Rattle.tag_view.specs.Dscp.{group_of}
use Rattle.port_plan.proofs.mapper_routes.untagged.Given as goal

abbrev pub invariant-loop-dscp : goal.invariant-loop-dscp
invariant-loop-dscp l = record {
  whole : length l.untagged ≡ 65;
  mapped : (d : ℕ) → d < l.dscp → slice_index l.untagged d ≡ group_of l.mapper.dscp_map.0 d;
  default : slice_index l.untagged 64 ≡ l.mapper.default_p_bit_assumption % 8;
  bound : (place : ℕ) → slice_index l.untagged place < 8;
}
