use Rattle.std.proofs.Common.{◌≡◌, ◌<◌, ◌≤◌, ℕ, length}
use Rattle.std.specs.Prelude.{slice_index}
use Rattle.tag_view.specs.Dscp.{group_of}
use Rattle.port_plan.proofs.compiled_table.markings_of.Given as goal

abbrev pub invariant-loop-dscp : goal.invariant-loop-dscp
invariant-loop-dscp l = record {
  value : (k : ℕ) → k < l.dscp → slice_index l.markings k ≡ group_of l.map.0 k;
  rest : (k : ℕ) → l.dscp ≤ k → slice_index l.markings k ≡ 0;
  len : length l.markings ≡ 65;
  bound : (k : ℕ) → slice_index l.markings k < 8;
}
