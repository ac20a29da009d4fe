use Rattle.std.proofs.Common.{◌≡◌, ◌≤◌, true, false, length, vec_capacity, vec_len}
use Rattle.rule_index.specs.Order.{order_of}
use Rattle.port_plan.specs.CompiledTable.{NoneAsks, SomeAsks}
use Rattle.port_plan.proofs.CompiledTables.{AreFirstTreats}
use Rattle.port_plan.proofs.treats.compile_treats.Given as goal

abbrev pub invariant-loop-number : goal.invariant-loop-number
invariant-loop-number l = record {
  treats : AreFirstTreats l.settings l.rules l.treats.items l.number;
  within : l.number ≤ length (order_of l.rules);
  count : length l.treats.items ≡ l.number;
  len : vec_len l.treats ≡ l.number;
  room : vec_capacity l.treats ≡ vec_capacity l.initial.treats;
  none : l.asked ≡ false → NoneAsks l.treats.items;
  some : l.asked ≡ true → SomeAsks l.treats.items;
}
