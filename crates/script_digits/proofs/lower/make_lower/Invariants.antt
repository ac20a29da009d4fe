use Rattle.std.proofs.Common.{◌≡◌, ◌++◌, length, take, drop, map}
use Rattle.script_digits.proofs.Digits.{lower_of}
use Rattle.script_digits.proofs.lower.make_lower.Given as goal

abbrev pub invariant-loop-i : goal.invariant-loop-i
invariant-loop-i l = record {
  len : length l.digits ≡ length l.initial.digits;
  lowered : l.digits ≡ map lower_of (take l.i l.initial.digits) ++ drop l.i l.initial.digits;
}
