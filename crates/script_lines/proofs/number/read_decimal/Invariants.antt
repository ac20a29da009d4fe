use Rattle.std.proofs.Common.{◌≡◌, ◌^◌, ◌<◌, drop}
use Rattle.script_lines.specs.Line.{number_from}
use Rattle.script_lines.proofs.number.read_decimal.Given as goal

abbrev pub invariant-loop-digit : goal.invariant-loop-digit
invariant-loop-digit l = record {
  so_far : number_from l.number (drop l.digit-index l.digits) ≡ number_from 0 l.digits;
  small : l.number < 10 ^ l.digit-index;
}
