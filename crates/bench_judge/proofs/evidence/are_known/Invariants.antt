use Rattle.std.proofs.Common.{◌≡◌, length}
use Rattle.std.specs.List.{list_all}
use Rattle.bench_judge.specs.Counted.{is_known_in}
use Rattle.bench_judge.proofs.evidence.are_known.Given as goal

-- whether all are known is whether those that are left are
abbrev pub invariant-each_number : goal.invariant-each_number
invariant-each_number l = list_all (is_known_in l.frames) l.among.numbers ≡ list_all (is_known_in l.frames) l.numbers

abbrev pub decreases-each_number : goal.decreases-each_number
decreases-each_number l = length l.numbers
