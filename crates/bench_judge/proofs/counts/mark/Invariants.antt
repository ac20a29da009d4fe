use Rattle.std.proofs.Common.{◌≡◌, length}
use Rattle.bench_judge.specs.Counted.{marked}
use Rattle.bench_judge.proofs.counts.mark.Given as goal

-- those that are left make of the marks so far what all make of the first ones
abbrev pub invariant-each_number : goal.invariant-each_number
invariant-each_number l = marked l.numbers l.marks.items ≡ marked l.among.numbers l.fn.marks.items

abbrev pub decreases-each_number : goal.decreases-each_number
decreases-each_number l = length l.numbers
