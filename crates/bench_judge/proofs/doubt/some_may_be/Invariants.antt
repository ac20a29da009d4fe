use Rattle.std.proofs.Common.{length}
use Rattle.bench_judge.proofs.Numbered.{ComeLast}
use Rattle.bench_judge.proofs.Versions.{MayBeBy}
use Rattle.bench_judge.proofs.doubt.some_may_be.Given as goal

-- of the numbers so far none may be the one that left
abbrev pub invariant-each_number : goal.invariant-each_number
invariant-each_number l =
    ComeLast l.doubtful.among.now.numbers l.numbers
    (MayBeBy l.case.padded l.case.events.now l.case.frames.now l.doubtful.gem l.doubtful.extent l.doubtful.among.now l.version l.live)

abbrev pub decreases-each_number : goal.decreases-each_number
decreases-each_number l = length l.numbers
