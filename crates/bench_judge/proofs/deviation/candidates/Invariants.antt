use Rattle.std.proofs.Common.{length}
use Rattle.bench_judge.specs.Terms.{Terms, ground_in}
use Rattle.bench_judge.specs.Walk.{IsWalk}
use Rattle.bench_judge.proofs.Candidates.{AreCandidates}
use Rattle.bench_judge.proofs.deviation.candidates.Given as goal

abbrev pub invariant-each_number : goal.invariant-each_number
invariant-each_number l = (terms : Terms) → IsWalk terms l.events l.walk → AreCandidates (ground_in terms) l.events l.walk l.among.numbers l.all.items l.numbers

abbrev pub decreases-each_number : goal.decreases-each_number
decreases-each_number l = length l.numbers
