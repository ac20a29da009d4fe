use Rattle.std.proofs.Common.{◌-◌, length}
use Rattle.bench_judge.specs.Known.{IsKnown}
use Rattle.bench_judge.specs.Terms.{terms_of}
use Rattle.bench_judge.proofs.Listed.{AreSoFar}
use Rattle.bench_judge.proofs.deviations.find_all.Given as goal

-- the first deviations are listed, and their claims taken back; what is known is so of the events that are left
abbrev pub invariant-each_deviation : goal.invariant-each_deviation
invariant-each_deviation g l = record {
  so_far : AreSoFar (terms_of l.terms) l.most l.fn.events.items l.events.items l.list.items;
  known : IsKnown (terms_of l.terms) l.events.items l.known;
}

abbrev pub decreases-each_deviation : goal.decreases-each_deviation
decreases-each_deviation g l = l.most - length l.list.items
