use Rattle.std.proofs.Common.{rules, Bool}
use Rattle.std.specs.Prelude.{nat_lt}
use Rattle.std.proofs.lemmas.List.Sorted.{IsPartitionPoint-from_clause, IsPartitionedBy-ltb}
use Rattle.bench_history.proofs.Reaching.{all_taken, reach_rises}
use Rattle.bench_history.specs.declared.doubts.Doubt.{Doubt}
use Rattle.bench_history.proofs.doubts.first_near.Goals as goal

pub returns-clause-before : goal.returns-clause-before
returns-clause-before c = λ reach.
    let short : Doubt → Bool = λ doubt. nat_lt doubt.reach c.args.least in
    let parted = IsPartitionedBy-ltb (λ (d : Doubt). d.reach) c.args.doubts.now c.args.least (reach_rises 0 c.args.doubts.now reach) in
    all_taken short c.partition_point.result c.args.doubts.now
    (IsPartitionPoint-from_clause short c.args.doubts.now c.partition_point.result c.partition_point.ensures.partitioned parted (search rules)).0
