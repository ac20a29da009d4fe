use Rattle.std.proofs.Common.{◌≡◌, ◌<◌, ◌-◌, ◌^◌, inr, List, subst, arith, rules}
use Rattle.std.specs.Prelude.{length}
use Rattle.plan_publish.specs.Told.{told_list}
use Rattle.batch_reports.specs.declared.batch.Tally.{Tally}
use Rattle.batch_reports.specs.declared.fault.GatherFault.{GatherFault}
use Rattle.batch_reports.specs.Gathering.{AreInOrder, IsWhyOfTallies}
use Rattle.run_lanes.specs.declared.fault.LaneFault.TheVariants.{CountFull}
use Rattle.run_lanes.proofs.settling.settle.Goals as goal

pub returns-clause-full : goal.returns-clause-full
returns-clause-full c is =
    let told : c.gathering.result ≡ CountFull = cc in
    let tallies = c.in_ok-tallies.tallies.items in
    let given = subst (λ (l : List Tally). IsWhyOfTallies c.args.count l c.in-Err.fault) c.as_slice.ensures.value c.in-Err.ensures.fault in
    let why = subst (λ (fault : GatherFault). IsWhyOfTallies c.args.count tallies fault) (c.gathering.ensures told) given in
    let small : length (told_list c.args.told.now) < 2 ^ 64 - 1 = omega (arith, c.version-accepted.ensures.version, c.version-accepted.ensures.small) in
    inr (record { out = why.1; ordered = record { all = tallies; collected = c.in_ok-tallies.ensures.collected; in_order = why.2; small = small }; passes = why.3 })

pub returns-in-Ok-clause-settled : goal.returns-in-Ok-clause-settled
returns-in-Ok-clause-settled c =
    let g = c.in-Ok.ensures.gathered in
    let tallies = c.in_ok-tallies.tallies.items in
    let in_order = subst (λ (l : List Tally). AreInOrder (λ (t : Tally). t.batch) c.args.count l g.out) c.as_slice.ensures.value g.in_order in
    let small : length (told_list c.args.told.now) < 2 ^ 64 - 1 = omega (arith, c.version-accepted.ensures.version, c.version-accepted.ensures.small) in
    record {
      out = g.out;
      ordered = record { all = tallies; collected = c.in_ok-tallies.ensures.collected; in_order = in_order; small = small };
      versions = g.versions_are;
      sums = g.sums;
      accepted_is = search rules;
    }
