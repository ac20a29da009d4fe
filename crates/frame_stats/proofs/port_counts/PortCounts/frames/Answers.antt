use Rattle.std.proofs.Common.{◌≡◌, ◌≢◌, ◌<◌, length, get_or, subst, arith, rules, true, false, nat_eq}
use Rattle.std.proofs.lemmas.Bool.Decides.{nat_tests}
use Rattle.frame_stats.specs.Ports.{in_map, no_run, place}
use Rattle.frame_stats.specs.Runs.{in_runs}
use Rattle.frame_stats.proofs.RunSums.{only_run}
use Rattle.frame_stats.proofs.port_counts.PortCounts.frames.Goals as goal

pub returns-then-run-gem : goal.returns-then-run-gem
returns-then-run-gem c =
    let at : c.place_of.result ≡ place c.args.gem = c.place_of.ensures.value in
    let inside : place c.args.gem < length c.args.self.now.runs = search rules in
    let run = get_or c.args.self.now.runs (place c.args.gem) no_run in
    let same : run.port ≡ c.args.gem = subst (λ k. (get_or c.args.self.now.runs k no_run).port ≡ c.args.gem) at c.if-run-gem.true in
    let only = only_run c.args.gem c.args.self.now.runs c.args.self.now.placed inside in
    let here : nat_eq run.port c.args.gem ≡ true = grind (arith, nat_tests) in
    let frames : in_runs c.args.gem c.args.self.now.runs ≡ run.frames = rw here at only in
    let others : c.unwrap_or-others.result ≡ in_map c.args.self.now.others c.args.gem = search rules in
    rw at (omega (arith, frames, others))

pub returns-else-run-gem : goal.returns-else-run-gem
returns-else-run-gem c =
    let at : c.place_of.result ≡ place c.args.gem = c.place_of.ensures.value in
    let inside : place c.args.gem < length c.args.self.now.runs = search rules in
    let run = get_or c.args.self.now.runs (place c.args.gem) no_run in
    let only = only_run c.args.gem c.args.self.now.runs c.args.self.now.placed inside in
    let other : run.port ≢ c.args.gem = subst (λ k. (get_or c.args.self.now.runs k no_run).port ≢ c.args.gem) at c.if-run-gem.false in
    let here : nat_eq run.port c.args.gem ≡ false = grind (arith, nat_tests) in
    let frames : in_runs c.args.gem c.args.self.now.runs ≡ 0 = rw here at only in
    let others : c.unwrap_or-others.result ≡ in_map c.args.self.now.others c.args.gem = search rules in
    omega (arith, frames, others)
