use Rattle.std.proofs.Common.{◌≡◌, [], arith, drop}
use Rattle.std.proofs.lemmas.List.{drop_all}
use Rattle.run_lanes.proofs.Applying.{applied_none}
use Rattle.run_lanes.proofs.control_work.apply_requests.Goals as goal

pub returns-clause-applied : goal.returns-clause-applied
returns-clause-applied g c =
    let requests = c.args.requests.now in
    let none : drop c.loop-request.request-index requests ≡ [] = drop_all c.loop-request.request-index requests (omega (arith, c.loop-request-test.false)) in
    c.loop-request.invariant c.loop-request.control (rw none (applied_none c.loop-request.control))
