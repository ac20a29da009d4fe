use Rattle.std.proofs.Common.{drop}
use Rattle.plan_publish.specs.Control.{Progress}
use Rattle.run_lanes.specs.Control.{Applied}
use Rattle.run_lanes.proofs.control_work.apply_requests.Given as goal

-- what the other requests leave now all of them leave
abbrev pub invariant-loop-request : goal.invariant-loop-request
invariant-loop-request g l = (end : Progress) → Applied l.control end (drop l.request-index l.requests) → Applied l.fn.control end l.requests
