use Rattle.std.proofs.Common.{◌≡◌, ◌++◌, take}
use Rattle.std.specs.List.{filter_map}
use Rattle.explain_findings.proofs.append.append_all.Given as goal

abbrev pub invariant-each : goal.invariant-each
invariant-each l = l.findings.items ≡ l.fn.findings.items ++ filter_map (λ f. f) (take l.found-index l.list)
