use Rattle.std.proofs.Common.{◌≡◌, ◌++◌, take}
use Rattle.std.specs.List.{filter_map}
use Rattle.explain_findings.proofs.reach.append_all.Given as goal

abbrev pub invariant-each : goal.invariant-each
invariant-each l = l.list.items ≡ l.fn.list.items ++ filter_map (λ number. number) (take l.number-index l.numbers)
