use Rattle.explain_findings.proofs.Holding.{findings_hold}
use Rattle.explain_findings.proofs.Kept.{rules_after}
use Rattle.explain_findings.proofs.laws.law_of_findings.Goals as goal

pub returns : goal.returns
returns c = record { holds = findings_hold; rules = rules_after }
