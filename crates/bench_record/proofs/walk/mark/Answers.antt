use Rattle.std.proofs.Common.{rules, arith}
use Rattle.std.proofs.lemmas.Grind.{common_steps}
use Rattle.bench_record.proofs.Walks.{marked_at, marked_past}
use Rattle.bench_record.proofs.walk.mark.Goals as goal

pub returns-in-Some : goal.returns-in-Some
returns-in-Some c = marked_at c.args.number c.args.sent.now.items c.in-Some.kept.now (search rules) (search rules)

pub returns-in_default : goal.returns-in_default
returns-in_default c = marked_past c.args.number c.args.sent.now.items (grind (arith, common_steps))
