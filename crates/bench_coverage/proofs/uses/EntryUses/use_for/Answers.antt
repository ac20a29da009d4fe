use Rattle.bench_coverage.proofs.Used.{entry, no_entry, unread}
use Rattle.bench_coverage.proofs.uses.EntryUses.use_for.Goals as goal

pub returns-in_default : goal.returns-in_default
returns-in_default c = λ table is. unread table c.args.self.now is c.args.bytes.now c.in_default.field-0 c.in_default.ensures.value

pub returns-in-Some : goal.returns-in-Some
returns-in-Some c = λ table is.
    entry table c.args.self.now is c.args.bytes.now c.in-Ok.frame c.in-Ok.ensures.value c.in-Some.place c.in-Some.ensures.used.in_range
    c.in-Some.ensures.computed c.deref.result.now c.deref.ensures.0

pub returns-in-None : goal.returns-in-None
returns-in-None c = λ table is. no_entry table c.args.self.now is c.args.bytes.now c.in-Ok.frame c.in-Ok.ensures.value c.in-None.ensures.computed
