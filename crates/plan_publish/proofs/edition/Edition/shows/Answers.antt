use Rattle.std.proofs.Common.{◌≡◌, sym, ◌∙◌, rules, tests, arith}
use Rattle.plan_publish.proofs.Beginnings.{reaches}
use Rattle.plan_publish.proofs.edition.Edition.shows.Goals as goal

pub returns-then-are_same-clause-lists : goal.returns-then-are_same-clause-lists
returns-then-are_same-clause-lists c now is trail =
    let same : c.args.self.now.last ≡ c.newest.result = search (rules, tests) in
    let less = rw c.if-begins.false at c.begins.ensures.lists in
    let long = c.len.ensures in
    let base = c.len-2.ensures in
    let count = c.len-3.ensures in
    reaches c.args.self.now.base.seen.log c.args.learnt.now.seen.log now less.0 less.1 trail.base
    (omega (arith, c.if-len.false, long.1, base.1)) (omega (arith, long.1, long.2)) (omega (arith, is.version, c.if-self-len.false, count.1)) (sym trail.last ∙ (same ∙ c.newest.ensures.1))
