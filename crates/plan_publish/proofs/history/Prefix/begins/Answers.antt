use Rattle.std.proofs.Common.{◌≤◌, ◌<◌, length, List, subst, ap, arith}
use mathlib.Core.List.{IsPrefix}
use Rattle.omci_msg.specs.declared.Request.{Request}
use Rattle.plan_publish.proofs.Beginnings.{shorter}
use Rattle.plan_publish.proofs.history.Prefix.begins.Goals as goal

pub returns-then-self-other-clause-lists : goal.returns-then-self-other-clause-lists
returns-then-self-other-clause-lists c =
    let both = c.learn.new.self.log in
    let this : IsPrefix c.args.self.now.seen.log both = subst (λ (l : List Request). IsPrefix l both) (ap (λ s. s.log) c.again-both.ensures) c.learn.ensures.2 in
    let less : length c.args.self.now.seen.log ≤ length c.args.other.now.seen.log = omega (arith, c.args.self.now.counted, c.args.other.now.counted, c.if-self-other.true) in
    (less, shorter c.args.self.now.seen.log c.args.other.now.seen.log both this c.learn.ensures.3 less)

pub returns-clause-lists : goal.returns-clause-lists
returns-clause-lists c =
    let both = c.learn.new.self.log in
    let this : IsPrefix c.args.self.now.seen.log both = subst (λ (l : List Request). IsPrefix l both) (ap (λ s. s.log) c.again-both.ensures) c.learn.ensures.2 in
    let less : length c.args.other.now.seen.log < length c.args.self.now.seen.log = omega (arith, c.args.self.now.counted, c.args.other.now.counted, c.if-self-other.false) in
    (less, shorter c.args.other.now.seen.log c.args.self.now.seen.log both c.learn.ensures.3 this (omega (arith, less)))
