use Rattle.std.proofs.Common.{◌≡◌, ◌∙◌, sym, ap, subst, slice_index, arith}
use Rattle.std.proofs.lemmas.List.{get_or_default}
use Rattle.bench_forward.specs.Interfaces.{AreNumbersOf}
use Rattle.bench_forward.proofs.Numbering.{number_is, number_is_none}
use Rattle.bench_forward.proofs.interfaces.Interfaces.number_of.Goals as goal

pub returns-then-stands_at : goal.returns-then-stands_at
returns-then-stands_at c =
    let numbers = c.self.inside.numbers.items in
    let number = c.index-number.result.now in
    let are = subst (λ gems. AreNumbersOf gems numbers) c.self.view_is c.self.invariant.1 in
    let at : slice_index numbers c.args.gem ≡ number =
    ap (slice_index numbers) (sym c.from.ensures)
    ∙ get_or_default numbers c.from.result 0 number (omega (arith, are.every, c.from.ensures, c.ranges.gem.fits)) ∙ sym c.index-number.ensures in
    let there = c.if-stands_at.ensures in
    number_is c.args.self.now numbers are c.args.gem number at (omega (arith, there.0, c.from-2.ensures)) (ap (slice_index c.args.self.now) (sym c.from-2.ensures) ∙ there.1)

pub returns-else-stands_at : goal.returns-else-stands_at
returns-else-stands_at c =
    let numbers = c.self.inside.numbers.items in
    let number = c.index-number.result.now in
    let are = subst (λ gems. AreNumbersOf gems numbers) c.self.view_is c.self.invariant.1 in
    let at : slice_index numbers c.args.gem ≡ number =
    ap (slice_index numbers) (sym c.from.ensures)
    ∙ get_or_default numbers c.from.result 0 number (omega (arith, are.every, c.from.ensures, c.ranges.gem.fits)) ∙ sym c.index-number.ensures in
    number_is_none c.args.self.now numbers are c.args.gem number at
    (λ within is. c.if-stands_at.ensures (omega (arith, within, c.from-2.ensures)) (ap (slice_index c.args.self.now) c.from-2.ensures ∙ is))
