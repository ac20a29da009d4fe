use Rattle.std.proofs.Common.{◌≡◌, ◌++◌, sym, subst, take, drop, arith, ℕ, List}
use Rattle.std.proofs.lemmas.Grind.{common_steps}
use Rattle.bench_history.specs.Borders.{IsEnded, IsWhole}
use Rattle.bench_history.proofs.Borders.{ended-append}
use Rattle.bench_history.proofs.joining.cut_part.Goals as goal

pub returns-clause-ended : goal.returns-clause-ended
returns-clause-ended c = λ ended.
    let bytes = c.deref.result.now in
    let all : bytes ≡ c.args.part.items ++ c.args.rest.now = grind (arith, common_steps) in
    let both = c.end_of_line-from.ensures.ended (subst (λ (b : List ℕ). IsEnded b) (sym all) (ended-append c.args.part.items c.args.rest.now ended)) in
    let line : c.extend_from_slice-2.new.self.items ≡ take c.end_of_line-from.result bytes = grind (arith, common_steps) in
    let own : drop c.end_of_line-from.result c.extend_from_slice.new.self.items ≡ drop c.end_of_line-from.result bytes = grind (arith, common_steps) in
    (subst (λ (b : List ℕ). IsEnded b) (sym line) both.0, subst (λ (b : List ℕ). IsWhole b) (sym own) both.1)
