use Rattle.std.proofs.Common.{sym, ◌∙◌}
use Rattle.bench_history.specs.Among.{left_in}
use Rattle.bench_history.proofs.Rising.{behind_first, has_behind, least_taken, whole_text}
use Rattle.bench_history.proofs.numbers.Numbers.take_least.Goals as goal

pub invariant_of-self : goal.invariant_of-self
invariant_of-self c =
    let text = c.self.inside.text.now in
    let whole = whole_text text (sym c.is_empty.ensures ∙ c.if-is_empty.false) c.self.invariant in
    has_behind text c.next_word.result.0.now c.next_word.result.1.now (left_in text) c.next_word.ensures whole

pub returns : goal.returns
returns c =
    let text = c.self.inside.text.now in
    let whole = whole_text text (sym c.is_empty.ensures ∙ c.if-is_empty.false) c.self.invariant in
    let first = behind_first text c.next_word.result.0.now c.next_word.result.1.now (left_in text) c.next_word.ensures whole in
    least_taken c.read_count.result c.args.self.now _ _ first.n (c.read_count.ensures ∙ first.number) (sym c.self.view_is ∙ first.is)
