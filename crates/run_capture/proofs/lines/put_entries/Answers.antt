use Rattle.std.proofs.Common.{◌≡◌, ◌++◌, [], ap, sym, ◌∙◌, subst, rules}
use Rattle.std.proofs.lemmas.List.{append-nil}
use Rattle.std.proofs.lemmas.Map.Iter.{rest_all}
use Rattle.std.specs.List.Sorted.{IsStrictlySortedBy}
use Rattle.std.specs.Map.Iter.{deref_pair}
use Rattle.std.specs.Map.{keys_of}
use Rattle.std.specs.Ordering.{nat_cmp}
use Rattle.run_capture.proofs.Totals.{Below, entry_lines, gems_shown}
use Rattle.run_capture.proofs.lines.put_entries.Goals as goal

pub returns : goal.returns
returns c = λ of same.
    let ended : c.loop-gem.gem-iterator ≡ [] = rest_all deref_pair c.loop-gem.gem-iterator c.next.new.self c.next.result c.in-None.is c.next.ensures.steps in
    let sorted : IsStrictlySortedBy nat_cmp (keys_of c.args.ports.now.entries) = search rules in
    let small = c.loop-gem.invariant.small (subst (λ es. Below 65536 es) (sym ended) tt) in
    sym (append-nil c.loop-gem.text.items) ∙ ap (λ es. c.loop-gem.text.items ++ entry_lines es) (sym ended) ∙ c.loop-gem.invariant.lines
    ∙ ap (λ lines. c.args.text.now.items ++ lines) (gems_shown of c.args.ports.now same sorted small)
