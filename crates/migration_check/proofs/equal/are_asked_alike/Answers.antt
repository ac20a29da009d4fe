use Rattle.std.proofs.Common.{ap, rules, sym, ◌∙◌}
use Rattle.std.specs.Prelude.{map}
use Rattle.frame_rows.specs.declared.row.Row.{Row}
use Rattle.frame_classes.proofs.Silent.{endings_are}
use Rattle.migration_check.proofs.equal.are_asked_alike.Goals as goal

pub returns-then-eq-2 : goal.returns-then-eq-2
returns-then-eq-2 c = λ h. record {
  settings = search rules;
  endings = endings_are c.args.one.now.endings c.args.other.now.endings (sym c.eq-then-eq.ensures ∙ c.if-eq-2.true);
  asks =
      ap (map (λ (row : Row). row.asks)) (sym c.deref.ensures.value) ∙ c.are_asks_same.ensures h
      ∙ ap (map (λ (row : Row). row.asks)) c.deref-then-eq-2.ensures.value;
}
