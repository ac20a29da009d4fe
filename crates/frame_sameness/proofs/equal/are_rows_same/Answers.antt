use Rattle.std.proofs.Common.{◌≡◌, rules, refl, sym, ◌∙◌}
use Rattle.frame_rows.specs.declared.rows.Rows.{Rows}
use Rattle.frame_classes.specs.Told.{side_by}
use Rattle.frame_classes.proofs.Silent.{endings_are}
use Rattle.frame_sameness.proofs.equal.are_rows_same.Goals as goal

side_same : (one other : Rows) → one.settings ≡ other.settings → one.endings ≡ other.endings → one.rows.items ≡ other.rows.items
    → side_by one ≡ side_by other
side_same one other p q r = rw (p, q, r) refl

pub returns-then-eq-2 : goal.returns-then-eq-2
returns-then-eq-2 c = λ h.
    side_same c.args.one.now c.args.other.now (search rules)
    (endings_are c.args.one.now.endings c.args.other.now.endings (sym c.eq-then-eq.ensures ∙ c.if-eq-2.true))
    (sym c.deref.ensures.value ∙ c.is_same_list.ensures h ∙ c.deref-then-eq-2.ensures.value)
