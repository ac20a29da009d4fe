use Rattle.std.proofs.Common.{◌≡◌, false, sym, ◌∙◌}
use Rattle.vlan_rule.specs.Spelling.{are_codable}
use Rattle.vlan_rule.proofs.Codable.{first-false, made-spellable, none-means, second-false}
use Rattle.vlan_rule.proofs.rule.Rule.new.Goals as goal
use Rattle.vlan_rule.proofs.rule.Rule.new.Goals.{else-is_codable-via-then-is_codable+else-is_codable-2, else-is_codable-via-else-is_codable}

pub invariant_of-result : goal.invariant_of-result
invariant_of-result c =
    let made = made-spellable c.args.filter c.args.ethertype c.args.treatment c.rank-rank.result
    (sym c.is_codable.ensures ∙ c.if-is_codable.true) (sym c.is_codable-then-is_codable.ensures ∙ c.if-is_codable-2.true) c.rank-rank.ensures in
    record { codable = made.0; fits = made.1 }

pub returns-else-is_codable : goal.returns-else-is_codable
returns-else-is_codable c =
    let none : are_codable c.args.filter c.args.treatment ≡ false =
    elim c.else-is_codable.branch [ else-is_codable-via-then-is_codable+else-is_codable-2 w ↦ second-false _ _ (sym w.is_codable-then-is_codable.ensures ∙ w.if-is_codable-2.false) | else-is_codable-via-else-is_codable w ↦ first-false _ _ (sym c.is_codable.ensures ∙ w.if-is_codable.false) ] in
    (none, λ entry rank means. none-means entry _ _ _ rank none means)
