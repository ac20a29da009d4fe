use Rattle.std.proofs.Common.{◌≡◌, ◌&&◌, Bool, true, inl, inr, arith, ap, sym, ◌∙◌}
use Rattle.vlan_rule.specs.Meaning.{rank_number}
use Rattle.vlan_rule.specs.Choice.{entry_at, is_before, rank_at}
use Rattle.explain.specs.Covers.{covers}
use Rattle.explain.proofs.Covers.{rules_cover}
use Rattle.explain.proofs.Shadows.{before_by_place, before_by_rank}
use Rattle.explain.proofs.covering.is_shadowed.Goals as goal

pub returns-then-other-place : goal.returns-then-other-place
returns-then-other-place c =
    let entries = c.args.table.now in
    let place = c.args.place in
    let other = c.args.other in
    let rank : rank_at entries place ≡ c.number-rank.result = sym (c.number-rank.ensures ∙ ap rank_number c.in-Some-Some.ensures.1.rank) in
    let least : rank_at entries other ≡ c.number-least.result = sym (c.number-least.ensures ∙ ap rank_number c.in-Some-Some.ensures'.1.rank) in
    let before : is_before entries other place ≡ true =
    elim c.if-other-place.either [
      | inl less ↦ before_by_rank (rank_at entries other) (rank_at entries place) other place (omega arith)
      | inr same ↦ before_by_place (rank_at entries other) (rank_at entries place) other place (omega arith) (omega arith)
    ] in
    c.covers.ensures
    ∙ rules_cover (entry_at entries other) (entry_at entries place) c.in-Some-Some.earlier.now c.in-Some-Some.rule.now c.in-Some-Some.ensures'.1 c.in-Some-Some.ensures.1
    ∙ ap (λ (b : Bool). b && covers (entry_at entries other) (entry_at entries place)) (sym before)
