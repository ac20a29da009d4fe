use Rattle.std.proofs.Common.{◌∷◌, ◌<◌, ℕ, length, arith, ap, sym, ◌∙◌}
use Rattle.std.specs.Prelude.{find}
use Rattle.std.proofs.lemmas.List.{nil_from_length}
use Rattle.std.proofs.lemmas.Bool.{and_parts}
use Rattle.std.proofs.lemmas.List.Elements.{All-head, All-same, All-tail}
use Rattle.vlan_rule.specs.Choice.{entry_at, is_before, matches}
use Rattle.vlan_rule.proofs.Chosen.{chosen_once}
use Rattle.explain.specs.Covers.{covers, is_shadowed_by}
use Rattle.explain.proofs.Covers.{covers_sound}
use Rattle.explain.proofs.Shadows.{find_here, find_there, never_used, shadow_past, shadow_within}
use Rattle.explain.proofs.covering.shadow_of.Goals as goal

pub returns-then-place-len-clause-value : goal.returns-then-place-len-clause-value
returns-then-place-len-clause-value c = shadow_past c.args.table.now c.args.place (omega arith)

pub returns-then-is_shadowed-clause-value : goal.returns-then-is_shadowed-clause-value
returns-then-is_shadowed-clause-value c =
    let entries = c.args.table.now in
    let test = is_shadowed_by entries c.args.place in
    find_here test c.in-Some.other.now c.next.new.self.rest.now c.if-is_shadowed.ensures
    ∙ ap (find test) (sym c.in-Some.ensures.steps) ∙ c.each.invariant.first ∙ shadow_within entries c.args.place (omega arith)

pub returns-then-is_shadowed-clause-admits : goal.returns-then-is_shadowed-clause-admits
returns-then-is_shadowed-clause-admits c = λ input tags type.
    let entries = c.args.table.now in
    let place = c.args.place in
    let other = c.in-Some.other.now in
    let parts = and_parts (is_before entries other place) (covers (entry_at entries other) (entry_at entries place)) (sym c.if-is_shadowed.ensures) in
    covers_sound (entry_at entries other) (entry_at entries place) input tags type parts.1

pub returns-then-is_shadowed-clause-unused : goal.returns-then-is_shadowed-clause-unused
returns-then-is_shadowed-clause-unused c = λ input tags type.
    let entries = c.args.table.now in
    let place = c.args.place in
    let other = c.in-Some.other.now in
    let rest = c.next.new.self.rest.now in
    let IsPlace : ℕ → Type 0 = λ place. place < length entries in
    let parts = and_parts (is_before entries other place) (covers (entry_at entries other) (entry_at entries place)) (sym c.if-is_shadowed.ensures) in
    let within = All-head IsPlace other rest (All-same IsPlace (other ∷ rest) c.each.other-iterator.rest.now (sym c.in-Some.ensures.steps) c.each.invariant.in_range) in
    never_used (matches input tags type) entries place other (chosen_once.computed input tags type entries) within parts.0
    (covers_sound (entry_at entries other) (entry_at entries place) input tags type parts.1)

pub each-preserved : goal.each-preserved
each-preserved c =
    let entries = c.args.table.now in
    let test = is_shadowed_by entries c.args.place in
    let other = c.in-Some.other.now in
    let rest = c.next.new.self.rest.now in
    let IsPlace : ℕ → Type 0 = λ place. place < length entries in record {
      first = find_there test other rest c.if-is_shadowed.ensures ∙ ap (find test) (sym c.in-Some.ensures.steps) ∙ c.each.invariant.first;
      in_range = All-tail IsPlace other rest (All-same IsPlace (other ∷ rest) c.each.other-iterator.rest.now (sym c.in-Some.ensures.steps) c.each.invariant.in_range);
    }

pub returns-clause-value : goal.returns-clause-value
returns-clause-value c =
    let entries = c.args.table.now in
    let test = is_shadowed_by entries c.args.place in
    ap (find test) (sym (nil_from_length c.each.other-iterator.rest.now c.in-None.ensures.steps.0)) ∙ c.each.invariant.first ∙ shadow_within entries c.args.place (omega arith)
