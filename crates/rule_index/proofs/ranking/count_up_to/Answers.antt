use Rattle.std.proofs.Common.{◌≤◌, ◌<◌, ◌+◌, true, false, get_or, [], ap, sym, ◌∙◌, refl, arith}
use Rattle.std.proofs.lemmas.Bool.{le-leb, lt-leb}
use Rattle.vlan_rule.specs.Meaning.{rank_number, rank_of}
use Rattle.rule_index.specs.Order.{up_to_rank}
use Rattle.rule_index.proofs.Inserted.{up-to-next}
use Rattle.rule_index.proofs.ranking.count_up_to.Goals as goal
use Rattle.rule_index.proofs.ranking.count_up_to.Goals.{in-Some+then-number-rank, in-Some+else-number-rank, in_default}

pub loop-place-init : goal.loop-place-init
unfolding up_to_rank
loop-place-init c = record { value = refl; limit = omega arith }

pub loop-place-preserved : goal.loop-place-preserved
loop-place-preserved c = elim c.match-rule.branch [
  | in-Some+then-number-rank w ↦
      let table = c.args.table.now in
      let i = c.loop-place.place in
      let few : rank_number (rank_of (get_or table i [])) ≤ c.args.rank = omega (arith, ap rank_number w.in-Some.ensures.1.rank, w.number.ensures, w.if-number-rank.true) in
      record {
        value = w.counted-is ∙ ap (λ n. n + 1) c.loop-place.invariant.value ∙ sym (up-to-next c.args.rank table i true w.in-Some.ensures.0 (le-leb _ _ few));
        limit = omega (arith, w.counted-is, c.loop-place.invariant.limit);
      }
  | in-Some+else-number-rank w ↦
      let table = c.args.table.now in
      let i = c.loop-place.place in
      let more : c.args.rank < rank_number (rank_of (get_or table i [])) = omega (arith, ap rank_number w.in-Some.ensures.1.rank, w.number.ensures, w.if-number-rank.false) in
      record {
        value = w.counted-is ∙ c.loop-place.invariant.value ∙ sym (up-to-next c.args.rank table i false w.in-Some.ensures.0 (lt-leb _ _ more));
        limit = omega (arith, w.counted-is, c.loop-place.invariant.limit);
      }
  | in_default w ↦ absurd (omega (arith, w.in_default.ensures, c.loop-place-test.true, c.requires))
]
