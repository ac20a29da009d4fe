use Rattle.std.proofs.Common.{◌≡◌, ◌≤◌, ◌<◌, ◌^◌, ap, arith, length, subst, sym, get_or, ◌∙◌}
use Rattle.std.specs.Prelude.{All, map}
use Rattle.std.proofs.lemmas.List.{get_or-map, length-map, take_all}
use Rattle.frame_rows.specs.Sight.{Side}
use Rattle.frame_classes.specs.Told.{side_by}
use Rattle.frame_classes.proofs.Types.{Covers}
use Rattle.frame_classes.proofs.TypeChoices.{fit_more, inputs_more}
use Rattle.frame_classes.proofs.choices.Case.put_inputs.Goals as goal

pub loop-side-preserved : goal.loop-side-preserved
loop-side-preserved c =
    let len = c.put_type.ensures.len in
    let before = c.loop-side.invariant.few in
    let is = c.side-item.is in
    let self = c.args.self.now in
    let item = c.side-item.result in
    let fits : item.settings.input_tpid < 2 ^ 16 = omega arith in
    let at : get_or (map side_by self.sides.now.sides.now) c.loop-side.side-index (side_by item) ≡ side_by item =
    get_or-map side_by self.sides.now.sides.now c.loop-side.side-index item (side_by item) c.loop-side-test.true ∙ ap side_by (sym is) in
    let same = length-map self.sides.now.sides.now side_by in
    record {
      few = omega (arith, len, before);
      kept = λ v h. c.put_type.ensures.kept v (c.loop-side.invariant.kept v h);
      fit = λ fit. fit_more c.loop-side.choices.items c.put_type.new.choices.items item.settings.input_tpid fits c.put_type.ensures.only
          (c.loop-side.invariant.fit fit);
      cover = inputs_more (map side_by self.sides.now.sides.now) (length self.sides.now.sides.now) self.rows.now self.left.now self.values.now
          c.args.field c.loop-side.choices.items c.put_type.new.choices.items c.loop-side.side-index (side_by item)
          (omega (arith, same)) c.put_type.ensures.kept
          (subst (λ (s : Side). Covers (map side_by self.sides.now.sides.now) (length self.sides.now.sides.now) self.rows.now self.left.now self.values.now
          c.args.field c.put_type.new.choices.items s.settings.input_tpid) (sym at) c.put_type.ensures.stands)
          c.loop-side.invariant.cover;
    }

pub returns-clause-stands : goal.returns-clause-stands
returns-clause-stands c =
    let self = c.args.self.now in
    let sides = map side_by self.sides.now.sides.now in
    let same = length-map self.sides.now.sides.now side_by in
    let all : length sides ≤ c.loop-side.side-index = omega (arith, same) in
    subst (All (λ side. Covers sides (length self.sides.now.sides.now) self.rows.now self.left.now
    self.values.now c.args.field c.loop-side.choices.items side.settings.input_tpid)) (take_all c.loop-side.side-index sides all) c.loop-side.invariant.cover
