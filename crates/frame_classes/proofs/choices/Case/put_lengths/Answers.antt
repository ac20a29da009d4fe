use Rattle.std.proofs.Common.{◌≡◌, arith, rules}
use Rattle.std.specs.Prelude.{[], map}
use Rattle.frame_rows.specs.declared.field.Field.TheVariants.{Length}
use Rattle.frame_classes.specs.Told.{side_by}
use Rattle.frame_classes.proofs.Lengths.{cover_next, length_choices, none_covered}
use Rattle.frame_classes.proofs.Standing.{case_of, covering}
use Rattle.frame_classes.proofs.choices.Case.put_lengths.Goals as goal

pub loop-length-init : goal.loop-length-init
loop-length-init c =
    record {
      few = search rules;
      covered = none_covered c.args.self.now.rows.now c.args.self.now.left.now c.args.self.now.values.now c.args.least c.args.choices.now.items
          c.requires.none;
    }

pub loop-length-preserved : goal.loop-length-preserved
loop-length-preserved c =
    let len = c.put_length.ensures.len in
    let before = c.loop-length.invariant.few in
    record {
      few = omega (arith, len, before);
      covered = cover_next c.args.self.now.rows.now c.args.self.now.left.now c.args.self.now.values.now c.args.least c.loop-length.choices.items
          c.put_length.new.choices.items c.loop-length.length-index c.loop-length-test.true c.put_length.ensures.kept c.put_length.ensures.only
          c.put_length.ensures.stands c.loop-length.invariant.covered;
    }

pub returns : goal.returns
returns c =
    let all : c.loop-length.length-index ≡ 7 = omega arith in
    let self = c.args.self.now in
    let sides = self.sides.now in
    let case = case_of sides.sides.now self.rows.now sides.ends [] self.values.now self.left.now c.requires.beside c.requires.left in
    covering (map side_by sides.sides.now) self.rows.now self.left.now c.args.least Length self.values.now c.loop-length.choices.items case.all
    (length_choices (map side_by sides.sides.now) self.rows.now c.args.least self.values.now self.left.now c.loop-length.choices.items
    c.loop-length.length-index all case c.loop-length.invariant.covered)
