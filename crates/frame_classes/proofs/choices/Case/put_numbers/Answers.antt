use Rattle.std.proofs.Common.{length, sym}
use Rattle.std.specs.Prelude.{map, take}
use Rattle.std.proofs.lemmas.List.{length-map}
use Rattle.frame_rows.specs.Field.{fields, place_of}
use Rattle.frame_classes.specs.Told.{side_by}
use Rattle.frame_classes.proofs.Numbers.{all_numbers, one_number, several_numbers}
use Rattle.frame_classes.proofs.Standing.{case_of, covering}
use Rattle.frame_classes.proofs.choices.Case.put_numbers.Goals as goal

pub returns-then-is_read : goal.returns-then-is_read
returns-then-is_read c =
    let self = c.args.self.now in
    let sides = map side_by self.sides.now.sides.now in
    let r = c.requires in
    λ least.
    covering sides self.rows.now self.left.now least c.args.field self.values.now c.put_up_to.new.choices.items r.beside.together
    (all_numbers sides self.rows.now least c.args.field self.values.now self.left.now c.put_up_to.new.choices.items c.args.end r.late r.long r.end c.put_up_to.ensures)

pub returns-then-is_settled : goal.returns-then-is_settled
returns-then-is_settled c =
    let self = c.args.self.now in
    let sides = map side_by self.sides.now.sides.now in
    let places = self.left.now in
    let r = c.requires in
    let case = case_of self.sides.now.sides.now self.rows.now self.sides.now.ends (take (place_of c.args.field) fields) self.values.now places r.beside r.left in
    λ least.
    covering sides self.rows.now places least c.args.field self.values.now c.put_only.new.choices.items case.all
    (one_number sides self.rows.now least c.args.field self.values.now places c.put_only.new.choices.items c.plain.result case r.late r.long c.plain.ensures
    (sym c.if-is_read.ensures) (sym c.if-is_asked.ensures) (sym c.if-is_settled.ensures) c.put_only.ensures)

pub returns : goal.returns
returns c =
    let self = c.args.self.now in
    let sides = map side_by self.sides.now.sides.now in
    let places = self.left.now in
    let r = c.requires in
    let case = case_of self.sides.now.sides.now self.rows.now self.sides.now.ends (take (place_of c.args.field) fields) self.values.now places r.beside r.left in
    λ least.
    covering sides self.rows.now places least c.args.field self.values.now c.put_several.new.choices.items case.all
    (several_numbers sides self.rows.now least c.args.field self.values.now places c.put_several.new.choices.items (length self.sides.now.sides.now) c.args.end case
    r.late r.long r.end (sym (length-map self.sides.now.sides.now side_by)) (sym c.if-is_read.ensures) (sym c.if-is_asked.ensures) c.put_several.ensures.fit
    c.put_several.ensures.several)
