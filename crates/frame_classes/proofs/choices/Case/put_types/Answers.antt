use Rattle.std.proofs.Common.{◌≡◌, ◌<◌, ◌≤◌, ◌^◌, ℕ, [], arith, ap, length, subst, sym}
use Rattle.std.specs.Prelude.{All, Contains, map, take}
use Rattle.std.proofs.lemmas.List.{length-map}
use Rattle.std.proofs.lemmas.List.Elements.{All-cons, All-nil}
use Rattle.frame_rows.specs.Field.{fields, place_of}
use Rattle.frame_classes.specs.Told.{side_by}
use Rattle.frame_classes.proofs.Standing.{case_of, covering}
use Rattle.frame_classes.proofs.Types.{Covers}
use Rattle.frame_classes.proofs.TypeChoices.{cover_all, cover_more, fit_more, inputs_kept, known_small, spare_kept, type_choices}
use Rattle.frame_classes.proofs.choices.Case.put_types.Goals as goal

pub loop-ethertype-init : goal.loop-ethertype-init
loop-ethertype-init c =
    let self = c.args.self.now in
    let is = c.put_only.ensures in
    let one : length c.put_only.new.choices.items ≡ 1 = ap length is in
    record {
      few = omega (arith, one);
      fit = subst (All (λ (v : ℕ). v < 2 ^ 16)) (sym is)
          (All-cons (λ (v : ℕ). v < 2 ^ 16) c.first_type.result [] c.first_type.ensures (All-nil (λ (v : ℕ). v < 2 ^ 16)));
      cover = All-nil (Covers (map side_by self.sides.now.sides.now) (length self.sides.now.sides.now) self.rows.now self.left.now self.values.now
          c.args.field c.put_only.new.choices.items);
    }

pub loop-ethertype-preserved : goal.loop-ethertype-preserved
loop-ethertype-preserved c =
    let self = c.args.self.now in
    let len = c.put_type.ensures.len in
    let before = c.loop-ethertype.invariant.few in
    record {
      few = omega (arith, len, before);
      fit = fit_more c.loop-ethertype.choices.items c.put_type.new.choices.items _ (known_small c.loop-ethertype.ethertype-index c.loop-ethertype-test.true)
          c.put_type.ensures.only c.loop-ethertype.invariant.fit;
      cover = cover_more (map side_by self.sides.now.sides.now) (length self.sides.now.sides.now) self.rows.now self.left.now self.values.now c.args.field
          c.loop-ethertype.choices.items c.put_type.new.choices.items c.loop-ethertype.ethertype-index c.loop-ethertype-test.true c.put_type.ensures.kept
          c.put_type.ensures.stands c.loop-ethertype.invariant.cover;
    }

pub put_inputs-requires : goal.put_inputs-requires
put_inputs-requires c =
    let few = c.loop-ethertype.invariant.few in
    let len = c.put_spare_type.ensures.len in
    record { beside = c.requires.beside; room = omega (arith, few, len) }

pub put_named_types-requires : goal.put_named_types-requires
put_named_types-requires c =
    let few = c.loop-ethertype.invariant.few in
    let len = c.put_spare_type.ensures.len in
    let inputs = c.put_inputs.ensures.len in
    let left = c.requires.few in
    omega (arith, few, len, inputs, left)

pub returns : goal.returns
returns c =
    let self = c.args.self.now in
    let sides = map side_by self.sides.now.sides.now in
    let count = length self.sides.now.sides.now in
    let field = c.args.field in
    let r = c.requires in
    let all : c.loop-ethertype.ethertype-index ≡ 8 = omega arith in
    let same = length-map self.sides.now.sides.now side_by in
    let few = r.beside.three in
    let three : length sides ≤ 3 = omega (arith, same, few) in
    let case =
    case_of self.sides.now.sides.now self.rows.now self.sides.now.ends (take (place_of field) fields) self.values.now self.left.now r.beside r.left in
    let choices = c.put_named_types.new.choices.items in
    let kept : (v : ℕ) → Contains c.put_inputs.new.choices.items v → Contains choices v = c.put_named_types.ensures.kept in
    λ least.
    covering sides self.rows.now self.left.now least field self.values.now choices case.all
    (type_choices sides count self.rows.now least field self.values.now self.left.now choices case three (sym same) r.eleven r.behind r.early r.long
    (c.put_named_types.ensures.fit (c.put_inputs.ensures.fit (c.put_spare_type.ensures.fit c.loop-ethertype.invariant.fit)))
    (cover_all sides count self.rows.now self.left.now self.values.now field c.loop-ethertype.choices.items choices c.loop-ethertype.ethertype-index all
    (λ v h. kept v (c.put_inputs.ensures.kept v (c.put_spare_type.ensures.kept v h))) c.loop-ethertype.invariant.cover)
    (inputs_kept sides count self.rows.now self.left.now self.values.now field c.put_inputs.new.choices.items choices kept c.put_inputs.ensures.stands)
    c.put_named_types.ensures.named
    (λ v small h. spare_kept sides self.rows.now self.left.now field self.values.now c.put_spare_type.new.choices.items choices
    (λ w there. kept w (c.put_inputs.ensures.kept w there)) (c.put_spare_type.ensures.spare v small h)))
