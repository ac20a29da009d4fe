use Rattle.std.proofs.Common.{◌∙◌}
use Rattle.frame_classes.proofs.Finding.{IsPlace, inserted_in, kept_in}
use Rattle.frame_classes.proofs.found.Found.put.Goals as goal

pub returns-in_ok-insert-clause-items : goal.returns-in_ok-insert-clause-items
returns-in_ok-insert-clause-items c =
    let samples = c.args.self.now.samples.items in
    let seen = c.as_slice-samples.result.now in
    let place = c.place_of-place.result in
    let there : IsPlace seen c.number-number.result place =
    record { within = c.place_of-place.ensures.within; before = c.place_of-place.ensures.before; behind = c.place_of-place.ensures.behind } in
    c.in_ok-insert.ensures.items
    ∙ inserted_in _ samples seen c.number-number.result place c.is_at.result c.as_slice-samples.ensures.value c.number-number.ensures.value there c.is_at.ensures
    c.if-not-is_at.true

pub returns-else-not-is_at-clause-items : goal.returns-else-not-is_at-clause-items
returns-else-not-is_at-clause-items c =
    let samples = c.args.self.now.samples.items in
    let seen = c.as_slice-samples.result.now in
    let place = c.place_of-place.result in
    let there : IsPlace seen c.number-number.result place =
    record { within = c.place_of-place.ensures.within; before = c.place_of-place.ensures.before; behind = c.place_of-place.ensures.behind } in
    kept_in _ samples seen c.number-number.result place c.is_at.result c.as_slice-samples.ensures.value c.number-number.ensures.value there c.is_at.ensures
    c.if-not-is_at.false
