use Rattle.std.proofs.Common.{rules, ◌≡◌, ◌<◌, None, false, get_or, length, ap, arith}
use Rattle.std.proofs.lemmas.Option.{get_or_from_slice_get}
use Rattle.bench_judge.specs.declared.frame.Frame.{Frame}
use Rattle.bench_judge.proofs.halving.greatest_version.Goals as goal

abbrev no_frame : Frame
no_frame = record { sent = 0; ended = None; port = 0; is_enough = false; least = 0; most = 0 }

pub loop-high-init : goal.loop-high-init
loop-high-init c =
    let held = c.requires.held in
    let some = c.requires.fits in
    let frames = c.args.case.now.frames.now in
    let is : get_or frames c.args.number no_frame ≡ held.0 = get_or_from_slice_get frames c.args.number held.0 no_frame held.1 in
    let most : (get_or frames c.args.number no_frame).most ≡ held.0.most = ap (λ (f : Frame). f.most) is in
    let may = some.1.each c.args.number held.0 held.1 held.2 in
    record {
      apart = omega (arith, some.2, may.most, most);
      from_on = omega arith;
      low = (some.0, some.1, omega (arith, some.2));
      high = λ versions fits. let its = fits.each c.args.number held.0 held.1 held.2 in omega (arith, its.most, most);
    }

pub fits_from-requires-clause-held : goal.fits_from-requires-clause-held
fits_from-requires-clause-held c =
    let held = c.requires.held in
    let some = c.requires.fits in
    let may = some.1.each c.args.number held.0 held.1 held.2 in
    (held.0, held.1, held.2, omega (arith, may.least, some.2, c.loop-high.invariant.from_on))

pub overflow_add-high : goal.overflow_add-high
overflow_add-high c =
    let held = c.requires.held in
    let frames = c.args.case.now.frames.now in
    let is : get_or frames c.args.number no_frame ≡ held.0 = get_or_from_slice_get frames c.args.number held.0 no_frame held.1 in
    let most : (get_or frames c.args.number no_frame).most ≡ held.0.most = ap (λ (f : Frame). f.most) is in
    let within = c.requires.within c.args.number held.0 held.1 in
    let few : length c.args.case.now.requests.now < 9223372036854775808 = search rules in
    omega (arith, most, within, few)
