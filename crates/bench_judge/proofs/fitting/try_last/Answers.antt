use Rattle.std.proofs.Common.{◌≡◌, ◌<◌, ◌∙◌, Some, arith, length, length-set, refl, sym}
use Rattle.std.specs.Prelude.{slice_get}
use Rattle.std.proofs.lemmas.Bool.{ltb-true}
use Rattle.std.proofs.lemmas.Option.{slice_get_read}
use Rattle.bench_judge.proofs.Alone.{had_more}
use Rattle.bench_judge.proofs.fitting.try_last.Goals as goal

pub returns-then-may_have_by : goal.returns-then-may_have_by
returns-then-may_have_by c =
    let case = c.args.case.now in
    let frames = case.frames.now in
    let n = c.args.number in
    let found = c.args.late.now.found.items in
    let read = c.in-Some.ensures.lookup in
    let some : n < length frames = ltb-true n (length frames) (sym read.0) in
    let at : slice_get frames n ≡ Some c.in-Some.frame.now = slice_get_read frames (length frames) n c.in-Some.frame.now refl some read.1 in
    let live = c.advance-late.ensures.live c.requires.late.live in
    let may = (c.may_have_by.ensures case.requests.now live).0 c.if-may_have_by.true in
    record {
      within = c.advance-late.ensures.within;
      live = live;
      count = length-set found n (Some c.advance-late.result) ∙ c.requires.late.count;
      had = had_more case.events.now case.requests.now frames found n c.advance-late.result c.in-Some.frame.now c.requires.late.had
          (omega (arith, some, c.requires.late.count)) at may;
    }

pub returns-in-Some-version_of : goal.returns-in-Some-version_of
returns-in-Some-version_of c =
    let case = c.args.case.now in
    let frames = case.frames.now in
    let n = c.args.number in
    let found = c.args.late.now.found.items in
    let read = c.in-Some.ensures.lookup in
    let some : n < length frames = ltb-true n (length frames) (sym read.0) in
    let at : slice_get frames n ≡ Some c.in-Some.frame.now = slice_get_read frames (length frames) n c.in-Some.frame.now refl some read.1 in
    let may = c.requires.known n c.in-Some-version_of.version c.in-Some.frame.now at (sym c.version_of.ensures ∙ c.in-Some-version_of.is) in
    record {
      within = c.requires.late.within;
      live = c.requires.late.live;
      count = length-set found n (Some c.in-Some-version_of.version) ∙ c.requires.late.count;
      had = had_more case.events.now case.requests.now frames found n c.in-Some-version_of.version c.in-Some.frame.now c.requires.late.had
          (omega (arith, some, c.requires.late.count)) at may;
    }
