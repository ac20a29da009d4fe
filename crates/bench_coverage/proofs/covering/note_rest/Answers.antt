use Rattle.std.proofs.Common.{◌≡◌, ◌<◌, ◌-◌, ◌∙◌, ℕ, List, Some, ap, arith, get_or, length, sym, take}
use Rattle.std.specs.Prelude.{slice_get}
use Rattle.std.proofs.lemmas.Option.{slice_get-get_or}
use Rattle.bench_judge.specs.declared.course.JudgedFrame.{JudgedFrame}
use Rattle.bench_coverage.proofs.Going.{ahead, behind, goes_on, gone}
use Rattle.bench_coverage.proofs.covering.note_rest.Goals as goal

-- a place and the one before it
stands : (frames : List JudgedFrame) (place : ℕ) (y : JudgedFrame) → place < length frames → y ≡ get_or frames place y → slice_get frames place ≡ Some y
stands frames place y within is = slice_get-get_or frames place y within ∙ ap Some (sym is)

front : (frames : List JudgedFrame) (place : ℕ) (y : JudgedFrame) → place < length frames → slice_get frames (place - 1) ≡ Some (get_or frames (place - 1) y)
front frames place y within = slice_get-get_or frames (place - 1) y (omega (arith, within))

pub note_next-requires-clause-ahead : goal.note_next-requires-clause-ahead
note_next-requires-clause-ahead c =
    let start = c.args.passage.now in
    let frames = c.args.frames.now in
    let place = c.loop-place.place in
    let y = c.index-frames-place.result in
    let within = c.loop-place-test.true in
    ahead start.requests.now start.base start.least frames c.requires.sorted c.loop-place.passage place c.loop-place.done.items c.loop-place.last
    c.loop-place.invariant c.loop-place.auto.place y (stands frames place y within c.index-frames-place.is) (get_or frames (place - 1) y)
    (front frames place y within)

pub loop-place-preserved : goal.loop-place-preserved
loop-place-preserved c =
    let start = c.args.passage.now in
    let frames = c.args.frames.now in
    let place = c.loop-place.place in
    let y = c.index-frames-place.result in
    let at = stands frames place y c.loop-place-test.true c.index-frames-place.is in
    let went = c.in_ok-note_next.ensures in
    goes_on start.requests.now start.base start.least frames c.requires.sorted c.loop-place.passage place c.loop-place.done.items c.loop-place.last
    c.loop-place.invariant c.loop-place.auto.place y at c.note_next.new.passage c.note_next.new.done.items c.note_next.new.last went.ready went.goes_on
    went.port went.version went.whole
    (went.so_far (take place frames) (behind start.requests.now start.base start.least frames c.requires.sorted place y at went.bound))

pub returns : goal.returns
returns c =
    let start = c.args.passage.now in
    gone start.requests.now start.base start.least c.args.frames.now c.requires.sorted c.loop-place.passage c.loop-place.place c.loop-place.done.items
    c.loop-place.last c.loop-place.invariant c.loop-place-test.false
