use Rattle.std.proofs.Common.{◌∷◌, ◌++◌, [], ℕ, List, arith, refl, subst, sym}
use Rattle.omci_msg.specs.declared.request.Request.{Request}
use Rattle.bench_coverage.specs.Coverage.{IsCoverage}
use Rattle.bench_coverage.specs.Noting.{IsGoing}
use Rattle.bench_coverage.specs.Passage.{entities_in}
use Rattle.bench_coverage.specs.Stretches.{entities_by}
use Rattle.bench_coverage.specs.declared.stretch.Stretch.{Stretch}
use Rattle.bench_coverage.proofs.Going.{begun}
use Rattle.bench_coverage.proofs.covering.stretches_along.Goals as goal

pub class_next-requires-clause-ahead : goal.class_next-requires-clause-ahead
class_next-requires-clause-ahead c = λ same. omega (arith, c.requires.start)

pub note_rest-requires-clause-going : goal.note_rest-requires-clause-going
note_rest-requires-clause-going c =
    let passage = c.class_next.new.passage in
    let went = c.in_ok-class.ensures in
    let y = c.args.first.now in
    let last = c.in_ok-last.last in
    subst (λ (done : List Stretch). IsGoing passage.requests.now passage.base passage.least c.args.frames.now passage 1 done last)
    (sym c.new-done.ensures.items)
    (begun passage.requests.now passage.base passage.least c.args.frames.now c.requires.sorted passage y last c.requires.first went.ready refl refl refl
    went.port went.version c.in_ok-last.ensures.whole
    (c.in_ok-last.ensures.so_far y
    (record { port = sym went.port; version = sym went.version; has_class = sym went.class; last = λ j inside. absurd (omega (arith, inside.1)) })))

pub returns : goal.returns
returns c =
    let old = c.args.passage.now in
    let passage = c.class_next.new.passage in
    let on = c.in_ok-class.ensures.goes_on in
    let frames = c.args.frames.now in
    subst (λ (list : List Stretch). IsCoverage (entities_in old) old.least frames list) (sym c.in_ok-push.ensures.items)
    (subst (λ (n : ℕ). IsCoverage (entities_in old) n frames (c.note_rest.new.done.items ++ c.note_rest.new.last ∷ [])) on.least
    (subst (λ (n : ℕ). IsCoverage (entities_by old.requests.now n) passage.least frames (c.note_rest.new.done.items ++ c.note_rest.new.last ∷ [])) on.base
    (subst (λ (qs : List Request). IsCoverage (entities_by qs passage.base) passage.least frames (c.note_rest.new.done.items ++ c.note_rest.new.last ∷ []))
    on.requests c.in_ok-note_rest.ensures)))
