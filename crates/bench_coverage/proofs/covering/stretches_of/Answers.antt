use Rattle.std.proofs.Common.{◌≡◌, [], ◌∷◌, ℕ, List, None, Vec, refl, subst}
use Rattle.std.specs.Prelude.{IfOk, slice_get}
use Rattle.std.specs.declared.alloc.Global.{Global}
use Rattle.omci_msg.specs.declared.request.Request.{Request}
use Rattle.bench_judge.specs.declared.course.JudgedFrame.{JudgedFrame}
use Rattle.bench_coverage.specs.Coverage.{IsCoverage}
use Rattle.bench_coverage.specs.Stretches.{entities_by}
use Rattle.bench_coverage.specs.declared.stretch.Stretch.{Stretch}
use Rattle.bench_coverage.proofs.Noted.{none_covered}
use Rattle.bench_coverage.proofs.covering.stretches_of.Goals as goal

none_first : (frames : List JudgedFrame) → None ≡ slice_get frames 0 → frames ≡ []
none_first [] is = refl
none_first (j ∷ rest) is = absurd (cc is)

pub returns-in_default : goal.returns-in_default
returns-in_default c =
    none_covered (entities_by c.args.requests.now c.args.base) c.args.least c.args.frames.now c.new.result.items
    (none_first c.args.frames.now c.in_default.ensures.value) c.new.ensures.items

pub returns : goal.returns
returns c =
    let made = c.in_ok-passage.ensures in
    let passage = c.in_ok-passage.passage in
    let frames = c.args.frames.now in
    subst (λ (n : ℕ). IfOk c.stretches_along.result (λ (s : Vec Stretch Global). IsCoverage (entities_by c.args.requests.now c.args.base) n frames s.items))
    made.least_same
    (subst (λ (n : ℕ). IfOk c.stretches_along.result (λ (s : Vec Stretch Global). IsCoverage (entities_by c.args.requests.now n) passage.least frames s.items))
    made.base_same
    (subst (λ (qs : List Request).
    IfOk c.stretches_along.result (λ (s : Vec Stretch Global). IsCoverage (entities_by qs passage.base) passage.least frames s.items)) made.requests_same
    c.stretches_along.ensures))
