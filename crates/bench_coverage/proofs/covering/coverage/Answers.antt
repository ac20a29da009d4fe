use Rattle.std.proofs.Common.{List, Result, Ok, Err, Vec, rules, subst, sym}
use Rattle.std.specs.Prelude.{Contains, IfOk}
use Rattle.std.specs.List.Sorted.{IsNonDecreasingBy}
use Rattle.std.specs.declared.alloc.Global.{Global}
use Rattle.std.proofs.lemmas.List.Sorted.{Contains-permutation, IsNonDecreasingBy-from_sort_by_key, IsPermutation-sym}
use Rattle.omci_msg.specs.declared.request.Request.{Request}
use Rattle.bench_judge.specs.declared.course.JudgedFrame.{JudgedFrame}
use Rattle.bench_coverage.specs.Coverage.{IsCoverage}
use Rattle.bench_coverage.specs.Passage.{frame_number}
use Rattle.bench_coverage.specs.Stretches.{entities_by}
use Rattle.bench_coverage.specs.declared.stretch.Stretch.{Stretch}
use Rattle.bench_coverage.proofs.Noted.{covered_by}
use Rattle.bench_coverage.proofs.covering.coverage.Goals as goal

if_ok : {T E : Type 0} (r : Result T E) (P Q : T → Type 0) → ((t : T) → P t → Q t) → IfOk r P → IfOk r Q
if_ok (Ok t) P Q by is = by t is
if_ok (Err e) P Q by is = tt

pub stretches_of-requires : goal.stretches_of-requires
stretches_of-requires c =
    subst (IsNonDecreasingBy frame_number) (sym c.deref-2.ensures.value)
    (IsNonDecreasingBy-from_sort_by_key frame_number _ c.in_ok-sort_by_key.ensures.sorted (λ a r q k. search rules))

pub returns : goal.returns
returns c =
    let sorted = c.deref-2.result.now in
    let given = c.args.course.frames.items in
    let moved = c.in_ok-sort_by_key.ensures.permutation in
    if_ok c.stretches_of.result (λ (s : Vec Stretch Global). IsCoverage (entities_by c.deref.result.now c.args.course.base) c.args.least sorted s.items)
    (λ (s : Vec Stretch Global). IsCoverage (entities_by c.args.course.requests.items c.args.course.base) c.args.least given s.items)
    (λ s are.
    subst (λ (qs : List Request). IsCoverage (entities_by qs c.args.course.base) c.args.least given s.items) c.deref.ensures.value
    (covered_by (entities_by c.deref.result.now c.args.course.base) c.args.least sorted given s.items
    (λ j inside. Contains-permutation _ given j (IsPermutation-sym given _ moved) (subst (λ (l : List JudgedFrame). Contains l j) c.deref-2.ensures.value inside))
    (λ j inside. subst (λ (l : List JudgedFrame). Contains l j) (sym c.deref-2.ensures.value) (Contains-permutation given _ j moved inside)) are))
    c.stretches_of.ensures
