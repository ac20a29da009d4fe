use Rattle.std.proofs.Common.{◌⊎◌, List, subst}
use Rattle.std.specs.Prelude.{slice_get}
use Rattle.frame_classes.specs.declared.example.ClassExample.{ClassExample}
use Rattle.bench_coverage.specs.Marks.{AreMarked, HasClass, IsPlaceFor}
use Rattle.bench_coverage.proofs.Placed.{marks}
use Rattle.bench_coverage.proofs.stretch.Stretch.mark.Goals as goal

pub returns-clause-tried : goal.returns-clause-tried
returns-clause-tried c =
    let class = c.args.class.now in
    let place = c.place_for-place.result in
    let before = c.args.self.now.tried.items in
    let after = c.mark_at.new.tried.items in
    marks c.args.self.now.classes.items c.requires.ascend class place before c.requires.marks after
    (subst (λ (l : List ClassExample). AreMarked l place class before after) c.deref-2.ensures.value c.mark_at.ensures.marked)
    (subst (λ (l : List ClassExample). HasClass class (slice_get l place) ⊎ (HasClass class (slice_get l place) → ⊥)) c.deref-2.ensures.value
    c.mark_at.ensures.decided)
    (subst (λ (l : List ClassExample). IsPlaceFor l class place) c.deref.ensures.value c.place_for-place.ensures)
