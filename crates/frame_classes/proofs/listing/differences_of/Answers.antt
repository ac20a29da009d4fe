use Rattle.std.proofs.Common.{◌≡◌, ◌<◌, ◌∙◌, ℕ, List, arith, ap, length, subst, sym}
use Rattle.std.specs.Prelude.{map}
use Rattle.frame_rows.specs.declared.class.FrameClass.{FrameClass}
use Rattle.frame_classes.specs.declared.example.Difference.{Difference}
use Rattle.frame_classes.specs.Listed.{count_told, of_two, tell}
use Rattle.frame_classes.specs.Splitting.{AreExamplesOf}
use Rattle.frame_classes.proofs.Listed.{not_two, one_told}
use Rattle.frame_classes.proofs.listing.differences_of.Goals as goal
use Rattle.frame_classes.proofs.listing.differences_of.Goals.{in-Two+in_ok-frame+in_ok-push, in_default}

part : Difference → (FrameClass × FrameClass) × List ℕ
part e = ((e.before, e.after), e.frame.items)

pub loop-place-preserved : goal.loop-place-preserved
unfolding part
loop-place-preserved c =
    let samples = c.args.found.now.samples.items in
    let sample = c.index-sample.result.now in
    let count = c.len-place-end.ensures in
    let within : c.loop-place.place < length c.args.found.now.samples.items = omega (arith, count) in
    elim c.match-sample.branch [
      | in-Two+in_ok-frame+in_ok-push w ↦
          one_told part of_two c.args.least c.loop-place.place samples sample c.loop-place.differences.items c.match-sample.differences.items
          (record { before = w.in-Two.before; after = w.in-Two.after; frame = w.in_ok-frame.frame }) c.loop-place.invariant within c.index-sample.ensures w.in-Two.is
          (record { frame = w.in_ok-frame.ensures.frame; values = w.in_ok-frame.ensures.values })
          (ap (λ v. v.items) w.differences-is ∙ w.in_ok-push.ensures.items)
      | in_default w ↦ absurd (not_two sample.told
          (subst (λ s. count_told s.told ≡ 2) (sym c.index-sample.ensures) (c.requires c.loop-place.place sample within)) w.in_default.not-Two)
    ]

pub returns : goal.returns
returns c =
    let count = c.len-place-end.ensures in
    let all : c.loop-place.place ≡ length c.args.found.now.samples.items = omega (arith, count) in
    subst (λ (n : ℕ). AreExamplesOf c.args.least n c.args.found.now.samples.items (tell of_two (map (λ (e : Difference). ((e.before, e.after), e.frame.items)) c.loop-place.differences.items)))
    all c.loop-place.invariant
