use Rattle.std.proofs.Common.{◌≡◌, ◌<◌, ◌∙◌, ℕ, List, arith, ap, length, subst, sym}
use Rattle.std.specs.Prelude.{map}
use Rattle.frame_rows.specs.declared.class.FrameClass.{FrameClass}
use Rattle.frame_classes.specs.declared.example.ClassExample.{ClassExample}
use Rattle.frame_classes.specs.Listed.{count_told, of_one, tell}
use Rattle.frame_classes.specs.Splitting.{AreExamplesOf}
use Rattle.frame_classes.proofs.Listed.{not_one, one_told}
use Rattle.frame_classes.proofs.listing.examples_of.Goals as goal
use Rattle.frame_classes.proofs.listing.examples_of.Goals.{in-One+in_ok-frame+in_ok-push, in_default}

part : ClassExample → FrameClass × List ℕ
part e = (e.class, e.frame.items)

pub loop-place-preserved : goal.loop-place-preserved
unfolding part
loop-place-preserved c =
    let samples = c.args.found.now.samples.items in
    let sample = c.index-sample.result.now in
    let count = c.len-place-end.ensures in
    let within : c.loop-place.place < length c.args.found.now.samples.items = omega (arith, count) in
    elim c.match-sample.branch [
      | in-One+in_ok-frame+in_ok-push w ↦
          one_told part of_one c.args.least c.loop-place.place samples sample c.loop-place.examples.items c.match-sample.examples.items
          (record { class = w.in-One.class; frame = w.in_ok-frame.frame }) c.loop-place.invariant within c.index-sample.ensures w.in-One.is
          (record { frame = w.in_ok-frame.ensures.frame; values = w.in_ok-frame.ensures.values })
          (ap (λ v. v.items) w.examples-is ∙ w.in_ok-push.ensures.items)
      | in_default w ↦ absurd (not_one sample.told
          (subst (λ s. count_told s.told ≡ 1) (sym c.index-sample.ensures) (c.requires c.loop-place.place sample within)) w.in_default.not-One)
    ]

pub returns : goal.returns
returns c =
    let count = c.len-place-end.ensures in
    let all : c.loop-place.place ≡ length c.args.found.now.samples.items = omega (arith, count) in
    subst (λ (n : ℕ). AreExamplesOf c.args.least n c.args.found.now.samples.items (tell of_one (map (λ (e : ClassExample). (e.class, e.frame.items)) c.loop-place.examples.items)))
    all c.loop-place.invariant
