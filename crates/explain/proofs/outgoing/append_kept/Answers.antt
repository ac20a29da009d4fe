use Rattle.std.proofs.Common.{◌+◌, ◌++◌, ◌∷◌, [], ℕ, arith, ap, sym, drop, ◌∙◌}
use Rattle.explain.specs.declared.outgoing.TagOrigin.TheVariants.{Received}
use Rattle.explain.specs.Outgoing.{kept_from}
use Rattle.explain.proofs.Appended.{appended, none_left}
use Rattle.explain.proofs.Kept.{kept_end, kept_more}
use Rattle.explain.proofs.outgoing.append_kept.Goals as goal

pub loop-place-init : goal.loop-place-init
loop-place-init c = record {
  kept = ap (λ (i : ℕ). c.args.tags.now.items ++ kept_from i (drop i c.args.received.now)) c.min-place.ensures;
  room = omega arith;
}

pub push-requires : goal.push-requires
push-requires c = (omega arith, omega arith)

pub loop-place-preserved : goal.loop-place-preserved
loop-place-preserved c =
    let received = c.args.received.now in
    let place = c.loop-place.place in
    let tag = c.index-received-place.result in
    let more = kept_more received place tag c.loop-place-test.true c.index-received-place.is in record {
      kept =
          appended c.loop-place.tags.items c.push.new.self.items (record { tag = tag; origin = Received place } ∷ [])
          (kept_from (place + 1) (drop (place + 1) received)) (kept_from place (drop place received)) c.push.ensures.items (sym more)
          ∙ c.loop-place.invariant.kept;
      room = omega arith;
    }

pub returns : goal.returns
returns c =
    none_left c.loop-place.tags.items (kept_from c.loop-place.place (drop c.loop-place.place c.args.received.now)) _
    (kept_end c.args.received.now c.loop-place.place (omega arith)) c.loop-place.invariant.kept
