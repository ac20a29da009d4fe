use Rattle.std.proofs.Common.{◌≡◌, ◌+◌, ◌*◌, ◌-◌, ◌^◌, ◌<◌, ◌∙◌, ◌++◌, ◌∷◌, [], min, length, ap, sym, refl, subst, arith, ℕ}
use Rattle.std.proofs.lemmas.List.{length-append}
use Rattle.plan_publish.specs.Lane.{number_of, learnt_by}
use Rattle.run_lanes.specs.Frames.{frames_in}
use Rattle.run_lanes.proofs.Working.{worked_none, worked_more, this_batch, next_batch}
use Rattle.run_lanes.proofs.lane_work.lane_batches.Goals as goal

-- the first batch is that of the lane's number
first_batch : (number len lanes : ℕ) → len ≡ 0 → number < 65536 → number ≡ min (number + len * lanes) (2 ^ 32 - 1)
first_batch number len lanes none small = subst (λ n. number ≡ min (number + n * lanes) (2 ^ 32 - 1)) (sym none) (omega (arith, small))

pub loop-k-init : goal.loop-k-init
loop-k-init g c =
    let lane = c.args.lane.now in
    let lanes = c.args.job.now.settings.lanes in
    let none = c.new-tallies.ensures.items in
    let begin : c.from-k.result ≡ number_of lane = c.from-k.ensures ∙ c.number.ensures in
    record {
      same = record { number_is = refl; learnt = refl; home_is = refl };
      next = begin ∙ first_batch (number_of lane) (length c.new-tallies.result.items) lanes (ap length none) (omega (arith, c.number.type_inv, c.number.ensures));
      worked = (c.requires.0, c.requires.1, rw none (worked_none c.args.job.now.settings (frames_in c.args.job.now.frames) (learnt_by lane) (number_of lane) c.requires.0));
    }

pub loop-k-preserved : goal.loop-k-preserved
loop-k-preserved g c =
    let i = c.loop-k.invariant in
    let s = c.args.job.now.settings in
    let lane = c.args.lane.now in
    let many = length c.loop-k.tallies.items in
    let items : c.push.new.self.items ≡ c.loop-k.tallies.items ++ c.in_ok-tally.tally ∷ [] = c.in-Ok.ensures.items in
    let len : length c.push.new.self.items ≡ many + 1 = ap length items ∙ length-append c.loop-k.tallies.items (c.in_ok-tally.tally ∷ []) in
    let fits : c.args.job.now.count < 2 ^ 32 = c.args.job.now.few in
    let same = c.in_ok-tally.ensures.same in
    let f = c.in_ok-tally.ensures.forwarded in
    let lists : i.worked.0 ≡ f.0 = cc (sym i.worked.1 ∙ f.2) in
    record {
      same = record { number_is = same.number_is ∙ i.same.number_is; learnt = same.learnt ∙ i.same.learnt; home_is = same.home_is ∙ i.same.home_is };
      next =
          c.saturating_add-k.ensures ∙ ap (λ n. min (c.loop-k.k + n) (2 ^ 32 - 1)) c.from.ensures
          ∙ next_batch (number_of lane) many s.lanes c.loop-k.k c.args.job.now.count i.next c.loop-k-test.true fits
          ∙ ap (λ n. min (number_of lane + n * s.lanes) (2 ^ 32 - 1)) (sym len);
      worked = (
        f.1,
        f.3,
        rw items
            (worked_more s (frames_in c.args.job.now.frames) (learnt_by lane) (number_of lane) i.worked.0 f.0 f.1 (learnt_by c.loop-k.lane) c.loop-k.k c.loop-k.tallies.items c.in_ok-tally.tally
            i.worked.2 lists i.same.learnt (this_batch (number_of lane) many s.lanes c.loop-k.k c.args.job.now.count i.next c.loop-k-test.true fits) f.4),
      );
    }

pub loop-k-smaller : goal.loop-k-smaller
loop-k-smaller g c =
    omega (arith, c.saturating_add-k.ensures, c.from.ensures, c.loop-k-test.true, c.args.job.now.few, c.args.job.now.can_run.0)
