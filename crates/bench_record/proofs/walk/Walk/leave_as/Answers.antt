use Rattle.std.proofs.Common.{◌≡◌, ◌∙◌, ◌∷◌, [], ℕ, List, Global, Vec, length, map, ap, sym}
use Rattle.std.proofs.lemmas.List.{length-map}
use Rattle.std.proofs.lemmas.Result.{IfOk-weaker}
use Rattle.bench_history.specs.declared.event.Event.TheVariants.{Left}
use Rattle.bench_history.specs.declared.extent.Extent.{Extent}
use Rattle.bench_record.specs.Index.{IsSeen, kept_shown}
use Rattle.bench_record.specs.Matching.{SentFrame, leave_at}
use Rattle.bench_record.specs.Recorded.{Seen, extent_within, longest_frame, seen_in, with_events}
use Rattle.bench_record.specs.Walk.{sourced_shown}
use Rattle.bench_record.specs.declared.matching.KeptFrame.{KeptFrame}
use Rattle.bench_record.proofs.Candidates.{fewer_left, left_count, left_long}
use Rattle.bench_record.proofs.Indexes.{fewer_open}
use Rattle.bench_record.proofs.Walks.{seen_as}
use Rattle.bench_record.proofs.walk.Walk.leave_as.Goals as goal

pub returns-clause-seen : goal.returns-clause-seen
returns-clause-seen c = λ seen is.
    let at = sourced_shown c.args.at.now in
    let lost = c.args.lost in
    let time = at.frame.time in
    let n = c.args.number in
    let left : Seen = record seen { frames = record seen.frames { sent = leave_at n seen.frames.sent } } in
    let marked : IsSeen lost time left (record c.args.self.now { sent = c.mark.new.sent }) = record {
      sent = c.mark.ensures ∙ ap (λ (xs : List SentFrame). leave_at n xs) is.sent;
      waiting = fewer_open lost time c.args.self.now.shortest seen.frames left.frames c.args.self.now.waiting (fewer_left lost seen.frames n) is.waiting;
      doubts = is.doubts;
      long = left_long c.args.self.now.shortest n seen.frames.sent ∙ is.long;
      replies = is.replies;
      events = is.events;
      passed = is.passed;
      hidden = is.hidden;
      unnumbered = is.unnumbered;
    } in
    IfOk-weaker c.add.result _ _
    (λ done so. seen_as lost time _ _ c.add.new.self
    (ap (λ (extent : Extent). with_events (seen_in at (Left c.args.gem extent n c.within-extent.result.1.now) ∷ []) left) c.within-extent.ensures.extent
    ∙ ap (λ (frame : List ℕ). with_events (seen_in at (Left c.args.gem (extent_within longest_frame at.frame.extent at.frame.bytes.now) n frame) ∷ []) left)
    c.within-extent.ensures.frame) so)
    (c.add.ensures.seen lost time left (c.in_ok-let_go.ensures.seen left marked))

marked_count : (news olds : List KeptFrame) (n : ℕ) → map kept_shown news ≡ leave_at n (map kept_shown olds) → length news ≡ length olds
marked_count news olds n is =
    sym (length-map news kept_shown) ∙ ap (λ (xs : List SentFrame). length xs) is ∙ left_count n (map kept_shown olds) ∙ length-map olds kept_shown

pub returns-clause-count : goal.returns-clause-count
returns-clause-count c =
    ap (λ (sent : Vec KeptFrame Global). length sent.items) (c.add.ensures.sent ∙ c.let_go.ensures.sent)
    ∙ marked_count c.mark.new.sent.items c.args.self.now.sent.items c.args.number c.mark.ensures

pub returns-in_err-let_go-clause-count : goal.returns-in_err-let_go-clause-count
returns-in_err-let_go-clause-count c =
    ap (λ (sent : Vec KeptFrame Global). length sent.items) c.let_go.ensures.sent
    ∙ marked_count c.mark.new.sent.items c.args.self.now.sent.items c.args.number c.mark.ensures
