use Rattle.std.proofs.Common.{◌≡◌, ◌∙◌, ◌+◌, ◌-◌, ℕ, Bool, take, take_all, ap}
use Rattle.std.specs.List.{count_by}
use Rattle.bench_history.specs.History.{frames_in, is_frame, is_reply}
use Rattle.bench_judge.specs.Counted.{is_cut, is_dropped, is_known, is_known_in, is_left, is_lost, is_message, is_stray}
use Rattle.bench_judge.proofs.Counted.{known_same}
use Rattle.bench_judge.proofs.counts.counts.Goals as goal

pub returns : goal.returns
returns c = λ grounds requests.
    let events = c.args.events.now in
    let inv = c.loop-event.invariant in
    let all : take c.loop-event.event-index events ≡ events = take_all c.loop-event.event-index events c.loop-event-test.false in
    let known : is_known_in c.args.frames.now ≡ is_known events = known_same events c.args.frames.now c.requires.known in
    let opened : c.loop-event.counts.«open» ≡ frames_in events = inv.frames ∙ ap (count_by is_frame) all in
    record {
      messages = inv.messages ∙ ap (count_by is_message) all;
      accepted = inv.accepted ∙ requests;
      replies = inv.replies ∙ ap (count_by is_reply) all;
      forwarded = inv.forwarded ∙ ap (count_by (is_left (is_known_in c.args.frames.now))) all ∙ ap (λ (k : ℕ → Bool). count_by (is_left k) events) known;
      dropped = inv.dropped ∙ ap (count_by (is_dropped (is_known_in c.args.frames.now))) all ∙ ap (λ (k : ℕ → Bool). count_by (is_dropped k) events) known;
      lost = inv.lost ∙ ap (count_by (is_lost (is_known_in c.args.frames.now))) all ∙ ap (λ (k : ℕ → Bool). count_by (is_lost k) events) known;
      others = c.saturating_sub.ensures ∙ ap (λ (n : ℕ). n - (c.loop-event.counts.forwarded + c.loop-event.counts.dropped + c.loop-event.counts.lost)) opened;
      doubtful = inv.doubtful ∙ c.requires.doubtful;
      strays = inv.strays ∙ ap (count_by is_stray) all;
      cut = inv.cut ∙ ap (count_by is_cut) all;
    }
