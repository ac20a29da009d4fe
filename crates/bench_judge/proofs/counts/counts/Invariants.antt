use Rattle.std.proofs.Common.{◌≡◌, take, count_by}
use Rattle.bench_history.specs.History.{is_frame, is_reply}
use Rattle.bench_judge.specs.Counted.{is_cut, is_dropped, is_known_in, is_left, is_lost, is_message, is_stray}
use Rattle.bench_judge.proofs.counts.counts.Given as goal

abbrev pub invariant-loop-event : goal.invariant-loop-event
invariant-loop-event l = record {
  messages : l.counts.messages ≡ count_by is_message (take l.event-index l.events);
  replies : l.counts.replies ≡ count_by is_reply (take l.event-index l.events);
  frames : l.counts.«open» ≡ count_by is_frame (take l.event-index l.events);
  forwarded : l.counts.forwarded ≡ count_by (is_left (is_known_in l.frames)) (take l.event-index l.events);
  dropped : l.counts.dropped ≡ count_by (is_dropped (is_known_in l.frames)) (take l.event-index l.events);
  lost : l.counts.lost ≡ count_by (is_lost (is_known_in l.frames)) (take l.event-index l.events);
  strays : l.counts.strays ≡ count_by is_stray (take l.event-index l.events);
  cut : l.counts.cut ≡ count_by is_cut (take l.event-index l.events);
  accepted : l.counts.accepted ≡ l.accepted;
  doubtful : l.counts.doubtful ≡ l.doubtful;
}
