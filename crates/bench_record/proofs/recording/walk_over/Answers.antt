use Rattle.std.proofs.Common.{◌≡◌, ◌<◌, ◌≤◌, List, length, map, take, true, arith, subst, sym}
use Rattle.std.specs.List.{list_all}
use Rattle.std.proofs.lemmas.Grind.{common_steps}
use Rattle.std.proofs.lemmas.List.{take_all}
use Rattle.bench_record.specs.Index.{IsSeen}
use Rattle.bench_record.specs.Recorded.{nothing_seen, seen_from}
use Rattle.bench_record.specs.Walk.{sourced_shown}
use Rattle.bench_record.specs.declared.walk.Sourced as given
use Rattle.bench_record.proofs.Recordings.{long_at}
use Rattle.bench_record.proofs.Walks.{passes_at, walked_more}
use Rattle.bench_record.proofs.recording.walk_over.Goals as goal

pub loop-at-init : goal.loop-at-init
loop-at-init c =
    let s = c.args.given.now.settings in
    record {
      walked = λ captures are. record { since = 0; seen = c.new-walk.ensures.seen s.lost; later = λ k d from within. omega arith };
      numbers = c.new-walk.ensures.numbers;
      long = subst (λ n. list_all (long_at s n) c.args.frames.now ≡ true) (sym c.new-walk.ensures.shortest) c.shortest_front.ensures;
    }

pub see-requires-clause-seen : goal.see-requires-clause-seen
see-requires-clause-seen c =
    let s = c.args.given.now.settings in
    let frames = c.args.frames.now in
    let i = c.loop-at.at-index in
    let within : i < length frames = grind (arith, common_steps) in
    let walked = c.loop-at.invariant.walked c.requires.spans.0 c.requires.spans.1 in
    record {
      since = walked.since;
      seen = seen_from s c.requires.spans.0 nothing_seen (map sourced_shown (take i frames));
      is = walked.seen;
      within = walked.later i _ (omega arith) within;
      long = passes_at (long_at s c.loop-at.walk.shortest) frames i _ within c.loop-at.invariant.long;
    }

pub loop-at-preserved : goal.loop-at-preserved
loop-at-preserved c =
    let s = c.args.given.now.settings in
    let frames = c.args.frames.now in
    let i = c.loop-at.at-index in
    let within : i < length frames = grind (arith, common_steps) in
    let long = c.loop-at.invariant.long in
    record {
      walked = λ captures are.
          let walked = c.loop-at.invariant.walked captures are in
          walked_more s captures frames i c.see.new.self _ within c.requires.rising
          (c.in_ok-see.ensures.seen captures walked.since (seen_from s captures nothing_seen (map sourced_shown (take i frames))) are walked.seen
          (walked.later i _ (omega arith) within) (passes_at (long_at s c.loop-at.walk.shortest) frames i _ within long));
      numbers = c.in_ok-see.ensures.numbers;
      long = subst (λ n. list_all (long_at s n) frames ≡ true) (sym c.in_ok-see.ensures.shortest) long;
    }

pub returns-clause-seen : goal.returns-clause-seen
returns-clause-seen c = λ captures are.
    let s = c.args.given.now.settings in
    let frames = c.args.frames.now in
    let past : length frames ≤ c.loop-at.at-index = grind (arith, common_steps) in
    let walked = c.loop-at.invariant.walked captures are in (
      walked.since,
      subst (λ (xs : List given.Sourced). IsSeen s.lost walked.since (seen_from s captures nothing_seen (map sourced_shown xs)) c.loop-at.walk)
          (take_all c.loop-at.at-index frames past) walked.seen,
    )
