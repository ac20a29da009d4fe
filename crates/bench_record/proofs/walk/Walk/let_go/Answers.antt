use Rattle.std.proofs.Common.{◌≡◌, ◌∙◌, [], Bool, cond, List, ℕ, Some, filter, length, map, ap, arith, sym}
use Rattle.std.specs.Prelude.{if◌then◌else◌}
use Rattle.std.specs.HashMap as table
use Rattle.std.proofs.lemmas.Grind.{common_steps}
use Rattle.std.proofs.lemmas.List.{nil_from_length}
use Rattle.bench_record.specs.Index.{kept_shown, queue_of}
use Rattle.bench_record.specs.Keys.{is_same_key}
use Rattle.bench_record.specs.Matching.{is_open}
use Rattle.bench_record.specs.declared.core_key.CoreKey.{CoreKey}
use Rattle.bench_record.specs.declared.matching.KeptFrame.{KeptFrame}
use Rattle.bench_record.proofs.Indexes.{cleared}
use Rattle.bench_record.proofs.Queues.{after_put, after_taken, items_of}
use Rattle.bench_record.proofs.walk.Walk.let_go.Goals as goal

pub returns-in_ok-insert-clause-seen : goal.returns-in_ok-insert-clause-seen
returns-in_ok-insert-clause-seen c = λ seen is.
    let key : CoreKey = c.key-key.result in
    let lost = c.args.lost in
    let time = c.args.time in
    let waiting = c.args.self.now.waiting in
    let still : List ℕ → List ℕ = λ xs. filter (is_open lost time seen.frames) xs in
    let old : queue_of waiting key ≡ c.in-Some.queue.items = ap items_of (sym c.in-Some.ensures.value) in
    let sent = ap (λ (xs : List KeptFrame). map kept_shown xs) c.deref.ensures.value ∙ is.sent in
    let kept : c.keep_open.new.queue.items ≡ still (queue_of waiting key) =
    c.keep_open.ensures lost time seen.frames c.ranges.time.fits c.earliest.ensures sent is.doubts ∙ ap still (sym old) in
    record {
      sent = is.sent;
      waiting =
          cleared lost time c.args.self.now.shortest seen.frames key waiting _
          (λ other.
          let same : Bool = is_same_key key other in
          ap items_of (c.in_ok-insert.ensures.updates.0 other
          ∙ ap (λ o. cond same (Some c.keep_open.new.queue) o) (c.in-Some.ensures.updates.0 other))
          ∙ after_put same c.keep_open.new.queue (table.get is_same_key waiting.queues other)
          ∙ ap (λ (xs : List ℕ). if same then xs else queue_of waiting other) kept)
          is.waiting;
      doubts = is.doubts;
      long = is.long;
      replies = is.replies;
      events = is.events;
      passed = is.passed;
      hidden = is.hidden;
      unnumbered = is.unnumbered;
    }

pub returns-else-not-is_empty-clause-seen : goal.returns-else-not-is_empty-clause-seen
returns-else-not-is_empty-clause-seen c = λ seen is.
    let key : CoreKey = c.key-key.result in
    let lost = c.args.lost in
    let time = c.args.time in
    let waiting = c.args.self.now.waiting in
    let still : List ℕ → List ℕ = λ xs. filter (is_open lost time seen.frames) xs in
    let old : queue_of waiting key ≡ c.in-Some.queue.items = ap items_of (sym c.in-Some.ensures.value) in
    let sent = ap (λ (xs : List KeptFrame). map kept_shown xs) c.deref.ensures.value ∙ is.sent in
    let count : length c.keep_open.new.queue.items ≡ 0 = grind (arith, common_steps) in
    let kept : [] ≡ still (queue_of waiting key) =
    sym (nil_from_length c.keep_open.new.queue.items count)
    ∙ c.keep_open.ensures lost time seen.frames c.ranges.time.fits c.earliest.ensures sent is.doubts ∙ ap still (sym old) in
    record {
      sent = is.sent;
      waiting =
          cleared lost time c.args.self.now.shortest seen.frames key waiting _
          (λ other.
          let same : Bool = is_same_key key other in
          ap items_of (c.in-Some.ensures.updates.0 other)
          ∙ after_taken same (table.get is_same_key waiting.queues other)
          ∙ ap (λ (xs : List ℕ). if same then xs else queue_of waiting other) kept)
          is.waiting;
      doubts = is.doubts;
      long = is.long;
      replies = is.replies;
      events = is.events;
      passed = is.passed;
      hidden = is.hidden;
      unnumbered = is.unnumbered;
    }
