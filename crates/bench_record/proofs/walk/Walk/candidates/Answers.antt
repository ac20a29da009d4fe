use Rattle.std.proofs.Common.{◌≡◌, ◌∙◌, [], Bool, List, ℕ, IsSome, filter, map, refl, ap, subst, sym, rules}
use Rattle.std.specs.Prelude.{if◌then◌else◌, slice_get}
use Rattle.std.specs.HashMap as table
use Rattle.std.proofs.lemmas.Result.{IfOk-weaker}
use Rattle.bench_record.specs.Index.{core_shown, kept_shown, queue_of}
use Rattle.bench_record.specs.Keys.{is_same_key}
use Rattle.bench_record.specs.Matching.{SentFrame, has_core, is_open}
use Rattle.bench_record.specs.declared.core_key.CoreKey.{CoreKey}
use Rattle.bench_record.specs.declared.matching.KeptFrame.{KeptFrame}
use Rattle.bench_record.proofs.Candidates.{found_candidates, no_candidates}
use Rattle.bench_record.proofs.Indexes.{cleared, index_later}
use Rattle.bench_record.proofs.Queues.{after_set, items_of}
use Rattle.bench_record.proofs.walk.Walk.candidates.Goals as goal

pub returns-in-Some-clause-found : goal.returns-in-Some-clause-found
returns-in-Some-clause-found c = λ since seen is within long.
    let key : CoreKey = c.key.result in
    let core = core_shown c.args.core.now in
    let lost = c.args.lost in
    let time = c.args.time in
    let old : queue_of c.args.self.now.waiting key ≡ c.in-Some.queue.now.items = ap items_of (sym c.in-Some.ensures.value) in
    let sent = ap (λ (xs : List KeptFrame). map kept_shown xs) c.deref.ensures.value ∙ is.sent in
    let kept : c.keep_open.new.queue.items ≡ filter (is_open lost time seen.frames) (queue_of c.args.self.now.waiting key) =
    c.keep_open.ensures lost time seen.frames c.ranges.time.fits c.earliest.ensures sent is.doubts
    ∙ ap (λ (xs : List ℕ). filter (is_open lost time seen.frames) xs) (sym old) in
    IfOk-weaker c.with_core.result _ _
    (λ found so.
    so
    ∙ ap (λ (xs : List ℕ). filter (λ n. has_core core (slice_get (map kept_shown c.deref-in-Some-2.result.now) n)) xs) (c.deref-in-Some.ensures.value ∙ kept)
    ∙ ap (λ (frames : List SentFrame). filter (λ n. has_core core (slice_get frames n)) (filter (is_open lost time seen.frames) (queue_of c.args.self.now.waiting key)))
    (ap (λ (xs : List KeptFrame). map kept_shown xs) c.deref-in-Some-2.ensures.value ∙ is.sent)
    ∙ found_candidates lost since time c.args.self.now.shortest seen.frames c.args.self.now.waiting core key within is.waiting is.long long
    c.key.ensures.addresses c.key.ensures.rest)
    c.with_core.ensures

pub returns-in-Some-clause-seen : goal.returns-in-Some-clause-seen
returns-in-Some-clause-seen c = λ since seen is within.
    let key : CoreKey = c.key.result in
    let lost = c.args.lost in
    let time = c.args.time in
    let old : queue_of c.args.self.now.waiting key ≡ c.in-Some.queue.now.items = ap items_of (sym c.in-Some.ensures.value) in
    let sent = ap (λ (xs : List KeptFrame). map kept_shown xs) c.deref.ensures.value ∙ is.sent in
    let kept : c.keep_open.new.queue.items ≡ filter (is_open lost time seen.frames) (queue_of c.args.self.now.waiting key) =
    c.keep_open.ensures lost time seen.frames c.ranges.time.fits c.earliest.ensures sent is.doubts
    ∙ ap (λ (xs : List ℕ). filter (is_open lost time seen.frames) xs) (sym old) in
    let later = index_later lost since time c.args.self.now.shortest seen.frames c.args.self.now.waiting within is.waiting in
    record {
      sent = is.sent;
      waiting =
          cleared lost time c.args.self.now.shortest seen.frames key c.args.self.now.waiting _
          (λ other.
          let same : Bool = is_same_key key other in
          ap items_of (((c.get_mut.follows.holds c.keep_open.new.queue).3 (subst IsSome c.in-Some.ensures.value refl)).0 other)
          ∙ after_set same c.keep_open.new.queue (table.get is_same_key c.args.self.now.waiting.queues other)
          ∙ ap (λ (xs : List ℕ). if same then xs else queue_of c.args.self.now.waiting other) kept)
          later;
      doubts = is.doubts;
      long = is.long;
      replies = is.replies;
      events = is.events;
      passed = is.passed;
      hidden = is.hidden;
      unnumbered = is.unnumbered;
    }

pub returns-in-None-clause-found : goal.returns-in-None-clause-found
returns-in-None-clause-found c = λ since seen is within long.
    let key : CoreKey = c.key.result in
    let none : queue_of c.args.self.now.waiting key ≡ [] = ap items_of (sym c.in-None.ensures.value) in
    let empty : c.new.result.items ≡ [] = search rules in
    empty
    ∙ no_candidates c.args.lost since c.args.time c.args.self.now.shortest seen.frames c.args.self.now.waiting (core_shown c.args.core.now) key within is.waiting is.long long
    c.key.ensures.addresses c.key.ensures.rest none
