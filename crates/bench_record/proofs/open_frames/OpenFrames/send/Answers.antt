use Rattle.std.proofs.Common.{◌≡◌, ◌∙◌, ◌++◌, ◌∷◌, cond, [], Bool, List, ℕ, Some, None, IsSome, subst, refl, ap, sym, rules}
use Rattle.std.specs.Prelude.{if◌then◌else◌}
use Rattle.std.specs.HashMap as table
use Rattle.bench_record.specs.Index.{queue_of}
use Rattle.bench_record.specs.Keys.{is_same_key}
use Rattle.bench_record.proofs.Queues.{after_set, items_of}
use Rattle.bench_record.proofs.open_frames.OpenFrames.send.Goals as goal

pub returns-in-Some : goal.returns-in-Some
returns-in-Some c = λ other.
    let same : Bool = is_same_key c.args.key other in
    let old : queue_of c.args.self.now c.args.key ≡ c.in-Some.queue.now.items = ap items_of (sym c.in-Some.ensures.value) in
    let got = ((c.get_mut.follows.holds c.push.new.self).3 (subst IsSome c.in-Some.ensures.value refl)).0 other in
    ap items_of got ∙ after_set same c.push.new.self (table.get is_same_key c.args.self.now.queues other)
    ∙ ap (λ (xs : List ℕ). if same then xs else queue_of c.args.self.now other)
    (c.in_ok-push.ensures.items ∙ ap (λ (xs : List ℕ). xs ++ c.args.number ∷ []) (sym old))

pub returns : goal.returns
returns c = λ other.
    let same : Bool = is_same_key c.args.key other in
    let none : table.get is_same_key c.args.self.now.queues c.args.key ≡ None = search rules in
    let old : queue_of c.args.self.now c.args.key ≡ [] = ap items_of none in
    let got : table.get is_same_key c.insert.new.self other ≡ cond same (Some c.push-2.new.self) (table.get is_same_key c.args.self.now.queues other) =
    c.in_ok-insert.ensures.updates.0 other
    ∙ ap (λ m. cond same (Some c.push-2.new.self) (table.get is_same_key m other)) c.get_mut.follows.holds-at-none in
    ap items_of got ∙ after_set same c.push-2.new.self (table.get is_same_key c.args.self.now.queues other)
    ∙ ap (λ (xs : List ℕ). if same then xs else queue_of c.args.self.now other)
    (c.in_ok-push-2.ensures.items ∙ ap (λ (xs : List ℕ). xs ++ c.args.number ∷ []) (c.new-queue.ensures.items ∙ sym old))
