use Rattle.std.proofs.Common.{[], ◌∷◌, ◌++◌, ◌<◌, length, ℕ, List, Some, None, ap, sym, ◌∙◌}
use Rattle.std.proofs.lemmas.List.Elements.{All-same, All-tail}
use Rattle.frame_meaning.specs.Meaning.{Table}
use Rattle.explain.specs.declared.step.Step.{Step}
use Rattle.explain.specs.declared.step.Step.TheVariants as step
use Rattle.explain.specs.Order.{tried_order}
use Rattle.explain.specs.Steps.{mismatch_at, tries, tries_of}
use Rattle.explain.proofs.Appended.{appended}
use Rattle.explain.proofs.Orders.{tried_within}
use Rattle.explain.proofs.Tries.{mismatch_there, tries_fail, tries_use}
use Rattle.explain.proofs.entries.append_tries.Goals as goal

pub loop-place-init : goal.loop-place-init
unfolding tries_of
loop-place-init c =
    let at = mismatch_at c.args.table.now c.args.frame.now in
    let entries = ap (λ (t : Table). t.entries) c.table.view_is in
    let order = c.into_iter-place-iterator.ensures.into_iter_gives.0 ∙ c.tried_order.ensures.order ∙ ap tried_order entries in record {
      told = ap (λ (order : List ℕ). c.args.steps.now.items ++ tries at order) order;
      in_range = All-same (λ place. place < length c.args.table.now.entries) c.into_iter-place-iterator.result.rest.now (tried_order c.args.table.now.entries) order (tried_within c.args.table.now.entries);
    }

pub loop-place-preserved : goal.loop-place-preserved
loop-place-preserved c =
    let table = c.args.table.now in
    let frame = c.args.frame.now in
    let at = mismatch_at table frame in
    let place = c.in-Some.place.now in
    let rest = c.next.new.self.rest.now in
    let field = c.in-Some-mismatch.field in
    let IsPlace : ℕ → Type 0 = λ place. place < length table.entries in
    let is =
    mismatch_there table frame place c.table.inside.settings.input_tpid c.ethertype.result c.tags.result.now c.table.inside.rules.now c.in-Some-rule.rule.now
    (Some field) (ap (λ (t : Table). t.settings.input_tpid) c.table.view_is) c.tags.ensures.value c.ethertype.ensures (ap (λ (t : Table). t.entries) c.table.view_is)
    c.in-Some-rule.ensures.1 c.in-Some-mismatch.ensures.value in record {
      told =
          appended c.loop-place.steps.items c.push.new.self.items (step.Failed place field ∷ []) (tries at rest) (tries at c.loop-place.place-iterator.rest.now)
          c.in_ok-push-in-Some-mismatch.ensures.items (tries_fail at place field rest is ∙ ap (tries at) (sym c.in-Some.ensures.steps))
          ∙ c.loop-place.invariant.told;
      in_range = All-tail IsPlace place rest (All-same IsPlace (place ∷ rest) c.loop-place.place-iterator.rest.now (sym c.in-Some.ensures.steps) c.loop-place.invariant.in_range);
    }

pub returns-in-None-mismatch : goal.returns-in-None-mismatch
returns-in-None-mismatch c =
    let table = c.args.table.now in
    let frame = c.args.frame.now in
    let at = mismatch_at table frame in
    let place = c.in-Some.place.now in
    let rest = c.next.new.self.rest.now in
    let is =
    mismatch_there table frame place c.table.inside.settings.input_tpid c.ethertype.result c.tags.result.now c.table.inside.rules.now c.in-Some-rule.rule.now
    None (ap (λ (t : Table). t.settings.input_tpid) c.table.view_is) c.tags.ensures.value c.ethertype.ensures (ap (λ (t : Table). t.entries) c.table.view_is)
    c.in-Some-rule.ensures.1 c.in-None-mismatch.ensures.value in
    c.in_ok-push-in-None-mismatch.ensures.items
    ∙ ap (λ (told : List Step). c.loop-place.steps.items ++ told) (tries_use at place rest is ∙ ap (tries at) (sym c.in-Some.ensures.steps))
    ∙ c.loop-place.invariant.told
