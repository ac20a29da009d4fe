use Rattle.std.proofs.Common.{◌∙◌, ℕ, List, ap, map, rules}
use Rattle.std.proofs.lemmas.List.Sorted.{IsNonDecreasingBy-from_sort_by_key, answers_always}
use Rattle.bench_record.specs.Moments.{Sourced, moment_of_frame}
use Rattle.bench_record.specs.Order.{in_order}
use Rattle.bench_record.specs.Walk.{sourced_shown}
use Rattle.bench_record.specs.declared.walk.Sourced as given
use Rattle.bench_record.proofs.Orders.{in_order_map, sorted_in_order}
use Rattle.bench_record.proofs.recording.frames_in_order.Goals as goal

abbrev key_of : given.Sourced → ℕ
key_of at = moment_of_frame (sourced_shown at)

pub returns-clause-frames : goal.returns-clause-frames
returns-clause-frames c =
    let sort = c.in_ok-sort_by_key.ensures in
    let up = IsNonDecreasingBy-from_sort_by_key key_of _ sort.sorted (λ a r q k. search rules) in
    let stays = sort.stable key_of (answers_always _ _ _ (λ f a r g h. search rules)) in
    ap (λ (xs : List given.Sourced). map sourced_shown xs) (sorted_in_order key_of _ _ up stays)
    ∙ in_order_map sourced_shown moment_of_frame c.in_ok-frames.frames.items
    ∙ ap (λ (xs : List Sourced). in_order moment_of_frame xs) c.in_ok-frames.ensures

pub returns-clause-sorted : goal.returns-clause-sorted
returns-clause-sorted c = IsNonDecreasingBy-from_sort_by_key key_of _ c.in_ok-sort_by_key.ensures.sorted (λ a r q k. search rules)
