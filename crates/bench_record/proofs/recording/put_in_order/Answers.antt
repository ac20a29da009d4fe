use Rattle.std.proofs.Common.{◌∙◌, ℕ, List, ap, map, rules}
use Rattle.std.proofs.lemmas.List.Sorted.{IsNonDecreasingBy-from_sort_by_key, answers_always}
use Rattle.bench_record.specs.Moments.{moment_of}
use Rattle.bench_record.specs.Text.{timed_shown}
use Rattle.bench_record.specs.declared.event.TimedEvent.{TimedEvent}
use Rattle.bench_record.proofs.Orders.{in_order_map, sorted_in_order}
use Rattle.bench_record.proofs.recording.put_in_order.Goals as goal

abbrev key_of : TimedEvent → ℕ
key_of timed = moment_of (timed_shown timed)

pub returns : goal.returns
returns c =
    let sort = c.in_ok-sort_by_key.ensures in
    let up = IsNonDecreasingBy-from_sort_by_key key_of _ sort.sorted (λ a r q k. search rules) in
    let stays = sort.stable key_of (answers_always _ _ _ (λ f a r g h. search rules)) in
    ap (λ (xs : List TimedEvent). map timed_shown xs) (sorted_in_order key_of _ _ up stays) ∙ in_order_map timed_shown moment_of c.args.events.now.items
