use Rattle.std.proofs.Common.{◌≡◌, ◌<◌, ◌∙◌, ℕ, ap, set, sym, arith}
use Rattle.std.specs.Prelude.{slice_index}
use Rattle.std.proofs.lemmas.Grind.{get_or_default_zero}
use Rattle.bench_judge.specs.declared.sweep.SweepState.{SweepState}
use Rattle.bench_judge.proofs.Queues.{begins_queue, so_far_at_head, so_far_behind}
use Rattle.bench_judge.proofs.sweep.enqueue.Goals as goal
use Rattle.bench_judge.proofs.sweep.enqueue.Goals.{then-begins_queue+in_ok-push, else-begins_queue}

pub returns-clause-queued : goal.returns-clause-queued
returns-clause-queued c frames frame at ended port links is =
    let p = c.from-port.result in
    let n = c.args.number in
    let tails = c.args.tails.now.items in
    let fits : p < 65536 = omega (arith, c.from-port.ensures) in
    let of_port : frame.port ≡ p = omega (arith, port, c.from-port.ensures) in
    let tail : c.index-tail.result.now ≡ slice_index tails p = c.index-tail.ensures ∙ get_or_default_zero tails p c.index-tail.result.now (omega (arith, fits, c.requires.tails)) in
    elim c.if-begins_queue.branch [
      | then-begins_queue+in_ok-push w ↦
          so_far_at_head c.args.unordered frames n p tails c.args.sweep.now c.if-begins_queue.sweep frame at ended of_port c.requires.tails fits links is
          (ap (λ (t : ℕ). begins_queue c.args.unordered t n) (sym tail) ∙ sym w.if-begins_queue.ensures)
          (ap (λ (s : SweepState). s.next.items) w.sweep-is)
          (ap (λ (s : SweepState). s.waiting.items) w.sweep-is ∙ w.in_ok-push.ensures.items)
      | else-begins_queue w ↦
          so_far_behind c.args.unordered frames n p tails c.args.sweep.now c.if-begins_queue.sweep frame at ended of_port c.requires.tails fits links is
          (ap (λ (t : ℕ). begins_queue c.args.unordered t n) (sym tail) ∙ sym w.if-begins_queue.ensures)
          (ap (λ (s : SweepState). s.next.items) w.sweep-is ∙ ap (λ (t : ℕ). set c.args.sweep.now.next.items t n) tail)
          (ap (λ (s : SweepState). s.waiting.items) w.sweep-is)
    ]
