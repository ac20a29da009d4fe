use Rattle.std.proofs.Common.{◌≡◌, ◌<◌, ◌+◌, ◌∙◌, ap, arith, subst, sym, refl, suc, true, false, List, ℕ, None, Vec, Global, get_or, length, replicate}
use Rattle.std.specs.Prelude.{is_some, slice_get, Some}
use Rattle.std.proofs.lemmas.List.{length-replicate}
use Rattle.std.proofs.lemmas.Option.{slice_get-get_or}
use Rattle.bench_judge.specs.Sweep.{AreQueued, AreQueuedSoFar, has_end, is_ended}
use Rattle.bench_judge.specs.declared.frame.Frame.{Frame}
use Rattle.bench_judge.specs.declared.sweep.SweepState.{SweepState}
use Rattle.bench_judge.proofs.Queues.{begins, so_far_none, so_far_same}
use Rattle.bench_judge.proofs.sweep.queues.Goals as goal
use Rattle.bench_judge.proofs.sweep.queues.Goals.{then-is_some+in_ok-enqueue, else-is_some}

as_many : (n x : ℕ) (xs : List ℕ) → xs ≡ replicate n x → length xs ≡ n
as_many n x xs is = ap (λ (l : List ℕ). length l) is ∙ length-replicate n x

pub loop-number-init : goal.loop-number-init
loop-number-init c =
    let frames = c.args.frames.now in
    let tails : c.in_ok-tails.tails.items ≡ replicate 65536 (length frames) = c.in_ok-tails.ensures.items_if_clones_equal (λ y is. is) in
    let next : c.in_ok-vec.field-0.items ≡ replicate (length frames) (length frames) = c.in_ok-vec.ensures.items_if_clones_equal (λ y is. is) in
    let versions : c.in_ok-vec-2.field-0.items ≡ replicate (length frames) 0 = c.in_ok-vec-2.ensures.items_if_clones_equal (λ y is. is) in
    record {
      tails = as_many 65536 (length frames) c.in_ok-tails.tails.items tails;
      links = as_many (length frames) (length frames) c.in_ok-vec.field-0.items next;
      versions = versions;
      queued =
          so_far_none c.args.unordered frames c.in_ok-tails.tails.items
          (record { next = c.in_ok-vec.field-0; waiting = c.new.result; versions = c.in_ok-vec-2.field-0; buffers = c.new-2.result })
          tails next c.new.ensures.items;
    }

-- what a read past the end would give
abbrev no_frame : Frame
no_frame = record { sent = 0; ended = None; port = 0; is_enough = false; least = 0; most = 0 }

pub loop-number-preserved : goal.loop-number-preserved
loop-number-preserved c =
    let frames = c.args.frames.now in
    let n = c.loop-number.number in
    let lt : n < length frames = c.loop-number-test.true in
    let frame = get_or frames n no_frame in
    let at : slice_get frames n ≡ Some frame = slice_get-get_or frames n no_frame lt in
    let next : suc n ≡ n + 1 = omega arith in
    let inv = c.loop-number.invariant in
    elim c.if-is_some.branch [
      | then-is_some+in_ok-enqueue w ↦
          let ended : is_some frame.ended ≡ true = sym w.if-is_some.ensures in
          let queued = w.in_ok-enqueue.ensures.queued frames frame at ended refl inv.links inv.queued in
          record {
            tails = ap (λ (v : Vec ℕ Global). length v.items) w.tails-is ∙ w.in_ok-enqueue.ensures.tails;
            links = ap (λ (s : SweepState). length s.next.items) w.sweep-is ∙ w.in_ok-enqueue.ensures.links ∙ inv.links;
            versions = ap (λ (s : SweepState). s.versions.items) w.sweep-is ∙ w.in_ok-enqueue.ensures.versions ∙ inv.versions;
            queued =
                subst (λ (k : ℕ). AreQueuedSoFar c.args.unordered frames k c.if-is_some.tails.items c.if-is_some.sweep) next
                (subst (λ (v : Vec ℕ Global). AreQueuedSoFar c.args.unordered frames (suc n) v.items c.if-is_some.sweep) (sym w.tails-is)
                (subst (AreQueuedSoFar c.args.unordered frames (suc n) w.enqueue.new.tails.items) (sym w.sweep-is) queued));
          }
      | else-is_some w ↦
          let is_open : has_end frames n ≡ false = ap is_ended at ∙ sym w.if-is_some.ensures in
          let queued = so_far_same c.args.unordered frames n c.loop-number.tails.items c.loop-number.sweep is_open inv.queued in
          record {
            tails = ap (λ (v : Vec ℕ Global). length v.items) w.tails-is ∙ inv.tails;
            links = ap (λ (s : SweepState). length s.next.items) w.sweep-is ∙ inv.links;
            versions = ap (λ (s : SweepState). s.versions.items) w.sweep-is ∙ inv.versions;
            queued =
                subst (λ (k : ℕ). AreQueuedSoFar c.args.unordered frames k c.if-is_some.tails.items c.if-is_some.sweep) next
                (subst (λ (v : Vec ℕ Global). AreQueuedSoFar c.args.unordered frames (suc n) v.items c.if-is_some.sweep) (sym w.tails-is)
                (subst (AreQueuedSoFar c.args.unordered frames (suc n) c.loop-number.tails.items) (sym w.sweep-is) queued));
          }
    ]

pub returns-clause-whole : goal.returns-clause-whole
returns-clause-whole c = record {
  links = c.loop-number.invariant.links;
  versions = as_many (length c.args.frames.now) 0 c.loop-number.sweep.versions.items c.loop-number.invariant.versions;
  ahead = c.loop-number.invariant.queued.ahead;
}

pub returns-clause-so_far : goal.returns-clause-so_far
returns-clause-so_far c padded events requests =
    begins {padded = padded} c.args.unordered events requests c.args.frames.now c.loop-number.sweep
    (let all : c.loop-number.number ≡ length c.args.frames.now = omega arith in
    subst (λ (n : ℕ). AreQueued c.args.unordered c.args.frames.now n c.loop-number.sweep.next.items c.loop-number.sweep.waiting.items) all c.loop-number.invariant.queued.queued)
    c.loop-number.invariant.versions
