use Rattle.std.proofs.Common.{◌∙◌, rules, Bool, List, ap, subst, sym, take_all}
use Rattle.std.specs.List.{count_by}
use Rattle.bench_judge.specs.Counted.{AreMarks}
use Rattle.bench_judge.proofs.Doubtful.{marks_count, nothing_marked, take_read}
use Rattle.bench_judge.proofs.counts.doubtful.Goals as goal

pub loop-event-init : goal.loop-event-init
loop-event-init c = nothing_marked c.args.frames c.in_ok-marks.marks.items (c.in_ok-marks.ensures.items_if_clones_equal (search rules))

pub loop-event-preserved : goal.loop-event-preserved
loop-event-preserved c =
    let events = c.args.events.now in
    subst (λ l. AreMarks l c.args.frames c.mark_next.new.marks.items)
    (sym (take_read events c.loop-event.event-index c.event-item.result c.loop-event-test.true c.event-item.is))
    (c.mark_next.ensures _ c.loop-event.invariant)

pub returns : goal.returns
returns c =
    let all = subst (λ l. AreMarks l c.args.frames c.loop-event.marks.items) (take_all c.loop-event.event-index c.args.events.now c.loop-event-test.false)
    c.loop-event.invariant in
    c.count_set.ensures ∙ ap (λ (ms : List Bool). count_by (λ (mark : Bool). mark) ms) c.deref.ensures.value
    ∙ marks_count c.args.events.now c.args.frames c.loop-event.marks.items c.requires all
