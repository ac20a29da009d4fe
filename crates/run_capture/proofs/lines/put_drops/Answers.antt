use Rattle.std.proofs.Common.{◌≡◌, ◌-◌, ◌+◌, ◌++◌, ap, sym, ◌∙◌, arith, append_assoc}
use Rattle.std.proofs.lemmas.List.{append-nil}
use Rattle.run_capture.proofs.Totals.{drops_from, drops_more, drops_shown}
use Rattle.run_capture.proofs.lines.put_drops.Goals as goal

pub returns : goal.returns
returns c =
    let ended : 9 - c.loop-place.place ≡ 0 = omega (arith, c.loop-place-test.false) in
    sym (append-nil c.loop-place.text.items)
    ∙ ap (λ left. c.loop-place.text.items ++ drops_from left (c.loop-place.place + 1) c.args.counts.now.drops) (sym ended)
    ∙ c.loop-place.invariant
    ∙ ap (λ lines. c.args.text.now.items ++ lines) (drops_shown c.args.counts.now)

pub loop-place-preserved : goal.loop-place-preserved
loop-place-preserved c =
    let rest = drops_from (9 - (c.loop-place.place + 1)) (c.loop-place.place + 1 + 1) c.args.counts.now.drops in
    ap (λ text. text ++ rest) c.in_ok-put_count.ensures
    ∙ append_assoc c.loop-place.text.items _ rest
    ∙ ap (λ lines. c.loop-place.text.items ++ lines) (sym (drops_more c.args.counts.now.drops c.loop-place.place (omega (arith, c.loop-place-test.true))))
    ∙ c.loop-place.invariant
