-- What is behind the bytes that are let go moves up to those in front of them.
use Rattle.std.proofs.Common.{◌+◌, ◌-◌, ◌++◌, ◌∙◌, ℕ, List, ap, arith, drop, sym, take, zero-add}
use Rattle.std.specs.Prelude.{slice_range}
use Rattle.bench_capture.specs.Windows.{held}
use Rattle.bench_capture.proofs.Holding.{held_cut}
use Rattle.bench_capture.proofs.window.Window.cut.Goals as goal

pub returns-then-gap-eq0 : goal.returns-then-gap-eq0
returns-then-gap-eq0 c =
    let old = held c.args.self.now in
    let count = c.args.gap.length in
    c.take.ensures.held
    ∙ sym (ap (λ (n : ℕ). take n old ++ drop (n + count) old) c.if-gap-eq0.true ∙ ap (λ (n : ℕ). drop n old) (zero-add count))

pub returns : goal.returns
returns c =
    let window = c.args.self.now in
    ap (λ (items : List ℕ). slice_range items window.start (window.end - c.args.gap.length)) c.copy_within.ensures.items
    ∙ held_cut window.bytes.items window.start window.end c.args.gap.start c.args.gap.length window.ordered
    (omega (arith, window.within, window.bytes.ok.0)) c.requires
