use Rattle.std.proofs.Common.{◌≡◌, ◌<◌, ℕ, ◌+◌, ◌∙◌, length, slice_index, slice_set, ap, refl, arith}
use Rattle.std.proofs.lemmas.List.{get_or_default}
use Rattle.bench_forward.proofs.Counting.{counts_leaving}
use Rattle.bench_forward.proofs.totals.Totals.count_leaving.Goals as goal

pub returns-clause-counts : goal.returns-clause-counts
returns-clause-counts c = λ frame size.
    let old = c.args.self.now in
    let counts = old.gems.items in
    let gem = c.args.gem in
    let count = c.index_mut.result.now in
    let at = c.from.ensures in
    let within : gem < length counts = omega (arith, old.few_gems.every, c.ranges.gem.fits) in
    let before : count ≡ slice_index counts gem =
    c.index_mut.ensures.value ∙ get_or_default counts c.from.result count 0 (omega (arith, within, at)) ∙ ap (slice_index counts) at in
    let gems = ap (λ (i : ℕ). slice_set counts i (count + 1)) at ∙ ap (λ (n : ℕ). slice_set counts gem (n + 1)) before in
    counts_leaving old _ gem frame c.args.is_cut refl refl (ap (λ (n : ℕ). old.bytes + n) size)
    (ap (λ (n : ℕ). old.cut + n) c.one_if.ensures) refl gems within
