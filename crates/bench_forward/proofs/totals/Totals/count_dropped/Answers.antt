use Rattle.std.proofs.Common.{◌≡◌, ◌<◌, ℕ, ◌+◌, ◌-◌, ◌++◌, ◌∷◌, [], ◌∙◌, length, slice_index_or, take, ap, refl, arith}
use Rattle.std.proofs.lemmas.List.{get_or_default}
use Rattle.frame_meaning.specs.Reason.{number_of_reason}
use Rattle.bench_forward.specs.Dropped.{none_dropped, numbers_of}
use Rattle.bench_forward.specs.declared.dropped.Dropped.{Dropped}
use Rattle.bench_forward.proofs.Counting.{counts_dropped}
use Rattle.bench_forward.proofs.totals.Totals.count_dropped.Goals as goal

pub returns-clause-counts : goal.returns-clause-counts
returns-clause-counts c =
    let old = c.args.self.now in
    let place = c.place_of.result in
    let reason = c.args.reason in
    let within : place < length old.drops = omega (arith, old.few_drops.every, c.place_of.ensures.few) in
    let at : place ≡ number_of_reason reason - 1 = omega (arith, c.place_of.ensures.value) in
    let same = get_or_default old.drops place _ none_dropped within ∙ ap (λ (n : ℕ). slice_index_or old.drops n none_dropped) at in
    counts_dropped old _ reason c.args.is_cut place c.note.new.self refl refl refl (ap (λ (n : ℕ). old.cut + n) c.one_if.ensures) refl refl
    c.place_of.ensures.value within (c.note.ensures.frames ∙ ap (λ (d : Dropped). d.frames + 1) same)
    (c.note.ensures.first ∙ ap (λ (d : Dropped). take 10 (numbers_of d ++ (old.frames + 1) ∷ [])) same)
