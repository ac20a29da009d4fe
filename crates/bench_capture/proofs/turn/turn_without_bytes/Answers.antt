-- The end of the bytes is that of the file.
use Rattle.std.proofs.Common.{◌++◌, ◌∙◌, List, ℕ, ap, refl}
use Rattle.bench_capture.specs.Formats.{reading_at}
use Rattle.bench_capture.proofs.turn.turn_without_bytes.Goals as goal

pub returns-in-Some-clause-turn : goal.returns-in-Some-clause-turn
returns-in-Some-clause-turn c = λ window rest none ends. (
  ap (λ (bytes : List ℕ). reading_at c.args.format.now (bytes ++ rest)) none ∙ ap (reading_at c.args.format.now) (ends c.if-not-ended.false) ∙ c.in-Some.ensures,
  refl,
)

pub returns-in-None-clause-turn : goal.returns-in-None-clause-turn
returns-in-None-clause-turn c = λ window rest none ends. (
  ap (λ (bytes : List ℕ). reading_at c.args.format.now (bytes ++ rest)) none ∙ ap (reading_at c.args.format.now) (ends c.if-not-ended.false) ∙ c.in-None.ensures,
  refl,
)
