use Rattle.std.proofs.Common.{◌<◌, ◌^◌, ℕ, arith}
use Rattle.std.proofs.lemmas.List.Elements.{All-from_get_or}
use Rattle.frame_meaning.specs.Meaning.{table_at}
use Rattle.bench_coverage.specs.Passage.{entities_in}
use Rattle.bench_coverage.proofs.Ready.{class_is}
use Rattle.bench_coverage.proofs.passage.Passage.class_by.Goals as goal

pub returns : goal.returns
returns c = λ bytes fits is.
    let passage = c.args.self.now in
    class_is passage c.requires bytes c.args.head.now c.use_at.result c.ending.result fits
    (All-from_get_or (λ (b : ℕ). b < 2 ^ 8) c.args.head.now 0 (λ i within. let b = c.type_inv.head i in omega (arith, b))) is
    (c.use_at.ensures (table_at (entities_in passage passage.version) passage.port) c.requires.uses) c.ending.ensures
