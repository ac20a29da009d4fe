use Rattle.bench_coverage.specs.Passage.{entities_in}
use Rattle.bench_coverage.proofs.Ready.{bytes_fit}
use Rattle.bench_coverage.proofs.passage.Passage.class_of.Goals as goal

pub returns-in-Some-clause-class : goal.returns-in-Some-clause-class
returns-in-Some-clause-class c =
    let passage = c.args.self.now in
    let bytes = c.args.frame.now in
    c.in-Some.ensures (entities_in passage passage.version) passage.port c.requires.known bytes (bytes_fit c.as_digits.result.now bytes c.as_digits.ensures.bytes)
    (c.read_head-head.ensures bytes c.as_digits.ensures.bytes)

pub returns-clause-class : goal.returns-clause-class
returns-clause-class c =
    let bytes = c.args.frame.now in
    c.class_by-class.ensures bytes (bytes_fit c.as_digits.result.now bytes c.as_digits.ensures.bytes)
    (c.read_head-head.ensures bytes c.as_digits.ensures.bytes)
