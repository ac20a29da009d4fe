use Rattle.std.proofs.Common.{◌≡◌, ◌+◌, ◌∙◌, length, rules, ap}
use Rattle.bench_forward.specs.Dropped.{numbers_of}
use Rattle.bench_forward.specs.declared.dropped.Dropped.{Dropped}
use Rattle.bench_forward.proofs.Noting.{noted, not_noted}
use Rattle.bench_forward.proofs.dropped.Dropped.note.Goals as goal
use Rattle.bench_forward.proofs.dropped.Dropped.note.Goals.{then-self, else-self}

pub returns-clause-first : goal.returns-clause-first
returns-clause-first c =
    let ten : length c.args.self.now.first ≡ 10 = search rules in
    elim c.if-self.branch [
      | then-self w ↦
          ap (λ (d : Dropped). numbers_of (record d { frames = d.frames + 1 })) w.self-is
          ∙ noted c.args.self.now.first c.args.self.now.frames c.args.number ten w.if-self.true
      | else-self w ↦
          ap (λ (d : Dropped). numbers_of (record d { frames = d.frames + 1 })) w.self-is
          ∙ not_noted c.args.self.now.first c.args.self.now.frames c.args.number ten w.if-self.false
    ]
