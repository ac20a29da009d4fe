use Rattle.std.proofs.Common.{refl, sym, ◌∙◌}
use Rattle.bench_judge.proofs.Held.{held_at}
use Rattle.bench_judge.proofs.sweep.may_have.Goals as goal

pub returns-in-Some : goal.returns-in-Some
returns-in-Some c = λ live at.
    let case = c.args.case.now in (
      λ _.
          held_at case.events.now case.requests.now case.frames.now case.known.now c.args.number c.args.version c.in-Some.known c.args.frame.now c.requires at
          (sym c.version_of.ensures ∙ c.in-Some.is) c.if-known-version.true,
      λ _. refl,
    )
