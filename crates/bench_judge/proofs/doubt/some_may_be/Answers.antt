use Rattle.std.proofs.Common.{◌≡◌, ◌∙◌, ◌∷◌, ℕ, List, length, ap, subst, sym, refl, arith, true≢false}
use Rattle.bench_judge.proofs.Numbered.{ComeLast, all_come, first_there, none_there, one_less}
use Rattle.bench_judge.proofs.Versions.{MayBeBy}
use Rattle.bench_judge.proofs.doubt.some_may_be.Goals as goal

pub each_number-init : goal.each_number-init
each_number-init c =
    let all = c.args.doubtful.now.among.now.numbers in
    let P : ℕ → Type 0 =
    MayBeBy c.args.case.now.padded c.args.case.now.events.now c.args.case.now.frames.now c.args.doubtful.now.gem c.args.doubtful.now.extent c.args.doubtful.now.among.now
    c.args.version c.args.live.now in
    subst (λ l. ComeLast all l P) (sym c.numbers-numbers.ensures) (all_come all P)

pub each_number-preserved : goal.each_number-preserved
each_number-preserved c =
    let P : ℕ → Type 0 =
    MayBeBy c.args.case.now.padded c.args.case.now.events.now c.args.case.now.frames.now c.args.doubtful.now.gem c.args.doubtful.now.extent c.args.doubtful.now.among.now
    c.args.version c.args.live.now in
    one_less c.args.doubtful.now.among.now.numbers c.in-Some.number c.each_number.numbers c.take_least.new.self P c.in-Some.ensures
    (λ may. true≢false (sym (c.may_be.ensures.1 may) ∙ c.if-may_be.false)) c.each_number.invariant

pub each_number-smaller : goal.each_number-smaller
each_number-smaller c =
    let one : length c.each_number.numbers ≡ length (c.in-Some.number ∷ c.take_least.new.self) = ap (λ (l : List ℕ). length l) c.in-Some.ensures in
    omega (arith, one)

pub returns-then-may_be : goal.returns-then-may_be
returns-then-may_be c =
    let P : ℕ → Type 0 =
    MayBeBy c.args.case.now.padded c.args.case.now.events.now c.args.case.now.frames.now c.args.doubtful.now.gem c.args.doubtful.now.extent c.args.doubtful.now.among.now
    c.args.version c.args.live.now in (
      λ one. (
        c.in-Some.number,
        first_there c.args.doubtful.now.among.now.numbers c.in-Some.number c.each_number.numbers c.take_least.new.self P c.in-Some.ensures c.each_number.invariant,
        c.may_be.ensures.0 c.if-may_be.true,
      ),
      λ is. refl,
    )

pub returns : goal.returns
returns c =
    let P : ℕ → Type 0 =
    MayBeBy c.args.case.now.padded c.args.case.now.events.now c.args.case.now.frames.now c.args.doubtful.now.gem c.args.doubtful.now.extent c.args.doubtful.now.among.now
    c.args.version c.args.live.now in (
      λ one. absurd (true≢false (sym one)),
      λ is. absurd (none_there c.args.doubtful.now.among.now.numbers c.each_number.numbers P c.in_default.ensures.0 c.each_number.invariant is.0 is.1 is.2),
    )
