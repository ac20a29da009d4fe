use Rattle.std.proofs.Common.{◌≡◌, [], List, ℕ, length, ap, subst, sym, arith}
use Rattle.bench_judge.proofs.Candidates.{AreCandidates, all_numbers, candidates_more, first_known, no_candidates}
use Rattle.bench_judge.specs.declared.judgement.Candidate.{Candidate}
use Rattle.bench_judge.specs.Terms.{ground_in}
use Rattle.bench_judge.proofs.deviation.candidates.Goals as goal

pub each_number-init : goal.each_number-init
each_number-init c = λ terms known.
    let all = c.args.among.now.numbers in
    subst (λ (cs : List Candidate). AreCandidates (ground_in terms) c.args.events.now c.args.walk.now all cs c.numbers-numbers.result) (sym c.new-all.ensures.items)
    (subst (λ l. AreCandidates (ground_in terms) c.args.events.now c.args.walk.now all [] l) (sym c.numbers-numbers.ensures)
    (no_candidates (ground_in terms) c.args.events.now c.args.walk.now all c.requires.known))

pub each_number-preserved : goal.each_number-preserved
each_number-preserved c = λ terms known.
    candidates_more (ground_in terms) c.args.events.now c.args.walk.now c.args.among.now.numbers c.each_number.all.items c.push.new.self.items c.in-Some.number c.each_number.numbers
    c.take_least.new.self c.in_ok-candidate.field-0 c.in-Some.ensures c.in_ok-push.ensures.items c.in_ok-candidate.ensures.number (c.in_ok-candidate.ensures.is terms known)
    (c.each_number.invariant terms known)

pub each_number-smaller : goal.each_number-smaller
each_number-smaller c =
    let one : length c.each_number.numbers ≡ _ = ap (λ (l : List ℕ). length l) c.in-Some.ensures in
    omega (arith, one)

pub candidate-requires-clause-known : goal.candidate-requires-clause-known
candidate-requires-clause-known c =
    first_known c.args.walk.now c.in-Some.number c.each_number.numbers c.take_least.new.self c.in-Some.ensures
    (c.each_number.invariant c.requires.walked.0 c.requires.walked.1).known

pub returns-clause-numbers : goal.returns-clause-numbers
returns-clause-numbers c =
    all_numbers _ c.each_number.numbers c.args.among.now.numbers c.in_default.ensures.0
    (c.each_number.invariant c.requires.walked.0 c.requires.walked.1).numbers

pub returns-clause-each : goal.returns-clause-each
returns-clause-each c = λ terms known. (c.each_number.invariant terms known).each
