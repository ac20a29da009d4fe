use Rattle.std.proofs.Common.{◌<◌, ◌≤◌, ◌∷◌, ℕ, List, length, arith}
use Rattle.std.specs.Fmt.{decimal}
use Rattle.std.proofs.lemmas.Grind.{common_steps}
use Rattle.bench_record.proofs.Parts.{all_told, any_err, more_told, part_told}
use Rattle.bench_record.proofs.writing.write_numbers.Goals as goal

abbrev word_of : ℕ → List ℕ
word_of n = 32 ∷ decimal n

pub returns-in_err-write_number-clause-err : goal.returns-in_err-write_number-clause-err
returns-in_err-write_number-clause-err g c =
    let within : c.loop-number.number-index < length c.args.numbers.now = grind (arith, common_steps) in
    any_err c.from_residual.result _
    (part_told ℕ word_of _ (g.W.Write.contents c.loop-number.writer) _ c.loop-number.number-index c.args.numbers.now _ within c.loop-number.invariant
    c.in_err-write_number.ensures.err)

pub loop-number-preserved : goal.loop-number-preserved
loop-number-preserved g c =
    let within : c.loop-number.number-index < length c.args.numbers.now = grind (arith, common_steps) in
    more_told ℕ word_of _ (g.W.Write.contents c.loop-number.writer) _ c.loop-number.number-index c.args.numbers.now _ within c.loop-number.invariant
    c.in_ok-write_number.ensures.ok

pub returns-clause-ok : goal.returns-clause-ok
returns-clause-ok g c =
    let past : length c.args.numbers.now ≤ c.loop-number.number-index = grind (arith, common_steps) in
    all_told ℕ word_of _ _ c.loop-number.number-index c.args.numbers.now past c.loop-number.invariant
