use Rattle.std.proofs.Common.{◌≤◌, ap, ◌∙◌, length, arith}
use Rattle.std.specs.Result.{result_ok}
use Rattle.bench_history.proofs.Spelled.{twice_as_many}
use Rattle.bench_reply.proofs.Lengths.{read_some, went_well}
use Rattle.bench_reply.proofs.message.message_bytes.Goals as goal

pub read_bytes-requires : goal.read_bytes-requires
read_bytes-requires c =
    let few : length c.args.digits.now ≤ 48 = omega arith in
    let well = went_well _ c.args.digits.now c.as_digits.ensures.bytes in
    omega (arith, twice_as_many c.as_digits.result.now well.0, well.1, few)

pub returns : goal.returns
returns c = read_some _ _ _ _ (c.read_bytes.ensures.bytes ∙ ap result_ok c.as_digits.ensures.bytes)
