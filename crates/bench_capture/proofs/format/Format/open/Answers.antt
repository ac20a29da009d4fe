-- The first block is the beginning of a file in the pcapng format.
use Rattle.std.proofs.Common.{◌≡◌, ◌∙◌, true, arith, sym}
use Rattle.bench_pcapng.specs.Reading.{is_pcapng}
use Rattle.bench_capture.proofs.Taking.{pcapng_not_opened, pcapng_opened}
use Rattle.bench_capture.proofs.format.Format.open.Goals as goal

pub returns-in-Some-clause-opens : goal.returns-in-Some-clause-opens
returns-in-Some-clause-opens c =
    let told : is_pcapng c.args.file.now ≡ true = sym c.is_pcapng.ensures ∙ c.if-not-is_pcapng.false in (
      c.in-Some.ensures.within,
      omega (arith, c.in-Some.ensures.few),
      pcapng_opened c.args.file.now c.in-Some.known c.in-Some.length told (sym c.in-Some.ensures.place),
    )

pub returns-in-None-clause-opens : goal.returns-in-None-clause-opens
returns-in-None-clause-opens c =
    let told : is_pcapng c.args.file.now ≡ true = sym c.is_pcapng.ensures ∙ c.if-not-is_pcapng.false in
    pcapng_not_opened c.args.file.now told (sym c.in-None.ensures.place)
