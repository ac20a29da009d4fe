-- The front of the file shows how its first block is passed over.
use Rattle.std.proofs.Common.{◌≡◌, ◌∙◌, true, List, Some, ap, sym}
use Rattle.bench_pcapng.specs.Passing.{as_first, at_first, passing_of}
use Rattle.bench_pcapng.specs.Reading.{is_pcapng}
use Rattle.bench_pcapng.specs.declared.interface.Interface.{Interface}
use Rattle.bench_pcapng.specs.declared.order.Order.TheVariants.{HighFirst}
use Rattle.bench_pcapng.proofs.Rests.{first_passed, first_passing}
use Rattle.bench_pcapng.proofs.blocks.Blocks.pass_over_first.Goals as goal

pub returns-clause-same : goal.returns-clause-same
returns-clause-same c = λ more.
    let file = c.args.file.now in
    let told : is_pcapng file ≡ true = sym c.is_pcapng.ensures ∙ c.if-not-is_pcapng.false in
    let found : passing_of at_first file ≡ Some c.in_ok-past.past =
    ap (λ (list : List Interface). passing_of (record { order = HighFirst; interfaces = list; time = 0; number = 0 }) file) (sym c.new.ensures.items)
    ∙ sym c.pass_over.ensures.value
    ∙ c.in_ok-past.was in
    first_passed file more (as_first c.in_ok-past.past) (first_passing file c.in_ok-past.past told found)
