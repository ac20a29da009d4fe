-- What was taken is what was read.
use Rattle.std.proofs.Common.{◌≡◌, ap, subst, sym, Option}
use Rattle.std.specs.Prelude.{Err}
use Rattle.bench_capture.specs.Formats.{IsTaken, Takes}
use Rattle.bench_capture.specs.declared.fault.NextFrameFault.{NextFrameFault}
use Rattle.bench_capture.specs.declared.format.Format.TheVariants.{Pcapng}
use Rattle.bench_capture.specs.declared.pieces.Pieces.{Pieces}
use Rattle.bench_capture.specs.declared.span.Taken.{Taken}
use Rattle.bench_capture.proofs.Taking.{between, rest_faulty, rest_taken, within}
use Rattle.bench_pcapng.specs.declared.passing.Passing.{Passing}
use Rattle.bench_capture.proofs.pieces.Pieces.take.Goals as goal

pub returns-in-Ok-clause-takes : goal.returns-in-Ok-clause-takes
returns-in-Ok-clause-takes c =
    let known = c.args.self.now.blocks in
    let bytes = c.args.bytes.now in
    let at : c.args.self.now ≡ within known c.in-Some.passing = ap (λ (passing : Option Passing). record { blocks = known; passing = passing }) c.in-Some.is in
    subst (λ (old : Pieces). IsTaken (Pcapng old) bytes c.taken_of.result (Pcapng (between c.read_rest.new.self))) (sym at)
    (subst (λ (taken : Taken). IsTaken (Pcapng (within known c.in-Some.passing)) bytes taken (Pcapng (between c.read_rest.new.self))) (sym c.taken_of.ensures)
    (rest_taken known c.read_rest.new.self c.in-Some.passing bytes c.in-Ok.block c.in-Ok.ensures))

pub returns-in-Err-clause-takes : goal.returns-in-Err-clause-takes
returns-in-Err-clause-takes c =
    let known = c.args.self.now.blocks in
    let bytes = c.args.bytes.now in
    let at : c.args.self.now ≡ within known c.in-Some.passing = ap (λ (passing : Option Passing). record { blocks = known; passing = passing }) c.in-Some.is in
    subst (λ (old : Pieces). Takes (Pcapng old) bytes (Err c.of_pcapng.result) (Pcapng (record { blocks = c.read_rest.new.self; passing = old.passing }))) (sym at)
    (subst (λ (fault : NextFrameFault). Takes (Pcapng (within known c.in-Some.passing)) bytes (Err fault) (Pcapng (within c.read_rest.new.self c.in-Some.passing))) (sym c.of_pcapng.ensures)
    (rest_faulty known c.read_rest.new.self c.in-Some.passing bytes c.in-Err.fault c.in-Err.ensures))
