-- What was taken is what was read.
use Rattle.std.proofs.Common.{◌≡◌, ap, subst, sym, Option}
use Rattle.std.specs.Prelude.{Err}
use Rattle.bench_capture.specs.Formats.{IsTaken, Takes}
use Rattle.bench_capture.specs.declared.fault.NextFrameFault.{NextFrameFault}
use Rattle.bench_capture.specs.declared.format.Format.TheVariants.{Pcapng}
use Rattle.bench_capture.specs.declared.pieces.Pieces.{Pieces}
use Rattle.bench_capture.proofs.Taking.{between, block_faulty, block_taken}
use Rattle.bench_pcapng.specs.declared.passing.Passing.{Passing}
use Rattle.bench_capture.proofs.pieces.Pieces.read.Goals as goal

pub returns-in-Ok-clause-takes : goal.returns-in-Ok-clause-takes
returns-in-Ok-clause-takes c =
    let known = c.args.self.now.blocks in
    let bytes = c.args.bytes.now in
    let at : c.args.self.now ≡ between known = ap (λ (passing : Option Passing). record { blocks = known; passing = passing }) c.requires.between in
    subst (λ (old : Pieces). IsTaken (Pcapng old) bytes c.taken_of.result (Pcapng (record { blocks = c.read.new.self; passing = old.passing }))) (sym at)
    (rw c.taken_of.ensures (block_taken known c.read.new.self bytes c.in-Ok.block c.requires.some c.in-Ok.ensures))

pub returns-in-Err-clause-takes : goal.returns-in-Err-clause-takes
returns-in-Err-clause-takes c =
    let known = c.args.self.now.blocks in
    let bytes = c.args.bytes.now in
    let at : c.args.self.now ≡ between known = ap (λ (passing : Option Passing). record { blocks = known; passing = passing }) c.requires.between in
    subst (λ (old : Pieces). Takes (Pcapng old) bytes (Err c.of_pcapng.result) (Pcapng (record { blocks = c.read.new.self; passing = old.passing }))) (sym at)
    (subst (λ (fault : NextFrameFault). Takes (Pcapng (between known)) bytes (Err fault) (Pcapng (between c.read.new.self))) (sym c.of_pcapng.ensures)
    (block_faulty known c.read.new.self bytes c.in-Err.fault c.requires.some c.in-Err.ensures))
