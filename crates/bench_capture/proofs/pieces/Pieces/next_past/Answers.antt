-- A block isn't passed over where few of its bytes are held, or enough of them.
use Rattle.std.proofs.Common.{◌∙◌, sym}
use Rattle.bench_pcapng.proofs.Held.{passed_held}
use Rattle.bench_capture.proofs.pieces.Pieces.next_past.Goals as goal

pub returns-in-None-clause-held : goal.returns-in-None-clause-held
returns-in-None-clause-held c = λ few none.
    rw c.in-None.is (passed_held c.args.self.now.blocks c.args.bytes.now (sym c.pass_over.ensures.value ∙ none))
