use Rattle.std.proofs.Common.{ap, length-take, take, arith}
use Rattle.frame_meaning.specs.declared.reason.Reason.TheVariants.{Runt}
use Rattle.frame_meaning.specs.declared.verdict.Verdict.TheVariants.{Drop}
use Rattle.frame_stats.specs.Figures.{Figure, Bytes, DropsFor, FramesTo}
use Rattle.frame_stats.specs.Tallies.{weight}
use Rattle.frame_stats.proofs.FigureSums.{drops_within, figure_more, frames_within, same_fault, some_names_port}
use Rattle.frame_stats.proofs.count.note_all.Goals as goal

pub note-requires-clause-few_drops : goal.note-requires-clause-few_drops
note-requires-clause-few_drops c = λ reason.
    let so_far = c.loop-verdict.invariant.drops reason in
    let within = drops_within reason (take c.loop-verdict.verdict-index c.args.verdicts.now) in
    let taken = length-take c.loop-verdict.verdict-index c.args.verdicts.now in
    omega (arith, so_far, within, taken)

pub note-requires-clause-few_frames : goal.note-requires-clause-few_frames
note-requires-clause-few_frames c = λ port.
    let so_far = c.loop-verdict.invariant.ports port in
    let within = frames_within port (take c.loop-verdict.verdict-index c.args.verdicts.now) in
    let taken = length-take c.loop-verdict.verdict-index c.args.verdicts.now in
    omega (arith, so_far, within, taken)

pub returns-in-Err-clause-memory : goal.returns-in-Err-clause-memory
returns-in-Err-clause-memory c = λ is.
    let some = c.in-Err.ensures.memory (same_fault c.in-Err.fault _ is) in
    some_names_port c.args.verdicts.now c.loop-verdict.verdict-index some.0 (Drop Runt) (omega arith) (omega arith) (omega arith)
    (omega (arith, some.1, c.loop-verdict.invariant.ports some.0))

pub loop-verdict-preserved : goal.loop-verdict-preserved
loop-verdict-preserved c =
    let vs = c.args.verdicts.now in
    let i = c.loop-verdict.verdict-index in
    let so_far = c.loop-verdict.invariant in
    let v = c.verdict-item.result in
    let noted = c.in_default.ensures in
    let more = λ (f : Figure). figure_more f vs i v c.loop-verdict-test.true in
    let same = λ (f : Figure). ap (weight f) c.verdict-item.is in
    record {
      small = noted.fits;
      bytes = omega (arith, noted.bytes, so_far.bytes, more Bytes, same Bytes);
      drops = λ reason. omega (arith, noted.drops reason, so_far.drops reason, more (DropsFor reason), same (DropsFor reason));
      ports = λ port. omega (arith, noted.ports port, so_far.ports port, more (FramesTo port), same (FramesTo port));
    }
