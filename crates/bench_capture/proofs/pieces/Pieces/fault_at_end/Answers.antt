-- Within a block the file is torn.
use Rattle.std.proofs.Common.{◌≡◌, ◌∙◌, ap, sym}
use Rattle.bench_capture.specs.Formats.{frame_fault_of}
use Rattle.bench_capture.specs.declared.fault.NextFrameFault.TheVariants.{Capture, NoMemory}
use Rattle.bench_capture.proofs.Wholes.{between_none, torn_is_fault, within_none}
use Rattle.bench_pcapng.specs.Passing.{fault_in}
use Rattle.bench_pcapng.specs.declared.fault.BlockFault.TheVariants.{Torn}
use Rattle.bench_pcapng.specs.declared.fault.PcapngFault.{PcapngFault}
use Rattle.bench_capture.proofs.pieces.Pieces.fault_at_end.Goals as goal

pub returns-in-None : goal.returns-in-None
returns-in-None c = rw c.in-None.is (between_none c.args.self.now.blocks)

pub returns-in-Capture : goal.returns-in-Capture
returns-in-Capture c =
    let told : frame_fault_of (fault_in c.in-Some.passing.first c.args.self.now.blocks.number Torn) ≡ Capture c.in-Capture.fault =
    ap (λ (fault : PcapngFault). frame_fault_of fault) (sym c.torn.ensures) ∙ sym c.of_pcapng.ensures ∙ c.in-Capture.is in
    rw c.in-Some.is (within_none c.args.self.now.blocks c.in-Some.passing c.in-Capture.fault told)

pub returns-in-NoMemory : goal.returns-in-NoMemory
returns-in-NoMemory c =
    let told : frame_fault_of (fault_in c.in-Some.passing.first c.args.self.now.blocks.number Torn) ≡ NoMemory =
    ap (λ (fault : PcapngFault). frame_fault_of fault) (sym c.torn.ensures) ∙ sym c.of_pcapng.ensures ∙ c.in-NoMemory.is in
    absurd (torn_is_fault c.in-Some.passing.first c.args.self.now.blocks.number told)
