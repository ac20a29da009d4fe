-- Each part is a lemma.
use Rattle.bench_capture.proofs.PcapngLaw.{faulty, frames, sound}
use Rattle.bench_capture.proofs.laws.law_of_pcapng_captures.Goals as goal

pub returns : goal.returns
returns c = record { frames = frames; sound = sound; faulty = faulty }
