-- Both parts are lemmas.
use Rattle.capture.proofs.Captures.{few_frames, many_frames}
use Rattle.capture.proofs.laws.law_of_records.Goals as goal

pub returns : goal.returns
returns c = record { few = few_frames; many = many_frames }
