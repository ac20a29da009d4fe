-- Verdicts on pieces of a list of frames, joined.
use Rattle.std.specs.Prelude.{◌≡◌, ℕ, List, IfOk}
use Rattle.std.specs.List.{AllZip, flat_map}
use Rattle.std.specs.Borrow.{Bor}
use Rattle.std.specs.declared.result.Result.{Result}
use Rattle.std.specs.declared.vec.Vec.{Vec}
use Rattle.std.specs.declared.alloc.Global.{Global}
use Rattle.std.specs.declared.alloc.AllocError.{AllocError}
use Rattle.mib_state.specs.Entities.{Entities}
use Rattle.frame_meaning.specs.declared.verdict.Verdict.{Verdict}
use Rattle.batch_reports.specs.Batches.{meanings}

-- a piece's verdicts are what its frames mean
abbrev pub IsPiece : Entities → ℕ → List (Bor (List ℕ)) → Result (Vec Verdict Global) AllocError → Type 0
IsPiece e port frames r = IfOk r (λ verdicts. verdicts.items ≡ meanings e port frames)

-- these are the verdicts of all the pieces, in order: where each piece has what its frames mean, they are what all frames mean
abbrev pub AreJoined : List (Result (Vec Verdict Global) AllocError) → List Verdict → Type 0
AreJoined pieces all = (e : Entities) (port : ℕ) (frames : List (List (Bor (List ℕ)))) → AllZip (IsPiece e port) frames pieces → all ≡ meanings e port (flat_map (λ piece. piece) frames)
