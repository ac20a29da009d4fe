-- The requests of a trace, line by line.
use Rattle.std.proofs.Common.{◌≡◌, ℕ, List, ◌∷◌, ◌++◌, refl}
use Rattle.script_lines.specs.Line.{asked_by}
use Rattle.script_lines.specs.Text.{lines_of}
use Rattle.script_trace.specs.Trace.{request_in, requests_of}

-- the requests of the first line stand before those of the lines behind it
pub requests_first : (text line rest : List ℕ) → lines_of text ≡ line ∷ lines_of rest → requests_of text ≡ request_in (asked_by line) ++ requests_of rest
requests_first text line rest is = rw is refl
