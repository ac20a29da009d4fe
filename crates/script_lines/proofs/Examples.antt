-- Worked examples, computed.
use Rattle.std.proofs.Common.{◌≡◌, [], ◌∷◌, Some, None, refl}
use Rattle.std.specs.Prelude.{codes}
use Rattle.hex.specs.Hex.{decode_pairs}
use Rattle.script_lines.specs.Line.{asked_by}
use Rattle.script_lines.specs.Line as asked

a_message : asked_by (codes "o 0aF0") ≡ Some (asked.Message (10 ∷ 240 ∷ []))
unfolding asked_by decode_pairs
a_message = refl

a_bad_port : asked_by (codes "f 65536 00") ≡ None
unfolding asked_by
a_bad_port = refl
