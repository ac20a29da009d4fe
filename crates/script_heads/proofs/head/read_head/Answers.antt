use Rattle.std.proofs.Common.{◌≡◌, ◌*◌, ◌∙◌, take, length, List, ℕ, Result, Ok, true, false, ap, subst, arith, length-take}
use Rattle.std.specs.Prelude.{MatchResult}
use Rattle.hex.specs.Hex.{decode_of, decode_sized}
use Rattle.hex.specs.declared.error.FromHexError.{FromHexError}
use Rattle.hex.proofs.HexLemmas.{decode_of-ok, decode_sized-twice}
use Rattle.script_digits.proofs.Digits.{spelled_front}
use Rattle.script_heads.proofs.Heads.{head_read}
use Rattle.script_heads.proofs.head.read_head.Goals as goal

pub returns : goal.returns
returns c bytes is =
    let digits = c.args.digits.now in
    let known = c.min-known.result in
    let twice : length digits ≡ 2 * length bytes = (decode_of-ok digits bytes is).2 in
    let front = c.split_at.result.0.now in
    let cut : front ≡ take (2 * known) digits = c.split_at.ensures.front in
    let spelled : decode_of front ≡ Ok (take known bytes) = ap decode_of cut ∙ spelled_front digits bytes known is in
    let room : length (take known c.args.buffer.now) ≡ known = omega (arith, length-take known c.args.buffer.now, c.told-buffer, c.min-known.ensures) in
    let sized : decode_sized front (length (take known c.args.buffer.now)) ≡ Ok (take known bytes) =
    ap (decode_sized front) room ∙
    decode_sized-twice front known (omega (arith, ap length cut, length-take (2 * known) digits, c.min-known.ensures)) ∙ spelled in
    let P : Result (List ℕ) FromHexError → Type 0 = λ r. MatchResult r
    (λ read. (c.read_digits.result ≡ true) × (c.read_digits.new.bytes ≡ read))
    (λ _. (c.read_digits.result ≡ false) × (c.read_digits.new.bytes ≡ take known c.args.buffer.now)) in
    let read = subst P sized c.read_digits.ensures in
    head_read digits bytes c.read_digits.new.bytes c.args.buffer.now known is c.min-known.ensures read.1 (omega (arith, c.told-buffer, c.requires))
