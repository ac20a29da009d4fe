use Rattle.std.proofs.Common.{◌≡◌, ◌+◌, ◌*◌, ◌/◌, ◌∙◌, min, List, ℕ, Ok, true, ap, sym, refl, arith, drop, take, length}
use Rattle.hex.specs.Hex.{decode_of}
use Rattle.hex.proofs.HexLemmas.{decode_of-ok}
use Rattle.script_digits.proofs.Digits.{spelled_front, spelled_rest}
use Rattle.bench_sight.specs.Parts.{lengths_agree}
use Rattle.bench_sight.proofs.Agreement.{agrees_by, padding_behind, same_front, same_lengths}
use Rattle.bench_sight.proofs.Leaving.{left_length, left_of}
use Rattle.bench_sight.proofs.spelled.is_spelled.Goals as goal

pub returns-then-not-lengths_agree : goal.returns-then-not-lengths_agree
returns-then-not-lengths_agree c bytes more is are =
    let frame = c.args.frame.now in
    let left = left_of frame bytes in
    let long = (decode_of-ok c.args.sent.now.digits.now bytes is).2 in
    let twice = (decode_of-ok c.args.seen.now.digits.now more are).2 in
    let rest : length c.rest.result.now ≡ length frame.rest = ap (λ (l : List ℕ). length l) c.rest.ensures in
    let leaves : c.head_length.result + length c.rest.result.now ≡ length left =
    left_length frame bytes c.head_length.result (length c.rest.result.now) (omega (arith, long, c.requires.rest)) c.head_length.ensures.length rest in
    let count : length c.args.seen.now.digits.now / 2 ≡ length more = omega (arith, twice) in (
      λ no. cc,
      λ agrees.
          let told : c.lengths_agree.result ≡ true =
          c.lengths_agree.ensures ∙ ap (λ (n : ℕ). lengths_agree c.args.padded c.args.sent.now.extent n c.args.seen.now.extent (length c.args.seen.now.digits.now / 2)) leaves
          ∙ ap (lengths_agree c.args.padded c.args.sent.now.extent (length left) c.args.seen.now.extent) count
          ∙ same_lengths c.args.padded left more (min (length more) (length left)) refl c.args.sent.now.extent c.args.seen.now.extent agrees in
          absurd (cc (told, c.if-not-lengths_agree.true)),
    )

pub returns-then-is_padding : goal.returns-then-is_padding
returns-then-is_padding c bytes more is are =
    let frame = c.args.frame.now in
    let seen = c.args.seen.now.digits.now in
    let left = left_of frame bytes in
    let long = (decode_of-ok c.args.sent.now.digits.now bytes is).2 in
    let twice = (decode_of-ok seen more are).2 in
    let rest : length c.rest.result.now ≡ length frame.rest = ap (λ (l : List ℕ). length l) c.rest.ensures in
    let leaves : c.head_length.result + length c.rest.result.now ≡ length left =
    left_length frame bytes c.head_length.result (length c.rest.result.now) (omega (arith, long, c.requires.rest)) c.head_length.ensures.length rest in
    let count : length seen / 2 ≡ length more = omega (arith, twice) in
    let k : ℕ = min (length more) (length left) in
    let cut : c.min.result ≡ 2 * k = omega (arith, twice, leaves, c.min.ensures) in
    let own : decode_of c.split_at.result.0.now ≡ Ok (take k more) =
    ap decode_of (c.split_at.ensures.front ∙ ap (λ (n : ℕ). take n seen) cut) ∙ spelled_front seen more k are in
    let behind : decode_of c.split_at.result.1.now ≡ Ok (drop k more) =
    ap decode_of (c.split_at.ensures.back ∙ ap (λ (n : ℕ). drop n seen) cut) ∙ spelled_rest seen more k are in
    let padding = (c.is_padding.ensures (drop k more) behind).0 c.if-is_padding.true in
    let front = c.begins.ensures bytes (take k more) is own in
    let lengths : lengths_agree c.args.padded c.args.sent.now.extent (length left) c.args.seen.now.extent (length more) ≡ true =
    ap (lengths_agree c.args.padded c.args.sent.now.extent (length left) c.args.seen.now.extent) (sym count)
    ∙ ap (λ (n : ℕ). lengths_agree c.args.padded c.args.sent.now.extent n c.args.seen.now.extent (length seen / 2)) (sym leaves)
    ∙ sym c.lengths_agree.ensures ∙ c.if-not-lengths_agree.false in (
      λ yes. agrees_by c.args.padded left more k refl c.args.sent.now.extent c.args.seen.now.extent lengths padding (front.0 yes),
      λ agrees. front.1 (same_front c.args.padded left more k refl c.args.sent.now.extent c.args.seen.now.extent agrees),
    )

pub returns-else-is_padding : goal.returns-else-is_padding
returns-else-is_padding c bytes more is are =
    let frame = c.args.frame.now in
    let seen = c.args.seen.now.digits.now in
    let left = left_of frame bytes in
    let long = (decode_of-ok c.args.sent.now.digits.now bytes is).2 in
    let twice = (decode_of-ok seen more are).2 in
    let rest : length c.rest.result.now ≡ length frame.rest = ap (λ (l : List ℕ). length l) c.rest.ensures in
    let leaves : c.head_length.result + length c.rest.result.now ≡ length left =
    left_length frame bytes c.head_length.result (length c.rest.result.now) (omega (arith, long, c.requires.rest)) c.head_length.ensures.length rest in
    let k : ℕ = min (length more) (length left) in
    let cut : c.min.result ≡ 2 * k = omega (arith, twice, leaves, c.min.ensures) in
    let behind : decode_of c.split_at.result.1.now ≡ Ok (drop k more) =
    ap decode_of (c.split_at.ensures.back ∙ ap (λ (n : ℕ). drop n seen) cut) ∙ spelled_rest seen more k are in
    let no = c.if-is_padding.false in (
      λ yes. absurd (cc (yes, no)),
      λ agrees.
          (c.is_padding.ensures (drop k more) behind).1
          (padding_behind c.args.padded left more k refl c.args.sent.now.extent c.args.seen.now.extent agrees),
    )
