use Rattle.std.proofs.Common.{◌≡◌, ◌-◌, ◌*◌, ◌∙◌, ◌++◌, min, List, ℕ, Ok, ap, arith, drop, take, length, append_assoc, subst, refl}
use Rattle.std.specs.Prelude.{Decides}
use Rattle.std.specs.Io.{StartsWith}
use Rattle.std.specs.List.{flat_map}
use Rattle.hex.specs.Hex.{decode_of}
use Rattle.hex.proofs.HexLemmas.{decode_of-ok}
use Rattle.script_digits.proofs.Digits.{spelled_front, spelled_rest}
use Rattle.tag_view.specs.Tag.{tag_bytes}
use Rattle.bench_sight.proofs.Prefixes.{parts_are, parts_of}
use Rattle.bench_sight.proofs.spelled.begins.Goals as goal

pub returns-then-spell_the_same : goal.returns-then-spell_the_same
returns-then-spell_the_same c bytes more is are =
    let frame = c.args.frame.now in
    let sent = c.args.sent.now in
    let seen = c.args.seen.now in
    let count : ℕ = length bytes - length frame.rest in
    let head = frame.addresses ++ flat_map tag_bytes frame.tags in
    let k : ℕ = min (length more) (length head) in
    let long = (decode_of-ok sent bytes is).2 in
    let twice = (decode_of-ok seen more are).2 in
    let rest : length c.rest.result.now ≡ length frame.rest = ap (λ (l : List ℕ). length l) c.rest.ensures in
    let cut : c.min.result ≡ 2 * k = omega (arith, twice, c.min.ensures, c.head_length.ensures.length) in
    let at_sent : length sent - 2 * length c.rest.result.now ≡ 2 * count = omega (arith, long, rest) in
    let front : decode_of c.split_at.result.0.now ≡ Ok (take k more) =
    ap decode_of (c.split_at.ensures.front ∙ ap (λ (n : ℕ). take n seen) cut) ∙ spelled_front seen more k are in
    let two = c.head_begins.ensures (take k more) front in
    let behind : decode_of c.split_at.result.1.now ≡ Ok (drop k more) =
    ap decode_of (c.split_at.ensures.back ∙ ap (λ (n : ℕ). drop n seen) cut) ∙ spelled_rest seen more k are in
    let last : decode_of c.split_at-2.result.1.now ≡ Ok (drop count bytes) =
    ap decode_of (c.split_at-2.ensures.back ∙ ap (λ (n : ℕ). drop n sent) at_sent) ∙ spelled_rest sent bytes count is in
    let j : ℕ = length (drop k more) in
    let known : decode_of c.split_at-3.result.0.now ≡ Ok (take j (drop count bytes)) =
    ap decode_of (c.split_at-3.ensures.front ∙ ap (λ (n : ℕ). take n c.split_at-2.result.1.now) (decode_of-ok c.split_at.result.1.now (drop k more) behind).2)
    ∙ spelled_front c.split_at-2.result.1.now (drop count bytes) j last in
    let one = c.spell_the_same.ensures (take j (drop count bytes)) (drop k more) known behind in
    let whole = append_assoc frame.addresses (flat_map tag_bytes frame.tags) (drop count bytes) in
    subst (λ (l : List ℕ). Decides c.head_begins.result (StartsWith l more)) whole (
      λ yes. parts_are head (drop count bytes) more k refl (two.0 yes) (one.0 c.if-spell_the_same.true),
      λ begins. two.1 (parts_of head (drop count bytes) more k refl begins).0,
    )

pub returns-else-spell_the_same : goal.returns-else-spell_the_same
returns-else-spell_the_same c bytes more is are =
    let frame = c.args.frame.now in
    let sent = c.args.sent.now in
    let seen = c.args.seen.now in
    let count : ℕ = length bytes - length frame.rest in
    let head = frame.addresses ++ flat_map tag_bytes frame.tags in
    let k : ℕ = min (length more) (length head) in
    let long = (decode_of-ok sent bytes is).2 in
    let twice = (decode_of-ok seen more are).2 in
    let rest : length c.rest.result.now ≡ length frame.rest = ap (λ (l : List ℕ). length l) c.rest.ensures in
    let cut : c.min.result ≡ 2 * k = omega (arith, twice, c.min.ensures, c.head_length.ensures.length) in
    let at_sent : length sent - 2 * length c.rest.result.now ≡ 2 * count = omega (arith, long, rest) in
    let behind : decode_of c.split_at.result.1.now ≡ Ok (drop k more) =
    ap decode_of (c.split_at.ensures.back ∙ ap (λ (n : ℕ). drop n seen) cut) ∙ spelled_rest seen more k are in
    let last : decode_of c.split_at-2.result.1.now ≡ Ok (drop count bytes) =
    ap decode_of (c.split_at-2.ensures.back ∙ ap (λ (n : ℕ). drop n sent) at_sent) ∙ spelled_rest sent bytes count is in
    let j : ℕ = length (drop k more) in
    let known : decode_of c.split_at-3.result.0.now ≡ Ok (take j (drop count bytes)) =
    ap decode_of (c.split_at-3.ensures.front ∙ ap (λ (n : ℕ). take n c.split_at-2.result.1.now) (decode_of-ok c.split_at.result.1.now (drop k more) behind).2)
    ∙ spelled_front c.split_at-2.result.1.now (drop count bytes) j last in
    let one = c.spell_the_same.ensures (take j (drop count bytes)) (drop k more) known behind in
    let no = c.if-spell_the_same.false in
    let whole = append_assoc frame.addresses (flat_map tag_bytes frame.tags) (drop count bytes) in
    subst (λ (l : List ℕ). Decides c.spell_the_same.result (StartsWith l more)) whole (
      λ yes. absurd (cc (yes, no)),
      λ begins. one.1 (parts_of head (drop count bytes) more k refl begins).1,
    )
