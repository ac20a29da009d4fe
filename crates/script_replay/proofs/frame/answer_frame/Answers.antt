use Rattle.std.proofs.Common.{◌≡◌, ◌-◌, ◌*◌, ◌∙◌, ◌++◌, ◌≤◌, drop, length, ℕ, List, Ok, ap, sym, arith}
use Rattle.hex.specs.Hex.{decode_of}
use Rattle.hex.proofs.HexLemmas.{decode_of-ok}
use Rattle.frame_meaning.specs.Meaning.{meaning}
use Rattle.frame_meaning.specs.declared.verdict.Verdict.{Verdict}
use Rattle.frame_meaning.specs.declared.verdict.Verdict.TheVariants.{Forward}
use Rattle.mib_state.specs.Entities.{Entities}
use Rattle.tag_view.specs.Frame.{Reading}
use Rattle.script_digits.proofs.Digits.{spelled_rest}
use Rattle.script_replay.specs.Answers.{verdict_line}
use Rattle.script_heads.specs.Heads.{IsHeadOf}
use Rattle.script_heads.proofs.Heads.{meant_by_head, rest_within, with_rest}
use Rattle.script_replay.proofs.Messages.{frame_length}
use Rattle.script_replay.proofs.frame.answer_frame.Goals as goal

-- the rest that leaves is no longer than the frame that came
within : (e : Entities) (port : ℕ) (digits bytes head : List ℕ) (gem : ℕ) (frame : Reading) → decode_of digits ≡ Ok bytes → IsHeadOf bytes head
    → Forward gem frame ≡ meaning e port head → 2 * length frame.rest ≤ length digits
within e port digits bytes head gem frame is front leaves =
    let twice = (decode_of-ok digits bytes is).2 in
    let rest = rest_within e port head gem frame (sym leaves) in
    omega (arith, twice, front.len, rest)

pub overflow_sub-digits : goal.overflow_sub-digits
overflow_sub-digits c =
    let short = within c.args.onu.now.mib.entities c.args.port c.args.digits.now c.requires.digits.0 c.read_head-head.result.now c.in-Forward.gem c.in-Forward.frame c.requires.digits.1 (c.read_head-head.ensures c.requires.digits.0 c.requires.digits.1) c.in-Forward.ensures.verdict in
    omega (arith, ap length c.rest.ensures, short)

pub put_forwarded-requires : goal.put_forwarded-requires
put_forwarded-requires c =
    let bytes = c.requires.digits.0 in
    let twice = (decode_of-ok c.args.digits.now bytes c.requires.digits.1).2 in
    let head = c.read_head-head.ensures bytes c.requires.digits.1 in
    let frame = c.in-Forward.frame in
    let short = within c.args.onu.now.mib.entities c.args.port c.args.digits.now c.requires.digits.0 c.read_head-head.result.now c.in-Forward.gem c.in-Forward.frame c.requires.digits.1 (c.read_head-head.ensures c.requires.digits.0 c.requires.digits.1) c.in-Forward.ensures.verdict in
    omega (arith, twice, head.len, short, ap length c.rest.ensures, c.split_at.ensures.back_len, c.in-Forward.ensures.size.whole, c.in-Forward.ensures.size.little, frame_length frame.addresses frame.tags frame.rest, c.requires.room)

pub returns-in-Forward-clause-len : goal.returns-in-Forward-clause-len
returns-in-Forward-clause-len c =
    let bytes = c.requires.digits.0 in
    let twice = (decode_of-ok c.args.digits.now bytes c.requires.digits.1).2 in
    let head = c.read_head-head.ensures bytes c.requires.digits.1 in
    let frame = c.in-Forward.frame in
    let short = within c.args.onu.now.mib.entities c.args.port c.args.digits.now c.requires.digits.0 c.read_head-head.result.now c.in-Forward.gem c.in-Forward.frame c.requires.digits.1 (c.read_head-head.ensures c.requires.digits.0 c.requires.digits.1) c.in-Forward.ensures.verdict in
    omega (arith, twice, head.len, short, ap length c.rest.ensures, c.split_at.ensures.back_len, c.in-Forward.ensures.size.whole, c.in-Forward.ensures.size.little, frame_length frame.addresses frame.tags frame.rest, c.put_forwarded.ensures.len)

pub returns-in-Forward-clause-items : goal.returns-in-Forward-clause-items
returns-in-Forward-clause-items c bytes is =
    let digits = c.args.digits.now in
    let frame = c.in-Forward.frame in
    let twice = (decode_of-ok digits bytes is).2 in
    let count : ℕ = length bytes - length frame.rest in
    let place : length digits - 2 * length c.rest.result.now ≡ 2 * count = omega (arith, twice, ap length c.rest.ensures) in
    let behind : decode_of c.split_at.result.1.now ≡ Ok (drop count bytes) =
    ap decode_of (c.split_at.ensures.back ∙ ap (λ (k : ℕ). drop k digits) place) ∙ spelled_rest digits bytes count is in
    let meant = meant_by_head c.args.onu.now.mib.entities c.args.port bytes c.read_head-head.result.now (c.read_head-head.ensures bytes is) in
    c.put_forwarded.ensures.items (drop count bytes) behind
    ∙ ap (λ (v : Verdict). c.args.answers.now.items ++ verdict_line v) (ap (with_rest bytes) c.in-Forward.ensures.verdict ∙ sym meant)

pub returns-in-Drop-clause-items : goal.returns-in-Drop-clause-items
returns-in-Drop-clause-items c bytes is =
    let meant = meant_by_head c.args.onu.now.mib.entities c.args.port bytes c.read_head-head.result.now (c.read_head-head.ensures bytes is) in
    c.put_dropped.ensures.items
    ∙ ap (λ (v : Verdict). c.args.answers.now.items ++ verdict_line v) (ap (with_rest bytes) c.in-Drop.ensures.verdict ∙ sym meant)
