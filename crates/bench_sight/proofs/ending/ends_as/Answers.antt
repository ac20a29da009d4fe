use Rattle.std.proofs.Common.{rules, ◌-◌, ◌∙◌, refl, sym, ap, drop, length}
use Rattle.frame_meaning.specs.Meaning.{meaning}
use Rattle.script_heads.proofs.Heads.{meant_by_head, rest_within, with_rest}
use Rattle.bench_sight.proofs.Leaving.{rest_fits}
use Rattle.bench_sight.proofs.Verdicts.{dropped_or_lost, left, left_elsewhere, not_dropped, not_left}
use Rattle.bench_sight.proofs.ending.ends_as.Goals as goal

pub is_spelled-requires-clause-rest : goal.is_spelled-requires-clause-rest
is_spelled-requires-clause-rest c =
    rest_fits c.as_digits-digits.result.now c.args.sent.now c.read_head.result.now c.in-Forward.frame.rest c.as_digits-digits.ensures.bytes
    (c.read_head.ensures c.args.sent.now c.as_digits-digits.ensures.bytes)
    (rest_within c.args.live.now c.args.port c.read_head.result.now c.in-Forward.gem c.in-Forward.frame (sym c.in-Forward.ensures.verdict))

pub returns-then-is_gem : goal.returns-then-is_gem
returns-then-is_gem c =
    let sent = c.args.sent.now in
    let frame = c.in-Forward.frame in
    let verdict =
    meant_by_head c.args.live.now c.args.port sent c.read_head.result.now (c.read_head.ensures sent c.as_digits-digits.ensures.bytes) ∙ ap (with_rest sent) (sym c.in-Forward.ensures.verdict) in
    left c.args.padded c.args.extent (meaning c.args.live.now c.args.port sent) c.args.seen.now c.in-Forward.gem (record frame { rest = drop (length sent - length frame.rest) sent })
    c.in-Left.seen_gem c.in-Left.seen_extent c.in-Left.number c.in-Left.left verdict c.in-Left.is c.is_spelled.result (sym c.is_gem.ensures ∙ c.if-is_gem.true)
    (c.is_spelled.ensures sent c.in-Left.left c.as_digits-digits.ensures.bytes c.as_digits.ensures.bytes)

pub returns-else-is_gem : goal.returns-else-is_gem
returns-else-is_gem c =
    let sent = c.args.sent.now in
    let frame = c.in-Forward.frame in
    let verdict =
    meant_by_head c.args.live.now c.args.port sent c.read_head.result.now (c.read_head.ensures sent c.as_digits-digits.ensures.bytes) ∙ ap (with_rest sent) (sym c.in-Forward.ensures.verdict) in
    left_elsewhere c.args.padded c.args.extent (meaning c.args.live.now c.args.port sent) c.args.seen.now c.in-Forward.gem (record frame { rest = drop (length sent - length frame.rest) sent })
    c.in-Left.seen_gem c.in-Left.seen_extent c.in-Left.number c.in-Left.left verdict c.in-Left.is c.is_gem.result c.is_gem.ensures c.if-is_gem.false

pub returns-in_default : goal.returns-in_default
returns-in_default c =
    let sent = c.args.sent.now in
    let frame = c.in-Forward.frame in
    let verdict =
    meant_by_head c.args.live.now c.args.port sent c.read_head.result.now (c.read_head.ensures sent c.as_digits-digits.ensures.bytes) ∙ ap (with_rest sent) (sym c.in-Forward.ensures.verdict) in (
      λ yes. cc,
      λ seen_as.
          absurd (not_left c.args.padded c.args.extent (meaning c.args.live.now c.args.port sent) c.args.seen.now c.in-Forward.gem (record frame { rest = drop (length sent - length frame.rest) sent }) verdict
          (λ seen seen_extent number bytes is. search (rules, c.in_default.not-Left)) seen_as),
    )

pub returns-in-Dropped : goal.returns-in-Dropped
returns-in-Dropped c =
    let sent = c.args.sent.now in
    let verdict =
    meant_by_head c.args.live.now c.args.port sent c.read_head.result.now (c.read_head.ensures sent c.as_digits-digits.ensures.bytes) ∙ ap (with_rest sent) (sym c.in-Drop.ensures.verdict) in
    (λ yes. dropped_or_lost c.args.padded c.args.extent (meaning c.args.live.now c.args.port sent) c.args.seen.now c.in-Drop.field-0 verdict c.in-Dropped.is, λ seen_as. refl)

pub returns-in-Dropped-2 : goal.returns-in-Dropped-2
returns-in-Dropped-2 c =
    let sent = c.args.sent.now in
    let verdict =
    meant_by_head c.args.live.now c.args.port sent c.read_head.result.now (c.read_head.ensures sent c.as_digits-digits.ensures.bytes) ∙ ap (with_rest sent) (sym c.in-Drop.ensures.verdict) in
    (λ yes. dropped_or_lost c.args.padded c.args.extent (meaning c.args.live.now c.args.port sent) c.args.seen.now c.in-Drop.field-0 verdict c.in-Dropped.is, λ seen_as. refl)

pub returns-in_default-matches : goal.returns-in_default-matches
returns-in_default-matches c =
    let sent = c.args.sent.now in
    let verdict =
    meant_by_head c.args.live.now c.args.port sent c.read_head.result.now (c.read_head.ensures sent c.as_digits-digits.ensures.bytes) ∙ ap (with_rest sent) (sym c.in-Drop.ensures.verdict) in (
      λ yes. cc,
      λ seen_as.
          absurd (not_dropped c.args.padded c.args.extent (meaning c.args.live.now c.args.port sent) c.args.seen.now c.in-Drop.field-0 verdict
          (λ number is. search (rules, c.in_default-matches.not-Dropped)) (λ number is. search (rules, c.in_default-matches.not-Lost)) seen_as),
    )
