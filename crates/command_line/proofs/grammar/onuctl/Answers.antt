use Rattle.std.proofs.Common.{rules}
use Rattle.command_line.specs.Grammar.{alone}
use Rattle.command_line.proofs.grammar.onuctl.Goals as goal

pub returns : goal.returns
returns c =
    let answering = c.with_sub-answering.ensures alone _ (search rules) c.replay.ensures in
    let forwarding = c.with_sub-forwarding.ensures _ _ answering c.run.ensures in
    let decoding = c.with_sub-decoding.ensures _ _ forwarding c.decode.ensures in
    let showing = c.with_sub-showing.ensures _ _ decoding c.mib.ensures in
    let listing = c.with_sub-listing.ensures _ _ showing c.rules.ensures in
    let explaining = c.with_sub-explaining.ensures _ _ listing c.explain.ensures in
    let judging = c.with_sub-judging.ensures _ _ explaining c.judge.ensures in
    let capturing = c.with_sub-capturing.ensures _ _ judging c.forward.ensures in
    let recorded = c.with_sub-recorded.ensures _ _ capturing c.recording.ensures in
    let encoding = c.with_sub-encoding.ensures _ _ recorded c.encode.ensures in
    let linting = c.with_sub-linting.ensures _ _ encoding c.lint.ensures in
    let drawing = c.with_sub-drawing.ensures _ _ linting c.graph.ensures in
    let covering = c.with_sub-covering.ensures _ _ drawing c.cover.ensures in
    let comparing = c.with_sub-comparing.ensures _ _ covering c.diff.ensures in
    let watching = c.with_sub-watching.ensures _ _ comparing c.hitless.ensures in
    let expecting = c.with_sub-expecting.ensures _ _ watching c.expect.ensures in
    c.with_sub.ensures _ _ expecting c.migrate.ensures
