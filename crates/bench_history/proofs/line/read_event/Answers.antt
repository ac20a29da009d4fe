use Rattle.std.proofs.Common.{◌≡◌, ◌≤◌, ℕ, List, length, refl, ap, sym, ◌∙◌}
use Rattle.std.proofs.lemmas.Bool.{le-ltb}
use Rattle.script_lines.specs.Line.{line_limit, without_cr}
use Rattle.bench_history.specs.Line.{content_told, event_of}
use Rattle.bench_history.proofs.line.read_event.Goals as goal

short_line : (line : List ℕ) → length line ≤ line_limit → event_of line ≡ content_told (without_cr line)
unfolding event_of
short_line line short = rw (le-ltb line_limit (length line) short) refl

pub returns : goal.returns
returns c =
    c.read_content.ensures ∙ ap content_told c.without_cr.ensures.content
    ∙ sym (short_line c.args.line.now c.if-line-gt-LINE_LIMIT.false)
