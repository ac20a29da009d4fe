use Rattle.std.proofs.Common.{◌+◌, ◌-◌, ◌*◌, ◌≤◌, length, vec_len, vec_capacity}
use Rattle.script_replay.proofs.Answering.{IsAnswering}
use Rattle.script_replay.proofs.lines.answer_lines.Given as goal

abbrev pub invariant-loop-offset : goal.invariant-loop-offset
invariant-loop-offset l = record {
  answering : IsAnswering l.fn.onu l.fn.answers.items l.piece l.onu l.answers.items l.lines l.start l.from;
  room : vec_len l.answers + 3 * (length l.piece - l.start) ≤ vec_capacity l.answers;
  capacity : vec_capacity l.fn.answers ≤ vec_capacity l.answers;
}

-- what no line end was looked for in
abbrev pub decreases-loop-offset : goal.decreases-loop-offset
decreases-loop-offset l = length l.piece - l.from
