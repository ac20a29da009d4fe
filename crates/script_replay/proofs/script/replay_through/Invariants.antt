use Rattle.std.proofs.Common.{◌≡◌, ◌*◌, ◌≤◌, ℕ, List, [], take, vec_len, vec_capacity}
use Rattle.std.specs.Io.KnownBytes.{Appends, Consumes}
use Rattle.mib_upload.specs.Upload.{start}
use Rattle.script_replay.specs.Answers.{answers_from}
use Rattle.script_replay.specs.Replay.{ended_script}
use Rattle.script_replay.specs.Room.{text_room}
use Rattle.script_replay.proofs.Replaying.{SoFar}
use Rattle.script_replay.proofs.script.replay_through.Given as goal

abbrev pub invariant-loop : goal.invariant-loop
invariant-loop g l = record {
  so_far : (read : List ℕ) × SoFar read l.onu (take l.begun l.text) l.lines l.total
      × Consumes (g.R.Read.remaining l.fn.reader) (g.R.Read.remaining l.reader) read
      × Appends (g.W.Write.contents l.fn.writer) (g.W.Write.contents l.writer) (answers_from start (ended_script read));
  begun : l.begun ≤ 20000;
  empty : vec_len l.answers ≡ 0;
  none : l.answers.items ≡ [];
  room : 3 * text_room ≤ vec_capacity l.answers;
  few : l.total ≤ text_room * l.counter;
  fewer : l.lines ≤ text_room * l.counter;
}
