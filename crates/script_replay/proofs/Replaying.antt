-- What a replay keeps from one read to the next.
use Rattle.std.proofs.Common.{◌≡◌, ℕ, ◌+◌, ◌<◌, true, List, [], ◌∷◌, ◌++◌, Option, Some, None, length, map, refl, sym, ap, ◌∙◌, arith, length-append}
use Rattle.std.specs.Prelude.{option_map, nat_lt}
use Rattle.std.proofs.lemmas.List.{append-nil, map-append, length-map}
use Rattle.std.proofs.lemmas.Bool.{lt-ltb}
use Rattle.mib_upload.specs.Upload.{DeskState, start}
use Rattle.script_lines.specs.Line.{Asked, asked_by, line_limit}
use Rattle.script_lines.specs.Text.{cut, last_line}
use Rattle.script_lines.proofs.Cutting.{NoFeedBelow, cut-append, rest_has_none}
use Rattle.script_replay.specs.Answers.{answers, answers_from, before_bad, state_from, script_of}
use Rattle.script_replay.specs.Replay.{ended_script}
use Rattle.script_replay.proofs.Turns.{before_bad-append, answers-append, state-append, before_bad-found, answers-found, ended_script-append, script_of-append, begins}

-- these bytes are read, their lines are answered and none is bad, and the rest begins a line
pub record SoFar (read : List ℕ) (e : DeskState) (rest : List ℕ) (lines total : ℕ) : Type 0 where
  pub good : before_bad (ended_script read) ≡ None
  pub state_is : e ≡ state_from start (ended_script read)
  pub rest_is : rest ≡ (cut read).rest
  pub lines_are : lines ≡ length (cut read).ended
  pub total_is : total ≡ length read

pub so_far_start : SoFar [] start [] 0 0
so_far_start = record { good = refl; state_is = refl; rest_is = refl; lines_are = refl; total_is = refl }

-- what begins with so many bytes and no line feed has a first line, which is bad
next_is_bad : (rest more : List ℕ) → 20000 < length rest → NoFeedBelow rest (length rest) → (later : List (Option Asked)) × (script_of (rest ++ more) ≡ None ∷ later)
unfolding asked_by
next_is_bad [] more long none = absurd (omega arith)
next_is_bad (b ∷ rest) more long none =
    let begun = begins b rest more none in
    let over : nat_lt line_limit (length begun.line) ≡ true = lt-ltb 20000 (length begun.line) (omega (arith, begun.long)) in
    (map asked_by begun.more, ap (map asked_by) begun.is ∙ rw over refl)

module _ (read : List ℕ) (e : DeskState) (rest : List ℕ) (lines total : ℕ) (now : SoFar read e rest lines total) where
  pub rest_no_feed : NoFeedBelow rest (length rest)
  rest_no_feed = rw now.rest_is (rest_has_none read)

  goes_on : (piece : List ℕ) → ended_script (read ++ piece) ≡ ended_script read ++ ended_script (rest ++ piece)
  goes_on piece = rw now.rest_is (ended_script-append read piece)

  -- the answers to what is read go on by those to the piece
  pub answers_more : (piece : List ℕ) → answers_from start (ended_script (read ++ piece)) ≡ answers_from start (ended_script read) ++ answers_from e (ended_script (rest ++ piece))
  answers_more piece = rw (goes_on piece, now.state_is) (answers-append start (ended_script read) (ended_script (rest ++ piece)) now.good)

  before_more : (piece : List ℕ) → before_bad (ended_script (read ++ piece)) ≡ option_map (λ n. lines + n) (before_bad (ended_script (rest ++ piece)))
  before_more piece =
      let count : lines ≡ length (ended_script read) = now.lines_are ∙ sym (length-map (cut read).ended asked_by) in
      rw (goes_on piece, count) (before_bad-append (ended_script read) (ended_script (rest ++ piece)) now.good)

  -- a piece without a bad line
  pub so_far_more : (piece : List ℕ) → before_bad (ended_script (rest ++ piece)) ≡ None
      → SoFar (read ++ piece) (state_from e (ended_script (rest ++ piece))) (cut (rest ++ piece)).rest (lines + length (cut (rest ++ piece)).ended) (total + length piece)
  so_far_more piece good = record {
    good = before_more piece ∙ rw good refl;
    state_is = rw (goes_on piece, now.state_is) (sym (state-append start (ended_script read) (ended_script (rest ++ piece)) now.good));
    rest_is = rw (now.rest_is, cut-append read piece) refl;
    lines_are = rw (now.rest_is, now.lines_are, cut-append read piece) (sym (length-append (cut read).ended _));
    total_is = rw now.total_is (sym (length-append read piece));
  }

  -- a piece with a bad line that ends, whatever follows
  pub bad_in_piece : (piece : List ℕ) (n : ℕ) → before_bad (ended_script (rest ++ piece)) ≡ Some n → (more : List ℕ)
      → record {
        first : before_bad (script_of (read ++ piece ++ more)) ≡ Some (lines + n);
        written : answers (read ++ piece ++ more) ≡ answers_from start (ended_script (read ++ piece));
      }
  bad_in_piece piece n bad more =
      let found : before_bad (ended_script (read ++ piece)) ≡ Some (lines + n) = before_more piece ∙ rw bad refl in
      record {
        first = rw (script_of-append (read ++ piece) more) (before_bad-found (ended_script (read ++ piece)) _ (lines + n) found);
        written = rw (script_of-append (read ++ piece) more) (answers-found start (ended_script (read ++ piece)) _ (lines + n) found);
      }

  -- a line that is begun and already too long
  pub bad_if_long : 20000 < length rest → (more : List ℕ)
      → record {
        first : before_bad (script_of (read ++ more)) ≡ Some lines;
        written : answers (read ++ more) ≡ answers_from start (ended_script read);
      }
  bad_if_long long more =
      let next = next_is_bad rest more long rest_no_feed in
      let count : length (ended_script read) ≡ lines = length-map (cut read).ended asked_by ∙ sym now.lines_are in
      let whole : script_of (read ++ more) ≡ ended_script read ++ None ∷ next.0 =
      script_of-append read more ∙ ap (λ lines. ended_script read ++ lines) (ap (λ r. script_of (r ++ more)) (sym now.rest_is) ∙ next.1) in
      record {
        first = rw whole (before_bad-append (ended_script read) (None ∷ next.0) now.good ∙ ap Some (omega (arith, count)));
        written = rw whole (answers-append start (ended_script read) (None ∷ next.0) now.good ∙ append-nil (answers_from start (ended_script read)));
      }

  -- the end of the text
  pub at_end : script_of read ≡ ended_script read ++ map asked_by (last_line rest)
  at_end = rw now.rest_is (map-append asked_by (cut read).ended (last_line (cut read).rest))

  pub answers_at_end : answers read ≡ answers_from start (ended_script read) ++ answers_from e (map asked_by (last_line rest))
  answers_at_end = rw (at_end, now.state_is) (answers-append start (ended_script read) (map asked_by (last_line rest)) now.good)

  pub before_at_end : before_bad (script_of read) ≡ option_map (λ n. lines + n) (before_bad (map asked_by (last_line rest)))
  before_at_end =
      let count : lines ≡ length (ended_script read) = now.lines_are ∙ sym (length-map (cut read).ended asked_by) in
      rw (at_end, count) (before_bad-append (ended_script read) (map asked_by (last_line rest)) now.good)

pub so_far_as : (read : List ℕ) (e now : DeskState) (rest held : List ℕ) (lines count total n : ℕ) → SoFar read e rest lines total → now ≡ e → held ≡ rest → count ≡ lines → n ≡ total → SoFar read now held count n
so_far_as read e now rest held lines count total n so_far a b c d = record {
  good = so_far.good;
  state_is = a ∙ so_far.state_is;
  rest_is = b ∙ so_far.rest_is;
  lines_are = c ∙ so_far.lines_are;
  total_is = d ∙ so_far.total_is;
}
