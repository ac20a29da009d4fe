-- How the answers to a text go on, and what a replay keeps from one read to the next.
use Rattle.std.proofs.Common.{◌≡◌, ℕ, zero, suc, ◌+◌, ◌≤◌, List, [], ◌∷◌, ◌++◌, Option, Some, None, length, refl, sym, ap, ◌∙◌, arith, append_assoc}
use Rattle.std.specs.Prelude.{option_map}
use Rattle.std.proofs.lemmas.List.{map-append}
use Rattle.std.proofs.lemmas.Bool.{ne_eqb}
use Rattle.mib_upload.specs.Upload.{DeskState}
use Rattle.script_lines.specs.Line.{Asked, asked_by}
use Rattle.script_lines.specs.Text.{cut, in_front, last_line, lines_of}
use Rattle.script_lines.proofs.Cutting.{NoFeedBelow, cut-append}
use Rattle.script_replay.specs.Answers.{answer, answers_from, before_bad, state_from, script_of}
use Rattle.script_replay.specs.Replay.{ended_script}

-- ---- lines that go on, behind lines of which none is bad

tail_good : (o : Option ℕ) → option_map suc o ≡ None → o ≡ None
tail_good None h = refl
tail_good (Some n) h = absurd (cc)

tail_found : (o : Option ℕ) (n : ℕ) → option_map suc o ≡ Some n → (m : ℕ) × (o ≡ Some m) × (suc m ≡ n)
tail_found None n h = absurd (cc)
tail_found (Some m) n h = (m, refl, cc)

none_before : (o : Option ℕ) → o ≡ option_map (λ n. 0 + n) o
none_before None = refl
none_before (Some n) = ap Some (omega arith)

one_before : (count : ℕ) (o : Option ℕ) → option_map suc (option_map (λ n. count + n) o) ≡ option_map (λ n. suc count + n) o
one_before count None = refl
one_before count (Some n) = ap Some (omega arith)

pub before_bad-append : (lines more : List (Option Asked)) → before_bad lines ≡ None → before_bad (lines ++ more) ≡ option_map (λ n. length lines + n) (before_bad more)
before_bad-append [] more good = none_before (before_bad more)
before_bad-append (None ∷ lines) more good = absurd (cc)
before_bad-append (Some asked ∷ lines) more good =
    ap (option_map suc) (before_bad-append lines more (tail_good (before_bad lines) good)) ∙ one_before (length lines) (before_bad more)

pub answers-append : (e : DeskState) (lines more : List (Option Asked)) → before_bad lines ≡ None → answers_from e (lines ++ more) ≡ answers_from e lines ++ answers_from (state_from e lines) more
answers-append e [] more good = refl
answers-append e (None ∷ lines) more good = absurd (cc)
answers-append e (Some asked ∷ lines) more good =
    ap (λ rest. (answer e asked).0 ++ rest) (answers-append (answer e asked).1 lines more (tail_good (before_bad lines) good))
    ∙ sym (append_assoc (answer e asked).0 (answers_from (answer e asked).1 lines) _)

pub state-append : (e : DeskState) (lines more : List (Option Asked)) → before_bad lines ≡ None → state_from e (lines ++ more) ≡ state_from (state_from e lines) more
state-append e [] more good = refl
state-append e (None ∷ lines) more good = absurd (cc)
state-append e (Some asked ∷ lines) more good = state-append (answer e asked).1 lines more (tail_good (before_bad lines) good)

-- ---- and behind a bad one

pub before_bad-found : (lines more : List (Option Asked)) (n : ℕ) → before_bad lines ≡ Some n → before_bad (lines ++ more) ≡ Some n
before_bad-found [] more n bad = absurd (cc)
before_bad-found (None ∷ lines) more n bad = bad
before_bad-found (Some asked ∷ lines) more n bad =
    let tail = tail_found (before_bad lines) n bad in
    ap (option_map suc) (before_bad-found lines more tail.0 tail.1) ∙ ap Some tail.2

pub answers-found : (e : DeskState) (lines more : List (Option Asked)) (n : ℕ) → before_bad lines ≡ Some n → answers_from e (lines ++ more) ≡ answers_from e lines
answers-found e [] more n bad = absurd (cc)
answers-found e (None ∷ lines) more n bad = refl
answers-found e (Some asked ∷ lines) more n bad =
    let tail = tail_found (before_bad lines) n bad in
    ap (λ rest. (answer e asked).0 ++ rest) (answers-found (answer e asked).1 lines more tail.0 tail.1)

-- ---- the lines of a text that goes on

pub ended_script-append : (text more : List ℕ) → ended_script (text ++ more) ≡ ended_script text ++ ended_script ((cut text).rest ++ more)
ended_script-append text more = rw (cut-append text more) (map-append asked_by (cut text).ended (cut ((cut text).rest ++ more)).ended)

pub lines_of-append : (text more : List ℕ) → lines_of (text ++ more) ≡ (cut text).ended ++ lines_of ((cut text).rest ++ more)
lines_of-append text more = rw (cut-append text more) (append_assoc (cut text).ended (cut ((cut text).rest ++ more)).ended _)

pub script_of-append : (text more : List ℕ) → script_of (text ++ more) ≡ ended_script text ++ script_of ((cut text).rest ++ more)
script_of-append text more = rw (lines_of-append text more) (map-append asked_by (cut text).ended (lines_of ((cut text).rest ++ more)))

-- ---- a line that is begun

-- the first line, and that what is begun is a front of it
pub record Begins (length_begun : ℕ) (lines : List (List ℕ)) : Type 0 where
  pub line : List ℕ
  pub more : List (List ℕ)
  pub is : lines ≡ line ∷ more
  pub long : length_begun ≤ length line

begins_in_front : (n b : ℕ) (ended : List (List ℕ)) (rest : List ℕ) → Begins n (ended ++ last_line rest)
    → (let c = in_front b ended rest in Begins (suc n) (c.ended ++ last_line c.rest))
begins_in_front n b [] [] begun = absurd (let is = begun.is in cc)
begins_in_front n b [] (r ∷ rest) begun = record {
  line = b ∷ r ∷ rest;
  more = [];
  is = refl;
  long = let same : begun.line ≡ r ∷ rest = (let is = begun.is in cc) in omega (arith, begun.long, ap length same);
}
begins_in_front n b (line ∷ ended) rest begun = record {
  line = b ∷ line;
  more = ended ++ last_line rest;
  is = refl;
  long = let same : begun.line ≡ line = (let is = begun.is in cc) in omega (arith, begun.long, ap length same);
}

begins_at_byte : (b : ℕ) (ended : List (List ℕ)) (rest : List ℕ) → (let c = in_front b ended rest in Begins 1 (c.ended ++ last_line c.rest))
begins_at_byte b [] rest = record { line = b ∷ rest; more = []; is = refl; long = omega arith }
begins_at_byte b (line ∷ ended) rest = record { line = b ∷ line; more = ended ++ last_line rest; is = refl; long = omega arith }

pub begins : (b : ℕ) (begun more : List ℕ) → NoFeedBelow (b ∷ begun) (suc (length begun)) → Begins (suc (length begun)) (lines_of (b ∷ begun ++ more))
begins b [] more none = rw (ne_eqb b 10 (none zero (omega arith))) (begins_at_byte b (cut more).ended (cut more).rest)
begins b (c ∷ begun) more none =
    let later = begins c begun more (λ k below. none (suc k) (omega arith)) in
    rw (ne_eqb b 10 (none zero (omega arith))) (begins_in_front (suc (length begun)) b (cut (c ∷ begun ++ more)).ended (cut (c ∷ begun ++ more)).rest later)
