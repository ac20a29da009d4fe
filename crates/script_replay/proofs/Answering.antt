-- What the loop over the lines of a piece keeps.
use Rattle.std.proofs.Common.{◌≡◌, ◌≢◌, ℕ, suc, ◌+◌, ◌-◌, ◌<◌, ◌≤◌, true, false, List, ◌∷◌, ◌++◌, Option, Some, None, length, take, drop, map, refl, sym, ap, ◌∙◌, arith, slice_index, append_assoc, length-drop, inl, inr}
use Rattle.std.specs.Prelude.{option_map, is_none}
use Rattle.std.proofs.lemmas.List.{append-nil, drop-drop, get_or-drop}
use Rattle.std.proofs.lemmas.Bool.{eqb-true, eq-eqb, cases_lt}
use Rattle.memchr.specs.Find.{IsFirstByte, is_byte}
use Rattle.mib_upload.specs.Upload.{DeskState}
use Rattle.script_lines.specs.Line.{Asked, asked_by}
use Rattle.script_lines.specs.Text.{cut}
use Rattle.script_lines.proofs.Cutting.{NoFeedBelow, cut-first, cut-none}
use Rattle.script_replay.specs.Answers.{answer, answers_from, before_bad, state_from, line_answer}

-- what the lines that end in a text ask for
abbrev pub asked_in : List ℕ → List (Option Asked)
asked_in text = map asked_by (cut text).ended

-- the lines so far are answered, the next one begins at start, and no line ends from there up to from
pub record IsAnswering (begun : DeskState) (old piece : List ℕ) (e : DeskState) (items : List ℕ) (lines start from : ℕ) : Type 0 where
  pub bad : option_map (λ n. lines + n) (before_bad (asked_in (drop start piece))) ≡ before_bad (asked_in piece)
  pub count : lines + length (cut (drop start piece)).ended ≡ length (cut piece).ended
  pub rest : (cut (drop start piece)).rest ≡ (cut piece).rest
  pub items_are : items ++ answers_from e (asked_in (drop start piece)) ≡ old ++ answers_from begun (asked_in piece)
  pub state_is : state_from e (asked_in (drop start piece)) ≡ state_from begun (asked_in piece)
  pub few : lines ≤ start
  pub in_order : start ≤ from
  pub within : from ≤ length piece
  pub none : (k : ℕ) → start ≤ k → k < from → slice_index piece k ≢ 10

none_before : (o : Option ℕ) → option_map (λ n. 0 + n) o ≡ o
none_before None = refl
none_before (Some n) = ap Some (omega arith)

-- at the start
pub answering_start : (e : DeskState) (old piece : List ℕ) (searched : ℕ) → searched ≤ length piece → NoFeedBelow piece searched → IsAnswering e old piece e old 0 0 searched
answering_start e old piece searched within none = record {
  bad = none_before (before_bad (asked_in piece));
  count = omega arith;
  rest = refl;
  items_are = refl;
  state_is = refl;
  few = omega arith;
  in_order = omega arith;
  within = within;
  none = λ k le below. none k below;
}

one_more : (lines : ℕ) (o : Option ℕ) → option_map (λ n. lines + n) (option_map suc o) ≡ option_map (λ n. lines + 1 + n) o
one_more lines None = refl
one_more lines (Some n) = ap Some (omega arith)

module _ (begun : DeskState) (old piece : List ℕ) (e : DeskState) (items : List ℕ) (lines start from : ℕ) (now : IsAnswering begun old piece e items lines start from) where
  -- where the next line ends
  pub line_end : (offset : ℕ) → IsFirstByte (is_byte 10) (drop from piece) (Some offset) → from + offset < length piece
  line_end offset found = omega (arith, found.0.high, length-drop from piece, now.within)

  none_there : (offset : ℕ) → IsFirstByte (is_byte 10) (drop from piece) (Some offset) → NoFeedBelow (drop start piece) (from + offset - start)
  none_there offset found k below is =
      let here : slice_index piece (start + k) ≡ 10 = sym (get_or-drop start piece k 0) ∙ is in
      elim (cases_lt (start + k) from) [
        | inl before ↦ now.none (start + k) (omega arith) before here
        | inr after ↦
            let place : from + (start + k - from) ≡ start + k = omega arith in
            let there : slice_index (drop from piece) (start + k - from) ≡ 10 = get_or-drop from piece (start + k - from) 0 ∙ rw place here in
            found.0.before (start + k - from) (omega arith) (omega arith) (eq-eqb _ 10 there)
      ]

  cut_there : (offset : ℕ) → IsFirstByte (is_byte 10) (drop from piece) (Some offset)
      → cut (drop start piece) ≡ (let after = cut (drop (from + offset + 1) piece) in record { ended = take (from + offset - start) (drop start piece) ∷ after.ended; rest = after.rest })
  cut_there offset found =
      let place : start + (from + offset - start) ≡ from + offset = omega (arith, now.in_order) in
      let feed : slice_index (drop start piece) (from + offset - start) ≡ 10 =
      get_or-drop start piece (from + offset - start) 0 ∙ rw place (sym (get_or-drop from piece offset 0) ∙ eqb-true _ 10 found.1) in
      let behind : drop (suc (from + offset - start)) (drop start piece) ≡ drop (from + offset + 1) piece =
      drop-drop (suc (from + offset - start)) start piece ∙ ap (λ n. drop n piece) (let same : start + suc (from + offset - start) ≡ from + offset + 1 = omega (arith, now.in_order) in same) in
      rw (cut-first (drop start piece) (from + offset - start) (omega (arith, length-drop start piece, line_end offset found, now.in_order)) feed (none_there offset found), behind) refl

  none_left : IsFirstByte (is_byte 10) (drop from piece) None → NoFeedBelow (drop start piece) (length (drop start piece))
  none_left found k below is =
      let here : slice_index piece (start + k) ≡ 10 = sym (get_or-drop start piece k 0) ∙ is in
      elim (cases_lt (start + k) from) [
        | inl before ↦ now.none (start + k) (omega arith) before here
        | inr after ↦
            let place : from + (start + k - from) ≡ start + k = omega arith in
            let there : slice_index (drop from piece) (start + k - from) ≡ 10 = get_or-drop from piece (start + k - from) 0 ∙ rw place here in
            found (start + k - from) (omega arith) (omega (arith, length-drop start piece, length-drop from piece)) (eq-eqb _ 10 there)
      ]

  -- a line that isn't bad
  answering_next : (offset : ℕ) (asked : Asked) → IsFirstByte (is_byte 10) (drop from piece) (Some offset)
      → asked_by (take (from + offset - start) (drop start piece)) ≡ Some asked
      → IsAnswering begun old piece (answer e asked).1 (items ++ (answer e asked).0) (lines + 1) (from + offset + 1) (from + offset + 1)
  answering_next offset asked found is =
      let there = cut_there offset found in
      record {
        bad = sym (one_more lines _) ∙ rw (there, is) at now.bad;
        count = omega (arith, rw there at now.count);
        rest = rw there at now.rest;
        items_are = append_assoc items (answer e asked).0 _ ∙ rw (there, is) at now.items_are;
        state_is = rw (there, is) at now.state_is;
        few = omega (arith, now.few, now.in_order);
        in_order = omega arith;
        within = omega (arith, line_end offset found);
        none = λ k low below. absurd (omega arith);
      }

  pub answering_line : (offset : ℕ) (asked : Option Asked) → IsFirstByte (is_byte 10) (drop from piece) (Some offset)
      → asked_by (take (from + offset - start) (drop start piece)) ≡ asked → is_none asked ≡ false
      → IsAnswering begun old piece (line_answer e asked).1 (items ++ (line_answer e asked).0) (lines + 1) (from + offset + 1) (from + offset + 1)
  answering_line offset None found is some = absurd (cc)
  answering_line offset (Some asked) found is some = answering_next offset asked found is

  -- a bad line
  pub answering_bad : (offset : ℕ) (asked : Option Asked) → IsFirstByte (is_byte 10) (drop from piece) (Some offset)
      → asked_by (take (from + offset - start) (drop start piece)) ≡ asked → is_none asked ≡ true
      → record {
        bad : before_bad (asked_in piece) ≡ Some lines;
        items_are : items ++ (line_answer e asked).0 ≡ old ++ answers_from begun (asked_in piece);
        state_is : (line_answer e asked).1 ≡ state_from begun (asked_in piece);
      }
  answering_bad offset (Some asked) found is none = absurd (cc)
  answering_bad offset None found is none =
      let there = cut_there offset found in
      record {
        bad = sym (rw (there, is) at now.bad) ∙ ap Some (omega arith);
        items_are = rw (there, is) at now.items_are;
        state_is = rw (there, is) at now.state_is;
      }

  -- no line ends any more
  pub answering_end : IsFirstByte (is_byte 10) (drop from piece) None
      → record {
        bad : before_bad (asked_in piece) ≡ None;
        count : lines ≡ length (cut piece).ended;
        rest : drop start piece ≡ (cut piece).rest;
        items_are : items ≡ old ++ answers_from begun (asked_in piece);
        state_is : e ≡ state_from begun (asked_in piece);
      }
  answering_end found =
      let there = cut-none (drop start piece) (none_left found) in
      record {
        bad = sym (rw there at now.bad);
        count = omega (arith, rw there at now.count);
        rest = rw there at now.rest;
        items_are = sym (append-nil items) ∙ rw there at now.items_are;
        state_is = rw there at now.state_is;
      }
