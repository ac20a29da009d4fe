-- What a replay holds of its text after a read.
use Rattle.std.proofs.Common.{◌≡◌, ◌≢◌, ℕ, ◌+◌, ◌-◌, ◌<◌, ◌≤◌, List, [], ◌++◌, take, drop, length, slice_index, ap, sym, ◌∙◌, refl, arith, length-take, length-drop}
use Rattle.std.proofs.Math.Seq.{take-add}
use Rattle.std.proofs.lemmas.List.{drop-take, get_or-take}
use Rattle.mib_upload.specs.Upload.{DeskState}
use Rattle.script_lines.specs.Text.{cut}
use Rattle.script_lines.proofs.Cutting.{NoFeedBelow}
use Rattle.script_replay.specs.Answers.{answers_from}
use Rattle.script_replay.specs.Replay.{ended_script}

-- the bytes of the line that is begun, and those that were read
pub held : (begun count : ℕ) (text now : List ℕ) → take begun now ≡ take begun text → take (begun + count) now ≡ take begun text ++ take count (drop begun now)
held begun count text now kept = take-add begun count now ∙ ap (λ front. front ++ take count (drop begun now)) kept

-- the answers that are to be written
pub told : (e : DeskState) (held bytes old new out : List ℕ) → held ≡ bytes → old ≡ [] → new ≡ old ++ answers_from e (ended_script held) → out ≡ new → out ≡ answers_from e (ended_script bytes)
told e held bytes old new out is none put same = same ∙ put ∙ rw (none, is) refl

-- no line feed stands in the bytes of the line that is begun
pub held_no_feed : (begun count : ℕ) (text now : List ℕ) → take begun now ≡ take begun text → begun ≤ length text → NoFeedBelow (take begun text) (length (take begun text))
    → (k : ℕ) → k < begun → slice_index (take (begun + count) now) k ≢ 10
held_no_feed begun count text now kept within none k below is =
    let here : slice_index (take begun text) k ≡ 10 =
    ap (λ front. slice_index front k) (sym kept) ∙ get_or-take begun now k 0 below ∙ sym (get_or-take (begun + count) now k 0 (omega arith)) ∙ is in
    none k (omega (arith, length-take begun text)) here

-- what is moved to the front is the rest
pub moved : (start end : ℕ) (now front rest : List ℕ) → start ≤ end → front ≡ take (end - start) (drop start now) → drop start (take end now) ≡ rest → front ≡ rest
moved start end now front rest order is behind =
    let whole : start + (end - start) ≡ end = omega arith in
    is ∙ sym (drop-take start (end - start) now) ∙ ap (λ n. drop start (take n now)) whole ∙ behind

-- the rest is as long as what was held behind the last line
pub long_rest : (start begun count : ℕ) (now bytes : List ℕ) → take (begun + count) now ≡ bytes → drop start (take (begun + count) now) ≡ (cut (take (begun + count) now)).rest
    → begun + count ≤ length now → 20000 < begun + count - start → 20000 < length (cut bytes).rest
long_rest start begun count now bytes is behind within long =
    let same : length (drop start (take (begun + count) now)) ≡ length (cut bytes).rest = ap length behind ∙ ap (λ b. length (cut b).rest) is in
    omega (arith, same, length-drop start (take (begun + count) now), length-take (begun + count) now)
