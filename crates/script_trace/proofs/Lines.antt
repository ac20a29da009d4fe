-- The lines of a script that are read behind so many.
use Rattle.std.proofs.Common.{◌≡◌, ◌∙◌, ◌+◌, ◌-◌, ◌<◌, ℕ, suc, true, false, List, [], ◌∷◌, Option, Some, None, refl, ap, sym, arith}
use Rattle.std.specs.Prelude.{take}
use Rattle.std.proofs.lemmas.Bool.{ltb-true, ltb-false}
use Rattle.script_lines.specs.Line.{asked_by}
use Rattle.script_lines.specs.Text.{lines_of}
use Rattle.script_trace.specs.Script.{IsBadLine, IsGood, IsWhyNotApplied, Told, after_line, after_lines, bad_among, first_bad, goes_on, nothing_told, read_until}
use Rattle.script_trace.specs.Trace.{may_stand}
use Rattle.script_trace.specs.declared.line.FrameLines.TheVariants.{Passed}
use Rattle.script_trace.specs.declared.fault.ScriptFault.{ScriptFault}
use Rattle.script_trace.specs.declared.fault.ScriptFault.TheVariants.{BadLine, NoMemory}

-- the last line that is read, where so many are read already
abbrev pub left_until : ℕ → Option ℕ → Option ℕ
left_until n None = None
left_until n (Some last) = Some (last - n)

-- what the lines behind so many leave
abbrev pub told_behind : ℕ → Option ℕ → List (List ℕ) → Told → Told
told_behind n until lines told = after_lines n (read_until (left_until n until) lines) told

-- the number of the first bad line among them
abbrev pub bad_behind : ℕ → Option ℕ → List (List ℕ) → Option ℕ
bad_behind n until lines = bad_among n (read_until (left_until n until) lines)

-- ---- at the start

all_left : (until : Option ℕ) → left_until 0 until ≡ until
all_left None = refl
all_left (Some last) = ap Some (omega arith)

pub told_first : (until : Option ℕ) (script : List ℕ) (told : Told) → told ≡ nothing_told
    → after_lines 0 (read_until until (lines_of script)) nothing_told ≡ told_behind 0 until (lines_of script) told
told_first until script told is =
    ap (λ u. after_lines 0 (read_until u (lines_of script)) nothing_told) (sym (all_left until))
    ∙ ap (λ t. told_behind 0 until (lines_of script) t) (sym is)

pub bad_first : (until : Option ℕ) (script : List ℕ) → bad_among 0 (read_until until (lines_of script)) ≡ bad_behind 0 until (lines_of script)
bad_first until script = ap (λ u. bad_among 0 (read_until u (lines_of script))) (sym (all_left until))

-- ---- one line

-- the lines that are left begin with it
read_one : (n : ℕ) (until : Option ℕ) (line : List ℕ) (rest : List (List ℕ)) → goes_on n until ≡ true
    → read_until (left_until n until) (line ∷ rest) ≡ line ∷ read_until (left_until (n + 1) until) rest
read_one n None line rest on = refl
read_one n (Some last) line rest on =
    let under : n < last = ltb-true n last on in
    let more : last - n ≡ suc (last - (n + 1)) = omega (arith, under) in
    ap (λ k. take k (line ∷ rest)) more

pub told_one : (n : ℕ) (until : Option ℕ) (line : List ℕ) (rest : List (List ℕ)) (told : Told) → goes_on n until ≡ true
    → told_behind n until (line ∷ rest) told ≡ told_behind (n + 1) until rest (after_line (n + 1) (asked_by line) told)
told_one n until line rest told on = ap (λ l. after_lines n l told) (read_one n until line rest on)

good_first : (n : ℕ) (line : List ℕ) (rest : List (List ℕ)) → may_stand Passed (asked_by line) ≡ true → bad_among n (line ∷ rest) ≡ bad_among (n + 1) rest
good_first n line rest good = rw good refl

bad_at_once : (n : ℕ) (line : List ℕ) (rest : List (List ℕ)) → may_stand Passed (asked_by line) ≡ false → bad_among n (line ∷ rest) ≡ Some (n + 1)
bad_at_once n line rest none = rw none refl

pub bad_later : (n : ℕ) (until : Option ℕ) (line : List ℕ) (rest : List (List ℕ)) → goes_on n until ≡ true → IsGood (asked_by line)
    → bad_behind n until (line ∷ rest) ≡ bad_behind (n + 1) until rest
bad_later n until line rest on good =
    ap (bad_among n) (read_one n until line rest on) ∙ good_first n line (read_until (left_until (n + 1) until) rest) good

pub bad_here : (n : ℕ) (until : Option ℕ) (line : List ℕ) (rest : List (List ℕ)) → goes_on n until ≡ true → may_stand Passed (asked_by line) ≡ false
    → bad_behind n until (line ∷ rest) ≡ Some (n + 1)
bad_here n until line rest on none =
    ap (bad_among n) (read_one n until line rest on) ∙ bad_at_once n line (read_until (left_until (n + 1) until) rest) none

pub why : (n : ℕ) (until : Option ℕ) (script line : List ℕ) (rest : List (List ℕ)) (fault : ScriptFault) → goes_on n until ≡ true
    → first_bad until script ≡ bad_behind n until (line ∷ rest) → IsBadLine (n + 1) (asked_by line) fault → IsWhyNotApplied until script fault
why n until script line rest (BadLine m) on so_far bad = so_far ∙ bad_here n until line rest on bad.1 ∙ ap Some (sym bad.0)
why n until script line rest NoMemory on so_far bad = tt

-- ---- at the end

none_left : (n : ℕ) (until : Option ℕ) (lines : List (List ℕ)) → goes_on n until ≡ false → read_until (left_until n until) lines ≡ []
none_left n None lines on = absurd (cc on)
none_left n (Some last) lines on =
    let over = ltb-false n last on in
    let none : last - n ≡ 0 = omega (arith, over) in
    ap (λ k. take k lines) none

pub told_last : (n : ℕ) (until : Option ℕ) (lines : List (List ℕ)) (told : Told) → goes_on n until ≡ false → told_behind n until lines told ≡ told
told_last n until lines told on = ap (λ l. after_lines n l told) (none_left n until lines on)

pub bad_last : (n : ℕ) (until : Option ℕ) (lines : List (List ℕ)) → goes_on n until ≡ false → bad_behind n until lines ≡ None
bad_last n until lines on = ap (bad_among n) (none_left n until lines on)
