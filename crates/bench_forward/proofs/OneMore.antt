-- What comes of one frame more.
use Rattle.std.proofs.Common.{◌≡◌, ℕ, ◌+◌, Bool, true, false, List, [], ◌∷◌, ◌++◌, length, take, refl, sym, ap, ◌∙◌, arith, inl, inr, append_assoc, length-take}
use Rattle.std.specs.Prelude.{count_by, if◌then◌else◌}
use Rattle.std.proofs.lemmas.Bool.{cases_lt}
use Rattle.std.proofs.lemmas.List.{append-nil, map-append, take_all, take-append-le}
use Rattle.std.proofs.lemmas.List.Sums.{sum_by-append}
use Rattle.mib_state.specs.Entities.{Entities}
use Rattle.frame_meaning.specs.declared.reason.Reason.{Reason}
use Rattle.frame_meaning.specs.declared.verdict.Verdict.{Verdict}
use Rattle.frame_meaning.specs.declared.verdict.Verdict.TheVariants.{Forward, Drop}
use Rattle.frame_stats.specs.Figures.{Figure, Frames, figure, is_drop_for}
use Rattle.frame_stats.specs.Tallies.{weight}
use Rattle.frame_stats.proofs.FigureSums.{figure-append, figure_is_sum}
use Rattle.bench_capture.specs.Recorded.{Recorded}
use Rattle.bench_forward.specs.Entries.{entry_number}
use Rattle.bench_forward.specs.Drops.{dropped_by, drops_header}
use Rattle.bench_forward.specs.Frames.{AreTotalsOf, drops_from, drops_of, is_cut, leaving, leaving_from, left_by, lines_from, lines_of, packets_of, verdict_on, verdicts_on}
use Rattle.bench_forward.specs.Blocks.{section_block}
use Rattle.bench_forward.specs.Lines.{verdict_line}
use Rattle.bench_forward.specs.Packets.{Leaving, blocks_from, blocks_of, gems_behind, packet_file, with_interface}
use Rattle.bench_forward.specs.Totals.{CountsOneMore, first_dropped, first_with, leaves, numbers_from}
use Rattle.bench_forward.specs.declared.totals.Totals.{Totals}

-- ---- packets

pub gems-append : (gems : List ℕ) (xs ys : List Leaving) → gems_behind gems (xs ++ ys) ≡ gems_behind (gems_behind gems xs) ys
gems-append gems [] ys = refl
gems-append gems (x ∷ xs) ys = gems-append (with_interface gems x.gem) xs ys

blocks-append : (gems : List ℕ) (xs ys : List Leaving) → blocks_from gems (xs ++ ys) ≡ blocks_from gems xs ++ blocks_from (gems_behind gems xs) ys
blocks-append gems [] ys = refl
blocks-append gems (x ∷ xs) ys =
    ap (λ blocks. blocks_of gems x ++ blocks) (blocks-append (with_interface gems x.gem) xs ys)
    ∙ sym (append_assoc (blocks_of gems x) (blocks_from (with_interface gems x.gem) xs) (blocks_from (gems_behind (with_interface gems x.gem) xs) ys))

leaving-append : (n : ℕ) (e : Entities) (port : ℕ) (xs ys : List Recorded) → leaving_from n e port (xs ++ ys) ≡ leaving_from n e port xs ++ leaving_from (n + length xs) e port ys
leaving-append n e port [] ys = ap (λ (k : ℕ). leaving_from k e port ys) (let same : n ≡ n + 0 = omega arith in same)
leaving-append n e port (x ∷ xs) ys =
    let one = left_by n x.time (verdict_on e port x) in
    let at : n + 1 + length xs ≡ n + length (x ∷ xs) = omega arith in
    ap (λ frames. one ++ frames) (leaving-append (n + 1) e port xs ys) ∙ sym (append_assoc one (leaving_from (n + 1) e port xs) (leaving_from (n + 1 + length xs) e port ys))
    ∙ ap (λ (k : ℕ). one ++ leaving_from (n + 1) e port xs ++ leaving_from k e port ys) at

module _ (e : Entities) (port : ℕ) (seen : List Recorded) (frame : Recorded) (n : ℕ) (at : n ≡ length seen + 1) where
  leaving_more : leaving e port (seen ++ frame ∷ []) ≡ leaving e port seen ++ left_by n frame.time (verdict_on e port frame)
  leaving_more =
      let same : 1 + length seen ≡ n = omega (arith, at) in
      leaving-append 1 e port seen (frame ∷ []) ∙ ap (λ (k : ℕ). leaving e port seen ++ leaving_from k e port (frame ∷ [])) same
      ∙ ap (λ one. leaving e port seen ++ one) (append-nil (left_by n frame.time (verdict_on e port frame)))

  pub packets_more : packets_of e port (seen ++ frame ∷ []) ≡ packets_of e port seen ++ blocks_from (gems_behind [] (leaving e port seen)) (left_by n frame.time (verdict_on e port frame))
  unfolding packets_of packet_file
  packets_more =
      let front = ap (λ frames. packet_file frames) leaving_more in
      let parts = blocks-append [] (leaving e port seen) (left_by n frame.time (verdict_on e port frame)) in
      front ∙ ap (λ blocks. section_block ++ blocks) parts ∙ sym (append_assoc section_block (blocks_from [] (leaving e port seen)) _)

  pub gems_more : gems_behind [] (leaving e port (seen ++ frame ∷ [])) ≡ gems_behind (gems_behind [] (leaving e port seen)) (left_by n frame.time (verdict_on e port frame))
  gems_more = ap (gems_behind []) leaving_more ∙ gems-append [] (leaving e port seen) (left_by n frame.time (verdict_on e port frame))

-- ---- the frames that are dropped

drops-append : (n : ℕ) (e : Entities) (port : ℕ) (xs ys : List Recorded) → drops_from n e port (xs ++ ys) ≡ drops_from n e port xs ++ drops_from (n + length xs) e port ys
drops-append n e port [] ys = ap (λ (k : ℕ). drops_from k e port ys) (let same : n ≡ n + 0 = omega arith in same)
drops-append n e port (x ∷ xs) ys =
    let one = dropped_by n x (verdict_on e port x) in
    let at : n + 1 + length xs ≡ n + length (x ∷ xs) = omega arith in
    ap (λ drops. one ++ drops) (drops-append (n + 1) e port xs ys) ∙ sym (append_assoc one (drops_from (n + 1) e port xs) (drops_from (n + 1 + length xs) e port ys))
    ∙ ap (λ (k : ℕ). one ++ drops_from (n + 1) e port xs ++ drops_from k e port ys) at

pub drops_more : (e : Entities) (port : ℕ) (seen : List Recorded) (frame : Recorded) (n : ℕ) → n ≡ length seen + 1
    → drops_of e port (seen ++ frame ∷ []) ≡ drops_of e port seen ++ dropped_by n frame (verdict_on e port frame)
unfolding drops_of
drops_more e port seen frame n at =
    let same : 1 + length seen ≡ n = omega (arith, at) in
    let one = dropped_by n frame (verdict_on e port frame) in
    let parts : drops_from 1 e port (seen ++ frame ∷ []) ≡ drops_from 1 e port seen ++ one =
    drops-append 1 e port seen (frame ∷ []) ∙ ap (λ (k : ℕ). drops_from 1 e port seen ++ drops_from k e port (frame ∷ [])) same
    ∙ ap (λ drops. drops_from 1 e port seen ++ drops) (append-nil one) in
    ap (λ drops. drops_header port ++ drops) parts ∙ sym (append_assoc (drops_header port) (drops_from 1 e port seen) one)

-- ---- lines

lines-append : (n : ℕ) (e : Entities) (port : ℕ) (xs ys : List Recorded) → lines_from n e port (xs ++ ys) ≡ lines_from n e port xs ++ lines_from (n + length xs) e port ys
lines-append n e port [] ys = ap (λ (k : ℕ). lines_from k e port ys) (let same : n ≡ n + 0 = omega arith in same)
lines-append n e port (x ∷ xs) ys =
    let line = verdict_line n (verdict_on e port x) (entry_number e port x.bytes) in
    let at : n + 1 + length xs ≡ n + length (x ∷ xs) = omega arith in
    ap (λ lines. line ++ lines) (lines-append (n + 1) e port xs ys) ∙ sym (append_assoc line (lines_from (n + 1) e port xs) (lines_from (n + 1 + length xs) e port ys))
    ∙ ap (λ (k : ℕ). line ++ lines_from (n + 1) e port xs ++ lines_from k e port ys) at

pub lines_more : (e : Entities) (port : ℕ) (seen : List Recorded) (frame : Recorded) (n : ℕ) → n ≡ length seen + 1
    → lines_of e port (seen ++ frame ∷ []) ≡ lines_of e port seen ++ verdict_line n (verdict_on e port frame) (entry_number e port frame.bytes)
lines_more e port seen frame n at =
    let same : 1 + length seen ≡ n = omega (arith, at) in
    lines-append 1 e port seen (frame ∷ []) ∙ ap (λ (k : ℕ). lines_of e port seen ++ lines_from k e port (frame ∷ [])) same
    ∙ ap (λ line. lines_of e port seen ++ line) (append-nil (verdict_line n (verdict_on e port frame) (entry_number e port frame.bytes)))

-- ---- totals

numbers-append : (n : ℕ) (test : Verdict → Bool) (xs ys : List Verdict) → numbers_from n test (xs ++ ys) ≡ numbers_from n test xs ++ numbers_from (n + length xs) test ys
numbers-append n test [] ys = ap (λ (k : ℕ). numbers_from k test ys) (let same : n ≡ n + 0 = omega arith in same)
numbers-append n test (x ∷ xs) ys =
    let at : n + 1 + length xs ≡ n + length (x ∷ xs) = omega arith in
    let more = numbers-append (n + 1) test xs ys ∙ ap (λ (k : ℕ). numbers_from (n + 1) test xs ++ numbers_from k test ys) at in
    elim (test x) as (λ b. test x ≡ b → numbers_from n test (x ∷ xs ++ ys) ≡ numbers_from n test (x ∷ xs) ++ numbers_from (n + length (x ∷ xs)) test ys) [
      | true ↦ λ here. rw here (ap (λ numbers. n ∷ numbers) more)
      | false ↦ λ other. rw other more
    ] refl

ten_of : (xs ys : List ℕ) → take 10 (take 10 xs ++ ys) ≡ take 10 (xs ++ ys)
ten_of xs ys = elim (cases_lt (length xs) 10) [
  | inl short ↦ ap (λ front. take 10 (front ++ ys)) (take_all 10 xs (omega (arith, short)))
  | inr long ↦
      let full : length (take 10 xs) ≡ 10 = omega (arith, length-take 10 xs, long) in
      take-append-le 10 (take 10 xs) ys (omega (arith, full)) ∙ take_all 10 (take 10 xs) (omega (arith, full)) ∙ sym (take-append-le 10 xs ys long)
]

first_more : (reason : Reason) (verdicts : List Verdict) (verdict : Verdict) (n : ℕ) → n ≡ length verdicts + 1
    → first_with reason (first_dropped reason verdicts) n verdict ≡ first_dropped reason (verdicts ++ verdict ∷ [])
first_more reason verdicts verdict n at =
    let test = is_drop_for reason in
    let numbers = numbers_from 1 test verdicts in
    let same : 1 + length verdicts ≡ n = omega (arith, at) in
    let all = numbers-append 1 test verdicts (verdict ∷ []) ∙ ap (λ (k : ℕ). numbers ++ numbers_from k test (verdict ∷ [])) same in
    elim (test verdict) as (λ b. test verdict ≡ b → first_with reason (first_dropped reason verdicts) n verdict ≡ first_dropped reason (verdicts ++ verdict ∷ [])) [
      | true ↦ λ here. rw here (ten_of numbers (n ∷ []) ∙ sym (ap (take 10) (rw here at all)))
      | false ↦ λ other. rw other (ap (take 10) (sym (append-nil numbers)) ∙ sym (ap (take 10) (rw other at all)))
    ] refl

count_more : {X : Type 0} (p : X → Bool) (xs : List X) (x : X) → count_by p (xs ++ x ∷ []) ≡ count_by p xs + (if p x then 1 else 0)
count_more {X = X} p xs x =
    let parts = sum_by-append {X = X} (λ y. if p y then 1 else 0) xs (x ∷ []) in
    omega (arith, parts)

pub figure_more : (f : Figure) (verdicts : List Verdict) (verdict : Verdict) → figure f verdicts + weight f verdict ≡ figure f (verdicts ++ verdict ∷ [])
figure_more f verdicts verdict =
    let parts = figure-append f verdicts (verdict ∷ []) in
    let one = figure_is_sum f (verdict ∷ []) in
    omega (arith, parts, one)

pub totals_more : (e : Entities) (port : ℕ) (seen : List Recorded) (frame : Recorded) (old new : Totals) → AreTotalsOf e port seen old
    → CountsOneMore old (verdict_on e port frame) (is_cut frame) new → AreTotalsOf e port (seen ++ frame ∷ []) new
totals_more e port seen frame old new are more =
    let verdict = verdict_on e port frame in
    let verdicts = verdicts_on e port seen in
    let all : verdicts_on e port (seen ++ frame ∷ []) ≡ verdicts ++ verdict ∷ [] = map-append (verdict_on e port) seen (frame ∷ []) in
    let frames : old.frames ≡ length verdicts = are.figures Frames in
    record {
      figures = λ f. more.figures f ∙ ap (λ (n : ℕ). n + weight f verdict) (are.figures f) ∙ figure_more f verdicts verdict ∙ ap (figure f) (sym all);
      forwarded = more.forwarded ∙ ap (λ (n : ℕ). n + (if leaves verdict then 1 else 0)) are.forwarded ∙ sym (count_more leaves verdicts verdict) ∙ ap (count_by leaves) (sym all);
      cut = more.cut ∙ ap (λ (n : ℕ). n + (if is_cut frame then 1 else 0)) are.cut ∙ sym (count_more is_cut seen frame);
      first = λ reason.
          more.first reason ∙ ap (λ first. first_with reason first (old.frames + 1) verdict) (are.first reason)
          ∙ first_more reason verdicts verdict (old.frames + 1) (omega (arith, frames)) ∙ ap (first_dropped reason) (sym all);
    }

-- each verdict is on one frame
pub one_frame : (verdict : Verdict) → weight Frames verdict ≡ 1
one_frame (Forward gem frame) = refl
one_frame (Drop reason) = refl
