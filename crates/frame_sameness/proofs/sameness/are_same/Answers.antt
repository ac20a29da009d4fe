use Rattle.std.proofs.Common.{◌≡◌, ◌<◌, ◌^◌, ◌==◌, ℕ, true, false, List, [], ◌∷◌, All, arith, ap, length, refl, map, subst, sym, ◌∙◌}
use Rattle.std.specs.Prelude.{IsTrue}
use Rattle.std.specs.List.{list_all}
use Rattle.std.proofs.lemmas.Bool.{eqb-true, true≢false}
use Rattle.std.proofs.lemmas.List.Folds.{list_all-map}
use Rattle.frame_rows.specs.declared.class.FrameClass.{FrameClass}
use Rattle.frame_rows.specs.declared.row.Row.{Row}
use Rattle.frame_rows.specs.declared.rows.Rows.{Rows}
use Rattle.frame_rows.specs.Fits.{row_fits}
use Rattle.frame_rows.specs.Rows.{Mean, rows_of}
use Rattle.frame_rows.specs.Sight.{AreSeen, IsSide, Side}
use Rattle.mib_state.specs.Entities.{Entities}
use Rattle.frame_classes.specs.declared.example.Difference.{Difference}
use Rattle.frame_classes.specs.Beside.{SideFits, SideMarks}
use Rattle.frame_classes.specs.Differences.{AreApartBy}
use Rattle.frame_classes.specs.Told.{side_by}
use Rattle.frame_sameness.specs.UseRows.{use_code, use_side}
use Rattle.frame_sameness.proofs.UseRows.{IsPlain, marks_uses, plain_rows}
use Rattle.frame_sameness.proofs.SameFrames.{alike_by, are_alike, differ_by, same_by, same_rows}
use Rattle.frame_sameness.proofs.sameness.are_same.Goals as goal

-- ---- what is asked of rows that are told apart by their uses

uses_fit : (rows uses : Rows) → side_by uses ≡ use_side (side_by rows)
    → ((input : ℕ) → All (λ (row : Row). IsTrue (row_fits input row)) rows.rows.items → All (λ (row : Row). IsTrue (row_fits input row)) uses.rows.items)
    → SideFits (side_by rows) → SideFits (side_by uses)
uses_fit rows uses is kept fit =
    subst (λ (input : ℕ). All (λ (row : Row). IsTrue (row_fits input row)) uses.rows.items) (sym (ap (λ (s : Side). s.settings.input_tpid) is))
    (kept rows.settings.input_tpid fit)

uses_mark : (rows uses : Rows) → side_by uses ≡ use_side (side_by rows) → SideMarks (side_by rows) → SideMarks (side_by uses)
uses_mark rows uses is marks = subst SideMarks (sym is) (marks_uses rows.settings rows.rows.items marks)

pub differences_by_rows-requires-2-clause-one_fits : goal.differences_by_rows-requires-2-clause-one_fits
differences_by_rows-requires-2-clause-one_fits c = uses_fit c.in_ok-rows.rows c.in_ok-uses.uses c.in_ok-uses.ensures.is c.in_ok-uses.ensures.fit c.in_ok-rows.ensures.fit

pub differences_by_rows-requires-2-clause-one_marks : goal.differences_by_rows-requires-2-clause-one_marks
differences_by_rows-requires-2-clause-one_marks c = uses_mark c.in_ok-rows.rows c.in_ok-uses.uses c.in_ok-uses.ensures.is c.in_ok-rows.ensures.marked

pub differences_by_rows-requires-2-clause-other_fits : goal.differences_by_rows-requires-2-clause-other_fits
differences_by_rows-requires-2-clause-other_fits c =
    uses_fit c.in_ok-next.next c.in_ok-next_uses.next_uses c.in_ok-next_uses.ensures.is c.in_ok-next_uses.ensures.fit c.in_ok-next.ensures.fit

pub differences_by_rows-requires-2-clause-other_marks : goal.differences_by_rows-requires-2-clause-other_marks
differences_by_rows-requires-2-clause-other_marks c =
    uses_mark c.in_ok-next.next c.in_ok-next_uses.next_uses c.in_ok-next_uses.ensures.is c.in_ok-next.ensures.marked

-- ---- what is answered

abbrev pair_of : Difference → (FrameClass × FrameClass) × List ℕ
pair_of d = ((d.before, d.after), d.frame.items)

some_of : (xs : List Difference) → (length xs == 0) ≡ false → 0 < length (map pair_of xs)
some_of [] h = absurd (true≢false h)
some_of (x ∷ xs) h = omega arith

none_of : (xs : List Difference) → (length xs == 0) ≡ true → xs ≡ []
none_of [] h = refl
none_of (x ∷ xs) h =
    let none : length (x ∷ xs) ≡ 0 = eqb-true (length (x ∷ xs)) 0 h in
    absurd (omega (arith, none))

side_is : (e : Entities) (port : ℕ) (rows : Rows) → Mean e port rows.endings rows.rows.items → AreSeen e port (side_by rows) → SideFits (side_by rows)
    → rows.settings.output_tpid < 2 ^ 16 → IsSide e port (side_by rows)
side_is e port rows mean seen fit output = record { seen = seen; mean = mean; fit = fit; output = output }

plain : (e : Entities) (port : ℕ) (rows : Rows) → rows.rows.items ≡ rows_of e port → All IsPlain (side_by rows).rows
plain e port rows is = subst (All IsPlain) (sym is) (plain_rows e port)

pub returns-then-not-are_none : goal.returns-then-not-are_none
returns-then-not-are_none c =
    let e = c.args.one.now.entities in
    let f = c.args.other.now.entities in
    let port = c.args.port in
    let one = c.in_ok-rows in
    let other = c.in_ok-next in (
      λ h. absurd (true≢false (sym h)),
      λ same.
          absurd (differ_by e f port c.args.least (side_by one.rows) (side_by other.next)
          (side_is e port one.rows one.ensures.mean one.ensures.seen one.ensures.fit one.ensures.output)
          (side_is f port other.next other.ensures.mean other.ensures.seen other.ensures.fit other.ensures.output)
          (plain e port one.rows one.ensures.rows) (plain f port other.next other.ensures.rows) (map pair_of c.in_ok-apart.apart.items) c.in_ok-apart.ensures
          (some_of c.in_ok-apart.apart.items (sym (c.are_none.ensures ∙ ap (λ (xs : List Difference). length xs == 0) c.deref.ensures.value) ∙ c.if-not-are_none.true)) same),
    )

pub returns : goal.returns
returns c =
    let e = c.args.one.now.entities in
    let f = c.args.other.now.entities in
    let port = c.args.port in
    let one = c.in_ok-rows in
    let other = c.in_ok-next in
    let is = side_is e port one.rows one.ensures.mean one.ensures.seen one.ensures.fit one.ensures.output in
    let is' = side_is f port other.next other.ensures.mean other.ensures.seen other.ensures.fit other.ensures.output in
    let p = plain e port one.rows one.ensures.rows in
    let p' = plain f port other.next other.ensures.rows in
    let pairs = map pair_of c.in_ok-pairs.pairs.items in
    let none = none_of c.in_ok-apart.apart.items (sym (c.are_none.ensures ∙ ap (λ (xs : List Difference). length xs == 0) c.deref.ensures.value) ∙ c.if-not-are_none.false) in
    let apart = subst (λ (xs : List Difference). AreApartBy (side_by one.rows) (side_by other.next) c.args.least (map pair_of xs)) none c.in_ok-apart.ensures in
    let uses : AreApartBy (use_side (side_by one.rows)) (use_side (side_by other.next)) c.args.least pairs =
    subst (λ (side : Side). AreApartBy side (use_side (side_by other.next)) c.args.least pairs) c.in_ok-uses.ensures.is
    (subst (λ (side : Side). AreApartBy (side_by c.in_ok-uses.uses) side c.args.least pairs) c.in_ok-next_uses.ensures.is c.in_ok-pairs.ensures) in
    let answer : c.are_used_alike.result ≡ list_all are_alike pairs =
    c.are_used_alike.ensures ∙ ap (λ (xs : List Difference). list_all (λ d. use_code d.before.used == use_code d.after.used) xs) c.deref-2.ensures.value
    ∙ sym (list_all-map are_alike pair_of c.in_ok-pairs.pairs.items) in (
      λ h. same_by e f port c.args.least (side_by one.rows) (side_by other.next) is is' p p' pairs apart uses (sym answer ∙ h),
      λ same. answer ∙ alike_by e f port c.args.least (side_by one.rows) (side_by other.next) is is' p p' pairs uses same,
    )

-- by the same rows
pub returns-then-are_rows_same : goal.returns-then-are_rows_same
returns-then-are_rows_same c =
    let e = c.args.one.now.entities in
    let f = c.args.other.now.entities in
    let port = c.args.port in
    let one = c.in_ok-rows in
    let other = c.in_ok-next in (
      λ h. same_rows e f port c.args.least (side_by one.rows) (side_by other.next)
          (side_is e port one.rows one.ensures.mean one.ensures.seen one.ensures.fit one.ensures.output)
          (side_is f port other.next other.ensures.mean other.ensures.seen other.ensures.fit other.ensures.output)
          (c.are_rows_same.ensures c.if-are_rows_same.true),
      λ same. refl,
    )
