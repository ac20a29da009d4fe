use Rattle.std.proofs.Common.{◌∙◌, codes, sym}
use Rattle.clap.specs.Words.{found_of}
use Rattle.clap.proofs.WalkLemmas.{first_value-rows}
use Rattle.command_words.proofs.Given.{captured_missing, captured_unread, if_none, nothing_read, number_read, something_read, too_many, too_many_numbers}
use Rattle.command_words.proofs.reading.read_frame.Goals.{then-is_some-via-then-is_some, then-is_some-via-else-is_some+then-is_some-2}
use Rattle.command_words.proofs.reading.read_frame.Goals as goal

pub returns-then-is_some-clause-none : goal.returns-then-is_some-clause-none
returns-then-is_some-clause-none c = elim c.then-is_some.branch [
  | then-is_some-via-then-is_some w ↦
      let more = something_read _ c.get_str-in-Some.result (sym c.is_some.ensures ∙ w.if-is_some.true) in
      too_many (found_of c.args.given.now) c.in-Some.digits.now more.0 (sym c.in-Some.ensures) (sym c.get_str-in-Some.ensures ∙ more.1)
  | then-is_some-via-else-is_some+then-is_some-2 w ↦
      let more = something_read _ w.get_str-else-is_some.result (sym w.is_some-else-is_some.ensures ∙ w.if-is_some-2.true) in
      too_many_numbers (found_of c.args.given.now) c.in-Some.digits.now more.0 (sym c.in-Some.ensures) (sym w.get_str-else-is_some.ensures ∙ more.1)
]

pub returns-in-Some-clause-asked : goal.returns-in-Some-clause-asked
returns-in-Some-clause-asked c =
    let found = found_of c.args.given.now in (
      sym (first_value-rows found (codes "bytes")) ∙ sym c.in-Some.ensures,
      sym (first_value-rows found (codes "frames")) ∙ sym c.get_str-in-Some.ensures ∙ nothing_read _ c.get_str-in-Some.result (sym c.is_some.ensures ∙ c.if-is_some.false),
      sym (first_value-rows found (codes "frame")) ∙ sym c.get_str-else-is_some.ensures ∙ nothing_read _ c.get_str-else-is_some.result (sym c.is_some-else-is_some.ensures ∙ c.if-is_some-2.false),
    )

pub returns-in_err-get_str-clause-none : goal.returns-in_err-get_str-clause-none
returns-in_err-get_str-clause-none c =
    if_none c.from_residual.result (captured_missing (found_of c.args.given.now) (sym c.in_err-get_str.ensures) (sym c.in_default.ensures))

pub returns-in_err-get_one-clause-none : goal.returns-in_err-get_one-clause-none
returns-in_err-get_one-clause-none c =
    if_none c.from_residual-in_err-get_one.result (captured_unread (found_of c.args.given.now) c.in_err-get_one.ensures.value (sym c.in_default.ensures))

pub returns-clause-asked : goal.returns-clause-asked
returns-clause-asked c =
    let found = found_of c.args.given.now in (
      sym (first_value-rows found (codes "bytes")) ∙ sym c.in_default.ensures,
      sym (first_value-rows found (codes "frames")) ∙ sym c.in_ok-get_str.ensures,
      number_read 32 found (codes "frame") _ c.in_ok-get_one.ensures.none c.in_ok-get_one.ensures.value,
    )
